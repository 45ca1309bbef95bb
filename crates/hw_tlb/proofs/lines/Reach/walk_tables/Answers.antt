use Rattle.std.proofs.Common.{◌≡◌, ◌∙◌, ℕ, ap, refl, rules, subst, sym}
use Rattle.std.specs.Prelude.{None}
use Rattle.hw_tlb.specs.Kept.{EndsAt, LeadsNowhere}
use Rattle.hw_tlb.proofs.Holding.{kept_agrees}
use Rattle.hw_tlb.proofs.Stages.{leaf_led, led_on, line_agrees, nowhere_led}
use Rattle.hw_tlb.proofs.lines.Reach.walk_tables.Goals as goal

pub returns-in_err-read-clause-value : goal.returns-in_err-read-clause-value
returns-in_err-read-clause-value c =
    let none : c.from_residual.result ≡ None = search rules in
    none ∙ sym (nowhere_led c.args.mem.now c.args.regime.now c.args.access c.args.va c.requires.paged
    (subst (λ (n : ℕ). LeadsNowhere c.args.mem.now c.args.regime.now.hgatp n c.args.va) c.root_table-root.ensures.value (c.read_entries.ensures.nowhere c.in_err-read.was)))

pub returns-in_err-gpa-clause-value : goal.returns-in_err-gpa-clause-value
returns-in_err-gpa-clause-value c =
    let none : c.from_residual-in_err-gpa.result ≡ None = search rules in
    let read = c.in_ok-read.read in
    none ∙ sym (leaf_led c.args.mem.now c.args.regime.now c.args.access c.args.va read.below read.last.0 read.entries c.leaf_gpa.result c.requires.paged
    (subst (λ (n : ℕ). EndsAt c.args.mem.now.tables c.args.regime.now.hgatp n c.args.va read.entries read.below read.last.0) c.root_table-root.ensures.value c.in_ok-read.ensures.ends)
    c.in_ok-read.ensures.there c.leaf_gpa.ensures
    ∙ ap (led_on c.args.mem.now c.args.regime.now.hgatp c.args.access) c.in_err-gpa.was)

pub returns-in_err-hpa-clause-value : goal.returns-in_err-hpa-clause-value
returns-in_err-hpa-clause-value c =
    let none : c.from_residual-in_err-hpa.result ≡ None = search rules in
    let read = c.in_ok-read.read in
    none ∙ sym (leaf_led c.args.mem.now c.args.regime.now c.args.access c.args.va read.below read.last.0 read.entries c.leaf_gpa.result c.requires.paged
    (subst (λ (n : ℕ). EndsAt c.args.mem.now.tables c.args.regime.now.hgatp n c.args.va read.entries read.below read.last.0) c.root_table-root.ensures.value c.in_ok-read.ensures.ends)
    c.in_ok-read.ensures.there c.leaf_gpa.ensures
    ∙ ap (led_on c.args.mem.now c.args.regime.now.hgatp c.args.access) c.in_ok-gpa.was
    ∙ sym c.lead.ensures.value ∙ c.in_err-hpa.was)

pub returns-clause-value : goal.returns-clause-value
returns-clause-value c =
    let read = c.in_ok-read.read in
    sym (leaf_led c.args.mem.now c.args.regime.now c.args.access c.args.va read.below read.last.0 read.entries c.leaf_gpa.result c.requires.paged
    (subst (λ (n : ℕ). EndsAt c.args.mem.now.tables c.args.regime.now.hgatp n c.args.va read.entries read.below read.last.0) c.root_table-root.ensures.value c.in_ok-read.ensures.ends)
    c.in_ok-read.ensures.there c.leaf_gpa.ensures
    ∙ ap (led_on c.args.mem.now c.args.regime.now.hgatp c.args.access) c.in_ok-gpa.was
    ∙ sym c.lead.ensures.value ∙ c.in_ok-hpa.was)

pub returns-clause-agrees : goal.returns-clause-agrees
returns-clause-agrees c =
    let read = c.in_ok-read.read in
    let ends = subst (λ (n : ℕ). EndsAt c.args.mem.now.tables c.args.regime.now.hgatp n c.args.va read.entries read.below read.last.0) c.root_table-root.ensures.value c.in_ok-read.ensures.ends in
    let leads = leaf_led c.args.mem.now c.args.regime.now c.args.access c.args.va read.below read.last.0 read.entries c.leaf_gpa.result c.requires.paged ends
    c.in_ok-read.ensures.there c.leaf_gpa.ensures
    ∙ ap (led_on c.args.mem.now c.args.regime.now.hgatp c.args.access) c.in_ok-gpa.was
    ∙ sym c.lead.ensures.value ∙ c.in_ok-hpa.was in
    kept_agrees c.args.mem.now.tables c.args.self.now c.keep.new.self _ c.keep.ensures
    (line_agrees c.args.mem.now _ c.args.va c.in_ok-hpa.hpa read.below read.last.0 c.requires.may.apart c.requires.paged leads ends
    c.in_ok-read.ensures.there c.in_ok-read.ensures.places refl refl)
    c.requires.agrees
