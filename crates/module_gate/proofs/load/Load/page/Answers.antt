use Rattle.std.proofs.Common.{rules, ◌≡◌, ℕ, ◌&&◌, ◌-◌, ◌*◌, ◌∙◌, sym, ap, subst, length, slice_get, [], ◌∷◌, ◌++◌}
use Rattle.spec_processor.specs.Bytes.{page_size}
use Rattle.std.specs.Prelude.{All, Some}
use Rattle.sv_types.specs.Measure.{page_digest}
use Rattle.sv_types.specs.Policies.{rules_of, module_rule}
use Rattle.spec_reference.specs.Loads.{module_bases}
use Rattle.spec_reference.specs.Relocations.{masked_text, fields_right}
use Rattle.spec_reference.specs.States.{pages_in_rule}
use Rattle.page_measure.specs.Pieces.{piece_sites, IsAligned}
use Rattle.module_gate.specs.Gates.{Progress, Records, hw_load, next_counted, with_digests}
use Rattle.module_gate.specs.InsideLoad.{progress_of}
use Rattle.module_gate.proofs.ModuleRules.{aligned_sites}
use Rattle.module_gate.proofs.PagesCounted.{counted_where}
use Rattle.module_gate.proofs.load.Load.page.Goals as goal

pub masked_digest-digest-requires-clause-aligned : goal.masked_digest-digest-requires-clause-aligned
masked_digest-digest-requires-clause-aligned c =
    let rule = module_rule c.in-Some.rule.now in
    let there : slice_get (rules_of c.args.policy.now).modules c.args.self.now.about.id ≡ Some rule = search rules in
    subst (All IsAligned) (sym c.as_slice-sites.ensures.value) (aligned_sites (rules_of c.args.policy.now) c.args.self.now.about.id rule c.requires.within there)

pub fields_right-right-requires-clause-aligned : goal.fields_right-right-requires-clause-aligned
fields_right-right-requires-clause-aligned c =
    let rule = module_rule c.in-Some.rule.now in
    let there : slice_get (rules_of c.args.policy.now).modules c.args.self.now.about.id ≡ Some rule = search rules in
    subst (All IsAligned) (sym c.as_slice-sites.ensures.value) (aligned_sites (rules_of c.args.policy.now) c.args.self.now.about.id rule c.requires.within there)

pub returns-clause-counted : goal.returns-clause-counted
returns-clause-counted c = λ hart.
    let law = rules_of c.args.policy.now in
    let rule = module_rule c.in-Some.rule.now in
    let digests = c.args.gate.now.digests in
    let inside = progress_of c.self.inside in
    let load = hw_load hart (with_digests digests inside) in
    let bytes = c.args.bytes.now in
    let n = c.self.inside.pages - c.self.inside.left in
    let there : slice_get law.modules c.args.self.now.about.id ≡ Some rule = search rules in
    let there_inside : slice_get law.modules c.self.inside.about.id ≡ Some rule = ap (λ (t : Progress). slice_get law.modules t.about.id) c.self.view_is ∙ there in
    let pages : rule.pages ≡ c.self.inside.pages = ap pages_in_rule (sym there) ∙ c.requires.policy ∙ ap (λ (t : Progress). t.pages) (sym c.self.view_is) in
    let number : n ≡ rule.pages - c.self.inside.left = ap (λ (k : ℕ). k - c.self.inside.left) (sym pages) in
    let digested : c.masked_digest-digest.result ≡ page_digest (masked_text bytes (piece_sites (page_size * n) page_size rule.sites)) = search rules in
    let judged : c.fields_right-right.result ≡ fields_right law.exports (module_bases c.self.inside.about) (piece_sites (page_size * n) (length bytes) rule.sites) bytes = search rules in
    let pushed : c.add_digest.new.self.digests ≡ digests ++ c.masked_digest-digest.result ∷ [] = ap (λ (g : Records). g.digests) c.add_digest.ensures in
    subst (λ (t : Progress). hw_load hart (with_digests c.add_digest.new.self.digests (record inside { left = c.self.inside.left - 1; right = c.self.inside.right && c.fields_right-right.result }))
    ≡ next_counted law bytes (hw_load hart (with_digests digests t)) (slice_get law.modules t.about.id))
    c.self.view_is
    (counted_where law rule load (slice_get law.modules c.self.inside.about.id) bytes n (length bytes) c.masked_digest-digest.result c.fields_right-right.result c.add_digest.new.self.digests
    there_inside number c.requires.page digested judged pushed)
