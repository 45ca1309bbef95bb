use Rattle.std.proofs.Common.{rules, ◌≡◌, ◌+◌, ◌∙◌, ap, arith, List, ℕ, slice_get, slice_set}
use Rattle.sv_types.specs.declared.protection.Protection.{Protection}
use Rattle.spec_reference.specs.Protections.{with_pages}
use Rattle.page_guard.proofs.Spans.{pages_are, pages_more}
use Rattle.page_guard.proofs.Stays.{stays_same, stays_further}
use Rattle.page_guard.proofs.guard.Guard.set_all.Goals as goal

pub changed-init : goal.changed-init
unfolding with_pages
changed-init c = (search rules, stays_same c.args.mem.now c.args.self.now c.requires.tables_match)

pub changed-preserved : goal.changed-preserved
changed-preserved c =
    let set = c.set.ensures.guard
    ∙ ap (λ (g : List Protection). slice_set g (c.args.span.first + c.changed.i) c.args.protection) c.changed.invariant.0
    ∙ pages_more c.args.self.now.pages c.args.span.first c.changed.i c.args.protection in
    (set, stays_further c.args.mem.now c.changed.mem c.set.new.mem c.args.self.now c.changed.self c.set.new.self c.changed.invariant.1 c.set.ensures.tables_match)

pub returns-clause-all : goal.returns-clause-all
returns-clause-all c =
    let all : c.changed.i ≡ c.args.span.count = omega arith in
    let span : c.changed.self.pages ≡ with_pages c.args.self.now.pages c.args.span.first c.args.span.count c.args.protection =
    c.changed.invariant.0 ∙ ap (λ (n : ℕ). with_pages c.args.self.now.pages c.args.span.first n c.args.protection) all in record {
      each = λ i below. ap (λ (g : List Protection). slice_get g (c.args.span.first + i)) span
          ∙ pages_are c.args.self.now.pages c.args.span.first c.args.span.count c.args.protection c.requires.inside i below;
    }
