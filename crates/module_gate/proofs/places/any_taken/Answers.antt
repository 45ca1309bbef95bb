use Rattle.std.proofs.Common.{rules, ◌≡◌, ◌+◌, ◌-◌, ◌∙◌, sym, ap, arith, ℕ, true, false}
use Rattle.std.specs.List.{list_any}
use Rattle.sv_types.specs.ApprovedPages.{numbers_from}
use Rattle.spec_reference.specs.Protections.{is_taken}
use Rattle.module_gate.proofs.GoodPlaces.{one_more, picked_stays}
use Rattle.module_gate.proofs.places.any_taken.Goals as goal

pub returns-then-is_taken : goal.returns-then-is_taken
returns-then-is_taken c =
    let guard = c.args.guard.now.pages in
    let here : is_taken guard (c.args.span.first + c.tested.i) ≡ true = search rules in
    let more = c.args.span.count - (c.tested.i + 1) in
    let all : c.tested.i + 1 + more ≡ c.args.span.count = omega (arith, c.tested-test.true) in
    sym (ap (λ (n : ℕ). list_any (is_taken guard) (numbers_from c.args.span.first n)) (sym all)
    ∙ picked_stays (is_taken guard) c.args.span.first (c.tested.i + 1) more (one_more (is_taken guard) c.args.span.first c.tested.i true c.tested.invariant here))

pub tested-preserved : goal.tested-preserved
tested-preserved c =
    let guard = c.args.guard.now.pages in
    let here : is_taken guard (c.args.span.first + c.tested.i) ≡ false = search rules in
    one_more (is_taken guard) c.args.span.first c.tested.i false c.tested.invariant here
