use Rattle.std.proofs.Common.{rules, ◌≡◌, ◌+◌, ◌-◌, ◌∙◌, sym, ap, arith, ℕ, true, false, not, get_or}
use Rattle.std.specs.Prelude.{find}
use Rattle.sv_types.specs.ApprovedPages.{numbers_from}
use Rattle.sv_types.specs.Protections.{is_free}
use Rattle.page_guard.specs.Guarded.{first_taken}
use Rattle.page_guard.proofs.Spans.{taken_by, found_at, none_more}
use Rattle.spec_reference.specs.Protections.{is_taken}
use Rattle.page_guard.proofs.guard.Guard.all_free.Goals as goal

pub returns-then-not-is_free-clause-taken : goal.returns-then-not-is_free-clause-taken
unfolding first_taken
returns-then-not-is_free-clause-taken c =
    let page = c.args.span.first + c.tested.i in
    let more = c.args.span.count - (c.tested.i + 1) in
    let read : c.index.result.now ≡ get_or c.args.self.now.pages page c.index.result.now = search rules in
    let test : not (is_free c.index.result.now) ≡ true = search rules in
    let here : is_taken c.args.self.now.pages page ≡ true = taken_by c.args.self.now.pages page c.index.result.now (omega (arith, c.requires, c.tested-test.true)) read ∙ test in
    let all : c.tested.i + 1 + more ≡ c.args.span.count = omega (arith, c.tested-test.true) in
    ap (λ (n : ℕ). find (is_taken c.args.self.now.pages) (numbers_from c.args.span.first n)) (sym all)
    ∙ found_at (is_taken c.args.self.now.pages) c.args.span.first c.tested.i more c.tested.invariant here

pub tested-preserved : goal.tested-preserved
tested-preserved c =
    let page = c.args.span.first + c.tested.i in
    let read : c.index.result.now ≡ get_or c.args.self.now.pages page c.index.result.now = search rules in
    let test : not (is_free c.index.result.now) ≡ false = search rules in
    let here : is_taken c.args.self.now.pages page ≡ false = taken_by c.args.self.now.pages page c.index.result.now (omega (arith, c.requires, c.tested-test.true)) read ∙ test in
    none_more (is_taken c.args.self.now.pages) c.args.span.first c.tested.i c.tested.invariant here

pub returns-clause-free : goal.returns-clause-free
unfolding first_taken
returns-clause-free c =
    let all : c.tested.i ≡ c.args.span.count = omega arith in
    ap (λ (n : ℕ). find (is_taken c.args.self.now.pages) (numbers_from c.args.span.first n)) (sym all) ∙ c.tested.invariant
