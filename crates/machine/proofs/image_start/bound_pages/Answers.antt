use Rattle.std.proofs.Common.{◌∙◌, ◌<◌, ◌^◌, ℕ, arith, sym, ap, subst}
use Rattle.spec_processor.specs.Bytes.{page_of}
use Rattle.sv_types.specs.Policies.{rules_of}
use Rattle.machine.proofs.BoundPages.{page_fits}
use Rattle.machine.proofs.image_start.bound_pages.Goals as goal

pub overflow_cast-page_of : goal.overflow_cast-page_of
overflow_cast-page_of c =
    let fits = page_fits (rules_of c.args.policy.now) c.entries.i c.index.result.now c.requires.within (omega (arith, c.entries-test.true, c.len-i-end.ensures)) in
    let small : c.page_of.result < 2 ^ 32 = subst (λ (n : ℕ). n < 2 ^ 32) (sym (c.page_of.ensures ∙ ap page_of c.index.ensures)) fits in
    omega (arith, small)
