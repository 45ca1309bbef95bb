use Rattle.std.proofs.Common.{◌≡◌, ℕ, List, length, ap, sym, ◌∙◌, arith}
use Rattle.sv_types.specs.Policies.{rules_of}
use Rattle.policy.proofs.BindingsBack.{bound_beside}
use Rattle.policy.proofs.printing.entries.Goals as goal

pub bound_entries-requires : goal.bound_entries-requires
bound_entries-requires c =
    let other : ¬ (c.args.policy.now.format ≡ 1) = omega (arith, c.if-policy-eq-PLAIN_FORMAT.false) in
    ap (λ (xs : List ℕ). length xs) c.as_slice-else-policy-eq-PLAIN_FORMAT-2.ensures.value
    ∙ bound_beside (rules_of c.args.policy.now) c.requires other
    ∙ sym (ap (λ (xs : List ℕ). length xs) c.as_slice-else-policy-eq-PLAIN_FORMAT.ensures.value)
