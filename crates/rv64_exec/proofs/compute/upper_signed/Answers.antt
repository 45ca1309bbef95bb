use Rattle.std.proofs.Common.{ap, ℕ, ◌/◌, ◌^◌, rules, FitsSigned, w64}
use Rattle.spec_processor.specs.Effects as table
use Rattle.rv64_exec.proofs.WordLemmas.{wide_product}
use Rattle.rv64_exec.proofs.compute.upper_signed.Goals as goal

pub returns : goal.returns
returns c =
    let fits : FitsSigned w64 (table.signed_word c.args.a) = search rules in
    let fits_too : FitsSigned w64 (table.signed_word c.args.b) = search rules in
    let wide = wide_product (table.signed_word c.args.a) (table.signed_word c.args.b) fits fits_too in
    rw (c.cast_unsigned.ensures, c.from.ensures, c.from-2.ensures, c.cast_signed.ensures, c.cast_signed-2.ensures) (ap (λ (n : ℕ). n / 2 ^ 64) wide)
