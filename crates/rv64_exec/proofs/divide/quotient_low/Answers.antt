use Rattle.std.proofs.Common.{◌≡◌, ap, ◌∙◌, rules, FitsSigned, w32, false}
use Rattle.std.specs.Prelude.{◌==◌}
use Rattle.std.proofs.lemmas.Bool.{ne_eqb}
use Rattle.spec_processor.specs.Effects as table
use Rattle.rv64_exec.proofs.WordLemmas.{low_quotient}
use Rattle.rv64_exec.proofs.divide.quotient_low.Goals as goal

pub returns-else-low_word-eq0 : goal.returns-else-low_word-eq0
returns-else-low_word-eq0 c =
    let fits : FitsSigned w32 (table.signed_low c.args.a) = search rules in
    let fits_too : FitsSigned w32 (table.signed_low c.args.b) = search rules in
    let low = low_quotient (table.signed_low c.args.a) (table.signed_low c.args.b) fits fits_too in
    let some : (table.low_word c.args.b == 0) ≡ false = ne_eqb (table.low_word c.args.b) 0 (λ e. c.if-low_word-eq0.false (c.low_word.ensures ∙ e)) in
    rw (c.sign_extended.ensures, c.wrapping_div.ensures, c.signed_low.ensures, c.signed_low-else-low_word-eq0.ensures, some) (ap table.machine_word low)
