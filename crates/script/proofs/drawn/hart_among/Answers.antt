use Rattle.std.proofs.Common.{ℕ, ◌∙◌, ap, bit_and}
use Rattle.script.proofs.HartNumbers.{rest_among}
use Rattle.script.proofs.drawn.hart_among.Goals as goal

pub returns-then-harts-last-eq0 : goal.returns-then-harts-last-eq0
returns-then-harts-last-eq0 c =
    ap (λ (n : ℕ). bit_and c.args.number n) c.from.ensures
    ∙ rest_among c.args.harts c.args.number c.requires.harts.some c.requires.harts.few c.if-harts-last-eq0.true
