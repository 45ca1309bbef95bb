use Rattle.std.proofs.Common.{◌≡◌, ℕ, List, IfOk, ◌∙◌, ap, subst}
use Rattle.sv_types.specs.Measure.{measure}
use Rattle.spec_reference.specs.Relocations.{masked_text}
use Rattle.policy_making.proofs.modules.masked_digest.Goals as goal

pub returns : goal.returns
returns g c =
    subst (λ (text : List ℕ). IfOk c.measure.result (λ digest. digest ≡ measure text)) (c.mask.ensures ∙ ap (masked_text c.args.text.now) c.requires.inside) c.measure.ensures
