-- What is said again and again.
use Rattle.std.proofs.Common.{◌≡◌, ℕ, zero, suc, List, ◌∷◌, map, replicate, refl, ap}
use Rattle.sv_types.specs.declared.event.Event.{Event}
use Rattle.script.specs.declared.said.Said.{Said}
use Rattle.script.specs.declared.said.Said.TheVariants.{This}

pub same_again : (times : ℕ) (event : Event) → replicate times (This event) ≡ map This (replicate times event)
same_again zero event = refl
same_again (suc times) event = ap (λ (said : List Said). This event ∷ said) (same_again times event)
