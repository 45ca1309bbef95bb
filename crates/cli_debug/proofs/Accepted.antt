-- No line of an order is refused.
use Rattle.std.proofs.Common.{◌≡◌, refl, None}
use Rattle.cli_trials.specs.Orders.{IsAccepted}
use Rattle.cli_trials.specs.declared.order.OwnOrder.{OwnOrder}
use Rattle.cli_trials.specs.declared.order.OwnOrder.TheVariants.{Rounds, Auto, Bursts, Text}
use Rattle.cli_debug.specs.Accepting.{refused_in}

pub none_refused : (order : OwnOrder) → IsAccepted order → refused_in order ≡ None
none_refused Rounds it = refl
none_refused (Auto number) it = refl
none_refused (Bursts number) it = refl
none_refused (Text text) it = it

pub is_accepted : (order : OwnOrder) → refused_in order ≡ None → IsAccepted order
is_accepted Rounds none = tt
is_accepted (Auto number) none = tt
is_accepted (Bursts number) none = tt
is_accepted (Text text) none = none
