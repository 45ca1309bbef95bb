-- What the parts of a script say.
use Rattle.std.specs.Prelude.{◌≡◌, List, [], replicate, Option, Some, None}
use Rattle.sv_types.specs.declared.event.Event.{Event}
use Rattle.sv_types.specs.Schedule.{Schedule, next_event, after_event}
use Rattle.script.specs.declared.repeated.Repeated.{Repeated}
use Rattle.script.specs.declared.repeated.Line.{Line}
use Rattle.script.specs.declared.repeated.Line.TheVariants.{NoForm, PassedOver, Says as SaidByLine}
use Rattle.script.specs.declared.said.Said.{Said}
use Rattle.script.specs.declared.said.Said.TheVariants.{This, Drawn}

-- what is said a number of times
abbrev pub said_of_repeated : Repeated → List Said
said_of_repeated r = replicate r.times r.said

-- what a line says that was read
abbrev pub said_of : Line → Option (List Said)
said_of NoForm = None
said_of PassedOver = Some []
said_of (SaidByLine r) = Some (said_of_repeated r)

-- the event that is said, which may be the next one of a schedule
abbrev pub Says : Said → (old : Schedule) → Event → (new : Schedule) → Type 0
Says (This event) old result new = (result ≡ event) × (new ≡ old)
Says Drawn old result new = (Some result ≡ next_event old) × (new ≡ after_event old)
