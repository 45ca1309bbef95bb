-- What contracts see of a halt.
use Rattle.debug_session.specs.Sessions.{Halt}
use Rattle.debug_session.specs.declared.replies.Halt.{Halt as Given}

abbrev pub halt_value : Given → Halt
halt_value h = record { stop = h.stop; hart = h.hart }
