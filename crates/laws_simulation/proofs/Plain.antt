-- What an exit asks for outside of an entry.
use Rattle.std.specs.Prelude.{ℕ}
use Rattle.spec_processor.specs.declared.exit.Exit.{Exit}
use Rattle.spec_reference.specs.States.{State, Hart}
use Rattle.spec_hardware.specs.Served.{seen_of, plain_answer, exit_answered}

unfoldable pub serve_plain : State → ℕ → Hart → Exit → State
serve_plain r h hart exit = exit_answered r h hart (plain_answer (seen_of r hart exit) exit)
