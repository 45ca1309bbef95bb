-- What an answer depends on, by the parts that it is read from, and the answer by the address of the entry that the hart is in.
-- This project's own.
use Rattle.std.specs.Prelude.{ℕ, List, Option, Some, None, if◌then◌else◌}
use Rattle.spec_processor.specs.declared.exit.Exit.{Exit}
use Rattle.spec_processor.specs.declared.mode.Mode.{Mode}
use Rattle.hart.specs.declared.hart.Hart.{Hart}
use Rattle.spec_reference.specs.States.{Binding}
use Rattle.spec_hardware.specs.Served.{Seen, transformed_effect, plain_answer, entry_answer, is_fetch_exit}
use Rattle.spec_hardware.specs.declared.exits.ExitAnswer.{ExitAnswer}

abbrev pub seen_on : (ram : List ℕ) → Hart → Mode → (entry : Option Binding) → Exit → Seen
seen_on ram hart mode entry exit = record {
  ram = ram;
  mode = mode;
  pc = hart.core.pc;
  entry = entry;
  effect = transformed_effect exit.htinst hart.core.regs hart.core.pc;
}

-- the answer, where the address of the entry is known
unfoldable pub answer_at : Seen → Exit → (va : Option ℕ) → ExitAnswer
answer_at seen exit None = plain_answer seen exit
answer_at seen exit (Some va) = if is_fetch_exit exit then entry_answer seen va exit else plain_answer seen exit
