-- What the machine records: counts, notes, printed bytes and the verdict. This project's own.
use Rattle.std.specs.Prelude.{ℕ, ◌+◌, ◌%◌, ◌≤◌, [], ◌∷◌, ◌++◌, take}
use Rattle.spec_processor.specs.Counters.{CanCount}
use Rattle.sv_types.specs.declared.event.Counts.{Counts}
use Rattle.spec_processor.specs.declared.mode.Mode.{Mode}
use Rattle.spec_processor.specs.declared.mode.Mode.TheVariants.{Kernel, User}
use Rattle.sv_types.specs.Limits.{max_notes}
use Rattle.sv_types.specs.declared.event.Note.{Note}
use Rattle.sv_types.specs.declared.event.Rule.{Rule}
use Rattle.sv_types.specs.declared.event.Verdict.{Verdict}
use Rattle.sv_types.specs.declared.event.Verdict.TheVariants.{Stopped}
use Rattle.spec_reference.specs.States.{State, Journal, with_journal}

-- ---- counts, each raised by one

abbrev pub count_turn : Counts → Counts
count_turn c = record c { turns = c.turns + 1 }

abbrev pub count_beat : Counts → Counts
count_beat c = record c { beats = c.beats + 1 }

abbrev pub count_key : Counts → Counts
count_key c = record c { keys = c.keys + 1 }

abbrev pub count_tick : Counts → Counts
count_tick c = record c { ticks = c.ticks + 1 }

abbrev pub count_retired : Counts → Counts
count_retired c = record c { retired = c.retired + 1 }

-- a trap; from user mode it enters the kernel
abbrev pub count_trap : Mode → Counts → Counts
count_trap Kernel c = record c { traps = c.traps + 1 }
count_trap User c = record c { traps = c.traps + 1; enters = c.enters + 1 }

-- a return from a trap; one to user mode leaves the kernel
abbrev pub count_return : Mode → Counts → Counts
count_return Kernel c = record c { retired = c.retired + 1 }
count_return User c = record c { retired = c.retired + 1; leaves = c.leaves + 1 }

abbrev pub count_demote : Counts → Counts
count_demote c = record c { demotes = c.demotes + 1 }

abbrev pub count_denied : Counts → Counts
count_denied c = record c { denied = c.denied + 1 }

abbrev pub count_dropped : Counts → Counts
count_dropped c = record c { dropped = c.dropped + 1 }

abbrev pub count_load : Counts → Counts
count_load c = record c { loads = c.loads + 1 }

abbrev pub count_unload : Counts → Counts
count_unload c = record c { unloads = c.unloads + 1 }

abbrev pub count_refused : Counts → Counts
count_refused c = record c { refused = c.refused + 1 }

-- ---- how high the counts are

-- every count is at most n
pub record CountsAtMost (n : ℕ) (c : Counts) : Type 0 where
  pub turns : c.turns ≤ n
  pub beats : c.beats ≤ n
  pub keys : c.keys ≤ n
  pub ticks : c.ticks ≤ n
  pub retired : c.retired ≤ n
  pub traps : c.traps ≤ n
  pub enters : c.enters ≤ n
  pub leaves : c.leaves ≤ n
  pub demotes : c.demotes ≤ n
  pub denied : c.denied ≤ n
  pub dropped : c.dropped ≤ n
  pub loads : c.loads ≤ n
  pub unloads : c.unloads ≤ n
  pub refused : c.refused ≤ n
  pub notes : c.notes ≤ n

-- what happens within an event can be counted: all counts but those of the events are below the end of their type
pub record MayCount (c : Counts) : Type 0 where
  pub retired : CanCount c.retired
  pub traps : CanCount c.traps
  pub enters : CanCount c.enters
  pub leaves : CanCount c.leaves
  pub demotes : CanCount c.demotes
  pub denied : CanCount c.denied
  pub dropped : CanCount c.dropped
  pub loads : CanCount c.loads
  pub unloads : CanCount c.unloads
  pub refused : CanCount c.refused
  pub notes : CanCount c.notes

-- ---- the journal

abbrev pub with_count : (Counts → Counts) → Journal → Journal
with_count count j = record j { counts = count j.counts }

-- one more note, which is kept if it is one of the first
abbrev pub with_note : Note → Journal → Journal
with_note note j = record j { notes = take max_notes (j.notes ++ note ∷ []); counts = record j.counts { notes = j.counts.notes + 1 } }

-- the low byte of a value
abbrev pub printed_low : ℕ → Journal → Journal
printed_low value j = record j { printed = j.printed ++ (value % 256) ∷ [] }

abbrev pub machine_ended : Verdict → Journal → Journal
machine_ended verdict j = record j { verdict = verdict }

-- ---- the state with its journal changed

abbrev pub count : State → (Counts → Counts) → State
count r raise = with_journal r (with_count raise r.journal)

abbrev pub note : State → Note → State
note r line = with_journal r (with_note line r.journal)

-- a stop names the rule, the hart and the count of turns, and changes nothing else
abbrev pub stopped_by : State → ℕ → Rule → State
stopped_by r h rule = with_journal r (machine_ended (Stopped rule h r.journal.counts.turns) r.journal)
