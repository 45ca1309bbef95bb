-- One event, several times in a row. This project's own.
use Rattle.std.specs.Prelude.{◌≡◌, ℕ, zero, suc, ◌+◌, ◌-◌, ◌<◌, ◌≤◌, length, None}
use Rattle.sv_types.specs.Limits.{max_printed}
use Rattle.sv_types.specs.declared.event.Event.{Event}
use Rattle.sv_types.specs.declared.event.Verdict.TheVariants.{Running}
use Rattle.spec_reference.specs.Counting.{CountsAtMost}
use Rattle.spec_reference.specs.States.{State}
use Rattle.spec_reference.specs.Run.{step}
use Rattle.spec_hardware.specs.HardwareEvent.{IsEvent}
use Rattle.spec_hardware.specs.Machine.{Machine}
use Rattle.spec_hardware.specs.StandsFor.{StandsFor}
use Rattle.hw_fast_path.specs.declared.leaving.Leaving.{Leaving}
use Rattle.hw_fast_path.specs.declared.leaving.Leaving.TheVariants.{Stays}
use Rattle.machine.specs.Limits.{max_counts}

-- one event: the machine stands for the state after it, and changed no more than the event may
pub record Makes (m : Machine) (e : Event) (after : Machine) : Type 0 where
  pub stands : (r : State) → StandsFor m r → StandsFor after (step r e)
  pub event : IsEvent m e after

-- nothing more is printed
abbrev pub IsQuiet : Machine → Machine → Type 0
IsQuiet before after = length after.journal.printed ≡ length before.journal.printed

-- nothing more is printed, and a run that goes on hasn't ended
pub record GoesOn (before after : Machine) : Type 0 where
  pub quiet : IsQuiet before after
  pub running : before.journal.verdict ≡ Running → after.journal.verdict ≡ Running

-- so many in a row, of which the last one alone may print or end the run
abbrev pub Repeats : ℕ → Machine → Event → Machine → Type 0
Repeats zero m e after = after ≡ m
Repeats (suc n) m e after = (before : Machine) × (Repeats n m e before × (GoesOn m before × Makes before e after))

-- and where no load was under way none is
pub record StaysUnloaded (before after : Machine) : Type 0 where
  pub on : GoesOn before after
  pub loading : before.loading ≡ None → after.loading ≡ None

-- so many in a row, of which the last one alone may print, end the run or begin a load
abbrev pub Rows : ℕ → Machine → Event → Machine → Type 0
Rows zero m e after = after ≡ m
Rows (suc n) m e after = (before : Machine) × (Rows n m e before × (StaysUnloaded m before × Makes before e after))

-- so many events may be made: one of them may print, and each is counted
pub record MayMake (m : Machine) (n : ℕ) : Type 0 where
  pub asked : 0 < n
  pub few : n ≤ max_counts
  pub room : length m.journal.printed < max_printed
  pub counts : CountsAtMost (max_counts - n) m.journal.counts

-- an event was made so many times, at least once and at most as often as was asked, and is counted so often; the last time alone
-- may begin a load
pub record MadeRow (n asked : ℕ) (m : Machine) (e : Event) (after : Machine) : Type 0 where
  pub chain : Rows n m e after
  pub counts : (k : ℕ) → CountsAtMost k m.journal.counts → CountsAtMost (k + n) after.journal.counts
  pub some : 0 < n
  pub most : n ≤ asked

-- the same, but for loads
pub record Made (n asked : ℕ) (m : Machine) (e : Event) (after : Machine) : Type 0 where
  pub chain : Repeats n m e after
  pub counts : (k : ℕ) → CountsAtMost k m.journal.counts → CountsAtMost (k + n) after.journal.counts
  pub some : 0 < n
  pub most : n ≤ asked

-- turns of a row: so many at most, none of which prints. Where the hart stays in the guest, none ends the run or begins a load
pub record MadeInBatch (left : Leaving) (n asked : ℕ) (m : Machine) (e : Event) (after : Machine) : Type 0 where
  pub chain : Rows n m e after
  pub quiet : IsQuiet m after
  pub running : left ≡ Stays → m.journal.verdict ≡ Running → after.journal.verdict ≡ Running
  pub loading : left ≡ Stays → after.loading ≡ m.loading
  pub counts : (k : ℕ) → CountsAtMost k m.journal.counts → CountsAtMost (k + n) after.journal.counts
  pub most : n ≤ asked
