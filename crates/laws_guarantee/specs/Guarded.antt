-- The guarantee in one record: what holds in each state that a run reaches, whatever event is next. This project's own.
use Rattle.std.specs.Prelude.{◌≡◌, ℕ, List}
use Rattle.spec_processor.specs.Traps.{trap_target}
use Rattle.sv_types.specs.Limits.{bound_format}
use Rattle.sv_types.specs.declared.event.Event.{Event}
use Rattle.spec_reference.specs.Run.{run, step}
use Rattle.spec_reference.specs.States.{State}
use Rattle.laws_simulation.specs.EntryLaws.{TrapsIn, AreNoTurnsOf, StandsAtEntry}
use Rattle.laws_guarantee.specs.Guarantee.{KernelWords, UsersLoadNothing, UserTurns, UserTraps, EntersRight, LeavesRight, KeepsPages}
use Rattle.laws_guarantee.specs.Guarantee.{StopsForThese, StopsAtTraps, StopsAtWrites}
use Rattle.laws_guarantee.specs.Reached.{IsReached}

-- a hart in user mode
pub record UsersAreGuarded (r : State) : Type 0 where
  pub free : UsersLoadNothing r
  pub turns : UserTurns r
  pub traps : UserTraps r

-- how a hart comes to kernel mode
pub record EntriesAreGuarded (r : State) : Type 0 where
  pub permitted : EntersRight r
  -- where entries are bound, whatever others do until its next turn
  pub bound : (between : List Event) (h : ℕ) → r.rules.format ≡ bound_format → (k : TrapsIn r h) → AreNoTurnsOf h between →
      StandsAtEntry (run (step r (Event.Turn h)) between) h (trap_target k.hart.supervisor.stvec k.interrupt k.cause)

-- where the machine stops
pub record StopsAreExact (r : State) : Type 0 where
  pub only : StopsForThese r
  pub traps : StopsAtTraps r
  pub writes : StopsAtWrites r

-- r is a state of a run from s
pub record IsGuarded (s r : State) : Type 0 where
  -- kernel mode carries out measured words alone;
  pub kernel_words : KernelWords s r
  -- user mode carries out words from pages that aren't approved alone, and traps as the table says;
  pub user_turns : UsersAreGuarded r
  -- kernel mode is entered at permitted entries alone,
  pub entries : EntriesAreGuarded r
  -- and left by SRET, by a demotion or by stopping alone;
  pub exits : LeavesRight r
  -- no byte of a protected page changes;
  pub protected_bytes : (e : Event) → KeepsPages r e
  -- and the machine stops exactly where a trap or a write breaks a rule
  pub stops : StopsAreExact r

abbrev pub GuardedLaw : Type 0
GuardedLaw = (s r : State) → IsReached s r → IsGuarded s r
