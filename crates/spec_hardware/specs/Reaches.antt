-- The machines that a list of events leads to, from one that has just started. This project's own.
use Rattle.std.specs.Prelude.{◌≡◌, ℕ, ◌+◌, ◌≤◌, List, [], ◌∷◌, length, drop}
use Rattle.sv_types.specs.declared.event.Event.{Event}
use Rattle.spec_reference.specs.States.{State}
use Rattle.spec_reference.specs.Run.{step}
use Rattle.spec_hardware.specs.Machine.{Machine}
use Rattle.spec_hardware.specs.StandsFor.{StandsFor}
use Rattle.spec_hardware.specs.HardwareEvent.{IsEvent}
use Rattle.spec_hardware.specs.Steps.{IsStep}

-- the first printed bytes are taken away, and counted
abbrev pub without_first_printed : Machine → ℕ → Machine
without_first_printed m n = record m { journal = record m.journal { printed = drop n m.journal.printed }; cleared = m.cleared + n }

-- so many printed bytes, or none, were taken away
pub record Cleared (before after : Machine) : Type 0 where
  pub taken : ℕ
  pub there : taken ≤ length before.journal.printed
  pub same : after ≡ without_first_printed before taken

-- a machine that has just started: no attempt was made, and no printed byte taken away
pub record IsNew (m : Machine) (start : State) : Type 0 where
  pub stands : StandsFor m start
  pub attempts : m.attempts ≡ 0
  pub cleared : m.cleared ≡ 0

-- one event of the machine, which stands for the state after the same event
pub record Reached (m : Machine) (r : State) (e : Event) (next : Machine) : Type 0 where
  pub ready : Machine
  pub printed : Cleared m ready
  pub event : IsEvent ready e next
  pub stands : StandsFor next (step r e)

abbrev pub ReachesFrom : Machine → State → List Event → Machine → Type 0
ReachesFrom m r [] after = Cleared m after
ReachesFrom m r (e ∷ events) after = (next : Machine) × (Reached m r e next × ReachesFrom next (step r e) events after)

-- by these events the machine comes to another, each on the way standing for the state after the events so far
pub record Reaches (m : Machine) (start : State) (events : List Event) (after : Machine) : Type 0 where
  pub new : IsNew m start
  pub chain : ReachesFrom m start events after

-- ---- what the code does, step by step

pub record Stepped (m : Machine) (e : Event) (next : Machine) : Type 0 where
  pub ready : Machine
  pub printed : Cleared m ready
  pub step : IsStep ready e next

abbrev pub StepsThrough : Machine → List Event → Machine → Type 0
StepsThrough m [] after = Cleared m after
StepsThrough m (e ∷ events) after = (next : Machine) × (Stepped m e next × StepsThrough next events after)
