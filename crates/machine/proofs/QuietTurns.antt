-- Turns after which nothing is to be seen to.
use Rattle.std.proofs.Common.{◌≡◌, ℕ, Bool, false, refl, subst, sym, slice_get, true}
use Rattle.std.specs.Prelude.{not}
use Rattle.sv_types.specs.declared.event.Event.TheVariants.{Turn}
use Rattle.sv_types.specs.declared.event.Verdict.{Verdict}
use Rattle.sv_types.specs.declared.event.Verdict.TheVariants.{Running, Shutdown, Stopped}
use Rattle.spec_reference.specs.Counting.{count_turn}
use Rattle.spec_hardware.specs.Machine.{Machine, with_count_raised}
use Rattle.spec_hardware.specs.Steps.{IsStep, StepsUnder}
use Rattle.hw_platform.specs.Attempts.{hart_in}
use Rattle.machine.specs.Repeats.{StaysUnloaded}
use Rattle.machine.proofs.Reservations.{stopped_turn}

-- by an event that changes nothing, or only counts
stays_same : (m : Machine) → StaysUnloaded m m
stays_same m = record { on = record { quiet = refl; running = λ running. running }; loading = λ none. none }

stays_counted : (m : Machine) → StaysUnloaded m (with_count_raised m count_turn)
stays_counted m = record { on = record { quiet = refl; running = λ running. running }; loading = λ none. none }

stays_under : (v : Verdict) (m after : Machine) (h : ℕ) → (hart_in m.harts h).started ≡ false → StepsUnder v m (Turn h) after → StaysUnloaded m after
stays_under Running m after h stopped turn =
    subst (λ (x : Machine). StaysUnloaded m x) (sym (stopped_turn m after h (slice_get m.harts h) refl stopped turn)) (stays_counted m)
stays_under Shutdown m after h stopped same = subst (λ (x : Machine). StaysUnloaded m x) (sym same) (stays_same m)
stays_under (Stopped rule hart at) m after h stopped same = subst (λ (x : Machine). StaysUnloaded m x) (sym same) (stays_same m)

-- a turn of a hart that is stopped
pub stopped_stays : (m after : Machine) (h : ℕ) → (hart_in m.harts h).started ≡ false → IsStep m (Turn h) after → StaysUnloaded m after
unfolding IsStep
stopped_stays m after h stopped turn = stays_under m.journal.verdict m after h stopped turn

pub on_stopped : (started : Bool) → not started ≡ true → started ≡ false
on_stopped false is = refl
on_stopped true is = absurd (cc is)
