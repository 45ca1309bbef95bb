-- A row of turns is as many events, one after another.
use Rattle.std.proofs.Common.{◌≡◌, ℕ, zero, suc, ◌+◌, List, length, refl, sym, ◌∙◌, ap, subst, arith}
use Rattle.spec_processor.specs.Hardware.{Core, Attempted}
use Rattle.spec_processor.specs.HardwareAttempt.{attempt}
use Rattle.spec_processor.specs.Regions.{Region}
use Rattle.spec_processor.specs.declared.outcome.Outcome.{Outcome}
use Rattle.sv_types.specs.declared.event.Event.TheVariants.{Turn}
use Rattle.sv_types.specs.declared.event.Verdict.{Verdict}
use Rattle.sv_types.specs.declared.event.Verdict.TheVariants.{Running}
use Rattle.spec_reference.specs.Counting.{with_count, count_turn, count_retired, CountsAtMost}
use Rattle.spec_reference.specs.Devices.{lines_at}
use Rattle.spec_reference.specs.Run.{step}
use Rattle.spec_reference.specs.States.{State, Journal}
use Rattle.spec_hardware.specs.HardwareEvent.{attempt_of, left_by}
use Rattle.spec_hardware.specs.Machine.{Machine, HwHart, with_count_raised, update, with_core, all_forget}
use Rattle.spec_hardware.specs.StandsFor.{StandsFor}
use Rattle.spec_hardware.specs.Steps.{IsStep, IsTurn, StepsUnder}
use Rattle.laws_simulation.specs.Laws.{IsQuiet as IsQuietOutcome}
use Rattle.hw_fast_path.specs.Batches.{IsRetired, Carries, RetiresThrough}
use Rattle.machine.proofs.Addressed.{step_addressed}
use Rattle.machine.proofs.Repeated.{step_counts}
use Rattle.machine.proofs.Stepped.{Bounded, step_bounded, step_happens, step_stands}
use Rattle.machine.proofs.Turns.{quiet_served, turn_served}
use Rattle.hw_platform.specs.Attempts.{hart_in}
use Rattle.machine.specs.Machines.{HaveAddresses}
use Rattle.machine.specs.Repeats.{IsQuiet, Rows}
use Rattle.machine.specs.Batches.{counted_batch, after_batch, MayBatch}
use Rattle.machine.specs.Turns.{Finished}
use Rattle.hw_platform.proofs.Batches.{there_updated, still_there, updated_twice, updated_same, still_free, forgets_nothing}
use Rattle.machine.proofs.EventsBatches.{batch_verdict, batch_printed}

-- ---- one turn more

finished : (o : Outcome) (m after : Machine) (h : ℕ) → IsRetired o → after ≡ record m { journal = with_count count_retired m.journal } → Finished o m h after
finished (Outcome.Retired wrote) m after h retired same = same
finished Outcome.GuestTrap m after h retired same = absurd retired
finished (Outcome.Exit exit) m after h retired same = absurd retired

is_quiet : (o : Outcome) → IsRetired o → IsQuietOutcome o
is_quiet (Outcome.Retired wrote) retired = tt
is_quiet Outcome.GuestTrap retired = absurd retired
is_quiet (Outcome.Exit exit) retired = absurd retired

built : (m : Machine) (region other : Region) (harts others : List HwHart) (j : Journal) (n k : ℕ) → region ≡ other → harts ≡ others → n ≡ k
    → record m { region = region; harts = harts; journal = j; attempts = n } ≡ record m { region = other; harts = others; journal = j; attempts = k }
built m region other harts others j n k e f g = rw (e, f, g) refl

module _ (m : Machine) (h n : ℕ) (mid : Region) (before : Core) (region : Region) (core : Core) (may : MayBatch m h)
    (carries : Carries (attempt mid before (lines_at m.devices h)) region core) where
  abbrev now : Machine
  now = after_batch m h n mid before

  abbrev hw : HwHart
  hw = hart_in now.harts h

  hw_is : hw ≡ with_core before (hart_in m.harts h)
  hw_is = there_updated m.harts h before may.below

  core_is : hw.core ≡ before
  core_is = ap (λ (x : HwHart). x.core) hw_is

  made : Attempted
  made = attempt_of (with_count_raised now count_turn) h hw

  made_is : made ≡ attempt mid before (lines_at m.devices h)
  unfolding made attempt
  made_is = ap (λ (c : Core). attempt mid c (lines_at m.devices h)) core_is

  harts_are : all_forget made.outcome (update now.harts h (with_core made.core)) ≡ update m.harts h (with_core core)
  harts_are =
      ap (λ (c : Core). all_forget made.outcome (update now.harts h (with_core c))) (ap (λ (a : Attempted). a.core) made_is ∙ sym carries.core)
      ∙ ap (all_forget made.outcome) (updated_twice m.harts h before core)
      ∙ forgets_nothing made.outcome (update m.harts h (with_core core)) (still_free m.harts h core carries.free may.free)

  left : after_batch m h (suc n) region core ≡ record (left_by (with_count_raised now count_turn) h hw) { journal = with_count count_retired (with_count_raised now count_turn).journal }
  unfolding attempt made
  left =
      built m region made.region (update m.harts h (with_core core)) (all_forget made.outcome (update now.harts h (with_core made.core)))
      (counted_batch (suc n) m.journal) (m.attempts + suc n) (m.attempts + n + 1)
      (carries.region ∙ sym (ap (λ (a : Attempted). a.region) made_is)) (sym harts_are) (omega arith)

  turned : IsTurn now h (after_batch m h (suc n) region core)
  unfolding attempt made
  turned =
      let retired : IsRetired made.outcome = subst (λ (a : Attempted). IsRetired a.outcome) (sym made_is) carries.retired in
      turn_served (with_count_raised now count_turn) (after_batch m h (suc n) region core) h
      (still_there m.harts h h before may.below)
      (ap (λ (x : HwHart). x.started) hw_is ∙ may.attempts.started)
      may.attempts.free
      (quiet_served (with_count_raised now count_turn) (after_batch m h (suc n) region core) h hw made.outcome refl (is_quiet made.outcome retired)
      (finished made.outcome (left_by (with_count_raised now count_turn) h hw) (after_batch m h (suc n) region core) h retired left))

  pub steps : IsStep now (Turn h) (after_batch m h (suc n) region core)
  unfolding IsStep
  steps = subst (λ (v : Verdict). StepsUnder v now (Turn h) (after_batch m h (suc n) region core)) (sym (batch_verdict n m.journal ∙ may.running)) turned

-- ---- the row

-- the machine after so many turns, with all that is known of it
pub record Rowed (n : ℕ) (m : Machine) (h : ℕ) (after : Machine) : Type 0 where
  pub chain : Rows n m (Turn h) after
  pub quiet : IsQuiet m after
  pub state : State
  pub stands : StandsFor after state
  pub addresses : HaveAddresses state.harts
  pub bounded : Bounded after
  pub counts : (k : ℕ) → CountsAtMost k m.journal.counts → CountsAtMost (k + n) after.journal.counts

no_turn : (m : Machine) (h : ℕ) (r : State) (region : Region) (core : Core) → region ≡ m.region → core ≡ (hart_in m.harts h).core → StandsFor m r → HaveAddresses r.harts → Bounded m
    → Rowed zero m h (after_batch m h zero region core)
no_turn m h r region core e f stands addresses bounded =
    let harts : update m.harts h (with_core core) ≡ m.harts = ap (λ (c : Core). update m.harts h (with_core c)) f ∙ updated_same m.harts h in
    let same : after_batch m h zero region core ≡ m = built m region m.region (update m.harts h (with_core core)) m.harts m.journal (m.attempts + 0) m.attempts e harts (omega arith) in
    subst (λ (x : Machine). Rowed zero m h x) (sym same) (record {
      chain = refl;
      quiet = refl;
      state = r;
      stands = stands;
      addresses = addresses;
      bounded = bounded;
      counts = λ k counts. subst (λ (i : ℕ). CountsAtMost i m.journal.counts) (omega arith) counts;
    })

pub one_step : (m now after : Machine) (h n : ℕ) → Rowed n m h now → (m.journal.verdict ≡ Running → now.journal.verdict ≡ Running) → now.loading ≡ m.loading
    → IsStep now (Turn h) after → IsQuiet m after → Rowed (suc n) m h after
one_step m now after h n batch on loading is quiet =
    let behind : StandsFor after (step batch.state (Turn h)) = step_stands now after (Turn h) is batch.state batch.stands in
    record {
      chain = (
        now,
        (
          batch.chain,
          (
            record { on = record { quiet = batch.quiet; running = on }; loading = λ none. loading ∙ none },
            record { stands = step_stands now after (Turn h) is; event = step_happens now after batch.state (Turn h) batch.stands is },
          ),
        ),
      );
      quiet = quiet;
      state = step batch.state (Turn h);
      stands = behind;
      addresses = step_addressed batch.state (Turn h) batch.stands.unseen_is_right.region.most batch.addresses;
      bounded = step_bounded now after batch.state (Turn h) batch.stands is batch.bounded;
      counts = λ k counts.
          subst (λ (i : ℕ). CountsAtMost i after.journal.counts) (omega arith)
          (step_counts (k + n) now after batch.state (Turn h) batch.stands behind (batch.counts k counts));
    }

one_turn : (m : Machine) (h n : ℕ) (mid : Region) (before : Core) (region : Region) (core : Core) → MayBatch m h
    → Carries (attempt mid before (lines_at m.devices h)) region core → Rowed n m h (after_batch m h n mid before) → Rowed (suc n) m h (after_batch m h (suc n) region core)
one_turn m h n mid before region core may carries batch =
    one_step m (after_batch m h n mid before) (after_batch m h (suc n) region core) h n batch (λ is. batch_verdict n m.journal ∙ is) refl (steps m h n mid before region core may carries)
    (ap (λ (xs : List ℕ). length xs) (batch_printed (suc n) m.journal))

pub rowed : (n : ℕ) (m : Machine) (h : ℕ) (r : State) (region : Region) (core : Core) → MayBatch m h → StandsFor m r → HaveAddresses r.harts → Bounded m
    → RetiresThrough n m.region (hart_in m.harts h).core (lines_at m.devices h) region core → Rowed n m h (after_batch m h n region core)
rowed zero m h r region core may stands addresses bounded batch = no_turn m h r region core batch.0 batch.1 stands addresses bounded
rowed (suc n) m h r region core may stands addresses bounded (mid, (before, (batch, carries))) =
    one_turn m h n mid before region core may carries (rowed n m h r mid before may stands addresses bounded batch)
