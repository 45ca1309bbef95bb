-- The turn after a row, in which a hart leaves the guest, and what SecVisor answers it.
use Rattle.std.proofs.Common.{◌≡◌, ℕ, ◌+◌, ◌-◌, ◌%◌, ◌<◌, ◌≤◌, Bool, true, false, List, length, refl, sym, ◌∙◌, ap, subst, arith, add-one}
use Rattle.std.specs.Prelude.{Option, Some, None, if◌then◌else◌}
use Rattle.spec_processor.specs.Hardware.{Core, Attempted, leave, with_region}
use Rattle.spec_processor.specs.HardwareAttempt.{attempt}
use Rattle.spec_processor.specs.Instructions.{instruction_of, rows}
use Rattle.spec_processor.specs.Regions.{Region}
use Rattle.spec_processor.specs.Traps.{trap_target}
use Rattle.spec_processor.specs.declared.exit.Exit.{Exit}
use Rattle.spec_processor.specs.declared.mode.Mode.{Mode}
use Rattle.spec_processor.specs.declared.mode.Mode.TheVariants.{Kernel}
use Rattle.spec_processor.specs.declared.outcome.Outcome.{Outcome}
use Rattle.sv_types.specs.declared.event.Event.TheVariants.{Turn}
use Rattle.sv_types.specs.declared.event.Rule.TheVariants.{Entry}
use Rattle.sv_types.specs.declared.event.Verdict.{Verdict}
use Rattle.sv_types.specs.declared.event.Verdict.TheVariants.{Running, Stopped}
use Rattle.spec_reference.specs.Counting.{CountsAtMost, MayCount, count_trap, count_turn, with_count, machine_ended}
use Rattle.spec_reference.specs.Devices.{lines_at}
use Rattle.spec_reference.specs.States.{Binding, Journal, State}
use Rattle.spec_reference.specs.Trapping.{may_enter}
use Rattle.spec_hardware.specs.HardwareEvent.{attempt_of, left_by}
use Rattle.spec_hardware.specs.HwExits.{hw_exit_answered, served_exit}
use Rattle.spec_hardware.specs.HwHarts.{asks_again, hw_at_trap, hw_seen}
use Rattle.spec_hardware.specs.Machine.{HwHart, Machine, all_forget, with_count_raised, update, with_core}
use Rattle.spec_hardware.specs.Served.{Seen, answer_in, exit_answer, is_again, is_sret, plain_answer, virtual_answer}
use Rattle.spec_hardware.specs.StandsFor.{StandsFor}
use Rattle.spec_hardware.specs.Steps.{AttemptsServed, IsStep, IsTurn, StepsUnder, WithTables}
use Rattle.spec_hardware.specs.declared.exits.ExitAnswer.{ExitAnswer}
use Rattle.hw_fast_path.specs.Ends.{is_left, with_leaving}
use Rattle.hw_fast_path.specs.Batches.{Leaves, LeavesBy, call_exit, return_exit}
use Rattle.hw_fast_path.specs.declared.leaving.Leaving.{Leaving}
use Rattle.hw_fast_path.specs.declared.leaving.Leaving.TheVariants.{Stays, Calls, Returns}
use Rattle.machine.proofs.Repeated.{counts_within}
use Rattle.machine.proofs.Batches.{Rowed, one_step, rowed}
use Rattle.machine.proofs.EventsBatches.{batch_printed, batch_verdict}
use Rattle.hw_platform.proofs.Batches.{still_there, there_updated, updated_twice}
use Rattle.machine.proofs.Stepped.{Bounded}
use Rattle.secvisor_core.proofs.Served.{carried}
use Rattle.machine.proofs.Turns.{exit_served, turn_served}
use Rattle.hw_platform.specs.Attempts.{hart_in}
use Rattle.machine.specs.Limits.{max_counts}
use Rattle.machine.specs.Machines.{HaveAddresses}
use Rattle.machine.specs.Batches.{AnswersLeaving, EndsBatch, MayBatch, after_attempts, after_batch, call_answer, counted_leaving, counted_batch}
use Rattle.secvisor_core.specs.Serving.{MayTrap, answered_exit}
use Rattle.laws_simulation.proofs.TurnsServed.{forgets_none}

-- ---- what is answered, whatever entry the hart is in

called_in : (seen : Seen) (entry : Option Binding) (pc : ℕ) → answer_in seen (call_exit pc) entry ≡ call_answer
unfolding answer_in plain_answer
called_in seen None pc = refl
called_in seen (Some binding) pc = refl

call_asked : (seen : Seen) (pc : ℕ) → exit_answer seen (call_exit pc) ≡ call_answer
unfolding exit_answer
call_asked seen pc = called_in seen seen.entry pc

returned_in : (seen : Seen) (entry : Option Binding) (pc : ℕ) → answer_in seen (return_exit pc) entry ≡ virtual_answer seen.mode (return_exit pc)
unfolding answer_in plain_answer
returned_in seen None pc = refl
returned_in seen (Some binding) pc = refl

kernel_returns : (pc : ℕ) → virtual_answer Kernel (return_exit pc) ≡ ExitAnswer.Returns
unfolding virtual_answer instruction_of rows is_sret
kernel_returns pc = refl

return_asked : (seen : Seen) (pc : ℕ) → seen.mode ≡ Kernel → exit_answer seen (return_exit pc) ≡ ExitAnswer.Returns
unfolding exit_answer
return_asked seen pc kernel =
    returned_in seen seen.entry pc ∙ ap (λ (mode : Mode). virtual_answer mode (return_exit pc)) kernel ∙ kernel_returns pc

call_once : is_again call_answer ≡ false
unfolding is_again
call_once = refl

return_once : is_again ExitAnswer.Returns ≡ false
unfolding is_again
return_once = refl

-- ---- nothing is printed

either_printed : (b : Bool) (x y : Machine) (printed : List ℕ) → x.journal.printed ≡ printed → y.journal.printed ≡ printed → (if b then x else y).journal.printed ≡ printed
either_printed true x y printed e f = e
either_printed false x y printed e f = f

call_quiet : (m : Machine) (h : ℕ) (hw : HwHart) (mode : Mode) → (hw_exit_answered m h hw mode call_answer).journal.printed ≡ m.journal.printed
unfolding hw_exit_answered
call_quiet m h hw mode =
    either_printed (may_enter m.rules mode (trap_target hw.core.csrs.vstvec false 8))
    (record m { harts = update m.harts h (hw_at_trap m.rules false 8 0); journal = with_count (count_trap mode) m.journal })
    (record m { journal = machine_ended (Stopped (Entry (trap_target hw.core.csrs.vstvec false 8)) h m.journal.counts.turns) m.journal })
    m.journal.printed refl refl

return_quiet : (m : Machine) (h : ℕ) (hw : HwHart) (mode : Mode) → (hw_exit_answered m h hw mode ExitAnswer.Returns).journal.printed ≡ m.journal.printed
unfolding hw_exit_answered
return_quiet m h hw mode = refl

-- ---- the turn

same_but : (m : Machine) (region other : Region) (harts others : List HwHart) (j : Journal) (n k : ℕ) → region ≡ other → harts ≡ others → n ≡ k
    → record m { region = region; harts = harts; journal = j; attempts = n } ≡ record m { region = other; harts = others; journal = j; attempts = k }
same_but m region other harts others j n k e f g = rw (e, f, g) refl

left_outcome : (core : Core) (exit : Exit) → (leave core exit).outcome ≡ Outcome.Exit exit
unfolding leave
left_outcome core exit = refl

left_mode : (core : Core) (exit : Exit) → (leave core exit).core.hregs.mode ≡ core.hregs.mode
unfolding leave
left_mode core exit = refl

module _ (m : Machine) (h n : ℕ) (region : Region) (last core : Core) (exit : Exit) (answer : ExitAnswer) (after : Machine) (may : MayBatch m h)
    (leaves : Leaves (attempt region last (lines_at m.devices h)) exit region last core)
    (asked : (seen : Seen) → seen.mode ≡ last.hregs.mode → exit_answer seen exit ≡ answer) (once : is_again answer ≡ false)
    (done : WithTables (counted_leaving (record (after_batch m h n region core) { attempts = m.attempts + (n + 1) }))
    (answered_exit (counted_leaving (record (after_batch m h n region core) { attempts = m.attempts + (n + 1) })) h answer) after) where
  abbrev now : Machine
  now = after_batch m h n region last

  abbrev behind : Machine
  behind = counted_leaving (record (after_batch m h n region core) { attempts = m.attempts + (n + 1) })

  abbrev hw : HwHart
  hw = hart_in now.harts h

  hw_is : hw ≡ with_core last (hart_in m.harts h)
  hw_is = there_updated m.harts h last may.below

  core_is : hw.core ≡ last
  core_is = ap (λ (x : HwHart). x.core) hw_is

  made : Attempted
  made = attempt_of (with_count_raised now count_turn) h hw

  made_is : made ≡ with_region region (leave last exit)
  unfolding made
  made_is = ap (λ (c : Core). attempt region c (lines_at m.devices h)) core_is ∙ leaves.attempted

  outcome_is : made.outcome ≡ Outcome.Exit exit
  outcome_is = ap (λ (a : Attempted). a.outcome) made_is ∙ left_outcome last exit

  harts_are : all_forget made.outcome (update now.harts h (with_core made.core)) ≡ update m.harts h (with_core core)
  harts_are =
      forgets_none made.outcome exit (update now.harts h (with_core made.core)) outcome_is
      ∙ ap (λ (c : Core). update now.harts h (with_core c)) (ap (λ (a : Attempted). a.core) made_is ∙ sym leaves.left)
      ∙ updated_twice m.harts h last core

  left_is : left_by (with_count_raised now count_turn) h hw ≡ behind
  unfolding made
  left_is =
      same_but m made.region region (all_forget made.outcome (update now.harts h (with_core made.core))) (update m.harts h (with_core core))
      (with_count count_turn (counted_batch n m.journal)) (m.attempts + n + 1) (m.attempts + (n + 1))
      (ap (λ (a : Attempted). a.region) made_is) harts_are (omega arith)

  -- the hart that it left is in the same mode
  mode_is : (hart_in behind.harts h).core.hregs.mode ≡ last.hregs.mode
  mode_is =
      ap (λ (x : HwHart). x.core.hregs.mode) (there_updated m.harts h core may.below)
      ∙ ap (λ (c : Core). c.hregs.mode) leaves.left ∙ left_mode last exit

  answered : WithTables behind (served_exit behind h exit) after
  answered =
      carried behind after h exit answer (still_there m.harts h h core may.below)
      (sym (asked (hw_seen behind.region.ram behind.rules (hart_in behind.harts h) (hart_in behind.harts h).core.hregs.mode exit) mode_is)) done

  not_again : asks_again region.ram m.rules hw made.outcome ≡ false
  unfolding asks_again
  not_again =
      ap (λ (o : Outcome). asks_again region.ram m.rules hw o) outcome_is
      ∙ ap is_again (asked (hw_seen region.ram m.rules hw hw.core.hregs.mode exit) (ap (λ (c : Core). c.hregs.mode) core_is)) ∙ once

  served : AttemptsServed (asks_again region.ram m.rules hw made.outcome) (with_count_raised now count_turn) h hw after
  unfolding made
  served =
      subst (λ (again : Bool). AttemptsServed again (with_count_raised now count_turn) h hw after) (sym not_again)
      (exit_served (with_count_raised now count_turn) after h exit false (still_there m.harts h h last may.below) outcome_is
      (subst (λ (x : Machine). WithTables x (served_exit x h exit) after) (sym left_is) answered))

  turned : IsTurn now h after
  unfolding made
  turned =
      turn_served (with_count_raised now count_turn) after h (still_there m.harts h h last may.below)
      (ap (λ (x : HwHart). x.started) hw_is ∙ may.attempts.started) may.attempts.free served

  pub steps_after : IsStep now (Turn h) after
  unfolding IsStep
  steps_after = subst (λ (v : Verdict). StepsUnder v now (Turn h) after) (sym (batch_verdict n m.journal ∙ may.running)) turned

  -- and one more turn of the row
  pub after_rowed : Rowed n m h now → (answered_exit behind h answer).journal.printed ≡ behind.journal.printed → Rowed (n + 1) m h after
  after_rowed batch quiet =
      subst (λ (k : ℕ). Rowed k m h after) (sym (add-one n))
      (one_step m now after h n batch (λ is. batch_verdict n m.journal ∙ is) refl steps_after
      (ap (λ (x : Machine). length x.journal.printed) done.same ∙ ap (λ (xs : List ℕ). length xs) (quiet ∙ batch_printed n m.journal)))

-- ---- a row with its end

ended : (left : Leaving) (n : ℕ) (m after : Machine) (h : ℕ) (region : Region) (last core : Core) → MayBatch m h → Rowed n m h (after_batch m h n region last)
    → LeavesBy left (attempt region last (lines_at m.devices h)) region last core → AnswersLeaving left (after_attempts left m h n region core) h after
    → Rowed (with_leaving left n) m h after
ended Stays n m after h region last core may batch same answer =
    subst (λ (x : Machine). Rowed n m h x) (ap (λ (c : Core). after_batch m h n region c) (sym same) ∙ sym answer) batch
ended Calls n m after h region last core may batch (user, leaves) answer =
    after_rowed m h n region last core (call_exit last.pc) call_answer after may leaves (λ seen same. call_asked seen last.pc) call_once answer batch
    (call_quiet (counted_leaving (after_attempts Calls m h n region core)) h (hart_in (update m.harts h (with_core core)) h) (hart_in (update m.harts h (with_core core)) h).core.hregs.mode)
ended Returns n m after h region last core may batch (kernel, leaves) answer =
    after_rowed m h n region last core (return_exit last.pc) ExitAnswer.Returns after may leaves (λ seen same. return_asked seen last.pc (same ∙ kernel)) return_once answer batch
    (return_quiet (counted_leaving (after_attempts Returns m h n region core)) h (hart_in (update m.harts h (with_core core)) h) (hart_in (update m.harts h (with_core core)) h).core.hregs.mode)

-- what is known of a machine that may make a row
pub record Begins (m : Machine) (h : ℕ) : Type 0 where
  pub state : State
  pub may : MayBatch m h
  pub stands : StandsFor m state
  pub addresses : HaveAddresses state.harts
  pub bounded : Bounded m

first_rowed : (left : Leaving) (n : ℕ) (m mid : Machine) (h : ℕ) → Begins m h → (ends : EndsBatch left n m h mid) → Rowed n m h (after_batch m h n ends.region ends.last)
first_rowed left n m mid h begins ends =
    rowed n m h begins.state ends.region ends.last begins.may begins.stands begins.addresses begins.bounded ends.retires

pub ends_rowed : (left : Leaving) (n : ℕ) (m mid after : Machine) (h : ℕ) → Begins m h → EndsBatch left n m h mid → AnswersLeaving left mid h after
    → Rowed (with_leaving left n) m h after
ends_rowed left n m mid after h begins ends answer =
    ended left n m after h ends.region ends.last ends.core begins.may (first_rowed left n m mid h begins ends) ends.leaves
    (subst (λ (x : Machine). AnswersLeaving left x h after) ends.same answer)

-- a row after which the hart stays in the guest ends no run
ends_running_by : (left : Leaving) (n : ℕ) (m mid after : Machine) (h : ℕ) → mid.journal ≡ counted_batch n m.journal → AnswersLeaving left mid h after → left ≡ Stays
    → m.journal.verdict ≡ Running → after.journal.verdict ≡ Running
ends_running_by Stays n m mid after h journal same stays is =
    ap (λ (x : Machine). x.journal.verdict) same ∙ ap (λ (j : Journal). j.verdict) journal ∙ batch_verdict n m.journal ∙ is
ends_running_by Calls n m mid after h journal answers stays is = absurd (cc)
ends_running_by Returns n m mid after h journal answers stays is = absurd (cc)

pub ends_running : (left : Leaving) (n : ℕ) (m mid after : Machine) (h : ℕ) → EndsBatch left n m h mid → AnswersLeaving left mid h after → left ≡ Stays
    → m.journal.verdict ≡ Running → after.journal.verdict ≡ Running
ends_running left n m mid after h ends answers stays is =
    ends_running_by left n m mid after h (ap (λ (x : Machine). x.journal) ends.same) answers stays is

-- nor does it begin a load
stays_unloaded_by : (left : Leaving) (mid after : Machine) (h : ℕ) → AnswersLeaving left mid h after → left ≡ Stays → after.loading ≡ mid.loading
stays_unloaded_by Stays mid after h same stays = ap (λ (x : Machine). x.loading) same
stays_unloaded_by Calls mid after h answers stays = absurd (cc)
stays_unloaded_by Returns mid after h answers stays = absurd (cc)

pub stays_unloaded : (left : Leaving) (n : ℕ) (m mid after : Machine) (h : ℕ) → EndsBatch left n m h mid → AnswersLeaving left mid h after → left ≡ Stays
    → after.loading ≡ m.loading
stays_unloaded left n m mid after h ends answers stays =
    stays_unloaded_by left mid after h answers stays ∙ ap (λ (x : Machine). x.loading) ends.same

pub stays_there : (left : Leaving) → is_left left ≡ false → left ≡ Stays
stays_there Stays is = refl
stays_there Calls is = absurd (cc)
stays_there Returns is = absurd (cc)

-- ---- what the answer asks for

kernel_left : (left : Leaving) (a : Attempted) (r : Region) (last core : Core) → left ≡ Returns → LeavesBy left a r last core → core.hregs.mode ≡ Kernel
kernel_left Stays a r last core e leaves = absurd (cc)
kernel_left Calls a r last core e leaves = absurd (cc)
kernel_left Returns a r last core e (kernel, leaves) = ap (λ (c : Core). c.hregs.mode) leaves.left ∙ left_mode last (return_exit last.pc) ∙ kernel

pub in_kernel : (left : Leaving) (n : ℕ) (m mid : Machine) (h : ℕ) → MayBatch m h → EndsBatch left n m h mid → left ≡ Returns → (hart_in mid.harts h).core.hregs.mode ≡ Kernel
in_kernel left n m mid h may ends e =
    ap (λ (x : Machine). (hart_in x.harts h).core.hregs.mode) ends.same
    ∙ ap (λ (x : HwHart). x.core.hregs.mode) (there_updated m.harts h ends.core may.below)
    ∙ kernel_left left (attempt ends.region ends.last (lines_at m.devices h)) ends.region ends.last ends.core e ends.leaves

pub may_trap : (left : Leaving) (n : ℕ) (m mid : Machine) (h : ℕ) → MayBatch m h → EndsBatch left n m h mid → (hart_in mid.harts h).core.pc % 4 ≡ 0 → MayTrap mid.harts h
may_trap left n m mid h may ends aligned = record {
  there = subst (λ (x : Machine). h < length x.harts) (sym ends.same) (still_there m.harts h h ends.core may.below);
  aligned = aligned;
}

row_within : (left : Leaving) (n : ℕ) → n ≤ with_leaving left n
row_within Stays n = omega arith
row_within Calls n = omega arith
row_within Returns n = omega arith

-- the counts after the row's own turns
pub after_counts : (left : Leaving) (n most : ℕ) (m mid : Machine) (h : ℕ) → Begins m h → EndsBatch left n m h mid → most ≤ max_counts → with_leaving left n ≤ most
    → CountsAtMost (max_counts - most) m.journal.counts → CountsAtMost max_counts mid.journal.counts
after_counts left n most m mid h begins ends few within counts =
    let batch = first_rowed left n m mid h begins ends in
    subst (λ (x : Machine). CountsAtMost max_counts x.journal.counts) (sym ends.same)
    (counts_within (max_counts - most + n) max_counts (counted_batch n m.journal).counts
    (let own = row_within left n in omega (arith, own, few, within)) (batch.counts (max_counts - most) counts))

pub may_count : (m : Machine) → CountsAtMost max_counts m.journal.counts → MayCount m.journal.counts
may_count m counts = record {
  retired = omega (arith, counts.retired);
  traps = omega (arith, counts.traps);
  enters = omega (arith, counts.enters);
  leaves = omega (arith, counts.leaves);
  demotes = omega (arith, counts.demotes);
  denied = omega (arith, counts.denied);
  dropped = omega (arith, counts.dropped);
  loads = omega (arith, counts.loads);
  unloads = omega (arith, counts.unloads);
  refused = omega (arith, counts.refused);
  notes = omega (arith, counts.notes);
}
