-- What a machine that stands for a state may do.
use Rattle.std.proofs.Common.{◌≡◌, ℕ, zero, suc, ◌<◌, List, [], ◌∷◌, length, refl, sym, ◌∙◌, ap, subst, arith, true, ◌*◌, slice_get}
use Rattle.spec_processor.specs.Bytes.{page_size}
use Rattle.std.specs.Prelude.{Option, Some, None, IfSome, option_map}
use Rattle.spec_processor.specs.Hardware.{Core}
use Rattle.spec_processor.specs.HardwareAttempt.{attempt, after_pending, OnlyWrites}
use Rattle.spec_processor.specs.HardwareMemory.{translation_result}
use Rattle.spec_processor.specs.HypervisorRegisters.{HypervisorRegisters, pending}
use Rattle.sv_types.specs.Policies.{Rules}
use Rattle.spec_processor.specs.Regions.{Region}
use Rattle.sv_types.specs.declared.event.Event.TheVariants.{Turn}
use Rattle.sv_types.specs.declared.event.Verdict.{Verdict}
use Rattle.sv_types.specs.declared.event.Verdict.TheVariants.{Running}
use Rattle.spec_processor.specs.declared.outcome.Outcome.{Outcome}
use Rattle.sv_types.specs.declared.saved.ModulePlacement.{ModulePlacement}
use Rattle.spec_processor.specs.declared.access.Access.TheVariants as Access
use Rattle.spec_processor.specs.declared.interrupt.Interrupt.{Interrupt}
use Rattle.spec_processor.specs.declared.lines.Lines.{Lines}
use Rattle.spec_processor.specs.declared.exit.Exit.{Exit}
use Rattle.spec_processor.specs.declared.mode.Mode.TheVariants.{Kernel}
use Rattle.sv_types.specs.declared.protection.Protection.{Protection}
use Rattle.laws_processor.proofs.HardwareWrites.{interrupt_writes, fetch_writes}
use Rattle.spec_reference.specs.Counting.{with_count, count_turn, count_retired, count_trap}
use Rattle.spec_reference.specs.Devices.{lines_at}
use Rattle.spec_reference.specs.Run.{step}
use Rattle.spec_reference.specs.States.{State, Hart}
use Rattle.spec_reference.specs.Turn.{leave_entry}
use Rattle.spec_hardware.specs.HardwareEvent.{attempt_of, hart_again, is_loading, left_by, sent_again}
use Rattle.spec_hardware.specs.HwHarts.{asks_again, hw_outside}
use Rattle.spec_hardware.specs.Machine.{Machine, HwHart, HwLoad, with_count_raised}
use Rattle.spec_hardware.specs.StandsFor.{StandsFor, Unseen, machine_of, hw_hart, hw_harts, load_kept}
use Rattle.spec_hardware.specs.Steps.{IsStep, IsTurn, StepsUnder}
use Rattle.laws_simulation.specs.Laws.{IsQuiet, MakesAttempt}
use Rattle.laws_simulation.proofs.LawsHold.{asked_same, exit_turn}
use Rattle.laws_simulation.proofs.TurnsServed.{again_law, step_law, loading_by, not_its}
use Rattle.laws_resume.proofs.Standings.{hart_in_may_attempt, in_order}
use Rattle.laws_resume.proofs.Loads.{loaded_approved, loading_held}
use Rattle.laws_resume.specs.Laws.{HoldsItsPages}
use Rattle.module_gate.specs.Conditions.{IsHeld}
use Rattle.secvisor_core.proofs.Served.{hart_there}
use Rattle.machine.proofs.Turns.{left_below, quiet_served, turn_served}
use Rattle.hw_platform.specs.Attempts.{hart_in, nobody}
use Rattle.machine.specs.Turns.{Attempts, Finished, IsReadyAt, MayTurn}
use Rattle.secvisor_core.specs.Serving.{IsGuarded, asked_of}

-- ---- modules

held_by : (rules : Rules) (guard : List Protection) (loaded : List ModulePlacement) (x : Option HwLoad) → IfSome x (HoldsItsPages rules guard loaded)
    → IfSome x (IsHeld rules guard loaded)
held_by rules guard loaded None k = k
held_by rules guard loaded (Some load) k = record { inside = k.inside; held = k.held; other = k.other; left = k.left }

pub guarded : (m : Machine) (r : State) → StandsFor m r → IsGuarded m
guarded m r stands =
    let order = in_order m r stands in
    record {
      within = order.within;
      modules = record {
        pages = order.pages;
        approved = loaded_approved m r stands;
        load = held_by m.rules m.protections m.loaded m.loading (loading_held m r stands);
      };
    }

-- ---- harts

started_below : (harts : List HwHart) (h : ℕ) → (hart_in harts h).started ≡ true → h < length harts
started_below [] h e = absurd (cc)
started_below (x ∷ harts) zero e = omega arith
started_below (x ∷ harts) (suc h) e = let k = started_below harts h e in omega (arith, k)

found_in : (harts : List HwHart) (h : ℕ) (hw : HwHart) → slice_get harts h ≡ Some hw → hart_in harts h ≡ hw
found_in [] h hw e = absurd (cc)
found_in (x ∷ harts) zero hw e = cc
found_in (x ∷ harts) (suc h) hw e = found_in harts h hw e

-- the state's hart that a hart of the hardware is
abbrev IsOf : Option Hart → HwHart → Type 0
IsOf x hw = (hart : Hart) × ((x ≡ Some hart) × (hart.started ≡ hw.started))

behind_at : (t : ℕ) (exits : List HypervisorRegisters) (harts : List Hart) (h : ℕ) (hw : HwHart) → slice_get (hw_harts t exits harts) h ≡ Some hw
    → IsOf (slice_get harts h) hw
unfolding hw_harts
behind_at t [] harts h hw e = absurd (cc)
behind_at t (x ∷ exits) [] h hw e = absurd (cc)
behind_at t (x ∷ exits) (y ∷ harts) zero hw e = let same : hw_hart t x y ≡ hw = cc in (y, (refl, ap (λ (k : HwHart). k.started) same))
behind_at t (x ∷ exits) (y ∷ harts) (suc h) hw e = behind_at t exits harts h hw e

after_of : (o : Unseen) (r : State) (h : ℕ) (hw : HwHart) → slice_get (machine_of o r).harts h ≡ Some hw → IsOf (slice_get r.harts h) hw
unfolding machine_of
after_of o r h hw e = behind_at (length o.tables) o.exits r.harts h hw e

-- a hart that makes an attempt is the state's
makes_attempt : (m : Machine) (r : State) (h : ℕ) → StandsFor m r → Attempts m h → (hart : Hart) × MakesAttempt m r h (hart_in m.harts h) hart
makes_attempt m r h stands makes =
    let there : slice_get m.harts h ≡ Some (hart_in m.harts h) = hart_there m.harts h (started_below m.harts h makes.started) in
    let is : IsOf (slice_get r.harts h) (hart_in m.harts h) =
    after_of stands.unseen r h (hart_in m.harts h) (subst (λ (x : Machine). slice_get x.harts h ≡ Some (hart_in m.harts h)) stands.same there) in
    let loading : m.loading ≡ option_map (load_kept r.rules r.ram) r.loading = ap (λ (x : Machine). x.loading) stands.same ∙ loading_by stands.unseen r in (
      is.0,
      record {
        stands = stands;
        hw_is = there;
        hart_is = is.1.0;
        started = is.1.1 ∙ makes.started;
        free = not_its r h r.loading (ap (λ (x : Option HwLoad). is_loading x h) (sym loading) ∙ makes.free);
      },
    )

running_of : (m : Machine) (r : State) → StandsFor m r → m.journal.verdict ≡ Running → r.journal.verdict ≡ Running
unfolding machine_of
running_of m r stands on = sym (ap (λ (x : Machine). x.journal.verdict) stands.same) ∙ on

-- ---- attempts

-- an attempt that gives an exit writes nothing
pending_writes : (r : Region) (core : Core) (lines : Lines) (x : Option Interrupt) → OnlyWrites r (after_pending r core lines x).region (after_pending r core lines x).outcome
unfolding after_pending
pending_writes r core lines (Some interrupt) = interrupt_writes r core interrupt
pending_writes r core lines None = fetch_writes r core lines (translation_result r core Access.Fetch core.pc 0)

attempt_writes : (r : Region) (core : Core) (lines : Lines) → OnlyWrites r (attempt r core lines).region (attempt r core lines).outcome
unfolding attempt
attempt_writes r core lines = pending_writes r core lines (pending core.hregs core.csrs lines)

same_size : (m after : Machine) (r next : State) → StandsFor m r → StandsFor after next → after.rules ≡ m.rules → length after.region.ram ≡ length m.region.ram
same_size m after r next before behind same =
    (in_order after next behind).size ∙ ap (λ (rules : Rules). page_size * rules.ram_pages) same ∙ sym (in_order m r before).size

stepped : (m after : Machine) (r : State) (h : ℕ) → StandsFor m r → m.journal.verdict ≡ Running → IsTurn m h after → StandsFor after (step r (Turn h))
unfolding IsStep
stepped m after r h stands on served =
    (step_law m after r (Turn h) stands (subst (λ (v : Verdict). StepsUnder v m (Turn h) after) (sym on) served)).0

-- a turn of one attempt, without an exit
quiet_turn : (m after : Machine) (h : ℕ) (o : Outcome) → Attempts m h → o ≡ (attempt_of m h (hart_in m.harts h)).outcome → IsQuiet o
    → Finished o (left_by (with_count_raised m count_turn) h (hart_in m.harts h)) h after → IsTurn m h after
quiet_turn m after h o makes e quiet served =
    turn_served (with_count_raised m count_turn) after h (started_below m.harts h makes.started) makes.started makes.free
    (quiet_served (with_count_raised m count_turn) after h (hart_in m.harts h) o e quiet served)

size_by : (m : Machine) (r : State) (h : ℕ) (o : Outcome) → StandsFor m r → m.journal.verdict ≡ Running → Attempts m h
    → o ≡ (attempt_of m h (hart_in m.harts h)).outcome → length (attempt_of m h (hart_in m.harts h)).region.ram ≡ length m.region.ram
size_by m r h (Outcome.Retired wrote) stands on makes e =
    let left = left_by (with_count_raised m count_turn) h (hart_in m.harts h) in
    let after : Machine = record left { journal = with_count count_retired left.journal } in
    same_size m after r (step r (Turn h)) stands
    (stepped m after r h stands on (quiet_turn m after h (Outcome.Retired wrote) makes e tt refl)) refl
size_by m r h Outcome.GuestTrap stands on makes e =
    let left = left_by (with_count_raised m count_turn) h (hart_in m.harts h) in
    let after : Machine = record left { journal = with_count (count_trap Kernel) left.journal } in
    same_size m after r (step r (Turn h)) stands
    (stepped m after r h stands on (quiet_turn m after h Outcome.GuestTrap makes e tt refl)) refl
size_by m r h (Outcome.Exit exit) stands on makes e =
    ap (λ (x : Region). length x.ram)
    (subst (λ (o : Outcome). OnlyWrites m.region (attempt_of m h (hart_in m.harts h)).region o) (sym e)
    (attempt_writes m.region (hart_in m.harts h).core (lines_at m.devices h)))

pub ready_at : (m : Machine) (r : State) (h : ℕ) → StandsFor m r → m.journal.verdict ≡ Running → Attempts m h → IsReadyAt m h
ready_at m r h stands on makes =
    let hart = hart_in_may_attempt m r h nobody stands (started_below m.harts h makes.started) in
    record {
      started = makes.started;
      aligned = hart.aligned;
      keeps = hart.keeps;
      stage = hart.stage;
      apart = hart.apart;
      ram = size_by m r h (attempt_of m h (hart_in m.harts h)).outcome stands on makes refl;
    }

-- ---- two attempts

-- the answer to an exit goes by what the attempt leaves as it was
asked_before : (m : Machine) (r : State) (h : ℕ) (exit : Exit) → StandsFor m r → Attempts m h → (attempt_of m h (hart_in m.harts h)).outcome ≡ Outcome.Exit exit
    → asked_of (left_by m h (hart_in m.harts h)) h exit ≡ asked_of m h exit
asked_before m r h exit stands makes e =
    let k = makes_attempt m r h stands makes in
    let left : Machine = left_by m h (hart_in m.harts h) in
    let next : MakesAttempt left r h (hart_in left.harts h) k.0 = record {
      stands = (exit_turn m r h (hart_in m.harts h) k.0 exit k.1 e).0;
      hw_is = hart_there left.harts h (left_below m h exit (started_below m.harts h makes.started) e);
      hart_is = k.1.hart_is;
      started = k.1.started;
      free = k.1.free;
    } in
    asked_same left r h (hart_in left.harts h) k.0 exit next ∙ sym (asked_same m r h (hart_in m.harts h) k.0 exit k.1)

-- the hart that has left its entry attempts again
again_ready : (m : Machine) (r : State) (h : ℕ) → StandsFor m r → m.journal.verdict ≡ Running → Attempts m h
    → asks_again m.region.ram m.rules (hart_in m.harts h) (attempt_of m h (hart_in m.harts h)).outcome ≡ true → IsReadyAt (sent_again m h (hart_in m.harts h)) h
unfolding hw_outside
again_ready m r h stands on makes again =
    let k = makes_attempt m r h stands makes in
    let next = (again_law m r h (hart_in m.harts h) k.0 k.1 (running_of m r stands on) again).0 in
    let sent : Machine = sent_again m h (hart_in m.harts h) in
    let same : hart_in sent.harts h ≡ hart_again m h (hart_in m.harts h) = found_in sent.harts h (hart_again m h (hart_in m.harts h)) next.hw_is in
    ready_at sent (leave_entry r h k.0) h next.stands on (record { started = ap (λ (x : HwHart). x.started) same ∙ makes.started; free = makes.free })

pub may_turn : (m : Machine) (r : State) (h : ℕ) → StandsFor m r → m.journal.verdict ≡ Running → MayTurn m h
may_turn m r h stands on = λ makes. record {
  first = ready_at m r h stands on makes;
  asked = λ exit e. asked_before m r h exit stands makes e;
  second = λ again. again_ready m r h stands on makes again;
}
