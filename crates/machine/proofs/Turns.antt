-- Answers to exits, and turns.
use Rattle.std.proofs.Common.{◌≡◌, ℕ, zero, suc, ◌<◌, Bool, true, false, List, [], ◌∷◌, length, refl, sym, ◌∙◌, ap, subst, arith}
use Rattle.std.specs.Prelude.{Option, Some, None, slice_get}
use Rattle.spec_processor.specs.Hardware.{Attempted}
use Rattle.spec_processor.specs.declared.outcome.Outcome.{Outcome}
use Rattle.spec_processor.specs.declared.exit.Exit.{Exit}
use Rattle.spec_reference.specs.Counting.{with_count}
use Rattle.laws_simulation.specs.Laws.{IsQuiet}
use Rattle.spec_hardware.specs.HardwareEvent.{attempt_of, is_loading, left_by, hart_again, sent_again}
use Rattle.spec_hardware.specs.HwExits.{hw_exit, served_exit}
use Rattle.spec_hardware.specs.HwHarts.{asks_again, hw_outside}
use Rattle.spec_hardware.specs.Machine.{Machine, HwHart, all_forget, count_outcome, update, with_core}
use Rattle.spec_hardware.specs.Served.{is_again}
use Rattle.spec_hardware.specs.Steps.{WithTables, TurnServed, HartServed, StartedServed, AttemptServed, AttemptsServed, OutcomeServed}
use Rattle.hw_platform.specs.Attempts.{hart_in}
use Rattle.secvisor_core.proofs.Served.{hart_there, length_update, served_there}
use Rattle.secvisor_core.specs.Serving.{MayServe, asked_of, left_entry}
use Rattle.machine.specs.Turns.{Concluded, ExitServed, Finished, IsReadyAt, IsReadyTwice, exit_of, quietly_counted}
use Rattle.laws_simulation.proofs.TurnsServed.{forgets_none}

-- ---- turns

served_started : (m after : Machine) (h : ℕ) (b : Bool) → h < length m.harts → (hart_in m.harts h).started ≡ b → HartServed b m h (hart_in m.harts h) after
    → TurnServed m h (slice_get m.harts h) after
served_started m after h b below e served =
    subst (λ (x : Option HwHart). TurnServed m h x after) (sym (hart_there m.harts h below))
    (subst (λ (b : Bool). HartServed b m h (hart_in m.harts h) after) (sym e) served)

pub outcome_served : (m after : Machine) (h : ℕ) (hw : HwHart) (o : Outcome) → (attempt_of m h hw).outcome ≡ o → Finished o (left_by m h hw) h after
    → OutcomeServed o m h hw after
outcome_served m after h hw (Outcome.Retired wrote) e served =
    subst (λ (o : Outcome). after ≡ record (left_by m h hw) { journal = with_count (count_outcome o) m.journal }) (sym e) served
outcome_served m after h hw Outcome.GuestTrap e served =
    subst (λ (o : Outcome). after ≡ record (left_by m h hw) { journal = with_count (count_outcome o) m.journal }) (sym e) served
outcome_served m after h hw (Outcome.Exit exit) e served = served

-- one attempt, and what follows it
pub attempt_served : (m after : Machine) (h : ℕ) (hw : HwHart) (o : Outcome) → o ≡ (attempt_of m h hw).outcome → Finished o (left_by m h hw) h after
    → AttemptServed m h hw after
attempt_served m after h hw o is served =
    subst (λ (o : Outcome). OutcomeServed o m h hw after) is (outcome_served m after h hw o (sym is) served)

-- ---- one attempt, or two

-- a started hart that has no load under way makes its attempts
pub turn_served : (m after : Machine) (h : ℕ) → h < length m.harts → (hart_in m.harts h).started ≡ true → is_loading m.loading h ≡ false
    → AttemptsServed (asks_again m.region.ram m.rules (hart_in m.harts h) (attempt_of m h (hart_in m.harts h)).outcome) m h (hart_in m.harts h) after
    → TurnServed m h (slice_get m.harts h) after
turn_served m after h below e free served =
    served_started m after h true below e (subst (λ (b : Bool). StartedServed b m h (hart_in m.harts h) after) (sym free) served)

-- an attempt that carries out its instruction, or traps in the guest, is all
pub quiet_served : (m after : Machine) (h : ℕ) (hw : HwHart) (o : Outcome) → o ≡ (attempt_of m h hw).outcome → IsQuiet o → Finished o (left_by m h hw) h after
    → AttemptsServed (asks_again m.region.ram m.rules hw (attempt_of m h hw).outcome) m h hw after
unfolding asks_again
quiet_served m after h hw (Outcome.Retired wrote) is quiet served =
    subst (λ (o : Outcome). AttemptsServed (asks_again m.region.ram m.rules hw o) m h hw after) is (attempt_served m after h hw (Outcome.Retired wrote) is served)
quiet_served m after h hw Outcome.GuestTrap is quiet served =
    subst (λ (o : Outcome). AttemptsServed (asks_again m.region.ram m.rules hw o) m h hw after) is (attempt_served m after h hw Outcome.GuestTrap is served)
quiet_served m after h hw (Outcome.Exit exit) is quiet served = absurd quiet

updated_there : (harts : List HwHart) (h : ℕ) (change : HwHart → HwHart) → h < length harts → hart_in (update harts h change) h ≡ change (hart_in harts h)
unfolding update
updated_there [] h change below = absurd (omega arith)
updated_there (x ∷ harts) zero change below = refl
updated_there (x ∷ harts) (suc h) change below = updated_there harts h change (omega arith)

-- the hart that an attempt with an exit leaves
pub left_there : (m : Machine) (h : ℕ) (exit : Exit) → h < length m.harts → (attempt_of m h (hart_in m.harts h)).outcome ≡ Outcome.Exit exit
    → hart_in (left_by m h (hart_in m.harts h)).harts h ≡ with_core (attempt_of m h (hart_in m.harts h)).core (hart_in m.harts h)
left_there m h exit below e =
    let a : Attempted = attempt_of m h (hart_in m.harts h) in
    ap (λ (harts : List HwHart). hart_in harts h) (forgets_none a.outcome exit (update m.harts h (with_core a.core)) e)
    ∙ updated_there m.harts h (with_core a.core) below

pub left_below : (m : Machine) (h : ℕ) (exit : Exit) → h < length m.harts → (attempt_of m h (hart_in m.harts h)).outcome ≡ Outcome.Exit exit
    → h < length (left_by m h (hart_in m.harts h)).harts
left_below m h exit below e =
    let a : Attempted = attempt_of m h (hart_in m.harts h) in
    let still : length (all_forget a.outcome (update m.harts h (with_core a.core))) ≡ length m.harts =
    ap (λ (harts : List HwHart). length harts) (forgets_none a.outcome exit (update m.harts h (with_core a.core)) e) ∙ length_update m.harts h (with_core a.core) in
    subst (λ (n : ℕ). h < n) (sym still) below

-- the hart that attempts again
pub again_there : (m : Machine) (h : ℕ) (exit : Exit) → h < length m.harts → (attempt_of m h (hart_in m.harts h)).outcome ≡ Outcome.Exit exit
    → hart_in (sent_again m h (hart_in m.harts h)).harts h ≡ hart_again m h (hart_in m.harts h)
again_there m h exit below e =
    let a : Attempted = attempt_of m h (hart_in m.harts h) in
    updated_there (all_forget a.outcome (update m.harts h (with_core a.core))) h hw_outside (left_below m h exit below e)
    ∙ ap hw_outside (left_there m h exit below e)

-- the first attempt gave an exit
pub exit_served : (m after : Machine) (h : ℕ) (exit : Exit) (again : Bool) → h < length m.harts → (attempt_of m h (hart_in m.harts h)).outcome ≡ Outcome.Exit exit
    → ExitServed again (left_by m h (hart_in m.harts h)) h exit after → AttemptsServed again m h (hart_in m.harts h) after
exit_served m after h exit false below e served =
    subst (λ (o : Outcome). OutcomeServed o m h (hart_in m.harts h) after) (sym e) served
exit_served m after h exit true below e served =
    subst (λ (hw : HwHart). AttemptServed (sent_again m h (hart_in m.harts h)) h hw after) (again_there m h exit below e) served

-- what SecVisor's answer to the exit asks for is known before the attempt
asks_by : (m : Machine) (h : ℕ) (o : Outcome) (exit : Exit) → IsReadyTwice m h → o ≡ (attempt_of m h (hart_in m.harts h)).outcome → o ≡ Outcome.Exit exit
    → asks_again m.region.ram m.rules (hart_in m.harts h) (attempt_of m h (hart_in m.harts h)).outcome ≡ is_again (asked_of (left_by m h (hart_in m.harts h)) h exit)
unfolding asks_again
asks_by m h o exit ready is e =
    ap (λ (o : Outcome). asks_again m.region.ram m.rules (hart_in m.harts h) o) (sym is ∙ e) ∙ ap is_again (sym (ready.asked exit (sym is ∙ e)))

concluded : (m after : Machine) (h : ℕ) (o : Outcome) → h < length m.harts → IsReadyTwice m h → o ≡ (attempt_of m h (hart_in m.harts h)).outcome
    → Concluded o (left_by m h (hart_in m.harts h)) h after
    → AttemptsServed (asks_again m.region.ram m.rules (hart_in m.harts h) (attempt_of m h (hart_in m.harts h)).outcome) m h (hart_in m.harts h) after
concluded m after h (Outcome.Retired wrote) below ready is served = quiet_served m after h (hart_in m.harts h) (Outcome.Retired wrote) is tt served
concluded m after h Outcome.GuestTrap below ready is served = quiet_served m after h (hart_in m.harts h) Outcome.GuestTrap is tt served
concluded m after h (Outcome.Exit exit) below ready is served =
    subst (λ (again : Bool). AttemptsServed again m h (hart_in m.harts h) after) (sym (asks_by m h (Outcome.Exit exit) exit ready is refl))
    (exit_served m after h exit (is_again (asked_of (left_by m h (hart_in m.harts h)) h exit)) below (sym is) served)

-- a turn's first attempt, and what follows it
pub turn_attempts : (m after : Machine) (h : ℕ) (o : Outcome) → h < length m.harts → (hart_in m.harts h).started ≡ true → is_loading m.loading h ≡ false
    → IsReadyTwice m h → o ≡ (attempt_of m h (hart_in m.harts h)).outcome → Concluded o (left_by m h (hart_in m.harts h)) h after
    → TurnServed m h (slice_get m.harts h) after
turn_attempts m after h o below e free ready is served = turn_served m after h below e free (concluded m after h o below ready is served)

-- and a second attempt may be made where the first one's exit asks for it
pub may_again : (m : Machine) (h : ℕ) (exit : Exit) → IsReadyTwice m h → Outcome.Exit exit ≡ (attempt_of m h (hart_in m.harts h)).outcome
    → is_again (asked_of (left_by m h (hart_in m.harts h)) h exit) ≡ true → IsReadyAt (left_entry (left_by m h (hart_in m.harts h)) h) h
may_again m h exit ready is again = ready.second (asks_by m h (Outcome.Exit exit) exit ready is refl ∙ again)

-- ---- the second attempt

-- the machine that it leaves may serve as before
pub second_may : (old mid next : Machine) (h : ℕ) → mid ≡ left_entry old h → next ≡ left_by mid h (hart_in mid.harts h) → MayServe old → MayServe next
second_may old mid next h left is may =
    subst MayServe (sym (is ∙ ap (λ (m : Machine). left_by m h (hart_in m.harts h)) left)) (record {
      counts = may.counts;
      room = may.room;
      guarded = record { within = may.guarded.within; modules = may.guarded.modules };
    })

-- and what follows it
pub second_served : (mid left next after : Machine) (h : ℕ) (o : Outcome) → mid ≡ left → o ≡ (attempt_of mid h (hart_in mid.harts h)).outcome
    → next ≡ left_by mid h (hart_in mid.harts h) → Finished o next h after → AttemptServed left h (hart_in left.harts h) after
second_served mid left next after h o same is made served =
    subst (λ (m : Machine). AttemptServed m h (hart_in m.harts h) after) same
    (attempt_served mid after h (hart_in mid.harts h) o is (subst (λ (m : Machine). Finished o m h after) made served))

-- ---- counted attempts

-- the attempt gave the exit that is left to answer
pub exit_there : (o : Outcome) (r : Option Exit) (exit : Exit) → r ≡ exit_of o → r ≡ Some exit → o ≡ Outcome.Exit exit
exit_there (Outcome.Retired wrote) r exit e some = absurd (cc)
exit_there Outcome.GuestTrap r exit e some = absurd (cc)
exit_there (Outcome.Exit x) r exit e some = cc

-- an attempt without an exit, once it is counted, is all, the first of its turn and the last
pub finished_quiet : (o : Outcome) (r : Option Exit) (m after : Machine) (h : ℕ) → r ≡ exit_of o → r ≡ None → after ≡ quietly_counted o m → Finished o m h after
finished_quiet (Outcome.Retired wrote) r m after h e none counted = counted
finished_quiet Outcome.GuestTrap r m after h e none counted = counted
finished_quiet (Outcome.Exit x) r m after h e none counted = absurd (cc)

pub concluded_quiet : (o : Outcome) (r : Option Exit) (m after : Machine) (h : ℕ) → r ≡ exit_of o → r ≡ None → after ≡ quietly_counted o m → Concluded o m h after
concluded_quiet (Outcome.Retired wrote) r m after h e none counted = counted
concluded_quiet Outcome.GuestTrap r m after h e none counted = counted
concluded_quiet (Outcome.Exit x) r m after h e none counted = absurd (cc)

-- an exit changes no count
pub exit_counts_nothing : (o : Outcome) (exit : Exit) (m after : Machine) → o ≡ Outcome.Exit exit → after ≡ quietly_counted o m → after ≡ m
exit_counts_nothing o exit m after is counted = counted ∙ ap (λ (x : Outcome). quietly_counted x m) is

-- the answer to the exit of a last attempt
pub finished_exit : (o : Outcome) (exit : Exit) (m mid after : Machine) (h : ℕ) → o ≡ Outcome.Exit exit → mid ≡ m → h < length mid.harts
    → WithTables mid (hw_exit mid h (hart_in mid.harts h) (hart_in mid.harts h).core.hregs.mode exit) after → Finished o m h after
finished_exit o exit m mid after h is same below served =
    subst (λ (x : Outcome). Finished x m h after) (sym is)
    (subst (λ (x : Machine). WithTables x (served_exit x h exit) after) same
    (subst (λ (x : Machine). WithTables mid x after) (sym (served_there mid h exit below)) served))

-- and to that of a first one
pub concluded_exit : (o : Outcome) (exit : Exit) (m mid after : Machine) (h : ℕ) → o ≡ Outcome.Exit exit → mid ≡ m
    → ExitServed (is_again (asked_of mid h exit)) mid h exit after → Concluded o m h after
concluded_exit o exit m mid after h is same served =
    subst (λ (x : Outcome). Concluded x m h after) (sym is)
    (subst (λ (x : Machine). ExitServed (is_again (asked_of x h exit)) x h exit after) same served)
