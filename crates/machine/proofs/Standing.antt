-- What follows where a machine stands for a state. The other proofs use no more of it than this.
use Rattle.std.proofs.Common.{◌≡◌, ◌≢◌, ◌≤◌, ◌+◌, ◌-◌, ℕ, zero, suc, List, [], ◌∷◌, ◌++◌, length, take, drop, Bool, true, false, Option}
use Rattle.std.proofs.Common.{Some, None, refl, sym, ◌∙◌, ap, subst, append_assoc, arith, slice_get}
use Rattle.sv_types.proofs.Sums.{plus_none}
use Rattle.std.proofs.lemmas.List.{take-append-le, take-append-drop, length-drop}
use Rattle.std.proofs.Math.Seq.{take-add}
use Rattle.spec_processor.specs.Hardware.{Attempted}
use Rattle.sv_types.specs.declared.event.Event.{Event}
use Rattle.sv_types.specs.declared.event.Event.TheVariants.{Turn, Beat, Key, Tick, Poke}
use Rattle.sv_types.specs.declared.event.Verdict.{Verdict}
use Rattle.sv_types.specs.declared.event.Verdict.TheVariants.{Running, Shutdown, Stopped}
use Rattle.spec_processor.specs.declared.outcome.Outcome.{Outcome}
use Rattle.spec_reference.specs.Disk.{disk_bytes}
use Rattle.spec_reference.specs.Report.{output, report}
use Rattle.spec_reference.specs.Run.{step}
use Rattle.spec_reference.specs.States.{State, Journal}
use Rattle.spec_hardware.specs.HardwareEvent.{IsEvent, HappensUnder, Happens, TurnOf, HartTurn, StartedTurn, OneOrTwo, Attempts}
use Rattle.spec_hardware.specs.HardwareEvent.{AfterOutcome, sent_again, hart_again, attempt_of, is_loading, Written, with_bytes_at}
use Rattle.spec_hardware.specs.HwHarts.{asks_again}
use Rattle.spec_hardware.specs.Machine.{Machine, HwHart}
use Rattle.spec_hardware.specs.Reaches.{Cleared, IsNew}
use Rattle.spec_hardware.specs.StandsFor.{StandsFor, machine_of, without_printed}
use Rattle.laws_simulation.proofs.StepsGrow.{grows_law}
use Rattle.laws_simulation.proofs.RunsReach.{clear_law}
use Rattle.host_io.specs.Outside.{SinkState, after_taking}
use Rattle.host_io.proofs.SinkLemmas.{after_taking-nil}
use Rattle.machine.specs.Console.{Flushed}
use Rattle.machine.specs.Standing.{Stands, TakesAway, machine_output}

-- ---- the journal of a machine that stands for a state

cleared_is : (m : Machine) (r : State) → (s : StandsFor m r) → m.cleared ≡ s.unseen.cleared
unfolding machine_of
cleared_is m r s = ap (λ (x : Machine). x.cleared) s.same

journal_is : (m : Machine) (r : State) → StandsFor m r → m.journal ≡ without_printed m.cleared r.journal
unfolding machine_of
journal_is m r s =
    ap (λ (x : Machine). x.journal) s.same ∙ ap (λ (n : ℕ). without_printed n r.journal) (sym (cleared_is m r s))

cleared_few : (m : Machine) (r : State) → StandsFor m r → m.cleared ≤ length r.journal.printed
cleared_few m r s = subst (λ (n : ℕ). n ≤ length r.journal.printed) (sym (cleared_is m r s)) s.unseen_is_right.cleared

pub verdict_is : (m : Machine) (r : State) → StandsFor m r → m.journal.verdict ≡ r.journal.verdict
verdict_is m r s = ap (λ (j : Journal). j.verdict) (journal_is m r s)

printed_are : (m : Machine) (r : State) → StandsFor m r → m.journal.printed ≡ drop m.cleared r.journal.printed
printed_are m r s = ap (λ (j : Journal). j.printed) (journal_is m r s)

drop_none : (n : ℕ) → drop {A = ℕ} n [] ≡ []
drop_none zero = refl
drop_none (suc n) = refl

pub printed_few : (m : Machine) (r : State) → StandsFor m r → r.journal.printed ≡ [] → m.journal.printed ≡ []
printed_few m r s none = printed_are m r s ∙ ap (λ (p : List ℕ). drop m.cleared p) none ∙ drop_none m.cleared

-- ---- an event takes nothing away

outcome_keeps : (o : Outcome) (m : Machine) (h : ℕ) (a : Attempted) (after : Machine) → AfterOutcome o m h a after → after.cleared ≡ m.cleared
outcome_keeps (Outcome.Exit exit) m h a after it = ap (λ (x : Machine). x.cleared) it.same
outcome_keeps (Outcome.Retired wrote) m h a after it = ap (λ (x : Machine). x.cleared) it.same
outcome_keeps Outcome.GuestTrap m h a after it = ap (λ (x : Machine). x.cleared) it.same

once_keeps : (m : Machine) (h : ℕ) (hart : HwHart) (after : Machine) → Attempts m h hart after → after.cleared ≡ m.cleared
once_keeps m h hart after it = outcome_keeps (attempt_of m h hart).outcome m h (attempt_of m h hart) after it

attempts_keep : (again : Bool) (m : Machine) (h : ℕ) (hart : HwHart) (after : Machine) → OneOrTwo again m h hart after → after.cleared ≡ m.cleared
attempts_keep false m h hart after it = once_keeps m h hart after it
attempts_keep true m h hart after it = once_keeps (sent_again m h hart) h (hart_again m h hart) after it

started_keeps : (loads : Bool) (m : Machine) (h : ℕ) (hart : HwHart) (after : Machine) → StartedTurn loads m h hart after → after.cleared ≡ m.cleared
started_keeps true m h hart after it = ap (λ (x : Machine). x.cleared) it.same
started_keeps false m h hart after it = attempts_keep (asks_again m.region.ram m.rules hart (attempt_of m h hart).outcome) m h hart after it

hart_keeps : (started : Bool) (m : Machine) (h : ℕ) (hart : HwHart) (after : Machine) → HartTurn started m h hart after → after.cleared ≡ m.cleared
hart_keeps true m h hart after it = started_keeps (is_loading m.loading h) m h hart after it
hart_keeps false m h hart after it = ap (λ (x : Machine). x.cleared) it.same

turn_keeps : (m : Machine) (h : ℕ) (hart : Option HwHart) (after : Machine) → TurnOf m h hart after → after.cleared ≡ m.cleared
turn_keeps m h None after it = ap (λ (x : Machine). x.cleared) it.same
turn_keeps m h (Some hart) after it = hart_keeps hart.started m h hart after it

bytes_keep_by : (before : Machine) (bytes : Option Written) → (with_bytes_at before bytes).cleared ≡ before.cleared
bytes_keep_by before None = refl
bytes_keep_by before (Some w) = refl

happens_keeps : (m : Machine) (e : Event) (after : Machine) → Happens m e after → after.cleared ≡ m.cleared
happens_keeps m (Turn h) after it = turn_keeps m h (slice_get m.harts h) after it
happens_keeps m Beat after it = ap (λ (x : Machine). x.cleared) it.same ∙ bytes_keep_by m it.bytes
happens_keeps m (Key byte) after it = ap (λ (x : Machine). x.cleared) it.same
happens_keeps m (Tick n) after it = ap (λ (x : Machine). x.cleared) it.same
happens_keeps m (Poke gpa value) after it = ap (λ (x : Machine). x.cleared) it.same ∙ bytes_keep_by m it.bytes

under_keeps : (v : Verdict) (m : Machine) (e : Event) (after : Machine) → HappensUnder v m e after → after.cleared ≡ m.cleared
under_keeps Running m e after it = happens_keeps m e after it
under_keeps Shutdown m e after it = ap (λ (x : Machine). x.cleared) it
under_keeps (Stopped rule hart at) m e after it = ap (λ (x : Machine). x.cleared) it

event_keeps : (m : Machine) (e : Event) (after : Machine) → IsEvent m e after → after.cleared ≡ m.cleared
unfolding IsEvent
event_keeps m e after it = under_keeps m.journal.verdict m e after it

-- a machine that has ended stays as it is
stays_under : (v : Verdict) (m : Machine) (e : Event) → v ≢ Running → HappensUnder v m e m
stays_under Running m e ended = absurd (ended refl)
stays_under Shutdown m e ended = refl
stays_under (Stopped rule hart at) m e ended = refl

pub event_ended : (m : Machine) (e : Event) → m.journal.verdict ≢ Running → IsEvent m e m
unfolding IsEvent
event_ended m e ended = stays_under m.journal.verdict m e ended

ended_under : (v : Verdict) (m : Machine) (e : Event) (after : Machine) → v ≢ Running → HappensUnder v m e after → after ≡ m
ended_under Running m e after ended it = absurd (ended refl)
ended_under Shutdown m e after ended it = it
ended_under (Stopped rule hart at) m e after ended it = it

-- and an event leaves no other
pub event_stays : (m : Machine) (e : Event) (after : Machine) → m.journal.verdict ≢ Running → IsEvent m e after → after ≡ m
unfolding IsEvent
event_stays m e after ended it = ended_under m.journal.verdict m e after ended it

-- ---- growth

pub prints_after : (r : State) (e : Event) → (more : List ℕ) × ((step r e).journal.printed ≡ r.journal.printed ++ more)
prints_after r e = (grows_law r e).behind

left_over : (m : Machine) (r : State) → StandsFor m r → length m.journal.printed + m.cleared ≡ length r.journal.printed
left_over m r s =
    let printed : length m.journal.printed ≡ length r.journal.printed - m.cleared = ap (λ (p : List ℕ). length p) (printed_are m r s) ∙ length-drop m.cleared r.journal.printed in
    let few = cleared_few m r s in
    omega arith

-- an event prints one byte at most
pub step_room : (m next : Machine) (r : State) (e : Event) → StandsFor m r → StandsFor next (step r e) → IsEvent m e next →
    length next.journal.printed ≤ length m.journal.printed + 1
step_room m next r e s after event =
    let grown = (grows_law r e).console in
    let before = left_over m r s in
    let behind = left_over next (step r e) after in
    let same = event_keeps m e next event in
    omega arith

-- ---- standing

pub stands_new : (m : Machine) (start : State) → IsNew m start → Stands m [] start
stands_new m start new = record { stands = new.stands; away = ap (λ (n : ℕ). take n start.journal.printed) (sym new.cleared) }

pub stands_step : (m next : Machine) (r : State) (cleared : List ℕ) (e : Event) → Stands m cleared r → StandsFor next (step r e) → IsEvent m e next → Stands next cleared (step r e)
stands_step m next r cleared e s after event =
    let behind = prints_after r e in
    record {
      stands = after;
      away =
          s.away ∙ sym (take-append-le m.cleared r.journal.printed behind.0 (cleared_few m r s.stands))
          ∙ ap (λ (p : List ℕ). take m.cleared p) (sym behind.1)
          ∙ ap (λ (n : ℕ). take n (step r e).journal.printed) (sym (event_keeps m e next event));
    }

pub stands_away : (m after : Machine) (r : State) (cleared away : List ℕ) → Stands m cleared r → TakesAway m away after → Stands after (cleared ++ away) r
stands_away m after r cleared away s t =
    let printed : List ℕ = r.journal.printed in
    let taken : ℕ = t.cleared.taken in
    record {
      stands = clear_law m after r s.stands t.cleared;
      away =
          ap (λ (front : List ℕ). front ++ away) s.away
          ∙ ap (λ (back : List ℕ). take m.cleared printed ++ back) (t.away ∙ ap (λ (p : List ℕ). take taken p) (printed_are m r s.stands))
          ∙ sym (take-add m.cleared taken printed)
          ∙ ap (λ (n : ℕ). take n printed) (sym (ap (λ (x : Machine). x.cleared) t.cleared.same));
    }

pub away_counts : (m after : Machine) (away : List ℕ) → TakesAway m away after → after.journal.counts ≡ m.journal.counts
away_counts m after away t = ap (λ (x : Machine). x.journal.counts) t.cleared.same

pub stands_printed : (m : Machine) (r : State) (cleared : List ℕ) → Stands m cleared r → cleared ++ m.journal.printed ≡ r.journal.printed
stands_printed m r cleared s =
    ap (λ (front : List ℕ). front ++ m.journal.printed) s.away
    ∙ ap (λ (back : List ℕ). take m.cleared r.journal.printed ++ back) (printed_are m r s.stands)
    ∙ take-append-drop m.cleared r.journal.printed

pub stands_verdict : (m : Machine) (r : State) (cleared : List ℕ) → Stands m cleared r → m.journal.verdict ≡ r.journal.verdict
stands_verdict m r cleared s = verdict_is m r s.stands

pub stands_notes : (m : Machine) (r : State) (cleared : List ℕ) → Stands m cleared r → m.journal.notes ≡ r.journal.notes
stands_notes m r cleared s = ap (λ (j : Journal). j.notes) (journal_is m r s.stands)

pub stands_counts : (m : Machine) (r : State) (cleared : List ℕ) → Stands m cleared r → m.journal.counts ≡ r.journal.counts
stands_counts m r cleared s = ap (λ (j : Journal). j.counts) (journal_is m r s.stands)

pub stands_disk : (m : Machine) (r : State) (cleared : List ℕ) → Stands m cleared r → disk_bytes m.devices.disk ≡ disk_bytes r.devices.disk
unfolding machine_of
stands_disk m r cleared s = ap (λ (x : Machine). disk_bytes x.devices.disk) s.stands.same

-- all that is printed of the state, in two parts
pub stands_output : (m : Machine) (r : State) (cleared : List ℕ) → Stands m cleared r → cleared ++ machine_output m ≡ output r
stands_output m r cleared s =
    sym (append_assoc cleared m.journal.printed (report m.journal))
    ∙ ap (λ (front : List ℕ). front ++ report m.journal) (stands_printed m r cleared s)
    ∙ ap (λ (j : Journal). r.journal.printed ++ report j) (journal_is m r s.stands)

-- ---- the console's bytes

pub cleared_none : (m : Machine) → Cleared m m
cleared_none m = record { taken = 0; there = omega arith; same = ap (λ (n : ℕ). record m { cleared = n }) (plus_none m.cleared) }

take_all_dropped : (n : ℕ) (bytes : List ℕ) → drop n bytes ≡ [] → bytes ≡ take n bytes
take_all_dropped zero bytes none = none
take_all_dropped (suc n) [] none = refl
take_all_dropped (suc n) (b ∷ bytes) none = ap (λ (rest : List ℕ). b ∷ rest) (take_all_dropped n bytes none)

-- all of them are taken away
pub flushed_all : (before after : Machine) (old new : SinkState) (bytes : List ℕ) → Cleared before after → after.journal.printed ≡ [] → bytes ≡ before.journal.printed →
    new ≡ after_taking old bytes → Flushed before after old new
flushed_all before after old new bytes cleared none bytes_are taken = record {
  cleared = bytes;
  away = record {
    cleared = cleared;
    away = bytes_are ∙ take_all_dropped cleared.taken before.journal.printed (sym (ap (λ (x : Machine). x.journal.printed) cleared.same) ∙ none);
  };
  taken = taken;
}

pub flushed_none : (m : Machine) (sink : SinkState) → Flushed m m sink sink
unfolding cleared_none
flushed_none m sink = record { cleared = []; away = record { cleared = cleared_none m; away = refl }; taken = sym (after_taking-nil sink) }
