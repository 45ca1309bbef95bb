-- Plans in files that hold something, and how a run ends that is due there.
use Rattle.std.proofs.Common.{◌≡◌, ◌<◌, ◌≤◌, ◌⊎◌, ℕ, List, length, nat_le, Bool, false, IsTrue, refl, sym, ◌∙◌, ap, subst, arith, inl, inr, Option, Some, None, if◌then◌else◌}
use Rattle.std.proofs.lemmas.Bool.{le-leb}
use Rattle.std.proofs.lemmas.Bool.Decides.{nat_tests}
use Rattle.std.proofs.lemmas.Option.{same_Some}
use Rattle.sv_types.specs.declared.event.Event.{Event}
use Rattle.sv_types.specs.declared.status.Status.{Status}
use Rattle.sv_types.specs.Output.{run_status}
use Rattle.spec_reference.specs.Report.{output}
use Rattle.spec_reference.specs.Run.{run}
use Rattle.spec_reference.specs.States.{State}
use Rattle.sv_types.specs.Policies.{Rules}
use Rattle.host_io.specs.Outside.{FilesState}
use Rattle.cli_plans.specs.declared.file_fault.Part.{Part}
use Rattle.secvisor_cli.specs.Answers.{Outside, outside, is_answer, tries_due, MeetsSavesAfter, Meets, MeetsReached}
use Rattle.secvisor_cli.proofs.TopLemmas.{gave_up}
use Rattle.secvisor_cli.specs.DueIn.{found_in, due_in, ComesToDue, AreReadWhole, EndsAs, RunEnds, MakeEnds}
use Rattle.cli_plans.specs.Plans.{Due, Refuse, RunFrom, Make, Plan, End, Read, Judge, Found, Faulty, Missing, Longer, Held, found_plan, read_part, Saving, policy_saving, saves_due}
use Rattle.cli_plans.specs.Reading.{FoundAs, Follows, Saved, SaveBroke}
use Rattle.cli_plans.specs.Refusals.{refusal_line}
use Rattle.cli_plans.proofs.PlanLemmas.{Keeps, follows_keeps, keeps_found}

-- ---- one read

-- what was found before, where it was found later
pub held_before : (old now : FilesState) (name : List ℕ) (held : Option (List ℕ)) → Keeps old now → (IsTrue now.tells → now.held name ≡ held) → IsTrue old.tells → old.held name ≡ held
held_before old now name held k found tells =
    ap (λ (h : List ℕ → Option (List ℕ)). h name) (sym k.held) ∙ found (subst (λ (b : Bool). IsTrue b) (sym k.tells) tells)

found_held : (limit : ℕ) (bytes : List ℕ) → length bytes ≤ limit → found_in limit (Some bytes) ≡ Held bytes
unfolding found_in
found_held limit bytes few = ap (λ (b : Bool). if b then Held bytes else Longer) (le-leb (length bytes) limit few)

found_longer : (limit : ℕ) (bytes : List ℕ) → limit < length bytes → found_in limit (Some bytes) ≡ Longer
unfolding found_in
found_longer limit bytes many =
    let over : nat_le (length bytes) limit ≡ false = grind (arith, nat_tests) in ap (λ (b : Bool). if b then Held bytes else Longer) over

found_none : (limit : ℕ) → found_in limit None ≡ Missing
unfolding found_in
found_none limit = refl

found_as : (old now : FilesState) (name : List ℕ) (limit : ℕ) (found : Found) → IsTrue old.tells → now.read_faults ≡ old.read_faults → FoundAs old now name limit found →
    found_in limit (old.held name) ≡ found
found_as old now name limit Faulty tells same it = let rose = it.0 in absurd (omega arith)
found_as old now name limit Missing tells same it = ap (λ (o : Option (List ℕ)). found_in limit o) it.1 ∙ found_none limit
found_as old now name limit Longer tells same it = ap (λ (o : Option (List ℕ)). found_in limit o) (it.0.2 tells) ∙ found_longer limit it.0.0 it.0.1
found_as old now name limit (Held bytes) tells same it = ap (λ (o : Option (List ℕ)). found_in limit o) (it.1 tells) ∙ found_held limit bytes it.0

-- ---- a whole plan

pub comes_to_due : ComesToDue
comes_to_due (End it) old new due tells same follows = sym (same_Some due it follows.0)
comes_to_due (Read name limit next) old new due tells same (inl wanting) = absurd (cc wanting.0)
comes_to_due (Read name limit next) old new due tells same (inr it) =
    let k : Keeps old it.1 = keeps_found old it.1 name limit it.0 it.2 in
    let first = k.reads in
    let second = (follows_keeps (next it.0) it.1 new (Some due) it.3).reads in
    let unfailed : it.1.read_faults ≡ old.read_faults = omega arith in
    let rest_unfailed : new.read_faults ≡ it.1.read_faults = omega arith in
    ap (λ (found : Found). due_in old.held (next found)) (found_as old it.1 name limit it.0 tells unfailed it.2)
    ∙ ap (λ (h : List ℕ → Option (List ℕ)). due_in h (next it.0)) (sym k.held)
    ∙ comes_to_due (next it.0) it.1 new due (subst (λ (b : Bool). IsTrue b) (sym k.tells) tells) rest_unfailed it.3
comes_to_due (Judge next) old new due tells same (inl wanting) = absurd (cc wanting.0)
comes_to_due (Judge next) old new due tells same (inr it) = comes_to_due next old new due tells same it

-- ---- a part, in files that hold it

pub due_held : (held : List ℕ → Option (List ℕ)) (part : Part) (name : List ℕ) (limit : ℕ) (next : List ℕ → Plan) (bytes : List ℕ) → held name ≡ Some bytes → length bytes ≤ limit →
    due_in held (read_part part name limit next) ≡ due_in held (next bytes)
unfolding found_plan
due_held held part name limit next bytes is few =
    ap (λ (o : Option (List ℕ)). due_in held (found_plan part next (found_in limit o))) is
    ∙ ap (λ (found : Found). due_in held (found_plan part next found)) (found_held limit bytes few)

-- ---- how a run ends that is due

-- what an answer is
data Kind (answer : Status) : Type 0 where
  Proper : IsTrue (is_answer answer) → Kind answer
  Faulted : answer ≡ Status.WriteFault → Kind answer
  Wanting : answer ≡ Status.Memory → Kind answer

kind_of : (answer : Status) → Kind answer
kind_of Status.WriteFault = Faulted refl
kind_of Status.Memory = Wanting refl
kind_of _ = Proper refl

-- what is saved counts no read
pub saved_unread : (s : Saving) (old new : FilesState) → Saved s old new → new.read_faults ≡ old.read_faults
saved_unread s old new it = ap (λ (f : FilesState). f.read_faults) it.leaves

pub broke_unread : (s : Saving) (old new : FilesState) → SaveBroke s old new → new.read_faults ≡ old.read_faults
broke_unread s old new it = ap (λ (f : FilesState). f.read_faults) it.leaves

pub same_unread : (old new : FilesState) → new ≡ old → new.read_faults ≡ old.read_faults
same_unread old new is = ap (λ (f : FilesState). f.read_faults) is

after_unread : (asked : Option Saving) (bytes : List ℕ) (old new : Outside) (answer : Status) → Kind answer → MeetsSavesAfter asked bytes old new answer →
    new.files.read_faults ≡ old.files.read_faults
after_unread None bytes old new answer kind m = same_unread old.files new.files m.0
after_unread (Some s) bytes old new answer (Proper good) m = saved_unread s old.files new.files (m.saved good)
after_unread (Some s) bytes old new answer (Faulted fault) m = elim (m.broke fault) [
  | inl it ↦ same_unread old.files new.files it.0
  | inr it ↦ broke_unread s old.files new.files it.0
]
after_unread (Some s) bytes old new answer (Wanting is) m = same_unread old.files new.files (m.wanting is)

meets_unread : (due : Due) (old new : Outside) (answer : Status) → Kind answer → Meets due old new answer → new.files.read_faults ≡ old.files.read_faults
meets_unread (Refuse refusal) old new answer kind m = after_unread None (refusal_line refusal) old new answer kind m.saves
meets_unread (RunFrom start events save) old new answer kind m =
    after_unread (saves_due (RunFrom start events save)) (output (run start events)) old new answer kind m.saves
meets_unread (Make name rules line) old new answer (Proper good) m = saved_unread (policy_saving name rules) old.files new.files (m.saves.saved good)
meets_unread (Make name rules line) old new answer (Faulted fault) m = elim (m.saves.broke fault) [
  | inl it ↦ broke_unread (policy_saving name rules) old.files new.files it.0
  | inr it ↦ saved_unread (policy_saving name rules) old.files new.files it.0
]
meets_unread (Make name rules line) old new answer (Wanting is) m = absurd (cc (m.wants is))

-- a write fault is counted
after_counted : (asked : Option Saving) (bytes : List ℕ) (old new : Outside) (answer : Status) → answer ≡ Status.WriteFault → MeetsSavesAfter asked bytes old new answer →
    (old.sink.faults < new.sink.faults) ⊎ (old.files.save_faults < new.files.save_faults)
after_counted None bytes old new answer fault m = inl (m.1 fault)
after_counted (Some s) bytes old new answer fault m = elim (m.broke fault) [
  | inl it ↦ inl it.1
  | inr it ↦ inr it.0.faults
]

run_met : (start : State) (events : List Event) (save : Option (List ℕ)) (old new : Outside) (answer : Status) → Kind answer → Meets (RunFrom start events save) old new answer →
    EndsAs (run_status (run start events).journal.verdict) old new answer
run_met start events save old new answer (Proper good) m = inl (m.status good)
run_met start events save old new answer (Faulted fault) m =
    inr (inl (fault, after_counted (saves_due (RunFrom start events save)) (output (run start events)) old new answer fault m.saves))
run_met start events save old new answer (Wanting is) m = inr (inr is)

-- reading counts no save
pub ends_after : (due : Status) (old : Outside) (read : FilesState) (new : Outside) (answer : Status) → read.save_faults ≡ old.files.save_faults →
    EndsAs due (outside read old.sink old.bench) new answer → EndsAs due old new answer
ends_after due old read new answer same ends =
    subst (λ (n : ℕ). (answer ≡ due)
    ⊎ (((answer ≡ Status.WriteFault) × ((old.sink.faults < new.sink.faults) ⊎ (n < new.files.save_faults))) ⊎ (answer ≡ Status.Memory))) same ends

reached_ends : (plan : Plan) (asked : Due) (status : Status) (old new : Outside) (read : FilesState) (reached : Option Due) (answer : Status) →
    ((before : Outside) → Meets asked before new answer → EndsAs status before new answer) → AreReadWhole old.files new.files → due_in old.files.held plan ≡ asked →
    Follows plan old.files read reached → MeetsReached reached (outside read old.sink old.bench) new answer → EndsAs status old new answer
reached_ends plan asked status old new read None answer ends whole is follows m = inr (inr m.0)
reached_ends plan asked status old new read (Some due) answer ends whole is follows (inr m) =
    let vain = gave_up (tries_due due) (outside read old.sink old.bench) new m.0 in
    ends_after status old read new answer (follows_keeps plan old.files read (Some due) follows).saves (inr (inl (m.1, inr vain.files.faults)))
reached_ends plan asked status old new read (Some due) answer ends whole is follows (inl m) =
    let count = meets_unread due (outside read old.sink old.bench) new answer (kind_of answer) m.1 in
    let same : due ≡ asked = sym (comes_to_due plan old.files read due whole.tells (sym count ∙ whole.unfailed) follows) ∙ is in
    ends_after status old read new answer (follows_keeps plan old.files read (Some due) follows).saves
    (ends (outside read old.sink old.bench) (subst (λ (d : Due). Meets d (outside read old.sink old.bench) new answer) same m.1))

pub run_ends : RunEnds
run_ends plan start events save old new answer whole is h =
    reached_ends plan (RunFrom start events save) (run_status (run start events).journal.verdict) old new h.read h.reached answer
    (λ before m. run_met start events save before new answer (kind_of answer) m) whole is h.follows h.meets

made_met : (name : List ℕ) (rules : Rules) (line : List ℕ) (old new : Outside) (answer : Status) → Kind answer → Meets (Make name rules line) old new answer → EndsAs Status.Done old new answer
made_met name rules line old new answer (Proper good) m = inl (m.status good)
made_met name rules line old new answer (Faulted fault) m = elim (m.saves.broke fault) [
  | inl it ↦ inr (inl (fault, inr it.0.faults))
  | inr it ↦ inr (inl (fault, inl it.1))
]
made_met name rules line old new answer (Wanting is) m = inr (inr is)

pub make_ends : MakeEnds
make_ends plan name rules line old new answer whole is h =
    reached_ends plan (Make name rules line) Status.Done old new h.read h.reached answer
    (λ before m. made_met name rules line before new answer (kind_of answer) m) whole is h.follows h.meets
