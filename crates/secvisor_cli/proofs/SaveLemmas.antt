-- What saving changes, and how it answers.
use Rattle.std.proofs.Common.{◌≡◌, ◌≢◌, ◌≤◌, ◌<◌, ℕ, List, IsTrue, refl, sym, ap, subst, arith, inl, inr, ◌⊎◌, Option, Some, None, Result, Ok, Err, IsErrOf, IfOk, OnOk, []}
use Rattle.sv_types.specs.declared.event.Event.{Event}
use Rattle.sv_types.specs.declared.status.Status.{Status}
use Rattle.sv_types.specs.Output.{run_status}
use Rattle.spec_reference.specs.Disk.{disk_bytes}
use Rattle.spec_reference.specs.Report.{output}
use Rattle.spec_reference.specs.Run.{run}
use Rattle.spec_reference.specs.States.{State}
use Rattle.spec_hardware.specs.Machine.{Machine}
use Rattle.host_io.specs.Outside.{FilesState, SinkState, after_saving, after_taking, TookPrefix}
use Rattle.host_io.specs.declared.trouble.Trouble.{Trouble}
use Rattle.host_io.specs.declared.trouble.Trouble.TheVariants.{Write, Memory}
use Rattle.cli_plans.specs.Plans.{Exactly, Saving, saving_of_bytes}
use Rattle.cli_plans.specs.Reading.{IsUnder, Saved, SaveBroke}
use Rattle.secvisor_cli.specs.Answers.{Outside, AfterSave, SavedAfter, Writes, RunsTo, RunsAndSaves, MeetsSavesAfter, is_answer}
use Rattle.host_io.specs.Endings.{status_of_end}
use Rattle.secvisor_cli.proofs.EndLemmas.{runs_under}

-- ---- what saving leaves alone

pub record Changes (asked : Option Saving) (old new : FilesState) : Type 0 where
  pub reads : new.read_faults ≡ old.read_faults
  pub saves : old.save_faults ≤ new.save_faults
  pub others : (name : List ℕ) → (IsUnder asked name → ⊥) → new.held name ≡ old.held name
  pub none : asked ≡ None → new ≡ old

pub changes_same : (asked : Option Saving) (old new : FilesState) → new ≡ old → Changes asked old new
changes_same asked old new is =
    let count : new.save_faults ≡ old.save_faults = ap (λ (f : FilesState). f.save_faults) is in
    record {
      reads = ap (λ (f : FilesState). f.read_faults) is;
      saves = omega arith;
      others = λ name _. ap (λ (f : FilesState). f.held name) is;
      none = λ _. is;
    }

pub changes_saved : (s : Saving) (old new : FilesState) → Saved s old new → Changes (Some s) old new
changes_saved s old new it =
    let count : new.save_faults ≡ old.save_faults = ap (λ (f : FilesState). f.save_faults) it.leaves in
    record {
      reads = ap (λ (f : FilesState). f.read_faults) it.leaves;
      saves = omega arith;
      others = λ name never. it.others name (λ is. never (sym is));
      none = λ e. absurd (cc e);
    }

pub changes_broke : (s : Saving) (old new : FilesState) → SaveBroke s old new → Changes (Some s) old new
changes_broke s old new it =
    let rose = it.faults in
    record {
      reads = ap (λ (f : FilesState). f.read_faults) it.leaves;
      saves = omega arith;
      others = λ name never. it.others name (λ is. never (sym is));
      none = λ e. absurd (cc e);
    }

pub changes : (asked : Option Saving) (old new : FilesState) (written result : Result Status Trouble) → SavedAfter asked old new written result → Changes asked old new
changes None old new written result it = changes_same None old new it.0
changes (Some s) old new (Err trouble) result it = changes_same (Some s) old new it.0
changes (Some s) old new (Ok status) result (inl it) = changes_saved s old new it.0
changes (Some s) old new (Ok status) result (inr it) = changes_broke s old new it.0

-- nothing is saved where no name is one that is saved under
pub unchanged : (asked : Option Saving) (old new : FilesState) → Changes asked old new → ((name : List ℕ) → IsUnder asked name → ⊥) → new ≡ old
unchanged None old new c never = c.none refl
unchanged (Some s) old new c never = absurd (never s.name refl)

-- these very bytes, under a name
abbrev pub exact_saving : (name bytes : List ℕ) → Saving
exact_saving name bytes = record { name = name; content = Exactly bytes }

-- what is saved changes no other name
pub record ChangesOut (name : List ℕ) (old new : FilesState) : Type 0 where
  pub bytes : List ℕ
  pub changes : Changes (Some (exact_saving name bytes)) old new

pub changes_none : (name : List ℕ) (old new : FilesState) → new ≡ old → ChangesOut name old new
changes_none name old new is = record { bytes = []; changes = changes_same (Some (exact_saving name [])) old new is }

-- the count of writes no falls
pub writes_faults : (due : Status) (bytes : List ℕ) (old new : SinkState) (written : Result Status Trouble) → Writes due bytes old new written → old.faults ≤ new.faults
writes_faults due bytes old new (Ok status) w = let same : new.faults ≡ old.faults = ap (λ (k : SinkState). k.faults) w.whole in omega arith
writes_faults due bytes old new (Err Write) w = let rose = w.write refl in omega arith
writes_faults due bytes old new (Err Memory) w = let same = w.memory refl in omega arith

-- ---- one save

-- exactly these bytes were saved, or their save failed
pub saved_exactly : (name bytes : List ℕ) (old new : FilesState) → (IsTrue old.tells → new.held name ≡ Some bytes) →
    ((other : List ℕ) → other ≢ name → new.held other ≡ old.held other) → new ≡ record (after_saving name bytes old) { held = new.held } →
    Saved (record { name = name; content = Exactly bytes }) old new
saved_exactly name bytes old new held others leaves = record { bytes = bytes; content = refl; held = held; others = others; leaves = leaves }

pub broke_exactly : (name bytes : List ℕ) (old new : FilesState) → old.save_faults < new.save_faults → ((other : List ℕ) → other ≢ name → new.held other ≡ old.held other) →
    new ≡ record (after_saving name bytes old) { held = new.held; save_faults = new.save_faults } → SaveBroke (record { name = name; content = Exactly bytes }) old new
broke_exactly name bytes old new faults others leaves = record { bytes = bytes; content = refl; faults = faults; others = others; leaves = leaves }

pub not_saved : (asked : Option Saving) (files : FilesState) (trouble : Trouble) → SavedAfter asked files files (Err trouble) (Err trouble)
not_saved None files trouble = (refl, refl)
not_saved (Some s) files trouble = (refl, refl)

pub saved_ok : (asked : Option Saving) (old new : FilesState) (status : Status) (u : Unit {0}) → AfterSave asked old new (Ok u) → SavedAfter asked old new (Ok status) (Ok status)
saved_ok None old new status u it = (it, refl)
saved_ok (Some s) old new status u it = inl (it, refl)

pub saved_err : (asked : Option Saving) (old new : FilesState) (status : Status) (trouble : Trouble) → AfterSave asked old new (Err trouble) → SavedAfter asked old new (Ok status) (Err trouble)
saved_err None old new status trouble it = absurd it
saved_err (Some s) old new status Write it = inr (it, refl)
saved_err (Some s) old new status Memory it = absurd it

-- a save never runs out of memory
pub save_wants_none : (asked : Option Saving) (old new : FilesState) (status : Status) (trouble : Trouble) → SavedAfter asked old new (Ok status) (Err trouble) →
    IsErrOf {T = Status} (Err trouble) Memory → ⊥
save_wants_none None old new status trouble it wanting = cc it.1
save_wants_none (Some s) old new status trouble (inl it) wanting = cc it.1
save_wants_none (Some s) old new status Write (inr it) wanting = cc wanting
save_wants_none (Some s) old new status Memory (inr it) wanting = cc it.1

-- ---- what was written, as it is answered

-- the same without the sink's count where a write failed
pub record Wrote (due : Status) (bytes : List ℕ) (old new : SinkState) (result : Result Status Trouble) : Type 0 where
  pub status : IfOk result (λ s. s ≡ due)
  pub proper : IfOk result (λ s. IsTrue (is_answer s))
  pub whole : OnOk result (new ≡ after_taking old bytes)
  pub prefix : TookPrefix old new bytes
  pub memory : IsErrOf result Memory → new.faults ≡ old.faults

wrote_same : (due : Status) (bytes : List ℕ) (old new : SinkState) (result : Result Status Trouble) → Writes due bytes old new result → Wrote due bytes old new result
wrote_same due bytes old new result w = record { status = w.status; proper = w.proper; whole = w.whole; prefix = w.prefix; memory = w.memory }

wrote_then_broke : (due : Status) (bytes : List ℕ) (old new : SinkState) (result : Result Status Trouble) → Writes due bytes old new result → Wrote due bytes old new (Err Write)
wrote_then_broke due bytes old new result w = record { status = tt; proper = tt; whole = tt; prefix = w.prefix; memory = λ e. absurd (cc e) }

pub wrote : (asked : Option Saving) (f0 f1 : FilesState) (due : Status) (bytes : List ℕ) (old new : SinkState) (written result : Result Status Trouble) →
    Writes due bytes old new written → SavedAfter asked f0 f1 written result → Wrote due bytes old new result
wrote None f0 f1 due bytes old new written result w it =
    subst (λ (r : Result Status Trouble). Wrote due bytes old new r) (sym it.1) (wrote_same due bytes old new written w)
wrote (Some s) f0 f1 due bytes old new (Err trouble) result w it =
    subst (λ (r : Result Status Trouble). Wrote due bytes old new r) (sym it.1) (wrote_same due bytes old new (Err trouble) w)
wrote (Some s) f0 f1 due bytes old new (Ok status) result w (inl it) =
    subst (λ (r : Result Status Trouble). Wrote due bytes old new r) (sym it.1) (wrote_same due bytes old new (Ok status) w)
wrote (Some s) f0 f1 due bytes old new (Ok status) result w (inr it) =
    subst (λ (r : Result Status Trouble). Wrote due bytes old new r) (sym it.1) (wrote_then_broke due bytes old new (Ok status) w)

-- ---- the status at the end

not_write : IsTrue (is_answer Status.WriteFault) → ⊥
not_write h = cc h

not_memory : IsTrue (is_answer Status.Memory) → ⊥
not_memory h = cc h

pub is_other : (s t : Status) → IsTrue (is_answer s) → (IsTrue (is_answer t) → ⊥) → s ≡ t → ⊥
is_other s t proper never is = never (subst (λ (u : Status). IsTrue (is_answer u)) is proper)

pub no_write_fault : (s : Status) → IsTrue (is_answer s) → s ≡ Status.WriteFault → ⊥
no_write_fault s proper is = is_other s Status.WriteFault proper not_write is

pub no_memory : (s : Status) → IsTrue (is_answer s) → s ≡ Status.Memory → ⊥
no_memory s proper is = is_other s Status.Memory proper not_memory is

none_meets : (due : Status) (bytes : List ℕ) (old new : Outside) (written : Result Status Trouble) → new.files ≡ old.files → Writes due bytes old.sink new.sink written →
    MeetsSavesAfter None bytes old new (status_of_end written)
none_meets due bytes old new (Ok s) same w = (same, λ is. absurd (no_write_fault s w.proper is))
none_meets due bytes old new (Err Write) same w = (same, λ _. w.write refl)
none_meets due bytes old new (Err Memory) same w = (same, λ e. absurd (cc e))

some_meets : (s : Saving) (due : Status) (bytes : List ℕ) (old new : Outside) (trouble : Trouble) → new.files ≡ old.files → Writes due bytes old.sink new.sink (Err trouble) →
    MeetsSavesAfter (Some s) bytes old new (status_of_end (Err trouble))
some_meets s due bytes old new Write same w = record { saved = λ t. absurd (cc t); broke = λ _. inl (same, w.write refl); wanting = λ e. absurd (cc e) }
some_meets s due bytes old new Memory same w = record { saved = λ t. absurd (cc t); broke = λ e. absurd (cc e); wanting = λ _. same }

pub meets_saves : (asked : Option Saving) (due : Status) (bytes : List ℕ) (old new : Outside) (written result : Result Status Trouble) → Writes due bytes old.sink new.sink written →
    SavedAfter asked old.files new.files written result → MeetsSavesAfter asked bytes old new (status_of_end result)
meets_saves None due bytes old new written result w it =
    subst (λ (r : Result Status Trouble). MeetsSavesAfter None bytes old new (status_of_end r)) (sym it.1) (none_meets due bytes old new written it.0 w)
meets_saves (Some s) due bytes old new (Err trouble) result w it =
    subst (λ (r : Result Status Trouble). MeetsSavesAfter (Some s) bytes old new (status_of_end r)) (sym it.1) (some_meets s due bytes old new trouble it.0 w)
meets_saves (Some s) due bytes old new (Ok status) result w (inl it) =
    subst (λ (r : Result Status Trouble). MeetsSavesAfter (Some s) bytes old new (status_of_end r)) (sym it.1)
    (record { saved = λ _. it.0; broke = λ is. absurd (no_write_fault status w.proper is); wanting = λ is. absurd (no_memory status w.proper is) })
meets_saves (Some s) due bytes old new (Ok status) result w (inr it) =
    subst (λ (r : Result Status Trouble). MeetsSavesAfter (Some s) bytes old new (status_of_end r)) (sym it.1)
    (record { saved = λ t. absurd (cc t); broke = λ _. inr (it.0, w.whole); wanting = λ e. absurd (cc e) })

broke_faults : (s : Saving) (bytes : List ℕ) (old new : Outside) →
    ((new.files ≡ old.files) × (old.sink.faults < new.sink.faults)) ⊎ (SaveBroke s old.files new.files × (new.sink ≡ after_taking old.sink bytes)) → old.sink.faults ≤ new.sink.faults
broke_faults s bytes old new (inl it) = let rose = it.1 in omega arith
broke_faults s bytes old new (inr it) = let same : new.sink.faults ≡ old.sink.faults = ap (λ (k : SinkState). k.faults) it.1 in omega arith

-- the sink's count never falls
pub meets_faults : (asked : Option Saving) (bytes : List ℕ) (old new : Outside) → MeetsSavesAfter asked bytes old new Status.WriteFault → old.sink.faults ≤ new.sink.faults
meets_faults None bytes old new m = let rose = m.1 refl in omega arith
meets_faults (Some s) bytes old new m = broke_faults s bytes old new (m.broke refl)

-- ---- a run and its disk

pub run_not_saved : (start : State) (events : List Event) (save : Option (List ℕ)) (m : Machine) (files : FilesState) (old new : SinkState) (trouble : Trouble) →
    Writes (run_status (run start events).journal.verdict) (output (run start events)) old new (Err trouble) → RunsTo (IsErrOf {T = Status} (Err trouble) Memory) start events m old new →
    RunsAndSaves start events save m files files old new (Err trouble)
run_not_saved start events save m files old new trouble w runs = record {
  written = Err trouble;
  writes = w;
  saves = not_saved (saving_of_bytes (disk_bytes (run start events).devices.disk) save) files trouble;
  runs = runs;
}

pub run_saved : (start : State) (events : List Event) (save : Option (List ℕ)) (m : Machine) (f0 f1 : FilesState) (old new : SinkState) (status : Status) (u : Unit {0}) →
    disk_bytes m.devices.disk ≡ disk_bytes (run start events).devices.disk → Writes (run_status (run start events).journal.verdict) (output (run start events)) old new (Ok status) →
    RunsTo (IsErrOf {T = Status} (Ok status) Memory) start events m old new → AfterSave (saving_of_bytes (disk_bytes m.devices.disk) save) f0 f1 (Ok u) →
    RunsAndSaves start events save m f0 f1 old new (Ok status)
run_saved start events save m f0 f1 old new status u disk w runs it = record {
  written = Ok status;
  writes = w;
  saves =
      saved_ok (saving_of_bytes (disk_bytes (run start events).devices.disk) save) f0 f1 status u
      (subst (λ (bytes : List ℕ). AfterSave (saving_of_bytes bytes save) f0 f1 (Ok u)) disk it);
  runs = runs;
}

pub run_broke : (start : State) (events : List Event) (save : Option (List ℕ)) (m : Machine) (f0 f1 : FilesState) (old new : SinkState) (status : Status) (trouble : Trouble) →
    disk_bytes m.devices.disk ≡ disk_bytes (run start events).devices.disk → Writes (run_status (run start events).journal.verdict) (output (run start events)) old new (Ok status) →
    RunsTo (IsErrOf {T = Status} (Ok status) Memory) start events m old new → AfterSave (saving_of_bytes (disk_bytes m.devices.disk) save) f0 f1 (Err trouble) →
    RunsAndSaves start events save m f0 f1 old new (Err trouble)
run_broke start events save m f0 f1 old new status trouble disk w runs it =
    let asked : Option Saving = saving_of_bytes (disk_bytes (run start events).devices.disk) save in
    let behind : SavedAfter asked f0 f1 (Ok status) (Err trouble) =
    saved_err asked f0 f1 status trouble (subst (λ (bytes : List ℕ). AfterSave (saving_of_bytes bytes save) f0 f1 (Err trouble)) disk it) in
    record {
      written = Ok status;
      writes = w;
      saves = behind;
      runs = runs_under (IsErrOf {T = Status} (Ok status) Memory) (IsErrOf {T = Status} (Err trouble) Memory) start events m old new
          (λ wanting. absurd (save_wants_none asked f0 f1 status trouble behind wanting)) runs;
    }
