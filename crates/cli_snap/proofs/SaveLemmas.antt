-- The machine of a run, saved as a snapshot.
use Rattle.std.proofs.Common.{◌≡◌, ℕ, List, refl, ◌∙◌, inl, inr, Some, Result, Ok, Err, IfOk, Vec}
use Rattle.std.specs.declared.alloc.Global.{Global}
use Rattle.sv_types.specs.declared.event.Event.{Event}
use Rattle.sv_types.specs.declared.status.Status.{Status}
use Rattle.spec_reference.specs.Counting.{CountsAtMost}
use Rattle.spec_reference.specs.Run.{run}
use Rattle.spec_reference.specs.States.{State}
use Rattle.spec_hardware.specs.Machine.{Machine}
use Rattle.spec_hardware.specs.Reaches.{IsNew}
use Rattle.spec_hardware.specs.StandsFor.{StandsFor}
use Rattle.snapshot_format.specs.Snapshots.{contents, snapshot}
use Rattle.snapshot_format.specs.Typed.{IsTyped}
use Rattle.snapshot_format.specs.declared.whole.Snapshot.{Snapshot}
use Rattle.snapshot_format.specs.declared.whole.TextPage.{TextPage}
use Rattle.laws_resume.specs.SnapLaws.{IsSnapshotOf}
use Rattle.laws_resume.specs.TextPages.{digested_text}
use Rattle.host_io.specs.Outside.{FilesState, SinkState}
use Rattle.secvisor_cli.specs.Answers.{Writes}
use Rattle.host_io.specs.declared.trouble.Trouble.{Trouble}
use Rattle.host_io.specs.declared.trouble.Trouble.TheVariants.{Memory}
use Rattle.secvisor_cli.proofs.SaveLemmas.{saved_ok, saved_err}
use Rattle.secvisor_cli.proofs.EndLemmas.{wanting_writes}
use Rattle.cli_snap.specs.SnapAnswers.{saving_of, SavesMade, StandsAfter, SnapsTo}
use Rattle.cli_snap.specs.Encoding.{IsMachineSnapshot, EncodesMachine, SavesMachine}
use Rattle.cli_snap.proofs.RunLemmas.{stands_all, counts_drawn, new_stands}

-- ---- the bytes

-- what is written is typed
pub encodes : {E : Type 0} (m : Machine) (text : List TextPage) (s : Snapshot) (result : Result (Vec ℕ Global) E) → (IsTyped (contents s) → IsMachineSnapshot m text s)
    → IfOk result (λ bytes. bytes.items ≡ snapshot.encode (contents s)) → IfOk result (λ bytes. IsTyped (contents s)) → IfOk result (λ bytes. EncodesMachine m text bytes.items)
encodes m text s (Ok bytes) is written typed = record { it = s; snapshot_is = is typed; bytes_are = written }
encodes m text s (Err e) is written typed = tt

-- ---- the snapshot of a run

snapshot_of_run : (first m : Machine) (start : State) (events : List Event) (text : List TextPage) (s : Snapshot) → IsNew first start → CountsAtMost 0 first.journal.counts →
    StandsFor m (run start events) →
    text ≡ digested_text start → IsMachineSnapshot m text s → IsSnapshotOf start events s
snapshot_of_run first m start events text s is_new few stands text_is it = record {
  state = it.state (run start events) stands;
  made = it.made ∙ counts_drawn first m start events is_new few stands;
  text = it.text_is ∙ text_is;
  typed = it.typed;
  port = it.port;
}

-- what a run that was written comes to, by how saving ended
module _ (first m : Machine) (start : State) (events : List Event) (name : List ℕ) (text : List TextPage) (f0 f1 : FilesState) (old new : SinkState) (status : Status) where
  pub record WasRun : Type 0 where
    pub is_new : IsNew first start
    pub few : CountsAtMost 0 first.journal.counts
    pub text_is : text ≡ digested_text start
    pub writes : Writes Status.Done (run start events).journal.printed old new (Ok status)
    pub stands : StandsAfter start events m old new (Ok status)

  is_snapshot : (s : Snapshot) → WasRun → IsMachineSnapshot m text s → IsSnapshotOf start events s
  is_snapshot s w it = snapshot_of_run first m start events text s w.is_new w.few (stands_all start events m old new status w.stands) w.text_is it

  made_ok : (u : Unit {0}) → WasRun → SavesMachine m text name f0 f1 (Ok u) → SavesMade start events name f0 f1 status (Ok status)
  made_ok u w (inl it) = absurd (cc it.0)
  made_ok u w (inr it) = inr (it.0, is_snapshot it.0 w it.1, saved_ok (Some (saving_of name it.0)) f0 f1 status u it.2)

  made_err : (trouble : Trouble) → WasRun → SavesMachine m text name f0 f1 (Err trouble) → SavesMade start events name f0 f1 status (Err trouble)
  made_err trouble w (inl it) = inl (cc it.0, it.1)
  made_err trouble w (inr it) = inr (it.0, is_snapshot it.0 w it.1, saved_err (Some (saving_of name it.0)) f0 f1 status trouble it.2)

  pub snaps_ok : (u : Unit {0}) → WasRun → SavesMachine m text name f0 f1 (Ok u) → SnapsTo start events name m f0 f1 old new (Ok status)
  snaps_ok u w it = record { written = Ok status; writes = w.writes; saves = made_ok u w it; stands = w.stands }

  pub snaps_err : (trouble : Trouble) → WasRun → SavesMachine m text name f0 f1 (Err trouble) → SnapsTo start events name m f0 f1 old new (Err trouble)
  snaps_err trouble w it = record { written = Ok status; writes = w.writes; saves = made_err trouble w it; stands = w.stands }

-- ---- what ends before it is saved

pub snaps_none : (start : State) (events : List Event) (name : List ℕ) (m : Machine) (files : FilesState) (sink : SinkState) → IsNew m start →
    SnapsTo start events name m files files sink sink (Err Memory)
snaps_none start events name m files sink is_new = record {
  written = Err Memory;
  writes = wanting_writes Status.Done (run start events).journal.printed sink;
  saves = (refl, refl);
  stands = new_stands m start events sink is_new;
}

pub snaps_broke : (start : State) (events : List Event) (name : List ℕ) (m : Machine) (files : FilesState) (old new : SinkState) (trouble : Trouble) →
    Writes Status.Done (run start events).journal.printed old new (Err trouble) → StandsAfter start events m old new (Err trouble) → SnapsTo start events name m files files old new (Err trouble)
snaps_broke start events name m files old new trouble writes stands = record { written = Err trouble; writes = writes; saves = (refl, refl); stands = stands }
