-- A snapshot of a run from a measured boot is read again as it was.
use Rattle.std.proofs.Common.{◌≡◌, ℕ, ◌%◌, ◌^◌, ◌≤◌, List, length, arith, refl, subst, sym, lit<}
use Rattle.std.proofs.lemmas.List.{take_all}
use Rattle.std.proofs.Math.Nat.{zero-add}
use Rattle.sv_types.specs.Limits.{max_disk_bytes, max_events}
use Rattle.sv_types.specs.Policies.{Rules}
use Rattle.sv_types.specs.Schedule.{first_events}
use Rattle.sv_types.specs.declared.event.Counts.{Counts}
use Rattle.sv_types.specs.declared.port.PortState.{PortState}
use Rattle.sv_types.specs.declared.event.Event.{Event}
use Rattle.spec_reference.specs.Counting.{CountsAtMost}
use Rattle.spec_reference.specs.Run.{run}
use Rattle.spec_reference.specs.Start.{boot_start, start, virtio_start}
use Rattle.spec_reference.specs.VirtioStores.{reset}
use Rattle.spec_reference.specs.States.{State}
use Rattle.spec_reference.specs.SavedStates.{IsSaved, disk_of}
use Rattle.script.proofs.FirstEvents.{first_few}
use Rattle.snapshot_format.specs.Snapshots.{contents}
use Rattle.snapshot_format.specs.declared.whole.Snapshot.{Snapshot}
use Rattle.laws_resume.specs.Continues.{draw_count}
use Rattle.laws_resume.specs.SavedForm.{HasDevice, IsCounted}
use Rattle.laws_resume.specs.SnapLaws.{Boot, IsSnapAfter, IsSnapshotOf}
use Rattle.laws_resume.proofs.BootDigests.{IsBoot}
use Rattle.laws_resume.proofs.SnapHolds.{snap_read_law}
use Rattle.machine.proofs.Repeated.{none_counted}
use Rattle.cli_snap.proofs.RunLemmas.{drawn_few}
use Rattle.cli_snap.specs.BlockRuns.{HoldsDisk}
use Rattle.cli_snap.specs.SnapFile.{IsDisk, SnapFileLaw}
use Rattle.cli_snap.proofs.CountsRise.{counts_law}
use Rattle.cli_snap.proofs.DisksStay.{block_law}
use Rattle.cli_snap.proofs.DevicesHave.{device_has}

-- ---- the start

-- nothing is counted yet, and the device holds the disk
pub record BeginsAnew (boot : Boot) : Type 0 where
  pub counts : (rules : Rules) (file disk : List ℕ) → CountsAtMost 0 (boot rules file disk).journal.counts
  pub disk : (rules : Rules) (file disk : List ℕ) → HoldsDisk (length disk) (boot rules file disk).devices.disk

block_counts : (rules : Rules) (file disk : List ℕ) → CountsAtMost 0 (boot_start rules file disk).journal.counts
unfolding boot_start start
block_counts rules file disk = none_counted

block_holds : (rules : Rules) (file disk : List ℕ) → HoldsDisk (length disk) (boot_start rules file disk).devices.disk
unfolding boot_start start
block_holds rules file disk = record { size = refl; block = record { sector = lit< tt; gpa = lit< tt; count = lit< tt; transfer = tt } }

virtio_counts : (rules : Rules) (file disk : List ℕ) → CountsAtMost 0 (virtio_start rules file disk).journal.counts
unfolding virtio_start start
virtio_counts rules file disk = none_counted

virtio_holds : (rules : Rules) (file disk : List ℕ) → HoldsDisk (length disk) (virtio_start rules file disk).devices.disk
unfolding virtio_start start reset
virtio_holds rules file disk = record { size = refl; moves = tt }

pub block_begins : BeginsAnew boot_start
block_begins = record { counts = block_counts; disk = block_holds }

pub virtio_begins : BeginsAnew virtio_start
virtio_begins = record { counts = virtio_counts; disk = virtio_holds }

-- ---- the snapshot

counted_in : (first : State) (events : List Event) (k : ℕ) (s : Snapshot) → CountsAtMost 0 first.journal.counts → length events ≤ k → k ≤ max_events
    → IsSnapshotOf first events s → IsCounted (contents s)
counted_in first events k s none length_few few snap =
    let made = drawn_few first events in
    let all =
    subst (λ (n : ℕ). CountsAtMost n (run first events).journal.counts) (zero-add (draw_count first events)) (counts_law first events 0 none) in
    record {
      few = subst (λ (n : ℕ). n ≤ 2 ^ 32) (sym snap.made) (omega (arith, made, length_few, few));
      counts =
          subst (λ (c : Counts). CountsAtMost s.events c) (sym snap.state.counts)
          (subst (λ (n : ℕ). CountsAtMost n (run first events).journal.counts) (sym snap.made) all);
    }

size_in : (n : ℕ) (p : PortState) (bytes : List ℕ) → HoldsDisk n (disk_of p bytes) → length bytes ≡ n
size_in n (PortState.Block b) bytes holds = holds.size
size_in n (PortState.Virtio v) bytes holds = holds.size

device_in_file : (first : State) (events : List Event) (disk : List ℕ) (s : Snapshot) → HoldsDisk (length disk) first.devices.disk → IsDisk disk
    → IsSnapshotOf first events s → HasDevice (contents s)
device_in_file first events disk s holds is snap =
    let size : length s.«machine».disk.items ≡ length disk =
    size_in (length disk) s.«machine».port s.«machine».disk.items
    (subst (λ d. HoldsDisk (length disk) d) (sym snap.state.disk) (block_law first events (length disk) holds)) in
    device_has (contents s) snap.typed.port (subst (λ (n : ℕ). n ≤ max_disk_bytes) (sym size) is.few) (subst (λ (n : ℕ). n % 512 ≡ 0) (sym size) is.sectors) snap.port

snap_after : (boot : Boot) (rules : Rules) (file disk : List ℕ) (events : List Event) (s : Snapshot) → IsSnapshotOf (boot rules file disk) events s
    → IsSnapAfter boot rules file disk events (length events) s
snap_after boot rules file disk events s snap = record {
  state =
      subst (λ (made : List Event). IsSaved (run (boot rules file disk) made) s.«machine»)
      (sym (take_all (length events) events (omega arith))) snap.state;
  text = snap.text;
}

pub snap_file_law : (boot : Boot) → IsBoot boot → BeginsAnew boot → SnapFileLaw boot
snap_file_law boot b begins rules file disk script k s measured is few snap =
    let events = first_events k script in
    snap_read_law boot b rules file disk events (length events) s measured (snap_after boot rules file disk events s snap) snap.typed
    (device_in_file (boot rules file disk) events disk s (begins.disk rules file disk) is snap)
    (counted_in (boot rules file disk) events k s (begins.counts rules file disk) (first_few k script) few snap)
