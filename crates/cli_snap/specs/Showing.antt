-- What `show` owes to what is asked of it: the text of a snapshot's file, with the names of a kernel's code where one is given,
-- or the line that says why there is none. This project's own.
use Rattle.std.specs.Prelude.{ℕ, List, length, if◌then◌else◌, nat_lt, Option, Some, None, Result, Ok, Err}
use Rattle.sv_types.specs.Kernel.{kernel_refusal, kernel_segments}
use Rattle.sv_types.specs.declared.image_fault.ImageFault.{ImageFault}
use Rattle.sv_types.specs.declared.status.Status.{Status}
use Rattle.elf64_load.specs.Names.{names_in}
use Rattle.snapshot_format.specs.Snapshots.{Contents, snapshot_read}
use Rattle.snapshot_format.specs.declared.refusal.SnapRefusal.{SnapRefusal}
use Rattle.cli_snap.specs.SnapshotTexts.{snapshot_text}
use Rattle.cli_plans.specs.declared.refusal.Refusal.{Refusal}
use Rattle.cli_plans.specs.CommandLine.{show_judged}
use Rattle.cli_plans.specs.Commands.{ShowSplit}
use Rattle.cli_plans.specs.Plans.{max_image_bytes}
use Rattle.cli_plans.specs.declared.file_fault.FileFault.{FileFault}
use Rattle.cli_plans.specs.declared.file_fault.Part.{Part}
use Rattle.cli_plans.specs.declared.refusal.Refusal.TheVariants.{File, ReadFault}
use Rattle.cli_plans.specs.Refusals.{refusal_line, refusal_status}

-- ---- show SNAPSHOT, or SNAPSHOT KERNEL

abbrev pub asked_of : Result ShowSplit Refusal → Option ShowSplit
asked_of (Ok asked) = Some asked
asked_of (Err refusal) = None

-- the names of the files, where the words are those of the command
abbrev pub asked_in : List (List ℕ) → Option ShowSplit
asked_in words = asked_of (show_judged words)

-- ---- what is due

-- a text that is printed, or why there is none
abbrev pub Due : Type 0
Due = Result (List ℕ) Refusal

abbrev pub shown_with : Contents → (file : List ℕ) → Option ImageFault → Due
shown_with s file None = Ok (snapshot_text (Some (names_in file (kernel_segments file))) s)
shown_with s file (Some fault) = Err (File (FileFault.Image fault))

-- of a snapshot, and of a kernel's file of these bytes, which is judged for the snapshot's RAM
unfoldable pub due_with_kernel : Contents → (file : List ℕ) → Due
due_with_kernel s file = shown_with s file (kernel_refusal file (length s.protection))

-- for a kernel's name that holds this
abbrev pub held_kernel : Contents → Option (List ℕ) → Due
held_kernel s None = Err (ReadFault Part.Image)
held_kernel s (Some file) = if nat_lt max_image_bytes (length file) then Err (File (FileFault.Longer Part.Image)) else due_with_kernel s file

-- of a snapshot, by the name of the kernel, where it is given
abbrev pub shown : (held : List ℕ → Option (List ℕ)) → (kernel : Option (List ℕ)) → Contents → Due
shown held None s = Ok (snapshot_text None s)
shown held (Some name) s = held_kernel s (held name)

-- the snapshot is judged before the kernel is read
abbrev pub read_shown : (held : List ℕ → Option (List ℕ)) → (kernel : Option (List ℕ)) → Result Contents SnapRefusal → Due
read_shown held kernel (Ok s) = shown held kernel s
read_shown held kernel (Err refusal) = Err (File (FileFault.Snapshot refusal))

-- for a snapshot's name that holds this
abbrev pub held_snapshot : (held : List ℕ → Option (List ℕ)) → (kernel : Option (List ℕ)) → Option (List ℕ) → Due
held_snapshot held kernel None = Err (ReadFault Part.Snapshot)
held_snapshot held kernel (Some bytes) = read_shown held kernel (snapshot_read bytes)

-- what is due for names that hold this
abbrev pub held_shown : (held : List ℕ → Option (List ℕ)) → ShowSplit → Due
held_shown held asked = held_snapshot held asked.kernel (held asked.saved)

-- all bytes that are due, and the status
abbrev pub bytes_due : Due → List ℕ
bytes_due (Ok text) = text
bytes_due (Err refusal) = refusal_line refusal

abbrev pub status_due : Due → Status
status_due (Ok text) = Status.Done
status_due (Err refusal) = refusal_status refusal
