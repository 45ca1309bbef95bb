-- The line and the status of a refusal. This project's own.
use Rattle.std.specs.Prelude.{ℕ, List, ◌++◌, Bool, true, false, codes}
use Rattle.std.specs.Fmt.{decimal}
use Rattle.sv_types.specs.Output.{line_end, hexadecimal_bytes, address_text}
use Rattle.sv_types.specs.declared.status.Status.{Status}
use Rattle.sv_types.specs.ImageFaults.{image_fault_number}
use Rattle.policy_limits.specs.PolicyFaults.{policy_fault_number}
use Rattle.elf64_reloc.specs.ObjectFaults.{object_fault_number}
use Rattle.policy_making.specs.Faults.{convert_fault_number}
use Rattle.snapshot_format.specs.Refusals as form
use Rattle.snapshot_format.specs.Judgements as resuming
use Rattle.cli_plans.specs.declared.file_fault.Part.{Part}
use Rattle.cli_plans.specs.declared.file_fault.FileFault.{FileFault}
use Rattle.cli_plans.specs.declared.file_fault.FileFault.TheVariants.{Longer, FlatPages, DiskSectors, ScriptLine}
use Rattle.cli_plans.specs.declared.refusal.Word.{Word}
use Rattle.cli_plans.specs.declared.refusal.Refusal.{Refusal}
use Rattle.cli_plans.specs.declared.refusal.Refusal.TheVariants.{NoCommand, OutOfRange, ReadFault, File, Measure, Entry}

abbrev pub part_name : Part → List ℕ
part_name Part.Flat = codes "flat"
part_name Part.Policy = codes "policy"
part_name Part.Image = codes "image"
part_name Part.Disk = codes "disk"
part_name Part.Script = codes "script"
part_name Part.Module = codes "module"
part_name Part.Convert = codes "convert"
part_name Part.Snapshot = codes "snapshot"

abbrev pub word_name : Word → List ℕ
word_name Word.Measure = codes "MEASURE"
word_name Word.Script = codes "SCRIPT"
word_name Word.Schedule = codes "SCHEDULE"
word_name Word.First = codes "FIRST"
word_name Word.Count = codes "COUNT"
word_name Word.Events = codes "EVENTS"
word_name Word.Calls = codes "N"
word_name Word.Ram = codes "RAM"
word_name Word.Harts = codes "HARTS"
word_name Word.Entries = codes "ENTRIES"
word_name Word.Init = codes "INIT"
word_name Word.Modules = codes "MODULES"

-- the part whose file has a fault, and the fault's number
abbrev pub fault_part : FileFault → Part
fault_part (Longer part) = part
fault_part FlatPages = Part.Flat
fault_part (FileFault.Policy fault) = Part.Policy
fault_part (FileFault.Image fault) = Part.Image
fault_part (FileFault.Module fault) = Part.Module
fault_part DiskSectors = Part.Disk
fault_part (ScriptLine line) = Part.Script
fault_part (FileFault.Convert fault) = Part.Convert
fault_part (FileFault.Snapshot refusal) = Part.Snapshot
fault_part (FileFault.Resume refusal) = Part.Snapshot

abbrev pub fault_number : FileFault → ℕ
fault_number (Longer part) = 0
fault_number FlatPages = 1
fault_number (FileFault.Policy fault) = policy_fault_number fault
fault_number (FileFault.Image fault) = image_fault_number fault
fault_number (FileFault.Module fault) = object_fault_number fault
fault_number DiskSectors = 1
fault_number (ScriptLine line) = line
fault_number (FileFault.Convert fault) = convert_fault_number fault
fault_number (FileFault.Snapshot refusal) = form.refusal_number refusal
fault_number (FileFault.Resume refusal) = resuming.refusal_number refusal

unfoldable pub refusal_line : Refusal → List ℕ
refusal_line NoCommand = codes "usage" ++ line_end
refusal_line (OutOfRange word) = codes "usage " ++ (word_name word ++ line_end)
refusal_line (ReadFault part) = codes "read fault " ++ (part_name part ++ line_end)
refusal_line (File fault) =
    codes "refused " ++ (part_name (fault_part fault) ++ (codes " " ++ (decimal (fault_number fault) ++ line_end)))
refusal_line (Measure found wanted) =
    codes "refused measure found " ++ (hexadecimal_bytes found ++ (codes " wanted " ++ (hexadecimal_bytes wanted ++ line_end)))
refusal_line (Entry entry) = codes "refused entry " ++ (address_text entry ++ line_end)

abbrev pub refusal_status : Refusal → Status
refusal_status NoCommand = Status.Usage
refusal_status (OutOfRange word) = Status.Usage
refusal_status (ReadFault part) = Status.ReadFault
refusal_status (File fault) = Status.Refused
refusal_status (Measure found wanted) = Status.Refused
refusal_status (Entry entry) = Status.Refused

-- lines that are put together in memory; each of the others is one of a few texts
abbrev pub is_formatted_fault : FileFault → Bool
is_formatted_fault (Longer part) = true
is_formatted_fault FlatPages = true
is_formatted_fault (FileFault.Policy fault) = true
is_formatted_fault (FileFault.Image fault) = true
is_formatted_fault (FileFault.Module fault) = true
is_formatted_fault DiskSectors = true
is_formatted_fault (ScriptLine line) = true
is_formatted_fault (FileFault.Convert fault) = true
is_formatted_fault (FileFault.Snapshot refusal) = false
is_formatted_fault (FileFault.Resume refusal) = true

abbrev pub is_formatted : Refusal → Bool
is_formatted NoCommand = false
is_formatted (OutOfRange word) = false
is_formatted (ReadFault part) = false
is_formatted (File fault) = is_formatted_fault fault
is_formatted (Measure found wanted) = true
is_formatted (Entry entry) = true

-- memory may be asked for on the way to a refusal. Words are refused without
abbrev pub takes_memory : Refusal → Bool
takes_memory NoCommand = false
takes_memory (OutOfRange word) = false
takes_memory (ReadFault part) = true
takes_memory (File fault) = true
takes_memory (Measure found wanted) = true
takes_memory (Entry entry) = true
