-- The lines of modules and of devices. This project's own.
use Rattle.std.specs.Prelude.{ℕ, List, [], ◌++◌, length, Bool, true, false, Option, Some, None, codes}
use Rattle.std.specs.Fmt.{decimal}
use Rattle.spec_reference.specs.declared.saved_machine.whole.SavedLoad.{SavedLoad}
use Rattle.sv_types.specs.Output.{line_end, address_text}
use Rattle.sv_types.specs.declared.block.BlockCommand.{BlockCommand}
use Rattle.sv_types.specs.declared.block.BlockState.{BlockState}
use Rattle.sv_types.specs.declared.block.BlockStatus.{BlockStatus}
use Rattle.sv_types.specs.declared.block.BlockStatus.TheVariants as status
use Rattle.sv_types.specs.declared.port.PortState.{PortState}
use Rattle.sv_types.specs.declared.saved.ModulePlacement.{ModulePlacement}
use Rattle.sv_types.specs.declared.virtio.VirtioState.{VirtioState}
use Rattle.cli_snap.specs.Lines.{lines_of}

-- ---- modules

unfoldable pub module_places : ModulePlacement → List ℕ
module_places m =
    decimal m.id ++ (codes " gpa " ++ (address_text m.gpa ++ (codes " va " ++ (address_text m.va ++ (codes " data " ++ address_text m.data_va)))))

unfoldable pub module_line : ModulePlacement → List ℕ
module_line m = codes "module " ++ (module_places m ++ line_end)

unfoldable pub module_lines : List ModulePlacement → List ℕ
module_lines modules = lines_of (λ place m. module_line m) 0 modules

unfoldable pub load_line : Option SavedLoad → List ℕ
load_line None = []
load_line (Some load) =
    codes "load " ++ (module_places load.«module» ++ (codes " hart " ++ (decimal load.hart ++ (codes " left " ++ (decimal load.left ++ line_end)))))

abbrev pub init_line : (retired : Bool) → List ℕ
init_line true = codes "init retired" ++ line_end
init_line false = []

-- ---- devices

-- the bytes of input that wait
unfoldable pub console_line : List ℕ → List ℕ
console_line input = codes "console " ++ (decimal (length input) ++ line_end)

abbrev pub command_name : BlockCommand → List ℕ
command_name BlockCommand.DiskToMemory = codes "read"
command_name BlockCommand.MemoryToDisk = codes "write"

unfoldable pub status_text : BlockStatus → List ℕ
status_text status.Idle = codes "idle"
status_text (status.Busy command done) = codes "busy " ++ (command_name command ++ (codes " beats " ++ decimal done))
status_text status.Done = codes "done"
status_text status.Denied = codes "denied"
status_text status.OutOfRange = codes "range"

unfoldable pub block_line : BlockState → List ℕ
block_line b =
    codes "block sector " ++ (decimal b.sector ++ (codes " gpa " ++ (address_text b.gpa ++ (codes " count " ++ (decimal b.count ++
    (codes " " ++ (status_text b.status ++ line_end)))))))

unfoldable pub virtio_line : VirtioState → List ℕ
virtio_line v = codes "virtio status " ++ (decimal v.status ++ (codes " accepted " ++ (decimal v.accepted ++ line_end)))

-- by the device that the disk is behind
abbrev pub port_line : PortState → List ℕ
port_line (PortState.Block block) = block_line block
port_line (PortState.Virtio virtio) = virtio_line virtio

-- in bytes
unfoldable pub disk_line : List ℕ → List ℕ
disk_line bytes = codes "disk " ++ (decimal (length bytes) ++ line_end)
