-- The side of a hart, which is the view that it looks through: the mode that it is in, its entry, and its hypervisor registers.
-- This project's own.
use Rattle.std.specs.Prelude.{ℕ, Option, Some, None}
use Rattle.spec_processor.specs.declared.hregs.HRegs.{HRegs}
use Rattle.spec_processor.specs.declared.mode.Mode.{Mode}
use Rattle.sv_types.specs.Policies.{Rules}
use Rattle.sv_types.specs.declared.view.View.{View}
use Rattle.spec_reference.specs.Trapping.{entry_at_trap}
use Rattle.spec_hardware.specs.StandsFor.{hregs_in, kernel_view}

-- an entry is seen in kernel mode
abbrev pub mode_of : View → Mode
mode_of View.Kernel = Mode.Kernel
mode_of View.User = Mode.User
mode_of (View.Entry i) = Mode.Kernel

abbrev pub entry_of : View → Option ℕ
entry_of View.Kernel = None
entry_of View.User = None
entry_of (View.Entry i) = Some i

abbrev pub registers_of : View → HRegs
registers_of view = hregs_in (mode_of view) (entry_of view)

-- ---- how a side changes

-- the side after a trap to a target: from user mode that of the target's entry, where it is bound, and from kernel mode the same
abbrev pub view_at_trap : Rules → View → (target : ℕ) → View
view_at_trap rules view target = kernel_view (entry_at_trap rules (mode_of view) (entry_of view) target)

-- after a return to a mode: kernel mode stays in its entry
abbrev pub view_at_return : Mode → View → View
view_at_return Mode.Kernel view = view
view_at_return Mode.User view = View.User

-- out of the entry, in the same mode
abbrev pub view_outside : View → View
view_outside View.Kernel = View.Kernel
view_outside View.User = View.User
view_outside (View.Entry i) = View.Kernel
