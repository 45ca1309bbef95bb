-- Traps, returns, demotions and stops, by the side that the hart was on.
use Rattle.std.proofs.Common.{◌≡◌, ℕ, Bool, false, refl}
use Rattle.std.specs.Prelude.{Option, Some, None}
use Rattle.sv_types.specs.Policies.{Rules}
use Rattle.sv_types.specs.declared.view.View.{View}
use Rattle.spec_processor.specs.Traps.{trap_target, mode_at_return}
use Rattle.spec_processor.specs.declared.mode.Mode.{Mode}
use Rattle.spec_processor.specs.declared.mode.Mode.TheVariants.{Kernel, User}
use Rattle.spec_reference.specs.Trapping.{entry_in}
use Rattle.hart.specs.Cores.{core_of}
use Rattle.hart.specs.declared.hart.Hart.{Hart}
use Rattle.spec_hardware.specs.HwHarts.{hw_at_trap, hw_at_return, hw_stopped, hw_outside}
use Rattle.spec_hardware.specs.StandsFor.{hregs_in, kernel_view}
use Rattle.page_guard.specs.Privileges.{mode_of, entry_of, view_at_trap, view_at_return, view_outside}
use Rattle.monitor_exits.specs.HwOfSlots.{hw_of}
use Rattle.monitor_exits.specs.Trapped.{in_handler, back_from_handler}

-- a hart in kernel mode, by its entry
in_kernel : (hart : Hart) (entry : Option ℕ)
    → hw_of hart (kernel_view entry) ≡ record { core = core_of hart.core (hregs_in Kernel entry); started = hart.started; entry = entry }
in_kernel hart None = refl
in_kernel hart (Some i) = refl

-- on the side of its trap
pub at_trap : (rules : Rules) (interrupt : Bool) (cause tval : ℕ) (hart : Hart) (view : View)
    → hw_of (in_handler hart (mode_of view) interrupt cause tval) (view_at_trap rules view (trap_target hart.core.csrs.vstvec interrupt cause))
    ≡ hw_at_trap rules interrupt cause tval (hw_of hart view)
unfolding hw_at_trap
at_trap rules interrupt cause tval hart View.Kernel = refl
at_trap rules interrupt cause tval hart View.User = in_kernel (in_handler hart User interrupt cause tval) _
at_trap rules interrupt cause tval hart (View.Entry i) = refl

-- ---- the return

to_mode : (hart : Hart) (view : View) (to : Mode) → mode_of view ≡ Kernel
    → hw_of hart (view_at_return to view) ≡ record { core = core_of hart.core (hregs_in to (entry_in to (entry_of view))); started = hart.started; entry = entry_in to (entry_of view) }
to_mode hart View.Kernel Kernel kernel = refl
to_mode hart View.User Kernel kernel = cc
to_mode hart (View.Entry i) Kernel kernel = refl
to_mode hart view User kernel = refl

pub at_return : (hart : Hart) (view : View) → mode_of view ≡ Kernel
    → hw_of (back_from_handler hart) (view_at_return (mode_at_return hart.core.csrs.vsstatus) view) ≡ hw_at_return (hw_of hart view)
unfolding hw_at_return
at_return hart view kernel = to_mode (back_from_handler hart) view (mode_at_return hart.core.csrs.vsstatus) kernel

pub mode_after : (view : View) (to : Mode) → mode_of view ≡ Kernel → mode_of (view_at_return to view) ≡ to
mode_after view Kernel kernel = kernel
mode_after view User kernel = refl

-- ---- out of an entry

pub left_entry : (hart : Hart) (view : View) → hw_of hart (view_outside view) ≡ hw_outside (hw_of hart view)
unfolding hw_outside
left_entry hart View.Kernel = refl
left_entry hart View.User = refl
left_entry hart (View.Entry i) = refl

-- a hart that is stopped
abbrev pub hart_at_stop : Hart → Hart
hart_at_stop hart = record hart { core = record hart.core { reservation = None }; started = false }

pub at_stop : (hart : Hart) (view : View) → hw_of (hart_at_stop hart) (view_outside view) ≡ hw_stopped (hw_of hart view)
unfolding hw_stopped
at_stop hart View.Kernel = refl
at_stop hart View.User = refl
at_stop hart (View.Entry i) = refl
