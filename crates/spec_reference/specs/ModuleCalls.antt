-- The calls that load and unload modules and free the kernel's init text, the decision of a load, and the choice among all
-- calls. This project's own; the choice is RISC-V SBI's, "Binary Encoding".
use Rattle.std.specs.Prelude.{ℕ, ◌*◌, ◌%◌, Bool, not, ◌&&◌, ◌==◌, if◌then◌else◌, Option, Some, None, slice_get, is_some}
use Rattle.std.specs.List.{list_any}
use Rattle.spec_processor.specs.Bytes.{page_size, page_of, in_ram}
use Rattle.sv_types.specs.Policies.{ModuleRule}
use Rattle.sv_types.specs.ApprovedPages.{numbers_from}
use Rattle.sv_types.specs.declared.module.Span.{Span}
use Rattle.sv_types.specs.declared.saved.ModulePlacement.{ModulePlacement}
use Rattle.sv_types.specs.declared.sbi.SbiCode.{SbiCode}
use Rattle.sv_types.specs.declared.sbi.SbiCode.TheVariants.{Success, InvalidParameter, RefusedByMeasure, InvalidAddress, Already, PendingLoad}
use Rattle.spec_reference.specs.SbiFunctions.{module_load, module_unload, init_retire}
use Rattle.spec_reference.specs.States.{find_module}
use Rattle.spec_reference.specs.Calls.{Asked, Facts, code, plain, not_supported, extension_of, set_timer, put_char, get_char, shut_down}
use Rattle.spec_reference.specs.Calls.{base_call, timer_call, ipi_call, fence_call, hart_call, reset_call}
use Rattle.spec_reference.specs.declared.answers.Answer.{Answer}
use Rattle.spec_reference.specs.declared.answers.SideEffect.TheVariants.{BeginsLoad, RefusesLoad, ApprovesModule, ReleasesModule}
use Rattle.spec_reference.specs.declared.answers.SideEffect.TheVariants.{UnloadsModule, RefusesUnload, RetiresInit, RefusesRetire}
use Rattle.spec_reference.specs.declared.answers.Extension.{Extension}
use Rattle.spec_reference.specs.declared.answers.Reply.TheVariants.{Stays}

-- ---- load

abbrev pub load_refused : (id : ℕ) → SbiCode → Answer
load_refused id how = record { reply = code how; side_effect = RefusesLoad id how }

-- gpa and va are multiples of a page's size, and the pages are in RAM and free
unfoldable pub good_address : Facts → (gpa va pages : ℕ) → Bool
good_address f gpa va pages =
    gpa % page_size == 0 && va % page_size == 0 && in_ram f.ram gpa (page_size * pages)
    && not (list_any f.protected (numbers_from (page_of gpa) pages))

abbrev pub module_asked : Asked → ModulePlacement
module_asked ask = record { id = ask.a0; gpa = ask.a1; va = ask.a2; data_va = ask.a3 }

-- the first check that fails gives the answer; the hart of a load that begins stays at its call
unfoldable pub load_call : Facts → Asked → Option ModuleRule → Answer
load_call f ask None = load_refused ask.a0 InvalidParameter
load_call f ask (Some rule) =
    if f.loads then load_refused ask.a0 PendingLoad
    else if is_some (find_module f.loaded ask.a0) then load_refused ask.a0 Already
    else if good_address f ask.a1 ask.a2 rule.pages then record { reply = Stays; side_effect = BeginsLoad (module_asked ask) rule.pages }
    else load_refused ask.a0 InvalidAddress

-- the end of a load, by whether the text in RAM is good
abbrev pub load_decision : Bool → ModulePlacement → Answer
load_decision good m =
    if good then record { reply = code Success; side_effect = ApprovesModule m } else record { reply = code RefusedByMeasure; side_effect = ReleasesModule m }

-- ---- unload

abbrev pub unload_refused : (id : ℕ) → SbiCode → Answer
unload_refused id how = record { reply = code how; side_effect = RefusesUnload id how }

unfoldable pub unload_call : Facts → ℕ → Option ModulePlacement → Answer
unload_call f id None = unload_refused id InvalidParameter
unload_call f id (Some m) = if f.loads then unload_refused id PendingLoad else record { reply = code Success; side_effect = UnloadsModule m }

-- ---- retire

abbrev pub retire_refused : SbiCode → Answer
retire_refused how = record { reply = code how; side_effect = RefusesRetire how }

unfoldable pub retire_call : Facts → Option Span → Answer
retire_call f None = retire_refused InvalidParameter
retire_call f (Some span) = if f.retired then retire_refused Already else record { reply = code Success; side_effect = RetiresInit span }

unfoldable pub module_call : Facts → Asked → Answer
module_call f ask =
    if ask.function == module_load then load_call f ask (slice_get f.rules.modules ask.a0)
    else if ask.function == module_unload then unload_call f ask.a0 (find_module f.loaded ask.a0)
    else if ask.function == init_retire then retire_call f f.rules.init
    else plain not_supported

-- ---- one line for each extension

unfoldable pub call_answer_by : Facts → Asked → Option Extension → Answer
call_answer_by f ask None = plain not_supported
call_answer_by f ask (Some Extension.SetTimer) = set_timer ask.a0
call_answer_by f ask (Some Extension.PutChar) = put_char ask.a0
call_answer_by f ask (Some Extension.GetChar) = get_char f
call_answer_by f ask (Some Extension.ShutDown) = shut_down
call_answer_by f ask (Some Extension.Base) = plain (base_call ask)
call_answer_by f ask (Some Extension.Timer) = timer_call ask
call_answer_by f ask (Some Extension.Interrupt) = ipi_call f ask
call_answer_by f ask (Some Extension.Fence) = plain (fence_call f ask)
call_answer_by f ask (Some Extension.HartState) = hart_call f ask
call_answer_by f ask (Some Extension.Reset) = reset_call ask
call_answer_by f ask (Some Extension.Modules) = module_call f ask

abbrev pub answer_of : Facts → Asked → Answer
answer_of f ask = call_answer_by f ask (extension_of ask.extension)
