-- The stages of a plan that binds a policy's entries.
use Rattle.std.proofs.Common.{◌≡◌, ◌∙◌, ℕ, List, length, None, refl, sym, ap, subst, Ok, Err}
use Rattle.cli_plans.specs.Commands.{ConvertSplit}
use Rattle.sv_types.specs.Kernel.{LoadedSegment, kernel_refusal, kernel_segments}
use Rattle.sv_types.specs.Policies.{Rules}
use Rattle.elf64_load.specs.Images.{segments_of}
use Rattle.elf64_load.specs.declared.image.KernelImage.{KernelImage}
use Rattle.policy_making.specs.Binding.{bound_rules}
use Rattle.policy_making.specs.Faults.{Judged, Refuses, as_answer}
use Rattle.policy_making.specs.InText.{AreOfKernel}
use Rattle.policy_making.specs.declared.bind_fault.BindFault.{BindFault}
use Rattle.policy_making.specs.declared.bind_fault.BindRefusal.{BindRefusal}
use Rattle.policy_making.specs.declared.bind_fault.BindRefusal.TheVariants as binding
use Rattle.machine.specs.Boot.{IsImageOf}
use Rattle.host_io.specs.Outside.{FilesState}
use Rattle.secvisor_cli.specs.declared.ready.Ready.TheVariants.{Save}
use Rattle.secvisor_cli.specs.declared.ready.Made.{Made}
use Rattle.secvisor_cli.specs.declared.ready.Stop.TheVariants.{Memory}
use Rattle.cli_plans.specs.Plans.{bound_plan, converted_judged, converted_line, kernel_part}
use Rattle.secvisor_cli.specs.Ready.{IsMade, IsReady, Prepares, stop_of_binding}
use Rattle.secvisor_cli.proofs.ReadyLemmas.{judge_end, judge_wants}
use Rattle.secvisor_cli.proofs.StageLemmas.{kernel_ready}

-- the image of a file is one of a kernel
pub of_kernel : (file : List ℕ) (ram_pages : ℕ) (image : KernelImage) → IsImageOf file ram_pages image → AreOfKernel ram_pages (segments_of image)
of_kernel file ram_pages image of = record { file = file; accepted = of.accepted; segments = of.segments }

-- a fault that is answered was judged
fault_judged : {A : Type 0} (judged : Judged A) (fault : BindFault) → as_answer judged ≡ Err (binding.Fault fault) → judged ≡ Err fault
fault_judged (Ok value) fault is = absurd (cc is)
fault_judged (Err found) fault is =
    let same : found ≡ fault = cc is in ap (λ (f : BindFault). Err f) same

module _ (words : ConvertSplit) (rules : Rules) (file : List ℕ) (files : FilesState) (accepted : kernel_refusal file rules.ram_pages ≡ None) where
  abbrev at_kernel : List LoadedSegment → Judged Rules
  at_kernel ss = bound_rules rules ss

  pub bound_stops : (ss : List LoadedSegment) (refusal : BindRefusal) → ss ≡ kernel_segments file → Refuses (bound_rules rules ss) refusal
      → Prepares (kernel_part rules file (bound_plan words rules file)) files files (Err (stop_of_binding refusal))
  unfolding bound_plan
  bound_stops ss (binding.Fault fault) same why =
      let judged : bound_rules rules (kernel_segments file) ≡ Err fault =
      ap at_kernel (sym same) ∙ fault_judged (bound_rules rules ss) fault (why (λ e. cc e)) in
      kernel_ready rules file (bound_plan words rules file) files files _ accepted
      (judge_end _ files _
      (subst (λ (j : Judged Rules). IsReady (converted_judged words.out j) (Err (stop_of_binding (binding.Fault fault)))) (sym judged) refl))
  bound_stops ss binding.Memory same why = kernel_ready rules file (bound_plan words rules file) files files _ accepted (judge_wants _ files)

  pub bound_wants : Prepares (kernel_part rules file (bound_plan words rules file)) files files (Err Memory)
  unfolding bound_plan
  bound_wants = kernel_ready rules file (bound_plan words rules file) files files _ accepted (judge_wants _ files)

  pub bound_ready : (ss : List LoadedSegment) (bound : Rules) (made : Made) → ss ≡ kernel_segments file → bound_rules rules ss ≡ Ok bound
      → IsMade words.out bound (converted_line (length bound.entries)) made
      → Prepares (kernel_part rules file (bound_plan words rules file)) files files (Ok (Save made))
  unfolding bound_plan
  bound_ready ss bound made same is it =
      let judged : bound_rules rules (kernel_segments file) ≡ Ok bound = ap at_kernel (sym same) ∙ is in
      kernel_ready rules file (bound_plan words rules file) files files _ accepted
      (judge_end _ files _
      (subst (λ (j : Judged Rules). IsReady (converted_judged words.out j) (Ok (Save made))) (sym judged) it))
