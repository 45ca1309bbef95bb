-- The files that runs begin from, by the stages of the plan of `run`.
use Rattle.std.proofs.Common.{◌≡◌, ℕ, List, Bool, IsTrue, true, refl, sym, ◌∙◌, ap, subst, inr, Option, Some, None, Result, Ok, Err, Vec, if◌then◌else◌}
use Rattle.std.specs.Str.{bytes_eq}
use Rattle.std.specs.declared.alloc.Global.{Global}
use Rattle.sv_types.specs.Kernel.{LoadedSegment, header_entry, kernel_refusal, text_of}
use Rattle.sv_types.specs.Measure.{measure}
use Rattle.sv_types.specs.Policies.{Rules}
use Rattle.sv_types.specs.Schedule.{Schedule, first_events}
use Rattle.sv_types.specs.declared.event.Event.{Event}
use Rattle.sv_types.specs.declared.image_fault.ImageFault.{ImageFault}
use Rattle.spec_reference.specs.States.{has_number}
use Rattle.elf64_load.specs.Images.{segments_of}
use Rattle.elf64_load.specs.declared.image.KernelImage.{KernelImage}
use Rattle.machine.specs.Boot.{IsImageOf}
use Rattle.host_io.specs.Outside.{FilesState}
use Rattle.cli_plans.specs.declared.command_words.command.DiskKind.{DiskKind}
use Rattle.cli_plans.specs.declared.file_fault.FileFault.{FileFault}
use Rattle.cli_plans.specs.declared.refusal.Refusal.TheVariants.{Measure, Entry}
use Rattle.cli_plans.specs.CommandLine.{RunWords, Text}
use Rattle.cli_plans.specs.Plans.{Due, Refuse, RunFrom, Plan, End, Judge, Held, max_image_bytes, max_script_bytes, policy_part, part_judged, kernel_part, disk_part}
use Rattle.cli_plans.specs.Plans.{text_part, script_part, image_measure, boot_judged, boot_plan, start_with}
use Rattle.cli_plans.specs.Reading.{FoundAs, Follows}
use Rattle.cli_plans.proofs.PlanLemmas.{follows_keeps}
use Rattle.secvisor_cli.specs.declared.ready.Stop.{Stop}
use Rattle.secvisor_cli.specs.Ready.{Passes, Staged, IsScript}
use Rattle.secvisor_cli.proofs.ReadyLemmas.{bytes_eq-same}
use Rattle.secvisor_cli.proofs.StageLemmas.{text_staged}
use Rattle.cli_trials.specs.declared.order.OwnOrder.{OwnOrder}
use Rattle.cli_trials.specs.declared.order.OwnOrder.TheVariants as own
use Rattle.cli_trials.specs.Orders.{order_schedule}
use Rattle.cli_trials.specs.Reading.{run_due}

-- ---- the image

-- a policy that was read before changes nothing that the files hold
pub held_image : (policy image file : List ℕ) (rules : Rules) (old now next : FilesState) (due : Due) → Passes (policy_part policy) rules old now →
    FoundAs now next image max_image_bytes (Held file) → IsTrue old.tells → old.held image ≡ Some file
held_image policy image file rules old now next due pass found tells =
    let kept = follows_keeps (policy_part policy (λ _. End due)) old now (Some due) (pass.follows (λ _. End due) now (Some due) (refl, refl)) in
    ap (λ (held : List ℕ → Option (List ℕ)). held image) (sym kept.held) ∙ found.1 (subst (λ (b : Bool). IsTrue b) (sym kept.tells) tells)

-- ---- the script

-- a text that was read and judged
pub text_passed : (harts : ℕ) (name : List ℕ) (text : Vec ℕ Global) (old new : FilesState) (script : Schedule) → FoundAs old new name max_script_bytes (Held text.items) →
    IsScript harts text.items (Ok script) → Passes (text_part harts name) (order_schedule harts (own.Text text)) old new
text_passed harts name text old new script fact is =
    subst (λ (s : Schedule). Passes (text_part harts name) s old new) is.0 (text_staged harts name text.items old new (Ok script) fact is)

-- a text that is named by the words
pub text_source : (harts : ℕ) (name : List ℕ) (old new : FilesState) (result : Result OwnOrder Stop) → Staged (text_part harts name) (order_schedule harts) old new result →
    Staged (script_part harts (Text name)) (order_schedule harts) old new result
unfolding script_part
text_source harts name old new (Ok order) it = record { follows = it.follows; may = it.may; faults = it.faults }
text_source harts name old new (Err stop) it = it

-- ---- the boot

abbrev entry_due : DiskKind → Rules → (file disk : List ℕ) → List Event → Option (List ℕ) → Bool → Due
entry_due kind rules file disk events save permitted = if permitted then RunFrom (start_with kind rules file disk) events save else Refuse (Entry (header_entry file))

abbrev measure_due : DiskKind → Rules → (file disk : List ℕ) → List Event → Option (List ℕ) → Bool → Due
measure_due kind rules file disk events save measured =
    if measured then entry_due kind rules file disk events save (has_number rules.entries (header_entry file)) else Refuse (Measure (image_measure file) rules.kernel)

is_measured : (rules : Rules) (file : List ℕ) (image : KernelImage) → IsImageOf file rules.ram_pages image → measure (text_of (segments_of image)) ≡ rules.kernel →
    bytes_eq (image_measure file) rules.kernel ≡ true
is_measured rules file image of measured =
    let found : measure (text_of (segments_of image)) ≡ image_measure file = ap (λ (ss : List LoadedSegment). measure (text_of ss)) of.segments in
    ap (λ (w : List ℕ). bytes_eq (image_measure file) w) (sym measured ∙ found) ∙ bytes_eq-same (image_measure file)

-- the run that is due where the image is the measured one and begins at a permitted entry
pub boot_is : (kind : DiskKind) (rules : Rules) (file disk : List ℕ) (events : List Event) (save : Option (List ℕ)) (image : KernelImage) → IsImageOf file rules.ram_pages image →
    measure (text_of (segments_of image)) ≡ rules.kernel → has_number rules.entries image.entry ≡ true →
    boot_judged kind rules file disk events save ≡ RunFrom (start_with kind rules file disk) events save
unfolding boot_judged
boot_is kind rules file disk events save image of measured permitted =
    let there : has_number rules.entries (header_entry file) ≡ true = sym (ap (λ (e : ℕ). has_number rules.entries e) of.entry) ∙ permitted in
    ap (λ (b : Bool). measure_due kind rules file disk events save b) (is_measured rules file image of measured)
    ∙ ap (λ (b : Bool). entry_due kind rules file disk events save b) there

-- ---- the stages together

abbrev after_script : RunWords → Rules → (file disk : List ℕ) → Schedule → Plan
after_script words rules file disk schedule = Judge (End (boot_judged words.kind rules file disk (first_events words.events schedule) words.save))

abbrev after_disk : RunWords → Rules → (file disk : List ℕ) → Plan
after_disk words rules file disk = script_part rules.harts words.script (after_script words rules file disk)

end_follows : (due given : Due) (files : FilesState) → given ≡ due → Follows (Judge (End given)) files files (Some due)
end_follows due given files is = inr (ap Some (sym is), refl)

pub boots_from : (words : RunWords) (rules : Rules) (file disk : List ℕ) (schedule : Schedule) (old now new : FilesState) → kernel_refusal file rules.ram_pages ≡ None →
    Passes (disk_part words.disk) disk old now → Passes (script_part rules.harts words.script) schedule now new →
    boot_judged words.kind rules file disk (first_events words.events schedule) words.save ≡ run_due words rules file disk schedule →
    Follows (kernel_part rules file (boot_plan words rules file)) old new (Some (run_due words rules file disk schedule))
unfolding kernel_part boot_plan
boots_from words rules file disk schedule old now new accepted pass scripted is =
    let due = run_due words rules file disk schedule in
    inr (subst (λ (r : Option ImageFault). Follows (part_judged FileFault.Image (boot_plan words rules file) r) old new (Some due)) (sym accepted)
    (pass.follows (after_disk words rules file) new (Some due)
    (scripted.follows (after_script words rules file disk) new (Some due) (end_follows due _ new is))))
