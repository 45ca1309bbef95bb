-- The text of a machine is that of the state that it stands for.
use Rattle.std.proofs.Common.{◌≡◌, ◌∙◌, ℕ, ◌≤◌, List, Result, Ok, Err, IfOk, Vec, ap, length, map, refl, subst, sym}
use Rattle.std.specs.declared.alloc.Global.{Global}
use Rattle.spec_processor.specs.Regions.{max_ram_pages}
use Rattle.sv_types.proofs.PolicyLimits.{few_pages}
use Rattle.sv_types.specs.Kernel.{LoadedSegment, text_of}
use Rattle.sv_types.specs.Measure.{digests_of}
use Rattle.sv_types.specs.Policies.{Rules}
use Rattle.elf64_load.specs.declared.image.KernelImage.{KernelImage}
use Rattle.spec_reference.specs.Start.{image_start}
use Rattle.spec_reference.specs.States.{State, Disk}
use Rattle.spec_hardware.specs.Machine.{Machine}
use Rattle.spec_hardware.specs.Reaches.{IsNew}
use Rattle.spec_hardware.specs.StandsFor.{StandsFor, Unseen, machine_of}
use Rattle.snapshot_format.specs.declared.whole.TextPage.{TextPage}
use Rattle.laws_resume.proofs.Standings.{in_order}
use Rattle.laws_resume.proofs.BootDigests.{image_digests}
use Rattle.laws_resume.proofs.TextPages.{text_again}
use Rattle.laws_resume.specs.TextPages.{digested_text, paired_text, text_in}
use Rattle.machine.specs.Boot.{HasDigests, IsImageOf, image_text}

-- there are no more protections than the most pages
pub pages_few : (m : Machine) (r : State) → StandsFor m r → length m.protections ≤ max_ram_pages
pages_few m r stands = let order = in_order m r stands in subst (λ n. n ≤ max_ram_pages) (sym order.pages) (few_pages m.rules order.within)

text_seen : (o : Unseen) (r : State) → text_in (machine_of o r).region.ram (machine_of o r).protections ≡ digested_text r
unfolding machine_of
text_seen o r = refl

text_stands : (m : Machine) (r : State) → StandsFor m r → text_in m.region.ram m.protections ≡ digested_text r
text_stands m r stands = subst (λ (x : Machine). text_in x.region.ram x.protections ≡ digested_text r) (sym stands.same) (text_seen stands.unseen r)

-- a text that is paired with its own digests is that of each state that the machine stands for
pub text_states : {E : Type 0} (m : Machine) (digests : List (List ℕ)) (text : Result (Vec TextPage Global) E) → HasDigests m digests
    → IfOk text (λ text. text.items ≡ paired_text m.protections digests)
    → IfOk text (λ text. (r : State) → StandsFor m r → text.items ≡ digested_text r)
text_states m digests (Ok text) has is =
    λ r stands. is ∙ ap (paired_text m.protections) has ∙ text_again m.region.ram m.protections ∙ text_stands m r stands
text_states m digests (Err e) has is = is

-- the digests of a boot's measure are those of the machine's text
pub boot_digests : (m : Machine) (rules : Rules) (image : KernelImage) (file : List ℕ) (disk : Disk) (digests : List (List ℕ))
    → digests ≡ digests_of (image_text image) → IsImageOf file rules.ram_pages image → IsNew m (image_start rules file disk) → HasDigests m digests
boot_digests m rules image file disk digests counted is new =
    counted
    ∙ ap (λ (segments : List LoadedSegment). digests_of (text_of segments)) is.segments
    ∙ image_digests rules file disk is.accepted new.stands.sound
    ∙ ap (map (λ (t : TextPage). t.digest)) (sym (text_stands m (image_start rules file disk) new.stands))
