-- A boot from files: its text has the policy's measure, or it is refused.
use Rattle.std.proofs.Common.{◌≡◌, ℕ, List, ap, refl, sym, ◌∙◌, subst, true, false, IsTrue}
use Rattle.std.specs.Prelude.{Ok, Err, Option, Some, is_none, is_ok}
use Rattle.sv_types.specs.Kernel.{text_of}
use Rattle.sv_types.specs.Measure.{measure}
use Rattle.sv_types.specs.Policies.{Rules, rules_within}
use Rattle.spec_reference.specs.Start.{AreWords, boot_start}
use Rattle.spec_reference.specs.States.{has_number}
use Rattle.spec_hardware.specs.Machine.{Machine}
use Rattle.spec_hardware.specs.Reaches.{IsNew}
use Rattle.elf64_load.specs.declared.image.KernelImage.{KernelImage}
use Rattle.laws_resume.specs.SnapLaws.{IsMeasuredBoot}
use Rattle.laws_resume.proofs.BootDigests.{block_boot}
use Rattle.machine.specs.Boot.{IsImageOf, image_text}
use Rattle.policy.specs.Refusals.{Judged}
use Rattle.policy.specs.Text.{rules_of_text}
use Rattle.cli_trials.specs.declared.trial.files.RunFiles.{RunFiles}
use Rattle.sv_types.specs.Schedule.{Schedule}
use Rattle.cli_trials.specs.declared.trial.order.Order.{Order}
use Rattle.cli_trials.specs.Trials.{allows_boot, boots, boots_under, is_unread, schedule_of, unread_under}

-- what else a boot asks holds of each machine that has started
pub measured_boot : (m : Machine) (rules : Rules) (image : KernelImage) (file disk : List ℕ) → IsImageOf file rules.ram_pages image → IsNew m (boot_start rules file disk) →
    measure (image_text image) ≡ rules.kernel → has_number rules.entries image.entry ≡ true → IsMeasuredBoot rules file
measured_boot m rules image file disk is_image is_new measured permitted =
    let there : (boot_start rules file disk).rules ≡ rules = block_boot.rules rules file disk in
    record {
      bootable = record {
        within = subst (λ (r : Rules). IsTrue (rules_within r)) there is_new.stands.sound.within;
        words = subst (λ (r : Rules). AreWords r.entries) there is_new.stands.sound.words;
        accepted = is_image.accepted;
        entry = ap (has_number rules.entries) (sym is_image.entry) ∙ permitted;
      };
      measured = ap (λ segments. measure (text_of segments)) (sym is_image.segments) ∙ measured;
    }

-- where the rules of the policy's text don't allow it
pub refused_boot : (files : RunFiles) (rules : Rules) → rules_of_text files.policy.now ≡ Ok rules → allows_boot rules files.image.now ≡ false → boots files ≡ false
refused_boot files rules reads bad = ap (λ (judged : Judged Rules). boots_under judged files.image.now) reads ∙ bad

-- ---- the order is judged before the boot

unread_of_refused : (judged : Judged Rules) (in_order : Order) → is_ok judged ≡ false → unread_under judged in_order ≡ false
unread_of_refused (Err fault) in_order bad = refl
unread_of_refused (Ok rules) in_order bad = absurd (cc)

-- and after the policy
pub refused_policy_first : (policy : List ℕ) (in_order : Order) → is_ok (rules_of_text policy) ≡ false → is_unread policy in_order ≡ false
refused_policy_first policy in_order bad = unread_of_refused (rules_of_text policy) in_order bad

pub order_first : (policy : List ℕ) (in_order : Order) (rules : Rules) (schedule : Schedule) → rules_of_text policy ≡ Ok rules → schedule_of in_order rules.harts ≡ Some schedule
    → is_unread policy in_order ≡ false
order_first policy in_order rules schedule reads is =
    ap (λ (judged : Judged Rules). unread_under judged in_order) reads ∙ ap (λ (s : Option Schedule). is_none s) is
