use Rattle.std.proofs.Common.{◌≡◌, ℕ, List, ◌∙◌, ap, refl, subst, Ok}
use Rattle.sv_types.specs.Policies.{rules_of}
use Rattle.spec_reference.specs.Start.{boot_start}
use Rattle.spec_hardware.specs.Reaches.{IsNew}
use Rattle.laws_resume.specs.SnapLaws.{IsMeasuredBoot}
use Rattle.policy.specs.Text.{rules_of_text}
use Rattle.cli_debug.proofs.beginning.FilesBeginningBeginning.begin.Goals as goal

pub returns : goal.returns
returns g c =
    let b = c.args.self.now in
    let rules = rules_of b.policy in
    let reads = ap rules_of_text c.files.ensures.policy ∙ b.reads in
    let booted = c.in-Ok.booted.«machine» in
    let new : IsNew booted (boot_start rules b.parts.image.items b.parts.disk.items) =
    subst (λ (disk : List ℕ). IsNew booted (boot_start rules b.parts.image.items disk)) c.files.ensures.disk
    (subst (λ (file : List ℕ). IsNew booted (boot_start rules file c.files.result.disk.now)) c.files.ensures.image (c.in-Ok.ensures.new rules reads)) in
    record {
      new = new;
      journal = c.in-Ok.ensures.booted.journal;
      text = c.in_ok-text.ensures (boot_start rules b.parts.image.items b.parts.disk.items) new.stands;
      measured = record {
        rules = rules;
        file = b.parts.image.items;
        disk = b.parts.disk.items;
        same = refl;
        measured = subst (IsMeasuredBoot rules) c.files.ensures.image (c.in-Ok.ensures.measured rules reads);
        disk_is = record { sectors = b.sectors; few = b.few };
      };
    }
