use Rattle.std.proofs.Common.{◌≡◌, sym, ◌∙◌, ap, subst, Ok}
use Rattle.sv_types.specs.Policies.{Rules, rules_of}
use Rattle.spec_reference.specs.Start.{boot_start}
use Rattle.spec_hardware.specs.Reaches.{IsNew}
use Rattle.snapshot_format.specs.Snapshots.{contents}
use Rattle.snapshot_format.specs.ResumedStates.{resumed_state}
use Rattle.policy.specs.Text.{rules_of_text}
use Rattle.laws_resume.proofs.BootDigests.{block_boot}
use Rattle.cli_debug.proofs.beginning.FilesBeginningBeginning.go_on.Goals as goal

pub returns-in-Ok : goal.returns-in-Ok
returns-in-Ok g c =
    let b = c.args.self.now in
    let reads : Ok (rules_of c.in_ok-policy.policy) ≡ Ok (rules_of b.policy) = sym c.in_ok-policy.ensures.rules ∙ ap rules_of_text c.deref.ensures.value ∙ b.reads in
    let read : rules_of c.in_ok-policy.policy ≡ rules_of b.policy = cc reads in
    let there = block_boot.rules (rules_of b.policy) b.parts.image.items b.parts.disk.items in
    let same : rules_of c.in_ok-policy.policy ≡ (boot_start (rules_of b.policy) b.parts.image.items b.parts.disk.items).rules = read ∙ sym there in
    record {
      new = subst (λ (rules : Rules). IsNew c.in-Ok.«machine» (resumed_state rules (contents c.args.snapshot))) same c.in-Ok.ensures.new;
      journal = c.in-Ok.ensures.journal ∙ ap (λ (rules : Rules). (resumed_state rules (contents c.args.snapshot)).journal) same;
    }
