use Rattle.std.proofs.Common.{◌≡◌, subst}
use Rattle.std.specs.Prelude.{IfOk}
use Rattle.spec_hardware.specs.Machine.{Machine}
use Rattle.laws_resume.specs.TextPages.{paired_text}
use Rattle.machine.proofs.Texts.{pages_few, text_states}
use Rattle.machine.proofs.machine.Machine.text.Goals as goal

pub text_of-requires : goal.text_of-requires
text_of-requires c = record { few = pages_few c.self.inside.system c.self.invariant.state c.self.invariant.stands }

pub returns : goal.returns
returns c =
    text_states c.args.self.now c.args.digests.now c.text_of.result c.requires.digests
    (subst (λ (m : Machine). IfOk c.text_of.result (λ text. text.items ≡ paired_text m.protections c.args.digests.now)) c.self.view_is c.text_of.ensures)
