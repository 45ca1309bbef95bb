use Rattle.std.proofs.Common.{sym, ◌∙◌, ap}
use Rattle.std.proofs.lemmas.Option.{same_Some}
use Rattle.sv_types.specs.Policies.{rules_of}
use Rattle.policy.specs.Text.{rules_of_text}
use Rattle.cli_debug.proofs.Accepted.{is_accepted}
use Rattle.cli_debug.proofs.beginning.FilesBeginningBeginning.script.Goals as goal

pub returns-in-Ok : goal.returns-in-Ok
returns-in-Ok c =
    let b = c.args.self.now in
    let given = c.order.ensures (rules_of b.policy).harts (is_accepted b.parts.order b.accepted) in
    let read = c.in-Ok.ensures.read (rules_of b.policy) (ap rules_of_text c.deref.ensures.value ∙ b.reads) in
    same_Some _ _ (sym read ∙ given)
