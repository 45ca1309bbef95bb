use Rattle.std.proofs.Common.{◌∙◌, sym}
use Rattle.spec_hardware.specs.Served.{exit_answer}
use Rattle.page_guard.specs.Privileges.{entry_of}
use Rattle.spec_reference.specs.Turn.{bound_entry}
use Rattle.monitor_exits.proofs.Entered.{by_address}
use Rattle.monitor_exits.specs.Seen.{seen_on}
use Rattle.monitor_exits.proofs.exits.exit_answer.Goals as goal

pub returns-clause-answer : goal.returns-clause-answer
unfolding exit_answer
returns-clause-answer c = λ rules same bound.
    let entry = bound_entry rules (entry_of c.args.slot.now.privilege) in
    c.answer_at.ensures.answer entry
    ∙ rw (c.mode.ensures, c.entry_address-address.ensures rules same bound) (sym (by_address (seen_on c.args.mem.now.ram c.args.slot.now.hart _ entry c.args.exit.now) c.args.exit.now entry))
