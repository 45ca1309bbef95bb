use Rattle.std.proofs.Common.{length}
use Rattle.spec_processor.specs.Bytes.{ram_offset}
use Rattle.sv_types.specs.Policies.{rules_of}
use Rattle.module_gate.specs.Gates.{with_digests}
use Rattle.machine.proofs.Counted.{counted_next, pages_inside}
use Rattle.machine.proofs.resumed.load.count_next.Goals as goal

pub next_page-requires-clause-policy : goal.next_page-requires-clause-policy
next_page-requires-clause-policy c = c.requires.counted.pages

pub next_page-requires-clause-few : goal.next_page-requires-clause-few
next_page-requires-clause-few c = c.requires.counted.few

pub next_page-requires-clause-inside : goal.next_page-requires-clause-inside
next_page-requires-clause-inside c =
    pages_inside (ram_offset c.args.load.now.about.gpa) c.args.load.now.pages (length c.args.mem.now.ram) c.requires.counted.begins c.requires.counted.inside

pub page-requires-clause-tallied : goal.page-requires-clause-tallied
page-requires-clause-tallied c = c.requires.counted.tallied

pub returns-clause-counted : goal.returns-clause-counted
returns-clause-counted c =
    (counted_next (rules_of c.args.policy.now) c.args.mem.now.ram (with_digests c.args.gate.now.digests c.args.load.now) (with_digests c.page.new.gate.digests c.page.new.self)
    c.next_page.result.now c.requires.within c.requires.counted c.requires.left c.page.ensures.pages c.page.ensures.tallied c.next_page.ensures.bytes c.page.ensures.counted).counted

pub returns-clause-left : goal.returns-clause-left
returns-clause-left c =
    (counted_next (rules_of c.args.policy.now) c.args.mem.now.ram (with_digests c.args.gate.now.digests c.args.load.now) (with_digests c.page.new.gate.digests c.page.new.self)
    c.next_page.result.now c.requires.within c.requires.counted c.requires.left c.page.ensures.pages c.page.ensures.tallied c.next_page.ensures.bytes c.page.ensures.counted).left

pub returns-clause-about : goal.returns-clause-about
returns-clause-about c =
    (counted_next (rules_of c.args.policy.now) c.args.mem.now.ram (with_digests c.args.gate.now.digests c.args.load.now) (with_digests c.page.new.gate.digests c.page.new.self)
    c.next_page.result.now c.requires.within c.requires.counted c.requires.left c.page.ensures.pages c.page.ensures.tallied c.next_page.ensures.bytes c.page.ensures.counted).about
