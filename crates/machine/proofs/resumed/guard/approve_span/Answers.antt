use Rattle.sv_types.specs.declared.protection.Protection.TheVariants.{Approved}
use Rattle.machine.proofs.Approved.{span_busy, span_set}
use Rattle.machine.proofs.resumed.guard.approve_span.Goals as goal

pub unreachable-requires : goal.unreachable-requires
unreachable-requires c = span_busy Approved c.args.guard.now.pages c.args.span c.in_default.field-0.page c.requires.free c.in_default.ensures.taken

pub returns-clause-guard : goal.returns-clause-guard
returns-clause-guard c =
    span_set c.args.guard.now.pages c.hold.new.self.pages c.approve.new.self.pages c.args.span c.in-Ok.hold c.in-Ok.ensures.free c.in-Ok.ensures.guard c.in-Ok.ensures.hold
    c.approve.ensures.guard
