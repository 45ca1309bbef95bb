use Rattle.sv_types.specs.Policies.{rules_of}
use Rattle.snapshot_format.proofs.TakenLoops.{modules_go_on, modules_break, modules_end}
use Rattle.snapshot_format.proofs.resume.pages.take_modules.Goals as goal

pub modules-preserved : goal.modules-preserved
modules-preserved c =
    modules_go_on (rules_of c.args.policy.now) c.args.modules.now c.modules.about-index _ _ c.modules.guard c.take_module.new.guard c.take_module.result c.modules-test.true
    c.if-not-take_module.false c.take_module.ensures c.modules.invariant

pub returns-then-not-take_module : goal.returns-then-not-take_module
returns-then-not-take_module c =
    modules_break (rules_of c.args.policy.now) c.args.modules.now c.modules.about-index _ _ c.modules.guard c.take_module.new.guard c.take_module.result c.modules-test.true
    c.if-not-take_module.true c.take_module.ensures c.modules.invariant

pub returns : goal.returns
returns c = modules_end (rules_of c.args.policy.now) c.args.modules.now c.modules.about-index _ c.modules.guard c.modules-test.false c.modules.invariant
