use Rattle.std.proofs.Common.{◌∙◌, true, refl}
use Rattle.sv_types.specs.Policies.{rules_of}
use Rattle.page_guard.proofs.Stays.{stays_same, stays_further}
use Rattle.snapshot_format.proofs.TakenLoops.{modules_end, modules_go_on}
use Rattle.snapshot_format.specs.Judgements.{fits, loaded_pages}
use Rattle.machine.proofs.Approved.{all_at, module_free}
use Rattle.machine.proofs.resumed.guard.approve_modules.Goals as goal

pub modules-init : goal.modules-init
modules-init c = (refl, stays_same c.args.mem.now c.args.guard.now c.requires.tables_match)

pub approve_module-requires-clause-fitting : goal.approve_module-requires-clause-fitting
approve_module-requires-clause-fitting c = all_at (fits (rules_of c.args.policy.now)) c.args.modules.now c.modules.about-index _ c.requires.fitting c.modules-test.true

pub approve_module-requires-clause-pages : goal.approve_module-requires-clause-pages
approve_module-requires-clause-pages c = c.modules.invariant.1.size ∙ c.requires.pages

pub approve_module-requires-clause-free : goal.approve_module-requires-clause-free
approve_module-requires-clause-free c =
    module_free (rules_of c.args.policy.now) c.args.modules.now c.modules.about-index _ c.args.guard.now.pages c.modules.guard.pages
    (loaded_pages (rules_of c.args.policy.now) c.args.modules.now) c.modules-test.true c.requires.free c.modules.invariant.0

pub modules-preserved : goal.modules-preserved
modules-preserved c = (
  modules_go_on (rules_of c.args.policy.now) c.args.modules.now c.modules.about-index _ _ c.modules.guard.pages c.approve_module.new.guard.pages true c.modules-test.true refl
      c.approve_module.ensures.guard c.modules.invariant.0,
  stays_further c.args.mem.now c.modules.mem c.approve_module.new.mem c.args.guard.now c.modules.guard c.approve_module.new.guard c.modules.invariant.1 c.approve_module.ensures.tables_match,
)

pub returns-clause-guard : goal.returns-clause-guard
returns-clause-guard c = modules_end (rules_of c.args.policy.now) c.args.modules.now c.modules.about-index _ c.modules.guard.pages c.modules-test.false c.modules.invariant.0
