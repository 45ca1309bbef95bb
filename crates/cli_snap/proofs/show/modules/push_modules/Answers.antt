use Rattle.cli_snap.specs.DeviceTexts.{module_line, module_lines}
use Rattle.cli_snap.proofs.LineLists.{one_more, all_written}
use Rattle.cli_snap.proofs.show.modules.push_modules.Goals as goal

pub modules-preserved : goal.modules-preserved
modules-preserved c =
    one_more _ (λ place m. module_line m) c.args.modules.now c.modules.place _ _ _ c.modules-test.true c.modules.invariant c.in_ok-push_module.ensures

pub returns : goal.returns
unfolding module_lines
returns c = all_written (λ place m. module_line m) c.args.modules.now c.modules.place _ _ c.modules-test.false c.modules.invariant
