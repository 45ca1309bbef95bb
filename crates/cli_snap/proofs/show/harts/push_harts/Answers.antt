use Rattle.std.proofs.Common.{option_map}
use Rattle.elf64_load.specs.KernelViews.{names_view}
use Rattle.cli_snap.specs.HartTexts.{hart_text, hart_texts}
use Rattle.cli_snap.proofs.LineLists.{one_more, all_written}
use Rattle.cli_snap.proofs.show.harts.push_harts.Goals as goal

pub harts-preserved : goal.harts-preserved
harts-preserved c =
    one_more _ (hart_text (option_map names_view c.args.names)) c.args.harts.now c.harts.number _ _ _ c.harts-test.true c.harts.invariant c.in_ok-push_hart.ensures

pub returns : goal.returns
unfolding hart_texts
returns c = all_written (hart_text (option_map names_view c.args.names)) c.args.harts.now c.harts.number _ _ c.harts-test.false c.harts.invariant
