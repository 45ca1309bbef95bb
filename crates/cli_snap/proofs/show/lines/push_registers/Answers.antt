use Rattle.std.proofs.Common.{[], map, get_or, option_map}
use Rattle.elf64_load.specs.KernelViews.{names_view}
use Rattle.cli_snap.specs.Lines.{register_line}
use Rattle.cli_snap.proofs.LineLists.{register_more, all_written}
use Rattle.cli_snap.proofs.show.lines.push_registers.Goals as goal

pub values-preserved : goal.values-preserved
values-preserved c =
    register_more (λ name. name.now) (option_map names_view c.args.names) c.args.registers.now c.args.values.now c.values.place _ _ _ _ _ _ _ c.requires c.values-test.true c.values.invariant
    c.in_ok-extend_from_slice.ensures.items c.deref.ensures.value c.in_ok-line.ensures

pub returns : goal.returns
returns c =
    all_written (λ place value. register_line (option_map names_view c.args.names) (get_or (map (λ name. name.now) c.args.registers.now) place []) value) c.args.values.now
    c.values.place _ _ c.values-test.false c.values.invariant
