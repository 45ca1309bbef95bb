use Rattle.std.proofs.Common.{◌∙◌}
use Rattle.elf64_load.specs.Sections.{symbol_count}
use Rattle.elf64_load.specs.Views.{tables_view}
use Rattle.elf64_load.specs.Symbols.{nearest}
use Rattle.elf64_load.proofs.Windows.{all_seen}
use Rattle.elf64_load.proofs.symbols.symbols.nearest.Goals as goal

pub returns-clause-nearest : goal.returns-clause-nearest
unfolding nearest
returns-clause-nearest c =
    c.symbols.invariant.0 ∙ all_seen (tables_view c.args.tables.now) c.args.address c.symbols.i (symbol_count c.args.tables.now.symbols.now) c.symbols-test.false
