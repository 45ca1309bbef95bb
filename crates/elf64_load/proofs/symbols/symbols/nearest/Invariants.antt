use Rattle.std.proofs.Common.{◌≡◌, ◌-◌, ◌≤◌}
use Rattle.std.specs.Prelude.{IfSome, option_map}
use Rattle.sv_types.specs.ApprovedPages.{numbers_from}
use Rattle.elf64_load.specs.Sections.{symbol_count}
use Rattle.elf64_load.specs.Views.{tables_view}
use Rattle.elf64_load.specs.Symbols.{nearest_of}
use Rattle.elf64_load.specs.SymbolsViews.{code_symbol_view}
use Rattle.elf64_load.proofs.symbols.symbols.nearest.Given as goal

-- of the symbols so far, which are the last of the file, the nearest is found
abbrev pub invariant-symbols : goal.invariant-symbols
invariant-symbols l =
    (option_map code_symbol_view l.found ≡ nearest_of (tables_view l.tables) l.address (numbers_from l.i (symbol_count l.tables.symbols.now - l.i)))
    × IfSome l.found (λ s. s.address ≤ l.address)
