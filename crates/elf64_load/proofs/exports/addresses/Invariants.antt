use Rattle.std.proofs.Common.{◌≡◌, ℕ, ◌-◌, List}
use Rattle.elf64_load.specs.Sections.{symbols_from, symbol_count}
use Rattle.elf64_load.specs.NameTables.{number_by_name}
use Rattle.elf64_load.specs.Exports.{address_among}
use Rattle.elf64_load.proofs.exports.addresses.Given as goal

abbrev pub invariant-symbols : goal.invariant-symbols
invariant-symbols l =
    (name : List ℕ) → number_by_name l.addresses name ≡ address_among l.tables.strings.now (symbols_from l.tables.symbols.now l.i (symbol_count l.tables.symbols.now - l.i)) name
