use Rattle.std.proofs.Common.{◌≡◌, ℕ, ◌+◌, List, drop}
use Rattle.std.specs.List.{position_from}
use Rattle.std.specs.Str.{bytes_eq}
use Rattle.elf64_load.specs.NameTables.{number_by_name}
use Rattle.elf64_reloc.proofs.symbols.export_bases.Given as goal

abbrev pub invariant-exports : goal.invariant-exports
invariant-exports l = (name : List ℕ) → number_by_name l.bases name ≡ position_from (λ e. bytes_eq e.name name) (3 + l.i) (drop l.i l.exports)
