use Rattle.std.proofs.Common.{◌≡◌, [], drop}
use Rattle.elf64_load.specs.Judged.{each}
use Rattle.elf64_load.specs.Views.{tables_view}
use Rattle.elf64_load.specs.Exports.{export_of}
use Rattle.elf64_load.proofs.exports.exports_in.Given as goal

abbrev pub invariant-names : goal.invariant-names
invariant-names l = each (export_of (tables_view l.tables)) l.exports.items (drop l.name-index l.names) ≡ each (export_of (tables_view l.tables)) [] l.names
