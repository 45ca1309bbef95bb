-- What callers see of what relocations are judged by.
use Rattle.std.specs.BTreeMap.{get}
use Rattle.std.specs.Ordering.{nat_cmp}
use Rattle.elf64_reloc.specs.Modules as spec
use Rattle.elf64_reloc.specs.Views.{names_view}
use Rattle.elf64_reloc.specs.declared.sites.Judging.{Judging}

abbrev pub judging_view : Judging → spec.Judging
judging_view j = record { names = names_view j.names; high_at = get nat_cmp j.highs.now }
