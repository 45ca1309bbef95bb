use Rattle.std.proofs.Common.{◌≡◌, [], drop}
use Rattle.elf64_reloc.specs.Modules.{ordered_from}
use Rattle.elf64_reloc.proofs.order.ordered_sites.Given as goal

abbrev pub invariant-sites : goal.invariant-sites
invariant-sites l = ordered_from l.entries.entries (drop l.site-index l.sites) ≡ ordered_from [] l.sites
