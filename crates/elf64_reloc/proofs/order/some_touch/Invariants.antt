use Rattle.std.proofs.Common.{◌≡◌, drop}
use Rattle.elf64_reloc.specs.Modules.{some_touch}
use Rattle.elf64_reloc.proofs.order.some_touch.Given as goal

abbrev pub invariant-sites : goal.invariant-sites
invariant-sites l = some_touch 0 l.ordered ≡ some_touch l.end (drop l.site-index l.ordered)
