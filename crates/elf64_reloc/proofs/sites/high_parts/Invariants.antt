use Rattle.std.proofs.Common.{◌≡◌, ℕ, drop}
use Rattle.std.specs.Prelude.{find}
use Rattle.std.specs.BTreeMap.{get}
use Rattle.std.specs.Ordering.{nat_cmp}
use Rattle.elf64_reloc.specs.Modules.{is_high_at}
use Rattle.elf64_reloc.proofs.sites.high_parts.Given as goal

abbrev pub invariant-relocations : goal.invariant-relocations
invariant-relocations l = (place : ℕ) → get nat_cmp l.highs place ≡ find (is_high_at place) (drop l.i l.relocations)
