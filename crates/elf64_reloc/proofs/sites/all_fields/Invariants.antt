use Rattle.std.proofs.Common.{◌≡◌, [], drop}
use Rattle.elf64_reloc.specs.Modules.{each_judged}
use Rattle.elf64_reloc.specs.JudgingViews.{judging_view}
use Rattle.elf64_reloc.proofs.sites.all_fields.Given as goal

abbrev pub invariant-relocations : goal.invariant-relocations
invariant-relocations l = each_judged (judging_view l.judging) l.sites.items (drop l.relocation-index l.relocations) ≡ each_judged (judging_view l.judging) [] l.relocations
