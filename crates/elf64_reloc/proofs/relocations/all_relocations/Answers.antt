use Rattle.std.proofs.Common.{◌≡◌, ◌+◌, ◌<◌, ℕ, List, ◌++◌, length, drop, get_or, append_assoc, ap, sym, ◌∙◌}
use Rattle.std.proofs.lemmas.List.{drop_more}
use Rattle.elf64_load.specs.declared.sections.sections.SectionHeader.{SectionHeader}
use Rattle.elf64_reloc.specs.Objects.{is_good_part}
use Rattle.elf64_reloc.specs.Relocations.{all_relocations, relocations_of}
use Rattle.elf64_reloc.specs.declared.layout.PlacedSection.{PlacedSection}
use Rattle.elf64_reloc.specs.declared.relocations.Relocation.{Relocation}
use Rattle.elf64_reloc.proofs.Lists.{all_at}
use Rattle.elf64_reloc.proofs.relocations.all_relocations.Goals as goal

-- one section more
section_more : (file : List ℕ) (placed : List PlacedSection) (sections : List SectionHeader) (i : ℕ) (d : SectionHeader) (before after : List Relocation) → i < length sections
    → after ≡ before ++ relocations_of file placed (get_or sections i d) → before ++ all_relocations file placed (drop i sections) ≡ all_relocations file placed sections
    → after ++ all_relocations file placed (drop (i + 1) sections) ≡ all_relocations file placed sections
section_more file placed sections i d before after within pushed so_far =
    ap (λ (rs : List Relocation). rs ++ all_relocations file placed (drop (i + 1) sections)) pushed
    ∙ append_assoc before (relocations_of file placed (get_or sections i d)) (all_relocations file placed (drop (i + 1) sections))
    ∙ ap (λ (ss : List SectionHeader). before ++ all_relocations file placed ss) (sym (drop_more sections i d within))
    ∙ so_far

pub push_relocations_of-requires : goal.push_relocations_of-requires
push_relocations_of-requires c = all_at (is_good_part c.args.file.now) c.args.sections.now c.sections.section-index _ c.sections-test.true c.requires

pub sections-preserved : goal.sections-preserved
sections-preserved c =
    let l = c.sections in
    section_more c.args.file.now c.args.placed.now c.args.sections.now l.section-index _ l.relocations.items c.push_relocations_of.new.relocations.items c.sections-test.true
    c.in_ok-push_relocations_of.ensures l.invariant
