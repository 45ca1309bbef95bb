use Rattle.std.proofs.Common.{◌≡◌, ℕ, ◌+◌, ◌≤◌, List, [], ◌++◌, length, drop, true, refl, sym, ap, ◌∙◌, subst, rules}
use Rattle.spec_processor.specs.Bytes.{page_size}
use Rattle.std.specs.List.{list_all}
use Rattle.std.proofs.lemmas.List.{at_drop_all}
use Rattle.elf64_load.specs.declared.sections.sections.SectionHeader.{SectionHeader}
use Rattle.elf64_reloc.specs.Layouts.{is_good_alignment, padding}
use Rattle.elf64_reloc.specs.Modules.{text_from, text_of, whole_pages, zeros}
use Rattle.elf64_reloc.specs.Objects.{is_good_part}
use Rattle.elf64_reloc.proofs.Lists.{all_at, padding_small, text_more}
use Rattle.elf64_reloc.proofs.text.text_of.Goals as goal

pub push_section-requires-clause-part : goal.push_section-requires-clause-part
push_section-requires-clause-part c =
    let good = is_good_part c.args.object.now.file.now in
    let P : List SectionHeader → Type 0 = λ ss. list_all good ss ≡ true in
    all_at good c.deref-section-items.result.now c.sections.section-index _ c.sections-test.true (subst P (sym c.deref-section-items.ensures.value) c.requires.parts)

pub push_section-requires-clause-alignment : goal.push_section-requires-clause-alignment
push_section-requires-clause-alignment c =
    let P : List SectionHeader → Type 0 = λ ss. list_all is_good_alignment ss ≡ true in
    all_at is_good_alignment c.deref-section-items.result.now c.sections.section-index _ c.sections-test.true (subst P (sym c.deref-section-items.ensures.value) c.requires.alignments)

pub sections-preserved : goal.sections-preserved
sections-preserved c =
    let l = c.sections in
    let file = c.args.object.now.file.now in
    let new = c.push_section.new.text.items in
    let P : List SectionHeader → Type 0 = λ ss. text_from file new (drop (l.section-index + 1) ss) ≡ text_from file l.text.items (drop l.section-index ss) in
    subst P c.deref-section-items.ensures.value
    (text_more file l.text.items new c.deref-section-items.result.now l.section-index _ c.sections-test.true c.in_ok-push_section.ensures)
    ∙ l.invariant

pub push_zeros-requires : goal.push_zeros-requires
push_zeros-requires c =
    let P : ℕ → Type 0 = λ n. n ≤ page_size in
    subst P (sym c.padding-rest.ensures) (padding_small _ page_size refl)

pub returns : goal.returns
unfolding text_of
returns c =
    let l = c.sections in
    let o = c.args.object.now in
    let size : c.len.result ≡ length l.text.items = search rules in
    let all : l.text.items ≡ text_from o.file.now [] o.sections.items =
    sym (at_drop_all (λ (ss : List SectionHeader). text_from o.file.now l.text.items ss) c.deref-section-items.result.now l.section-index c.sections-test.false)
    ∙ ap (λ (ss : List SectionHeader). text_from o.file.now l.text.items (drop l.section-index ss)) c.deref-section-items.ensures.value
    ∙ l.invariant in
    c.in_ok-push_zeros.ensures
    ∙ ap (λ (n : ℕ). l.text.items ++ zeros n) (c.padding-rest.ensures ∙ ap (λ (n : ℕ). padding n page_size) size)
    ∙ ap whole_pages all
