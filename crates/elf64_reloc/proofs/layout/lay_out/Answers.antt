use Rattle.std.proofs.Common.{List, ◌++◌, sym, ap, ◌∙◌}
use Rattle.std.proofs.lemmas.List.{append-nil, at_drop_all}
use Rattle.elf64_load.specs.declared.sections.sections.SectionHeader.{SectionHeader}
use Rattle.elf64_reloc.specs.Layouts.{placed_from, ends_from}
use Rattle.elf64_reloc.specs.declared.layout.Ends.{Ends}
use Rattle.elf64_reloc.proofs.Lists.{placed_more, ends_more}
use Rattle.elf64_reloc.proofs.layout.lay_out.Goals as goal

pub sections-preserved : goal.sections-preserved
sections-preserved c =
    let l = c.sections in
    let ss = c.args.sections.now in
    let within = c.sections-test.true in
    record {
      placed = placed_more l.placed.items c.push.new.self.items l.ends c.ends_after-ends.result c.placed_after.result ss l.section-index _ within
          c.in_ok-push.ensures.items c.placed_after.ensures c.ends_after-ends.ensures
          ∙ l.invariant.placed;
      ends = ends_more l.ends c.ends_after-ends.result ss l.section-index _ within c.ends_after-ends.ensures ∙ l.invariant.ends;
    }

pub returns-clause-sections : goal.returns-clause-sections
returns-clause-sections c =
    let l = c.sections in
    sym (append-nil l.placed.items)
    ∙ sym (at_drop_all (λ (ss : List SectionHeader). l.placed.items ++ placed_from l.ends ss) c.args.sections.now l.section-index c.sections-test.false)
    ∙ l.invariant.placed

pub returns-clause-size : goal.returns-clause-size
returns-clause-size c =
    let l = c.sections in
    ap (λ (e : Ends). e.text)
    (sym (at_drop_all (λ (ss : List SectionHeader). ends_from l.ends ss) c.args.sections.now l.section-index c.sections-test.false) ∙ l.invariant.ends)
