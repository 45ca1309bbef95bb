use Rattle.std.proofs.Common.{◌≡◌, List, Ok, sym, ◌∙◌, ap, subst}
use Rattle.std.specs.Prelude.{find, IfOk, IfErr}
use Rattle.std.specs.BTreeMap.{get}
use Rattle.std.specs.Ordering.{nat_cmp}
use Rattle.sv_types.specs.declared.module.Site.{Site}
use Rattle.elf64_load.specs.NameTables.{number_by_name}
use Rattle.elf64_reloc.specs.Modules.{is_high_at}
use Rattle.elf64_reloc.specs.Refusals.{Judged, Refuses}
use Rattle.elf64_reloc.specs.Views.{object_view}
use Rattle.elf64_reloc.specs.declared.relocations.Relocation.{Relocation}
use Rattle.elf64_reloc.proofs.Lists.{judging_same}
use Rattle.elf64_reloc.proofs.read.sites_of.Goals as goal

pub returns-clause-ok : goal.returns-clause-ok
returns-clause-ok c =
    let P : Judged (List Site) → Type 0 = λ j. IfOk c.fields_by.result (λ sites. j ≡ Ok sites.items) in
    subst P
    (judging_same (object_view c.args.object.now) c.args.exports.now c.args.placed.now c.deref.result.now (number_by_name c.in_ok-gathered.gathered.bases) (get nat_cmp c.in_ok-gathered.gathered.highs)
    c.requires.placed
    (c.deref.ensures.value ∙ c.in_ok-gathered.ensures.relocations)
    c.in_ok-gathered.ensures.bases
    (λ place. c.in_ok-gathered.ensures.highs place ∙ ap (λ (rs : List Relocation). find (is_high_at place) rs) (sym c.deref.ensures.value)))
    c.fields_by.ensures.ok

pub returns-clause-refused : goal.returns-clause-refused
returns-clause-refused c =
    let P : Judged (List Site) → Type 0 = λ j. IfErr c.fields_by.result (Refuses j) in
    subst P
    (judging_same (object_view c.args.object.now) c.args.exports.now c.args.placed.now c.deref.result.now (number_by_name c.in_ok-gathered.gathered.bases) (get nat_cmp c.in_ok-gathered.gathered.highs)
    c.requires.placed
    (c.deref.ensures.value ∙ c.in_ok-gathered.ensures.relocations)
    c.in_ok-gathered.ensures.bases
    (λ place. c.in_ok-gathered.ensures.highs place ∙ ap (λ (rs : List Relocation). find (is_high_at place) rs) (sym c.deref.ensures.value)))
    c.fields_by.ensures.refused
