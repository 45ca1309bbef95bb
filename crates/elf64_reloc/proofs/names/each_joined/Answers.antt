use Rattle.std.proofs.Common.{◌≡◌, ◌+◌, ◌<◌, ℕ, List, [], length, drop, get_or, Ok, ap, sym, ◌∙◌}
use Rattle.std.proofs.lemmas.List.{drop_more}
use Rattle.elf64_load.proofs.Refusals.{refusal_known}
use Rattle.elf64_load.specs.Sections.{Tables}
use Rattle.elf64_load.specs.Views.{tables_view}
use Rattle.sv_types.specs.Steps.{◌>>=◌}
use Rattle.elf64_reloc.specs.Modules.{each_joined, joined_by}
use Rattle.elf64_reloc.specs.NameKeys.{names_of}
use Rattle.elf64_reloc.specs.Refusals.{Judged, Refuses, as_answer}
use Rattle.elf64_reloc.specs.declared.refusal.RelocRefusal.{RelocRefusal}
use Rattle.elf64_reloc.specs.declared.relocations.Relocation.{Relocation}
use Rattle.elf64_reloc.proofs.RefusedOn.{refused_on}
use Rattle.elf64_reloc.proofs.names.each_joined.Goals as goal

module _ (tables : Tables) (relocations : List Relocation) (i : ℕ) (d : Relocation) (names : List (List ℕ)) where
  -- the relocation at i is joined first
  joined_at : i < length relocations → each_joined tables names (drop i relocations)
      ≡ (joined_by tables names (get_or relocations i d) >>= λ joined. each_joined tables joined (drop (i + 1) relocations))
  joined_at within = ap (λ (rs : List Relocation). each_joined tables names rs) (drop_more relocations i d within)

  joined_next : (joined : List (List ℕ)) → i < length relocations → joined_by tables names (get_or relocations i d) ≡ Ok joined
      → each_joined tables names (drop i relocations) ≡ each_joined tables [] relocations
      → each_joined tables joined (drop (i + 1) relocations) ≡ each_joined tables [] relocations
  joined_next joined within good so_far =
      sym (joined_at within ∙ ap (λ (judged : Judged (List (List ℕ))). judged >>= λ names. each_joined tables names (drop (i + 1) relocations)) good) ∙ so_far

  refused_next : (e : RelocRefusal) → i < length relocations → Refuses (joined_by tables names (get_or relocations i d)) e
      → each_joined tables names (drop i relocations) ≡ each_joined tables [] relocations → Refuses (each_joined tables [] relocations) e
  refused_next e within why so_far not_memory =
      ap (λ (judged : Judged (List (List ℕ))). as_answer judged) (sym so_far ∙ joined_at within)
      ∙ refused_on (joined_by tables names (get_or relocations i d)) (λ joined. each_joined tables joined (drop (i + 1) relocations)) e (why not_memory)

pub relocations-preserved : goal.relocations-preserved
relocations-preserved c =
    let l = c.relocations in
    record {
      named = c.in_ok-join_by.ensures.named;
      rest = joined_next (tables_view c.args.tables.now) c.args.relocations.now l.relocation-index _ (names_of l.names) (names_of c.join_by.new.names) c.relocations-test.true
          c.in_ok-join_by.ensures.ok l.invariant.rest;
    }

pub returns-in_err-join_by-clause-refused : goal.returns-in_err-join_by-clause-refused
returns-in_err-join_by-clause-refused c =
    let l = c.relocations in
    refusal_known (Refuses (each_joined (tables_view c.args.tables.now) [] c.args.relocations.now)) c.from_residual.result c.in_err-join_by.field-0.0 c.from_residual.ensures.1
    (refused_next (tables_view c.args.tables.now) c.args.relocations.now l.relocation-index _ (names_of l.names) c.in_err-join_by.field-0.0 c.relocations-test.true
    c.in_err-join_by.ensures.refused l.invariant.rest)
