use Rattle.std.proofs.Common.{◌≡◌, ◌+◌, ◌<◌, ℕ, List, [], ◌++◌, length, drop, get_or, Err, refl, ap, sym, ◌∙◌}
use Rattle.std.proofs.lemmas.List.{at_drop_all, drop_more}
use Rattle.sv_types.specs.declared.module.Site.{Site}
use Rattle.elf64_load.proofs.Refusals.{refusal_known}
use Rattle.sv_types.specs.Steps.{◌>>=◌}
use Rattle.elf64_reloc.specs.JudgingViews.{judging_view}
use Rattle.elf64_reloc.specs.Modules.{Judging, each_judged, fields_judged, found_sites}
use Rattle.elf64_reloc.specs.Refusals.{Judged, Refuses, as_answer}
use Rattle.elf64_reloc.specs.declared.fault.ObjectFault.{ObjectFault}
use Rattle.elf64_reloc.specs.declared.refusal.RelocRefusal.TheVariants.{Fault, Memory}
use Rattle.elf64_reloc.specs.declared.relocations.Relocation.{Relocation}
use Rattle.elf64_reloc.specs.declared.sites.Found.{Found}
use Rattle.elf64_reloc.proofs.Lists.{judged_more}
use Rattle.elf64_reloc.proofs.sites.all_fields.Goals as goal

-- a relocation that has a fault
refused_next : (j : Judging) (sites : List Site) (fault : ObjectFault) (relocations : List Relocation) (i : ℕ) (d : Relocation) → i < length relocations
    → Err fault ≡ fields_judged j (get_or relocations i d) → each_judged j sites (drop i relocations) ≡ each_judged j [] relocations
    → Refuses (each_judged j [] relocations) (Fault fault)
refused_next j sites fault relocations i d within bad so_far not_memory =
    ap (λ (judged : Judged (List Site)). as_answer judged)
    (sym so_far
    ∙ ap (λ (rs : List Relocation). each_judged j sites rs) (drop_more relocations i d within)
    ∙ ap (λ (judged : Judged Found). judged >>= λ f. each_judged j (sites ++ found_sites f) (drop (i + 1) relocations)) (sym bad))

pub relocations-preserved : goal.relocations-preserved
relocations-preserved c =
    let l = c.relocations in
    judged_more (judging_view c.args.judging.now) l.sites.items c.push_found.new.sites.items c.in_ok-found.found c.args.relocations.now l.relocation-index _ c.relocations-test.true
    (sym c.in_ok-found.ensures) c.in_ok-push_found.ensures
    ∙ l.invariant

pub returns-clause-ok : goal.returns-clause-ok
returns-clause-ok c =
    let l = c.relocations in
    sym l.invariant
    ∙ at_drop_all (λ (rs : List Relocation). each_judged (judging_view c.args.judging.now) l.sites.items rs) c.args.relocations.now l.relocation-index c.relocations-test.false

pub returns-in_err-found-clause-refused : goal.returns-in_err-found-clause-refused
returns-in_err-found-clause-refused c =
    let l = c.relocations in
    refusal_known (Refuses (each_judged (judging_view c.args.judging.now) [] c.args.relocations.now)) c.from_residual.result (Fault c.in_err-found.field-0.0) c.from_residual.ensures.1
    (refused_next (judging_view c.args.judging.now) l.sites.items c.in_err-found.field-0.0 c.args.relocations.now l.relocation-index _ c.relocations-test.true
    c.in_err-found.ensures l.invariant)

pub returns-in_err-push_found-clause-refused : goal.returns-in_err-push_found-clause-refused
returns-in_err-push_found-clause-refused c =
    refusal_known (Refuses (each_judged (judging_view c.args.judging.now) [] c.args.relocations.now)) c.from_residual-in_err-push_found.result Memory
    c.from_residual-in_err-push_found.ensures.1 (λ not_memory. absurd (not_memory refl))
