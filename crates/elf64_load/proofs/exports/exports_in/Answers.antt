use Rattle.std.proofs.Common.{◌≡◌, ◌∙◌, ◌+◌, ◌<◌, ◌≤◌, ℕ, List, [], ◌∷◌, ◌++◌, length, drop, get_or, Option, Ok, Err, refl, ap, sym}
use Rattle.std.proofs.lemmas.List.{at_drop_more, at_drop_all}
use Rattle.sv_types.specs.declared.image_fault.ImageFault.{ImageFault}
use Rattle.sv_types.specs.declared.policy.Export.{Export}
use Rattle.elf64_load.proofs.Refusals.{refusal_known}
use Rattle.sv_types.specs.Steps.{◌>>=◌}
use Rattle.elf64_load.specs.Judged.{each}
use Rattle.elf64_load.specs.Sections.{Tables}
use Rattle.elf64_load.specs.Views.{tables_view}
use Rattle.elf64_load.specs.NameTables as at_name
use Rattle.elf64_load.specs.Exports.{address_of, export_at, export_of}
use Rattle.elf64_load.specs.Refusals.{Judged, Refuses, as_answer}
use Rattle.elf64_load.specs.declared.read.ElfRefusal.TheVariants.{Fault, Memory}
use Rattle.elf64_load.proofs.exports.exports_in.Goals as goal

module _ (tables : Tables) (exports : List Export) (names : List (List ℕ)) (i : ℕ) (look : List ℕ → Option ℕ) where
  -- what is found after the next export
  abbrev after_next : Export → Judged (List Export)
  after_next export = each (export_of tables) (exports ++ export ∷ []) (drop (i + 1) names)

  at_next : (name : List ℕ) (next : Judged Export) → i < length names → name ≡ get_or names i name → ((wanted : List ℕ) → look wanted ≡ address_of tables wanted)
      → next ≡ export_at name (look name) → each (export_of tables) exports (drop i names) ≡ (next >>= after_next)
  at_next name next within item known is =
      at_drop_more (each (export_of tables) exports) names i name within
      ∙ ap (λ (n : List ℕ). export_of tables n >>= after_next) (sym item)
      ∙ ap (λ (o : Option ℕ). export_at name o >>= after_next) (sym (known name))
      ∙ ap (λ (r : Judged Export). r >>= after_next) (sym is)

  -- one export more
  export_more : (after : List Export) (export : Export) (name : List ℕ) → i < length names → name ≡ get_or names i name
      → ((wanted : List ℕ) → look wanted ≡ address_of tables wanted) → Ok export ≡ export_at name (look name) → after ≡ exports ++ export ∷ []
      → each (export_of tables) exports (drop i names) ≡ each (export_of tables) [] names → each (export_of tables) after (drop (i + 1) names) ≡ each (export_of tables) [] names
  export_more after export name within item known is more so_far =
      ap (λ (es : List Export). each (export_of tables) es (drop (i + 1) names)) more ∙ sym (at_next name (Ok export) within item known is) ∙ so_far

  -- all exports
  all_found : length names ≤ i → each (export_of tables) exports (drop i names) ≡ each (export_of tables) [] names → each (export_of tables) [] names ≡ Ok exports
  all_found ended so_far = sym so_far ∙ at_drop_all (each (export_of tables) exports) names i ended

  -- a name that isn't defined
  refused_next : (fault : ImageFault) (name : List ℕ) → i < length names → name ≡ get_or names i name
      → ((wanted : List ℕ) → look wanted ≡ address_of tables wanted) → Err fault ≡ export_at name (look name)
      → each (export_of tables) exports (drop i names) ≡ each (export_of tables) [] names → Refuses (each (export_of tables) [] names) (Fault fault)
  refused_next fault name within item known is so_far not_memory =
      ap (λ (judged : Judged (List Export)). as_answer judged) (sym so_far ∙ at_next name (Err fault) within item known is)

pub names-preserved : goal.names-preserved
names-preserved c =
    let l = c.names in
    export_more (tables_view c.args.tables.now) l.exports.items c.args.names.now l.name-index (at_name.number_by_name c.in_ok-addresses.addresses) c.push.new.self.items c.in_ok-export.export
    c.name-item.result c.names-test.true c.name-item.is c.in_ok-addresses.ensures c.in_ok-export.ensures c.in_ok-push.ensures.items l.invariant

pub returns-clause-ok : goal.returns-clause-ok
returns-clause-ok c =
    let l = c.names in
    all_found (tables_view c.args.tables.now) l.exports.items c.args.names.now l.name-index (at_name.number_by_name c.in_ok-addresses.addresses) c.names-test.false l.invariant

pub returns-in_err-export-clause-refused : goal.returns-in_err-export-clause-refused
returns-in_err-export-clause-refused c =
    let l = c.names in
    refusal_known (Refuses (each (export_of (tables_view c.args.tables.now)) [] c.args.names.now)) c.from_residual-in_err-export.result (Fault c.in_err-export.field-0.0)
    c.from_residual-in_err-export.ensures.1
    (refused_next (tables_view c.args.tables.now) l.exports.items c.args.names.now l.name-index (at_name.number_by_name c.in_ok-addresses.addresses) c.in_err-export.field-0.0
    c.name-item.result c.names-test.true c.name-item.is c.in_ok-addresses.ensures c.in_err-export.ensures l.invariant)

pub returns-in_err-push-clause-refused : goal.returns-in_err-push-clause-refused
returns-in_err-push-clause-refused c =
    refusal_known (Refuses (each (export_of (tables_view c.args.tables.now)) [] c.args.names.now)) c.from_residual-in_err-push.result Memory c.from_residual-in_err-push.ensures.1
    (λ not_memory. absurd (not_memory refl))
