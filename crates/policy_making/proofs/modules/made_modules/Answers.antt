use Rattle.std.proofs.Common.{◌≡◌, ◌∙◌, ◌+◌, ◌<◌, ◌≤◌, ℕ, List, [], ◌∷◌, ◌++◌, length, map, drop, get_or, Ok, refl, ap, sym}
use Rattle.std.proofs.lemmas.List.{at_drop_more, at_drop_all, map-append}
use Rattle.elf64_load.proofs.Refusals.{refusal_known}
use Rattle.sv_types.specs.Steps.{◌>>=◌}
use Rattle.elf64_load.specs.Judged.{each}
use Rattle.sv_types.specs.Policies.{ModuleRule, module_rule}
use Rattle.sv_types.specs.declared.policy.Export.{Export}
use Rattle.sv_types.specs.declared.policy.ModulePolicy.{ModulePolicy}
use Rattle.policy_making.specs.Making.{module_made, modules_made, file_of}
use Rattle.policy_making.specs.Refusals.{Judged, Refuses, as_answer}
use Rattle.policy_making.specs.declared.object_file.ObjectFile.{ObjectFile}
use Rattle.policy_making.specs.declared.refusal.MakingRefusal.{MakingRefusal}
use Rattle.policy_making.specs.declared.refusal.MakingRefusal.TheVariants.{Memory}
use Rattle.policy_making.proofs.Refused.{refused_on}
use Rattle.policy_making.proofs.modules.made_modules.Goals as goal

module _ (exports : List Export) (before : List ModulePolicy) (objects : List ObjectFile) (i : ℕ) where
  -- what is made of the objects from the i-th on, after what was made before
  abbrev behind : List ModulePolicy → List ObjectFile → Judged (List ModuleRule)
  behind made files = each (module_made exports) (map module_rule made) (map file_of files)

  -- what is made after the next one
  abbrev after_next : ModuleRule → Judged (List ModuleRule)
  after_next rule = each (module_made exports) (map module_rule before ++ rule ∷ []) (map file_of (drop (i + 1) objects))

  at_next : (object : ObjectFile) → i < length objects → object ≡ get_or objects i object → behind before (drop i objects) ≡ (module_made exports (file_of object) >>= after_next)
  at_next object within is =
      at_drop_more (behind before) objects i object within ∙ ap (λ (o : ObjectFile). behind before (o ∷ drop (i + 1) objects)) (sym is)

  -- one module more
  made_more : (after : List ModulePolicy) (one : ModulePolicy) (object : ObjectFile) → i < length objects → object ≡ get_or objects i object
      → module_made exports (file_of object) ≡ Ok (module_rule one) → after ≡ before ++ one ∷ [] → behind before (drop i objects) ≡ modules_made exports (map file_of objects)
      → behind after (drop (i + 1) objects) ≡ modules_made exports (map file_of objects)
  made_more after one object within is made more so_far =
      ap (λ (rules : List ModuleRule). each (module_made exports) rules (map file_of (drop (i + 1) objects))) (ap (map module_rule) more ∙ map-append module_rule before (one ∷ []))
      ∙ ap (λ (r : Judged ModuleRule). r >>= after_next) (sym made)
      ∙ sym (at_next object within is)
      ∙ so_far

  -- all modules
  all_made : length objects ≤ i → behind before (drop i objects) ≡ modules_made exports (map file_of objects) → modules_made exports (map file_of objects) ≡ Ok (map module_rule before)
  all_made ended so_far = sym so_far ∙ at_drop_all (behind before) objects i ended

  -- a module that is refused
  refused_next : (object : ObjectFile) (refusal : MakingRefusal) → i < length objects → object ≡ get_or objects i object → Refuses (module_made exports (file_of object)) refusal
      → behind before (drop i objects) ≡ modules_made exports (map file_of objects) → Refuses (modules_made exports (map file_of objects)) refusal
  refused_next object refusal within is why so_far not_memory =
      ap (λ (judged : Judged (List ModuleRule)). as_answer judged) (sym so_far ∙ at_next object within is)
      ∙ refused_on (module_made exports (file_of object)) after_next refusal (why not_memory)

pub objects-preserved : goal.objects-preserved
objects-preserved g c =
    let l = c.objects in
    made_more c.args.exports.now l.made.items c.args.objects.now l.object-index c.push.new.self.items c.in_ok-one.one c.object-item.result c.objects-test.true
    c.object-item.is c.in_ok-one.ensures.made c.in_ok-push.ensures.items l.invariant

pub returns-clause-made : goal.returns-clause-made
returns-clause-made g c =
    all_made c.args.exports.now c.objects.made.items c.args.objects.now c.objects.object-index c.objects-test.false c.objects.invariant

pub returns-in_err-one-clause-refused : goal.returns-in_err-one-clause-refused
returns-in_err-one-clause-refused g c =
    let l = c.objects in
    refusal_known (Refuses (modules_made c.args.exports.now (map file_of c.args.objects.now))) c.from_residual.result c.in_err-one.field-0.0 c.from_residual.ensures.1
    (refused_next c.args.exports.now l.made.items c.args.objects.now l.object-index c.object-item.result c.in_err-one.field-0.0 c.objects-test.true c.object-item.is
    c.in_err-one.ensures.refused l.invariant)

pub returns-in_err-push-clause-refused : goal.returns-in_err-push-clause-refused
returns-in_err-push-clause-refused g c =
    refusal_known (Refuses (modules_made c.args.exports.now (map file_of c.args.objects.now))) c.from_residual-in_err-push.result Memory c.from_residual-in_err-push.ensures.1
    (λ not_memory. absurd (not_memory refl))
