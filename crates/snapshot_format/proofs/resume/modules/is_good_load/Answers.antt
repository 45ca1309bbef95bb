use Rattle.std.proofs.Common.{◌≡◌, List, ◌∙◌, map, refl, sym, ap, slice_get, Some}
use Rattle.std.specs.Prelude.{option_map}
use Rattle.std.proofs.lemmas.Option.{slice_get_read, slice_get-map}
use Rattle.sv_types.specs.Policies.{module_rule, rules_of}
use Rattle.sv_types.specs.declared.policy.ModulePolicy.{ModulePolicy}
use Rattle.snapshot_format.proofs.ModuleSites.{policy_sites}
use Rattle.snapshot_format.proofs.resume.modules.is_good_load.Goals as goal

pub is_as_ruled-requires-clause-sites : goal.is_as_ruled-requires-clause-sites
is_as_ruled-requires-clause-sites g c κs within =
    let id = c.args.about.now.id in
    let kept = c.deref.result.now in
    let rule = c.in-Some.rule.now in
    let lookup = c.in-Some.ensures.lookup in
    let read = slice_get_read kept _ id rule refl lookup.3.0 lookup.1 in
    let found : slice_get (map module_rule c.args.policy.now.modules.items) id ≡ Some (module_rule rule) =
    ap (λ (modules : List ModulePolicy). slice_get (map module_rule modules) id) (sym c.deref.ensures.value)
    ∙ slice_get-map module_rule kept id
    ∙ ap (option_map module_rule) read in
    policy_sites (rules_of c.args.policy.now) id (module_rule rule) c.requires.within found
