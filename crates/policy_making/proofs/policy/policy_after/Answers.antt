use Rattle.std.proofs.Common.{◌≡◌, ℕ, List, IfOk, Ok, map, subst}
use Rattle.sv_types.specs.Policies.{module_rule, rules_of}
use Rattle.sv_types.specs.declared.policy.Export.{Export}
use Rattle.policy_making.specs.Making.{exports_wanted, file_of, if_few_sites, modules_made, rules_with, terms_of}
use Rattle.policy_making.proofs.MadeWithin.{made_within}
use Rattle.policy_making.proofs.policy.policy_after.Goals as goal

pub returns-clause-within : goal.returns-clause-within
returns-clause-within g c =
    made_within (terms_of c.args.settings) c.args.kernel.now.digest c.args.kernel.now.file.items c.args.names.now c.args.objects.now c.in_ok-exports.exports.items
    (map module_rule c.in_ok-modules.modules.items)
    (subst (λ (kernel : List ℕ). exports_wanted kernel c.args.names.now ≡ Ok c.in_ok-exports.exports.items) c.deref.ensures.value c.in_ok-exports.ensures.exports)
    (subst (λ (exports : List Export). modules_made exports (map file_of c.args.objects.now) ≡ Ok (map module_rule c.in_ok-modules.modules.items)) c.deref-2.ensures.value c.in_ok-modules.ensures.made)
    c.if_few_sites.result
    (subst (λ (bound : List ℕ). IfOk c.if_few_sites.result
    (λ made. if_few_sites (record (rules_with (terms_of c.args.settings) c.args.kernel.now.digest c.in_ok-exports.exports.items (map module_rule c.in_ok-modules.modules.items))
    { bound = bound }) ≡ Ok (rules_of made)))
    c.new.ensures.items c.if_few_sites.ensures.policy)
