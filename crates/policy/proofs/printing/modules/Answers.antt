use Rattle.std.proofs.Common.{List, subst, sym, ap, ◌∙◌}
use Rattle.std.proofs.lemmas.List.{take_all}
use Rattle.std.proofs.lemmas.Simd.{map-map}
use Rattle.std.proofs.lemmas.List.Elements.{All-more, All-map}
use Rattle.std.specs.List.{All}
use Rattle.toml.specs.Data.{Data, array}
use Rattle.toml.specs.View.{items_of}
use Rattle.sv_types.specs.Policies.{module_rule}
use Rattle.sv_types.specs.declared.policy.ModulePolicy.{ModulePolicy}
use Rattle.policy.specs.Printed.{module_data}
use Rattle.policy.specs.Ranges.{IsModule}
use Rattle.policy.proofs.Prints.{printed_more, printed_all}
use Rattle.policy.proofs.printing.modules.Goals as goal

abbrev print : ModulePolicy → Data
print m = module_data (module_rule m)

abbrev HasModuleRule : ModulePolicy → Type 0
HasModuleRule m = IsModule (module_rule m)

pub loop-item-preserved : goal.loop-item-preserved
loop-item-preserved c =
    let xs = c.args.modules.now in
    let i = c.loop-item.item-index in
    let x = c.item-item.result in
    record {
      printed = rw c.in_ok-push.ensures.items (printed_more print c.loop-item.values.items c.in_ok-value.value xs i x c.loop-item-test.true c.item-item.is
          c.in_ok-value.ensures.printed c.loop-item.invariant.printed);
      typed = All-more HasModuleRule xs i x c.loop-item-test.true c.loop-item.invariant.typed (subst HasModuleRule c.item-item.is c.in_ok-value.ensures.typed);
    }

pub returns-clause-printed : goal.returns-clause-printed
returns-clause-printed c =
    printed_all print c.loop-item.values c.args.modules.now c.loop-item.item-index c.loop-item-test.false c.loop-item.invariant.printed
    ∙ ap (λ (ds : List Data). array (items_of ds)) (sym (map-map module_data module_rule c.args.modules.now))

pub returns-clause-typed : goal.returns-clause-typed
returns-clause-typed c =
    All-map IsModule module_rule c.args.modules.now (subst (All HasModuleRule) (take_all c.loop-item.item-index c.args.modules.now c.loop-item-test.false) c.loop-item.invariant.typed)
