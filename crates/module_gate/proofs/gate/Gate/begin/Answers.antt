use Rattle.std.proofs.Common.{rules, ◌≡◌, ◌∙◌, sym, ap, arith, slice_get, true}
use Rattle.std.specs.Prelude.{Some}
use Rattle.sv_types.specs.Policies.{rules_of, module_rule}
use Rattle.spec_reference.specs.States.{pages_in_rule}
use Rattle.module_gate.specs.Gates.{is_good_place}
use Rattle.module_gate.proofs.GoodPlaces.{good_inside, none_taken}
use Rattle.module_gate.proofs.ModuleRules.{few_pages, low_id}
use Rattle.module_gate.proofs.gate.Gate.begin.Goals as goal

pub pages_at-requires : goal.pages_at-requires
pages_at-requires c =
    let pages = pages_in_rule (slice_get (rules_of c.args.policy.now).modules c.args.about.id) in
    let inside = good_inside c.args.mem.now.ram c.args.guard.now.pages c.args.about pages c.requires.place c.requires.tables_match.ram in
    omega (arith, inside, c.requires.tables_match.ram, c.ram_pages-pages.ensures.region.most)

pub hold-requires-clause-inside : goal.hold-requires-clause-inside
hold-requires-clause-inside c =
    let rule = module_rule c.in-Some.rule.now in
    let there : slice_get (rules_of c.args.policy.now).modules c.args.about.id ≡ Some rule = search rules in
    let good : is_good_place c.args.mem.now.ram c.args.guard.now.pages c.args.about rule.pages ≡ true =
    sym (ap (λ o. is_good_place c.args.mem.now.ram c.args.guard.now.pages c.args.about (pages_in_rule o)) there) ∙ c.requires.place in
    rw c.pages_at.ensures (good_inside c.args.mem.now.ram c.args.guard.now.pages c.args.about rule.pages good c.requires.tables_match.ram)

pub unreachable-requires-in_default-hold : goal.unreachable-requires-in_default-hold
unreachable-requires-in_default-hold c =
    let rule = module_rule c.in-Some.rule.now in
    let there : slice_get (rules_of c.args.policy.now).modules c.args.about.id ≡ Some rule = search rules in
    let good : is_good_place c.args.mem.now.ram c.args.guard.now.pages c.args.about rule.pages ≡ true =
    sym (ap (λ o. is_good_place c.args.mem.now.ram c.args.guard.now.pages c.args.about (pages_in_rule o)) there) ∙ c.requires.place in
    let none = none_taken c.args.mem.now.ram c.args.guard.now.pages c.args.about rule.pages good in
    let taken = c.in_default-hold.ensures.taken in
    let same = c.pages_at.ensures in
    absurd (cc)

pub invariant_of-result : goal.invariant_of-result
invariant_of-result c =
    let rule = module_rule c.in-Some.rule.now in
    let there : slice_get (rules_of c.args.policy.now).modules c.args.about.id ≡ Some rule = search rules in record {
      hold = search rules;
      few = few_pages (rules_of c.args.policy.now) c.args.about.id rule c.requires.within there;
      left = omega arith;
      id = low_id (rules_of c.args.policy.now) c.args.about.id rule c.requires.within there;
    }
