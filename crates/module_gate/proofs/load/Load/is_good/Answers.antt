use Rattle.std.proofs.Common.{rules, ◌≡◌, ◌∙◌, sym, subst, refl, false, true, slice_get}
use Rattle.std.specs.Prelude.{Option, Some, None}
use Rattle.std.specs.Str.{bytes_eq}
use Rattle.sv_types.specs.Measure.{joined_digests}
use Rattle.sv_types.specs.Policies.{ModuleRule, rules_of, module_rule}
use Rattle.spec_hardware.specs.HwExits.{hw_is_good}
use Rattle.module_gate.specs.Gates.{hw_load, with_digests}
use Rattle.module_gate.proofs.LoadDecisions.{good_where}
use Rattle.module_gate.proofs.load.Load.is_good.Goals as goal

pub returns-in-None : goal.returns-in-None
unfolding hw_is_good
returns-in-None c = λ hart.
    let none : None ≡ slice_get (rules_of c.args.policy.now).modules c.args.self.now.about.id = search rules in
    subst (λ (o : Option ModuleRule). false ≡ hw_is_good (hw_load hart (with_digests c.args.gate.now.digests c.args.self.now)) o) none refl

pub returns-then-eq : goal.returns-then-eq
returns-then-eq c = λ hart.
    let rule = module_rule c.in-Some.rule.now in
    let there : slice_get (rules_of c.args.policy.now).modules c.args.self.now.about.id ≡ Some rule = search rules in
    let same : bytes_eq (joined_digests c.args.gate.now.digests) rule.measure ≡ true = search rules in
    let right : c.self.inside.right ≡ c.args.self.now.right = search rules in
    right ∙ sym (good_where (hw_load hart (with_digests c.args.gate.now.digests c.args.self.now)) rule (slice_get (rules_of c.args.policy.now).modules c.args.self.now.about.id) true there same)

pub returns-else-eq : goal.returns-else-eq
returns-else-eq c = λ hart.
    let rule = module_rule c.in-Some.rule.now in
    let there : slice_get (rules_of c.args.policy.now).modules c.args.self.now.about.id ≡ Some rule = search rules in
    let same : bytes_eq (joined_digests c.args.gate.now.digests) rule.measure ≡ false = search rules in
    let no : c.eq.result ≡ false = search rules in
    no ∙ sym (good_where (hw_load hart (with_digests c.args.gate.now.digests c.args.self.now)) rule (slice_get (rules_of c.args.policy.now).modules c.args.self.now.about.id) false there same)
