use Rattle.std.proofs.Common.{rules, ◌≡◌, subst}
use Rattle.sv_types.specs.Policies.{rules_of}
use Rattle.spec_reference.specs.Calls.{Asked}
use Rattle.spec_reference.specs.ModuleCalls.{module_call, unload_call}
use Rattle.spec_reference.specs.States.{find_module}
use Rattle.module_gate.specs.Parts.{facts_in}
use Rattle.module_gate.proofs.decisions.module_answer.Goals as goal

pub returns-in-1 : goal.returns-in-1
unfolding module_call
returns-in-1 c = λ started input.
    let modules = c.args.modules.now in
    let facts = facts_in started input (rules_of c.args.policy.now) c.args.mem.now.ram c.args.guard.now.pages modules in
    let is : c.args.asked.now.function ≡ 1 = search rules in
    rw is (subst (λ (ask : Asked). c.unload_call.result ≡ unload_call facts ask.a0 (find_module modules.gate.loaded ask.a0)) c.asked.view_is (c.unload_call.ensures facts))

pub returns-in-2 : goal.returns-in-2
unfolding module_call
returns-in-2 c = λ started input.
    let is : c.args.asked.now.function ≡ 2 = search rules in
    rw is (c.retire_call.ensures (facts_in started input (rules_of c.args.policy.now) c.args.mem.now.ram c.args.guard.now.pages c.args.modules.now))
