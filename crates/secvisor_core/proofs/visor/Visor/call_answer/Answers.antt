use Rattle.std.proofs.Common.{[], length, sym, ◌∙◌, subst}
use Rattle.module_gate.specs.Parts.{facts_in}
use Rattle.sv_types.specs.Policies.{rules_of}
use Rattle.monitor_exits.specs.Known.{StartsOneOf}
use Rattle.monitor_exits.specs.HwOfSlots.{hw_harts_of}
use Rattle.spec_hardware.specs.HwCalls.{hw_facts}
use Rattle.spec_reference.specs.declared.answers.Answer.{Answer}
use Rattle.secvisor_core.proofs.Called.{answered_there, slot_indexed}
use Rattle.secvisor_core.specs.Visors.{machine_of}
use Rattle.secvisor_core.proofs.visor.Visor.call_answer.Goals as goal

pub returns-then-is_about_modules-clause-answer : goal.returns-then-is_about_modules-clause-answer
returns-then-is_about_modules-clause-answer c = λ journal.
    let facts = hw_facts (machine_of c.args.self.now c.args.hardware.now journal) in
    answered_there c.args.self.now c.args.hardware.now journal c.args.hart c.index.result.now c.by-asked.result c.module_answer.result c.index.ensures
    c.requires.there c.by-asked.ensures
    (c.module_answer.ensures facts.started facts.input ∙ sym (c.is_about_modules.ensures.modules facts c.if-is_about_modules.true))

pub returns-then-is_about_modules-clause-starts : goal.returns-then-is_about_modules-clause-starts
returns-then-is_about_modules-clause-starts c =
    let facts = facts_in [] [] (rules_of c.args.self.now.policy) c.args.hardware.now.mem.ram c.args.self.now.guard.pages c.args.self.now.modules in
    subst (λ (answer : Answer). StartsOneOf (length (hw_harts_of c.args.hardware.now.slots.items)) answer.side_effect) (sym (c.module_answer.ensures [] []))
    (c.law_starts.ensures.calls facts c.by-asked.result (length (hw_harts_of c.args.hardware.now.slots.items)))

pub index-requires : goal.index-requires
index-requires c = slot_indexed c.args.hardware.now c.args.hart c.requires.there
