use Rattle.std.proofs.Common.{inl, ap}
use Rattle.monitor_exits.specs.HwOfSlots.{hw_harts_of}
use Rattle.spec_hardware.specs.HwCalls.{hw_facts}
use Rattle.spec_reference.specs.Calls.{asked_by}
use Rattle.spec_reference.specs.declared.answers.Answer.{Answer}
use Rattle.hw_platform.specs.Attempts.{hart_in}
use Rattle.secvisor_core.specs.Visors.{machine_of}
use Rattle.secvisor_core.proofs.visor.Visor.serve_call.Goals as goal

pub give-requires-clause-given : goal.give-requires-clause-given
give-requires-clause-given c =
    let facts = hw_facts (machine_of c.args.self.now c.args.hardware.now c.args.journal.now) in
    inl (record {
      started = facts.started;
      input = facts.input;
      ask = asked_by (hart_in (hw_harts_of c.args.hardware.now.slots.items) c.args.hart).core.registers;
      same = ap (λ (answer : Answer). answer.side_effect) (c.call_answer-answer.ensures.answer c.args.journal.now);
    })
