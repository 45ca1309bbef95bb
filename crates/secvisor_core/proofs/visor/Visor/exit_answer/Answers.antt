use Rattle.sv_types.specs.Policies.{rules_of}
use Rattle.secvisor_core.proofs.Called.{slot_indexed}
use Rattle.secvisor_core.proofs.Slotted.{possible_there, seen_there}
use Rattle.secvisor_core.proofs.visor.Visor.exit_answer.Goals as goal

pub returns-clause-answer : goal.returns-clause-answer
returns-clause-answer c = λ journal.
    seen_there c.args.hardware.now c.args.hart c.index.result.now c.index.ensures (rules_of c.args.self.now.policy) c.args.exit.now c.exit_answer.result
    c.requires.hart.there (c.exit_answer.ensures.answer (rules_of c.args.self.now.policy) c.requires.joined.entries c.requires.joined.bound)

pub returns-clause-possible : goal.returns-clause-possible
returns-clause-possible c =
    possible_there c.args.hardware.now c.args.hart c.index.result.now c.index.ensures c.exit_answer.result c.requires.hart.there c.exit_answer.ensures.possible

pub index-requires : goal.index-requires
index-requires c = slot_indexed c.args.hardware.now c.args.hart c.requires.hart.there
