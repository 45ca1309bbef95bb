use Rattle.std.proofs.Common.{ap}
use Rattle.spec_processor.specs.Hardware.{Step, Attempted}
use Rattle.spec_processor.specs.HardwareMemory.{translation_result}
use Rattle.spec_processor.specs.declared.access.Access.TheVariants.{Fetch}
use Rattle.laws_processor.proofs.HardwareWrites.{interrupt_writes, fetch_writes}
use Rattle.hart.specs.Cores.{core_of}
use Rattle.hart.proofs.execution.attempt.Goals as goal

pub returns-in-Some-clause-written : goal.returns-in-Some-clause-written
returns-in-Some-clause-written g c =
    rw (ap (λ (s : Step). s.outcome) c.interrupt.ensures.step) (interrupt_writes c.args.mem.now (core_of c.args.core.now c.args.regs.now) c.in-Some.taken)

pub returns-in-None-clause-written : goal.returns-in-None-clause-written
returns-in-None-clause-written g c =
    rw (ap (λ (a : Attempted). a.region) c.fetch.ensures.attempted, ap (λ (a : Attempted). a.outcome) c.fetch.ensures.attempted)
    (fetch_writes c.args.mem.now (core_of c.args.core.now c.args.regs.now) (g.W.InterruptLines.seen c.args.interrupt_lines.now)
    (translation_result c.args.mem.now (core_of c.args.core.now c.args.regs.now) Fetch c.args.core.now.pc 0))
