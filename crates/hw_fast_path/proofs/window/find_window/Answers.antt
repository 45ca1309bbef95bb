use Rattle.std.proofs.Common.{refl, arith, inl}
use Rattle.hart.specs.Cores.{core_of}
use Rattle.hw_fast_path.proofs.Windows.{leads_from}
use Rattle.hw_fast_path.proofs.window.find_window.Goals as goal

pub returns-in-Some-clause-leads : goal.returns-in-Some-clause-leads
returns-in-Some-clause-leads c =
    leads_from c.args.mem.now (core_of c.args.core.now c.args.regs.now) c.args.core.now.pc c.in-Some.hpa c.table_bytes-table_bytes.ensures.region
    (c.in-Some.ensures.place 1 (inl refl) (omega arith)) (c.in-Some.ensures.value 0)
