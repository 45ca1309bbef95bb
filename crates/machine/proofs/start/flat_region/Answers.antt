use Rattle.std.proofs.Common.{◌∙◌}
use Rattle.machine.proofs.Regions.{tables_sized}
use Rattle.machine.proofs.Starting.{pages_fit, pages_copied}
use Rattle.machine.proofs.start.flat_region.Goals as goal

pub copy_in-requires : goal.copy_in-requires
copy_in-requires c = pages_fit c.in_ok-mem.mem c.table_bytes-tables.result 65536 c.args.pages.now c.in_ok-mem.ensures c.requires

pub returns-clause-tables : goal.returns-clause-tables
returns-clause-tables c =
    c.copy_in.ensures.tables ∙ tables_sized c.in_ok-mem.mem c.table_bytes-tables.result 65536 c.in_ok-mem.ensures ∙ c.table_bytes-tables.ensures

pub returns-clause-ram : goal.returns-clause-ram
returns-clause-ram c =
    pages_copied c.in_ok-mem.mem c.copy_in.new.self c.table_bytes-tables.result 65536 c.args.pages.now c.in_ok-mem.ensures c.copy_in.ensures.ram
