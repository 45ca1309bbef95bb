use Rattle.std.proofs.Common.{◌*◌, ◌∙◌}
use Rattle.spec_processor.specs.Bytes.{page_size}
use Rattle.machine.proofs.Regions.{bytes_copied, bytes_fit, tables_sized}
use Rattle.machine.proofs.resumed.parts.region_of.Goals as goal

pub copy_in-requires : goal.copy_in-requires
copy_in-requires c = bytes_fit c.in_ok-mem.mem c.table_bytes-tables.result (page_size * c.args.ram_pages) c.args.ram.now c.in_ok-mem.ensures c.requires.size

pub returns-clause-tables : goal.returns-clause-tables
returns-clause-tables c =
    c.copy_in.ensures.tables ∙ tables_sized c.in_ok-mem.mem c.table_bytes-tables.result (page_size * c.args.ram_pages) c.in_ok-mem.ensures ∙ c.table_bytes-tables.ensures

pub returns-clause-ram : goal.returns-clause-ram
returns-clause-ram c =
    bytes_copied c.in_ok-mem.mem c.copy_in.new.self c.table_bytes-tables.result (page_size * c.args.ram_pages) c.args.ram.now c.in_ok-mem.ensures c.requires.size c.copy_in.ensures.ram
