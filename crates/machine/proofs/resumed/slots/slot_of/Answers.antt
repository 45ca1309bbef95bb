use Rattle.machine.proofs.Seated.{hart_ranges, reservable, slot_is}
use Rattle.machine.proofs.resumed.slots.slot_of.Goals as goal

pub from_values-requires : goal.from_values-requires
from_values-requires c = record { zero = (hart_ranges c.requires.ram_pages c.args.saved.now c.requires.form).zero }

pub csrs_of-requires : goal.csrs_of-requires
csrs_of-requires c = (hart_ranges c.requires.ram_pages c.args.saved.now c.requires.form).legal

pub reserved_place-requires : goal.reserved_place-requires
reserved_place-requires c =
    reservable c.args.tables c.requires.ram_pages c.args.saved.now (hart_ranges c.requires.ram_pages c.args.saved.now c.requires.form) c.requires.room

pub returns : goal.returns
returns c =
    slot_is c.args.tables c.args.saved.now c.from_values.result c.csrs_of.result c.reserved_place.result c.privilege_of-privilege.result c.from_values.ensures c.csrs_of.ensures
    c.reserved_place.ensures
    c.privilege_of-privilege.ensures (hart_ranges c.requires.ram_pages c.args.saved.now c.requires.form).user
