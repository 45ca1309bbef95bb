-- What contracts see of a reader.
use Rattle.std.specs.Prelude.{◌≤◌, length, vec_capacity}
use Rattle.gdb_protocol.specs.Reading.{Reading, max_payload}
use Rattle.gdb_protocol.specs.declared.reader.PacketReader.TheInside.{Inside}

abbrev pub reading_of : Inside → Reading
reading_of r = record { place = r.place; payload = r.payload.items; sum = r.sum; long = r.is_long }

-- it keeps no more than it has room for
pub record HasRoom (r : Inside) : Type 0 where
  pub few : length r.payload.items ≤ max_payload
  pub room : max_payload ≤ vec_capacity r.payload
