-- What the bytes are once a `&mut` to them has ended: what was last written through it.
use Rattle.std.specs.Prelude.{ℕ, List}
use Rattle.std.specs.Borrow.{Fml, MutBor, Array, Lends, u8}
use Rattle.host_mem.specs.declared.raw_bytes.memory.Bytes.{Bytes}
use Rattle.host_mem.specs.contracts.raw_bytes.memory.Bytes.{the_row}

abbrev pub with_items : Bytes → List ℕ → Bytes
with_items b xs = record { at = b.at; size = b.size; items = xs; fits = b.fits }

abbrev pub lends_bytes : MutBor Bytes → MutBor (List ℕ) → Fml
lends_bytes b r = Lends the_row (Array u8 0) b r (with_items b.now)
