-- What raw bytes are once a `&mut` to all of them has ended: what was last written through it.
use Rattle.std.specs.Prelude.{ℕ, List}
use Rattle.std.specs.Borrow.{Fml, MutBor, Array, Lends, u8}
use Rattle.host_mem.specs.contracts.raw_bytes.RawBytes.{the_row}

abbrev pub lends_all : MutBor (List ℕ) → MutBor (List ℕ) → Fml
lends_all b r = Lends the_row (Array u8 0) b r (λ xs. xs)
