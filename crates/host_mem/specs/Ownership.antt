-- Raw bytes in memory, in the terms of separation logic (J. C. Reynolds, Separation Logic, 2002): room in which nothing
-- lies yet, bytes that lie there, the right to give them back.
use Rattle.std.specs.Prelude.{ℕ, List}
use base.Fml.{Fml, Lft}
use base.Fraction.{full_share}
use mir.Syntax.{Ty, w8, ty_int, ty_array}
use denote.Array.{Array}
use denote.Builtin.{u8}
use denote.RawPtr.{Ptr, room_for, lies_at}
use denote.Struct.Lending.{lent_at}

-- n bytes side by side
abbrev pub bytes_type : ℕ → Ty
bytes_type n = ty_array (ty_int w8) n

-- room for n bytes at p
abbrev pub room_of : Ptr → ℕ → Fml
room_of p n = room_for (bytes_type n) p

-- the n bytes at p are xs
abbrev pub bytes_at : Ptr → ℕ → List ℕ → Fml
bytes_at p n xs = lies_at (Array u8 n) full_share p xs

-- what a `&` to them holds
abbrev pub bytes_lent : Ptr → ℕ → List ℕ → Lft → Fml
bytes_lent p n xs = lent_at (Array u8 n) p xs
