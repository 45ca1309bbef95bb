-- What the protection of a page says of it. This project's own.
use Rattle.std.specs.Prelude.{ℕ, List, Bool, true, false, codes}
use Rattle.sv_types.specs.declared.protection.Protection.{Protection}
use Rattle.sv_types.specs.declared.protection.Protection.TheVariants.{Free, Held, Approved}

abbrev pub is_free : Protection → Bool
is_free Free = true
is_free Held = false
is_free Approved = false

abbrev pub is_approved : Protection → Bool
is_approved Free = false
is_approved Held = false
is_approved Approved = true

abbrev pub is_same : Protection → Protection → Bool
is_same Free Free = true
is_same Free Held = false
is_same Free Approved = false
is_same Held Free = false
is_same Held Held = true
is_same Held Approved = false
is_same Approved Free = false
is_same Approved Held = false
is_same Approved Approved = true

-- its name, as reports and the debugger print it
unfoldable pub protection_name : Protection → List ℕ
protection_name Free = codes "free"
protection_name Held = codes "held"
protection_name Approved = codes "approved"
