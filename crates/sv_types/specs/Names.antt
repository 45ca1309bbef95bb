-- Names: 1 to 64 bytes of text, kept in 64 bytes with zeros after.
-- The Unicode Standard, "UTF-8".
use Rattle.std.specs.Prelude.{◌≡◌, ◌<◌, ◌≤◌, ℕ, List, Bool, ◌&&◌, nat_le, length, take, IsUtf8}
use Rattle.std.proofs.Common.{◌∙◌, ap}
use Rattle.spec_processor.specs.Bytes.{with_padding}
use Rattle.sv_types.specs.Limits.{max_name_bytes}
use Rattle.sv_types.specs.declared.name.Name.TheInside.{Inside}

-- 1 to 64 bytes
abbrev pub name_within : List ℕ → Bool
name_within name = nat_le 1 (length name) && nat_le (length name) max_name_bytes

abbrev pub name_bytes : Inside → List ℕ
name_bytes name = take name.length name.bytes

abbrev pub name_inside : List ℕ → Inside
name_inside bytes = record { bytes = with_padding bytes max_name_bytes; length = length bytes }

pub record IsName (name : Inside) : Type 0 where
  pub some : 0 < name.length
  pub most : name.length ≤ max_name_bytes
  pub length_is : length (name_bytes name) ≡ name.length
  pub zeros : with_padding (name_bytes name) max_name_bytes ≡ name.bytes
  pub text : IsUtf8 (name_bytes name)

pub name_inside-name_bytes : (name : Inside) → IsName name → name_inside (name_bytes name) ≡ name
name_inside-name_bytes name is =
    ap (λ (n : ℕ). let inside : Inside = record { bytes = with_padding (name_bytes name) max_name_bytes; length = n } in inside) is.length_is
    ∙ ap (λ (bytes : List ℕ). let inside : Inside = record { bytes = bytes; length = name.length } in inside) is.zeros
