-- The bytes of a number as the library's integers write them.
use Rattle.std.proofs.Common.{◌≡◌, ℕ, zero, suc, ◌/◌, ◌%◌, ◌^◌, ◌∙◌, refl, sym, ap, pow-suc}
use Rattle.std.proofs.Math.Nat.{div-div-eq-div-mul, div-one}
use Rattle.std.specs.Int.{byte_at, bytes_low_first, to_le_bytes, w16, w32, w64}
use Rattle.spec_processor.specs.Bytes.{low_bytes}

byte_is : (i value : ℕ) → byte_at i value ≡ value / 256 ^ i % 256
byte_is zero value = ap (λ (x : ℕ). x % 256) (sym (div-one value))
byte_is (suc i) value = refl

bytes_from : (i n value : ℕ) → bytes_low_first i n value ≡ low_bytes n (value / 256 ^ i)
bytes_from i zero value = refl
bytes_from i (suc n) value =
    let next : value / 256 ^ i / 256 ≡ value / 256 ^ suc i =
    div-div-eq-div-mul value (256 ^ i) 256 ∙ ap (λ (k : ℕ). value / k) (sym (pow-suc 256 i)) in
    rw (byte_is i value, next, bytes_from (suc i) n value) refl

-- the library's bytes of a value of 16, 32 or 64 bits are so many of its lowest
pub low_bytes_2 : (value : ℕ) → to_le_bytes w16 value ≡ low_bytes 2 value
low_bytes_2 value = bytes_from 0 2 value ∙ ap (low_bytes 2) (div-one value)

pub low_bytes_4 : (value : ℕ) → to_le_bytes w32 value ≡ low_bytes 4 value
low_bytes_4 value = bytes_from 0 4 value ∙ ap (low_bytes 4) (div-one value)

pub low_bytes_8 : (value : ℕ) → to_le_bytes w64 value ≡ low_bytes 8 value
low_bytes_8 value = bytes_from 0 8 value ∙ ap (low_bytes 8) (div-one value)
