-- Printed values read back.
use Rattle.std.proofs.Common.{◌≡◌, ℕ, ◌^◌, ◌<◌, List, Ok, refl}
use Rattle.hex.proofs.HexLemmas.{decode_sized-encode_lower}
use Rattle.sv_types.specs.Numbers.{digest_of}
use Rattle.text_numbers.proofs.AddressesBack.{printed_is_read}
use Rattle.policy.specs.Values.{address_of, measure_of}
use Rattle.policy.specs.Printed.{address_data, measure_data}
use Rattle.policy.specs.Ranges.{IsDigest}

pub address_back : (a : ℕ) → a < 2 ^ 64 → address_of (address_data a) ≡ Ok a
unfolding address_data
address_back a small = rw (printed_is_read a small) refl

pub measure_back : (digest : List ℕ) → IsDigest digest → measure_of (measure_data digest) ≡ Ok digest
unfolding digest_of
measure_back digest is = rw (decode_sized-encode_lower digest 32 is.0 is.1) refl
