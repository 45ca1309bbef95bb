-- A store into the status leaves the device broken or whole, as it was.
use Rattle.std.proofs.Common.{◌≡◌, ℕ, zero, suc, ◌-◌, ◌/◌, ◌^◌, ◌<◌, Bool, true, false, if◌then◌else◌, refl, ap, ◌∙◌, arith, mod-lt, lit<, Option, Some, None, IfSome}
use Rattle.std.specs.Prelude.{◌==◌, min, max, bit_and, bit_or}
use Rattle.std.specs.Int.{bit_at}
use Rattle.std.proofs.lemmas.Nat.Bits.{bit_at_and, bit_at_or}
use Rattle.spec_processor.specs.Bits.{bit}
use Rattle.spec_reference.specs.VirtioDevice.{VirtioDevice, is_broken}
use Rattle.spec_reference.specs.VirtioStores.{judged_status, kept_status}
use Rattle.sv_types.specs.declared.virtio.VirtioRequest.{VirtioRequest}

is_set : (y : ℕ) → y < 2 → (max y 1 == 1) ≡ true
is_set zero h = refl
is_set (suc zero) h = refl
is_set (suc (suc y)) h = absurd (omega (arith, h))

is_clear : (y : ℕ) → y < 2 → (min y 0 == 1) ≡ false
is_clear zero h = refl
is_clear (suc zero) h = refl
is_clear (suc (suc y)) h = absurd (omega (arith, h))

kept_by : (broken : Bool) (x : ℕ) → bit (if broken then bit_or x 64 else bit_and x (2 ^ 32 - 1 - 64)) 6 ≡ broken
kept_by true x = ap (λ (n : ℕ). n == 1) (bit_at_or x 64 6) ∙ is_set (bit_at x 6) (mod-lt (x / 2 ^ 6) (lit< tt))
kept_by false x = ap (λ (n : ℕ). n == 1) (bit_at_and x (2 ^ 32 - 1 - 64) 6) ∙ is_clear (bit_at x 6) (mod-lt (x / 2 ^ 6) (lit< tt))

kept_still : (d : VirtioDevice) (value : ℕ) → bit (kept_status d value) 6 ≡ is_broken d
unfolding kept_status
kept_still d value = kept_by (is_broken d) (judged_status d value)

pub still_whole : (request : Option VirtioRequest) (d : VirtioDevice) (status value : ℕ) → status ≡ kept_status d value → IfSome request (λ q. is_broken d ≡ false)
    → IfSome request (λ q. bit status 6 ≡ false)
still_whole None d status value same whole = tt
still_whole (Some q) d status value same whole = ap (λ (n : ℕ). bit n 6) same ∙ kept_still d value ∙ whole
