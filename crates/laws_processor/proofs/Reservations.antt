-- What an aligned access has of a reservation, and reservations of a memory that stands after other bytes.
use Rattle.std.proofs.Common.{◌≡◌, ℕ, ◌+◌, refl, arith, Bool, true, false}
use Rattle.std.specs.Prelude.{Option, Some, None, if◌then◌else◌, option_map}
use Rattle.std.proofs.lemmas.Bool.Decides.{nat_tests}
use Rattle.spec_processor.specs.Requests.{covers, touches, after_write}

pub touches_after : (front reserved place width : ℕ) → touches (front + reserved) (front + place) width ≡ touches reserved place width
unfolding touches
touches_after front reserved place width = grind (arith, nat_tests)

pub covers_after : (front : ℕ) (reservation : Option ℕ) (place width : ℕ)
    → covers (option_map (λ reserved. front + reserved) reservation) (front + place) width ≡ covers reservation place width
unfolding covers
covers_after front None place width = refl
covers_after front (Some reserved) place width = grind (arith, nat_tests)

chosen_after : (front reserved : ℕ) (b : Bool)
    → (if b then None else Some (front + reserved)) ≡ option_map (λ reserved. front + reserved) (if b then None else Some reserved)
chosen_after front reserved true = refl
chosen_after front reserved false = refl

pub after_write_after : (front place width : ℕ) (reservation : Option ℕ)
    → after_write (front + place) width (option_map (λ reserved. front + reserved) reservation)
    ≡ option_map (λ reserved. front + reserved) (after_write place width reservation)
unfolding after_write
after_write_after front place width None = refl
after_write_after front place width (Some reserved) = rw (touches_after front reserved place width) (chosen_after front reserved (touches reserved place width))
