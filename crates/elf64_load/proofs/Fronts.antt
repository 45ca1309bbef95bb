-- Names, seen through the first 65 bytes.
use Rattle.std.proofs.Common.{◌≡◌, ◌≢◌, ℕ, zero, suc, ◌+◌, ◌<◌, ◌≤◌, min, Bool, true, false, cond, List, [], ◌∷◌, length, take, Some, None, Option, refl, ap, ◌∙◌, arith, length-take}
use Rattle.std.specs.Prelude.{◌==◌, ◌&&◌, not, nat_lt, position, if◌then◌else◌}
use Rattle.std.specs.Str.{IsUtf8, is_utf8}
use Rattle.std.proofs.lemmas.Str.{is_utf8-from_IsUtf8, IsUtf8-from_is_utf8}
use Rattle.std.proofs.lemmas.Bool.Decides.{nat_tests}
use Rattle.elf64_load.specs.Sections.{name_of, is_name, front_length}

counted : (b : Bool) (m n k : ℕ) → m ≡ min k n → cond b (1 + m) 0 ≡ min (suc k) (cond b (1 + n) 0)
counted true m n k h = omega arith
counted false m n k h = omega arith

-- the front of a list
front_of_part : (k : ℕ) (xs : List ℕ) → front_length (take k xs) ≡ min k (front_length xs)
front_of_part zero xs = omega arith
front_of_part (suc k) [] = omega arith
front_of_part (suc k) (x ∷ xs) = counted (not (x == 0)) (front_length (take k xs)) (front_length xs) k (front_of_part k xs)

found : (a b n : ℕ) → cond (nat_lt a b) (Some a) None ≡ Some n → (a ≡ n) × (a < b)
found a b n h = grind (arith, nat_tests)

missing : (a b : ℕ) → cond (nat_lt a b) (Some a) None ≡ None → b ≤ a
missing a b h = grind (arith, nat_tests)

-- the window is the first 65 bytes, or all of fewer
pub front_found : (bs window : List ℕ) (k n : ℕ) → window ≡ take k bs → k ≡ min (length bs) 65 → position (λ b. b == 0) window ≡ Some n
    → (front_length bs ≡ n) × (n < length bs) × (n < 65)
front_found bs window k n is most h =
    let at = found (front_length window) (length window) n h in
    let same : front_length window ≡ min k (front_length bs) = ap (λ (w : List ℕ). front_length w) is ∙ front_of_part k bs in
    let size : length window ≡ min k (length bs) = ap (λ (w : List ℕ). length w) is ∙ length-take k bs in
    (omega arith, omega arith, omega arith)

pub no_front : (bs window : List ℕ) (k : ℕ) → window ≡ take k bs → k ≡ min (length bs) 65 → position (λ b. b == 0) window ≡ None → name_of bs ≡ None
no_front bs window k is most h =
    let at = missing (front_length window) (length window) h in
    let same : front_length window ≡ min k (front_length bs) = ap (λ (w : List ℕ). front_length w) is ∙ front_of_part k bs in
    let size : length window ≡ min k (length bs) = ap (λ (w : List ℕ). length w) is ∙ length-take k bs in
    let size_of_front = length-take (front_length bs) bs in
    let long : (nat_lt (front_length bs) (length bs) && is_name (take (front_length bs) bs)) ≡ false = grind (arith, nat_tests) in
    rw long refl

pub empty_front : (bs : List ℕ) → front_length bs ≡ 0 → name_of bs ≡ None
empty_front bs h =
    let size = length-take (front_length bs) bs in
    let none : (nat_lt (front_length bs) (length bs) && is_name (take (front_length bs) bs)) ≡ false = grind (arith, nat_tests) in
    rw none refl

pub name_of_front : (bs : List ℕ) (n : ℕ) → front_length bs ≡ n → n < length bs → n < 65 → n ≢ 0
    → name_of bs ≡ (if is_utf8 (take n bs) then Some (take n bs) else None)
name_of_front bs n front inside short some =
    let size = length-take n bs in
    let test : (nat_lt n (length bs) && is_name (take n bs)) ≡ is_utf8 (take n bs) = grind (arith, nat_tests) in
    rw (front, test) refl

-- ---- text

pub utf8_text : (bs text : List ℕ) → text ≡ bs → IsUtf8 bs → ◌≡◌ {A = Option (List ℕ)} (Some text) (if is_utf8 bs then Some bs else None)
utf8_text bs text same is = let test = is_utf8-from_IsUtf8 bs is in rw (test, same) refl

no_text_of : (bs : List ℕ) (b : Bool) → is_utf8 bs ≡ b → (IsUtf8 bs → ⊥) → ◌≡◌ {A = Option (List ℕ)} None (if b then Some bs else None)
no_text_of bs true is none = absurd (none (IsUtf8-from_is_utf8 bs is))
no_text_of bs false is none = refl

pub no_text : (bs : List ℕ) → (IsUtf8 bs → ⊥) → ◌≡◌ {A = Option (List ℕ)} None (if is_utf8 bs then Some bs else None)
no_text bs none = no_text_of bs (is_utf8 bs) refl none
