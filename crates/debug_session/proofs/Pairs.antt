-- Pairs of digits, one after the other.
use Rattle.std.proofs.Common.{◌≡◌, ℕ, zero, suc, ◌+◌, ◌*◌, ◌<◌, List, [], ◌∷◌, ◌++◌, length, drop, refl, sym, ◌∙◌, ap, arith}
use Rattle.std.specs.Prelude.{get_or}
use Rattle.std.proofs.lemmas.List.{append-nil, append_assoc}
use Rattle.gdb_protocol.specs.Digits.{number_of}
use Rattle.debug_session.specs.Questions.{begun, text_of}

-- fewer than two are left
pub none_left : (digits : List ℕ) → length digits < 2 → text_of digits ≡ []
unfolding text_of
none_left [] few = refl
none_left (a ∷ []) few = refl
none_left (a ∷ b ∷ digits) few = absurd (omega (arith, few))

two_left : (digits : List ℕ) (n : ℕ) → n + 1 < length digits → drop n digits ≡ get_or digits n 0 ∷ get_or digits (n + 1) 0 ∷ drop (n + 2) digits
two_left [] n some = absurd (omega (arith, some))
two_left (a ∷ []) n some = absurd (omega (arith, some))
two_left (a ∷ b ∷ digits) zero some = refl
two_left (a ∷ b ∷ digits) (suc n) some =
    let one : suc n + 1 ≡ suc (n + 1) = omega arith in
    let two : suc n + 2 ≡ suc (n + 2) = omega arith in
    two_left (b ∷ digits) n (omega (arith, some))
    ∙ ap (λ m. get_or (b ∷ digits) n 0 ∷ get_or (a ∷ b ∷ digits) m 0 ∷ drop (n + 2) (b ∷ digits)) (sym one)
    ∙ ap (λ m. get_or (b ∷ digits) n 0 ∷ get_or (a ∷ b ∷ digits) (suc n + 1) 0 ∷ drop m (a ∷ b ∷ digits)) (sym two)

pub next_pair : (digits : List ℕ) (i : ℕ) → 2 * i + 1 < length digits →
    text_of (drop (2 * i) digits) ≡ begun (number_of (get_or digits (2 * i) 0 ∷ get_or digits (2 * i + 1) 0 ∷ [])) (text_of (drop (2 * (i + 1)) digits))
unfolding text_of
next_pair digits i some =
    let place : 2 * i + 2 ≡ 2 * (i + 1) = omega arith in
    ap text_of (two_left digits (2 * i) some)
    ∙ ap (λ m. begun (number_of (get_or digits (2 * i) 0 ∷ get_or digits (2 * i + 1) 0 ∷ [])) (text_of (drop m digits))) place

pub put_one : (out front rest whole : List ℕ) (byte : ℕ) → out ++ byte ∷ rest ≡ whole → front ≡ out ++ byte ∷ [] → front ++ rest ≡ whole
put_one out front rest whole byte is put = ap (λ xs. xs ++ rest) put ∙ append_assoc out (byte ∷ []) rest ∙ is

pub none_put : (out text whole : List ℕ) → out ++ text ≡ whole → text ≡ [] → out ≡ whole
none_put out text whole is none = sym (append-nil out) ∙ ap (λ t. out ++ t) (sym none) ∙ is
