-- Bytes that are cut at the first one that passes a test.
use Rattle.std.proofs.Common.{◌≡◌, ℕ, suc, ◌+◌, ◌-◌, Bool, true, false, not, cond, if◌then◌else◌, List, [], ◌∷◌, length, take, drop, refl, sym, ◌∙◌, ap, Some, None, arith, length-drop}
use Rattle.std.specs.Prelude.{position, nat_lt}
use Rattle.std.specs.List.{position_or_len}
use Rattle.std.proofs.lemmas.Bool.{ltb-false}
use Rattle.std.proofs.lemmas.List.{take_all, drop_all}
use Rattle.gdb_protocol.specs.Words.{before, after}

of_some : (b : Bool) (n i : ℕ) → cond b (Some n) None ≡ Some i → n ≡ i
of_some true n i e = (cc)
of_some false n i e = absurd (cc)

of_none : (b : Bool) (n : ℕ) → cond b (Some n) None ≡ None → b ≡ false
of_none true n e = absurd (cc)
of_none false n e = refl

before_is : (p : ℕ → Bool) (xs : List ℕ) → take (position_or_len p xs) xs ≡ before p xs
unfolding before
before_is p [] = refl
before_is p (x ∷ xs) =
    let one : 1 + position_or_len p xs ≡ suc (position_or_len p xs) = omega arith in
    elim (p x) as (λ b. take (cond (not b) (1 + position_or_len p xs) 0) (x ∷ xs) ≡ (if b then [] else x ∷ before p xs)) [
      | true ↦ refl
      | false ↦ ap (λ n. take n (x ∷ xs)) one ∙ ap (λ ys. x ∷ ys) (before_is p xs)
    ]

after_is : (p : ℕ → Bool) (xs : List ℕ) → drop (position_or_len p xs + 1) xs ≡ after p xs
unfolding after
after_is p [] = refl
after_is p (x ∷ xs) =
    let one : 1 + position_or_len p xs + 1 ≡ suc (position_or_len p xs + 1) = omega arith in
    elim (p x) as (λ b. drop (cond (not b) (1 + position_or_len p xs) 0 + 1) (x ∷ xs) ≡ (if b then xs else after p xs)) [
      | true ↦ refl
      | false ↦ ap (λ n. drop n (x ∷ xs)) one ∙ after_is p xs
    ]

pub cut_before : (p : ℕ → Bool) (xs : List ℕ) (i : ℕ) → position p xs ≡ Some i → take i xs ≡ before p xs
cut_before p xs i e =
    ap (λ n. take n xs) (sym (of_some (nat_lt (position_or_len p xs) (length xs)) (position_or_len p xs) i e)) ∙ before_is p xs

pub cut_after : (p : ℕ → Bool) (xs : List ℕ) (i : ℕ) → position p xs ≡ Some i → take (length xs - (i + 1)) (drop (i + 1) xs) ≡ after p xs
cut_after p xs i e =
    take_all _ _ (omega (arith, length-drop (i + 1) xs))
    ∙ ap (λ n. drop (n + 1) xs) (sym (of_some (nat_lt (position_or_len p xs) (length xs)) (position_or_len p xs) i e)) ∙ after_is p xs

pub uncut_before : (p : ℕ → Bool) (xs : List ℕ) → position p xs ≡ None → xs ≡ before p xs
uncut_before p xs e =
    sym (take_all _ _ (ltb-false _ _ (of_none (nat_lt (position_or_len p xs) (length xs)) (position_or_len p xs) e))) ∙ before_is p xs

pub uncut_after : (p : ℕ → Bool) (xs : List ℕ) → position p xs ≡ None → [] ≡ after p xs
uncut_after p xs e =
    let past = ltb-false _ _ (of_none (nat_lt (position_or_len p xs) (length xs)) (position_or_len p xs) e) in
    sym (drop_all (position_or_len p xs + 1) xs (omega (arith, past))) ∙ after_is p xs
