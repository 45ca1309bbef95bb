-- Bytes that are seen from an address on.
use Rattle.std.proofs.Common.{◌≡◌, ℕ, zero, suc, ◌+◌, ◌-◌, ◌<◌, ◌≤◌, ◌^◌, if◌then◌else◌, List, [], ◌∷◌, ◌++◌, refl, sym, ◌∙◌, ap, Some, None, arith}
use Rattle.std.proofs.lemmas.Bool.{lt-ltb, le-ltb}
use Rattle.std.proofs.lemmas.List.{append-nil, append_assoc}
use Rattle.debug_views.specs.Memory.{seen_byte, seen_bytes, begun_with}

pub none_left : (ram : List ℕ) (satp va n : ℕ) → n ≡ 0 → seen_bytes ram satp va n ≡ []
unfolding seen_bytes
none_left ram satp va n none = rw none refl

pub past_the_end : (ram : List ℕ) (satp va n : ℕ) → 2 ^ 64 ≤ va → seen_bytes ram satp va n ≡ []
unfolding seen_bytes
past_the_end ram satp va zero past = refl
past_the_end ram satp va (suc n) past =
    ap (λ b. if b then begun_with (seen_byte ram satp va) (seen_bytes ram satp (va + 1) n) else []) (le-ltb va (2 ^ 64) past)

step : (ram : List ℕ) (satp va n m : ℕ) → m ≡ suc n → va < 2 ^ 64 → seen_bytes ram satp va m ≡ begun_with (seen_byte ram satp va) (seen_bytes ram satp (va + 1) n)
unfolding seen_bytes
step ram satp va n m more within =
    ap (seen_bytes ram satp va) more
    ∙ ap (λ b. if b then begun_with (seen_byte ram satp va) (seen_bytes ram satp (va + 1) n) else []) (lt-ltb va (2 ^ 64) within)

pub unseen : (ram : List ℕ) (satp va n : ℕ) → 0 < n → va < 2 ^ 64 → seen_byte ram satp va ≡ None → seen_bytes ram satp va n ≡ []
unseen ram satp va n some within none =
    step ram satp va (n - 1) n (omega (arith, some)) within ∙ ap (λ b. begun_with b (seen_bytes ram satp (va + 1) (n - 1))) none

pub seen : (ram : List ℕ) (satp va n byte : ℕ) → 0 < n → va < 2 ^ 64 → seen_byte ram satp va ≡ Some byte →
    seen_bytes ram satp va n ≡ byte ∷ seen_bytes ram satp (va + 1) (n - 1)
seen ram satp va n byte some within is =
    step ram satp va (n - 1) n (omega (arith, some)) within ∙ ap (λ b. begun_with b (seen_bytes ram satp (va + 1) (n - 1))) is

-- ---- bytes that were put, and those that are left

-- none is left
pub all_put : (put whole left : List ℕ) → left ≡ [] → put ++ left ≡ whole → put ≡ whole
all_put put whole left none is = sym (append-nil put) ∙ ap (λ xs. put ++ xs) (sym none) ∙ is

-- one more is put
pub one_put : (put whole left rest : List ℕ) (byte : ℕ) → left ≡ byte ∷ rest → put ++ left ≡ whole → put ++ byte ∷ [] ++ rest ≡ whole
one_put put whole left rest byte more is = append_assoc put (byte ∷ []) rest ∙ ap (λ xs. put ++ xs) (sym more) ∙ is
