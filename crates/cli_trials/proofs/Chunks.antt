-- Numbers in chunks, and their outcomes.
use Rattle.std.proofs.Common.{◌≡◌, ◌<◌, ◌≤◌, ◌⊎◌, inl, inr, ℕ, zero, suc, ◌+◌, ◌-◌, ◌*◌, ◌/◌, ◌%◌, min, List, [], ◌∷◌, ◌++◌, length, map}
use Rattle.std.proofs.Common.{take, drop, Some, refl, sym, ◌∙◌, ap, ap₂, subst, arith, add-one}
use Rattle.std.proofs.Math.Nat.{mod-eq-sub-div-mul, div-mul-le_self, mod-lt, mul-le-mul_right, suc-mul}
use Rattle.std.proofs.Math.Seq.{take-add}
use Rattle.std.proofs.lemmas.Bool.Decides.{nat_tests}
use Rattle.std.proofs.lemmas.List.{map-append, take_all, length-map}
use Rattle.sv_types.specs.ApprovedPages.{numbers_from}
use Rattle.script_lines.specs.declared.tally.outcome.Outcome.{Outcome}
use Rattle.cli_trials.specs.declared.sweep.sweeping.Sweep.{Sweep}
use Rattle.cli_trials.specs.Sweeps.{AreOutcomes, outcome_at}

-- ---- numbers that follow one another

pub numbers_more : (first n : ℕ) → numbers_from first (n + 1) ≡ numbers_from first n ++ (first + n) ∷ []
numbers_more first zero = let same : first ≡ first + 0 = omega arith in ap (λ (k : ℕ). k ∷ []) same
numbers_more first (suc n) =
    let place : first + 1 + n ≡ first + suc n = omega arith in
    let count : suc n + 1 ≡ suc (n + 1) = omega arith in
    ap (λ (k : ℕ). numbers_from first k) count
    ∙ ap (λ (ns : List ℕ). first ∷ ns) (numbers_more (first + 1) n)
    ∙ ap (λ (k : ℕ). first ∷ (numbers_from (first + 1) n ++ k ∷ [])) place

numbers_length : (first n : ℕ) → length (numbers_from first n) ≡ n
numbers_length first zero = refl
numbers_length first (suc n) = ap suc (numbers_length (first + 1) n)

-- ---- the places of chunks

whole_or_more : (n p r q qs size : ℕ) → r ≡ n - p → p ≤ n → r < size → qs ≡ p + size → (k ks : ℕ) → ((k ≡ q) × (r ≡ 0) × (ks ≡ p)) ⊎ (ks ≡ qs) → n ≤ ks
whole_or_more n p r q qs size rest below less more k ks (inl (is, none, same)) = omega arith
whole_or_more n p r q qs size rest below less more k ks (inr same) = omega arith

-- so many chunks have all
chunks_hold : (n size k : ℕ) → 0 < size → k ≡ n / size + min 1 (n % size) → n ≤ k * size
chunks_hold n size k some is =
    let either : (n % size ≡ 0) ⊎ (0 < n % size) = grind (arith, nat_tests) in
    whole_or_more n (n / size * size) (n % size) (n / size) (suc (n / size) * size) size (mod-eq-sub-div-mul n size) (div-mul-le_self n size) (mod-lt n some) (suc-mul (n / size) size) k (k * size)
    (elim either as (λ _. ((k ≡ n / size) × (n % size ≡ 0) × (k * size ≡ n / size * size)) ⊎ (k * size ≡ suc (n / size) * size)) [
      | inl none ↦ (let whole : k ≡ n / size = is ∙ plus_none (n / size) (n % size) none in inl (whole, none, ap (λ (m : ℕ). m * size) whole))
      | inr left ↦ (let one : k ≡ suc (n / size) = is ∙ plus_one (n / size) (n % size) left in inr (ap (λ (m : ℕ). m * size) one))
    ])
  where
    plus_none : (q r : ℕ) → r ≡ 0 → q + min 1 r ≡ q
    plus_none q r none = omega (arith, none)

    plus_one : (q r : ℕ) → 0 < r → q + min 1 r ≡ suc q
    plus_one q r left = omega (arith, left)

pub all_chunks : (n size k i : ℕ) → 0 < size → k ≡ n / size + min 1 (n % size) → k ≤ i → n ≤ i * size
all_chunks n size k i some is past =
    let a = chunks_hold n size k some is in
    let b : k * size ≤ i * size = mul-le-mul_right size past in
    omega (arith, a, b)

-- ---- outcomes

pub one_more : (sweep : Sweep) (numbers : List ℕ) (number : ℕ) (outcomes : List Outcome) (outcome : Outcome) → AreOutcomes sweep numbers outcomes →
    outcome_at sweep number ≡ Some outcome → AreOutcomes sweep (numbers ++ number ∷ []) (outcomes ++ outcome ∷ [])
one_more sweep numbers number outcomes outcome are is =
    map-append (outcome_at sweep) numbers (number ∷ [])
    ∙ ap₂ (λ front last. front ++ last ∷ []) are is
    ∙ sym (map-append Some outcomes (outcome ∷ []))

some_more : (sweep : Sweep) (numbers more : List ℕ) (outcomes others : List Outcome) → AreOutcomes sweep numbers outcomes → AreOutcomes sweep more others →
    AreOutcomes sweep (numbers ++ more) (outcomes ++ others)
some_more sweep numbers more outcomes others are those =
    map-append (outcome_at sweep) numbers more ∙ ap₂ (λ front back. front ++ back) are those ∙ sym (map-append Some outcomes others)

pub chunk_more : (sweep : Sweep) (numbers : List ℕ) (size i : ℕ) (outcomes others : List Outcome) → AreOutcomes sweep (take (i * size) numbers) outcomes →
    AreOutcomes sweep (take size (drop (i * size) numbers)) others → AreOutcomes sweep (take ((i + 1) * size) numbers) (outcomes ++ others)
chunk_more sweep numbers size i outcomes others are those =
    let place : (i + 1) * size ≡ i * size + size = ap (λ (k : ℕ). k * size) (add-one i) ∙ suc-mul i size in
    ap (λ (k : ℕ). map (outcome_at sweep) (take k numbers)) place
    ∙ ap (λ (ns : List ℕ). map (outcome_at sweep) ns) (take-add (i * size) size numbers)
    ∙ some_more sweep (take (i * size) numbers) (take size (drop (i * size) numbers)) outcomes others are those

pub all_taken : (sweep : Sweep) (numbers : List ℕ) (n : ℕ) (outcomes : List Outcome) → length numbers ≤ n → AreOutcomes sweep (take n numbers) outcomes → AreOutcomes sweep numbers outcomes
all_taken sweep numbers n outcomes all are = subst (λ (ns : List ℕ). AreOutcomes sweep ns outcomes) (take_all n numbers all) are

-- as many as there are numbers
pub as_many : (sweep : Sweep) (first count : ℕ) (outcomes : List Outcome) → AreOutcomes sweep (numbers_from first count) outcomes → length outcomes ≡ count
as_many sweep first count outcomes are =
    sym (length-map outcomes Some) ∙ ap length (sym are) ∙ length-map (numbers_from first count) (outcome_at sweep) ∙ numbers_length first count
