-- Names that are put into an order, each once.
use Rattle.std.proofs.Common.{◌≡◌, ℕ, Bool, true, false, ◌||◌, List, [], ◌∷◌, refl, ap, sym, ◌∙◌, Less, Equal, Greater, subst}
use Rattle.sv_types.proofs.TruthValues.{or_assoc}
use Rattle.std.specs.BTreeSet.{replace_key}
use Rattle.std.specs.Cmp.Lexicographic.{slice_cmp}
use Rattle.std.specs.List.{list_any, AllByRecursion}
use Rattle.std.specs.List.Sorted.{IsStrictlySortedBy}
use Rattle.std.specs.Ordering.{nat_cmp, ordering_reverse}
use Rattle.std.specs.declared.cmp.Ordering.{Ordering}
use Rattle.std.proofs.lemmas.Cmp.{nat_list_cmp_total}
use Rattle.std.proofs.lemmas.Map.Lookups.{exact_bytes}
use Rattle.policy_making.specs.Making.{once_from, each_once}

abbrev Name : Type 0
Name = List ℕ

abbrev order : Name → Name → Ordering
order = slice_cmp nat_cmp

-- ---- the order

kept_by : (P : Name → Type 0) (x : Name) (xs : List Name) (k : Name) (o : Ordering) → order k x ≡ o → P k → P x → AllByRecursion P xs → AllByRecursion P (replace_key order xs k)
    → AllByRecursion P (replace_key order (x ∷ xs) k)
kept_by P x xs k Less e of_k of_x of_xs rest = rw e (of_k, (of_x, of_xs))
kept_by P x xs k Equal e of_k of_x of_xs rest = rw e (of_k, of_xs)
kept_by P x xs k Greater e of_k of_x of_xs rest = rw e (of_x, rest)

kept : (P : Name → Type 0) (xs : List Name) (k : Name) → P k → AllByRecursion P xs → AllByRecursion P (replace_key order xs k)
kept P [] k of_k all = (of_k, all)
kept P (x ∷ xs) k of_k all = kept_by P x xs k (order k x) refl of_k all.0 all.1 (kept P xs k of_k all.1)

below_more : (k x : Name) (xs : List Name) → ((y : Name) → order x y ≡ Less → order k y ≡ Less) → AllByRecursion (λ y. order x y ≡ Less) xs → AllByRecursion (λ y. order k y ≡ Less) xs
below_more k x [] step all = all
below_more k x (y ∷ ys) step all = (step y all.0, below_more k x ys step all.1)

sorted_by : (x : Name) (xs : List Name) (k : Name) (o : Ordering) → order k x ≡ o → AllByRecursion (λ y. order x y ≡ Less) xs → IsStrictlySortedBy order xs
    → IsStrictlySortedBy order (replace_key order xs k) → IsStrictlySortedBy order (replace_key order (x ∷ xs) k)
unfolding IsStrictlySortedBy
sorted_by x xs k Less e below sorted rest =
    rw e ((e, below_more k x xs (λ y less. nat_list_cmp_total.trans k x y e less) below), (below, sorted))
sorted_by x xs k Equal e below sorted rest =
    rw e (below_more k x xs (λ y less. nat_list_cmp_total.congr k x y e ∙ less) below, sorted)
sorted_by x xs k Greater e below sorted rest =
    let above : order x k ≡ Less = nat_list_cmp_total.antisymm x k ∙ ap ordering_reverse e in
    rw e (kept (λ y. order x y ≡ Less) xs k above below, rest)

sorted_put : (xs : List Name) (k : Name) → IsStrictlySortedBy order xs → IsStrictlySortedBy order (replace_key order xs k)
unfolding IsStrictlySortedBy
sorted_put [] k sorted = (sorted, sorted)
sorted_put (x ∷ xs) k sorted = sorted_by x xs k (order k x) refl sorted.0 sorted.1 (sorted_put xs k sorted.1)

sorted_from : (once names : List Name) → IsStrictlySortedBy order once → IsStrictlySortedBy order (once_from once names)
sorted_from once [] sorted = sorted
sorted_from once (name ∷ names) sorted = sorted_from (replace_key order once name) names (sorted_put once name sorted)

pub once_sorted : (names : List (List ℕ)) → IsStrictlySortedBy (slice_cmp nat_cmp) (each_once names)
unfolding IsStrictlySortedBy
once_sorted names = sorted_from [] names tt

-- ---- which names there are

first_last : (a b c : Bool) → (a || (b || c)) ≡ ((b || c) || a)
first_last true true c = refl
first_last true false true = refl
first_last true false false = refl
first_last false true c = refl
first_last false false true = refl
first_last false false false = refl

same_first : (a c : Bool) → (a || c) ≡ ((a || c) || a)
same_first true c = refl
same_first false true = refl
same_first false false = refl

some_by : (p : Name → Bool) (x : Name) (xs : List Name) (k : Name) (o : Ordering) → order k x ≡ o → list_any p (replace_key order xs k) ≡ (list_any p xs || p k)
    → list_any p (replace_key order (x ∷ xs) k) ≡ (list_any p (x ∷ xs) || p k)
some_by p x xs k Less e rest = rw e (first_last (p k) (p x) (list_any p xs))
some_by p x xs k Equal e rest =
    let same : k ≡ x = exact_bytes k x e in
    rw e (subst (λ (y : Name). (p k || list_any p xs) ≡ ((p y || list_any p xs) || p k)) same (same_first (p k) (list_any p xs)))
some_by p x xs k Greater e rest = rw e (ap (λ (b : Bool). p x || b) rest ∙ or_assoc (p x) (list_any p xs) (p k))

some_put : (p : Name → Bool) (xs : List Name) (k : Name) → list_any p (replace_key order xs k) ≡ (list_any p xs || p k)
some_put p [] k = first_last (p k) false false
some_put p (x ∷ xs) k = some_by p x xs k (order k x) refl (some_put p xs k)

or_none : (a : Bool) → a ≡ (a || false)
or_none true = refl
or_none false = refl

some_from : (p : Name → Bool) (once names : List Name) → list_any p (once_from once names) ≡ (list_any p once || list_any p names)
some_from p once [] = or_none (list_any p once)
some_from p once (name ∷ names) =
    some_from p (replace_key order once name) names ∙ ap (λ (b : Bool). b || list_any p names) (some_put p once name)
    ∙ sym (or_assoc (list_any p once) (p name) (list_any p names))

pub some_once : (names : List (List ℕ)) (p : List ℕ → Bool) → list_any p (each_once names) ≡ list_any p names
some_once names p = some_from p [] names
