-- What a search through a list finds.
use Rattle.std.proofs.Common.{◌≡◌, Bool, true, false, ◌||◌, List, [], ◌∷◌, Some, All, map, refl, subst, cond}
use Rattle.std.specs.List.{find, list_any}
use Rattle.std.specs.Prelude.{option_map}
use Rattle.std.proofs.lemmas.List.Elements.{All-head, All-tail}
use Rattle.std.proofs.lemmas.Bool.{or_right}
use Rattle.std.proofs.lemmas.Option.{same_Some}

-- an element of the list that passes a test: a test that it passes finds something
pub record IsMet {X : Type 0} (P : X → Type 0) (test : X → Bool) (xs : List X) (x : X) : Type 0 where
  pub holds : P x
  pub passes : test x ≡ true
  pub among : (q : X → Bool) → q x ≡ true → list_any q xs ≡ true

met_first : {X : Type 0} (P : X → Type 0) (test : X → Bool) (y : X) (ys : List X) → P y → test y ≡ true → IsMet P test (y ∷ ys) y
met_first P test y ys holds passes = record { holds = holds; passes = passes; among = λ q is. rw is refl }

met_later : {X : Type 0} (P : X → Type 0) (test : X → Bool) (y : X) (ys : List X) (x : X) → IsMet P test ys x → IsMet P test (y ∷ ys) x
met_later P test y ys x met = record { holds = met.holds; passes = met.passes; among = λ q is. or_right (q y) (list_any q ys) (met.among q is) }

found_by : {X : Type 0} (P : X → Type 0) (test : X → Bool) (y : X) (ys : List X) (x : X) (b : Bool) → test y ≡ b → cond b (Some y) (find test ys) ≡ Some x → P y
    → (find test ys ≡ Some x → IsMet P test ys x) → IsMet P test (y ∷ ys) x
found_by P test y ys x true is e here rest = subst (IsMet P test (y ∷ ys)) (same_Some y x e) (met_first P test y ys here is)
found_by P test y ys x false is e here rest = met_later P test y ys x (rest e)

pub found_met : {X : Type 0} (P : X → Type 0) (test : X → Bool) (xs : List X) (x : X) → All P xs → find test xs ≡ Some x → IsMet P test xs x
found_met P test [] x all e = absurd (cc e)
found_met P test (y ∷ ys) x all e =
    found_by P test y ys x (test y) refl e (All-head P y ys all) (λ found. found_met P test ys x (All-tail P y ys all) found)

any_by : {X : Type 0} (P : X → Type 0) (test : X → Bool) (y : X) (ys : List X) (b : Bool) → test y ≡ b → (b || list_any test ys) ≡ true → P y
    → (list_any test ys ≡ true → (x : X) × IsMet P test ys x) → (x : X) × IsMet P test (y ∷ ys) x
any_by P test y ys true is e here rest = (y, met_first P test y ys here is)
any_by P test y ys false is e here rest = let found = rest e in (found.0, met_later P test y ys found.0 found.1)

pub any_met : {X : Type 0} (P : X → Type 0) (test : X → Bool) (xs : List X) → All P xs → list_any test xs ≡ true → (x : X) × IsMet P test xs x
any_met P test [] all e = absurd (cc e)
any_met P test (y ∷ ys) all e = any_by P test y ys (test y) refl e (All-head P y ys all) (λ found. any_met P test ys (All-tail P y ys all) found)

-- ---- over a list's values

pub find_map : {A B : Type 0} (p : B → Bool) (f : A → B) (xs : List A) → find p (map f xs) ≡ option_map f (find (λ x. p (f x)) xs)
find_map p f [] = refl
find_map p f (x ∷ xs) = find_map_by p f x xs (p (f x)) (find_map p f xs)
  where
    find_map_by : {A B : Type 0} (p : B → Bool) (f : A → B) (x : A) (xs : List A) (b : Bool) → find p (map f xs) ≡ option_map f (find (λ x. p (f x)) xs)
        → cond b (Some (f x)) (find p (map f xs)) ≡ option_map f (cond b (Some x) (find (λ x. p (f x)) xs))
    find_map_by p f x xs true rest = refl
    find_map_by p f x xs false rest = rest
