-- The window in which a name is looked for, and lists that are mapped.
use Rattle.std.proofs.Common.{◌≡◌, ℕ, ◌-◌, ◌≤◌, ◌||◌, Bool, List, [], ◌∷◌, length, map, min, take, drop, refl, ap, ◌∙◌, arith, length-drop}
use Rattle.std.specs.List.{list_any}
use Rattle.std.proofs.lemmas.List.{take_all, take_min, drop_min}
use Rattle.sv_types.specs.ApprovedPages.{numbers_from}
use Rattle.elf64_load.specs.Sections.{Tables}
use Rattle.elf64_load.specs.Symbols.{nearest_of}

pub list_any_map : {A B : Type 0} (p : B → Bool) (f : A → B) (xs : List A) → list_any p (map f xs) ≡ list_any (λ x. p (f x)) xs
list_any_map p f [] = refl
list_any_map p f (x ∷ xs) = ap (λ b. p (f x) || b) (list_any_map p f xs)

rest_is : (at m : ℕ) (xs : List ℕ) → m ≡ min (length xs) at → take (length xs - m) (drop m xs) ≡ drop at xs
rest_is at m xs first =
    let all : length (drop m xs) ≤ length xs - m = simp length-drop (omega arith) in
    let inside : m ≡ min at (length xs) = omega arith in
    take_all (length xs - m) (drop m xs) all ∙ ap (λ (k : ℕ). drop k xs) inside ∙ drop_min at xs

part_is : (n k : ℕ) (xs : List ℕ) → k ≡ min (length xs) n → take k xs ≡ take n xs
part_is n k xs last =
    let inside : k ≡ min n (length xs) = omega arith in
    ap (λ (j : ℕ). take j xs) inside ∙ take_min n xs

-- both ends of a part may lie after the list's end
pub window : (n at m k : ℕ) (xs rest : List ℕ) → m ≡ min (length xs) at → rest ≡ take (length xs - m) (drop m xs) → k ≡ min (length rest) n
    → take k rest ≡ take n (drop at xs)
window n at m k xs rest first is last =
    part_is n k rest last ∙ ap (λ (ys : List ℕ). take n ys) (is ∙ rest_is at m xs first)

-- all symbols were looked at
pub all_seen : (t : Tables) (address i n : ℕ) → i ≤ 0 → nearest_of t address (numbers_from i (n - i)) ≡ nearest_of t address (numbers_from 0 n)
all_seen t address i n none =
    let first : i ≡ 0 = omega arith in
    let all : n - 0 ≡ n = omega arith in
    rw (first, all) refl
