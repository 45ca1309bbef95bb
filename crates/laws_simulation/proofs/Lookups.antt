-- What is found among approved pages and loaded modules after a change of their lists.
use Rattle.laws_simulation.proofs.LoadsKept.{or_first, or_second}
use Rattle.std.proofs.Common.{◌≡◌, ℕ, zero, suc, ◌+◌, ◌<◌, ◌≤◌, List, [], ◌∷◌, ◌++◌, filter, map, refl, sym, ◌∙◌, ap, subst, Bool, true}
use Rattle.std.proofs.Common.{false, not, ◌&&◌, ◌||◌, arith, slice_get, length, length-take, take, drop, min}
use Rattle.std.specs.Prelude.{Option, Some, None, if◌then◌else◌, is_some, ◌==◌, nat_lt}
use Rattle.std.proofs.lemmas.Bool.{eqb-true, and_right, false_from_ne_true}
use Rattle.std.proofs.lemmas.Bool.Decides.{nat_tests}
use Rattle.spec_processor.specs.Bytes.{page_bytes, part}
use Rattle.sv_types.specs.ApprovedPages.{ApprovedPage, numbers_from, approved_pages, approved_bytes}
use Rattle.sv_types.specs.declared.protection.Protection.{Protection}
use Rattle.sv_types.specs.declared.saved.ModulePlacement.{ModulePlacement}
use Rattle.spec_reference.specs.Origins.{AllAbove, Ascends}
use Rattle.spec_reference.specs.States.{has_number, without_pages, find_module, with_module, without_module, State, is_protected, is_approved_in}

-- ---- truth values

pub both : (b : Bool) → b ≡ true → b ≡ false → ⊥
both true t f = cc
both false t f = cc

pub second_of : (a b c d e : Bool) → (a && b && c && d && e) ≡ true → b ≡ true
second_of true true c d e k = refl
second_of true false c d e k = cc
second_of false b c d e k = cc

pub same_number : (n : ℕ) → (n == n) ≡ true
same_number n = grind (arith, nat_tests)

-- ---- options

pub none_there : {A : Type 0} (x : Option A) → is_some x ≡ false → x ≡ None
none_there None e = refl
none_there (Some a) e = cc

-- ---- numbers

pub numbers_bounds : (first n q : ℕ) → has_number (numbers_from first n) q ≡ true → (first ≤ q) × (q < first + n)
numbers_bounds first zero q e = cc
numbers_bounds first (suc n) q e = bounds_by first n q (first == q) refl e (numbers_bounds (first + 1) n q)
  where
    bounds_by : (first n q : ℕ) (b : Bool) → (first == q) ≡ b → (b || has_number (numbers_from (first + 1) n) q) ≡ true
        → (has_number (numbers_from (first + 1) n) q ≡ true → (first + 1 ≤ q) × (q < first + 1 + n)) → (first ≤ q) × (q < first + suc n)
    bounds_by first n q true at e rest = let same : first ≡ q = eqb-true first q at in (omega arith, omega arith)
    bounds_by first n q false at e rest = let k = rest e in (omega arith, omega arith)

pub length_pages : (f : ℕ → Protection) (first n : ℕ) → length (map f (numbers_from first n)) ≡ n
length_pages f first zero = refl
length_pages f first (suc n) = ap suc (length_pages f (first + 1) n)

filtered_by : (f : ℕ → Bool) (x n : ℕ) (xs : List ℕ) (at passes : Bool) → (x == n) ≡ at → f x ≡ passes
    → has_number (filter f xs) n ≡ (has_number xs n && f n)
    → has_number (if passes then x ∷ filter f xs else filter f xs) n ≡ ((at || has_number xs n) && f n)
filtered_by f x n xs true true at passes rest = let same : x ≡ n = eqb-true x n at in rw at (sym passes ∙ ap f same)
filtered_by f x n xs true false at passes rest =
    let same : x ≡ n = eqb-true x n at in let there : f n ≡ false = ap f (sym same) ∙ passes in rw (rest, there) (and_right (has_number xs n) false refl)
filtered_by f x n xs false true at passes rest = rw at rest
filtered_by f x n xs false false at passes rest = rest

pub number_filtered : (f : ℕ → Bool) (xs : List ℕ) (n : ℕ) → has_number (filter f xs) n ≡ (has_number xs n && f n)
number_filtered f [] n = refl
number_filtered f (x ∷ xs) n = filtered_by f x n xs (x == n) (f x) refl refl (number_filtered f xs n)

-- ---- protections

-- a page that isn't protected is neither approved nor held
pub unprotected : (r : State) (page : ℕ) → is_protected r page ≡ false → is_approved_in r.approved page ≡ false
unfolding is_protected
unprotected r page e = or_first (is_approved_in r.approved page) (has_number r.held page) e

pub unheld : (r : State) (page : ℕ) → is_protected r page ≡ false → has_number r.held page ≡ false
unfolding is_protected
unheld r page e = or_second (is_approved_in r.approved page) (has_number r.held page) e

-- ---- approved pages

front_by : (ram : List ℕ) (p page : ℕ) (there : Bool) (rest more : Option (List ℕ)) (b : Bool) → (p == page) ≡ b
    → more ≡ (if there then Some (page_bytes ram page) else rest)
    → (if b then Some (page_bytes ram p) else more) ≡ (if b || there then Some (page_bytes ram page) else rest)
front_by ram p page there rest more true at e = ap (λ (q : ℕ). Some (page_bytes ram q)) (eqb-true p page at)
front_by ram p page there rest more false at e = e

-- pages in front of those that are approved
pub approved_front : (ram pages : List ℕ) (rest : List ApprovedPage) (page : ℕ)
    → approved_bytes (approved_pages ram pages ++ rest) page ≡ (if has_number pages page then Some (page_bytes ram page) else approved_bytes rest page)
approved_front ram [] rest page = refl
approved_front ram (p ∷ pages) rest page =
    front_by ram p page (has_number pages page) (approved_bytes rest page) (approved_bytes (approved_pages ram pages ++ rest) page) (p == page) refl
    (approved_front ram pages rest page)

pub approved_alone : (ram pages : List ℕ) (page : ℕ)
    → approved_bytes (approved_pages ram pages) page ≡ (if has_number pages page then Some (page_bytes ram page) else None)
approved_alone ram [] page = refl
approved_alone ram (p ∷ pages) page =
    front_by ram p page (has_number pages page) None (approved_bytes (approved_pages ram pages) page) (p == page) refl (approved_alone ram pages page)

without_by : (entry : ApprovedPage) (pages : List ℕ) (page : ℕ) (rest : List ApprovedPage) (gone at : Bool) → has_number pages entry.page ≡ gone → (entry.page == page) ≡ at
    → approved_bytes rest page ≡ (if has_number pages page then None else approved_bytes rest page)
    → (old : Option (List ℕ)) → approved_bytes rest page ≡ (if has_number pages page then None else old)
    → approved_bytes (if not gone then entry ∷ rest else rest) page ≡ (if has_number pages page then None else (if at then Some entry.bytes else old))
without_by entry pages page rest true true gone at _ old e =
    let there : has_number pages page ≡ true = subst (λ (q : ℕ). has_number pages q ≡ true) (eqb-true entry.page page at) gone in rw there (rw there at e)
without_by entry pages page rest true false gone at _ old e = e
without_by entry pages page rest false true gone at _ old e =
    let there : has_number pages page ≡ false = subst (λ (q : ℕ). has_number pages q ≡ false) (eqb-true entry.page page at) gone in rw (there, at) refl
without_by entry pages page rest false false gone at _ old e = rw at e

either_way : {A : Type 0} (b : Bool) (x : A) → x ≡ (if b then x else x)
either_way true x = refl
either_way false x = refl

none_twice : {A : Type 0} (b : Bool) (x y : Option A) → x ≡ (if b then None else y) → x ≡ (if b then None else x)
none_twice true x y e = e
none_twice false x y e = refl

-- the approved pages without some
pub approved_without : (approved : List ApprovedPage) (pages : List ℕ) (page : ℕ)
    → approved_bytes (without_pages approved pages) page ≡ (if has_number pages page then None else approved_bytes approved page)
unfolding without_pages
approved_without [] pages page = either_way (has_number pages page) None
approved_without (entry ∷ approved) pages page =
    let e = approved_without approved pages page in
    without_by entry pages page (without_pages approved pages) (has_number pages entry.page) (entry.page == page) refl refl
    (none_twice (has_number pages page) (approved_bytes (without_pages approved pages) page) (approved_bytes approved page) e) (approved_bytes approved page) e

-- ---- modules

two_ids : (m first : ModulePlacement) (id : ℕ) (a b : Bool) (rest : Option ModulePlacement) → (m.id == id) ≡ a → (first.id == id) ≡ b → ((first.id == m.id) ≡ true → ⊥)
    → (if b then Some first else (if a then Some m else rest)) ≡ (if a then Some m else (if b then Some first else rest))
two_ids m first id true true rest a b other =
    let same : first.id ≡ m.id = eqb-true first.id id b ∙ sym (eqb-true m.id id a) in
    absurd (other (ap (λ (n : ℕ). n == m.id) same ∙ same_number m.id))
two_ids m first id true false rest a b other = refl
two_ids m first id false true rest a b other = refl
two_ids m first id false false rest a b other = refl

not_found : (first : ModulePlacement) (id : ℕ) (b : Bool) (rest : Option ModulePlacement) → (first.id == id) ≡ b → (if b then Some first else rest) ≡ None →
    ((first.id == id) ≡ true → ⊥) × (rest ≡ None)
not_found first id true rest at e = absurd (cc)
not_found first id false rest at e = (λ t. both (first.id == id) t at, e)

with_by : (before : Bool) (m first : ModulePlacement) (modules : List ModulePlacement) (id : ℕ) → ((first.id == m.id) ≡ true → ⊥)
    → find_module (with_module modules m) id ≡ (if m.id == id then Some m else find_module modules id)
    → find_module (if before then m ∷ (first ∷ modules) else first ∷ with_module modules m) id
    ≡ (if m.id == id then Some m else (if first.id == id then Some first else find_module modules id))
unfolding find_module
with_by true m first modules id other e = refl
with_by false m first modules id other e = rw e (two_ids m first id (m.id == id) (first.id == id) (find_module modules id) refl refl other)

-- a list with a module more, of an id that it didn't have
pub found_with : (modules : List ModulePlacement) (m : ModulePlacement) (id : ℕ) → find_module modules m.id ≡ None
    → find_module (with_module modules m) id ≡ (if m.id == id then Some m else find_module modules id)
unfolding find_module with_module
found_with [] m id none = refl
found_with (first ∷ modules) m id none =
    let other = not_found first m.id (first.id == m.id) (find_module modules m.id) refl none in
    with_by (nat_lt m.id first.id) m first modules id other.0 (found_with modules m id other.1)

gone_by : (m : ModulePlacement) (gone id : ℕ) (rest : List ModulePlacement) (old : Option ModulePlacement) (out at : Bool) → (m.id == gone) ≡ out → (m.id == id) ≡ at
    → find_module rest id ≡ (if gone == id then None else old)
    → find_module (if not out then m ∷ rest else rest) id ≡ (if gone == id then None else (if at then Some m else old))
unfolding find_module
gone_by m gone id rest old true true out at e =
    let same : gone ≡ id = sym (eqb-true m.id gone out) ∙ eqb-true m.id id at in
    let there : (gone == id) ≡ true = ap (λ (n : ℕ). n == id) same ∙ same_number id in rw there (rw there at e)
gone_by m gone id rest old true false out at e = e
gone_by m gone id rest old false true out at e =
    let same : m.id ≡ id = eqb-true m.id id at in
    let there : (gone == id) ≡ false =
    false_from_ne_true (gone == id) (λ t. both (m.id == gone) (ap (λ (n : ℕ). n == gone) (same ∙ sym (eqb-true gone id t)) ∙ same_number gone) out) in
    rw (there, at) refl
gone_by m gone id rest old false false out at e = rw at e

-- the modules without one
pub found_without : (modules : List ModulePlacement) (gone id : ℕ) → find_module (without_module modules gone) id ≡ (if gone == id then None else find_module modules id)
unfolding find_module
found_without [] gone id = either_way (gone == id) None
found_without (m ∷ modules) gone id =
    gone_by m gone id (without_module modules gone) (find_module modules id) (m.id == gone) (m.id == id) refl refl (found_without modules gone id)

-- ---- the list of modules ascends

pub above_less : (low high : ℕ) (modules : List ModulePlacement) → low < high → AllAbove high modules → AllAbove low modules
above_less low high [] less all = tt
above_less low high (m ∷ modules) less all = let first : high < m.id = all.0 in (omega arith, above_less low high modules less all.1)

above_insert : (id : ℕ) (before : Bool) (m first : ModulePlacement) (rest modules : List ModulePlacement) → id < m.id → id < first.id → AllAbove id rest → AllAbove id modules
    → AllAbove id (if before then m ∷ (first ∷ modules) else first ∷ rest)
above_insert id true m first rest modules new old more all = (new, (old, all))
above_insert id false m first rest modules new old more all = (old, more)

above_with : (id : ℕ) (modules : List ModulePlacement) (m : ModulePlacement) → id < m.id → AllAbove id modules → AllAbove id (with_module modules m)
unfolding with_module
above_with id [] m new all = (new, tt)
above_with id (first ∷ modules) m new all =
    above_insert id (nat_lt m.id first.id) m first (with_module modules m) modules new all.0 (above_with id modules m new all.1) all.1

ascends_insert : (before : Bool) (m first : ModulePlacement) (modules : List ModulePlacement) → nat_lt m.id first.id ≡ before → (first.id == m.id) ≡ false → AllAbove first.id modules → Ascends modules
    → Ascends (with_module modules m) → Ascends (if before then m ∷ (first ∷ modules) else first ∷ with_module modules m)
ascends_insert true m first modules at other above rest more =
    let less : m.id < first.id = grind (arith, nat_tests) in ((less, above_less m.id first.id modules less above), (above, rest))
ascends_insert false m first modules at other above rest more =
    let less : first.id < m.id = grind (arith, nat_tests) in (above_with first.id modules m less above, more)

pub ascends_with : (modules : List ModulePlacement) (m : ModulePlacement) → Ascends modules → find_module modules m.id ≡ None → Ascends (with_module modules m)
unfolding with_module find_module
ascends_with [] m up none = (tt, tt)
ascends_with (first ∷ modules) m up none =
    let other = not_found first m.id (first.id == m.id) (find_module modules m.id) refl none in
    ascends_insert (nat_lt m.id first.id) m first modules refl (false_from_ne_true (first.id == m.id) other.0) up.0 up.1 (ascends_with modules m up.1 other.1)

above_kept : (id : ℕ) (out : Bool) (m : ModulePlacement) (rest : List ModulePlacement) → id < m.id → AllAbove id rest → AllAbove id (if not out then m ∷ rest else rest)
above_kept id true m rest first all = all
above_kept id false m rest first all = (first, all)

above_without : (id : ℕ) (modules : List ModulePlacement) (gone : ℕ) → AllAbove id modules → AllAbove id (without_module modules gone)
above_without id [] gone all = tt
above_without id (m ∷ modules) gone all = above_kept id (m.id == gone) m (without_module modules gone) all.0 (above_without id modules gone all.1)

ascends_kept : (out : Bool) (m : ModulePlacement) (rest : List ModulePlacement) → AllAbove m.id rest → Ascends rest → Ascends (if not out then m ∷ rest else rest)
ascends_kept true m rest above up = up
ascends_kept false m rest above up = (above, up)

pub ascends_without : (modules : List ModulePlacement) (gone : ℕ) → Ascends modules → Ascends (without_module modules gone)
ascends_without [] gone up = tt
ascends_without (m ∷ modules) gone up =
    ascends_kept (m.id == gone) m (without_module modules gone) (above_without m.id modules gone up.0) (ascends_without modules gone up.1)

pub above_at : (id : ℕ) (modules : List ModulePlacement) (i : ℕ) (m : ModulePlacement) → AllAbove id modules → slice_get modules i ≡ Some m → id < m.id
above_at id [] i m all e = cc
above_at id (n ∷ modules) zero m all e = let same : n ≡ m = cc in subst (λ (k : ModulePlacement). id < k.id) same all.0
above_at id (n ∷ modules) (suc i) m all e = above_at id modules i m all.1 e

-- so each of them is found by its id
pub all_found : (modules : List ModulePlacement) (i : ℕ) (m : ModulePlacement) → Ascends modules → slice_get modules i ≡ Some m → find_module modules m.id ≡ Some m
unfolding find_module
all_found [] i m up e = cc
all_found (n ∷ modules) zero m up e =
    let same : n ≡ m = cc in subst (λ (k : ModulePlacement). (if n.id == k.id then Some n else find_module modules k.id) ≡ Some k) same (rw (same_number n.id) refl)
all_found (n ∷ modules) (suc i) m up e =
    let less : n.id < m.id = above_at n.id modules i m up.0 e in
    let other : (n.id == m.id) ≡ false = grind (arith, nat_tests) in rw other (all_found modules i m up.1 e)

pub part_short : (xs : List ℕ) (at n : ℕ) → length (part xs at n) ≤ n
part_short xs at n = let e : length (take n (drop at xs)) ≡ min n (length (drop at xs)) = length-take n (drop at xs) in rw e (omega arith)
