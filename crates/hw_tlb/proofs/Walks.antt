-- G-stage walks of the addresses of one page, and walks by a reader that reads more.
use Rattle.std.proofs.Common.{◌≡◌, ℕ, zero, suc, ◌+◌, ◌-◌, ◌*◌, ◌/◌, ◌%◌, ◌^◌, ◌<◌, ◌≤◌, List, [], ◌∷◌, length, refl, ◌∙◌, ap, arith, lit≤, Bool, true, false, ◌&&◌}
use Rattle.std.specs.Prelude.{Option, Some, None, if◌then◌else◌, ◌==◌, nat_le, nat_lt}
use Rattle.std.proofs.lemmas.Bool.Decides.{nat_tests}
use Rattle.spec_processor.specs.Bytes.{word, page_size}
use Rattle.spec_processor.specs.Regions.{Region, host_word}
use Rattle.spec_processor.specs.Translation.{walk, is_pointer, is_leaf, entry_page, leaf_address, at_leaf, at_entry, root_of, Destination, At, PageFault, Unreadable}
use Rattle.spec_processor.specs.GStage.{walk_guest, address_at, entry_in_region, entry_in_tables, host_entry, permits_guest, sv39x4_indices, guest_destination, guest_address_bits}
use Rattle.spec_processor.specs.declared.access.Access.{Access}

-- ---- a reader that reads more

abbrev Extends : (ℕ → Option ℕ) → (ℕ → Option ℕ) → Type 0
Extends read other = (a e : ℕ) → read a ≡ Some e → other a ≡ Some e

-- every entry of the walk was read
abbrev pub IsReadable : Destination → Type 0
IsReadable (At found) = Unit {0}
IsReadable PageFault = Unit {0}
IsReadable (Unreadable entry) = ⊥

choose_extends : (b : Bool) (x y z : Destination) → (IsReadable x → y ≡ x) → IsReadable (if b then x else z) → (if b then y else z) ≡ (if b then x else z)
choose_extends true x y z same readable = same readable
choose_extends false x y z same readable = refl

entry_extends : (grants : ℕ → Bool) (below at a : ℕ) (deeper other : ℕ → Destination) (first second : Option ℕ)
    → ((e : ℕ) → first ≡ Some e → second ≡ Some e) → ((e : ℕ) → IsReadable (deeper (entry_page e)) → other (entry_page e) ≡ deeper (entry_page e))
    → IsReadable (at_entry grants below at deeper a first) → at_entry grants below at other a second ≡ at_entry grants below at deeper a first
entry_extends grants below at a deeper other None second more same readable = absurd readable
entry_extends grants below at a deeper other (Some e) second more same readable =
    rw (more e refl) (choose_extends (is_pointer e) (deeper (entry_page e)) (other (entry_page e)) (at_leaf grants below e a) (same e) readable)

walk_extends : (read other : ℕ → Option ℕ) (grants : ℕ → Bool) (indices : List ℕ) (table a : ℕ) → Extends read other
    → IsReadable (walk read grants indices table a) → walk other grants indices table a ≡ walk read grants indices table a
unfolding walk
walk_extends read other grants [] table a more readable = refl
walk_extends read other grants (index ∷ indices) table a more readable =
    entry_extends grants (length indices) (table + 8 * index) a (λ next. walk read grants indices next a) (λ next. walk other grants indices next a)
    (read (table + 8 * index)) (other (table + 8 * index)) (more (table + 8 * index))
    (λ e. walk_extends read other grants indices (entry_page e) a more) readable

table_word_there : (r : Region) (a e : ℕ) (b : Bool) → nat_le (a + 8) (length r.tables) ≡ b → (if b then Some (word r.tables a 8) else None) ≡ Some e
    → Some (host_entry r a) ≡ Some e
unfolding host_entry host_word
table_word_there r a e true test is =
    let whole : nat_le (a + 8) (length r.tables + length r.ram) ≡ true = grind (arith, nat_tests) in
    let front : nat_lt a (length r.tables) ≡ true = grind (arith, nat_tests) in
    rw (whole, front) is
table_word_there r a e false test is = absurd (cc)

region_extends : (r : Region) → Extends (entry_in_tables r.tables) (entry_in_region r)
unfolding entry_in_tables
region_extends r a e is = table_word_there r a e (nat_le (a + 8) (length r.tables)) refl is

-- a walk that reads the tables alone leads to the same place in the region
pub leads_in_region : (r : Region) (hgatp gpa : ℕ) (access : Access) → IsReadable (guest_destination (entry_in_tables r.tables) hgatp gpa access)
    → guest_destination (entry_in_region r) hgatp gpa access ≡ guest_destination (entry_in_tables r.tables) hgatp gpa access
leads_in_region r hgatp gpa access readable =
    walk_extends (entry_in_tables r.tables) (entry_in_region r) (permits_guest access) (sv39x4_indices gpa) (root_of hgatp) gpa (region_extends r) readable

choose_readable : (b : Bool) (x y : Destination) → IsReadable x → IsReadable y → IsReadable (if b then x else y)
choose_readable true x y h k = h
choose_readable false x y h k = k

walk_readable : (r : Region) (grants : ℕ → Bool) (indices : List ℕ) (table a : ℕ) → IsReadable (walk (entry_in_region r) grants indices table a)
unfolding walk
walk_readable r grants [] table a = tt
walk_readable r grants (index ∷ indices) table a =
    let e : ℕ = host_entry r (table + 8 * index) in
    choose_readable (is_pointer e) (walk (entry_in_region r) grants indices (entry_page e) a) (at_leaf grants (length indices) e a)
    (walk_readable r grants indices (entry_page e) a)
    (choose_readable (is_leaf (length indices) e && grants e) (At (leaf_address (length indices) e a)) PageFault tt tt)

-- a walk of the region reads all its entries
pub region_readable : (r : Region) (hgatp gpa : ℕ) (access : Access) → IsReadable (guest_destination (entry_in_region r) hgatp gpa access)
region_readable r hgatp gpa access = walk_readable r (permits_guest access) (sv39x4_indices gpa) (root_of hgatp) gpa

-- ---- the addresses of a page

-- where the walk of another address of the page leads, at this place in the page
abbrev pub destination_at : ℕ → Destination → Destination
destination_at place (At found) = At (found - found % page_size + place)
destination_at place PageFault = PageFault
destination_at place (Unreadable entry) = Unreadable entry

leaf_moves : (below e a b : ℕ) → below < 3 → a / page_size ≡ b / page_size
    → leaf_address below e b ≡ leaf_address below e a - leaf_address below e a % page_size + b % page_size
leaf_moves zero e a b few same = omega arith
leaf_moves (suc zero) e a b few same = omega arith
leaf_moves (suc (suc zero)) e a b few same = omega arith
leaf_moves (suc (suc (suc n))) e a b few same = absurd (omega arith)

pub choose_moves : (c : Bool) (place : ℕ) (x y v w : Destination) → v ≡ destination_at place x → w ≡ destination_at place y → (if c then v else w) ≡ destination_at place (if c then x else y)
choose_moves true place x y v w h k = h
choose_moves false place x y v w h k = k

entry_moves : (grants : ℕ → Bool) (below at a b : ℕ) (deeper other : ℕ → Destination) (entry : Option ℕ) → below < 3 → a / page_size ≡ b / page_size
    → ((e : ℕ) → other (entry_page e) ≡ destination_at (b % page_size) (deeper (entry_page e)))
    → at_entry grants below at other b entry ≡ destination_at (b % page_size) (at_entry grants below at deeper a entry)
entry_moves grants below at a b deeper other None few same deep = refl
entry_moves grants below at a b deeper other (Some e) few same deep =
    choose_moves (is_pointer e) (b % page_size) (deeper (entry_page e)) (at_leaf grants below e a) (other (entry_page e)) (at_leaf grants below e b) (deep e)
    (choose_moves (is_leaf below e && grants e) (b % page_size) (At (leaf_address below e a)) PageFault (At (leaf_address below e b)) PageFault
    (ap At (leaf_moves below e a b few same)) refl)

pub walk_moves : (read : ℕ → Option ℕ) (grants : ℕ → Bool) (indices : List ℕ) (table a b : ℕ) → length indices ≤ 3 → a / page_size ≡ b / page_size
    → walk read grants indices table b ≡ destination_at (b % page_size) (walk read grants indices table a)
unfolding walk
walk_moves read grants [] table a b few same = refl
walk_moves read grants (index ∷ indices) table a b few same =
    entry_moves grants (length indices) (table + 8 * index) a b (λ next. walk read grants indices next a) (λ next. walk read grants indices next b)
    (read (table + 8 * index)) (omega arith) same (λ e. walk_moves read grants indices (entry_page e) a b (omega arith) same)

same_indices : (a b : ℕ) → a / page_size ≡ b / page_size → sv39x4_indices b ≡ sv39x4_indices a
same_indices a b same =
    let high : b / 2 ^ 30 ≡ a / 2 ^ 30 = omega arith in
    let middle : b / 2 ^ 21 ≡ a / 2 ^ 21 = omega arith in
    let low : b / 2 ^ 12 ≡ a / 2 ^ 12 = omega arith in
    rw (high, middle, low) refl

pub page_moves : (read : ℕ → Option ℕ) (hgatp a b : ℕ) (access : Access) → a / page_size ≡ b / page_size
    → guest_destination read hgatp b access ≡ destination_at (b % page_size) (guest_destination read hgatp a access)
page_moves read hgatp a b access same =
    ap (λ (indices : List ℕ). walk read (permits_guest access) indices (root_of hgatp) b) (same_indices a b same)
    ∙ walk_moves read (permits_guest access) (sv39x4_indices a) (root_of hgatp) a b (lit≤ tt) same

-- ---- answers

within : (b : Bool) (d : Destination) (x : ℕ) → (if b then address_at d else None) ≡ Some x → b ≡ true
within true d x e = refl
within false d x e = absurd (cc)

-- an address that leads somewhere is within reach
pub answer_near : (r : Region) (hgatp gpa x : ℕ) (access : Access) → walk_guest r hgatp gpa access ≡ Some x → gpa < 2 ^ guest_address_bits
unfolding walk_guest
answer_near r hgatp gpa x access e =
    let test : (gpa / 2 ^ guest_address_bits == 0) ≡ true = within (gpa / 2 ^ guest_address_bits == 0) (guest_destination (entry_in_region r) hgatp gpa access) x e in grind (arith, nat_tests)

-- there the answer is where the walk leads
pub answer_is : (r : Region) (hgatp gpa : ℕ) (access : Access) → gpa < 2 ^ guest_address_bits
    → walk_guest r hgatp gpa access ≡ address_at (guest_destination (entry_in_region r) hgatp gpa access)
unfolding walk_guest
answer_is r hgatp gpa access near = let test : (gpa / 2 ^ guest_address_bits == 0) ≡ true = grind (arith, nat_tests) in rw test refl
