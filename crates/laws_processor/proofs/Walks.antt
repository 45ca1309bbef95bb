-- Walks that read the same entries lead to the same place, and a walk keeps an address's place in its page.
use Rattle.std.proofs.Common.{◌≡◌, ℕ, zero, suc, ◌+◌, ◌*◌, ◌/◌, ◌%◌, ◌^◌, ◌<◌, ◌≤◌, List, [], ◌∷◌, length, refl, ap, arith, Bool, true, false, lit<, lit≤, ◌&&◌}
use Rattle.spec_processor.specs.Bytes.{page_size}
use Rattle.std.specs.Prelude.{Option, Some, None, if◌then◌else◌, ◌==◌}
use Rattle.std.proofs.Math.Nat.{mod-lt}
use Rattle.std.specs.List.{AllByRecursion}
use Rattle.spec_processor.specs.declared.access.Access.{Access}
use Rattle.spec_processor.specs.declared.mode.Mode.{Mode}
use Rattle.spec_processor.specs.Instructions.{bits}
use Rattle.spec_processor.specs.Regions.{Region}
use Rattle.spec_processor.specs.Translation.{walk, is_pointer, is_leaf, entry_page, leaf_address, at_leaf, at_entry, Destination, At}
use Rattle.spec_processor.specs.Translation.{PageFault, Unreadable, Settings, first_stage, permits_access, sv39_indices, is_canonical}
use Rattle.spec_processor.specs.Translation.{root_of}
use Rattle.spec_processor.specs.GStage.{walk_guest, address_at, entry_in_region, permits_guest, sv39x4_indices, WalksInside, WalksApart, guest_address_bits}

-- ---- two readers

-- two readers that give the same at each address that a walk can meet
abbrev pub Agree : (ℕ → Option ℕ) → (ℕ → Option ℕ) → Type 0
Agree read other = (a : ℕ) → a % 8 ≡ 0 → a < 2 ^ 64 → read a ≡ other a

-- a table is a page, and its address is one of 56 bits
abbrev pub IsPage : ℕ → Type 0
IsPage table = (table % 8 ≡ 0) × (table < 2 ^ 56)

aligned_entry : (table index : ℕ) → table % 8 ≡ 0 → (table + 8 * index) % 8 ≡ 0
aligned_entry table index h = grind arith

number_is_page : (n : ℕ) → n < 2 ^ 44 → IsPage (page_size * n)
number_is_page n h = let m : page_size * n ≡ 8 * (512 * n) = omega arith in (grind arith, omega arith)

is_page : (e : ℕ) → IsPage (entry_page e)
is_page e = number_is_page (bits e 10 54) (mod-lt (e / 2 ^ 10) (lit< tt))

choose_agrees : (b : Bool) (x y z : Destination) → x ≡ y → (if b then x else z) ≡ (if b then y else z)
choose_agrees true x y z e = e
choose_agrees false x y z e = refl

entry_agrees : (grants : ℕ → Bool) (below at address : ℕ) (deeper other : ℕ → Destination) (entry : Option ℕ)
    → ((e : ℕ) → deeper (entry_page e) ≡ other (entry_page e))
    → at_entry grants below at deeper address entry ≡ at_entry grants below at other address entry
entry_agrees grants below at address deeper other None same = refl
entry_agrees grants below at address deeper other (Some e) same =
    choose_agrees (is_pointer e) (deeper (entry_page e)) (other (entry_page e)) (at_leaf grants below e address) (same e)

pub walk_agrees : (read other : ℕ → Option ℕ) (grants : ℕ → Bool) (indices : List ℕ) (table address : ℕ)
    → Agree read other → AllByRecursion (λ i. i < 2 ^ 9) indices → IsPage table
    → walk read grants indices table address ≡ walk other grants indices table address
unfolding walk
walk_agrees read other grants [] table address same small h = refl
walk_agrees read other grants (index ∷ indices) table address same small h =
    let deeper : (e : ℕ) → walk read grants indices (entry_page e) address ≡ walk other grants indices (entry_page e) address =
    λ e. walk_agrees read other grants indices (entry_page e) address same small.1 (is_page e) in
    let first : index < 2 ^ 9 = small.0 in
    rw (same (table + 8 * index) (aligned_entry table index h.0) (omega arith))
    (entry_agrees grants (length indices) (table + 8 * index) address (λ next. walk read grants indices next address)
    (λ next. walk other grants indices next address) (other (table + 8 * index)) deeper)

-- the indices of a virtual address are of 9 bits
sv39_small : (va : ℕ) → AllByRecursion (λ i. i < 2 ^ 9) (sv39_indices va)
sv39_small va = (mod-lt (va / 2 ^ 30) (lit< tt), (mod-lt (va / 2 ^ 21) (lit< tt), (mod-lt (va / 2 ^ 12) (lit< tt), tt)))

pub first_stage_agrees : (read other : ℕ → Option ℕ) (s : Settings) (mode : Mode) (va : ℕ) (access : Access) → Agree read other
    → first_stage read s mode va access ≡ first_stage other s mode va access
unfolding first_stage
first_stage_agrees read other s mode va access same =
    ap (λ (x : Destination). if s.satp / 2 ^ 60 == 0 then At va else if is_canonical va then x else PageFault)
    (walk_agrees read other (permits_access s mode access) (sv39_indices va) (root_of s.satp) va same
    (sv39_small va) (number_is_page (bits s.satp 0 44) (mod-lt (s.satp / 2 ^ 0) (lit< tt))))

-- ---- the place in the page

-- the place in the page is kept, and the address is of 64 bits
abbrev pub Fits : ℕ → Destination → Type 0
Fits a (At found) = (found % page_size ≡ a % page_size) × (found < 2 ^ 64)
Fits a PageFault = Unit {0}
Fits a (Unreadable entry) = Unit {0}

leaf_fits : (below e a : ℕ) → below < 3 → Fits a (At (leaf_address below e a))
leaf_fits zero e a h = let b : bits e 10 54 < 2 ^ 44 = mod-lt (e / 2 ^ 10) (lit< tt) in (grind arith, omega arith)
leaf_fits (suc zero) e a h = let b : bits e 10 54 < 2 ^ 44 = mod-lt (e / 2 ^ 10) (lit< tt) in (grind arith, omega arith)
leaf_fits (suc (suc zero)) e a h = let b : bits e 10 54 < 2 ^ 44 = mod-lt (e / 2 ^ 10) (lit< tt) in (grind arith, omega arith)
leaf_fits (suc (suc (suc n))) e a h = absurd (omega arith)

choose_fits : (a : ℕ) (b : Bool) (x y : Destination) → Fits a x → Fits a y → Fits a (if b then x else y)
choose_fits a true x y h k = h
choose_fits a false x y h k = k

entry_fits : (grants : ℕ → Bool) (below at a : ℕ) (deeper : ℕ → Destination) (entry : Option ℕ) → below < 3 → ((n : ℕ) → Fits a (deeper n))
    → Fits a (at_entry grants below at deeper a entry)
entry_fits grants below at a deeper None h k = tt
entry_fits grants below at a deeper (Some e) h k =
    choose_fits a (is_pointer e) (deeper (entry_page e)) (at_leaf grants below e a) (k (entry_page e))
    (choose_fits a (is_leaf below e && grants e) (At (leaf_address below e a)) PageFault (leaf_fits below e a h) tt)

pub walk_fits : (read : ℕ → Option ℕ) (grants : ℕ → Bool) (indices : List ℕ) (table a : ℕ) → length indices ≤ 3 → Fits a (walk read grants indices table a)
unfolding walk
walk_fits read grants [] table a h = tt
walk_fits read grants (index ∷ indices) table a h =
    entry_fits grants (length indices) (table + 8 * index) a (λ next. walk read grants indices next a) (read (table + 8 * index)) (omega arith)
    (λ next. walk_fits read grants indices next a (omega arith))

pub first_stage_fits : (read : ℕ → Option ℕ) (s : Settings) (mode : Mode) (va : ℕ) (access : Access) → va < 2 ^ 64 → Fits va (first_stage read s mode va access)
unfolding first_stage
first_stage_fits read s mode va access h =
    choose_fits va (s.satp / 2 ^ 60 == 0) (At va) (if is_canonical va then walk read (permits_access s mode access) (sv39_indices va) (root_of s.satp) va else PageFault) (refl, h)
    (choose_fits va (is_canonical va) (walk read (permits_access s mode access) (sv39_indices va) (root_of s.satp) va) PageFault
    (walk_fits read (permits_access s mode access) (sv39_indices va) (root_of s.satp) va (lit≤ tt)) tt)

found_fits : (a x : ℕ) (d : Destination) → Fits a d → address_at d ≡ Some x → (x % page_size ≡ a % page_size) × (x < 2 ^ 64)
found_fits a x (At found) h e = let same : found ≡ x = cc in rw (← same) h
found_fits a x PageFault h e = absurd (cc)
found_fits a x (Unreadable entry) h e = absurd (cc)

guest_fits_by : (b : Bool) (a x : ℕ) (d : Destination) → Fits a d → (if b then address_at d else None) ≡ Some x → (x % page_size ≡ a % page_size) × (x < 2 ^ 64)
guest_fits_by true a x d h e = found_fits a x d h e
guest_fits_by false a x d h e = absurd (cc)

-- a G-stage walk too
pub walk_guest_fits : (r : Region) (hgatp gpa at : ℕ) (access : Access) → walk_guest r hgatp gpa access ≡ Some at
    → (at % page_size ≡ gpa % page_size) × (at < 2 ^ 64)
unfolding walk_guest
walk_guest_fits r hgatp gpa at access e =
    guest_fits_by (gpa / 2 ^ guest_address_bits == 0) gpa at (walk (entry_in_region r) (permits_guest access) (sv39x4_indices gpa) (root_of hgatp) gpa)
    (walk_fits (entry_in_region r) (permits_guest access) (sv39x4_indices gpa) (root_of hgatp) gpa (lit≤ tt)) e

-- ---- an address, or none

pub address_chosen : (b : Bool) (x : ℕ) → address_at (if b then At x else PageFault) ≡ (if b then Some x else None)
address_chosen true x = refl
address_chosen false x = refl

-- a root whose walks lead to RAM alone
pub apart_inside : (r : Region) (hgatp : ℕ) → WalksApart r hgatp → WalksInside r hgatp
apart_inside r hgatp apart = record { inside = λ gpa hpa access walked. (apart.leads gpa hpa access walked).1 }
