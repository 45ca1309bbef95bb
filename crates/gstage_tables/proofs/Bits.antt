-- What the entries of the trees give, bit by bit.
use Rattle.std.proofs.Common.{◌≡◌, ℕ, ◌+◌, ◌*◌, ◌/◌, ◌%◌, ◌^◌, ◌<◌, Bool, true, false, refl, ap, ◌∙◌, arith, lit<}
use Rattle.spec_processor.specs.Bytes.{page_size}
use Rattle.std.specs.Prelude.{◌&&◌, ◌||◌, not, Some, if◌then◌else◌}
use Rattle.spec_processor.specs.Bits.{bit}
use Rattle.spec_processor.specs.Translation.{well_formed, is_pointer, is_leaf, at_entry, Destination, At, PageFault}
use Rattle.spec_processor.specs.GStage.{permits_guest}
use Rattle.sv_types.specs.Views.{view_permits, Sight}
use Rattle.spec_processor.specs.declared.access.Access.{Access}
use Rattle.spec_processor.specs.declared.access.Access.TheVariants.{Fetch, Load, Store}
use Rattle.sv_types.specs.declared.protection.Protection.{Protection}
use Rattle.gstage_tables.specs.Layout.{pointer, flags, leaf}

-- the low bits are those of the flags
bit_0 : (p f : ℕ) → f < 1024 → (1024 * p + f) / 2 ^ 0 % 2 ≡ f / 2 ^ 0 % 2
bit_0 p f h = omega arith

bit_1 : (p f : ℕ) → f < 1024 → (1024 * p + f) / 2 ^ 1 % 2 ≡ f / 2 ^ 1 % 2
bit_1 p f h = omega arith

bit_2 : (p f : ℕ) → f < 1024 → (1024 * p + f) / 2 ^ 2 % 2 ≡ f / 2 ^ 2 % 2
bit_2 p f h = omega arith

bit_3 : (p f : ℕ) → f < 1024 → (1024 * p + f) / 2 ^ 3 % 2 ≡ f / 2 ^ 3 % 2
bit_3 p f h = omega arith

bit_4 : (p f : ℕ) → f < 1024 → (1024 * p + f) / 2 ^ 4 % 2 ≡ f / 2 ^ 4 % 2
bit_4 p f h = omega arith

bit_6 : (p f : ℕ) → f < 1024 → (1024 * p + f) / 2 ^ 6 % 2 ≡ f / 2 ^ 6 % 2
bit_6 p f h = omega arith

bit_7 : (p f : ℕ) → f < 1024 → (1024 * p + f) / 2 ^ 7 % 2 ≡ f / 2 ^ 7 % 2
bit_7 p f h = omega arith

named : (p f : ℕ) → f < 1024 → p < 2 ^ 44 → (1024 * p + f) / 2 ^ 10 % 2 ^ 44 ≡ p
named p f h l = omega arith

reserved : (p f : ℕ) → f < 1024 → p < 2 ^ 44 → (1024 * p + f) / 2 ^ 54 ≡ 0
reserved p f h l = omega arith

-- ---- a pointer leads on, and 0 faults

pointer_is : (p : ℕ) → p < 2 ^ 44 → is_pointer (pointer p) ≡ true
unfolding is_pointer well_formed
pointer_is p l =
    rw (bit_0 p 1 (lit< tt), bit_1 p 1 (lit< tt), bit_2 p 1 (lit< tt), bit_3 p 1 (lit< tt), bit_4 p 1 (lit< tt), bit_6 p 1 (lit< tt), bit_7 p 1 (lit< tt), reserved p 1 (lit< tt) l) refl

pub pointer_gives : (grants : ℕ → Bool) (below at a p : ℕ) (deeper : ℕ → Destination) → p < 2 ^ 44
    → at_entry grants below at deeper a (Some (pointer p)) ≡ deeper (page_size * p)
pointer_gives grants below at a p deeper l = rw (pointer_is p l) (ap (λ (n : ℕ). deeper (page_size * n)) (named p 1 (lit< tt) l))

zero_is : is_pointer 0 ≡ false
unfolding is_pointer well_formed
zero_is = refl

zero_no_leaf : (below : ℕ) → is_leaf below 0 ≡ false
unfolding is_leaf well_formed
zero_no_leaf below = refl

pub zero_gives : (grants : ℕ → Bool) (below at a : ℕ) (deeper : ℕ → Destination) → at_entry grants below at deeper a (Some 0) ≡ PageFault
zero_gives grants below at a deeper = rw (zero_is, zero_no_leaf below) refl

-- ---- a leaf answers by what its tree shows

abbrev may : ℕ → Access → Bool
may f Fetch = bit f 3
may f Load = bit f 1
may f Store = bit f 2 && bit f 7

abbrev good : ℕ → Bool
good f = bit f 0 && (not (bit f 2) || bit f 1) && true

leaf_pointer : (p f : ℕ) → f < 1024 → p < 2 ^ 44 → is_pointer (1024 * p + f) ≡ (good f && not (bit f 1) && not (bit f 3) && not (bit f 4) && not (bit f 6) && not (bit f 7))
unfolding is_pointer well_formed
leaf_pointer p f h l = rw (bit_0 p f h, bit_1 p f h, bit_2 p f h, bit_3 p f h, bit_4 p f h, bit_6 p f h, bit_7 p f h, reserved p f h l) refl

leaf_is : (below p f : ℕ) → f < 1024 → p < 2 ^ 44 → p % 512 ^ below ≡ 0 → is_leaf below (1024 * p + f) ≡ (good f && (bit f 1 || bit f 3) && true)
unfolding is_leaf well_formed
leaf_is below p f h l whole = rw (bit_0 p f h, bit_1 p f h, bit_2 p f h, bit_3 p f h, reserved p f h l, named p f h l, whole) refl

leaf_permits : (p f : ℕ) (access : Access) → f < 1024 → permits_guest access (1024 * p + f) ≡ (bit f 4 && bit f 6 && may f access)
unfolding permits_guest
leaf_permits p f Fetch h = rw (bit_3 p f h, bit_4 p f h, bit_6 p f h) refl
leaf_permits p f Load h = rw (bit_1 p f h, bit_4 p f h, bit_6 p f h) refl
leaf_permits p f Store h = rw (bit_2 p f h, bit_4 p f h, bit_6 p f h, bit_7 p f h) refl

few_flags : (store fetch : Bool) → flags store fetch < 1024
few_flags false false = lit< tt
few_flags false true = lit< tt
few_flags true false = lit< tt
few_flags true true = lit< tt

abbrev no_pointer : ℕ → Bool
no_pointer f = good f && not (bit f 1) && not (bit f 3) && not (bit f 4) && not (bit f 6) && not (bit f 7)

never_points : (store fetch : Bool) → no_pointer (flags store fetch) ≡ false
never_points false false = refl
never_points false true = refl
never_points true false = refl
never_points true true = refl

abbrev flags_say : ℕ → Access → Bool
flags_say f access = good f && (bit f 1 || bit f 3) && true && (bit f 4 && bit f 6 && may f access)

fetch_said : (store fetch : Bool) → flags_say (flags store fetch) Fetch ≡ fetch
fetch_said false false = refl
fetch_said false true = refl
fetch_said true false = refl
fetch_said true true = refl

load_said : (store fetch : Bool) → flags_say (flags store fetch) Load ≡ true
load_said false false = refl
load_said false true = refl
load_said true false = refl
load_said true true = refl

store_said : (store fetch : Bool) → flags_say (flags store fetch) Store ≡ store
store_said false false = refl
store_said false true = refl
store_said true false = refl
store_said true true = refl

-- what the flags of a page permit
abbrev page_flags : Sight → ℕ → Protection → ℕ
page_flags sight page protection = flags (view_permits sight page protection Store) (view_permits sight page protection Fetch)

says : (sight : Sight) (page : ℕ) (protection : Protection) (access : Access) → flags_say (page_flags sight page protection) access ≡ view_permits sight page protection access
says sight page protection Fetch = fetch_said (view_permits sight page protection Store) (view_permits sight page protection Fetch)
says sight page protection Load = load_said (view_permits sight page protection Store) (view_permits sight page protection Fetch)
says sight page protection Store = store_said (view_permits sight page protection Store) (view_permits sight page protection Fetch)

-- a leaf with so many levels below it maps as large a block
pub leaf_gives : (below : ℕ) (sight : Sight) (page : ℕ) (protection : Protection) (host at a : ℕ) (access : Access) (deeper : ℕ → Destination) → host < 2 ^ 44 → host % 512 ^ below ≡ 0
    → at_entry (permits_guest access) below at deeper a (Some (leaf sight page protection host))
    ≡ (if view_permits sight page protection access then At (page_size * host + a % (page_size * 512 ^ below)) else PageFault)
leaf_gives below sight page protection host at a access deeper l whole =
    let store : Bool = view_permits sight page protection Store in
    let fetch : Bool = view_permits sight page protection Fetch in
    let f : ℕ = flags store fetch in
    let few : f < 1024 = few_flags store fetch in
    let address : page_size * ((1024 * host + f) / 2 ^ 10 % 2 ^ 44) + a % (page_size * 512 ^ below) ≡
    page_size * host + a % (page_size * 512 ^ below) = ap (λ (n : ℕ). page_size * n + a % (page_size * 512 ^ below)) (named host f few l) in
    rw (leaf_pointer host f few l, never_points store fetch, leaf_is below host f few l whole, leaf_permits host f access few, says sight page protection access, address) refl

-- ---- whether an entry of level 1 is a leaf

leaf_flags : (store fetch : Bool) → (good (flags store fetch) && (bit (flags store fetch) 1 || bit (flags store fetch) 3) && true) ≡ true
leaf_flags false false = refl
leaf_flags false true = refl
leaf_flags true false = refl
leaf_flags true true = refl

pub leaf_is_leaf : (below : ℕ) (sight : Sight) (page : ℕ) (protection : Protection) (host : ℕ) → host < 2 ^ 44 → host % 512 ^ below ≡ 0 → is_leaf below (leaf sight page protection host) ≡ true
leaf_is_leaf below sight page protection host l whole =
    let store : Bool = view_permits sight page protection Store in
    let fetch : Bool = view_permits sight page protection Fetch in
    leaf_is below host (flags store fetch) (few_flags store fetch) l whole ∙ leaf_flags store fetch

pub pointer_no_leaf : (below p : ℕ) → p < 2 ^ 44 → is_leaf below (pointer p) ≡ false
unfolding is_leaf well_formed
pointer_no_leaf below p l = rw (bit_0 p 1 (lit< tt), bit_1 p 1 (lit< tt), bit_2 p 1 (lit< tt), bit_3 p 1 (lit< tt), reserved p 1 (lit< tt) l) refl
