-- Both stages of the addresses of a page.
use Rattle.std.proofs.Common.{◌≡◌, ℕ, zero, suc, ◌+◌, ◌-◌, ◌*◌, ◌/◌, ◌%◌, ◌^◌, ◌<◌, List, refl, ◌∙◌, sym, ap, subst, arith, Bool, true, false, ◌&&◌, ◌||◌}
use Rattle.spec_processor.specs.Bytes.{page_size}
use Rattle.std.specs.Prelude.{Option, Some, None, ◌==◌, if◌then◌else◌}
use Rattle.spec_processor.specs.Regions.{Region}
use Rattle.spec_processor.specs.Translation.{Destination, At, PageFault, Unreadable, Settings, walk, at_leaf, is_leaf, leaf_address, first_stage, permits_access, is_canonical, root_of}
use Rattle.spec_processor.specs.GStage.{walk_guest, address_at, entry_in_region, entry_in_tables, entry_through, guest_destination}
use Rattle.spec_processor.specs.GStage.{after_first_stage, place_through, two_stages, WalksApart, guest_address_bits}
use Rattle.spec_processor.specs.Roots.{IsBare}
use Rattle.spec_processor.specs.declared.access.Access.{Access}
use Rattle.spec_processor.specs.declared.mode.Mode.{Mode}
use Rattle.laws_processor.proofs.Walks.{walk_guest_fits}
use Rattle.sv39_walk.specs.Levels.{indices_of}
use Rattle.sv39_walk.specs.Regimes.{leaf_gpa, settings_of}
use Rattle.sv39_walk.specs.declared.first_stage.Regime.{Regime}
use Rattle.hw_tlb.proofs.Walks.{IsReadable, destination_at, leads_in_region, region_readable, page_moves, answer_near, answer_is}
use Rattle.hw_tlb.specs.declared.entries.Entries.{Entries}
use Rattle.hw_tlb.specs.declared.line.Line.{Line}
use Rattle.hw_tlb.specs.Kept.{AreThere, ArePlaces, EndsAt, LeadsNowhere, LineAgrees, host_of, leads_under}
use Rattle.sv39_walk.proofs.Steps.{bare, mapped, mapped_test, not_canonical}

-- ---- the G-stage

pub moved_address : (place x : ℕ) (d : Destination) → address_at d ≡ Some x → address_at (destination_at place d) ≡ Some (x - x % page_size + place)
moved_address place x (At found) e = let same : found ≡ x = cc in rw same refl
moved_address place x PageFault e = absurd (cc)
moved_address place x (Unreadable entry) e = absurd (cc)

-- regions of the same tables lead the addresses of a page to one host page
pub second_moves : (r other : Region) (hgatp gpa b x : ℕ) (access : Access) → other.tables ≡ r.tables → WalksApart r hgatp → walk_guest r hgatp gpa access ≡ Some x
    → b / page_size ≡ gpa / page_size → walk_guest other hgatp b access ≡ Some (x - x % page_size + b % page_size)
second_moves r other hgatp gpa b x access tables apart walked same =
    let near : gpa < 2 ^ guest_address_bits = answer_near r hgatp gpa x access walked in
    let near_too : b < 2 ^ guest_address_bits = omega arith in
    let answer : address_at (guest_destination (entry_in_region r) hgatp gpa access) ≡ Some x = sym (answer_is r hgatp gpa access near) ∙ walked in
    let leads : guest_destination (entry_in_tables other.tables) hgatp gpa access ≡ guest_destination (entry_in_region r) hgatp gpa access =
    ap (λ (t : List ℕ). guest_destination (entry_in_tables t) hgatp gpa access) tables ∙ apart.reads gpa access near in
    let readable : IsReadable (guest_destination (entry_in_tables other.tables) hgatp gpa access) =
    subst (λ (d : Destination). IsReadable d) (sym leads) (region_readable r hgatp gpa access) in
    answer_is other hgatp b access near_too
    ∙ ap address_at (page_moves (entry_in_region other) hgatp gpa b access (sym same) ∙ ap (destination_at (b % page_size)) (leads_in_region other hgatp gpa access readable ∙ leads))
    ∙ moved_address (b % page_size) x (guest_destination (entry_in_region r) hgatp gpa access) answer

back_together : (x gpa : ℕ) → x % page_size ≡ gpa % page_size → x - x % page_size + gpa % page_size ≡ x
back_together x gpa same = omega arith

pub second_same : (r other : Region) (hgatp gpa x : ℕ) (access : Access) → other.tables ≡ r.tables → WalksApart r hgatp → walk_guest r hgatp gpa access ≡ Some x
    → walk_guest other hgatp gpa access ≡ Some x
second_same r other hgatp gpa x access tables apart walked =
    second_moves r other hgatp gpa gpa x access tables apart walked refl
    ∙ ap Some (back_together x gpa (walk_guest_fits r hgatp gpa x access walked).0)

-- ---- the first stage

-- where the walk ends at an entry
first_ends : (read : ℕ → Option ℕ) (s : Settings) (mode : Mode) (va below entry : ℕ) (access : Access) → (IsBare s.satp → ⊥)
    → walk read (permits_access s mode access) (indices_of 3 va) (root_of s.satp) va ≡ at_leaf (permits_access s mode access) below entry va
    → first_stage read s mode va access
    ≡ (if is_canonical va then (if is_leaf below entry && permits_access s mode access entry then At (leaf_address below entry va) else PageFault) else PageFault)
unfolding first_stage
first_ends read s mode va below entry access paged ends = rw (mapped_test (s.satp / 2 ^ 60) paged, ends) refl

pub same_canonical : (a b : ℕ) → a / page_size ≡ b / page_size → is_canonical a ≡ is_canonical b
same_canonical a b same =
    let high : a / 2 ^ 38 ≡ b / 2 ^ 38 = omega arith in
    ap (λ (n : ℕ). n == 0 || n == 2 ^ 26 - 1) high

leaf_page : (below e a b : ℕ) → below < 3 → a / page_size ≡ b / page_size → leaf_address below e a / page_size ≡ leaf_address below e b / page_size
leaf_page zero e a b few same = omega arith
leaf_page (suc zero) e a b few same = omega arith
leaf_page (suc (suc zero)) e a b few same = omega arith
leaf_page (suc (suc (suc n))) e a b few same = absurd (omega arith)

leaf_place : (below e a : ℕ) → below < 3 → leaf_address below e a % page_size ≡ a % page_size
leaf_place zero e a few = omega arith
leaf_place (suc zero) e a few = omega arith
leaf_place (suc (suc zero)) e a few = omega arith
leaf_place (suc (suc (suc n))) e a few = absurd (omega arith)

-- ---- both

host_through : (gpa hpa : ℕ) (walked : Option ℕ) → host_of (place_through gpa walked) ≡ Some hpa → walked ≡ Some hpa
host_through gpa hpa None e = absurd (cc)
host_through gpa hpa (Some x) e = e

-- a leaf led somewhere: the address is canonical, the leaf permits the access, and the G-stage led there
led : (canonical permits : Bool) (r : Region) (hgatp gpa hpa : ℕ) (access : Access)
    → host_of (after_first_stage r hgatp access (if canonical then (if permits then At gpa else PageFault) else PageFault)) ≡ Some hpa
    → (canonical ≡ true) × ((permits ≡ true) × (walk_guest r hgatp gpa access ≡ Some hpa))
unfolding after_first_stage
led true true r hgatp gpa hpa access e = (refl, (refl, host_through gpa hpa (walk_guest r hgatp gpa access) e))
led true false r hgatp gpa hpa access e = absurd (cc)
led false permits r hgatp gpa hpa access e = absurd (cc)

leads_there : (r : Region) (hgatp gpa hpa : ℕ) (access : Access) (d : Destination) → d ≡ At gpa → walk_guest r hgatp gpa access ≡ Some hpa
    → host_of (after_first_stage r hgatp access d) ≡ Some hpa
unfolding after_first_stage
leads_there r hgatp gpa hpa access d at walked = rw (at, walked) refl

two_of : (r : Region) (hgatp : ℕ) (s : Settings) (mode : Mode) (va : ℕ) (access : Access) (d : Destination) → first_stage (entry_through r hgatp) s mode va access ≡ d
    → host_of (two_stages r hgatp s mode va access) ≡ host_of (after_first_stage r hgatp access d)
unfolding two_stages
two_of r hgatp s mode va access d e = ap (λ (x : Destination). host_of (after_first_stage r hgatp access x)) e

-- another address of the page, in another region of the same tables
pub page_led : (r other : Region) (regime : Regime) (access : Access) (va b hpa below entry : ℕ) (entries : Entries) → WalksApart r regime.hgatp → (IsBare regime.vsatp → ⊥)
    → leads_under r regime access va ≡ Some hpa → EndsAt r.tables regime.hgatp (root_of regime.vsatp) va entries below entry → AreThere r entries → other.tables ≡ r.tables
    → AreThere other entries → b / page_size ≡ va / page_size → leads_under other regime access b ≡ Some (hpa - hpa % page_size + b % page_size)
page_led r other regime access va b hpa below entry entries apart paged leads ends there tables there_too page =
    let s : Settings = settings_of regime in
    let grants : ℕ → Bool = permits_access s regime.mode access in
    let first = first_ends (entry_through r regime.hgatp) s regime.mode va below entry access paged (ends.ends r refl there grants va refl) in
    let second = first_ends (entry_through other regime.hgatp) s regime.mode b below entry access paged (ends.ends other tables there_too grants b page) in
    let was = led (is_canonical va) (is_leaf below entry && grants entry) r regime.hgatp (leaf_address below entry va) hpa access
    (sym (two_of r regime.hgatp s regime.mode va access _ first) ∙ leads) in
    let canonical : is_canonical b ≡ true = same_canonical b va page ∙ was.0 in
    two_of other regime.hgatp s regime.mode b access _ second
    ∙ leads_there other regime.hgatp (leaf_address below entry b) (hpa - hpa % page_size + b % page_size) access _ (rw (canonical, was.1.0) refl)
    (second_moves r other regime.hgatp (leaf_address below entry va) (leaf_address below entry b) hpa access tables apart was.1.1
    (leaf_page below entry b va ends.few page)
    ∙ ap (λ (n : ℕ). Some (hpa - hpa % page_size + n)) (leaf_place below entry b ends.few))

pub line_agrees : (r : Region) (line : Line) (va hpa below entry : ℕ) → WalksApart r line.regime.hgatp → (IsBare line.regime.vsatp → ⊥)
    → leads_under r line.regime line.access va ≡ Some hpa → EndsAt r.tables line.regime.hgatp (root_of line.regime.vsatp) va line.entries below entry → AreThere r line.entries
    → ArePlaces r.tables line.regime.hgatp line.entries → line.page ≡ va / page_size → line.host ≡ hpa - hpa % page_size → LineAgrees r.tables line
line_agrees r line va hpa below entry apart paged leads ends there places number host = record {
  places = places;
  leads = λ other tables there_too place small.
      let b : ℕ = page_size * line.page + place in
      let page : b / page_size ≡ va / page_size = omega arith in
      let inside : b % page_size ≡ place = omega arith in
      page_led r other line.regime line.access va b hpa below entry line.entries apart paged leads ends there tables there_too page
      ∙ ap (λ (n : ℕ). Some (hpa - hpa % page_size + n)) inside
      ∙ ap (λ (n : ℕ). Some (n + place)) (sym host);
}

after_fits : (r : Region) (hgatp hpa : ℕ) (access : Access) (d : Destination) → host_of (after_first_stage r hgatp access d) ≡ Some hpa → hpa < 2 ^ 64
unfolding after_first_stage
after_fits r hgatp hpa access (At gpa) e = (walk_guest_fits r hgatp gpa hpa access (host_through gpa hpa (walk_guest r hgatp gpa access) e)).1
after_fits r hgatp hpa access PageFault e = absurd (cc)
after_fits r hgatp hpa access (Unreadable entry) e = absurd (cc)

-- what a line answers fits into 64 bits
pub led_fits : (r : Region) (regime : Regime) (access : Access) (va hpa : ℕ) → leads_under r regime access va ≡ Some hpa → hpa < 2 ^ 64
unfolding two_stages
led_fits r regime access va hpa leads =
    after_fits r regime.hgatp hpa access (first_stage (entry_through r regime.hgatp) (settings_of regime) regime.mode va access) leads

-- ---- what a walk answers

host_answer : (gpa : ℕ) (walked : Option ℕ) → host_of (place_through gpa walked) ≡ walked
host_answer gpa None = refl
host_answer gpa (Some hpa) = refl

after_at : (r : Region) (hgatp gpa : ℕ) (access : Access) → host_of (after_first_stage r hgatp access (At gpa)) ≡ walk_guest r hgatp gpa access
unfolding after_first_stage
after_at r hgatp gpa access = host_answer gpa (walk_guest r hgatp gpa access)

-- without a first stage the second leads
pub bare_led : (r : Region) (regime : Regime) (access : Access) (va : ℕ) → IsBare regime.vsatp → leads_under r regime access va ≡ walk_guest r regime.hgatp va access
bare_led r regime access va none =
    two_of r regime.hgatp (settings_of regime) regime.mode va access (At va) (bare (entry_through r regime.hgatp) (settings_of regime) regime.mode va access none)
    ∙ after_at r regime.hgatp va access

after_none : (r : Region) (hgatp : ℕ) (access : Access) (d : Destination) → address_at d ≡ None → host_of (after_first_stage r hgatp access d) ≡ None
unfolding after_first_stage
after_none r hgatp access (At gpa) e = absurd (cc)
after_none r hgatp access PageFault e = refl
after_none r hgatp access (Unreadable entry) e = refl

first_none : (read : ℕ → Option ℕ) (s : Settings) (mode : Mode) (va : ℕ) (access : Access) (canonical : Bool) → is_canonical va ≡ canonical → (IsBare s.satp → ⊥)
    → address_at (walk read (permits_access s mode access) (indices_of 3 va) (root_of s.satp) va) ≡ None → address_at (first_stage read s mode va access) ≡ None
first_none read s mode va access true is paged none = ap address_at (mapped read s mode va (root_of s.satp) access paged is refl) ∙ none
first_none read s mode va access false is paged none = ap address_at (not_canonical read s mode va access paged is)

-- the first stage leads nowhere
pub nowhere_led : (r : Region) (regime : Regime) (access : Access) (va : ℕ) → (IsBare regime.vsatp → ⊥) → LeadsNowhere r regime.hgatp (root_of regime.vsatp) va
    → leads_under r regime access va ≡ None
nowhere_led r regime access va paged nowhere =
    let s : Settings = settings_of regime in
    let d : Destination = first_stage (entry_through r regime.hgatp) s regime.mode va access in
    two_of r regime.hgatp s regime.mode va access d refl
    ∙ after_none r regime.hgatp access d
    (first_none (entry_through r regime.hgatp) s regime.mode va access (is_canonical va) refl paged (nowhere (permits_access s regime.mode access)))

-- where the G-stage leads a guest-physical address, if there is one
abbrev pub led_on : Region → (hgatp : ℕ) → Access → Option ℕ → Option ℕ
led_on r hgatp access None = None
led_on r hgatp access (Some gpa) = walk_guest r hgatp gpa access

after_leaf : (canonical leaf permits : Bool) (r : Region) (hgatp gpa : ℕ) (access : Access)
    → host_of (after_first_stage r hgatp access (if canonical then (if leaf && permits then At gpa else PageFault) else PageFault))
    ≡ led_on r hgatp access (if canonical && leaf && permits then Some gpa else None)
after_leaf true true true r hgatp gpa access = after_at r hgatp gpa access
after_leaf true true false r hgatp gpa access = after_none r hgatp access PageFault refl
after_leaf true false permits r hgatp gpa access = after_none r hgatp access PageFault refl
after_leaf false leaf permits r hgatp gpa access = after_none r hgatp access PageFault refl

-- the entry where the first stage ends leads on
pub leaf_led : (r : Region) (regime : Regime) (access : Access) (va below entry : ℕ) (entries : Entries) (gpa : Option ℕ) → (IsBare regime.vsatp → ⊥)
    → EndsAt r.tables regime.hgatp (root_of regime.vsatp) va entries below entry → AreThere r entries
    → gpa ≡ leaf_gpa regime access below entry va
    → leads_under r regime access va ≡ led_on r regime.hgatp access gpa
leaf_led r regime access va below entry entries gpa paged ends there is =
    let s : Settings = settings_of regime in
    let grants : ℕ → Bool = permits_access s regime.mode access in
    two_of r regime.hgatp s regime.mode va access _
    (first_ends (entry_through r regime.hgatp) s regime.mode va below entry access paged (ends.ends r refl there grants va refl))
    ∙ after_leaf (is_canonical va) (is_leaf below entry) (grants entry) r regime.hgatp (leaf_address below entry va) access
    ∙ ap (led_on r regime.hgatp access) (sym is)
