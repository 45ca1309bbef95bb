-- The addresses of a page are fetched from one page of host memory.
use Rattle.std.proofs.Common.{◌≡◌, ℕ, ◌+◌, ◌-◌, ◌/◌, ◌%◌, ◌^◌, ◌<◌, ◌≤◌, inl, inr, List, length, refl, sym, ◌∙◌, ap, arith, lit≤, Bool}
use Rattle.spec_processor.specs.Bytes.{page_size}
use Rattle.std.specs.Prelude.{Option, Some, Result, Ok, Err, if◌then◌else◌, ◌==◌}
use Rattle.spec_processor.specs.Hardware.{Core}
use Rattle.spec_processor.specs.Bits.{bit}
use Rattle.spec_processor.specs.declared.hregs.HRegs.{HRegs}
use Rattle.spec_processor.specs.HardwareMemory.{settings_at, place_or_exception, translation_result}
use Rattle.spec_processor.specs.Regions.{Region, IsRegion, IsHostPlace}
use Rattle.spec_processor.specs.Translation.{walk, root_of, is_canonical, sv39_indices, permits_access, first_stage, Settings, Destination, At, PageFault, Unreadable}
use Rattle.spec_processor.specs.GStage.{walk_guest, address_at, entry_in_region, entry_through, guest_destination, place_through, after_first_stage, two_stages, WalksApart, guest_address_bits}
use Rattle.spec_processor.specs.Roots.{IsBare}
use Rattle.spec_processor.specs.declared.access.Access.{Access}
use Rattle.spec_processor.specs.declared.access.Access.TheVariants.{Fetch}
use Rattle.spec_processor.specs.declared.mode.Mode.{Mode}
use Rattle.spec_processor.specs.declared.translation.Fault.{Fault}
use Rattle.spec_processor.specs.declared.translation.Place.{Place}
use Rattle.hw_tlb.proofs.Walks.{destination_at, page_moves, answer_near, answer_is, choose_moves, walk_moves}
use Rattle.hw_fast_path.specs.Quick.{Leads, SameCourse, no_page}
use Rattle.hw_fast_path.proofs.Kept.{walks_kept}
use Rattle.hart.proofs.Places.{second_leads}
use Rattle.hw_tlb.proofs.Stages.{moved_address, same_canonical}

-- what a first stage goes by, of the registers alone
abbrev settings_by : (vsatp vsstatus : ℕ) → Settings
settings_by vsatp vsstatus = record { satp = vsatp; sum = bit vsstatus 18; mxr = bit vsstatus 19 }

-- ---- the first stage

same_indices : (a b : ℕ) → a / page_size ≡ b / page_size → sv39_indices b ≡ sv39_indices a
same_indices a b same =
    let high : b / 2 ^ 30 ≡ a / 2 ^ 30 = omega arith in
    let middle : b / 2 ^ 21 ≡ a / 2 ^ 21 = omega arith in
    let low : b / 2 ^ 12 ≡ a / 2 ^ 12 = omega arith in
    rw (high, middle, low) refl

bare_moves : (a b : ℕ) → a / page_size ≡ b / page_size → b ≡ a - a % page_size + b % page_size
bare_moves a b same = omega arith

stage_moves : (read : ℕ → Option ℕ) (s : Settings) (mode : Mode) (a b : ℕ) (access : Access) → a / page_size ≡ b / page_size
    → first_stage read s mode b access ≡ destination_at (b % page_size) (first_stage read s mode a access)
unfolding first_stage
stage_moves read s mode a b access same =
    let grants : ℕ → Bool = permits_access s mode access in
    let walked : walk read grants (sv39_indices b) (root_of s.satp) b ≡ destination_at (b % page_size) (walk read grants (sv39_indices a) (root_of s.satp) a) =
    ap (λ (indices : List ℕ). walk read grants indices (root_of s.satp) b) (same_indices a b same)
    ∙ walk_moves read grants (sv39_indices a) (root_of s.satp) a b (lit≤ tt) same in
    choose_moves (s.satp / 2 ^ 60 == 0) (b % page_size) (At a) (if is_canonical a then walk read grants (sv39_indices a) (root_of s.satp) a else PageFault)
    (At b) (if is_canonical b then walk read grants (sv39_indices b) (root_of s.satp) b else PageFault) (ap At (bare_moves a b same))
    (ap (λ (c : Bool). if c then walk read grants (sv39_indices b) (root_of s.satp) b else PageFault) (same_canonical b a (sym same))
    ∙ choose_moves (is_canonical a) (b % page_size) (walk read grants (sv39_indices a) (root_of s.satp) a) PageFault
    (walk read grants (sv39_indices b) (root_of s.satp) b) PageFault walked refl)

-- ---- the G-stage

near_too : (a b : ℕ) → a / page_size ≡ b / page_size → a < 2 ^ guest_address_bits → b < 2 ^ guest_address_bits
near_too a b same near = omega arith

guest_moves : (r : Region) (hgatp a b x : ℕ) (access : Access) → a / page_size ≡ b / page_size → walk_guest r hgatp a access ≡ Some x
    → walk_guest r hgatp b access ≡ Some (x - x % page_size + b % page_size)
guest_moves r hgatp a b x access same e =
    let near : a < 2 ^ guest_address_bits = answer_near r hgatp a x access e in
    answer_is r hgatp b access (near_too a b same near)
    ∙ ap address_at (page_moves (entry_in_region r) hgatp a b access same)
    ∙ moved_address (b % page_size) x (guest_destination (entry_in_region r) hgatp a access) (sym (answer_is r hgatp a access near) ∙ e)

-- ---- both

same_page : (x b : ℕ) → x / page_size ≡ (x - x % page_size + b % page_size) / page_size
same_page x b = omega arith

same_place : (x b : ℕ) → (x - x % page_size + b % page_size) % page_size ≡ b % page_size
same_place x b = omega arith

after_moves : (r : Region) (hgatp b : ℕ) (access : Access) (d : Destination) (place : Place) → after_first_stage r hgatp access d ≡ Ok place
    → (there : Place) × ((after_first_stage r hgatp access (destination_at (b % page_size) d) ≡ Ok there) × (there.hpa ≡ place.hpa - place.hpa % page_size + b % page_size))
unfolding after_first_stage
after_moves r hgatp b access (At gpa) place e =
    let to : ℕ = gpa - gpa % page_size + b % page_size in
    let hpa : ℕ = place.hpa - place.hpa % page_size + to % page_size in
    let walked : walk_guest r hgatp to access ≡ Some hpa =
    guest_moves r hgatp gpa to place.hpa access (same_page gpa b) (second_leads gpa (walk_guest r hgatp gpa access) place e) in
    (record { gpa = to; hpa = hpa }, (ap (place_through to) walked, ap (λ (n : ℕ). place.hpa - place.hpa % page_size + n) (same_place gpa b)))
after_moves r hgatp b access PageFault place e = absurd (cc)
after_moves r hgatp b access (Unreadable entry) place e = absurd (cc)

stages_move : (r : Region) (hgatp a b : ℕ) (s : Settings) (mode : Mode) (access : Access) (place : Place) → a / page_size ≡ b / page_size
    → two_stages r hgatp s mode a access ≡ Ok place
    → (there : Place) × ((two_stages r hgatp s mode b access ≡ Ok there) × (there.hpa ≡ place.hpa - place.hpa % page_size + b % page_size))
unfolding two_stages
stages_move r hgatp a b s mode access place same e =
    let found = after_moves r hgatp b access (first_stage (entry_through r hgatp) s mode a access) place e in
    (found.0, (ap (after_first_stage r hgatp access) (stage_moves (entry_through r hgatp) s mode a b access same) ∙ found.1.0, found.1.1))

ok_place : (access : Access) (va htinst hpa : ℕ) (p : Result Place Fault) → place_or_exception access va htinst p ≡ Ok hpa
    → (place : Place) × ((p ≡ Ok place) × (place.hpa ≡ hpa))
ok_place access va htinst hpa (Ok place) e = (place, (refl, cc))
ok_place access va htinst hpa (Err fault) e = absurd (cc)

-- another address of the page leads to the same page
pub translated_moves : (r : Region) (core : Core) (access : Access) (a b hpa htinst : ℕ) → a / page_size ≡ b / page_size → translation_result r core access a htinst ≡ Ok hpa
    → translation_result r core access b htinst ≡ Ok (hpa - hpa % page_size + b % page_size)
unfolding translation_result
translated_moves r core access a b hpa htinst same e =
    let from = ok_place access a htinst hpa (two_stages r core.hregs.hgatp (settings_at core) core.hregs.mode a access) e in
    let to = stages_move r core.hregs.hgatp a b (settings_at core) core.hregs.mode access from.0 same from.1.0 in
    ap (place_or_exception access b htinst) to.1.0 ∙ ap Ok (to.1.1 ∙ ap (λ (x : ℕ). x - x % page_size + b % page_size) from.1.1)

-- ---- windows

word_aligned : (host va : ℕ) → va % 4 ≡ 0 → (host - host % page_size + va % page_size) % 4 ≡ 0
word_aligned host va aligned = omega arith

word_inside : (hpa va tables ram : ℕ) → tables % page_size ≡ 0 → ram % page_size ≡ 0 → hpa + 1 ≤ tables + ram → va % 4 ≡ 0 → hpa - hpa % page_size + va % page_size + 4 ≤ tables + ram
word_inside hpa va tables ram t r inside aligned = omega arith

-- the page of an address that an instruction is fetched at
pub leads_from : (r : Region) (core : Core) (pc hpa : ℕ) → IsRegion r → IsHostPlace r hpa 1 → translation_result r core Fetch pc 0 ≡ Ok hpa
    → Leads r core (pc / page_size) (hpa - hpa % page_size)
leads_from r core pc hpa region place e = record {
  fetches = λ va small page. translated_moves r core Fetch pc va hpa 0 (sym page) e;
  places = λ va small page aligned. record {
    width = inr (inr (inl refl));
    aligned = word_aligned hpa va aligned;
    inside = word_inside hpa va (length r.tables) (length r.ram) region.tables region.ram place.inside aligned;
  };
}

bare_kept : (r after : Region) (hgatp va : ℕ) (s : Settings) (mode : Mode) (access : Access) → IsBare s.satp → after.tables ≡ r.tables → WalksApart r hgatp
    → two_stages after hgatp s mode va access ≡ two_stages r hgatp s mode va access
unfolding two_stages first_stage after_first_stage
bare_kept r after hgatp va s mode access bare same apart = rw bare (ap (place_through va) (walks_kept r after hgatp va access same apart))

bare_translated : (r after : Region) (core : Core) (va : ℕ) → IsBare core.csrs.vsatp → after.tables ≡ r.tables → WalksApart r core.hregs.hgatp
    → translation_result after core Fetch va 0 ≡ translation_result r core Fetch va 0
unfolding translation_result
bare_translated r after core va bare same apart =
    ap (place_or_exception Fetch va 0) (bare_kept r after core.hregs.hgatp va (settings_at core) core.hregs.mode Fetch bare same apart)

-- without a first stage a window outlives a store
pub leads_kept : (r after : Region) (core : Core) (page host : ℕ) → IsBare core.csrs.vsatp → after.tables ≡ r.tables → length after.ram ≡ length r.ram
    → WalksApart r core.hregs.hgatp → Leads r core page host → Leads after core page host
leads_kept r after core page host bare same size apart leads = record {
  fetches = λ va small at. bare_translated r after core va bare same apart ∙ leads.fetches va small at;
  places = λ va small at aligned.
      let old = leads.places va small at aligned in
      let inside = old.inside in
      let tables : length after.tables ≡ length r.tables = ap (λ (t : List ℕ). length t) same in
      record { width = old.width; aligned = old.aligned; inside = omega (arith, inside, tables, size) };
}

-- no page of an address has this number
pub no_window : (r : Region) (core : Core) (host : ℕ) → Leads r core no_page host
no_window r core host = record {
  fetches = λ va small at. absurd (omega arith);
  places = λ va small at aligned. absurd (omega arith);
}

core_translated : (r : Region) (core next : Core) (va : ℕ) → SameCourse core.csrs next.csrs → next.hregs ≡ core.hregs
    → translation_result r next Fetch va 0 ≡ translation_result r core Fetch va 0
unfolding translation_result
core_translated r core next va course hregs =
    ap (λ (n : ℕ). place_or_exception Fetch va 0 (two_stages r next.hregs.hgatp (settings_by n next.csrs.vsstatus) next.hregs.mode va Fetch)) course.first
    ∙ ap (λ (n : ℕ). place_or_exception Fetch va 0 (two_stages r next.hregs.hgatp (settings_by core.csrs.vsatp n) next.hregs.mode va Fetch)) course.status
    ∙ ap (λ (h : HRegs). place_or_exception Fetch va 0 (two_stages r h.hgatp (settings_at core) h.mode va Fetch)) hregs

-- a window goes by the registers of translation alone
pub leads_core : (r : Region) (core next : Core) (page host : ℕ) → SameCourse core.csrs next.csrs → next.hregs ≡ core.hregs → Leads r core page host → Leads r next page host
leads_core r core next page host course hregs leads =
    let same : (va : ℕ) → translation_result r next Fetch va 0 ≡ translation_result r core Fetch va 0 = λ va. core_translated r core next va course hregs in
    record { fetches = λ va small at. same va ∙ leads.fetches va small at; places = leads.places }
