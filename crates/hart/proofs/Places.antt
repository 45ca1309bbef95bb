-- Where both stages lead, a word of a width that divides the virtual address may be read and written.
use Rattle.std.proofs.Common.{◌≡◌, ◌∙◌, ℕ, ◌+◌, ◌%◌, ◌^◌, ◌<◌, ◌≤◌, length, refl}
use Rattle.spec_processor.specs.Bytes.{page_size}
use Rattle.std.specs.Prelude.{Option, Some, None, IfSome, Ok}
use Rattle.spec_processor.specs.declared.translation.Place.{Place}
use Rattle.spec_processor.specs.declared.access.Access.{Access}
use Rattle.spec_processor.specs.declared.mode.Mode.{Mode}
use Rattle.spec_processor.specs.Regions.{Region, IsRegion, IsWidth, IsHostPlace}
use Rattle.spec_processor.specs.Translation.{Destination, At, PageFault, Unreadable, Settings, first_stage}
use Rattle.spec_processor.specs.GStage.{walk_guest, place_through, after_first_stage, two_stages, entry_through, WalksInside, WalksApart}
use Rattle.spec_processor.specs.Hardware.{Core}
use Rattle.spec_processor.specs.HardwareMemory.{settings_at, translation_result}
use Rattle.spec_processor.specs.Roots.{IsBare}
use Rattle.laws_processor.proofs.RegionLemmas.{keeps_width, ends_inside, whole_sum}
use Rattle.laws_processor.proofs.Walks.{Fits, first_stage_fits, walk_guest_fits}

pub second_leads : (gpa : ℕ) (o : Option ℕ) (place : Place) → place_through gpa o ≡ Ok place → o ≡ Some place.hpa
second_leads gpa None place e = absurd (cc)
second_leads gpa (Some hpa) place e = let same : record { gpa = gpa; hpa = hpa } ≡ place = cc in rw (← same) refl

-- a walk of an address in the same place of its page leads to a place for the width
pub walk_places : (r : Region) (hgatp gpa va hpa n : ℕ) (access : Access) → IsRegion r → WalksInside r hgatp → IsWidth n → va % n ≡ 0
    → gpa % page_size ≡ va % page_size → walk_guest r hgatp gpa access ≡ Some hpa → IsHostPlace r hpa n
walk_places r hgatp gpa va hpa n access region inside width aligned same walked =
    let fits = walk_guest_fits r hgatp gpa hpa access walked in
    let at : hpa % n ≡ 0 = keeps_width n va hpa width (fits.0 ∙ same) aligned in
    record {
      width = width;
      aligned = at;
      inside = ends_inside n hpa (length r.tables + length r.ram) width at (whole_sum (length r.tables) (length r.ram) region.tables region.ram) (inside.inside gpa hpa access walked);
    }

first_leads : (r : Region) (hgatp va n : ℕ) (access : Access) (d : Destination) (place : Place) → IsRegion r → WalksInside r hgatp → IsWidth n
    → va % n ≡ 0 → Fits va d → after_first_stage r hgatp access d ≡ Ok place → IsHostPlace r place.hpa n
unfolding after_first_stage
first_leads r hgatp va n access (At gpa) place region inside width aligned fits e =
    walk_places r hgatp gpa va place.hpa n access region inside width aligned fits.0 (second_leads gpa (walk_guest r hgatp gpa access) place e)
first_leads r hgatp va n access PageFault place region inside width aligned fits e = absurd (cc)
first_leads r hgatp va n access (Unreadable entry) place region inside width aligned fits e = absurd (cc)

pub stages_place : (r : Region) (hgatp va n : ℕ) (s : Settings) (mode : Mode) (access : Access) (place : Place) → IsRegion r → WalksInside r hgatp
    → va < 2 ^ 64 → two_stages r hgatp s mode va access ≡ Ok place → IsWidth n → va % n ≡ 0 → IsHostPlace r place.hpa n
unfolding two_stages
stages_place r hgatp va n s mode access place region inside small e width aligned =
    first_leads r hgatp va n access (first_stage (entry_through r hgatp) s mode va access) place region inside width aligned
    (first_stage_fits (entry_through r hgatp) s mode va access small) e

first_after : (r : Region) (hgatp : ℕ) (access : Access) (d : Destination) (place : Place) → WalksApart r hgatp
    → after_first_stage r hgatp access d ≡ Ok place → length r.tables ≤ place.hpa
unfolding after_first_stage
first_after r hgatp access (At gpa) place apart e =
    (apart.leads gpa place.hpa access (second_leads gpa (walk_guest r hgatp gpa access) place e)).0
first_after r hgatp access PageFault place apart e = absurd (cc)
first_after r hgatp access (Unreadable entry) place apart e = absurd (cc)

-- and the place lies after the tables
pub stages_after : (r : Region) (hgatp va : ℕ) (s : Settings) (mode : Mode) (access : Access) (place : Place) → WalksApart r hgatp
    → two_stages r hgatp s mode va access ≡ Ok place → length r.tables ≤ place.hpa
unfolding two_stages
stages_after r hgatp va s mode access place apart e =
    first_after r hgatp access (first_stage (entry_through r hgatp) s mode va access) place apart e

-- ---- without a first stage

bare_stages : (r : Region) (hgatp va hpa : ℕ) (s : Settings) (mode : Mode) (access : Access) → IsBare s.satp
    → walk_guest r hgatp va access ≡ Some hpa → two_stages r hgatp s mode va access ≡ Ok (record { gpa = va; hpa = hpa })
unfolding two_stages first_stage after_first_stage
bare_stages r hgatp va hpa s mode access bare walked = rw (bare, walked) refl

-- an address leads where the G-stage leads
pub bare_place : (r : Region) (core : Core) (va hpa htinst : ℕ) (access : Access) → IsBare core.csrs.vsatp
    → walk_guest r core.hregs.hgatp va access ≡ Some hpa → translation_result r core access va htinst ≡ Ok hpa
unfolding translation_result
bare_place r core va hpa htinst access bare walked =
    rw (bare_stages r core.hregs.hgatp va hpa (settings_at core) core.hregs.mode access bare walked) refl

-- what follows of a value that is there
pub some_further : (o : Option ℕ) {P Q : ℕ → Type 0} → ((x : ℕ) → P x → Q x) → IfSome o P → IfSome o Q
some_further None further there = tt
some_further (Some x) further there = further x there
