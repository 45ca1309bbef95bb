-- Where a regime leads is where the core's addresses are translated.
use Rattle.std.proofs.Common.{◌≡◌, ℕ, ◌%◌, ◌^◌, ◌<◌, ◌≤◌, length, refl, sym, ◌∙◌, ap, subst}
use Rattle.std.specs.Prelude.{false, Option, Some, None, IfSome, Result, Ok, Err}
use Rattle.spec_processor.specs.Hardware.{Core}
use Rattle.spec_processor.specs.HardwareMemory.{settings_at, place_or_exception, translation_result}
use Rattle.spec_processor.specs.Regions.{Region, IsRegion, IsWidth, IsHostPlace}
use Rattle.spec_processor.specs.GStage.{two_stages, WalksApart}
use Rattle.spec_processor.specs.Translation.{Settings, first_stage, permits_access}
use Rattle.spec_processor.specs.declared.access.Access.{Access}
use Rattle.spec_processor.specs.declared.access.Access.TheVariants.{Fetch}
use Rattle.spec_processor.specs.declared.mode.Mode.{Mode}
use Rattle.spec_processor.specs.declared.mode.Mode.TheVariants.{Kernel, User}
use Rattle.spec_processor.specs.declared.translation.Fault.{Fault}
use Rattle.spec_processor.specs.declared.translation.Place.{Place}
use Rattle.sv39_walk.specs.Regimes.{settings_of}
use Rattle.sv39_walk.specs.declared.first_stage.Regime.{Regime}
use Rattle.hw_fast_path.specs.Reaching.{LeadsAlike}
use Rattle.hw_tlb.specs.Kept.{host_of, leads_under}
use Rattle.hart.proofs.Places.{stages_place, stages_after}
use Rattle.laws_processor.proofs.Walks.{apart_inside}

-- what holds of a value that is there
pub some_where : (o : Option ℕ) {P : ℕ → Type 0} → ((x : ℕ) → o ≡ Some x → P x) → IfSome o P
some_where None holds = tt
some_where (Some x) holds = holds x refl

host_place : (p : Result Place Fault) (hpa : ℕ) → host_of p ≡ Some hpa → (place : Place) × ((p ≡ Ok place) × (place.hpa ≡ hpa))
host_place (Ok place) hpa e = (place, (refl, cc))
host_place (Err fault) hpa e = absurd (cc)

-- ---- a regime in place of the core's registers

grants_alike : (s t : Settings) (mode : Mode) → permits_access s mode Fetch ≡ permits_access t mode Fetch
unfolding permits_access
grants_alike s t Kernel = refl
grants_alike s t User = refl

stages_alike : (r : Region) (hgatp va : ℕ) (s t : Settings) (mode : Mode) → s.satp ≡ t.satp → two_stages r hgatp s mode va Fetch ≡ two_stages r hgatp t mode va Fetch
unfolding two_stages first_stage permits_access
stages_alike r hgatp va s t mode satp = rw (satp, grants_alike s t mode) refl

-- without SUM and MXR a fetch is led as with them
pub fetch_alike : (core : Core) (whole : Regime) → whole.hgatp ≡ core.hregs.hgatp → whole.mode ≡ core.hregs.mode → settings_of whole ≡ settings_at core
    → LeadsAlike core Fetch (record whole { sum = false; mxr = false })
fetch_alike core whole hgatp mode settings = λ r va.
    stages_alike r whole.hgatp va (record (settings_of whole) { sum = false; mxr = false }) (settings_of whole) whole.mode refl
    ∙ (rw (hgatp, mode, settings) refl)

pub leads_translated : (r : Region) (core : Core) (regime : Regime) (access : Access) (va hpa htinst : ℕ) → LeadsAlike core access regime
    → leads_under r regime access va ≡ Some hpa → translation_result r core access va htinst ≡ Ok hpa
unfolding translation_result
leads_translated r core regime access va hpa htinst alike leads =
    let found = host_place (two_stages r regime.hgatp (settings_of regime) regime.mode va access) hpa leads in
    ap (place_or_exception access va htinst) (sym (alike r va) ∙ found.1.0) ∙ ap Ok found.1.1

-- a word of a width that divides the address may be read and written there
pub leads_place : (r : Region) (regime : Regime) (access : Access) (va hpa n : ℕ) → IsRegion r → WalksApart r regime.hgatp → va < 2 ^ 64
    → leads_under r regime access va ≡ Some hpa → IsWidth n → va % n ≡ 0 → IsHostPlace r hpa n
leads_place r regime access va hpa n region apart small leads width aligned =
    let found = host_place (two_stages r regime.hgatp (settings_of regime) regime.mode va access) hpa leads in
    subst (λ (x : ℕ). IsHostPlace r x n) found.1.1
    (stages_place r regime.hgatp va n (settings_of regime) regime.mode access found.0 region (apart_inside r regime.hgatp apart) small found.1.0 width aligned)

-- and the place lies after the tables
pub leads_after : (r : Region) (regime : Regime) (access : Access) (va hpa : ℕ) → WalksApart r regime.hgatp → leads_under r regime access va ≡ Some hpa
    → length r.tables ≤ hpa
leads_after r regime access va hpa apart leads =
    let found = host_place (two_stages r regime.hgatp (settings_of regime) regime.mode va access) hpa leads in
    subst (λ (x : ℕ). length r.tables ≤ x) found.1.1 (stages_after r regime.hgatp va (settings_of regime) regime.mode access found.0 apart found.1.0)
