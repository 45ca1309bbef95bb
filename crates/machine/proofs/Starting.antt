-- Harts and caches before the first event, and the pages that are approved then.
use Rattle.std.proofs.Common.{◌≡◌, ℕ, zero, suc, ◌+◌, ◌-◌, ◌≤◌, Bool, true, false, List, [], ◌∷◌, ◌++◌, length, replicate, refl, sym, ◌∙◌, ap, arith, subst, not, drop}
use Rattle.std.specs.Prelude.{find, Option, Some, None, IfSome, slice_get}
use Rattle.std.proofs.lemmas.List.{drop-replicate, replicate_more, length-replicate}
use Rattle.page_guard.specs.Guarded.{first_taken}
use Rattle.monitor_exits.specs.HwOfSlots.{hw_at, hw_harts_of}
use Rattle.monitor_exits.specs.declared.slots.HartSlot.{HartSlot}
use Rattle.spec_hardware.specs.Machine.{Machine, HwHart}
use Rattle.module_gate.specs.Conditions.{AreJoined, IsTallied, TakesItsPages}
use Rattle.module_gate.specs.declared.modules.Modules.{Modules}
use Rattle.module_gate.specs.declared.modules.PendingLoad.{PendingLoad}
use Rattle.sv_types.specs.Protections.{is_free}
use Rattle.spec_reference.specs.Protections.{protection_at}
use Rattle.spec_reference.specs.Start.{block_disk, flat_rules}
use Rattle.laws_resume.specs.Starts.{hw_at_boot, hw_harts_at_boot, machine_at_boot, flat_machine, flat_protections, flat_ram}
use Rattle.sv_types.specs.ApprovedPages.{numbers_from}
use Rattle.spec_processor.specs.Bytes.{overwrite, with_padding, ram_base}
use Rattle.sv_types.specs.Policies.{Rules}
use Rattle.spec_processor.specs.Regions.{Region, host_bytes}
use Rattle.sv_types.specs.Views.{with_ram}
use Rattle.sv_types.specs.declared.module.Span.{Span}
use Rattle.sv_types.specs.declared.protection.Protection.{Protection}
use Rattle.sv_types.specs.declared.protection.Protection.TheVariants.{Free}
use Rattle.machine.proofs.Regions.{length_both, tables_sized}
use Rattle.hw_tlb.specs.Usable.{nothing_kept, IsUsable, AreUsable}
use Rattle.hw_tlb.specs.declared.caches.HartCaches.{HartCaches}
use Rattle.hw_tlb.proofs.Emptied.{nothing_usable}
use Rattle.spec_reference.proofs.Runs.{all_free_at}

-- ---- harts

hw_harts_more : (slots : List HartSlot) (next : HartSlot) → hw_harts_of (slots ++ next ∷ []) ≡ hw_harts_of slots ++ hw_at next ∷ []
hw_harts_more [] next = refl
hw_harts_more (x ∷ slots) next = ap (λ (hw_all : List HwHart). hw_at x ∷ hw_all) (hw_harts_more slots next)

-- one more stopped hart
pub next_seated : (slots : List HartSlot) (next : HartSlot) (harts entry : ℕ) → 1 ≤ harts → hw_harts_of slots ≡ hw_harts_at_boot harts entry → hw_at next ≡ hw_at_boot 0 false
    → hw_harts_of (slots ++ next ∷ []) ≡ hw_harts_at_boot (harts + 1) entry
next_seated slots next harts entry some before is =
    let others : (harts - 1) + 1 ≡ (harts + 1) - 1 = omega arith in
    hw_harts_more slots next
    ∙ ap (λ (hw_all : List HwHart). hw_all ++ hw_at next ∷ []) before
    ∙ ap (λ (hw : HwHart). hw_harts_at_boot harts entry ++ hw ∷ []) is
    ∙ ap (λ (hw_all : List HwHart). hw_at_boot entry true ∷ hw_all) (replicate_more (harts - 1) (hw_at_boot 0 false))
    ∙ ap (λ (n : ℕ). hw_at_boot entry true ∷ replicate n (hw_at_boot 0 false)) others

-- ---- caches

of_empty : (n h : ℕ) (own : HartCaches) → slice_get (replicate {A = HartCaches} n nothing_kept) h ≡ Some own → nothing_kept ≡ own
of_empty zero h own e = absurd (cc)
of_empty (suc n) zero own e = cc
of_empty (suc n) (suc h) own e = of_empty n h own e

-- empty caches agree with any tables
pub empty_usable : (tables : List ℕ) (n : ℕ) (caches : List HartCaches) → caches ≡ replicate n nothing_kept → AreUsable tables caches
empty_usable tables n caches is = subst (λ (caches : List HartCaches). AreUsable tables caches) (sym is) (record {
  each = λ h own e. subst (λ (own : HartCaches). IsUsable tables own) (of_empty n h own e) (nothing_usable tables);
})

-- as many as harts
pub length_empty : (n : ℕ) (caches : List HartCaches) → caches ≡ replicate n nothing_kept → length caches ≡ n
length_empty n caches is = ap (λ (caches : List HartCaches). length caches) is ∙ length-replicate n nothing_kept

-- ---- modules

pub none_joined : (rules : Rules) (modules : Modules) → modules.loading ≡ None → AreJoined rules modules
none_joined rules modules loading = record {
  digests = subst (λ (u : Option PendingLoad). IfSome u (IsTallied modules.gate)) (sym loading) (record {});
  pages = subst (λ (u : Option PendingLoad). IfSome u (TakesItsPages rules)) (sym loading) (record {});
}

-- ---- plain pages

-- RAM has room for the pages
pub pages_fit : (r : Region) (tables n : ℕ) (pages : List ℕ) → r ≡ record { tables = replicate tables 0; ram = replicate n 0 } → length pages ≤ n
    → tables + length pages ≤ length (host_bytes r)
pages_fit r tables n pages fresh few =
    let size : length (host_bytes r) ≡ tables + n = ap (λ (r : Region). length (host_bytes r)) fresh ∙ length_both tables n in
    omega arith

over_zeros : (n : ℕ) (pages : List ℕ) → overwrite (replicate n 0) 0 pages ≡ with_padding pages n
unfolding overwrite
over_zeros n pages =
    let same : 0 + length pages ≡ length pages = omega arith in
    ap (λ (k : ℕ). pages ++ drop k (replicate n 0)) same ∙ ap (λ (rest : List ℕ). pages ++ rest) (drop-replicate (length pages) n 0)

-- pages copied to the start of RAM, which was zeros
pub pages_copied : (before after : Region) (tables n : ℕ) (pages : List ℕ) → before ≡ record { tables = replicate tables 0; ram = replicate n 0 }
    → (length before.tables ≤ tables → after ≡ record before { ram = overwrite before.ram (tables - length before.tables) pages }) → after.ram ≡ with_padding pages n
pages_copied before after tables n pages fresh copied =
    let size = tables_sized before tables n fresh in
    let none : tables - length before.tables ≡ 0 = omega arith in
    ap (λ (r : Region). r.ram) (copied (omega arith))
    ∙ ap (λ (k : ℕ). overwrite before.ram k pages) none
    ∙ ap (λ (r : Region). overwrite r.ram 0 pages) fresh
    ∙ over_zeros n pages

none_found : (test : ℕ → Bool) (pages : List ℕ) → ((page : ℕ) → test page ≡ false) → find test pages ≡ None
none_found test [] never = refl
none_found test (page ∷ pages) never = rw (never page) (none_found test pages never)

-- where all pages are free, none is taken
pub none_taken : (guard : List Protection) (n : ℕ) (span : Span) → guard ≡ replicate n Free → first_taken guard span ≡ None
unfolding first_taken
none_taken guard n span is =
    ap (λ (guard : List Protection). find (λ page. not (is_free (protection_at guard page))) (numbers_from span.first span.count)) is
    ∙ none_found (λ page. not (is_free (protection_at (replicate n Free) page))) (numbers_from span.first span.count) (λ page. ap (λ (p : Protection). not (is_free p)) (all_free_at n page))

-- a machine at boot, of plain pages
pub flat_made : (m : Machine) (rules : Rules) (region : Region) (guard : List Protection) (pages digest : List ℕ) → m ≡ machine_at_boot rules region ram_base guard (block_disk [])
    → rules ≡ flat_rules digest → region.ram ≡ flat_ram pages → guard ≡ flat_protections pages → m ≡ flat_machine m.region.tables pages digest
unfolding machine_at_boot flat_machine
flat_made m rules region guard pages digest made same ram approved =
    made
    ∙ ap (λ (rules : Rules). machine_at_boot rules region ram_base guard (block_disk [])) same
    ∙ ap (λ (ram : List ℕ). machine_at_boot (flat_rules digest) (with_ram region.tables ram) ram_base guard (block_disk [])) ram
    ∙ ap (λ (guard : List Protection). machine_at_boot (flat_rules digest) (with_ram region.tables (flat_ram pages)) ram_base guard (block_disk [])) approved
    ∙ ap (λ (tables : List ℕ). flat_machine tables pages digest) (sym (ap (λ (m : Machine). m.region.tables) made))

pub ruleset empty_at_first = (empty_usable, length_empty, none_joined)
