-- A hart, and a cache, among all.
use Rattle.std.proofs.Common.{◌≡◌, ℕ, zero, suc, ◌<◌, inl, inr, List, [], ◌∷◌, length, map, refl, ap, sym, ◌∙◌, arith, subst, slice_set, Bool}
use Rattle.std.specs.Prelude.{Some, None, slice_get, slice_index_or}
use Rattle.spec_processor.specs.Hardware.{Core}
use Rattle.spec_processor.specs.declared.outcome.Outcome.{Outcome}
use Rattle.spec_hardware.specs.Machine.{HwHart, forgets, all_forget, update, with_core}
use Rattle.monitor_exits.proofs.HwOfSlots.{hw_harts_set, hw_harts_updated}
use Rattle.monitor_exits.specs.HwOfSlots.{hw_at, hw_harts_of}
use Rattle.monitor_exits.specs.declared.slots.HartSlot.{HartSlot}
use Rattle.hw_platform.specs.Attempts.{hart_in}
use Rattle.hw_tlb.specs.Usable.{IsUsable, AreUsable}
use Rattle.hw_tlb.specs.declared.caches.HartCaches.{HartCaches}
use Rattle.sv_types.proofs.SetElements.{set_or_there}

pub hw_there : (slots : List HartSlot) (h : ℕ) (d : HartSlot) → h < length slots → hart_in (hw_harts_of slots) h ≡ hw_at (slice_index_or slots h d)
hw_there [] h d below = absurd (omega arith)
hw_there (x ∷ slots) zero d below = refl
hw_there (x ∷ slots) (suc h) d below = hw_there slots h d (omega arith)

-- a hart whose core alone is changed, put back in its place
pub core_put : (slots : List HartSlot) (h : ℕ) (d new : HartSlot) (next : HwHart → Core) → h < length slots
    → hw_at new ≡ with_core (next (hw_at (slice_index_or slots h d))) (hw_at (slice_index_or slots h d))
    → hw_harts_of (slice_set slots h new) ≡ update (hw_harts_of slots) h (with_core (next (hart_in (hw_harts_of slots) h)))
core_put slots h d new next below same =
    let old : HwHart = hw_at (slice_index_or slots h d) in
    sym (hw_harts_set slots h new) ∙ ap (slice_set (hw_harts_of slots) h) same ∙ sym (hw_harts_updated slots h d (with_core (next old)))
    ∙ ap (λ (hw : HwHart). update (hw_harts_of slots) h (with_core (next hw))) (sym (hw_there slots h d below))

-- ---- caches

there : (caches : List HartCaches) (h : ℕ) (d : HartCaches) → h < length caches → slice_get caches h ≡ Some (slice_index_or caches h d)
there [] h d below = absurd (omega arith)
there (x ∷ caches) zero d below = refl
there (x ∷ caches) (suc h) d below = there caches h d (omega arith)

pub usable_there : (tables : List ℕ) (caches : List HartCaches) (h : ℕ) (d : HartCaches) → AreUsable tables caches → h < length caches
    → IsUsable tables (slice_index_or caches h d)
usable_there tables caches h d are below = are.each h (slice_index_or caches h d) (there caches h d below)

pub usable_set : (tables after : List ℕ) (caches : List HartCaches) (h : ℕ) (new : HartCaches) → AreUsable tables caches → after ≡ tables → IsUsable after new
    → AreUsable after (slice_set caches h new)
usable_set tables after caches h new are same is = record {
  each = λ i own e. elim (set_or_there caches h i new own e) [
    | inl at ↦ subst (λ (l : HartCaches). IsUsable after l) at is
    | inr old ↦ subst (λ (t : List ℕ). IsUsable t own) (sym same) (are.each i own old)
  ];
}

-- ---- pcs

pc_kept : (harts : List HwHart) (h hpa width : ℕ) → h < length harts → (hart_in (map (forgets hpa width) harts) h).core.pc ≡ (hart_in harts h).core.pc
pc_kept [] h hpa width below = absurd (omega arith)
pc_kept (x ∷ harts) zero hpa width below = refl
pc_kept (x ∷ harts) (suc h) hpa width below = pc_kept harts h hpa width (omega arith)

pc_set : (slots : List HartSlot) (h : ℕ) (new : HartSlot) → h < length slots → (hart_in (hw_harts_of (slice_set slots h new)) h).core.pc ≡ new.hart.core.pc
pc_set [] h new below = absurd (omega arith)
pc_set (x ∷ slots) zero new below = refl
pc_set (x ∷ slots) (suc h) new below = pc_set slots h new (omega arith)

set_number : (slots : List HartSlot) (h : ℕ) (new : HartSlot) → h < length slots → h < length (hw_harts_of (slice_set slots h new))
set_number [] h new below = absurd (omega arith)
set_number (x ∷ slots) zero new below = omega arith
set_number (x ∷ slots) (suc h) new below = let k = set_number slots h new (omega arith) in omega (arith, k)

-- the pc of a hart that was put in, whatever a write takes from all
pub pc_there : (o : Outcome) (slots : List HartSlot) (h : ℕ) (new : HartSlot) → h < length slots
    → (hart_in (all_forget o (hw_harts_of (slice_set slots h new))) h).core.pc ≡ new.hart.core.pc
unfolding all_forget
pc_there (Outcome.Retired (Some wrote)) slots h new below =
    pc_kept (hw_harts_of (slice_set slots h new)) h wrote.hpa wrote.width (set_number slots h new below) ∙ pc_set slots h new below
pc_there (Outcome.Retired None) slots h new below = pc_set slots h new below
pc_there Outcome.GuestTrap slots h new below = pc_set slots h new below
pc_there (Outcome.Exit exit) slots h new below = pc_set slots h new below

pub started_there : (slots : List HartSlot) (h : ℕ) (d : HartSlot) (b : Bool) → h < length slots → d ≡ slice_index_or slots h d → d.hart.started ≡ b
    → (hart_in (hw_harts_of slots) h).started ≡ b
started_there slots h d b below is e = ap (λ (x : HwHart). x.started) (hw_there slots h d below) ∙ sym (ap (λ (s : HartSlot). s.hart.started) is) ∙ e
