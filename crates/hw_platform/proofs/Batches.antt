-- One hart among all in a row of turns: what it changes and forgets.
use Rattle.std.proofs.Common.{◌≡◌, ℕ, zero, suc, ◌+◌, ◌%◌, ◌<◌, List, [], ◌∷◌, length, map, refl, sym, ◌∙◌, ap, subst, arith, false, inl, inr}
use Rattle.hw_fast_path.proofs.Exits.{Ends}
use Rattle.std.specs.Prelude.{Option, Some, None, is_some, slice_index_or, slice_set}
use Rattle.std.proofs.lemmas.Bool.Decides.{eqb_tells}
use Rattle.monitor_exits.specs.HwOfSlots.{hw_at, hw_harts_of}
use Rattle.monitor_exits.specs.declared.slots.HartSlot.{HartSlot}
use Rattle.hw_platform.proofs.HwOfSlots.{core_put, hw_there}
use Rattle.spec_processor.specs.Hardware.{Core}
use Rattle.spec_processor.specs.Regions.{Region}
use Rattle.spec_processor.specs.Requests.{after_write}
use Rattle.spec_processor.specs.declared.outcome.Outcome.{Outcome}
use Rattle.spec_hardware.specs.Machine.{HwHart, update, with_core, forgets, all_forget}
use Rattle.hw_fast_path.specs.declared.leaving.Leaving.{Leaving}
use Rattle.hw_platform.specs.Attempts.{hart_in}
use Rattle.hw_platform.specs.Batches.{AreFree}

-- ---- one hart among all

pub there_updated : (harts : List HwHart) (h : ℕ) (core : Core) → h < length harts → hart_in (update harts h (with_core core)) h ≡ with_core core (hart_in harts h)
unfolding update
there_updated [] h core below = absurd (omega arith)
there_updated (x ∷ harts) zero core below = refl
there_updated (x ∷ harts) (suc h) core below = there_updated harts h core (omega arith)

pub still_there : (harts : List HwHart) (h k : ℕ) (core : Core) → h < length harts → h < length (update harts k (with_core core))
unfolding update
still_there [] h k core below = below
still_there (x ∷ harts) h zero core below = below
still_there (x ∷ harts) zero (suc k) core below = omega arith
still_there (x ∷ harts) (suc h) (suc k) core below = let rest = still_there harts h k core (omega arith) in omega (arith, rest)

pub updated_twice : (harts : List HwHart) (h : ℕ) (first second : Core) → update (update harts h (with_core first)) h (with_core second) ≡ update harts h (with_core second)
unfolding update
updated_twice [] h first second = refl
updated_twice (x ∷ harts) zero first second = refl
updated_twice (x ∷ harts) (suc h) first second = ap (λ (rest : List HwHart). x ∷ rest) (updated_twice harts h first second)

pub updated_same : (harts : List HwHart) (h : ℕ) → update harts h (with_core (hart_in harts h).core) ≡ harts
unfolding update
updated_same [] h = refl
updated_same (x ∷ harts) zero = refl
updated_same (x ∷ harts) (suc h) = ap (λ (rest : List HwHart). x ∷ rest) (updated_same harts h)

-- the hart itself, and each of the others
first_free : (harts : List HwHart) (x changed : HwHart) → changed.core.reservation ≡ None → AreFree (x ∷ harts) → AreFree (changed ∷ harts)
first_free harts x changed none free zero = none
first_free harts x changed none free (suc h) = free (suc h)

other_free : (harts others : List HwHart) (x : HwHart) → AreFree others → AreFree (x ∷ harts) → AreFree (x ∷ others)
other_free harts others x rest free zero = free zero
other_free harts others x rest free (suc h) = rest h

-- a change by which a hart gets no reservation
pub changed_free : (harts : List HwHart) (k : ℕ) (change : HwHart → HwHart) → ((x : HwHart) → (change x).core.reservation ≡ None) → AreFree harts
    → AreFree (update harts k change)
unfolding update
changed_free [] k change none free = free
changed_free (x ∷ harts) zero change none free = first_free harts x (change x) (none x) free
changed_free (x ∷ harts) (suc k) change none free = other_free harts (update harts k change) x (changed_free harts k change none (λ i. free (suc i))) free

pub still_free : (harts : List HwHart) (k : ℕ) (core : Core) → core.reservation ≡ None → AreFree harts → AreFree (update harts k (with_core core))
still_free harts k core none free = changed_free harts k (with_core core) (λ x. none) free

-- ---- no reservation is forgotten

forgets_none : (hpa width : ℕ) (x : HwHart) → x.core.reservation ≡ None → forgets hpa width x ≡ x
unfolding after_write
forgets_none hpa width x none =
    ap (λ (o : Option ℕ). record x { core = record x.core { reservation = after_write hpa width o } }) none
    ∙ ap (λ (o : Option ℕ). record x { core = record x.core { reservation = o } }) (sym none)

pub map_none : (hpa width : ℕ) (harts : List HwHart) → AreFree harts → map (forgets hpa width) harts ≡ harts
map_none hpa width [] free = refl
map_none hpa width (x ∷ harts) free = rw (forgets_none hpa width x (free zero), map_none hpa width harts (λ h. free (suc h))) refl

pub forgets_nothing : (o : Outcome) (harts : List HwHart) → AreFree harts → all_forget o harts ≡ harts
unfolding all_forget
forgets_nothing (Outcome.Retired (Some wrote)) harts free = map_none wrote.hpa wrote.width harts free
forgets_nothing (Outcome.Retired None) harts free = refl
forgets_nothing Outcome.GuestTrap harts free = refl
forgets_nothing (Outcome.Exit exit) harts free = refl

-- ---- slots

pub slot_there : (slots : List HartSlot) (h : ℕ) (new : HartSlot) → h < length slots → hart_in (hw_harts_of (slice_set slots h new)) h ≡ hw_at new
slot_there [] h new below = absurd (omega arith)
slot_there (x ∷ slots) zero new below = refl
slot_there (x ∷ slots) (suc h) new below = slot_there slots h new (omega arith)

-- what the clause on a row's end says
pub batch_there : (slots : List HartSlot) (h : ℕ) (left : Leaving) (n : ℕ) (d new : HartSlot) (r after : Region) → h < length slots
    → Ends left n r (hw_at (slice_index_or slots h d)).core after (hw_at new).core
    → Ends left n r (hart_in (hw_harts_of slots) h).core after (hart_in (hw_harts_of (slice_set slots h new)) h).core
batch_there slots h left n d new r after below batch =
    subst (λ (x : HwHart). Ends left n r x.core after (hart_in (hw_harts_of (slice_set slots h new)) h).core) (sym (hw_there slots h d below))
    (subst (λ (x : HwHart). Ends left n r (hw_at (slice_index_or slots h d)).core after x.core) (sym (slot_there slots h new below)) batch)

pub aligned_there : (slots : List HartSlot) (h : ℕ) (new : HartSlot) → h < length slots → (hw_at new).core.pc % 4 ≡ 0 → (hart_in (hw_harts_of (slice_set slots h new)) h).core.pc % 4 ≡ 0
aligned_there slots h new below aligned = subst (λ (x : HwHart). x.core.pc % 4 ≡ 0) (sym (slot_there slots h new below)) aligned

pub harts_there : (slots : List HartSlot) (h : ℕ) (d new : HartSlot) → h < length slots → hw_at new ≡ with_core (hw_at new).core (hw_at (slice_index_or slots h d))
    → hw_harts_of (slice_set slots h new) ≡ update (hw_harts_of slots) h (with_core (hart_in (hw_harts_of (slice_set slots h new)) h).core)
harts_there slots h d new below same =
    core_put slots h d new (λ _. (hw_at new).core) below same
    ∙ ap (λ (x : HwHart). update (hw_harts_of slots) h (with_core x.core)) (sym (slot_there slots h new below))

pub free_there : (slots : List HartSlot) (h : ℕ) (d new : HartSlot) → h < length slots → hw_at new ≡ with_core (hw_at new).core (hw_at (slice_index_or slots h d))
    → (hw_at new).core.reservation ≡ None → AreFree (hw_harts_of slots) → AreFree (hw_harts_of (slice_set slots h new))
free_there slots h d new below same none free =
    subst AreFree (sym (core_put slots h d new (λ _. (hw_at new).core) below same)) (still_free (hw_harts_of slots) h (hw_at new).core none free)

-- ---- reservations

none_by : (o : Option ℕ) → is_some o ≡ false → o ≡ None
none_by None e = refl
none_by (Some x) e = absurd (cc)

-- those of the first harts
abbrev pub FirstFree : List HartSlot → ℕ → Type 0
FirstFree slots n = (h : ℕ) → h < n → (hart_in (hw_harts_of slots) h).core.reservation ≡ None

pub none_first : (slots : List HartSlot) → FirstFree slots 0
none_first slots = λ h below. absurd (omega arith)

pub one_more_free : (slots : List HartSlot) (n : ℕ) (d : HartSlot) → n < length slots → is_some (slice_index_or slots n d).hart.core.reservation ≡ false → FirstFree slots n
    → FirstFree slots (n + 1)
one_more_free slots n d below free so_far = λ h under. elim (eqb_tells h n) [
  | inl same ↦
      subst (λ (k : ℕ). (hart_in (hw_harts_of slots) k).core.reservation ≡ None) (sym same.1)
      (ap (λ (x : HwHart). x.core.reservation) (hw_there slots n d below) ∙ none_by (slice_index_or slots n d).hart.core.reservation free)
  | inr other ↦ so_far h (let apart = other.1 in omega (arith, apart))
]
