-- The parts of a state that can be saved, after what a turn sets in them.
use Rattle.std.proofs.Common.{◌≡◌, ℕ, zero, suc, ◌+◌, ◌%◌, ◌<◌, ◌≤◌, List, [], ◌∷◌, ◌++◌, map, take, length, min, refl, sym, ◌∙◌, ap, subst}
use Rattle.std.proofs.Common.{Bool, true, false, not, arith, slice_get, slice_set, length-append, length-take}
use Rattle.std.specs.Prelude.{Option, Some, None, if◌then◌else◌, ◌==◌, slice_index, option_map}
use Rattle.std.proofs.lemmas.Bool.{eq-eqb}
use Rattle.std.proofs.lemmas.List.{length-set}
use Rattle.std.proofs.lemmas.Option.{same_Some}
use Rattle.spec_processor.specs.Bytes.{page_size}
use Rattle.spec_processor.specs.Effects.{set_register}
use Rattle.spec_processor.specs.Requests.{reserved_at, touches, after_write}
use Rattle.sv_types.specs.Limits.{max_notes}
use Rattle.sv_types.specs.Clock.{Clock, with_timer}
use Rattle.sv_types.specs.declared.event.Note.{Note}
use Rattle.sv_types.specs.declared.event.Verdict.{Verdict}
use Rattle.sv_types.specs.declared.saved.ModulePlacement.{ModulePlacement}
use Rattle.spec_reference.specs.Calls.{interrupt_harts}
use Rattle.spec_reference.specs.Devices.{hart_after_write}
use Rattle.spec_reference.specs.States.{Hart, Loading, with_module, without_module}
use Rattle.laws_simulation.specs.Agree.{IsNotLoading}
use Rattle.laws_simulation.proofs.Lookups.{both}
use Rattle.laws_simulation.proofs.OthersRest.{get_after, get_sent, with_software_if, get_beside}
use Rattle.laws_resume.specs.Keepable.{IsReservable, IsKeepableHart, AreKeepable, IsKeepableNote, AreKeepableNotes, IsKeepableVerdict, IsKeepableJournal, IsKeepableClock, AreAligned, IsKeepableLoad}

-- ---- registers and reservations

zero_by : (registers : List ℕ) (rd value : ℕ) (b : Bool) → (rd == 0) ≡ b → slice_get registers 0 ≡ Some 0
    → slice_get (if b then registers else slice_set registers rd value) 0 ≡ Some 0
zero_by registers rd value true at e = e
zero_by registers zero value false at e = cc
zero_by [] (suc rd) value false at e = e
zero_by (x ∷ registers) (suc rd) value false at e = e

-- register 0 stays
pub zero_stays : (registers : List ℕ) (rd value : ℕ) → slice_get registers 0 ≡ Some 0 → slice_get (set_register registers rd value) 0 ≡ Some 0
zero_stays registers rd value e = zero_by registers rd value (rd == 0) refl e

pub reserved_fits : (size place : ℕ) → place < size → IsReservable size (Some (reserved_at place))
reserved_fits size place below = (omega arith, omega arith)

-- ---- lists of harts

pub keepable_at : (size : ℕ) (harts : List Hart) (h : ℕ) (hart : Hart) → AreKeepable size harts → slice_get harts h ≡ Some hart → IsKeepableHart size hart
keepable_at size [] h hart all e = cc
keepable_at size (x ∷ harts) zero hart all e = subst (IsKeepableHart size) (same_Some x hart e) all.0
keepable_at size (x ∷ harts) (suc h) hart all e = keepable_at size harts h hart all.1 e

pub are_set : (size : ℕ) (harts : List Hart) (h : ℕ) (next : Hart) → AreKeepable size harts → IsKeepableHart size next → AreKeepable size (slice_set harts h next)
are_set size [] h next all one = tt
are_set size (x ∷ harts) zero next all one = (one, all.1)
are_set size (x ∷ harts) (suc h) next all one = (all.0, are_set size harts h next all.1 one)

touched : (size place width : ℕ) (reserved : ℕ) (b : Bool) → IsReservable size (Some reserved) → IsReservable size (if b then None else Some reserved)
touched size place width reserved true k = tt
touched size place width reserved false k = k

left_after : (size place width : ℕ) (reservation : Option ℕ) → IsReservable size reservation → IsReservable size (after_write place width reservation)
unfolding after_write
left_after size place width None k = tt
left_after size place width (Some reserved) k = touched size place width reserved (touches reserved place width) k

pub are_written : (size place width : ℕ) (harts : List Hart) → AreKeepable size harts → AreKeepable size (map (hart_after_write place width) harts)
are_written size place width [] all = tt
are_written size place width (x ∷ harts) all =
    (record { zero = all.0.zero; reservation = left_after size place width x.reservation all.0.reservation }, are_written size place width harts all.1)

one_sent : (size : ℕ) (b : Bool) (hart : Hart) → IsKeepableHart size hart → IsKeepableHart size (with_software_if b hart)
one_sent size true hart k = record { zero = k.zero; reservation = k.reservation }
one_sent size false hart k = k

pub are_interrupted : (size : ℕ) (named : ℕ → Bool) (first : ℕ) (harts : List Hart) → AreKeepable size harts → AreKeepable size (interrupt_harts named first harts)
unfolding interrupt_harts
are_interrupted size named first [] all = tt
are_interrupted size named first (x ∷ harts) all = (one_sent size (named first) x all.0, are_interrupted size named (first + 1) harts all.1)

pub below : {A : Type 0} (xs : List A) (i : ℕ) (x : A) → slice_get xs i ≡ Some x → i < length xs
below [] i x e = cc
below (y ∷ xs) zero x e = omega arith
below (y ∷ xs) (suc i) x e = let k = below xs i x e in omega arith

-- ---- the load under way

-- another hart is set
pub load_beside : (harts : List Hart) (h : ℕ) (next : Hart) (loading : Option Loading) → IsNotLoading h loading → IsKeepableLoad harts loading
    → IsKeepableLoad (slice_set harts h next) loading
load_beside harts h next None free k = tt
load_beside harts h next (Some load) free k = record {
  hart = k.hart;
  found = get_beside harts h load.hart next k.hart (λ same. both (load.hart == h) (eq-eqb load.hart h (sym same)) free) k.found;
  started = k.started;
  mode = k.mode;
  aligned = k.aligned;
}

pub load_written : (place width : ℕ) (harts : List Hart) (loading : Option Loading) → IsKeepableLoad harts loading
    → IsKeepableLoad (map (hart_after_write place width) harts) loading
load_written place width harts None k = tt
load_written place width harts (Some load) k = record {
  hart = hart_after_write place width k.hart;
  found = get_after (hart_after_write place width) harts load.hart k.hart k.found;
  started = k.started;
  mode = k.mode;
  aligned = k.aligned;
}

sent_started : (b : Bool) (hart : Hart) → (with_software_if b hart).started ≡ hart.started
sent_started true hart = refl
sent_started false hart = refl

sent_mode : (b : Bool) (hart : Hart) → (with_software_if b hart).mode ≡ hart.mode
sent_mode true hart = refl
sent_mode false hart = refl

pub load_interrupted : (named : ℕ → Bool) (harts : List Hart) (loading : Option Loading) → IsKeepableLoad harts loading
    → IsKeepableLoad (interrupt_harts named 0 harts) loading
load_interrupted named harts None k = tt
load_interrupted named harts (Some load) k =
    let there = get_sent named 0 harts load.hart k.hart k.found in
    record {
      hart = with_software_if there.0 k.hart;
      found = there.1;
      started = sent_started there.0 k.hart ∙ k.started;
      mode = sent_mode there.0 k.hart ∙ k.mode;
      aligned = k.aligned;
    }

started_is : (harts : List Hart) (h : ℕ) (hart : Hart) → slice_get harts h ≡ Some hart → slice_get (map (λ (x : Hart). x.started) harts) h ≡ Some hart.started
started_is [] h hart e = cc
started_is (x ∷ harts) zero hart e = ap (option_map (λ (y : Hart). y.started)) e
started_is (x ∷ harts) (suc h) hart e = started_is harts h hart e

stopped_not : (a b : Bool) (x : Option Bool) → x ≡ Some a → x ≡ Some b → a ≡ false → b ≡ true → ⊥
stopped_not a b x s t off on = cc

-- a hart that was stopped is set, so another one
pub load_begun : (harts others : List Hart) (h : ℕ) (next : Hart) (loading : Option Loading) → slice_get (map (λ (x : Hart). x.started) harts) h ≡ Some false
    → IsKeepableLoad harts loading → IsKeepableLoad others loading → IsKeepableLoad (slice_set others h next) loading
load_begun harts others h next None off was k = tt
load_begun harts others h next (Some load) off was k = record {
  hart = k.hart;
  found = get_beside others h load.hart next k.hart
      (λ same. stopped_not false was.hart.started (slice_get (map (λ (x : Hart). x.started) harts) h) off
      (subst (λ (i : ℕ). slice_get (map (λ (x : Hart). x.started) harts) i ≡ Some was.hart.started) (sym same) (started_is harts load.hart was.hart was.found)) refl was.started)
      k.found;
  started = k.started;
  mode = k.mode;
  aligned = k.aligned;
}

-- ---- notes

notes_and_one : (harts : ℕ) (notes : List Note) (note : Note) → AreKeepableNotes harts notes → IsKeepableNote harts note → AreKeepableNotes harts (notes ++ note ∷ [])
notes_and_one harts [] note all one = (one, tt)
notes_and_one harts (x ∷ notes) note all one = (all.0, notes_and_one harts notes note all.1 one)

first_notes : (harts n : ℕ) (notes : List Note) → AreKeepableNotes harts notes → AreKeepableNotes harts (take n notes)
first_notes harts zero [] all = tt
first_notes harts zero (x ∷ notes) all = tt
first_notes harts (suc n) [] all = tt
first_notes harts (suc n) (x ∷ notes) all = (all.0, first_notes harts n notes all.1)

number_of_one : (notes : List Note) (note : Note) (n all : ℕ) → length notes ≡ min n all → length (take n (notes ++ note ∷ [])) ≡ min n (all + 1)
number_of_one notes note n all e =
    let cut : length (take n (notes ++ note ∷ [])) ≡ min n (length (notes ++ note ∷ [])) = length-take n (notes ++ note ∷ []) in
    let more : length (notes ++ note ∷ []) ≡ length notes + 1 = length-append notes (note ∷ []) in
    rw (cut, more, e) (smaller n all)
  where
    smaller : (n all : ℕ) → min n (min n all + 1) ≡ min n (all + 1)
    smaller n all = omega arith

-- one more
pub journal_noted : (harts : ℕ) (notes : List Note) (all : ℕ) (verdict : Verdict) (note : Note) → IsKeepableJournal harts notes all verdict → IsKeepableNote harts note
    → IsKeepableJournal harts (take max_notes (notes ++ note ∷ [])) (all + 1) verdict
journal_noted harts notes all verdict note k one = record {
  number = number_of_one notes note max_notes all k.number;
  each = first_notes harts max_notes (notes ++ note ∷ []) (notes_and_one harts notes note k.each one);
  last = k.last;
}

pub journal_ended : (harts : ℕ) (notes : List Note) (all : ℕ) (verdict next : Verdict) → IsKeepableJournal harts notes all verdict → IsKeepableVerdict harts next
    → IsKeepableJournal harts notes all next
journal_ended harts notes all verdict next k last = record { number = k.number; each = k.each; last = last }

-- ---- the clock

index_beside : (timers : List ℕ) (h k at : ℕ) → (h ≡ k → ⊥) → slice_index (slice_set timers h at) k ≡ slice_index timers k
index_beside [] h k at other = refl
index_beside (x ∷ timers) zero zero at other = absurd (other refl)
index_beside (x ∷ timers) zero (suc k) at other = refl
index_beside (x ∷ timers) (suc h) zero at other = refl
index_beside (x ∷ timers) (suc h) (suc k) at other = index_beside timers h k at (λ s. other (ap suc s))

apart : (h k harts : ℕ) → h < harts → harts ≤ k → h ≡ k → ⊥
apart h k harts there past same = omega (arith, same)

-- the timer of a hart that is there is set
pub clock_set : (harts : ℕ) (clock : Clock) (h at : ℕ) → h < harts → IsKeepableClock harts clock → IsKeepableClock harts (with_timer clock h at)
clock_set harts clock h at there k = record {
  four = length-set clock.timers h at ∙ k.four;
  unset = λ other past few. index_beside clock.timers h other at (apart h other harts there past) ∙ k.unset other past few;
}

-- ---- modules

one_more : (b : Bool) (m first : ModulePlacement) (rest others : List ModulePlacement) → m.va % page_size ≡ 0 → first.va % page_size ≡ 0 → AreAligned rest → AreAligned others
    → AreAligned (if b then m ∷ (first ∷ rest) else first ∷ others)
one_more true m first rest others one two k j = (one, (two, k))
one_more false m first rest others one two k j = (two, j)

pub aligned_with : (modules : List ModulePlacement) (m : ModulePlacement) → AreAligned modules → m.va % page_size ≡ 0 → AreAligned (with_module modules m)
unfolding with_module
aligned_with [] m all one = (one, tt)
aligned_with (first ∷ rest) m all one = one_more _ m first rest (with_module rest m) one all.0 all.1 (aligned_with rest m all.1 one)

one_less : (b : Bool) (m : ModulePlacement) (rest : List ModulePlacement) → m.va % page_size ≡ 0 → AreAligned rest → AreAligned (if b then m ∷ rest else rest)
one_less true m rest one k = (one, k)
one_less false m rest one k = k

pub aligned_without : (modules : List ModulePlacement) (id : ℕ) → AreAligned modules → AreAligned (without_module modules id)
aligned_without [] id all = tt
aligned_without (m ∷ modules) id all = one_less (not (m.id == id)) m (without_module modules id) all.0 (aligned_without modules id all.1)
