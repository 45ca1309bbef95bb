-- What every step of the reference machine has in common: soundness after harts that are set, and after bytes that are
-- written into a free page.
use Rattle.std.proofs.Common.{sym, ◌≡◌, ℕ, zero, suc, ◌+◌, ◌*◌, ◌/◌, ◌%◌, ◌<◌, ◌≤◌, ◌⊎◌, inl, inr, List, [], ◌∷◌, length, map, refl, ◌∙◌, ap, subst, Bool, true, false, slice_get, slice_set, arith}
use Rattle.std.specs.Prelude.{Option, Some, None, option_map, if◌then◌else◌}
use Rattle.std.proofs.lemmas.Bool.{false_from_ne_true}
use Rattle.spec_processor.specs.Bytes.{overwrite, part, page_size, ram_offset, page_of}
use Rattle.sv_types.specs.Policies.{Rules, ModuleRule}
use Rattle.sv_types.specs.ApprovedPages.{ApprovedPage, approved_bytes}
use Rattle.laws_processor.proofs.ByteLemmas.{length_overwrite, page_elsewhere, part_before, part_after, lt_or_le}
use Rattle.sv_types.specs.declared.saved.ModulePlacement.{ModulePlacement}
use Rattle.spec_reference.specs.States.{State, Hart, Loading, Devices, Journal, is_approved_in, has_number, find_module, module_pages, pages_in_rule}
use Rattle.spec_reference.specs.Devices.{with_bytes, hart_after_write}
use Rattle.spec_reference.specs.Loads.{is_good_load, module_text}
use Rattle.spec_reference.specs.Origins.{TextStays, Ownership, ownership, IsMeasured}
use Rattle.spec_hardware.specs.StandsFor.{load_kept}
use Rattle.spec_reference.specs.Soundness.{IsSound, IsSoundHart, IsSoundDisk, IsSoundLoad}
use Rattle.laws_simulation.proofs.Lookups.{both}
use Rattle.laws_simulation.proofs.LoadsKept.{elsewhere, rule_kept}
use Rattle.laws_simulation.proofs.Stays.{KeepsLoad, length_set, length_map}
use Rattle.sv_types.proofs.SetElements.{set_or_there}

-- what a step keeps: soundness, and the kernel's text
pub record Goes (r next : State) : Type 0 where
  pub sound : IsSound next
  pub text : TextStays (ownership r) (ownership next)

pub text_stays : (o : Ownership) → TextStays o o
text_stays o = record { rules = refl; text = refl; was = λ page e. e; bytes = λ page e. refl }

text_on : (a b c : Ownership) → TextStays a b → TextStays b c → TextStays a c
text_on a b c s t = record {
  rules = t.rules ∙ s.rules;
  text = t.text ∙ s.text;
  was = λ page e. s.was page (t.was page e);
  bytes = λ page e. t.bytes page e ∙ s.bytes page (t.was page e);
}

pub goes_on : (a b c : State) → Goes a b → Goes b c → Goes a c
goes_on a b c s t = record { sound = t.sound; text = text_on (ownership a) (ownership b) (ownership c) s.text t.text }

pub choose_goes : (r : State) (b : Bool) (x y : State) → Goes r x → Goes r y → Goes r (if b then x else y)
choose_goes r true x y s t = s
choose_goes r false x y s t = t

-- the same, where each choice may know the test
pub decide_goes : (r : State) (b : Bool) (x y : State) → (b ≡ true → Goes r x) → (b ≡ false → Goes r y) → Goes r (if b then x else y)
decide_goes r true x y s t = s refl
decide_goes r false x y s t = t refl

-- ---- harts, devices and the journal

abbrev pub AreSound : Rules → List Hart → Type 0
AreSound rules harts = (k : ℕ) (hart : Hart) → slice_get harts k ≡ Some hart → IsSoundHart rules hart

pub sound_harts : (r : State) (harts : List Hart) (d : Devices) (j : Journal) → IsSound r → AreSound r.rules harts → length harts ≡ length r.harts → IsSoundDisk d.disk
    → IsSound (record r { harts = harts; devices = d; journal = j })
sound_harts r harts d j s sound same disk = record {
  within = s.within;
  words = s.words;
  number = same ∙ s.number;
  harts = sound;
  size = s.size;
  text = s.text;
  ascends = s.ascends;
  modules = s.modules;
  load = s.load;
  pages = s.pages;
  disk = disk;
}

pub goes_harts : (r : State) (harts : List Hart) (d : Devices) (j : Journal) → IsSound r → AreSound r.rules harts → length harts ≡ length r.harts → IsSoundDisk d.disk
    → Goes r (record r { harts = harts; devices = d; journal = j })
goes_harts r harts d j s sound same disk = record { sound = sound_harts r harts d j s sound same disk; text = text_stays (ownership r) }

pub are_set : (rules : Rules) (harts : List Hart) (h : ℕ) (next : Hart) → AreSound rules harts → IsSoundHart rules next → AreSound rules (slice_set harts h next)
are_set rules harts h next all sound k hart e = elim (set_or_there harts h k next hart e) [
  | inl same ↦ subst (IsSoundHart rules) same sound
  | inr there ↦ all k hart there
]

-- a hart is set
pub goes_set : (r : State) (h : ℕ) (next : Hart) (d : Devices) (j : Journal) → IsSound r → IsSoundHart r.rules next → IsSoundDisk d.disk
    → Goes r (record r { harts = slice_set r.harts h next; devices = d; journal = j })
goes_set r h next d j s sound disk =
    goes_harts r (slice_set r.harts h next) d j s (are_set r.rules r.harts h next s.harts sound) (length_set r.harts h next) disk

-- no hart is
pub goes_beside : (r : State) (d : Devices) (j : Journal) → IsSound r → IsSoundDisk d.disk → Goes r (record r { devices = d; journal = j })
goes_beside r d j s disk = goes_harts r r.harts d j s s.harts refl disk

-- ---- writes

get_map : (f : Hart → Hart) (harts : List Hart) (k : ℕ) (z : Hart) → slice_get (map f harts) k ≡ Some z → (y : Hart) × ((slice_get harts k ≡ Some y) × (f y ≡ z))
get_map f [] k z e = cc
get_map f (x ∷ harts) zero z e = (x, (refl, cc))
get_map f (x ∷ harts) (suc k) z e = get_map f harts k z e

forgot_sound : {rules : Rules} (place width : ℕ) (hart : Hart) → IsSoundHart rules hart → IsSoundHart rules (hart_after_write place width hart)
forgot_sound place width hart s = record {
  aligned = s.aligned;
  small = s.small;
  legal = s.legal;
  entry = s.entry;
  stopped = λ off. record { mode = (s.stopped off).mode; entry = (s.stopped off).entry };
}

pub apart : (p q : ℕ) → (p ≡ q → ⊥) → (p < q) ⊎ (q < p)
apart p q other = elim (lt_or_le p q) [
  | inl less ↦ inl less
  | inr least ↦ elim (lt_or_le q p) [ inl more ↦ inr more | inr most ↦ absurd (other (omega arith)) ]
]

-- bytes in one page, which is neither approved nor held
pub record InFreePage (r : State) (place : ℕ) (bytes : List ℕ) : Type 0 where
  pub page : ℕ
  pub free : is_approved_in r.approved page ≡ false
  pub unheld : has_number r.held page ≡ false
  pub first : page_size * page ≤ place
  pub last : place + length bytes ≤ page_size * (page + 1)
  pub inside : place + length bytes ≤ length r.ram

other_page : (approved : List ApprovedPage) (page q : ℕ) (bytes : List ℕ) → is_approved_in approved page ≡ false → approved_bytes approved q ≡ Some bytes → q ≡ page → ⊥
other_page approved page q bytes free found same = let there : approved_bytes approved page ≡ Some bytes = subst (λ (p : ℕ). approved_bytes approved p ≡
    Some bytes) same found in let e = rw there at free in cc

-- whole pages are left as they are by bytes inside another page
pub pages_kept : (ram bytes : List ℕ) (at page from n : ℕ) → at + length bytes ≤ length ram → page_size * page ≤ at → at + length bytes ≤ page_size * (page + 1)
    → from % page_size ≡ 0 → (page < from / page_size) ⊎ (from / page_size + n ≤ page) → part (overwrite ram at bytes) from (page_size * n) ≡ part ram from (page_size * n)
pages_kept ram bytes at page from n inside first last aligned (inl before) =
    part_after ram bytes at from (page_size * n) inside (omega arith)
pages_kept ram bytes at page from n inside first last aligned (inr behind) =
    part_before ram bytes at from (page_size * n) inside (omega arith)

good_kept : (rules : Rules) (ram next : List ℕ) (m : ModulePlacement) (rule : Option ModuleRule)
    → module_text next m (pages_in_rule rule) ≡ module_text ram m (pages_in_rule rule) → is_good_load rules ram m rule ≡ true → is_good_load rules next m rule ≡ true
unfolding is_good_load
good_kept rules ram next m None same good = good
good_kept rules ram next m (Some rule) same good = rw same good

measured_kept : (r : State) (place : ℕ) (bytes : List ℕ) (m : ModulePlacement) → IsSound r → InFreePage r place bytes → find_module r.loaded m.id ≡ Some m
    → IsMeasured r.rules (overwrite r.ram place bytes) m
measured_kept r place bytes m s free found =
    let old : IsMeasured r.rules r.ram m = s.modules m found in
    let n : ℕ = pages_in_rule (slice_get r.rules.modules m.id) in
    let other : has_number (module_pages r.rules m) free.page ≡ false =
    false_from_ne_true (has_number (module_pages r.rules m) free.page)
    (λ there. both (is_approved_in r.approved free.page) (s.pages.modules m free.page (record { loaded_is = found; inside = there })) free.free) in
    record {
      good = good_kept r.rules r.ram (overwrite r.ram place bytes) m (slice_get r.rules.modules m.id)
          (pages_kept r.ram bytes place free.page (ram_offset m.gpa) n free.inside free.first free.last old.aligned (elsewhere (page_of m.gpa) n free.page other)) old.good;
      base = old.base;
      aligned = old.aligned;
    }

pub sound_bytes : (r : State) (place : ℕ) (bytes : List ℕ) → IsSound r → InFreePage r place bytes → IsSound (with_bytes r place bytes)
unfolding with_bytes
sound_bytes r place bytes s free = record {
  within = s.within;
  words = s.words;
  number = length_map (hart_after_write place (length bytes)) r.harts ∙ s.number;
  harts = λ k hart e. let m = get_map (hart_after_write place (length bytes)) r.harts k hart e in
      subst (IsSoundHart r.rules) m.1.1 (forgot_sound place (length bytes) m.0 (s.harts k m.0 m.1.0));
  size = length_overwrite r.ram bytes place free.inside ∙ s.size;
  text = record {
    same = λ q old found. page_elsewhere r.ram bytes place q free.page free.inside free.first free.last
        (apart q free.page (other_page r.approved free.page q old free.free found)) ∙ s.text.same q old found;
  };
  ascends = s.ascends;
  modules = λ m found. measured_kept r place bytes m s free found;
  load = s.load;
  pages = s.pages;
  disk = s.disk;
}

pub goes_bytes : (r : State) (place : ℕ) (bytes : List ℕ) → IsSound r → InFreePage r place bytes → Goes r (with_bytes r place bytes)
unfolding with_bytes
goes_bytes r place bytes s free = record { sound = sound_bytes r place bytes s free; text = text_stays (ownership r) }

-- what is kept of a load under way stays too
load_by_bytes : (r : State) (x : Option Loading) (place : ℕ) (bytes : List ℕ) → IsSoundLoad r.rules r.approved r.loaded r.held x → InFreePage r place bytes
    → option_map (load_kept r.rules r.ram) x ≡ option_map (load_kept r.rules (overwrite r.ram place bytes)) x
load_by_bytes r None place bytes sound free = refl
load_by_bytes r (Some load) place bytes sound free =
    let n : ℕ = pages_in_rule (slice_get r.rules.modules load.about.id) in
    ap Some (rule_kept r load (overwrite r.ram place bytes) (slice_get r.rules.modules load.about.id)
    (sym (pages_kept r.ram bytes place free.page (ram_offset load.about.gpa) n free.inside free.first free.last sound.aligned
    (elsewhere (page_of load.about.gpa) n free.page (rw sound.pages at free.unheld)))))

pub bytes_keep_load : (r : State) (place : ℕ) (bytes : List ℕ) → IsSound r → InFreePage r place bytes → KeepsLoad r (overwrite r.ram place bytes)
bytes_keep_load r place bytes s free = load_by_bytes r r.loading place bytes s.load free
