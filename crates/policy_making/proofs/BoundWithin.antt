-- A policy whose entries are bound is within its limits, and they are bound to the kernel's text.
use Rattle.std.proofs.Common.{◌≡◌, ◌∙◌, ℕ, ◌≤◌, ◌&&◌, Bool, true, false, List, [], ◌∷◌, ◌++◌, length, Ok, Err, None, All, refl, sym, subst, arith, cond, append_assoc, append-nil}
use Rattle.std.specs.Prelude.{◌==◌}
use Rattle.std.specs.List.{list_all}
use Rattle.std.specs.Str.{bytes_eq}
use Rattle.std.proofs.lemmas.Bool.{and_parts}
use Rattle.std.proofs.lemmas.Bool.Decides.{nat_tests}
use Rattle.std.specs.Cmp.Derive.{both_true}
use Rattle.spec_processor.specs.Regions.{max_ram_pages}
use Rattle.sv_types.specs.Kernel.{LoadedSegment, kernel_refusal, kernel_segments, text_of}
use Rattle.sv_types.specs.Measure.{measure}
use Rattle.sv_types.specs.Policies.{Rules, all_bound, bound_within, each_within, entries_count_within, entries_within, exports_count_within}
use Rattle.sv_types.specs.Policies.{exports_within, format_within, harts_within, init_within, lists_within, modules_count_within}
use Rattle.sv_types.specs.Policies.{modules_within, numbers_within, ram_pages_within, rules_within}
use Rattle.sv_types.specs.Steps.{◌>>=◌}
use Rattle.elf64_load.specs.Judged.{each}
use Rattle.policy_making.specs.Binding.{bound_place, bound_places, bound_rules, each_once, entries_bound, measured_bound, with_places}
use Rattle.policy_making.specs.Faults.{Judged}
use Rattle.policy_making.specs.InText.{is_in_text}
use Rattle.policy_making.specs.declared.bind_fault.BindFault.TheVariants.{Convert, Measure}
use Rattle.policy_making.specs.declared.bind_fault.ConvertFault.TheVariants.{OtherFormat}
use Rattle.policy_making.proofs.OnceEach.{is_new, once, some_once}
use Rattle.policy_making.proofs.TextPlaces.{IsBoundWell, IsInRam, accepted_in_ram, bound_well, well_fits, well_in_text}

-- each entry with its place
abbrev AreBound : ℕ → List LoadedSegment → (entries places : List ℕ) → Type 0
AreBound ram_pages ss [] [] = Unit {0}
AreBound ram_pages ss [] (place ∷ places) = ⊥
AreBound ram_pages ss (entry ∷ entries) [] = ⊥
AreBound ram_pages ss (entry ∷ entries) (place ∷ places) = IsBoundWell ram_pages ss entry place × AreBound ram_pages ss entries places

list_same : (a b : List ℕ) → ◌≡◌ {A = Judged (List ℕ)} (Ok a) (Ok b) → a ≡ b
list_same a b e = cc e

rules_same : (a b : Rules) → ◌≡◌ {A = Judged Rules} (Ok a) (Ok b) → a ≡ b
rules_same a b e = cc e

module _ (ram_pages : ℕ) (ss : List LoadedSegment) (all : All (IsInRam ram_pages) ss) where
  bound_by : (before places : List ℕ) (entry : ℕ) (entries : List ℕ) (judged : Judged ℕ) → bound_place ss entry ≡ judged
      → (judged >>= λ place. each (bound_place ss) (before ++ place ∷ []) entries) ≡ Ok places
      → ((now : List ℕ) → each (bound_place ss) now entries ≡ Ok places → (rest : List ℕ) × (places ≡ now ++ rest) × AreBound ram_pages ss entries rest)
      → (rest : List ℕ) × (places ≡ before ++ rest) × AreBound ram_pages ss (entry ∷ entries) rest
  bound_by before places entry entries (Ok place) is e more =
      let rest = more (before ++ place ∷ []) e in
      (place ∷ rest.0, rest.1 ∙ append_assoc before (place ∷ []) rest.0, (bound_well ram_pages ss all entry place is, rest.2))
  bound_by before places entry entries (Err fault) is e more = absurd (cc e)

  bound_from : (before places entries : List ℕ) → each (bound_place ss) before entries ≡ Ok places
      → (rest : List ℕ) × (places ≡ before ++ rest) × AreBound ram_pages ss entries rest
  bound_from before places [] e = ([], sym (list_same before places e) ∙ sym (append-nil before), tt)
  bound_from before places (entry ∷ entries) e =
      bound_by before places entry entries (bound_place ss entry) refl e (λ now more. bound_from now places entries more)

  are_bound : (entries places : List ℕ) → bound_places ss entries ≡ Ok places → AreBound ram_pages ss entries places
  are_bound entries places e =
      let rest = bound_from [] places entries e in
      subst (AreBound ram_pages ss entries) (sym rest.1) rest.2

  bound_all : (before entries places : List ℕ) → AreBound ram_pages ss entries places → each_within is_new before entries ≡ true
      → all_bound ram_pages before entries places ≡ true
  bound_all before [] [] bound new = refl
  bound_all before [] (place ∷ places) bound new = absurd bound
  bound_all before (entry ∷ entries) [] bound new = absurd bound
  bound_all before (entry ∷ entries) (place ∷ places) bound new =
      let parts = and_parts (is_new before entry) (each_within is_new (before ++ entry ∷ []) entries) new in
      rw (well_fits ram_pages ss entry place bound.0, parts.0, bound_all (before ++ entry ∷ []) entries places bound.1 parts.1) refl

  bound_text : (entries places : List ℕ) → ram_pages ≤ max_ram_pages → AreBound ram_pages ss entries places → list_all (is_in_text ss) places ≡ true
  bound_text [] [] few bound = refl
  bound_text [] (place ∷ places) few bound = absurd bound
  bound_text (entry ∷ entries) [] few bound = refl
  bound_text (entry ∷ entries) (place ∷ places) few bound =
      rw (well_in_text ram_pages ss entry place few bound.0, bound_text entries places few bound.1) refl

-- ---- what is made

-- the entries, each once, with their places
record IsMadeOf (r : Rules) (ss : List LoadedSegment) (made : Rules) : Type 0 where
  places : List ℕ
  bound : bound_places ss (each_once r.entries) ≡ Ok places
  is : made ≡ with_places r (each_once r.entries) places

made_by : (r : Rules) (ss : List LoadedSegment) (made : Rules) (judged : Judged (List ℕ)) → bound_places ss (each_once r.entries) ≡ judged
    → (judged >>= λ places. Ok (with_places r (each_once r.entries) places)) ≡ Ok made → IsMadeOf r ss made
made_by r ss made (Ok places) is e = record { places = places; bound = is; is = sym (rules_same (with_places r (each_once r.entries) places) made e) }
made_by r ss made (Err fault) is e = absurd (cc e)

made_entries : (r : Rules) (ss : List LoadedSegment) (made : Rules) → entries_bound r ss ≡ Ok made → IsMadeOf r ss made
unfolding entries_bound
made_entries r ss made e = made_by r ss made (bound_places ss (each_once r.entries)) refl e

by_measure : (r : Rules) (ss : List LoadedSegment) (made : Rules) (digest : List ℕ) (b : Bool)
    → ◌≡◌ {A = Judged Rules} (cond b (entries_bound r ss) (Err (Measure digest r.kernel))) (Ok made) → IsMadeOf r ss made
by_measure r ss made digest true e = made_entries r ss made e
by_measure r ss made digest false e = absurd (cc e)

made_measured : (r : Rules) (ss : List LoadedSegment) (made : Rules) (digest : List ℕ) → measured_bound r ss digest ≡ Ok made → IsMadeOf r ss made
unfolding measured_bound
made_measured r ss made digest e = by_measure r ss made digest (bytes_eq digest r.kernel) e

by_format : (r : Rules) (ss : List LoadedSegment) (made : Rules) (b : Bool)
    → ◌≡◌ {A = Judged Rules} (cond b (measured_bound r ss (measure (text_of ss))) (Err (Convert OtherFormat))) (Ok made) → IsMadeOf r ss made
by_format r ss made true e = made_measured r ss made (measure (text_of ss)) e
by_format r ss made false e = absurd (cc e)

made_of : (r : Rules) (ss : List LoadedSegment) (made : Rules) → bound_rules r ss ≡ Ok made → IsMadeOf r ss made
unfolding bound_rules
made_of r ss made e = by_format r ss made (r.format == 1) e

-- ---- limits

-- those of a policy that what is made takes over, and those of its entries
record HasLimits (r : Rules) : Type 0 where
  harts : harts_within r.harts ≡ true
  ram : ram_pages_within r.ram_pages ≡ true
  count : entries_count_within (length r.entries) ≡ true
  entries : entries_within r.entries ≡ true
  few_exports : exports_count_within (length r.exports) ≡ true
  exports : exports_within r.exports ≡ true
  init : init_within r.ram_pages r.init ≡ true
  few_modules : modules_count_within (length r.modules) ≡ true
  modules : modules_within (length r.exports) r.modules ≡ true

limits : (r : Rules) → rules_within r ≡ true → HasLimits r
limits r within =
    let one = and_parts (numbers_within r && lists_within r && init_within r.ram_pages r.init && modules_count_within (length r.modules)) (modules_within (length r.exports) r.modules) within in
    let two = and_parts (numbers_within r && lists_within r && init_within r.ram_pages r.init) (modules_count_within (length r.modules)) one.0 in
    let three = and_parts (numbers_within r && lists_within r) (init_within r.ram_pages r.init) two.0 in
    let four = and_parts (numbers_within r) (lists_within r) three.0 in
    let numbers = and_parts (format_within r.format && harts_within r.harts) (ram_pages_within r.ram_pages) four.0 in
    let harts = and_parts (format_within r.format) (harts_within r.harts) numbers.0 in
    let lists = and_parts (entries_count_within (length r.entries) && entries_within r.entries && exports_count_within (length r.exports) && exports_within r.exports) (bound_within r) four.1 in
    let exports = and_parts (entries_count_within (length r.entries) && entries_within r.entries && exports_count_within (length r.exports)) (exports_within r.exports) lists.0 in
    let few = and_parts (entries_count_within (length r.entries) && entries_within r.entries) (exports_count_within (length r.exports)) exports.0 in
    let entries = and_parts (entries_count_within (length r.entries)) (entries_within r.entries) few.0 in
    record {
      harts = harts.1;
      ram = numbers.1;
      count = entries.0;
      entries = entries.1;
      few_exports = few.1;
      exports = exports.1;
      init = three.1;
      few_modules = two.1;
      modules = one.1;
    }

all_limits : (r : Rules) → format_within r.format ≡ true → HasLimits r → bound_within r ≡ true → rules_within r ≡ true
all_limits r format has bound =
    both_true (both_true
    (both_true (both_true (both_true (both_true format has.harts) has.ram) (both_true (both_true (both_true (both_true has.count has.entries) has.few_exports) has.exports)
    bound)) has.init) has.few_modules) has.modules

count_of : (n most : ℕ) → entries_count_within most ≡ true → 1 ≤ n → n ≤ most → entries_count_within n ≡ true
count_of n most within some few = grind (arith, nat_tests)

some_of : (n : ℕ) → entries_count_within n ≡ true → 1 ≤ n
some_of n within = grind (arith, nat_tests)

few_pages : (n : ℕ) → ram_pages_within n ≡ true → n ≤ max_ram_pages
few_pages n within = grind (arith, nat_tests)

with_places_within : (r : Rules) (ss : List LoadedSegment) (places : List ℕ) → All (IsInRam r.ram_pages) ss → HasLimits r
    → bound_places ss (each_once r.entries) ≡ Ok places → rules_within (with_places r (each_once r.entries) places) ≡ true
with_places_within r ss places all has bound =
    let now = once r.entries has.entries in
    let count : entries_count_within (length (each_once r.entries)) ≡ true =
    count_of (length (each_once r.entries)) (length r.entries) has.count (some_once r.entries (some_of (length r.entries) has.count)) now.few in
    let fits : all_bound r.ram_pages [] (each_once r.entries) places ≡ true =
    bound_all r.ram_pages ss all [] (each_once r.entries) places (are_bound r.ram_pages ss all (each_once r.entries) places bound) now.new in
    all_limits (with_places r (each_once r.entries) places) refl
    (record {
      harts = has.harts;
      ram = has.ram;
      count = count;
      entries = now.whole;
      few_exports = has.few_exports;
      exports = has.exports;
      init = has.init;
      few_modules = has.few_modules;
      modules = has.modules;
    })
    fits

of_within : (r : Rules) (ss : List LoadedSegment) (made : Rules) → All (IsInRam r.ram_pages) ss → rules_within r ≡ true → IsMadeOf r ss made → rules_within made ≡ true
of_within r ss made all within of =
    subst (λ (x : Rules). rules_within x ≡ true) (sym of.is) (with_places_within r ss of.places all (limits r within) of.bound)

-- after the judgements of the format and of the measure
pub measured_within : (r : Rules) (ss : List LoadedSegment) (made : Rules) (digest : List ℕ) → All (IsInRam r.ram_pages) ss → rules_within r ≡ true
    → measured_bound r ss digest ≡ Ok made → rules_within made ≡ true
measured_within r ss made digest all within e = of_within r ss made all within (made_measured r ss made digest e)

made_within : (r : Rules) (ss : List LoadedSegment) (made : Rules) → All (IsInRam r.ram_pages) ss → rules_within r ≡ true → bound_rules r ss ≡ Ok made → rules_within made ≡ true
made_within r ss made all within e = of_within r ss made all within (made_of r ss made e)

made_in_text : (r : Rules) (ss : List LoadedSegment) (made : Rules) → All (IsInRam r.ram_pages) ss → rules_within r ≡ true → bound_rules r ss ≡ Ok made
    → list_all (is_in_text ss) made.bound ≡ true
made_in_text r ss made all within e =
    let of = made_of r ss made e in
    subst (λ (x : Rules). list_all (is_in_text ss) x.bound ≡ true) (sym of.is)
    (bound_text r.ram_pages ss all (each_once r.entries) of.places (few_pages r.ram_pages (limits r within).ram)
    (are_bound r.ram_pages ss all (each_once r.entries) of.places of.bound))

-- ---- the laws

pub law_within : (file : List ℕ) (rules made : Rules) → kernel_refusal file rules.ram_pages ≡ None → rules_within rules ≡ true
    → bound_rules rules (kernel_segments file) ≡ Ok made → rules_within made ≡ true
law_within file rules made none within e = made_within rules (kernel_segments file) made (accepted_in_ram file rules.ram_pages none) within e

pub law_in_text : (file : List ℕ) (rules made : Rules) → kernel_refusal file rules.ram_pages ≡ None → rules_within rules ≡ true
    → bound_rules rules (kernel_segments file) ≡ Ok made → list_all (is_in_text (kernel_segments file)) made.bound ≡ true
law_in_text file rules made none within e = made_in_text rules (kernel_segments file) made (accepted_in_ram file rules.ram_pages none) within e
