-- Pages that are taken some at a time.
use Rattle.std.proofs.Common.{◌≡◌, ℕ, suc, ◌+◌, ◌-◌, ◌<◌, ◌≤◌, List, [], ◌∷◌, ◌++◌, length, drop, get_or, refl, ◌∙◌, ap, Bool, true, false, not, arith}
use Rattle.std.specs.Prelude.{Option, Some, None, if◌then◌else◌}
use Rattle.std.proofs.lemmas.List.{drop_all, drop_more}
use Rattle.sv_types.specs.ApprovedPages.{numbers_from}
use Rattle.sv_types.specs.Policies.{Rules}
use Rattle.sv_types.specs.declared.protection.Protection.{Protection}
use Rattle.sv_types.specs.declared.protection.Protection.TheVariants.{Held, Approved}
use Rattle.sv_types.specs.declared.saved.ModulePlacement.{ModulePlacement}
use Rattle.spec_reference.specs.States.{module_pages}
use Rattle.snapshot_format.specs.declared.whole.TextPage.{TextPage}
use Rattle.snapshot_format.specs.Judgements.{is_retired, loaded_pages, take_pages, then_held}
use Rattle.snapshot_format.specs.Taking.{IsTaken, Takes, left_of}
use Rattle.snapshot_format.proofs.TakenSpans.{then_taken, taken_after}

-- ---- some pages, and the rest after them

-- where one of some wasn't free, all are none
pub none_behind : (p : Protection) (guard : List Protection) (some rest : List ℕ) → take_pages p guard some ≡ None → take_pages p guard (some ++ rest) ≡ None
none_behind p guard some rest none = taken_after p guard some rest ∙ ap (λ (g : Option (List Protection)). then_taken p g rest) none

pub some_after : (p : Protection) (guard next : List Protection) (some rest : List ℕ) → take_pages p guard some ≡ Some next → take_pages p guard (some ++ rest) ≡ take_pages p next rest
some_after p guard next some rest is = taken_after p guard some rest ∙ ap (λ (g : Option (List Protection)). then_taken p g rest) is

-- a loop goes on after some that were taken, and breaks off where one wasn't free
goes_on : (p : Protection) (due : Option (List Protection)) (guard next : List Protection) (some rest : List ℕ) (done : Bool) → done ≡ true → Takes p guard next some done
    → due ≡ take_pages p guard (some ++ rest) → due ≡ take_pages p next rest
goes_on p due guard next some rest true is takes before = before ∙ some_after p guard next some rest takes
goes_on p due guard next some rest false is takes before = cc is

breaks : (p : Protection) (due : Option (List Protection)) (guard next : List Protection) (some rest : List ℕ) (done : Bool) → done ≡ false → Takes p guard next some done
    → due ≡ take_pages p guard (some ++ rest) → due ≡ None
breaks p due guard next some rest true is takes before = cc is
breaks p due guard next some rest false is takes before = before ∙ none_behind p guard some rest takes

-- ---- the numbers of a span

next_number : (first count i : ℕ) → i < count → numbers_from (first + i) (count - i) ≡ (first + i) ∷ numbers_from (first + (i + 1)) (count - (i + 1))
next_number first count i below =
    let more : count - i ≡ suc (count - (i + 1)) = omega (arith, below) in
    let place : first + i + 1 ≡ first + (i + 1) = omega arith in
    ap (numbers_from (first + i)) more ∙ ap (λ (n : ℕ). (first + i) ∷ numbers_from n (count - (i + 1))) place

-- what is left of a span after its first pages
abbrev pub span_left : (first count i : ℕ) → List ℕ
span_left first count i = numbers_from (first + i) (count - i)

pub span_begins : (first count : ℕ) → numbers_from first count ≡ span_left first count 0
span_begins first count =
    let same : first ≡ first + 0 = omega arith in
    let all : count ≡ count - 0 = omega arith in ap (λ (n : ℕ). numbers_from n count) same ∙ ap (numbers_from (first + 0)) all

pub span_goes_on : (p : Protection) (due : Option (List Protection)) (guard next : List Protection) (first count i : ℕ) (done : Bool) → i < count → done ≡ true
    → Takes p guard next ((first + i) ∷ []) done → due ≡ take_pages p guard (span_left first count i) → due ≡ take_pages p next (span_left first count (i + 1))
span_goes_on p due guard next first count i done below is takes before =
    goes_on p due guard next ((first + i) ∷ []) (span_left first count (i + 1)) done is takes (before ∙ ap (take_pages p guard) (next_number first count i below))

pub span_breaks : (p : Protection) (due : Option (List Protection)) (guard next : List Protection) (first count i : ℕ) (done : Bool) → i < count → done ≡ false
    → Takes p guard next ((first + i) ∷ []) done → due ≡ take_pages p guard (span_left first count i) → due ≡ None
span_breaks p due guard next first count i done below is takes before =
    breaks p due guard next ((first + i) ∷ []) (span_left first count (i + 1)) done is takes (before ∙ ap (take_pages p guard) (next_number first count i below))

pub span_ends : (p : Protection) (due : Option (List Protection)) (guard : List Protection) (first count i : ℕ) → count ≤ i
    → due ≡ take_pages p guard (span_left first count i) → due ≡ Some guard
span_ends p due guard first count i past before =
    let none : count - i ≡ 0 = omega (arith, past) in before ∙ ap (λ (n : ℕ). take_pages p guard (numbers_from (first + i) n)) none

-- ---- the pages of the text

left_cons : (rules : Rules) (retired : Bool) (t : TextPage) (text : List TextPage) → left_of rules retired (t ∷ text) ≡ left_of rules retired (t ∷ []) ++ left_of rules retired text
left_cons rules retired t text = by (not (is_retired rules retired t.page)) (left_of rules retired text)
  where
    by : (b : Bool) (rest : List ℕ) → (if b then t.page ∷ rest else rest) ≡ (if b then t.page ∷ [] else []) ++ rest
    by true rest = refl
    by false rest = refl

left_step : (rules : Rules) (retired : Bool) (text : List TextPage) (i : ℕ) (d : TextPage) → i < length text
    → left_of rules retired (drop i text) ≡ left_of rules retired (get_or text i d ∷ []) ++ left_of rules retired (drop (i + 1) text)
left_step rules retired text i d within = ap (left_of rules retired) (drop_more text i d within) ∙ left_cons rules retired (get_or text i d) (drop (i + 1) text)

pub text_goes_on : (rules : Rules) (retired : Bool) (text : List TextPage) (i : ℕ) (d : TextPage) (due : Option (List Protection)) (guard next : List Protection) (done : Bool)
    → i < length text → done ≡ true → Takes Approved guard next (left_of rules retired (get_or text i d ∷ [])) done
    → due ≡ take_pages Approved guard (left_of rules retired (drop i text)) → due ≡ take_pages Approved next (left_of rules retired (drop (i + 1) text))
text_goes_on rules retired text i d due guard next done within is takes before =
    goes_on Approved due guard next (left_of rules retired (get_or text i d ∷ [])) (left_of rules retired (drop (i + 1) text)) done is takes
    (before ∙ ap (take_pages Approved guard) (left_step rules retired text i d within))

pub text_breaks : (rules : Rules) (retired : Bool) (text : List TextPage) (i : ℕ) (d : TextPage) (due : Option (List Protection)) (guard next : List Protection) (done : Bool)
    → i < length text → done ≡ false → Takes Approved guard next (left_of rules retired (get_or text i d ∷ [])) done
    → due ≡ take_pages Approved guard (left_of rules retired (drop i text)) → due ≡ None
text_breaks rules retired text i d due guard next done within is takes before =
    breaks Approved due guard next (left_of rules retired (get_or text i d ∷ [])) (left_of rules retired (drop (i + 1) text)) done is takes
    (before ∙ ap (take_pages Approved guard) (left_step rules retired text i d within))

pub text_ends : (rules : Rules) (retired : Bool) (text : List TextPage) (i : ℕ) (due : Option (List Protection)) (guard : List Protection) → length text ≤ i
    → due ≡ take_pages Approved guard (left_of rules retired (drop i text)) → due ≡ Some guard
text_ends rules retired text i due guard past before = before ∙ ap (λ (ts : List TextPage). take_pages Approved guard (left_of rules retired ts)) (drop_all i text past)

-- ---- the pages of loaded modules

loaded_step : (rules : Rules) (modules : List ModulePlacement) (i : ℕ) (d : ModulePlacement) → i < length modules
    → loaded_pages rules (drop i modules) ≡ module_pages rules (get_or modules i d) ++ loaded_pages rules (drop (i + 1) modules)
loaded_step rules modules i d within = ap (loaded_pages rules) (drop_more modules i d within)

pub modules_go_on : (rules : Rules) (modules : List ModulePlacement) (i : ℕ) (d : ModulePlacement) (due : Option (List Protection)) (guard next : List Protection) (done : Bool)
    → i < length modules → done ≡ true → Takes Approved guard next (module_pages rules (get_or modules i d)) done
    → due ≡ take_pages Approved guard (loaded_pages rules (drop i modules)) → due ≡ take_pages Approved next (loaded_pages rules (drop (i + 1) modules))
modules_go_on rules modules i d due guard next done within is takes before =
    goes_on Approved due guard next (module_pages rules (get_or modules i d)) (loaded_pages rules (drop (i + 1) modules)) done is takes
    (before ∙ ap (take_pages Approved guard) (loaded_step rules modules i d within))

pub modules_break : (rules : Rules) (modules : List ModulePlacement) (i : ℕ) (d : ModulePlacement) (due : Option (List Protection)) (guard next : List Protection) (done : Bool)
    → i < length modules → done ≡ false → Takes Approved guard next (module_pages rules (get_or modules i d)) done
    → due ≡ take_pages Approved guard (loaded_pages rules (drop i modules)) → due ≡ None
modules_break rules modules i d due guard next done within is takes before =
    breaks Approved due guard next (module_pages rules (get_or modules i d)) (loaded_pages rules (drop (i + 1) modules)) done is takes
    (before ∙ ap (take_pages Approved guard) (loaded_step rules modules i d within))

pub modules_end : (rules : Rules) (modules : List ModulePlacement) (i : ℕ) (due : Option (List Protection)) (guard : List Protection) → length modules ≤ i
    → due ≡ take_pages Approved guard (loaded_pages rules (drop i modules)) → due ≡ Some guard
modules_end rules modules i due guard past before = before ∙ ap (λ (ms : List ModulePlacement). take_pages Approved guard (loaded_pages rules ms)) (drop_all i modules past)

-- ---- text, modules and the load, one after the other

pub were_taken : (due : Option (List Protection)) (new : List Protection) (done : Bool) → done ≡ true → IsTaken due new done → due ≡ Some new
were_taken due new true is taken = taken
were_taken due new false is taken = cc is

pub were_busy : (due : Option (List Protection)) (new : List Protection) (done : Bool) → done ≡ false → IsTaken due new done → due ≡ None
were_busy due new true is taken = cc is
were_busy due new false is taken = taken

some_taken : (guard mid next : List Protection) (text modules : List ℕ) → take_pages Approved guard text ≡ Some mid → take_pages Approved mid modules ≡ Some next
    → take_pages Approved guard (text ++ modules) ≡ Some next
some_taken guard mid next text modules first second = some_after Approved guard mid text modules first ∙ second

pub text_busy : (guard : List Protection) (text modules load : List ℕ) → take_pages Approved guard text ≡ None → then_held (take_pages Approved guard (text ++ modules)) load ≡ None
text_busy guard text modules load first = ap (λ (g : Option (List Protection)). then_held g load) (none_behind Approved guard text modules first)

pub modules_busy : (guard mid : List Protection) (text modules load : List ℕ) → take_pages Approved guard text ≡ Some mid → take_pages Approved mid modules ≡ None
    → then_held (take_pages Approved guard (text ++ modules)) load ≡ None
modules_busy guard mid text modules load first second =
    ap (λ (g : Option (List Protection)). then_held g load) (some_after Approved guard mid text modules first ∙ second)

pub load_last : (guard mid next : List Protection) (text modules load : List ℕ) → take_pages Approved guard text ≡ Some mid → take_pages Approved mid modules ≡ Some next
    → then_held (take_pages Approved guard (text ++ modules)) load ≡ take_pages Held next load
load_last guard mid next text modules load first second = ap (λ (g : Option (List Protection)). then_held g load) (some_taken guard mid next text modules first second)
