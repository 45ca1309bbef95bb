-- The levels of a walk whose entries are kept.
use Rattle.std.proofs.Common.{◌≡◌, ℕ, zero, suc, ◌+◌, ◌*◌, ◌/◌, ◌<◌, refl, ◌∙◌, sym, ap, subst, arith, Bool, true, false, List}
use Rattle.spec_processor.specs.Bytes.{page_size}
use Rattle.std.specs.Prelude.{Some, None}
use Rattle.spec_processor.specs.Instructions.{bits}
use Rattle.spec_processor.specs.Regions.{Region, IsRegion, IsHostPlace}
use Rattle.spec_processor.specs.Translation.{walk, is_pointer, entry_page}
use Rattle.spec_processor.specs.GStage.{address_at, walk_guest, entry_through, WalksApart}
use Rattle.spec_processor.specs.declared.access.Access.TheVariants.{Load}
use Rattle.sv39_walk.specs.Levels.{indices_of}
use Rattle.sv39_walk.proofs.Steps.{first_at, walk_pointer, walk_ends, walk_unreadable, walk_over, entry_found, entry_missing, entry_place}
use Rattle.hw_tlb.specs.declared.entries.Entry.{Entry}
use Rattle.hw_tlb.specs.declared.entries.Entries.{Entries}
use Rattle.hw_tlb.specs.Kept.{with_entry, Above, IsThere, IsPlace, EndsAt, LeadsNowhere}
use Rattle.laws_processor.proofs.Walks.{apart_inside}

-- ---- where entries are read

-- an entry's place is one of the region
pub entry_here : (r : Region) (hgatp : ℕ) (seen : Entry) → IsRegion r → WalksApart r hgatp → IsPlace r.tables hgatp seen → IsHostPlace r seen.at 8
entry_here r hgatp seen region apart place = entry_place r hgatp place.0 seen.at region (apart_inside r hgatp apart) place.1.0 (place.1.1 r refl)

-- ---- one entry more

pub with_more : (holds : Entry → Type 0) (left below : ℕ) (entries : Entries) (seen : Entry) → left ≡ suc below → below < 3 → Above left holds entries → holds seen
    → Above below holds (with_entry below entries seen)
with_more holds left zero entries seen more few above here = let both = subst (λ (n : ℕ). Above n holds entries) more above in (both.0, (both.1, here))
with_more holds left (suc zero) entries seen more few above here = (subst (λ (n : ℕ). Above n holds entries) more above, here)
with_more holds left (suc (suc zero)) entries seen more few above here = here
with_more holds left (suc (suc (suc n))) entries seen more few above here = absurd (omega arith)

pub with_less : (holds : Entry → Type 0) (left below : ℕ) (entries : Entries) (seen : Entry) → left ≡ suc below → below < 3
    → Above below holds (with_entry below entries seen) → Above left holds entries × holds seen
with_less holds left zero entries seen more few all = (subst (λ (n : ℕ). Above n holds entries) (sym more) (all.0, all.1.0), all.1.1)
with_less holds left (suc zero) entries seen more few all = (subst (λ (n : ℕ). Above n holds entries) (sym more) all.0, all.1)
with_less holds left (suc (suc zero)) entries seen more few all = (subst (λ (n : ℕ). Above n holds entries) (sym more) tt, all)
with_less holds left (suc (suc (suc n))) entries seen more few all = absurd (omega arith)

-- the last entry stands for those below it
pub with_all : (holds : Entry → Type 0) (below : ℕ) (entries : Entries) (seen : Entry) → below < 3 → Above below holds (with_entry below entries seen)
    → Above 0 holds (with_entry below entries seen)
with_all holds zero entries seen few all = all
with_all holds (suc zero) entries seen few all = (all.0, (all.1, all.1))
with_all holds (suc (suc zero)) entries seen few all = (all, (all, all))
with_all holds (suc (suc (suc n))) entries seen few all = absurd (omega arith)

with_few : (holds : Entry → Type 0) (below : ℕ) (entries : Entries) (seen : Entry) → below < 3 → Above 0 holds (with_entry below entries seen)
    → Above below holds (with_entry below entries seen)
with_few holds zero entries seen few all = all
with_few holds (suc zero) entries seen few all = (all.0, all.1.0)
with_few holds (suc (suc zero)) entries seen few all = all.0
with_few holds (suc (suc (suc n))) entries seen few all = absurd (omega arith)

-- ---- one level

same_index : (a b below : ℕ) → below < 3 → a / page_size ≡ b / page_size → bits a (12 + 9 * below) (21 + 9 * below) ≡ bits b (12 + 9 * below) (21 + 9 * below)
same_index a b zero few same = omega arith
same_index a b (suc zero) few same = omega arith
same_index a b (suc (suc zero)) few same = omega arith
same_index a b (suc (suc (suc n))) few same = absurd (omega arith)

-- where an entry's place is led, whatever RAM holds
abbrev pub LeadsTo : List ℕ → (hgatp gpa : ℕ) → Entry → Type 0
LeadsTo tables hgatp gpa seen = (r : Region) → r.tables ≡ tables → walk_guest r hgatp gpa Load ≡ Some seen.at

-- with so many levels left, the walks of a page's addresses go on from one table, where the words that were read stand
abbrev pub GoOn : List ℕ → (hgatp root va left table : ℕ) → Entries → Type 0
GoOn tables hgatp root va left table entries = (r : Region) → r.tables ≡ tables → Above left (IsThere r) entries → (grants : ℕ → Bool) (other : ℕ) → other / page_size ≡ va / page_size
    → walk (entry_through r hgatp) grants (indices_of 3 other) root other ≡ walk (entry_through r hgatp) grants (indices_of left other) table other

reads : (r : Region) (hgatp gpa : ℕ) (seen : Entry) → walk_guest r hgatp gpa Load ≡ Some seen.at → IsThere r seen → entry_through r hgatp gpa ≡ Some seen.word
reads r hgatp gpa seen walked there = entry_found r hgatp gpa seen.at walked ∙ ap Some there

pub goes_on : (tables : List ℕ) (hgatp root va left below table index next : ℕ) (entries : Entries) (seen : Entry) → left ≡ suc below → below < 3
    → index ≡ bits va (12 + 9 * below) (21 + 9 * below) → LeadsTo tables hgatp (table + 8 * index) seen → is_pointer seen.word ≡ true → next ≡ entry_page seen.word
    → GoOn tables hgatp root va left table entries → GoOn tables hgatp root va below next (with_entry below entries seen)
goes_on tables hgatp root va left below table index next entries seen more few is leads pointer named before = λ r same there grants other page.
    let parts = with_less (IsThere r) left below entries seen more few there in
    before r same parts.0 grants other page
    ∙ walk_pointer (entry_through r hgatp) grants left below table other (table + 8 * index) seen.word next
    (first_at left below table other index more (is ∙ same_index va other below few (sym page)))
    (reads r hgatp (table + 8 * index) seen (leads r same) parts.1) pointer named

pub ends_there : (tables : List ℕ) (hgatp root va left below table index : ℕ) (entries : Entries) (seen : Entry) → left ≡ suc below → below < 3
    → index ≡ bits va (12 + 9 * below) (21 + 9 * below) → LeadsTo tables hgatp (table + 8 * index) seen → is_pointer seen.word ≡ false
    → GoOn tables hgatp root va left table entries → EndsAt tables hgatp root va (with_entry below entries seen) below seen.word
ends_there tables hgatp root va left below table index entries seen more few is leads pointer before = record {
  few = few;
  ends = λ r same there grants other page.
      let parts = with_less (IsThere r) left below entries seen more few (with_few (IsThere r) below entries seen few there) in
      before r same parts.0 grants other page
      ∙ walk_ends (entry_through r hgatp) grants left below table other (table + 8 * index) seen.word
      (first_at left below table other index more (is ∙ same_index va other below few (sym page)))
      (reads r hgatp (table + 8 * index) seen (leads r same) parts.1) pointer;
}

-- ---- where the walk leads nowhere

-- what stands above was read where it stands now
here : (r : Region) (hgatp root va left table : ℕ) (entries : Entries) → Above left (IsThere r) entries → GoOn r.tables hgatp root va left table entries
    → (grants : ℕ → Bool) → walk (entry_through r hgatp) grants (indices_of 3 va) root va ≡ walk (entry_through r hgatp) grants (indices_of left va) table va
here r hgatp root va left table entries there before grants = before r refl there grants va refl

-- an entry can't be read
pub nowhere_unread : (r : Region) (hgatp root va left below table index : ℕ) (entries : Entries) → left ≡ suc below → index ≡ bits va (12 + 9 * below) (21 + 9 * below)
    → walk_guest r hgatp (table + 8 * index) Load ≡ None → Above left (IsThere r) entries → GoOn r.tables hgatp root va left table entries → LeadsNowhere r hgatp root va
nowhere_unread r hgatp root va left below table index entries more is missing there before grants =
    ap address_at (here r hgatp root va left table entries there before grants
    ∙ walk_unreadable (entry_through r hgatp) grants left below table va (table + 8 * index) (first_at left below table va index more is)
    (entry_missing r hgatp (table + 8 * index) missing))

-- no level is left
pub nowhere_over : (r : Region) (hgatp root va left table : ℕ) (entries : Entries) → left ≡ 0 → Above left (IsThere r) entries → GoOn r.tables hgatp root va left table entries
    → LeadsNowhere r hgatp root va
nowhere_over r hgatp root va left table entries none there before grants =
    ap address_at (here r hgatp root va left table entries there before grants ∙ walk_over (entry_through r hgatp) grants left table va none)
