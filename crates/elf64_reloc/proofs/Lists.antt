-- Lists that grow by one step.
use Rattle.std.proofs.Common.{◌≡◌, ℕ, zero, suc, ◌+◌, ◌-◌, ◌<◌, ◌≤◌, Bool, true, false, cond, ◌≢◌, ◌%◌, ◌&&◌, ◌||◌, List, [], ◌∷◌, ◌++◌}
use Rattle.std.proofs.Common.{length, drop, get_or, Option, Some, Ok, refl, ap, sym, ◌∙◌, arith, append_assoc}
use Rattle.spec_processor.specs.Bytes.{page_size}
use Rattle.std.specs.Prelude.{◌==◌, nat_le, if◌then◌else◌, find}
use Rattle.std.specs.BTreeMap.{insert_entry}
use Rattle.std.specs.Ordering.{nat_cmp}
use Rattle.std.proofs.lemmas.Bool.{and_parts, eqb-false}
use Rattle.std.proofs.lemmas.Bool.Decides.{nat_tests}
use Rattle.std.specs.List.{list_all, position_from}
use Rattle.std.specs.Str.{bytes_eq}
use Rattle.std.proofs.lemmas.List.{append-nil, drop_more}
use Rattle.sv_types.specs.declared.policy.Export.{Export}
use Rattle.sv_types.specs.declared.module.Site.{Site}
use Rattle.sv_types.specs.Steps.{◌>>=◌}
use Rattle.elf64_load.specs.declared.sections.sections.SectionHeader.{SectionHeader}
use Rattle.elf64_reloc.specs.Layouts.{padding, placed_after, placed_from, placed_sections, ends_after, ends_from}
use Rattle.elf64_reloc.specs.Modules.{Judging, ordered_from, each_judged, fields_judged, found_sites, is_high_at, sites_of, text_behind, text_from}
use Rattle.elf64_reloc.specs.Objects.{Object}
use Rattle.elf64_reloc.specs.Refusals.{Judged}
use Rattle.elf64_reloc.specs.Symbols.{export_base}
use Rattle.elf64_reloc.specs.Relocations.{all_relocations, unless_relax, kept_at, relocation_at, relocations_from}
use Rattle.elf64_reloc.specs.declared.layout.Ends.{Ends}
use Rattle.elf64_reloc.specs.declared.layout.PlacedSection.{PlacedSection}
use Rattle.elf64_reloc.specs.declared.relocations.Relocation.{Relocation}
use Rattle.elf64_reloc.specs.declared.sites.Found.{Found}

relocations_more : (home : PlacedSection) (bytes : List ℕ) (i n m : ℕ) → n ≡ suc m → relocations_from home bytes i n ≡ kept_at home bytes i ++ relocations_from home bytes (i + 1) m
relocations_more home bytes i n m more = rw more refl

-- one relocation more
pub relocation_pushed : (home : PlacedSection) (bytes : List ℕ) (i n m : ℕ) (r : Relocation) (before after : List Relocation) → n ≡ suc m
    → r ≡ relocation_at home bytes i → after ≡ before ++ unless_relax r
    → after ++ relocations_from home bytes (i + 1) m ≡ before ++ relocations_from home bytes i n
relocation_pushed home bytes i n m r before after more is pushed =
    ap (λ (rs : List Relocation). rs ++ relocations_from home bytes (i + 1) m) (pushed ∙ ap (λ (q : Relocation). before ++ unless_relax q) is)
    ∙ append_assoc before (kept_at home bytes i) (relocations_from home bytes (i + 1) m)
    ∙ ap (λ (rs : List Relocation). before ++ rs) (sym (relocations_more home bytes i n m more))

pub none_left : (home : PlacedSection) (bytes : List ℕ) (i n : ℕ) (rs : List Relocation) → n ≡ 0 → rs ≡ rs ++ relocations_from home bytes i n
none_left home bytes i n rs none = rw none (sym (append-nil rs))

-- one export more in front
pub base_before : (exports : List Export) (name key : List ℕ) (i j v : ℕ) (e : Export) (before after : Option ℕ) → i ≡ j + 1 → j < length exports
    → e ≡ get_or exports j e → key ≡ e.name → v ≡ 3 + j
    → before ≡ position_from (λ x. bytes_eq x.name name) (3 + i) (drop i exports) → after ≡ cond (bytes_eq key name) (Some v) before
    → after ≡ position_from (λ x. bytes_eq x.name name) (3 + j) (drop j exports)
base_before exports name key i j v e before after next within is named numbered so_far now =
    let test : Export → Bool = λ (x : Export). bytes_eq x.name name in
    let front : drop j exports ≡ e ∷ drop (j + 1) exports = drop_more exports j e within ∙ ap (λ (x : Export). x ∷ drop (j + 1) exports) (sym is) in
    let behind : 3 + j + 1 ≡ 3 + i = omega arith in
    let rest : before ≡ position_from test (3 + j + 1) (drop (j + 1) exports) =
    so_far ∙ ap (λ (k : ℕ). position_from test k (drop i exports)) (sym behind) ∙ ap (λ (k : ℕ). position_from test (3 + j + 1) (drop k exports)) next in
    now
    ∙ ap (λ (k : List ℕ). cond (bytes_eq k name) (Some v) before) named
    ∙ ap (λ (k : ℕ). cond (bytes_eq e.name name) (Some k) before) numbered
    ∙ ap (λ (o : Option ℕ). cond (bytes_eq e.name name) (Some (3 + j)) o) rest
    ∙ ap (λ (xs : List Export). position_from test (3 + j) xs) (sym front)

-- one field more in the order of the places
pub order_more : (entries new : List (ℕ × Site)) (sites : List Site) (i : ℕ) (d : Site) → i < length sites
    → new ≡ insert_entry nat_cmp entries (get_or sites i d).offset (get_or sites i d)
    → ordered_from new (drop (i + 1) sites) ≡ ordered_from entries (drop i sites)
order_more entries new sites i d within now =
    ap (λ (es : List (ℕ × Site)). ordered_from es (drop (i + 1) sites)) now
    ∙ ap (λ (l : List Site). ordered_from entries l) (sym (drop_more sites i d within))

-- what is true of all elements is true of one
pub all_at : {A : Type 0} (test : A → Bool) (xs : List A) (i : ℕ) (d : A) → i < length xs → list_all test xs ≡ true → test (get_or xs i d) ≡ true
all_at test [] i d within all = absurd (omega arith)
all_at test (x ∷ xs) zero d within all = (and_parts (test x) (list_all test xs) all).0
all_at test (x ∷ xs) (suc i) d within all = all_at test xs i d (omega arith) (and_parts (test x) (list_all test xs) all).1

-- one section more after those that have their places
pub placed_more : (before new : List PlacedSection) (ends after : Ends) (placed : PlacedSection) (sections : List SectionHeader) (i : ℕ) (d : SectionHeader) → i < length sections
    → new ≡ before ++ placed ∷ [] → placed ≡ placed_after ends (get_or sections i d) → after ≡ ends_after ends (get_or sections i d)
    → new ++ placed_from after (drop (i + 1) sections) ≡ before ++ placed_from ends (drop i sections)
placed_more before new ends after placed sections i d within now is moved =
    let section = get_or sections i d in
    let rest = drop (i + 1) sections in
    ap (λ (ps : List PlacedSection). ps ++ placed_from after rest) (now ∙ ap (λ (p : PlacedSection). before ++ p ∷ []) is)
    ∙ append_assoc before (placed_after ends section ∷ []) (placed_from after rest)
    ∙ ap (λ (e : Ends). before ++ placed_after ends section ∷ placed_from e rest) moved
    ∙ ap (λ (l : List SectionHeader). before ++ placed_from ends l) (sym (drop_more sections i d within))

pub ends_more : (ends after : Ends) (sections : List SectionHeader) (i : ℕ) (d : SectionHeader) → i < length sections
    → after ≡ ends_after ends (get_or sections i d)
    → ends_from after (drop (i + 1) sections) ≡ ends_from ends (drop i sections)
ends_more ends after sections i d within moved =
    ap (λ (e : Ends). ends_from e (drop (i + 1) sections)) moved
    ∙ ap (λ (l : List SectionHeader). ends_from ends l) (sym (drop_more sections i d within))

-- one section of text more
pub text_more : (file text new : List ℕ) (sections : List SectionHeader) (i : ℕ) (d : SectionHeader) → i < length sections
    → new ≡ text_behind file text (get_or sections i d)
    → text_from file new (drop (i + 1) sections) ≡ text_from file text (drop i sections)
text_more file text new sections i d within now =
    ap (λ (t : List ℕ). text_from file t (drop (i + 1) sections)) now
    ∙ ap (λ (l : List SectionHeader). text_from file text l) (sym (drop_more sections i d within))

-- one relocation more that is judged
pub judged_more : (j : Judging) (sites new : List Site) (found : Found) (relocations : List Relocation) (i : ℕ) (d : Relocation) → i < length relocations
    → fields_judged j (get_or relocations i d) ≡ Ok found → new ≡ sites ++ found_sites found
    → each_judged j new (drop (i + 1) relocations) ≡ each_judged j sites (drop i relocations)
judged_more j sites new found relocations i d within good now =
    let rest = drop (i + 1) relocations in
    ap (λ (ss : List Site). each_judged j ss rest) now
    ∙ ap (λ (judged : Judged Found). judged >>= λ f. each_judged j (sites ++ found_sites f) rest) (sym good)
    ∙ ap (λ (rs : List Relocation). each_judged j sites rs) (sym (drop_more relocations i d within))

-- zeros in front of a section are at most a page
small : (b : Bool) (a x : ℕ) → (a == 0) ≡ b → (b || (nat_le a page_size && page_size % a == 0)) ≡ true → (if b then 0 else x % a) ≤ page_size
small true a x e good = omega arith
small false a x e good =
    let some : a ≢ 0 = eqb-false a 0 e in
    let most = and_parts (nat_le a page_size) (page_size % a == 0) good in
    grind (arith, nat_tests)

pub padding_small : (end a : ℕ) → (a == 0 || (nat_le a page_size && page_size % a == 0)) ≡ true → padding end a ≤ page_size
padding_small end a good = small (a == 0) a (a - end % a) refl good

-- what relocations are judged by, from the tables
pub judging_same : (o : Object) (exports : List Export) (placed : List PlacedSection) (rs : List Relocation) (bases : List ℕ → Option ℕ) (highs : ℕ → Option Relocation)
    → placed ≡ placed_sections o.sections → rs ≡ all_relocations o.file placed o.sections
    → ((name : List ℕ) → bases name ≡ export_base exports name) → ((place : ℕ) → highs place ≡ find (is_high_at place) rs)
    → each_judged (record { names = record { tables = o.tables; placed = placed; base_of = bases }; high_at = highs }) [] rs ≡ sites_of exports o
judging_same o exports placed rs bases highs at all names first =
    let named : bases ≡ (λ name. export_base exports name) = λ i name. names name i in
    let found : highs ≡ (λ place. find (is_high_at place) rs) = λ i place. first place i in
    rw (named, found, all, at) refl
