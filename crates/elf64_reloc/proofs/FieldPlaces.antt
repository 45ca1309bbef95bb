-- Relocations that are judged good stand in the text, at instructions. So do their fields and the anchors of these, each
-- field at a multiple of its bytes, and their bases are there.
use Rattle.std.proofs.Common.{◌≡◌, ℕ, suc, ◌+◌, ◌*◌, ◌%◌, ◌^◌, ◌<◌, ◌≤◌, Bool, true, false, cond, List, [], ◌∷◌, ◌++◌, length, Option, Some, None, Ok, Err, refl, sym, subst, ◌∙◌, arith}
use Rattle.spec_processor.specs.Bytes.{page_size}
use Rattle.std.specs.Prelude.{◌&&◌, ◌||◌, ◌==◌, nat_le, nat_lt, if◌then◌else◌, find, slice_get}
use Rattle.std.specs.List.{position_from}
use Rattle.std.specs.Str.{bytes_eq}
use Rattle.std.proofs.lemmas.Bool.{eqb-true, eq-eqb, or_left, or_right}
use Rattle.std.proofs.lemmas.Bool.Decides.{nat_tests}
use Rattle.spec_processor.specs.Effects.{plus}
use Rattle.sv_types.specs.Policies.{site_size, is_low_part}
use Rattle.sv_types.specs.declared.module.Site.{Site}
use Rattle.sv_types.specs.declared.policy.Export.{Export}
use Rattle.sv_types.specs.declared.relocation_kind.RelocationKind.{RelocationKind}
use Rattle.sv_types.specs.declared.relocation_kind.RelocationKind.TheVariants.{Word64, Branch, Jal, PcrelHi20, PcrelLo12I, PcrelLo12S, Hi20, Lo12I, Lo12S}
use Rattle.sv_types.specs.Steps.{◌>>=◌}
use Rattle.elf64_load.specs.Sections.{symbol_count, symbol_at, name_at}
use Rattle.elf64_load.specs.declared.sections.tables.Symbol.{Symbol}
use Rattle.elf64_load.proofs.Steps.{ok_same}
use Rattle.elf64_reloc.specs.Asking.{asked_of, asked_bytes, place_alignment}
use Rattle.elf64_reloc.specs.Modules.{Judging, site_at, or_nothing, low_fields, fields_for, fields_with, fields_asked, fields_judged}
use Rattle.elf64_reloc.specs.Modules.{found_sites, each_judged, call_fields, one_field, judging_of, is_high_at, relocations_of_object}
use Rattle.elf64_reloc.specs.Modules.{sites_of}
use Rattle.elf64_reloc.specs.Objects.{Object}
use Rattle.elf64_reloc.specs.Refusals.{Judged}
use Rattle.elf64_reloc.specs.Symbols.{Names, symbol_target, target_of, section_target, space_target, wanted_target, target_at_base}
use Rattle.elf64_reloc.specs.declared.asked.Asked.{Asked}
use Rattle.elf64_reloc.specs.declared.asked.Asked.TheVariants.{Field, Call}
use Rattle.elf64_reloc.specs.declared.fault.ObjectFault.{ObjectFault}
use Rattle.elf64_reloc.specs.declared.layout.PlacedSection.{PlacedSection}
use Rattle.elf64_reloc.specs.declared.layout.Space.{Space}
use Rattle.elf64_reloc.specs.declared.layout.Space.TheVariants.{Text, Data, Elsewhere}
use Rattle.elf64_reloc.specs.declared.relocations.Relocation.{Relocation}
use Rattle.elf64_reloc.specs.declared.sites.Found.{Found}
use Rattle.elf64_reloc.specs.declared.symbols.Target.{Target}
use Rattle.elf64_reloc.proofs.TextPlaces.{Each, each_append, IfThere, IsOfText}

-- ---- places

-- an instruction of the text begins there
pub record IsPlace (total place : ℕ) : Type 0 where
  pub below : place < total
  pub whole : place % 4 ≡ 0

-- a field of the text, alongside so many exports
pub record IsSiteOf (total exports : ℕ) (site : Site) : Type 0 where
  pub place : IsPlace total site.offset
  pub aligned : site.offset % site_size site.kind ≡ 0
  pub base : site.base < 3 + exports
  pub anchor : IsPlace total site.anchor
  pub own : (is_low_part site.kind || site.anchor == site.offset) ≡ true

same_place : (place : ℕ) → place < page_size * 1024 → place % 2 ^ 32 ≡ place
same_place place small = omega arith

site_made : (total exports place : ℕ) (kind : RelocationKind) (t : Target) (addend anchor : ℕ) → total ≤ page_size * 1024 → IsPlace total place → place % site_size kind ≡ 0
    → t.base < 3 + exports → IsPlace total anchor → (is_low_part kind || anchor == place) ≡ true → IsSiteOf total exports (site_at place kind t addend anchor)
site_made total exports place kind t addend anchor most at aligned based held own =
    let below = at.below in
    let anchored = held.below in
    let same : place % 2 ^ 32 ≡ place = same_place place (omega (arith, below, most)) in
    let same_anchor : anchor % 2 ^ 32 ≡ anchor = same_place anchor (omega (arith, anchored, most)) in
    let own_anchor : (is_low_part kind || anchor % 2 ^ 32 == place) ≡ true = subst (λ (n : ℕ). (is_low_part kind || n == place) ≡ true) (sym same_anchor) own in
    record {
      place = subst (IsPlace total) (sym same) at;
      aligned = subst (λ (n : ℕ). n % site_size kind ≡ 0) (sym same) aligned;
      base = based;
      anchor = subst (IsPlace total) (sym same_anchor) held;
      own = subst (λ (n : ℕ). (is_low_part kind || anchor % 2 ^ 32 == n) ≡ true) (sym same) own_anchor;
    }

-- ---- a relocation that is judged good

record IsJudged (total : ℕ) (j : Judging) (r : Relocation) (f : Found) : Type 0 where
  asked : Asked
  target : Target
  symbol : symbol_target j.names r.symbol ≡ Some target
  aligned : r.place % place_alignment (Some asked) ≡ 0
  fits : r.place + asked_bytes asked ≤ total
  fields : fields_for j r asked target ≡ Ok f

-- where a relocation's fields are inside their section, they are inside the text
inside_text : (total home place offset size bytes : ℕ) → home + size ≤ total → place ≡ (home + offset) % 2 ^ 64 → offset + bytes ≤ size → total ≤ page_size * 1024 → place + bytes ≤ total
inside_text total home place offset size bytes inside is fits most =
    let whole : (home + offset) % 2 ^ 64 ≡ home + offset = omega arith in
    omega (arith, is ∙ whole)

inside_by : (total : ℕ) (j : Judging) (r : Relocation) (asked : Asked) (t : Target) (outside : Bool) (f : Found) → nat_lt r.size (r.offset + asked_bytes asked) ≡ outside
    → (if outside then Err ObjectFault.OutsideSection else fields_for j r asked t) ≡ Ok f → symbol_target j.names r.symbol ≡ Some t → IsOfText total r → total ≤ page_size * 1024
    → r.place % place_alignment (Some asked) ≡ 0 → IsJudged total j r f
inside_by total j r asked t true f test is symbol of most aligned = absurd (cc is)
inside_by total j r asked t false f test is symbol of most aligned =
    let fits : r.offset + asked_bytes asked ≤ r.size = grind (arith, nat_tests) in
    record {
      asked = asked;
      target = t;
      symbol = symbol;
      aligned = aligned;
      fits = inside_text total of.home r.place r.offset r.size (asked_bytes asked) of.inside of.place fits most;
      fields = is;
    }

target_by : (total : ℕ) (j : Judging) (r : Relocation) (asked : Asked) (target : Option Target) (f : Found) → symbol_target j.names r.symbol ≡ target → fields_with j r asked target ≡ Ok f
    → IsOfText total r → total ≤ page_size * 1024 → r.place % place_alignment (Some asked) ≡ 0 → IsJudged total j r f
target_by total j r asked None f symbol is of most aligned = absurd (cc is)
target_by total j r asked (Some t) f symbol is of most aligned = inside_by total j r asked t (nat_lt r.size (r.offset + asked_bytes asked)) f refl is symbol of most aligned

listed_by : (total : ℕ) (j : Judging) (r : Relocation) (asked : Option Asked) (f : Found) → fields_asked j r asked ≡ Ok f → IsOfText total r → total ≤ page_size * 1024
    → r.place % place_alignment asked ≡ 0 → IsJudged total j r f
listed_by total j r None f is of most aligned = absurd (cc is)
listed_by total j r (Some asked) f is of most aligned = target_by total j r asked (symbol_target j.names r.symbol) f refl is of most aligned

aligned_by : (total : ℕ) (j : Judging) (r : Relocation) (asked : Option Asked) (whole : Bool) (f : Found) → (r.place % place_alignment asked == 0) ≡ whole
    → (if whole then fields_asked j r asked else Err ObjectFault.Alignment) ≡ Ok f → IsOfText total r → total ≤ page_size * 1024 → IsJudged total j r f
aligned_by total j r asked true f test is of most = listed_by total j r asked f is of most (eqb-true (r.place % place_alignment asked) 0 test)
aligned_by total j r asked false f test is of most = absurd (cc is)

is_judged : (total : ℕ) (j : Judging) (r : Relocation) (f : Found) → fields_judged j r ≡ Ok f → IsOfText total r → total ≤ page_size * 1024 → IsJudged total j r f
unfolding fields_judged
is_judged total j r f is of most = aligned_by total j r (asked_of r.kind) (r.place % place_alignment (asked_of r.kind) == 0) f refl is of most

some_bytes : (kind : RelocationKind) → 0 < site_size kind
some_bytes Word64 = omega arith
some_bytes Branch = omega arith
some_bytes Jal = omega arith
some_bytes PcrelHi20 = omega arith
some_bytes PcrelLo12I = omega arith
some_bytes PcrelLo12S = omega arith
some_bytes Hi20 = omega arith
some_bytes Lo12I = omega arith
some_bytes Lo12S = omega arith

four : (kind : RelocationKind) (n : ℕ) → n % site_size kind ≡ 0 → n % 4 ≡ 0
four Word64 n aligned = omega arith
four Branch n aligned = aligned
four Jal n aligned = aligned
four PcrelHi20 n aligned = aligned
four PcrelLo12I n aligned = aligned
four PcrelLo12S n aligned = aligned
four Hi20 n aligned = aligned
four Lo12I n aligned = aligned
four Lo12S n aligned = aligned

asked_place : (total place : ℕ) (asked : Asked) → place % place_alignment (Some asked) ≡ 0 → place + asked_bytes asked ≤ total → IsPlace total place
asked_place total place Call aligned fits = record { below = omega (arith, fits); whole = aligned }
asked_place total place (Field kind) aligned fits =
    let some = some_bytes kind in record { below = omega (arith, some, fits); whole = four kind place aligned }

judged_place : (total : ℕ) (j : Judging) (r : Relocation) (f : Found) → IsJudged total j r f → IsPlace total r.place
judged_place total j r f judged = asked_place total r.place judged.asked judged.aligned judged.fits

-- ---- its fields

abbrev HasBase : ℕ → Target → Type 0
HasBase exports t = t.base < 3 + exports

abbrev IsPlaced : ℕ → Relocation → Type 0
IsPlaced total r = IsPlace total r.place

-- symbols have bases that there are, and high parts stand in the text
record IsSound (total exports : ℕ) (j : Judging) : Type 0 where
  bases : (symbol : ℕ) → IfThere (HasBase exports) (symbol_target j.names symbol)
  highs : (place : ℕ) → IfThere (IsPlaced total) (j.high_at place)

next_bit : (total place : ℕ) → place + 8 ≤ total → total ≤ page_size * 1024 → (place + 4) % 2 ^ 64 ≡ place + 4
next_bit total place fits most = omega arith

four_more : (place : ℕ) → place % 4 ≡ 0 → (place + 4) % 4 ≡ 0
four_more place aligned = omega arith

call_sites : (total exports : ℕ) (r : Relocation) (t : Target) → r.place + 8 ≤ total → total ≤ page_size * 1024 → r.place % 4 ≡ 0 → HasBase exports t
    → Each (IsSiteOf total exports) (found_sites (call_fields r t))
call_sites total exports r t fits most aligned based =
    let next : plus r.place 4 ≡ r.place + 4 = next_bit total r.place fits most in
    let at : IsPlace total r.place = record { below = omega (arith, fits); whole = aligned } in
    let at_next : IsPlace total (plus r.place 4) = subst (IsPlace total) (sym next) (record { below = omega (arith, fits); whole = four_more r.place aligned }) in (
      site_made total exports r.place PcrelHi20 t r.addend r.place most at aligned based at (eq-eqb r.place r.place refl),
      (site_made total exports (plus r.place 4) PcrelLo12I t r.addend r.place most at_next at_next.whole based at refl, tt),
    )

some_base : (exports : ℕ) (o : Option Target) → IfThere (HasBase exports) o → HasBase exports (or_nothing o)
some_base exports None based = omega arith
some_base exports (Some t) based = based

low_sites : (total exports : ℕ) (j : Judging) (r : Relocation) (kind : RelocationKind) (high : Option Relocation) (f : Found) → IsSound total exports j → low_fields j r kind high ≡ Ok f
    → is_low_part kind ≡ true → IfThere (IsPlaced total) high → IsPlace total r.place → total ≤ page_size * 1024 → r.place % site_size kind ≡ 0 → Each (IsSiteOf total exports) (found_sites f)
low_sites total exports j r kind None f sound is low held at most aligned = absurd (cc is)
low_sites total exports j r kind (Some high) f sound is low held at most aligned =
    let target : Target = or_nothing (symbol_target j.names high.symbol) in
    let based : HasBase exports target = some_base exports (symbol_target j.names high.symbol) (sound.bases high.symbol) in
    subst (λ (x : Found). Each (IsSiteOf total exports) (found_sites x)) (ok_same (one_field (site_at r.place kind target high.addend high.place)) f is)
    (site_made total exports r.place kind target high.addend high.place most at aligned based held (or_left (is_low_part kind) (high.place == r.place) low), tt)

low_by : (total exports : ℕ) (j : Judging) (r : Relocation) (kind : RelocationKind) (plain : Bool) (high : Option Relocation) (f : Found) → IsSound total exports j
    → (if plain then low_fields j r kind high else Err ObjectFault.NoHighPart) ≡ Ok f → is_low_part kind ≡ true → IfThere (IsPlaced total) high → IsPlace total r.place → total ≤ page_size * 1024
    → r.place % site_size kind ≡ 0 → Each (IsSiteOf total exports) (found_sites f)
low_by total exports j r kind true high f sound is low held at most aligned = low_sites total exports j r kind high f sound is low held at most aligned
low_by total exports j r kind false high f sound is low held at most aligned = absurd (cc is)

field_by : (total exports : ℕ) (j : Judging) (r : Relocation) (kind : RelocationKind) (t : Target) (low : Bool) (f : Found) → IsSound total exports j → is_low_part kind ≡ low
    → (if low then (if r.addend == 0 && t.base == 0 then low_fields j r kind (j.high_at t.value) else Err ObjectFault.NoHighPart) else Ok (one_field (site_at r.place kind t r.addend r.place))) ≡ Ok f
    → HasBase exports t → IsPlace total r.place → total ≤ page_size * 1024 → r.place % site_size kind ≡ 0 → Each (IsSiteOf total exports) (found_sites f)
field_by total exports j r kind t true f sound low is based at most aligned =
    low_by total exports j r kind (r.addend == 0 && t.base == 0) (j.high_at t.value) f sound is low (sound.highs t.value) at most aligned
field_by total exports j r kind t false f sound low is based at most aligned =
    subst (λ (x : Found). Each (IsSiteOf total exports) (found_sites x)) (ok_same (one_field (site_at r.place kind t r.addend r.place)) f is)
    (site_made total exports r.place kind t r.addend r.place most at aligned based at (or_right (is_low_part kind) (r.place == r.place) (eq-eqb r.place r.place refl)), tt)

asked_sites : (total exports : ℕ) (j : Judging) (r : Relocation) (asked : Asked) (t : Target) (f : Found) → IsSound total exports j → fields_for j r asked t ≡ Ok f
    → HasBase exports t → IsPlace total r.place → r.place + asked_bytes asked ≤ total → total ≤ page_size * 1024 → r.place % place_alignment (Some asked) ≡ 0 →
    Each (IsSiteOf total exports) (found_sites f)
asked_sites total exports j r Call t f sound is based at fits most aligned =
    subst (λ (x : Found). Each (IsSiteOf total exports) (found_sites x)) (ok_same (call_fields r t) f is) (call_sites total exports r t fits most aligned based)
asked_sites total exports j r (Field kind) t f sound is based at fits most aligned = field_by total exports j r kind t (is_low_part kind) f sound refl is based at most aligned

judged_sites : (total exports : ℕ) (j : Judging) (r : Relocation) (f : Found) → IsSound total exports j → total ≤ page_size * 1024 → IsJudged total j r f →
    Each (IsSiteOf total exports) (found_sites f)
judged_sites total exports j r f sound most judged =
    asked_sites total exports j r judged.asked judged.target f sound judged.fields (subst (IfThere (HasBase exports)) judged.symbol (sound.bases r.symbol))
    (judged_place total j r f judged) judged.fits most
    judged.aligned

-- ---- all relocations

places_by : (total : ℕ) (j : Judging) (r : Relocation) (rs : List Relocation) (before sites : List Site) (judged : Judged Found) → fields_judged j r ≡ judged
    → (judged >>= λ f. each_judged j (before ++ found_sites f) rs) ≡ Ok sites → IsOfText total r → total ≤ page_size * 1024
    → ((now : List Site) → each_judged j now rs ≡ Ok sites → Each (IsPlaced total) rs) → Each (IsPlaced total) (r ∷ rs)
places_by total j r rs before sites (Ok f) here is of most rest = (judged_place total j r f (is_judged total j r f here of most), rest (before ++ found_sites f) is)
places_by total j r rs before sites (Err fault) here is of most rest = absurd (cc is)

all_places : (total : ℕ) (j : Judging) (rs : List Relocation) (before sites : List Site) → each_judged j before rs ≡ Ok sites → Each (IsOfText total) rs →
    total ≤ page_size * 1024 → Each (IsPlaced total) rs
all_places total j [] before sites is of most = tt
all_places total j (r ∷ rs) before sites is of most =
    places_by total j r rs before sites (fields_judged j r) refl is of.0 most (λ now more. all_places total j rs now sites more of.1 most)

sites_by : (total exports : ℕ) (j : Judging) (r : Relocation) (rs : List Relocation) (before sites : List Site) (judged : Judged Found) → IsSound total exports j → fields_judged j r ≡ judged
    → (judged >>= λ f. each_judged j (before ++ found_sites f) rs) ≡ Ok sites → IsOfText total r → total ≤ page_size * 1024 → Each (IsSiteOf total exports) before
    → ((now : List Site) → each_judged j now rs ≡ Ok sites → Each (IsSiteOf total exports) now → Each (IsSiteOf total exports) sites) → Each (IsSiteOf total exports) sites
sites_by total exports j r rs before sites (Ok f) sound here is of most good rest =
    rest (before ++ found_sites f) is (each_append (IsSiteOf total exports) before (found_sites f) good (judged_sites total exports j r f sound most (is_judged total j r f here of most)))
sites_by total exports j r rs before sites (Err fault) sound here is of most good rest = absurd (cc is)

all_sites : (total exports : ℕ) (j : Judging) (rs : List Relocation) (before sites : List Site) → IsSound total exports j → each_judged j before rs ≡ Ok sites → Each (IsOfText total) rs
    → total ≤ page_size * 1024 → Each (IsSiteOf total exports) before → Each (IsSiteOf total exports) sites
all_sites total exports j [] before sites sound is of most good = subst (Each (IsSiteOf total exports)) (ok_same before sites is) good
all_sites total exports j (r ∷ rs) before sites sound is of most good =
    sites_by total exports j r rs before sites (fields_judged j r) sound refl is of.0 most good (λ now more still. all_sites total exports j rs now sites sound more of.1 most still)

-- ---- what an object's relocations are judged by

found_by : {A : Type 0} (P : A → Type 0) (here : Bool) (x : A) (rest : Option A) → P x → IfThere P rest → IfThere P (if here then Some x else rest)
found_by P true x rest first more = first
found_by P false x rest first more = more

each_found : {A : Type 0} (P : A → Type 0) (test : A → Bool) (xs : List A) → Each P xs → IfThere P (find test xs)
each_found P test [] each = tt
each_found P test (x ∷ xs) each = found_by P (test x) x (find test xs) each.0 (each_found P test xs each.1)

later : (first n : ℕ) (rest : Option ℕ) → IfThere (λ k. k < first + 1 + n) rest → IfThere (λ k. k < first + suc n) rest
later first n None below = tt
later first n (Some k) below = omega (arith, below)

position_by : (here : Bool) (first n : ℕ) (rest : Option ℕ) → IfThere (λ k. k < first + suc n) rest → IfThere (λ k. k < first + suc n) (cond here (Some first) rest)
position_by true first n rest below = omega arith
position_by false first n rest below = below

position_below : {A : Type 0} (test : A → Bool) (first : ℕ) (xs : List A) → IfThere (λ k. k < first + length xs) (position_from test first xs)
position_below test first [] = tt
position_below test first (x ∷ xs) =
    position_by (test x) first (length xs) (position_from test (first + 1) xs)
    (later first (length xs) (position_from test (first + 1) xs) (position_below test (first + 1) xs))

at_base : (exports : ℕ) (o : Option ℕ) → IfThere (λ base. base < 3 + exports) o → IfThere (HasBase exports) (target_at_base o)
at_base exports None below = tt
at_base exports (Some base) below = below

abbrev AreBases : ℕ → Names → Type 0
AreBases exports names = (name : List ℕ) → IfThere (λ base. base < 3 + exports) (names.base_of name)

wanted_base : (exports : ℕ) (names : Names) → AreBases exports names → (name : Option (List ℕ)) → IfThere (HasBase exports) (wanted_target names.base_of name)
wanted_base exports names bases None = tt
wanted_base exports names bases (Some name) = at_base exports (names.base_of name) (bases name)

space_base : (exports : ℕ) (space : Space) (place value : ℕ) → IfThere (HasBase exports) (space_target space place value)
space_base exports Text place value = omega arith
space_base exports Data place value = omega arith
space_base exports Elsewhere place value = tt

section_base : (exports : ℕ) (section : Option PlacedSection) (value : ℕ) → IfThere (HasBase exports) (section_target section value)
section_base exports None value = tt
section_base exports (Some p) value = space_base exports p.space p.place value

target_base_by : (exports : ℕ) (names : Names) (s : Symbol) (wanted absolute reserved : Bool) → AreBases exports names
    → IfThere (HasBase exports)
    (if wanted then wanted_target names.base_of (name_at names.tables.strings s.name)
    else if absolute then Some (record { base = 2; value = s.value })
    else if reserved then None
    else section_target (slice_get names.placed s.section) s.value)
target_base_by exports names s true absolute reserved bases = wanted_base exports names bases (name_at names.tables.strings s.name)
target_base_by exports names s false true reserved bases = omega arith
target_base_by exports names s false false true bases = tt
target_base_by exports names s false false false bases = section_base exports (slice_get names.placed s.section) s.value

target_base : (exports : ℕ) (names : Names) (s : Symbol) → AreBases exports names → IfThere (HasBase exports) (target_of names s)
unfolding target_of
target_base exports names s bases = target_base_by exports names s (s.section == 0) (s.section == 0xFFF1) (nat_le 0xFF00 s.section) bases

symbol_base_by : (exports : ℕ) (names : Names) (i : ℕ) (there : Bool) → AreBases exports names
    → IfThere (HasBase exports) (if there then target_of names (symbol_at names.tables.symbols i) else None)
symbol_base_by exports names i true bases = target_base exports names (symbol_at names.tables.symbols i) bases
symbol_base_by exports names i false bases = tt

symbol_base : (exports : ℕ) (names : Names) (i : ℕ) → AreBases exports names → IfThere (HasBase exports) (symbol_target names i)
unfolding symbol_target
symbol_base exports names i bases = symbol_base_by exports names i (nat_lt i (symbol_count names.tables.symbols)) bases

judging_sound : (total : ℕ) (o : Object) (exports : List Export) → Each (IsPlaced total) (relocations_of_object o) → IsSound total (length exports) (judging_of o exports)
judging_sound total o exports placed = record {
  bases = λ symbol. symbol_base (length exports) (judging_of o exports).names symbol (λ name. position_below (λ (e : Export). bytes_eq e.name name) 3 exports);
  highs = λ place. each_found (IsPlaced total) (is_high_at place) (relocations_of_object o) placed;
}

-- the fields of an object's relocations are fields of its text
pub object_sites : (total : ℕ) (o : Object) (exports : List Export) (sites : List Site) → sites_of exports o ≡ Ok sites → Each (IsOfText total) (relocations_of_object o) → total ≤ page_size * 1024
    → Each (IsSiteOf total (length exports)) sites
object_sites total o exports sites is of most =
    let j : Judging = judging_of o exports in
    let placed = all_places total j (relocations_of_object o) [] sites is of most in
    all_sites total (length exports) j (relocations_of_object o) [] sites (judging_sound total o exports placed) is of most tt
