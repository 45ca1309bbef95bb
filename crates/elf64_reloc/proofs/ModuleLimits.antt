-- A module that is read is within the limits: its text is whole pages, at most 1,024, and its fields stand in it, in the
-- order of their places, under bases that there are.
use Rattle.std.proofs.Common.{◌≡◌, ℕ, ◌+◌, ◌-◌, ◌*◌, ◌/◌, ◌%◌, ◌^◌, ◌<◌, ◌≤◌, Bool, true, false, List, [], ◌∷◌, ◌++◌, length, map, Option}
use Rattle.std.proofs.Common.{Some, None, Ok, Err, Ordering, Less, Equal, Greater, refl, ap, sym, subst, ◌∙◌, arith, length-append}
use Rattle.spec_processor.specs.Bytes.{page_size}
use Rattle.std.specs.Prelude.{◌&&◌, ◌||◌, ◌==◌, nat_le, nat_lt, if◌then◌else◌, Result, IfOk, slice_get}
use Rattle.std.specs.BTreeMap.{insert_entry}
use Rattle.std.specs.List.{list_all}
use Rattle.std.specs.Ordering.{nat_cmp, match_ordering}
use Rattle.std.proofs.lemmas.Bool.{eq-eqb, or_parts, and_from}
use Rattle.std.proofs.lemmas.Bool.Decides.{nat_tests}
use Rattle.std.proofs.lemmas.List.{length-replicate, length-map}
use Rattle.sv_types.specs.ApprovedPages.{numbers_from}
use Rattle.sv_types.specs.Kernel.{first_refusal, file_checks}
use Rattle.sv_types.specs.Policies.{is_low_part, site_size, module_pages_within, sites_count_within, place_within, is_aligned, base_within}
use Rattle.sv_types.specs.Policies.{anchor_within, site_within, site_end, field_end, sites_end, is_after, next_site_within, each_within}
use Rattle.sv_types.specs.Policies.{sites_within}
use Rattle.sv_types.specs.declared.image_fault.HeaderFault.{HeaderFault}
use Rattle.sv_types.specs.declared.module.Site.{Site}
use Rattle.sv_types.specs.declared.policy.Export.{Export}
use Rattle.sv_types.specs.Steps.{◌>>=◌}
use Rattle.sv_types.proofs.PageNumbers.{numbers_length}
use Rattle.elf64_load.specs.Sections.{Tables, sections_in_file, sections_among, sections_of, sections_count, sections_place, section_at, tables_of}
use Rattle.elf64_load.proofs.Steps.{ok_same}
use Rattle.elf64_reloc.specs.Layouts.{is_good_alignment, padding, no_ends, placed_sections, text_size}
use Rattle.elf64_reloc.specs.Modules.{Module, ordered_from, ordered_sites, some_touch, is_too_large, fields_overlap, module_with, module_of}
use Rattle.elf64_reloc.specs.Modules.{module_judged, sites_of, text_of, text_from, whole_pages, zeros, pages_of, module_fits}
use Rattle.elf64_reloc.specs.ModuleViews.{module_view}
use Rattle.elf64_reloc.specs.Objects.{Object, is_good_part, object_with, object_of, object_after, object_judged}
use Rattle.elf64_reloc.specs.Refusals.{Judged}
use Rattle.elf64_reloc.specs.declared.fault.ObjectFault.{ObjectFault}
use Rattle.elf64_reloc.specs.declared.read.ModuleImage.{ModuleImage}
use Rattle.elf64_reloc.specs.declared.refusal.RelocRefusal.{RelocRefusal}
use Rattle.elf64_reloc.proofs.TextPlaces.{Each, all_good, text_length, all_inside, all_of_text}
use Rattle.elf64_reloc.proofs.FieldPlaces.{IsPlace, IsSiteOf, object_sites}

-- ---- in the order of their places

abbrev HasSite : (Site → Type 0) → ℕ × Site → Type 0
HasSite P e = P e.1

either : {A : Type 0} (P : A → Type 0) (o : Ordering) (xs ys zs : List A) → Each P xs → Each P ys → Each P zs → Each P (match_ordering o xs ys zs)
either P Less xs ys zs x y z = x
either P Equal xs ys zs x y z = y
either P Greater xs ys zs x y z = z

entry_put : (P : Site → Type 0) (entries : List (ℕ × Site)) (place : ℕ) (site : Site) → Each (HasSite P) entries → P site → Each (HasSite P) (insert_entry nat_cmp entries place site)
entry_put P [] place site all one = (one, tt)
entry_put P (e ∷ es) place site all one =
    either (HasSite P) (nat_cmp place e.0) ((place, site) ∷ e ∷ es) ((e.0, site) ∷ es) (e ∷ insert_entry nat_cmp es place site)
    (one, all) (one, all.1) (all.0, entry_put P es place site all.1 one)

entries_put : (P : Site → Type 0) (entries : List (ℕ × Site)) (sites : List Site) → Each (HasSite P) entries → Each P sites → Each (HasSite P) (ordered_from entries sites)
entries_put P entries [] all more = all
entries_put P entries (site ∷ sites) all more = entries_put P (insert_entry nat_cmp entries site.offset site) sites (entry_put P entries site.offset site all more.0) more.1

values_of : (P : Site → Type 0) (entries : List (ℕ × Site)) → Each (HasSite P) entries → Each P (map (λ e. e.1) entries)
values_of P [] all = tt
values_of P (e ∷ es) all = (all.0, values_of P es all.1)

each_ordered : (P : Site → Type 0) (sites : List Site) → Each P sites → Each P (ordered_sites sites)
each_ordered P sites all = values_of P (ordered_from [] sites) (entries_put P [] sites tt all)

-- there are no more of them

length_by : {A : Type 0} (o : Ordering) (xs ys zs : List A) (n : ℕ) → length xs ≤ n → length ys ≤ n → length zs ≤ n → length (match_ordering o xs ys zs) ≤ n
length_by Less xs ys zs n x y z = x
length_by Equal xs ys zs n x y z = y
length_by Greater xs ys zs n x y z = z

put_length : (entries : List (ℕ × Site)) (place : ℕ) (site : Site) → length (insert_entry nat_cmp entries place site) ≤ length entries + 1
put_length [] place site = omega arith
put_length (e ∷ es) place site =
    let rest = put_length es place site in
    length_by (nat_cmp place e.0) ((place, site) ∷ e ∷ es) ((e.0, site) ∷ es) (e ∷ insert_entry nat_cmp es place site) (length (e ∷ es) + 1)
    (omega arith) (omega arith) (omega (arith, rest))

from_length : (entries : List (ℕ × Site)) (sites : List Site) → length (ordered_from entries sites) ≤ length entries + length sites
from_length entries [] = omega arith
from_length entries (site ∷ sites) =
    let rest = from_length (insert_entry nat_cmp entries site.offset site) sites in
    let one = put_length entries site.offset site in
    omega (arith, rest, one)

ordered_length : (sites : List Site) → length (ordered_sites sites) ≤ length sites
ordered_length sites =
    let all = from_length [] sites in
    let most : length (ordered_from [] sites) ≤ length sites = omega (arith, all) in
    subst (λ (n : ℕ). n ≤ length sites) (sym (length-map (ordered_from [] sites) (λ (e : ℕ × Site). e.1))) most

-- ---- each after those before it

last_got : (before : List Site) (site : Site) → slice_get (before ++ site ∷ []) (length before) ≡ Some site
last_got [] site = refl
last_got (x ∷ xs) site = last_got xs site

end_of_last : (before : List Site) (site : Site) → sites_end (before ++ site ∷ []) ≡ field_end site
end_of_last before site =
    let long : length (before ++ site ∷ []) ≡ length before + 1 = length-append before (site ∷ []) in
    let last : length (before ++ site ∷ []) - 1 ≡ length before = omega (arith, long) in
    ap (λ (n : ℕ). site_end (slice_get (before ++ site ∷ []) n)) last ∙ ap site_end (last_got before site)

begins_after : (place end : ℕ) → nat_lt place end ≡ false → nat_le end place ≡ true
begins_after place end test = grind (arith, nat_tests)

in_order : (pages exports : ℕ) (before sites : List Site) → Each (λ site. site_within pages exports site ≡ true) sites → some_touch (sites_end before) sites ≡ false
    → each_within (next_site_within pages exports) before sites ≡ true
in_order pages exports before [] good apart = refl
in_order pages exports before (site ∷ sites) good apart =
    let tests = or_parts (nat_lt site.offset (sites_end before)) (some_touch (field_end site) sites) apart in
    let behind : is_after before site ≡ true = begins_after site.offset (sites_end before) tests.0 in
    let rest : some_touch (sites_end (before ++ site ∷ [])) sites ≡ false = subst (λ (end : ℕ). some_touch end sites ≡ false) (sym (end_of_last before site)) tests.1 in
    and_from (next_site_within pages exports before site) (each_within (next_site_within pages exports) (before ++ site ∷ []) sites)
    (and_from (site_within pages exports site) (is_after before site) good.0 behind) (in_order pages exports (before ++ site ∷ []) sites good.1 rest)

-- ---- the pages of the text

pages_are : (text : List ℕ) (total : ℕ) → length text ≡ total → pages_of (whole_pages text) ≡ (total + (page_size - total % page_size) % page_size) / page_size
pages_are text total same =
    let behind : length (zeros (padding (length text) page_size)) ≡ padding (length text) page_size = length-replicate (padding (length text) page_size) 0 in
    ap (λ (n : ℕ). n / page_size) (length-append text (zeros (padding (length text) page_size)) ∙ ap (λ (n : ℕ). length text + n) behind)
    ∙ ap (λ (n : ℕ). (n + (page_size - n % page_size) % page_size) / page_size) same

record AreEnough (total pages : ℕ) : Type 0 where
  some : 1 ≤ pages
  most : pages ≤ 1024
  all : total ≤ page_size * pages

enough : (total : ℕ) → 0 < total → total ≤ page_size * 1024 → AreEnough total ((total + (page_size - total % page_size) % page_size) / page_size)
enough total some most = record { some = omega arith; most = omega arith; all = omega arith }

-- ---- each within the limits

place_fits : (total pages place : ℕ) → IsPlace total place → total ≤ page_size * pages → place_within pages place ≡ true
place_fits total pages place at most =
    let begins = at.below in
    let below : nat_lt place (page_size * pages) ≡ true = grind (arith, nat_tests) in
    and_from (place % 4 == 0) (nat_lt place (page_size * pages)) (eq-eqb (place % 4) 0 at.whole) below

base_fits : (exports base : ℕ) → base < 3 + exports → base_within exports base ≡ true
base_fits exports base below = grind (arith, nat_tests)

one_fits : (total pages exports : ℕ) (site : Site) → IsSiteOf total exports site → total ≤ page_size * pages → site_within pages exports site ≡ true
one_fits total pages exports site of most =
    let anchored : anchor_within pages site.kind site.offset site.anchor ≡ true =
    and_from (place_within pages site.anchor) (is_low_part site.kind || site.anchor == site.offset) (place_fits total pages site.anchor of.anchor most) of.own in
    let placed : (place_within pages site.offset && is_aligned site.kind site.offset) ≡ true =
    and_from (place_within pages site.offset) (is_aligned site.kind site.offset) (place_fits total pages site.offset of.place most)
    (eq-eqb (site.offset % site_size site.kind) 0 of.aligned) in
    let based : (place_within pages site.offset && is_aligned site.kind site.offset && base_within exports site.base) ≡ true =
    and_from (place_within pages site.offset && is_aligned site.kind site.offset) (base_within exports site.base) placed (base_fits exports site.base of.base) in
    and_from (place_within pages site.offset && is_aligned site.kind site.offset && base_within exports site.base) (anchor_within pages site.kind site.offset site.anchor) based anchored

all_fit : (total pages exports : ℕ) (sites : List Site) → Each (IsSiteOf total exports) sites → total ≤ page_size * pages → Each (λ site. site_within pages exports site ≡ true) sites
all_fit total pages exports [] of most = tt
all_fit total pages exports (site ∷ sites) of most = (one_fits total pages exports site of.0 most, all_fit total pages exports sites of.1 most)

-- ---- the whole

pages_within : (n : ℕ) → 1 ≤ n → n ≤ 1024 → module_pages_within n ≡ true
pages_within n some most = grind (arith, nat_tests)

count_within : (n : ℕ) → n ≤ 65536 → sites_count_within 0 n ≡ true
count_within n few = grind (arith, nat_tests)

-- ordered fields of a text, apart from each other
record AreFieldsOf (total exports : ℕ) (sites : List Site) : Type 0 where
  each : Each (IsSiteOf total exports) sites
  few : length sites ≤ 65536
  apart : some_touch 0 sites ≡ false

fits_in : (total pages exports : ℕ) (sites : List Site) → AreEnough total pages → AreFieldsOf total exports sites
    → (module_pages_within pages && sites_count_within 0 (length sites) && sites_within pages exports sites) ≡ true
fits_in total pages exports sites enough fields =
    let sized : (module_pages_within pages && sites_count_within 0 (length sites)) ≡ true =
    and_from (module_pages_within pages) (sites_count_within 0 (length sites)) (pages_within pages enough.some enough.most) (count_within (length sites) fields.few) in
    and_from (module_pages_within pages && sites_count_within 0 (length sites)) (sites_within pages exports sites) sized
    (in_order pages exports [] sites (all_fit total pages exports sites fields.each enough.all) fields.apart)

fits_by : (text : List ℕ) (total exports : ℕ) (sites : List Site) → length text ≡ total → 0 < total → total ≤ page_size * 1024 → AreFieldsOf total exports sites
    → module_fits exports (record { text = whole_pages text; sites = sites }) ≡ true
fits_by text total exports sites same some most fields =
    subst (λ (n : ℕ). (module_pages_within n && sites_count_within 0 (length sites) && sites_within n exports sites) ≡ true) (sym (pages_are text total same))
    (fits_in total ((total + (page_size - total % page_size) % page_size) / page_size) exports sites (enough total some most) fields)

-- an object of a short file, whose sections are good
record IsShort (o : Object) : Type 0 where
  short : length o.file ≤ 2 ^ 32
  parts : list_all (is_good_part o.file) o.sections ≡ true
  few : 64 * length o.sections ≤ length o.file

room_for : (sections size : ℕ) → size ≤ 2 ^ 32 → 64 * sections ≤ size → 0 + (2 ^ 32 + page_size) * sections < 2 ^ 64
room_for sections size short few = omega arith

record AreFew (count size : ℕ) : Type 0 where
  sites : count ≤ 65536
  text : size ≤ page_size * 1024

not_large : (count size : ℕ) → (nat_lt 65536 count || nat_lt (page_size * 1024) size) ≡ false → AreFew count size
not_large count size test = record { sites = grind (arith, nat_tests); text = grind (arith, nat_tests) }

not_zero : (n : ℕ) → (n == 0) ≡ false → 0 < n
not_zero n test = grind (arith, nat_tests)

object_fits : (exports : List Export) (o : Object) (sites : List Site) → IsShort o → list_all is_good_alignment o.sections ≡ true → sites_of exports o ≡ Ok sites
    → AreFew (length sites) (text_size o.sections) → some_touch 0 (ordered_sites sites) ≡ false → 0 < text_size o.sections
    → module_fits (length exports) (record { text = text_of o; sites = ordered_sites sites }) ≡ true
unfolding text_of
object_fits exports o sites short alignments is few apart some =
    let good = all_good o.file o.sections short.parts alignments in
    let room = room_for (length o.sections) (length o.file) short.short short.few in
    let size = text_length o.file [] no_ends o.sections short.short good room refl in
    let inside = all_inside o.file (text_size o.sections) no_ends o.sections short.short good room (omega arith) in
    let of = all_of_text o.file (text_size o.sections) (placed_sections o.sections) o.sections inside in
    let fields = object_sites (text_size o.sections) o exports sites is of few.text in
    let counted = ordered_length sites in
    let count = few.sites in
    fits_by (text_from o.file [] o.sections) (text_size o.sections) (length exports) (ordered_sites sites) size some few.text (record {
      each = each_ordered (IsSiteOf (text_size o.sections) (length exports)) sites fields;
      few = omega (arith, counted, count);
      apart = apart;
    })

by_tests : (exports : List Export) (o : Object) (sites : List Site) (large overlap none : Bool) (m : Module) → is_too_large o.sections sites ≡ large
    → fields_overlap sites (ordered_sites sites) ≡ overlap → (text_size o.sections == 0) ≡ none
    → (if large then Err ObjectFault.TooLarge else if overlap then Err ObjectFault.Overlap else if none then Err ObjectFault.NoText else
    Ok (record { text = text_of o; sites = ordered_sites sites })) ≡ Ok m
    → IsShort o → list_all is_good_alignment o.sections ≡ true → sites_of exports o ≡ Ok sites → module_fits (length exports) m ≡ true
by_tests exports o sites true overlap none m sized apart some e short alignments is = absurd (cc e)
by_tests exports o sites false true none m sized apart some e short alignments is = absurd (cc e)
by_tests exports o sites false false true m sized apart some e short alignments is = absurd (cc e)
by_tests exports o sites false false false m sized apart some e short alignments is =
    let same = ok_same (record { text = text_of o; sites = ordered_sites sites }) m e in
    let tests = or_parts (nat_lt (length (ordered_sites sites)) (length sites)) (some_touch 0 (ordered_sites sites)) apart in
    subst (λ (n : Module). module_fits (length exports) n ≡ true) same
    (object_fits exports o sites short alignments is (not_large (length sites) (text_size o.sections) sized) tests.1 (not_zero (text_size o.sections) some))

by_sites : (exports : List Export) (o : Object) (good : Bool) (judged : Judged (List Site)) (m : Module) → list_all is_good_alignment o.sections ≡ good → sites_of exports o ≡ judged
    → (if good then (judged >>= module_with o) else Err ObjectFault.Alignment) ≡ Ok m → IsShort o → module_fits (length exports) m ≡ true
by_sites exports o true (Ok sites) m alignments is e short =
    by_tests exports o sites (is_too_large o.sections sites) (fields_overlap sites (ordered_sites sites)) (text_size o.sections == 0) m refl refl refl e short alignments is
by_sites exports o true (Err fault) m alignments is e short = absurd (cc e)
by_sites exports o false judged m alignments is e short = absurd (cc e)

-- ---- the object of a file

sections_length : (file : List ℕ) → length (sections_of file) ≡ sections_count file
unfolding sections_among
sections_length file =
    length-map (numbers_from 0 (sections_count file)) (λ (i : ℕ). section_at file (sections_place file + 64 * i)) ∙ numbers_length 0 (sections_count file)

table_fits : (a : Bool) (place count size : ℕ) → (a && nat_le (place + 64 * count) size) ≡ true → 64 * count ≤ size
table_fits true place count size test = grind (arith, nat_tests)
table_fits false place count size test = cc test

with_tables : (file : List ℕ) (tables : Option Tables) (o : Object) → object_with file (sections_of file) tables ≡ Ok o → length file ≤ 2 ^ 32
    → list_all (is_good_part file) (sections_of file) ≡ true → 64 * sections_count file ≤ length file → IsShort o
with_tables file None o e short parts few = absurd (cc e)
with_tables file (Some tables) o e short parts few =
    let whole : Object = record { file = file; sections = sections_of file; tables = tables } in
    let counted : 64 * length (sections_of file) ≤ length file = subst (λ (n : ℕ). 64 * n ≤ length file) (sym (sections_length file)) few in
    subst IsShort (ok_same whole o e) (record { short = short; parts = parts; few = counted })

with_parts : (file : List ℕ) (good : Bool) (o : Object) → list_all (is_good_part file) (sections_of file) ≡ good
    → (if good then object_with file (sections_of file) (tables_of file (sections_of file)) else Err ObjectFault.OutsideFile) ≡ Ok o
    → length file ≤ 2 ^ 32 → 64 * sections_count file ≤ length file → IsShort o
with_parts file true o parts e short few = with_tables file (tables_of file (sections_of file)) o e short parts few
with_parts file false o parts e short few = absurd (cc e)

with_sections : (file : List ℕ) (there : Bool) (o : Object) → sections_in_file file ≡ there → (if there then object_of file (sections_of file) else Err ObjectFault.SectionHeaders) ≡ Ok o
    → length file ≤ 2 ^ 32 → IsShort o
with_sections file true o test e short =
    with_parts file (list_all (is_good_part file) (sections_of file)) o refl e short (table_fits _ (sections_place file) (sections_count file) (length file) test)
with_sections file false o test e short = absurd (cc e)

behind : (fault : Option HeaderFault) (file : List ℕ) (o : Object) → object_after fault file ≡ Ok o → length file ≤ 2 ^ 32 → IsShort o
behind (Some fault) file o e short = absurd (cc e)
behind None file o e short = with_sections file (sections_in_file file) o refl e short

object_short : (file : List ℕ) (o : Object) → object_judged file ≡ Ok o → length file ≤ 2 ^ 32 → IsShort o
unfolding object_judged
object_short file o e short = behind (first_refusal (file_checks 1 file)) file o e short

by_object : (file : List ℕ) (exports : List Export) (judged : Judged Object) (m : Module) → object_judged file ≡ judged → (judged >>= module_of exports) ≡ Ok m →
    length file ≤ 2 ^ 32 → module_fits (length exports) m ≡ true
by_object file exports (Ok o) m is e short = by_sites exports o (list_all is_good_alignment o.sections) (sites_of exports o) m refl refl e (object_short file o is short)
by_object file exports (Err fault) m is e short = absurd (cc e)

pub module_within : (file : List ℕ) (exports : List Export) (m : Module) → module_judged file exports ≡ Ok m → length file ≤ 2 ^ 32 → module_fits (length exports) m ≡ true
unfolding module_judged
module_within file exports m e short = by_object file exports (object_judged file) m refl e short

-- the same of what is read
pub image_within : (file : List ℕ) (exports : List Export) (o : Object) → object_judged file ≡ Ok o → (result : Result ModuleImage RelocRefusal)
    → IfOk result (λ image. module_of exports o ≡ Ok (module_view image)) → length file ≤ 2 ^ 32 → IfOk result (λ image. module_fits (length exports) (module_view image) ≡ true)
image_within file exports o is (Ok image) judged short = by_object file exports (Ok o) (module_view image) is judged short
image_within file exports o is (Err refusal) judged short = tt
