-- The sections of text stand in the text, one after the other. In a short file no place goes beyond 64 bits.
use Rattle.std.proofs.Common.{◌≡◌, ℕ, zero, suc, ◌+◌, ◌*◌, ◌%◌, ◌^◌, ◌<◌, ◌≤◌, Bool, true, false, List, [], ◌∷◌, ◌++◌, length, take, drop}
use Rattle.std.proofs.Common.{Option, Some, None, refl, ap, sym, subst, ◌∙◌, arith, length-append, length-take, length-drop}
use Rattle.spec_processor.specs.Bytes.{page_size}
use Rattle.std.specs.Prelude.{◌&&◌, ◌||◌, ◌==◌, if◌then◌else◌, flat_map, slice_get}
use Rattle.std.specs.List.{list_all}
use Rattle.std.proofs.lemmas.Bool.{and_parts, eqb-true, leb-true}
use Rattle.std.proofs.lemmas.List.{length-replicate}
use Rattle.spec_processor.specs.Bits.{bit}
use Rattle.sv_types.specs.ApprovedPages.{numbers_from}
use Rattle.spec_processor.specs.Effects.{plus}
use Rattle.elf64_load.specs.Sections.{part_in_file, section_bytes}
use Rattle.elf64_load.specs.declared.sections.sections.SectionHeader.{SectionHeader}
use Rattle.elf64_reloc.specs.Layouts.{is_good_alignment, space_of, padding, place_after, ends_with, placed_after, ends_after, placed_from, ends_from}
use Rattle.elf64_reloc.specs.Modules.{zeros, text_behind, text_from}
use Rattle.elf64_reloc.specs.Objects.{is_good_part}
use Rattle.elf64_reloc.specs.Relocations.{is_text, relocation_at, kept_at, relocations_in, relocations_of_home, relocations_of, all_relocations}
use Rattle.elf64_reloc.specs.declared.layout.Ends.{Ends}
use Rattle.elf64_reloc.specs.declared.layout.PlacedSection.{PlacedSection}
use Rattle.elf64_reloc.specs.declared.layout.Space.{Space}
use Rattle.elf64_reloc.specs.declared.layout.Space.TheVariants.{Text, Data, Elsewhere}
use Rattle.elf64_reloc.specs.declared.relocations.Relocation.{Relocation}
use Rattle.elf64_reloc.proofs.Lists.{padding_small}

-- ---- each item of a list

abbrev pub Each : {A : Type 0} → (A → Type 0) → List A → Type 0
Each P [] = Unit {0}
Each P (x ∷ xs) = P x × Each P xs

pub each_append : {A : Type 0} (P : A → Type 0) (xs ys : List A) → Each P xs → Each P ys → Each P (xs ++ ys)
each_append P [] ys here rest = rest
each_append P (x ∷ xs) ys here rest = (here.0, each_append P xs ys here.1 rest)

each_flat : {A B : Type 0} (P : B → Type 0) (f : A → List B) (xs : List A) → ((x : A) → Each P (f x)) → Each P (flat_map f xs)
each_flat P f [] each = tt
each_flat P f (x ∷ xs) each = each_append P (f x) (flat_map f xs) (each x) (each_flat P f xs each)

abbrev pub IfThere : {A : Type 0} → (A → Type 0) → Option A → Type 0
IfThere P None = Unit {0}
IfThere P (Some x) = P x

each_there : {A : Type 0} (P : A → Type 0) (xs : List A) (i : ℕ) → Each P xs → IfThere P (slice_get xs i)
each_there P [] i each = tt
each_there P (x ∷ xs) zero each = each.0
each_there P (x ∷ xs) (suc i) each = each_there P xs i each.1

-- ---- sections

-- a good section of a file
pub record IsGood (file : List ℕ) (s : SectionHeader) : Type 0 where
  pub in_file : is_good_part file s ≡ true
  pub alignment : is_good_alignment s ≡ true

pub all_good : (file : List ℕ) (ss : List SectionHeader) → list_all (is_good_part file) ss ≡ true → list_all is_good_alignment ss ≡ true → Each (IsGood file) ss
all_good file [] parts alignments = tt
all_good file (s ∷ ss) parts alignments =
    let p = and_parts (is_good_part file s) (list_all (is_good_part file) ss) parts in
    let a = and_parts (is_good_alignment s) (list_all is_good_alignment ss) alignments in
    (record { in_file = p.0; alignment = a.0 }, all_good file ss p.1 a.1)

-- a section of text is the program's
text_kind : (allocated program executable : Bool) → (if allocated then (if program && executable then Text else Data) else Elsewhere) ≡ Text → program ≡ true
text_kind true true executable is = refl
text_kind true false executable is = cc is
text_kind false program executable is = cc is

with_bytes : (kind : ℕ) (inside : Bool) → kind ≡ 1 → ((kind == 0 || kind == 8) || inside) ≡ true → inside ≡ true
with_bytes kind inside program good = subst (λ (k : ℕ). ((k == 0 || k == 8) || inside) ≡ true) program good

-- so its bytes are in the file
text_in_file : (file : List ℕ) (s : SectionHeader) → space_of s ≡ Text → is_good_part file s ≡ true → s.offset + s.size ≤ length file
text_in_file file s is good =
    let program : s.kind ≡ 1 = eqb-true s.kind 1 (text_kind (bit s.flags 1) (s.kind == 1) (bit s.flags 2) is) in
    leb-true (s.offset + s.size) (length file) (with_bytes s.kind (part_in_file file s) program good)

-- ---- one section more

-- the most that a section adds to a text, with the zeros in front of it
abbrev pub max_added : ℕ
max_added = 2 ^ 32 + page_size

-- the end of the text after a section
abbrev end_after : Ends → SectionHeader → Space → ℕ
end_after ends s Text = ends.text + padding ends.text s.alignment + s.size
end_after ends s Data = ends.text
end_after ends s Elsewhere = ends.text

sum_is_whole : (end gap size : ℕ) → gap ≤ page_size → size ≤ 2 ^ 32 → end + max_added < 2 ^ 64 → ((end + gap) % 2 ^ 64 + size) % 2 ^ 64 ≡ end + gap + size
sum_is_whole end gap size few small room = omega arith

place_is_whole : (end gap : ℕ) → gap ≤ page_size → end + max_added < 2 ^ 64 → (end + gap) % 2 ^ 64 ≡ end + gap
place_is_whole end gap few room = omega arith

end_by : (ends : Ends) (s : SectionHeader) (space : Space) → (space ≡ Text → s.size ≤ 2 ^ 32) → padding ends.text s.alignment ≤ page_size → ends.text + max_added < 2 ^ 64
    → (ends_with ends space (plus (place_after ends space s) s.size)).text ≡ end_after ends s space
end_by ends s Text small few room = sum_is_whole ends.text (padding ends.text s.alignment) s.size few (small refl) room
end_by ends s Data small few room = refl
end_by ends s Elsewhere small few room = refl

size_small : (file : List ℕ) (s : SectionHeader) → length file ≤ 2 ^ 32 → IsGood file s → space_of s ≡ Text → s.size ≤ 2 ^ 32
size_small file s short good is =
    let inside = text_in_file file s is good.in_file in omega (arith, inside, short)

end_is : (file : List ℕ) (ends : Ends) (s : SectionHeader) → length file ≤ 2 ^ 32 → IsGood file s → ends.text + max_added < 2 ^ 64
    → (ends_after ends s).text ≡ end_after ends s (space_of s)
unfolding ends_after
end_is file ends s short good room =
    end_by ends s (space_of s) (size_small file s short good) (padding_small ends.text s.alignment good.alignment) room

-- it is not in front of the end before it, nor far behind it
record IsNear (before after : ℕ) : Type 0 where
  behind : before ≤ after
  near : after ≤ before + max_added

near_by : (ends : Ends) (s : SectionHeader) (space : Space) → (space ≡ Text → s.size ≤ 2 ^ 32) → padding ends.text s.alignment ≤ page_size → IsNear ends.text (end_after ends s space)
near_by ends s Text small few =
    let size : s.size ≤ 2 ^ 32 = small refl in
    text_near ends.text (padding ends.text s.alignment) s.size few size
  where
    text_near : (end gap size : ℕ) → gap ≤ page_size → size ≤ 2 ^ 32 → IsNear end (end + gap + size)
    text_near end gap size few small = record { behind = omega arith; near = omega arith }
near_by ends s Data small few = record { behind = omega arith; near = omega arith }
near_by ends s Elsewhere small few = record { behind = omega arith; near = omega arith }

end_near : (file : List ℕ) (ends : Ends) (s : SectionHeader) → length file ≤ 2 ^ 32 → IsGood file s → ends.text + max_added < 2 ^ 64 → IsNear ends.text (ends_after ends s).text
end_near file ends s short good room =
    subst (λ (n : ℕ). IsNear ends.text n) (sym (end_is file ends s short good room))
    (near_by ends s (space_of s) (size_small file s short good) (padding_small ends.text s.alignment good.alignment))

-- there is room for the sections that are left
here_room : (end n : ℕ) → end + max_added * suc n < 2 ^ 64 → end + max_added < 2 ^ 64
here_room end n room = omega arith

rest_room : (before after n : ℕ) → IsNear before after → before + max_added * suc n < 2 ^ 64 → after + max_added * n < 2 ^ 64
rest_room before after n near room =
    let most = near.near in omega (arith, most, room)

-- ---- the text has the length that its sections give it

after_by : (file text : List ℕ) (ends : Ends) (s : SectionHeader) (space : Space) → (space ≡ Text → s.offset + s.size ≤ length file) → length text ≡ ends.text
    → length (if is_text space then (text ++ zeros (padding (length text) s.alignment)) ++ section_bytes file s else text) ≡ end_after ends s space
after_by file text ends s Text inside same =
    let filled : length (zeros (padding (length text) s.alignment)) ≡ padding (length text) s.alignment = length-replicate (padding (length text) s.alignment) 0 in
    let bytes : length (section_bytes file s) ≡ s.size = whole_part file s.offset s.size (inside refl) in
    length-append (text ++ zeros (padding (length text) s.alignment)) (section_bytes file s)
    ∙ ap (λ (n : ℕ). n + length (section_bytes file s)) (length-append text (zeros (padding (length text) s.alignment)) ∙ ap (λ (n : ℕ). length text + n) filled)
    ∙ ap (λ (n : ℕ). length text + padding (length text) s.alignment + n) bytes
    ∙ ap (λ (n : ℕ). n + padding n s.alignment + s.size) same
  where
    whole_part : (list : List ℕ) (at n : ℕ) → at + n ≤ length list → length (take n (drop at list)) ≡ n
    whole_part list at n inside = length-take n (drop at list) ∙ omega (arith, length-drop at list, inside)
after_by file text ends s Data inside same = same
after_by file text ends s Elsewhere inside same = same

pub text_length : (file text : List ℕ) (ends : Ends) (ss : List SectionHeader) → length file ≤ 2 ^ 32 → Each (IsGood file) ss → ends.text + max_added * length ss < 2 ^ 64
    → length text ≡ ends.text → length (text_from file text ss) ≡ (ends_from ends ss).text
text_length file text ends [] short good room same = same
text_length file text ends (s ∷ ss) short good room same =
    let here = here_room ends.text (length ss) room in
    let behind : length (text_behind file text s) ≡ (ends_after ends s).text =
    after_by file text ends s (space_of s) (λ is. text_in_file file s is good.0.in_file) same ∙ sym (end_is file ends s short good.0 here) in
    text_length file (text_behind file text s) (ends_after ends s) ss short good.1
    (rest_room ends.text (ends_after ends s).text (length ss) (end_near file ends s short good.0 here) room) behind

-- ---- each section of text stands in it

end_rises : (file : List ℕ) (ends : Ends) (ss : List SectionHeader) → length file ≤ 2 ^ 32 → Each (IsGood file) ss → ends.text + max_added * length ss < 2 ^ 64
    → ends.text ≤ (ends_from ends ss).text
end_rises file ends [] short good room = omega arith
end_rises file ends (s ∷ ss) short good room =
    let near = end_near file ends s short good.0 (here_room ends.text (length ss) room) in
    let here = near.behind in
    let rest = end_rises file (ends_after ends s) ss short good.1 (rest_room ends.text (ends_after ends s).text (length ss) near room) in
    omega (arith, here, rest)

abbrev IsInside : ℕ → PlacedSection → Type 0
IsInside total p = p.space ≡ Text → p.place + p.size ≤ total

inside_by : (total : ℕ) (ends : Ends) (s : SectionHeader) (space : Space) → padding ends.text s.alignment ≤ page_size → ends.text + max_added < 2 ^ 64 → end_after ends s space ≤ total
    → space ≡ Text → place_after ends space s + s.size ≤ total
inside_by total ends s Text few room most is =
    let place = place_is_whole ends.text (padding ends.text s.alignment) few room in
    subst (λ (n : ℕ). n + s.size ≤ total) (sym place) most
inside_by total ends s Data few room most is = cc is
inside_by total ends s Elsewhere few room most is = cc is

pub all_inside : (file : List ℕ) (total : ℕ) (ends : Ends) (ss : List SectionHeader) → length file ≤ 2 ^ 32 → Each (IsGood file) ss → ends.text + max_added * length ss < 2 ^ 64
    → (ends_from ends ss).text ≤ total → Each (IsInside total) (placed_from ends ss)
unfolding placed_after
all_inside file total ends [] short good room most = tt
all_inside file total ends (s ∷ ss) short good room most =
    let here = here_room ends.text (length ss) room in
    let rest = rest_room ends.text (ends_after ends s).text (length ss) (end_near file ends s short good.0 here) room in
    let rises = end_rises file (ends_after ends s) ss short good.1 rest in
    let ended : end_after ends s (space_of s) ≤ total = subst (λ (n : ℕ). n ≤ total) (end_is file ends s short good.0 here) (omega (arith, rises, most)) in (
      inside_by total ends s (space_of s) (padding_small ends.text s.alignment good.0.alignment) here ended,
      all_inside file total (ends_after ends s) ss short good.1 rest most,
    )

-- ---- each relocation belongs to a section of text

pub record IsOfText (total : ℕ) (r : Relocation) : Type 0 where
  pub home : ℕ
  pub inside : home + r.size ≤ total
  pub place : r.place ≡ plus home r.offset

at_home : (total : ℕ) (home : PlacedSection) (bytes : List ℕ) (i : ℕ) → home.place + home.size ≤ total → IsOfText total (relocation_at home bytes i)
unfolding relocation_at
at_home total home bytes i inside = record { home = home.place; inside = inside; place = refl }

kept_by : (total : ℕ) (relax : Bool) (r : Relocation) → IsOfText total r → Each (IsOfText total) (if relax then [] else r ∷ [])
kept_by total true r of = tt
kept_by total false r of = (of, tt)

in_home : (total : ℕ) (home : PlacedSection) (bytes : List ℕ) → home.place + home.size ≤ total → Each (IsOfText total) (relocations_in home bytes)
unfolding relocations_in
in_home total home bytes inside =
    each_flat (IsOfText total) (kept_at home bytes) (numbers_from 0 _)
    (λ i. kept_by total ((relocation_at home bytes i).kind == 51) (relocation_at home bytes i) (at_home total home bytes i inside))

of_space : (total : ℕ) (home : PlacedSection) (bytes : List ℕ) (space : Space) → (space ≡ Text → home.place + home.size ≤ total)
    → Each (IsOfText total) (if is_text space then relocations_in home bytes else [])
of_space total home bytes Text inside = in_home total home bytes (inside refl)
of_space total home bytes Data inside = tt
of_space total home bytes Elsewhere inside = tt

of_home : (total : ℕ) (bytes : List ℕ) (home : Option PlacedSection) → IfThere (IsInside total) home → Each (IsOfText total) (relocations_of_home bytes home)
of_home total bytes None inside = tt
of_home total bytes (Some home) inside = of_space total home bytes home.space inside

of_section : (total : ℕ) (relocations : Bool) (bytes : List ℕ) (home : Option PlacedSection) → IfThere (IsInside total) home
    → Each (IsOfText total) (if relocations then relocations_of_home bytes home else [])
of_section total true bytes home inside = of_home total bytes home inside
of_section total false bytes home inside = tt

pub all_of_text : (file : List ℕ) (total : ℕ) (placed : List PlacedSection) (ss : List SectionHeader) → Each (IsInside total) placed → Each (IsOfText total) (all_relocations file placed ss)
unfolding relocations_of
all_of_text file total placed ss inside =
    each_flat (IsOfText total) (relocations_of file placed) ss
    (λ s. of_section total (s.kind == 4) (section_bytes file s) (slice_get placed s.info) (each_there (IsInside total) placed s.info inside))
