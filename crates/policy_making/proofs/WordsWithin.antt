-- Words in their ranges are within the limits of a policy.
use Rattle.std.proofs.Common.{◌≡◌, ℕ, ◌%◌, Bool, true, false, ◌&&◌, List, [], ◌∷◌, ◌++◌, length, map, Option, Some, None, refl, sym, subst}
use Rattle.std.specs.Prelude.{◌==◌, if◌then◌else◌, nat_le, unwrap_or}
use Rattle.std.specs.List.{list_all, before_first, after_first}
use Rattle.std.specs.Option.{option_map_or}
use Rattle.std.proofs.lemmas.Bool.{and_parts}
use Rattle.std.proofs.lemmas.List.{length-map}
use Rattle.spec_processor.specs.Bytes.{ram_base, page_size}
use Rattle.sv_types.specs.Numbers.{number_within}
use Rattle.sv_types.specs.Policies.{each_within, entry_within, entries_count_within, entries_within, span_within}
use Rattle.sv_types.specs.declared.module.Span.{Span}
use Rattle.sv_types.specs.Addresses.{address_of}
use Rattle.policy_making.specs.WordRanges.{parts, is_entry, are_entries, address_or_zero, entries_of, span_from, colon, span_of_numbers, span_of_two, span_of}

-- ---- entries

good_entry : (o : Option ℕ) → option_map_or entry_within o false ≡ true → entry_within (unwrap_or o 0) ≡ true
good_entry None good = absurd (cc good)
good_entry (Some address) good = good

each_entry : (before : List ℕ) (words : List (List ℕ)) → list_all is_entry words ≡ true → each_within (λ before entry. entry_within entry) before (map address_or_zero words) ≡ true
each_entry before [] good = refl
each_entry before (word ∷ words) good =
    let tests = and_parts (is_entry word) (list_all is_entry words) good in
    rw (good_entry (address_of word) tests.0, each_entry (before ++ address_or_zero word ∷ []) words tests.1) refl

pub entries_count : (word : List ℕ) → are_entries word ≡ true → entries_count_within (length (entries_of word)) ≡ true
entries_count word good =
    subst (λ (n : ℕ). entries_count_within n ≡ true) (sym (length-map (parts word) address_or_zero))
    (and_parts (entries_count_within (length (parts word))) (list_all is_entry (parts word)) good).0

pub entries_good : (word : List ℕ) → are_entries word ≡ true → entries_within (entries_of word) ≡ true
entries_good word good = each_entry [] (parts word) (and_parts (entries_count_within (length (parts word))) (list_all is_entry (parts word)) good).1

-- ---- init pages

span_by : (ram_pages address count : ℕ) (front fits : Bool) (span : Span) → span_within ram_pages (span_from address count) ≡ fits
    → (if front && fits then Some (span_from address count) else None) ≡ Some span → span_within ram_pages span ≡ true
span_by ram_pages address count true true span fits is =
    let same : span_from address count ≡ span = cc is in subst (λ (s : Span). span_within ram_pages s ≡ true) same fits
span_by ram_pages address count true false span fits is = absurd (cc is)
span_by ram_pages address count false fits span is_fits is = absurd (cc is)

span_good : (ram_pages : ℕ) (address count : Option ℕ) (span : Span) → span_of_numbers ram_pages address count ≡ Some span → span_within ram_pages span ≡ true
span_good ram_pages None count span is = absurd (cc is)
span_good ram_pages (Some address) None span is = absurd (cc is)
span_good ram_pages (Some address) (Some count) span is =
    span_by ram_pages address count (nat_le ram_base address && address % page_size == 0) (span_within ram_pages (span_from address count)) span refl is

two_good : (ram_pages : ℕ) (address count : List ℕ) (span : Span) → span_of_two ram_pages address count ≡ Some span → span_within ram_pages span ≡ true
unfolding span_of_two
two_good ram_pages address count span is = span_good ram_pages (address_of address) (number_within 1 ram_pages count) span is

pub span_of_within : (ram_pages : ℕ) (word : List ℕ) (span : Span) → span_of ram_pages word ≡ Some span → span_within ram_pages span ≡ true
span_of_within ram_pages word span is = two_good ram_pages (before_first (λ c. c == colon) word) (after_first (λ c. c == colon) word) span is
