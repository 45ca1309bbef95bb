-- The words of a policy that is to be made, and their ranges. This project's own.
use Rattle.std.specs.Prelude.{ℕ, ◌%◌, Bool, false, ◌&&◌, not, List, [], map, length, ◌==◌, if◌then◌else◌, nat_le, Option, Some, None, unwrap_or}
use Rattle.std.specs.List.{list_all, list_any, slice_split, before_first, after_first}
use Rattle.std.specs.Option.{option_map_or}
use Rattle.std.specs.Str.{bytes_eq}
use Rattle.sv_types.specs.Numbers.{number_within}
use Rattle.spec_processor.specs.Bytes.{page_size, ram_base, page_of}
use Rattle.sv_types.specs.Policies.{each_within, entries_count_within, entry_within, modules_count_within, span_within}
use Rattle.sv_types.specs.declared.module.Span.{Span}
use Rattle.sv_types.specs.Addresses.{address_of}
use Rattle.sv_types.specs.Names.{name_within}

-- ---- permitted entries

abbrev pub comma : ℕ
comma = 44

-- what stands between commas
abbrev pub parts : List ℕ → List (List ℕ)
parts word = slice_split (λ c. c == comma) word

-- an address that is a multiple of 4
abbrev pub is_entry : List ℕ → Bool
is_entry part = option_map_or entry_within (address_of part) false

abbrev pub are_entries : List ℕ → Bool
are_entries word = entries_count_within (length (parts word)) && list_all is_entry (parts word)

abbrev pub address_or_zero : List ℕ → ℕ
address_or_zero part = unwrap_or (address_of part) 0

-- the addresses, 0 for a part that is none
abbrev pub entries_of : List ℕ → List ℕ
entries_of word = map address_or_zero (parts word)

-- ---- init pages

abbrev pub span_from : (address count : ℕ) → Span
span_from address count = record { first = page_of address; count = count }

-- whole pages, all of them in RAM
abbrev pub span_at : (ram_pages address count : ℕ) → Option Span
span_at ram_pages address count =
    if nat_le ram_base address && address % page_size == 0 && span_within ram_pages (span_from address count)
    then Some (span_from address count) else None

abbrev pub span_of_numbers : (ram_pages : ℕ) → Option ℕ → Option ℕ → Option Span
span_of_numbers ram_pages None count = None
span_of_numbers ram_pages (Some address) None = None
span_of_numbers ram_pages (Some address) (Some count) = span_at ram_pages address count

unfoldable pub span_of_two : (ram_pages : ℕ) → (address count : List ℕ) → Option Span
span_of_two ram_pages address count = span_of_numbers ram_pages (address_of address) (number_within 1 ram_pages count)

abbrev pub colon : ℕ
colon = 58

-- an address, a colon and a number of pages
abbrev pub span_of : (ram_pages : ℕ) → List ℕ → Option Span
span_of ram_pages word = span_of_two ram_pages (before_first (λ c. c == colon) word) (after_first (λ c. c == colon) word)

-- ---- modules

abbrev pub is_among : List (List ℕ) → List ℕ → Bool
is_among words name = list_any (λ word. bytes_eq word name) words

-- a name that none of the words before it is
abbrev pub is_new_name : List (List ℕ) → List ℕ → Bool
is_new_name before word = name_within word && not (is_among before word)

abbrev pub all_new_names : List (List ℕ) → Bool
all_new_names = each_within is_new_name []

abbrev pub are_module_names : List (List ℕ) → Bool
are_module_names words = modules_count_within (length words) && all_new_names words
