-- The place of an entry, as it is searched among segments.
use Rattle.std.proofs.Common.{◌≡◌, ◌∙◌, ℕ, ◌+◌, ◌<◌, ◌≤◌, ◌^◌, true, false, List, [], ◌∷◌, map, Option, Some, None, All, ap, sym, cond}
use Rattle.std.specs.Prelude.{option_map}
use Rattle.std.specs.List.{find, list_any}
use Rattle.std.proofs.lemmas.List.Elements.{All-nil, All-cons}
use Rattle.sv_types.specs.Kernel.{LoadedSegment}
use Rattle.elf64_load.specs.Images.{segment_of}
use Rattle.elf64_load.specs.declared.image.Segment.{Segment}
use Rattle.policy_making.specs.Binding.{holds, maps, place_by, place_in, place_of}
use Rattle.policy_making.specs.InText.{EndInWords}
use Rattle.policy_making.proofs.Searches.{IsMet, find_map, found_met}
use Rattle.policy_making.proofs.TextPlaces.{held_parts}
use Rattle.policy_making.proofs.WordLemmas.{list_any_map}

all_any : (ss : List LoadedSegment) → All (λ s. Unit {0}) ss
all_any [] = All-nil (λ s. Unit {0})
all_any (s ∷ ss) = All-cons (λ s. Unit {0}) s ss tt (all_any ss)

module _ (segments : List Segment) (entry : ℕ) where
  -- the values of what is searched
  found_value : (found : Option Segment) → find (λ s. maps entry (segment_of s)) segments ≡ found → find (maps entry) (map segment_of segments) ≡ option_map segment_of found
  found_value found is = find_map (maps entry) segment_of segments ∙ ap (option_map segment_of) is

  module _ (s : Segment) (is : find (λ s. maps entry (segment_of s)) segments ≡ Some s) where
    pub met : (P : LoadedSegment → Type 0) → All P (map segment_of segments) → IsMet P (maps entry) (map segment_of segments) (segment_of s)
    met P all = found_met P (maps entry) (map segment_of segments) (segment_of s) all (found_value (Some s) is)

    parts : (s.executable ≡ true) × (s.va ≤ entry) × (entry < s.va + s.memory)
    parts = held_parts s.va entry (segment_of s) (met (λ s. Unit {0}) (all_any (map segment_of segments))).passes

    pub mapped_from : s.va ≤ entry
    mapped_from = parts.1

    pub mapped_before : entry < s.va + s.memory
    mapped_before = parts.2

    pub mapped_end : EndInWords (map segment_of segments) → s.gpa + s.memory < 2 ^ 64
    mapped_end end = (met (λ s. s.gpa + s.memory < 2 ^ 64) end).holds

    pub place_mapped : Some (place_in entry (segment_of s)) ≡ place_of (map segment_of segments) entry
    unfolding place_of
    place_mapped = sym (ap (place_by (map segment_of segments) entry) (found_value (Some s) is))

  module _ (is : find (λ s. maps entry (segment_of s)) segments ≡ None) where
    own_by : place_by (map segment_of segments) entry None ≡ place_of (map segment_of segments) entry
    unfolding place_of
    own_by = sym (ap (place_by (map segment_of segments) entry) (found_value None is))

    pub place_own : list_any (λ s. holds entry (segment_of s)) segments ≡ true → Some entry ≡ place_of (map segment_of segments) entry
    place_own held =
        sym (ap (λ b. cond b (Some entry) None) (list_any_map (holds entry) segment_of segments ∙ held)) ∙ own_by

    pub no_place : list_any (λ s. holds entry (segment_of s)) segments ≡ false → None ≡ place_of (map segment_of segments) entry
    no_place none =
        sym (ap (λ b. cond b (Some entry) None) (list_any_map (holds entry) segment_of segments ∙ none)) ∙ own_by
