-- The table of the pages' segments.
use Rattle.std.proofs.Common.{◌≡◌, ℕ, ◌-◌, ◌≤◌, inl, inr, true, false, List, length, get_or, map, ap, sym, ◌∙◌, arith, replicate, rules}
use Rattle.std.specs.Prelude.{nat_le, nat_lt, ◌&&◌, if◌then◌else◌, option_map}
use Rattle.std.specs.List.{slice_get}
use borrow.Rule.Slice.PartMut.{put_mid}
use Rattle.std.proofs.lemmas.Bool.Decides.{nat_tests}
use Rattle.std.proofs.lemmas.List.{places}
use Rattle.std.proofs.lemmas.List.Folds.{find_at}
use Rattle.std.proofs.lemmas.Option.{slice_get-map}
use Rattle.sv_types.specs.Kernel.{is_text_of, text_page, text_page_in}
use Rattle.laws_processor.proofs.ByteLemmas.{lt_or_le}
use Rattle.elf64_load.specs.Images.{segment_of, text_owner}
use Rattle.elf64_load.specs.declared.image.Segment.{Segment}

-- a list whose places from a on and before e hold v
pub filled_at : (xs ys : List ℕ) (a e v at : ℕ) → a ≤ e → e ≤ length xs → ys ≡ replicate (e - a) v
    → get_or (put_mid a (e - a) xs ys) at 0 ≡ (if nat_le a at && nat_lt at e then v else get_or xs at 0)
filled_at xs ys a e v at order within all = elim (lt_or_le at a) [
  | inl below ↦
      let test : (nat_le a at && nat_lt at e) ≡ false = grind (arith, nat_tests) in
      rw (test, all) (search (rules, places))
  | inr from ↦ elim (lt_or_le at e) [
    | inl before ↦
        let test : (nat_le a at && nat_lt at e) ≡ true = grind (arith, nat_tests) in
        rw (test, all) (search (rules, places))
    | inr behind ↦
        let test : (nat_le a at && nat_lt at e) ≡ false = grind (arith, nat_tests) in
        rw (test, all) (search (rules, places))
  ]
]

-- the segment of a page, by its place
pub owned : (page : ℕ) (ss : List Segment) (owner : ℕ) → owner ≡ text_owner page (map segment_of ss)
    → text_page (map segment_of ss) page ≡ text_page_in page (option_map segment_of (slice_get ss owner))
owned page ss owner is =
    ap (text_page_in page)
    (find_at (is_text_of page) (map segment_of ss) ∙ ap (slice_get (map segment_of ss)) (sym is) ∙ slice_get-map segment_of ss owner)
