-- The digests of whole pages of memory, where they lie one after the other.
use Rattle.std.proofs.Common.{◌≡◌, ℕ, ◌+◌, ◌*◌, ◌/◌, ◌<◌, ◌≤◌, suc, List, [], ◌∷◌, flat_map, length, map, refl, sym, ◌∙◌, ap, Bool, true, ◌||◌, arith, length-append}
use Rattle.std.specs.Prelude.{◌==◌}
use Rattle.std.proofs.lemmas.List.{take_at, drop_at}
use Rattle.spec_processor.specs.Bytes.{page_bytes, page_size}
use Rattle.sv_types.specs.Measure.{digests_of, joined_digests, measure, page_digest, page_digests}
use Rattle.spec_reference.specs.States.{has_number}
use Rattle.laws_processor.proofs.ByteLemmas.{length_part}
use Rattle.laws_simulation.proofs.Lookups.{same_number}
use Rattle.laws_resume.proofs.TakenPages.{or_true}

-- the pages are whole
abbrev pub AreWhole : List ℕ → List ℕ → Type 0
AreWhole ram pages = (page : ℕ) → has_number pages page ≡ true → length (page_bytes ram page) ≡ page_size

first_whole : (ram : List ℕ) (page : ℕ) (pages : List ℕ) → AreWhole ram (page ∷ pages) → length (page_bytes ram page) ≡ page_size
first_whole ram page pages whole = whole page (ap (λ (b : Bool). b || has_number pages page) (same_number page))

rest_whole : (ram : List ℕ) (page : ℕ) (pages : List ℕ) → AreWhole ram (page ∷ pages) → AreWhole ram pages
rest_whole ram page pages whole k there = whole k (ap (λ (b : Bool). (page == k) || b) there ∙ or_true (page == k))

abbrev pub digest_at : List ℕ → ℕ → List ℕ
digest_at ram page = page_digest (page_bytes ram page)

-- their digests where they lie one after the other
pub digests_after : (ram pages : List ℕ) → AreWhole ram pages → page_digests (length pages) (flat_map (page_bytes ram) pages) ≡ map (digest_at ram) pages
digests_after ram [] whole = refl
digests_after ram (page ∷ pages) whole =
    let size = first_whole ram page pages whole in
    rw (take_at (page_bytes ram page) (flat_map (page_bytes ram) pages) page_size size, drop_at (page_bytes ram page) (flat_map (page_bytes ram) pages) page_size size)
    (ap (◌∷◌ (digest_at ram page)) (digests_after ram pages (rest_whole ram page pages whole)))

size_after : (ram pages : List ℕ) → AreWhole ram pages → length (flat_map (page_bytes ram) pages) ≡ page_size * length pages
size_after ram [] whole = refl
size_after ram (page ∷ pages) whole =
    let one = first_whole ram page pages whole in
    let rest = size_after ram pages (rest_whole ram page pages whole) in
    length-append (page_bytes ram page) (flat_map (page_bytes ram) pages) ∙ sum (length (page_bytes ram page)) (length (flat_map (page_bytes ram) pages)) (length pages) one rest
  where
    sum : (a b n : ℕ) → a ≡ page_size → b ≡ page_size * n → a + b ≡ page_size * suc n
    sum a b n s t = omega (arith, s, t)

pages_in : (size n : ℕ) → size ≡ page_size * n → size / page_size ≡ n
pages_in size n e = omega (arith, e)

pub listed_after : (ram pages : List ℕ) → AreWhole ram pages → digests_of (flat_map (page_bytes ram) pages) ≡ map (digest_at ram) pages
listed_after ram pages whole =
    ap (λ (n : ℕ). page_digests n (flat_map (page_bytes ram) pages)) (pages_in (length (flat_map (page_bytes ram) pages)) (length pages) (size_after ram pages whole))
    ∙ digests_after ram pages whole

pub joined_after : (ram pages : List ℕ) → AreWhole ram pages → measure (flat_map (page_bytes ram) pages) ≡ joined_digests (map (digest_at ram) pages)
unfolding measure
joined_after ram pages whole = ap joined_digests (listed_after ram pages whole)

pub whole_in : (ram : List ℕ) (page pages : ℕ) → length ram ≡ page_size * pages → page < pages → length (page_bytes ram page) ≡ page_size
whole_in ram page pages size below = length_part ram (page_size * page) page_size (rw size (room page pages below))
  where
    room : (page pages : ℕ) → page < pages → page_size * page + page_size ≤ page_size * pages
    room page pages below = omega (arith, below)
