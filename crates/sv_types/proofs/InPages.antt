-- Whole pages, and what begins at a multiple of its width, which lies in one page.
use Rattle.std.proofs.Common.{◌≡◌, refl, inl, inr, ℕ, ◌+◌, ◌*◌, ◌/◌, ◌%◌, ◌≤◌, List, length, arith}
use Rattle.spec_processor.specs.Bytes.{page_size}
use Rattle.spec_processor.specs.Regions.{IsWidth}

abbrev pub IsWhole : List ℕ → Type 0
IsWhole bytes = length bytes % page_size ≡ 0

pub page_begins : (p : ℕ) → page_size * (p / page_size) ≤ p
page_begins p = omega arith

pub aligned_in_page : (width p : ℕ) → IsWidth width → p % width ≡ 0 → p % page_size + width ≤ page_size
aligned_in_page width p (inl one) aligned = rw one (grind arith)
aligned_in_page width p (inr (inl two)) aligned = let e : p % 2 ≡ 0 = rw two at aligned in rw two (grind arith)
aligned_in_page width p (inr (inr (inl four))) aligned = let e : p % 4 ≡ 0 = rw four at aligned in rw four (grind arith)
aligned_in_page width p (inr (inr (inr eight))) aligned = let e : p % 8 ≡ 0 = rw eight at aligned in rw eight (grind arith)

-- an instruction, or another word of four bytes
pub word_in_page : (p : ℕ) → p % 4 ≡ 0 → p % page_size + 4 ≤ page_size
word_in_page p aligned = aligned_in_page 4 p (inr (inr (inl refl))) aligned
