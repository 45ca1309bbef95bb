-- Approved pages of guest memory, each with its bytes as they were measured. This project's own.
use Rattle.std.specs.Prelude.{ℕ, zero, suc, ◌+◌, List, [], ◌∷◌, map, ◌==◌, if◌then◌else◌, Option, Some, None}
use Rattle.spec_processor.specs.Bytes.{page_bytes}

-- an approved page, with its bytes
pub record ApprovedPage : Type 0 where
  pub page : ℕ
  pub bytes : List ℕ

-- the numbers from first on, count of them
abbrev pub numbers_from : ℕ → ℕ → List ℕ
numbers_from first zero = []
numbers_from first (suc count) = first ∷ numbers_from (first + 1) count

-- pages of RAM as they stand there
abbrev pub approved_page : List ℕ → ℕ → ApprovedPage
approved_page ram page = record { page = page; bytes = page_bytes ram page }

abbrev pub approved_pages : List ℕ → List ℕ → List ApprovedPage
approved_pages ram pages = map (approved_page ram) pages

-- the bytes of an approved page, none where it is not approved
abbrev pub approved_bytes : List ApprovedPage → ℕ → Option (List ℕ)
approved_bytes [] page = None
approved_bytes (entry ∷ entries) page = if entry.page == page then Some entry.bytes else approved_bytes entries page
