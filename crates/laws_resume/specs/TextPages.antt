-- The text of a machine before its first event: its approved pages, each with the digest of its bytes. This project's own.
use Rattle.std.specs.Prelude.{ℕ, List, [], ◌∷◌, filter, length, map}
use Rattle.spec_processor.specs.Bytes.{page_bytes}
use Rattle.sv_types.specs.ApprovedPages.{numbers_from}
use Rattle.sv_types.specs.Measure.{page_digest}
use Rattle.sv_types.specs.Protections.{is_approved}
use Rattle.sv_types.specs.declared.protection.Protection.{Protection}
use Rattle.spec_reference.specs.Protections.{protection_at}
use Rattle.spec_reference.specs.States.{State, protections_of}
use Rattle.snapshot_format.specs.declared.whole.TextPage.{TextPage}

-- the approved ones among the first pages
abbrev pub approved_among : List Protection → (count : ℕ) → List ℕ
approved_among protections count = filter (λ page. is_approved (protection_at protections page)) (numbers_from 0 count)

-- a page with the digest of its bytes in RAM
abbrev pub digest_in : (ram : List ℕ) → (page : ℕ) → TextPage
digest_in ram page = record { page = page; digest = page_digest (page_bytes ram page) }

abbrev pub text_among : (ram : List ℕ) → List Protection → (count : ℕ) → List TextPage
text_among ram protections count = map (digest_in ram) (approved_among protections count)

-- of all pages
unfoldable pub text_in : (ram : List ℕ) → List Protection → List TextPage
text_in ram protections = text_among ram protections (length protections)

-- those of a machine in such a state
abbrev pub digested_text : State → List TextPage
digested_text r = text_in r.ram (protections_of r)

-- ---- pages and digests that are kept apart

-- pages with their digests, as far as both go
unfoldable pub paired : (pages : List ℕ) → (digests : List (List ℕ)) → List TextPage
paired [] digests = []
paired (page ∷ pages) [] = []
paired (page ∷ pages) (digest ∷ digests) = record { page = page; digest = digest } ∷ paired pages digests

-- the approved ones among the first pages, with these digests
abbrev pub paired_among : List Protection → (digests : List (List ℕ)) → (count : ℕ) → List TextPage
paired_among protections digests count = paired (approved_among protections count) digests

-- of all pages
unfoldable pub paired_text : List Protection → (digests : List (List ℕ)) → List TextPage
paired_text protections digests = paired_among protections digests (length protections)

-- the digests of a machine's text, in the order of its pages
abbrev pub text_digests : (ram : List ℕ) → List Protection → List (List ℕ)
text_digests ram protections = map (λ (t : TextPage). t.digest) (text_in ram protections)
