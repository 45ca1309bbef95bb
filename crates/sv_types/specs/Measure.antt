-- The measure of whole pages: the digest of the pages' digests.
-- FIPS 180-4, "SHA-256".
use Rattle.std.specs.Prelude.{ℕ, zero, suc, ◌/◌, List, [], ◌∷◌, length, take, drop}
use Rattle.std.specs.List.{concat}
use Rattle.sha2.specs.Sha256.{sha256}
use Rattle.spec_processor.specs.Bytes.{page_size}

-- the bytes of a digest
abbrev pub digest_size : ℕ
digest_size = 32

-- the digest of a page's bytes
abbrev pub page_digest : List ℕ → List ℕ
page_digest page = sha256 page

-- the digests of the first n pages, in order
abbrev pub page_digests : ℕ → List ℕ → List (List ℕ)
page_digests zero bytes = []
page_digests (suc n) bytes = page_digest (take page_size bytes) ∷ page_digests n (drop page_size bytes)

-- the digests of all pages of these bytes
abbrev pub digests_of : List ℕ → List (List ℕ)
digests_of bytes = page_digests (length bytes / page_size) bytes

-- the digest of digests, one after the other
abbrev pub joined_digests : List (List ℕ) → List ℕ
joined_digests digests = sha256 (concat digests)

-- the digest of the pages' digests
unfoldable pub measure : List ℕ → List ℕ
measure bytes = joined_digests (digests_of bytes)
