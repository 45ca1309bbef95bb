-- The digests of pages: of one page more, and of more pages.
use Rattle.std.proofs.Common.{◌≡◌, refl, ℕ, zero, suc, ◌+◌, ◌*◌, ◌/◌, ◌<◌, List, [], ◌∷◌, ◌++◌, take, drop, length, sym, ◌∙◌, ap, arith}
use Rattle.std.proofs.Math.Seq.{take-add}
use Rattle.std.proofs.lemmas.List.{drop-drop, take-append-le, drop-append-le, length-append, length-drop, length-take}
use Rattle.spec_processor.specs.Bytes.{page_size}
use Rattle.sv_types.specs.Measure.{page_digest, page_digests, digests_of}

pub one_page_more : (n : ℕ) (bytes : List ℕ) →
    page_digests (suc n) bytes ≡ page_digests n bytes ++ page_digest (take page_size (drop (page_size * n) bytes)) ∷ []
one_page_more zero bytes = refl
one_page_more (suc n) bytes =
    let step = one_page_more n (drop page_size bytes) in
    let place : drop (page_size * n) (drop page_size bytes) ≡ drop (page_size * suc n) bytes =
    drop-drop (page_size * n) page_size bytes ∙ ap (λ (k : ℕ). drop k bytes) (omega arith) in
    ap (λ (ds : List (List ℕ)). page_digest (take page_size bytes) ∷ ds)
    (step ∙ ap (λ (rest : List ℕ). page_digests n (drop page_size bytes) ++ page_digest (take page_size rest) ∷ []) place)

-- whole pages, and more after them
pub more_pages : (n m : ℕ) (pages more : List ℕ) → length pages ≡ page_size * n →
    page_digests (n + m) (pages ++ more) ≡ page_digests n pages ++ page_digests m more
more_pages zero m [] more whole = ap (λ (n : ℕ). page_digests n more) (omega arith)
more_pages zero m (byte ∷ bytes) more whole = absurd (omega (arith, whole))
more_pages (suc n) m pages more whole =
    let count : suc n + m ≡ suc (n + m) = omega arith in
    let first : take page_size (pages ++ more) ≡ take page_size pages = take-append-le page_size pages more (omega (arith, whole)) in
    let rest : drop page_size (pages ++ more) ≡ drop page_size pages ++ more = drop-append-le page_size pages more (omega (arith, whole)) in
    let left : length (drop page_size pages) ≡ page_size * n = omega (arith, whole, length-drop page_size pages) in
    ap (λ (k : ℕ). page_digests k (pages ++ more)) count
    ∙ ap (λ (page : List ℕ). page_digest page ∷ page_digests (n + m) (drop page_size (pages ++ more))) first
    ∙ ap (λ (bytes : List ℕ). page_digest (take page_size pages) ∷ page_digests (n + m) bytes) rest
    ∙ ap (λ (ds : List (List ℕ)). page_digest (take page_size pages) ∷ ds) (more_pages n m (drop page_size pages) more left)

whole_pages : (n bytes : ℕ) → bytes ≡ page_size * n → bytes / page_size ≡ n
whole_pages n bytes whole = omega arith

pages_added : (n front chunk all : ℕ) → front ≡ page_size * n → all ≡ front + chunk → all / page_size ≡ n + chunk / page_size
pages_added n front chunk all whole sum = omega arith

pub joined : (n : ℕ) (front chunk : List ℕ) → length front ≡ page_size * n → digests_of front ++ digests_of chunk ≡ digests_of (front ++ chunk)
joined n front chunk whole =
    let front_pages = whole_pages n (length front) whole in
    let all_pages = pages_added n (length front) (length chunk) (length (front ++ chunk)) whole (length-append front chunk) in
    ap (λ (k : ℕ). page_digests k front ++ digests_of chunk) front_pages
    ∙ sym (more_pages n (length chunk / page_size) front chunk whole)
    ∙ ap (λ (k : ℕ). page_digests k (front ++ chunk)) (sym all_pages)

-- a chunk more: 64 pages, or those that are left
pub chunk_more : (i : ℕ) (pages : List ℕ) → i * 262144 < length pages →
    digests_of (take (i * 262144) pages) ++ digests_of (take 262144 (drop (i * 262144) pages)) ≡ digests_of (take ((i + 1) * 262144) pages)
chunk_more i pages there =
    let front_bytes : length (take (i * 262144) pages) ≡ page_size * (64 * i) = omega (arith, there, length-take (i * 262144) pages) in
    let bytes : i * 262144 + 262144 ≡ (i + 1) * 262144 = omega arith in
    joined (64 * i) (take (i * 262144) pages) (take 262144 (drop (i * 262144) pages)) front_bytes
    ∙ ap digests_of (sym (take-add (i * 262144) 262144 pages))
    ∙ ap (λ (k : ℕ). digests_of (take k pages)) bytes
