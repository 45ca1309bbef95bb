-- What a read and a write of all bytes are to the region that callers see.
use Rattle.std.proofs.Common.{◌≡◌, ℕ, ◌+◌, ◌-◌, ◌*◌, ◌%◌, ◌≤◌, List, length, take, drop, replicate, length-take, refl, sym, ◌∙◌, ap, arith}
use Rattle.std.proofs.lemmas.List.{drop-drop, take-replicate, drop-replicate}
use borrow.Rule.Slice.PartMut.{put_mid}
use Rattle.spec_processor.specs.Bytes.{word, write_word, overwrite, page_bytes, page_size}
use Rattle.spec_processor.specs.Regions.{Region, IsHostPlace, host_bytes, region_of, host_word, write_host}
use Rattle.laws_processor.proofs.ByteLemmas.{overwrite_after}
use Rattle.laws_processor.proofs.RegionLemmas.{bytes_of_region, region_of_bytes, word_of_region, write_of_region, tables_of_region}
use Rattle.host_mem.proofs.WordFacts.{part_put}

-- the bytes are those of the region that is seen, and its table part is whole pages
pub record Seen (tables : ℕ) (bytes : List ℕ) (r : Region) : Type 0 where
  pub same : region_of tables bytes ≡ r
  pub within : tables ≤ length bytes
  pub whole : tables % page_size ≡ 0

bytes_seen : (tables : ℕ) (bytes : List ℕ) (r : Region) → Seen tables bytes r → host_bytes r ≡ bytes
bytes_seen tables bytes r seen = ap host_bytes (sym seen.same) ∙ bytes_of_region tables bytes

tables_seen : (tables : ℕ) (bytes : List ℕ) (r : Region) → Seen tables bytes r → length r.tables ≡ tables
tables_seen tables bytes r seen =
    let short : length (take tables bytes) ≡ tables = simp length-take (let within = seen.within in omega arith) in
    ap (λ (q : Region). length q.tables) (sym seen.same) ∙ short

whole_seen : (tables : ℕ) (bytes : List ℕ) (r : Region) → Seen tables bytes r → length r.tables % page_size ≡ 0
whole_seen tables bytes r seen = ap (λ (n : ℕ). n % page_size) (tables_seen tables bytes r seen) ∙ seen.whole

pub word_seen : (tables : ℕ) (bytes : List ℕ) (r : Region) (at n : ℕ) → Seen tables bytes r → IsHostPlace r at n
    → word bytes at n ≡ host_word r at n
word_seen tables bytes r at n seen place =
    ap (λ (list : List ℕ). word list at n) (sym (bytes_seen tables bytes r seen))
    ∙ sym (word_of_region r at n (whole_seen tables bytes r seen) place)

pub write_seen : (tables : ℕ) (bytes : List ℕ) (r : Region) (at n value : ℕ) → Seen tables bytes r → IsHostPlace r at n
    → region_of tables (write_word bytes at n value) ≡ write_host r at n value
write_seen tables bytes r at n value seen place =
    let whole = whole_seen tables bytes r seen in
    let e : write_word bytes at n value ≡ host_bytes (write_host r at n value) =
    ap (λ (list : List ℕ). write_word list at n value) (sym (bytes_seen tables bytes r seen)) ∙ sym (write_of_region r at n value whole place) in
    ap (region_of tables) e
    ∙ region_of_bytes (write_host r at n value) tables (tables_of_region r at n value whole place ∙ tables_seen tables bytes r seen)

pub page_seen : (tables : ℕ) (bytes : List ℕ) (r : Region) (page from stop : ℕ) → Seen tables bytes r → from ≡ tables + page_size * page → stop ≡ from + page_size
    → take (stop - from) (drop from bytes) ≡ page_bytes r.ram page
page_seen tables bytes r page from stop seen start end =
    let size : stop - from ≡ page_size = omega arith in
    let e : page_bytes (drop tables bytes) page ≡ page_bytes r.ram page = ap (λ (q : Region). page_bytes q.ram page) seen.same in
    rw (size, start) (ap {B = List ℕ} (take page_size) (sym (drop-drop (page_size * page) tables bytes)) ∙ e)

pub copy_seen : (tables : ℕ) (bytes copied : List ℕ) (r : Region) (at stop : ℕ) → Seen tables bytes r → stop ≡ at + length copied
    → host_bytes (region_of tables (put_mid at (stop - at) bytes copied)) ≡ overwrite (host_bytes r) at copied
copy_seen tables bytes copied r at stop seen end =
    bytes_of_region tables (put_mid at (stop - at) bytes copied) ∙ part_put bytes copied at stop end
    ∙ ap (λ (list : List ℕ). overwrite list at copied) (sym (bytes_seen tables bytes r seen))

-- after the tables it changes RAM alone
pub copy_after : (tables : ℕ) (bytes copied : List ℕ) (r : Region) (at stop : ℕ) → Seen tables bytes r → stop ≡ at + length copied → length r.tables ≤ at
    → region_of tables (put_mid at (stop - at) bytes copied) ≡ record r { ram = overwrite r.ram (at - length r.tables) copied }
copy_after tables bytes copied r at stop seen end behind =
    let place : length r.tables + (at - length r.tables) ≡ at = omega arith in
    let after : Region = record r { ram = overwrite r.ram (at - length r.tables) copied } in
    let whole : put_mid at (stop - at) bytes copied ≡ host_bytes after =
    part_put bytes copied at stop end
    ∙ ap (λ (list : List ℕ). overwrite list at copied) (sym (bytes_seen tables bytes r seen))
    ∙ ap (λ (i : ℕ). overwrite (host_bytes r) i copied) (sym place)
    ∙ overwrite_after r.tables r.ram copied (at - length r.tables) in
    ap (region_of tables) whole ∙ region_of_bytes after tables (tables_seen tables bytes r seen)

pub zeros_seen : (tables ram size : ℕ) → size ≡ tables + ram
    → region_of tables (replicate {A = ℕ} size 0) ≡ record { tables = replicate {A = ℕ} tables 0; ram = replicate {A = ℕ} ram 0 }
zeros_seen tables ram size e =
    let rest : size - tables ≡ ram = omega arith in
    rw (take-replicate {X = ℕ} tables size 0 (omega arith), drop-replicate {X = ℕ} tables size 0, rest) refl
