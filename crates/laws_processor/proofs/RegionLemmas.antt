-- Reads and writes of a region, by its two parts and by all its bytes.
use Rattle.std.proofs.Common.{◌≡◌, ℕ, ◌+◌, ◌-◌, ◌%◌, ◌<◌, ◌≤◌, ◌⊎◌, inl, inr, List, length, take-append-drop, refl, sym, ◌∙◌, ap, arith, true, false}
use Rattle.std.specs.Prelude.{nat_lt}
use Rattle.std.proofs.lemmas.Bool.Decides.{nat_tests}
use Rattle.std.proofs.lemmas.List.{take_at, drop_at}
use Rattle.spec_processor.specs.Bytes.{word, write_word, low_bytes, page_size}
use Rattle.spec_processor.specs.Regions.{Region, IsHostPlace, IsWidth, host_bytes, region_of, host_word, write_host}
use Rattle.laws_processor.proofs.ByteLemmas.{word_after, word_in_front, overwrite_after, overwrite_in_front, lt_or_le, length_low_bytes, length_write_word}

same_region : (r q : Region) → r.tables ≡ q.tables → r.ram ≡ q.ram → r ≡ q
same_region r q tables ram = λ i. record { tables = tables i; ram = ram i }

-- ---- places in RAM

not_in_tables : (t i : ℕ) → nat_lt (t + i) t ≡ false
not_in_tables t i = grind (arith, nat_tests)

less_tables : (t i : ℕ) → t + i - t ≡ i
less_tables t i = omega arith

-- after the tables a word is one of RAM
pub word_in_ram : (r : Region) (i n : ℕ) → host_word r (length r.tables + i) n ≡ word r.ram i n
unfolding host_word
word_in_ram r i n = rw (not_in_tables (length r.tables) i, less_tables (length r.tables) i) refl

-- and a write changes RAM alone
pub write_in_ram : (r : Region) (i n value : ℕ) → write_host r (length r.tables + i) n value ≡ record r { ram = write_word r.ram i n value }
unfolding write_host
write_in_ram r i n value = rw (not_in_tables (length r.tables) i, less_tables (length r.tables) i) refl

-- ---- all bytes

-- an aligned word that begins in whole pages ends there
pub ends_inside : (n at size : ℕ) → IsWidth n → at % n ≡ 0 → size % page_size ≡ 0 → at < size → at + n ≤ size
ends_inside n at size (inl one) aligned whole below = omega arith
ends_inside n at size (inr (inl two)) aligned whole below = let e : at % 2 ≡ 0 = rw two at aligned in omega arith
ends_inside n at size (inr (inr (inl four))) aligned whole below = let e : at % 4 ≡ 0 = rw four at aligned in omega arith
ends_inside n at size (inr (inr (inr eight))) aligned whole below = let e : at % 8 ≡ 0 = rw eight at aligned in omega arith

-- where a word begins
data Begins (t at n : ℕ) : Type 0 where
  InTables : nat_lt at t ≡ true → at + n ≤ t → Begins t at n
  InRam : (i : ℕ) → at ≡ t + i → Begins t at n

begins_by : (t at n : ℕ) → IsWidth n → at % n ≡ 0 → t % page_size ≡ 0 → (at < t) ⊎ (t ≤ at) → Begins t at n
begins_by t at n width aligned whole (inl below) = InTables (grind (arith, nat_tests)) (ends_inside n at t width aligned whole below)
begins_by t at n width aligned whole (inr above) = InRam (at - t) (omega arith)

begins : (r : Region) (at n : ℕ) → length r.tables % page_size ≡ 0 → IsHostPlace r at n → Begins (length r.tables) at n
begins r at n whole place = begins_by (length r.tables) at n place.width place.aligned whole (lt_or_le at (length r.tables))

word_there : (r : Region) (at n : ℕ) → Begins (length r.tables) at n → host_word r at n ≡ word (host_bytes r) at n
unfolding host_word
word_there r at n (InTables test fits) = rw test (sym (word_in_front r.tables r.ram at n fits))
word_there r at n (InRam i e) = rw e (word_in_ram r i n ∙ sym (word_after r.tables r.ram i n))

-- a word of the region is the word of its bytes
pub word_of_region : (r : Region) (at n : ℕ) → length r.tables % page_size ≡ 0 → IsHostPlace r at n → host_word r at n ≡ word (host_bytes r) at n
word_of_region r at n whole place = word_there r at n (begins r at n whole place)

write_there : (r : Region) (at n value : ℕ) → Begins (length r.tables) at n
    → host_bytes (write_host r at n value) ≡ write_word (host_bytes r) at n value
unfolding write_host
write_there r at n value (InTables test fits) =
    let len = length_low_bytes n value in
    rw test (sym (overwrite_in_front r.tables r.ram (low_bytes n value) at (omega arith)))
write_there r at n value (InRam i e) =
    rw e (ap host_bytes (write_in_ram r i n value) ∙ sym (overwrite_after r.tables r.ram (low_bytes n value) i))

-- a write to the region is one to its bytes
pub write_of_region : (r : Region) (at n value : ℕ) → length r.tables % page_size ≡ 0 → IsHostPlace r at n
    → host_bytes (write_host r at n value) ≡ write_word (host_bytes r) at n value
write_of_region r at n value whole place = write_there r at n value (begins r at n whole place)

tables_there : (r : Region) (at n value : ℕ) → Begins (length r.tables) at n → length (write_host r at n value).tables ≡ length r.tables
unfolding write_host
tables_there r at n value (InTables test fits) = rw test (length_write_word r.tables at n value fits)
tables_there r at n value (InRam i e) = rw e (ap (λ (q : Region). length q.tables) (write_in_ram r i n value))

-- which leaves the tables as many
pub tables_of_region : (r : Region) (at n value : ℕ) → length r.tables % page_size ≡ 0 → IsHostPlace r at n
    → length (write_host r at n value).tables ≡ length r.tables
tables_of_region r at n value whole place = tables_there r at n value (begins r at n whole place)

-- a region is its bytes and the place where RAM begins
pub region_of_bytes : (r : Region) (tables : ℕ) → length r.tables ≡ tables → region_of tables (host_bytes r) ≡ r
region_of_bytes r tables e =
    same_region (region_of tables (host_bytes r)) r (take_at r.tables r.ram tables e) (drop_at r.tables r.ram tables e)

pub bytes_of_region : (tables : ℕ) (bytes : List ℕ) → host_bytes (region_of tables bytes) ≡ bytes
bytes_of_region tables bytes = take-append-drop tables bytes

-- ---- places in the tables

-- a write there changes the tables alone
pub write_in_tables : (r : Region) (at n value : ℕ) → at < length r.tables → write_host r at n value ≡ record r { tables = write_word r.tables at n value }
unfolding write_host
write_in_tables r at n value below = let test : nat_lt at (length r.tables) ≡ true = grind (arith, nat_tests) in rw test refl

-- ---- whole pages

-- a place of the same rest in a page is as aligned
pub keeps_width : (n a b : ℕ) → IsWidth n → b % page_size ≡ a % page_size → a % n ≡ 0 → b % n ≡ 0
keeps_width n a b (inl one) same aligned = rw one (omega arith)
keeps_width n a b (inr (inl two)) same aligned = let e : a % 2 ≡ 0 = rw two at aligned in rw two (omega arith)
keeps_width n a b (inr (inr (inl four))) same aligned = let e : a % 4 ≡ 0 = rw four at aligned in rw four (omega arith)
keeps_width n a b (inr (inr (inr eight))) same aligned = let e : a % 8 ≡ 0 = rw eight at aligned in rw eight (omega arith)

pub whole_sum : (a b : ℕ) → a % page_size ≡ 0 → b % page_size ≡ 0 → (a + b) % page_size ≡ 0
whole_sum a b h k = omega arith
