-- A region of host memory, byte by byte: the table part, where page tables lie, and after it guest RAM.
-- RISC-V Privileged manual, "Two-Stage Address Translation": host places are supervisor-physical addresses.
use Rattle.std.specs.Prelude.{◌≡◌, ℕ, ◌+◌, ◌-◌, ◌*◌, ◌≤◌, ◌<◌, ◌%◌, ◌^◌, ◌⊎◌, List, ◌++◌, length, take, drop, nat_lt, if◌then◌else◌, refl}
use Rattle.std.specs.Coded.{Coded, code_by, coded×, coded_list, coded_ℕ}
use Rattle.spec_processor.specs.Bytes.{word, write_word, page_size}

pub record Region : Type 0 where
  pub tables : List ℕ
  pub ram : List ℕ

abbrev pub region_code : Coded Region
region_code = code_by (List ℕ ×
    List ℕ) (coded× (coded_list coded_ℕ) (coded_list coded_ℕ)) (λ r. (r.tables, r.ram)) (λ p. record { tables = p.0; ram = p.1 }) (λ _. refl)

-- all bytes, in the order of their host places
abbrev pub host_bytes : Region → List ℕ
host_bytes r = r.tables ++ r.ram

-- the region of these bytes whose table part has so many
abbrev pub region_of : ℕ → List ℕ → Region
region_of tables bytes = record { tables = take tables bytes; ram = drop tables bytes }

-- the word of n bytes at a host place, which lies in the tables or after them in RAM
unfoldable pub host_word : Region → ℕ → ℕ → ℕ
host_word r at n = if nat_lt at (length r.tables) then word r.tables at n else word r.ram (at - length r.tables) n

-- the region with the n lowest bytes of a value written at a host place
unfoldable pub write_host : Region → ℕ → ℕ → ℕ → Region
write_host r at n value =
    if nat_lt at (length r.tables)
    then record r { tables = write_word r.tables at n value }
    else record r { ram = write_word r.ram (at - length r.tables) n value }

-- the widths of memory accesses
abbrev pub IsWidth : ℕ → Type 0
IsWidth n = (n ≡ 1) ⊎ ((n ≡ 2) ⊎ ((n ≡ 4) ⊎ (n ≡ 8)))

-- a word of n bytes may be read and written at a host place
pub record IsHostPlace (r : Region) (at n : ℕ) : Type 0 where
  pub width : IsWidth n
  pub aligned : at % n ≡ 0
  pub inside : at + n ≤ length r.tables + length r.ram

-- the most pages of guest RAM
abbrev pub max_ram_pages : ℕ
max_ram_pages = 262144

-- what holds of every region: whole pages in both parts, and a number of RAM pages within the limit
pub record IsRegion (r : Region) : Type 0 where
  pub tables : length r.tables % page_size ≡ 0
  pub ram : length r.ram % page_size ≡ 0
  pub most : length r.ram ≤ page_size * max_ram_pages
  pub small : length r.tables + length r.ram < 2 ^ 63
