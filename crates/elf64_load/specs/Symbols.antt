-- Functions and labels among the symbols of a file, and the nearest one at or below an address.
-- ELF-64 Object File Format, "Symbol Table"; RISC-V ELF psABI, "Mapping Symbol".
use Rattle.std.specs.Prelude.{ℕ, ◌+◌, ◌-◌, ◌*◌, ◌%◌, Bool, false, not, ◌&&◌, ◌||◌, List, [], ◌∷◌, take, drop, position, ◌==◌, if◌then◌else◌}
use Rattle.std.specs.Prelude.{nat_le, nat_lt, Option, Some, None}
use Rattle.spec_processor.specs.Bytes.{word}
use Rattle.sv_types.specs.ApprovedPages.{numbers_from}
use Rattle.sv_types.specs.Elf.{shn_undef, shn_loreserve, symbol_size}
use Rattle.elf64_load.specs.Sections.{Tables, symbol_at, symbol_count}
use Rattle.elf64_load.specs.declared.sections.tables.Symbol.{Symbol}

-- ---- the numbers of the symbol table that the other readers don't need

-- where a symbol's size stands
abbrev pub st_size : ℕ
st_size = 16

-- ELF64_ST_TYPE: the type has the four low bits
abbrev pub st_type : ℕ → ℕ
st_type info = info % 16

-- a label, and a function
abbrev pub stt_notype : ℕ
stt_notype = 0

abbrev pub stt_func : ℕ
stt_func = 2

-- ---- names

-- a name and the zero byte after it have at most so many bytes, as in Linux's own table (KSYM_NAME_LEN)
abbrev pub max_symbol_bytes : ℕ
max_symbol_bytes = 512

-- mapping symbols begin with a dollar sign, and a compiler's own labels with a dot: neither is a name, nor is one of no byte
abbrev pub is_name : List ℕ → Bool
is_name [] = false
is_name (first ∷ rest) = not (first == 36) && not (first == 46)

abbrev pub if_name : List ℕ → Option (List ℕ)
if_name bytes = if is_name bytes then Some bytes else None

abbrev pub name_up_to : List ℕ → Option ℕ → Option (List ℕ)
name_up_to bytes None = None
name_up_to bytes (Some end) = if_name (take end bytes)

-- the bytes up to the first zero byte
abbrev pub name_in : List ℕ → Option (List ℕ)
name_in bytes = name_up_to bytes (position (λ b. b == 0) bytes)

-- the name that begins at a place of the table of strings
unfoldable pub name_at : List ℕ → ℕ → Option (List ℕ)
name_at strings at = name_in (take max_symbol_bytes (drop at strings))

-- ---- functions and labels

-- a function or a label, which a section of the file defines
abbrev pub is_of_code : Symbol → Bool
is_of_code s = (st_type s.info == stt_func || st_type s.info == stt_notype) && not (s.section == shn_undef) && nat_lt s.section shn_loreserve

-- a size of 0 says that none is known
pub record CodeSymbol : Type 0 where
  pub address : ℕ
  pub size : ℕ
  pub is_function : Bool
  pub name : List ℕ

abbrev pub size_at : List ℕ → ℕ → ℕ
size_at symbols i = word symbols (symbol_size * i + st_size) 8

abbrev pub is_function : Symbol → Bool
is_function s = st_type s.info == stt_func

abbrev pub code_symbol : Symbol → (size : ℕ) → List ℕ → CodeSymbol
code_symbol s size name = record { address = s.value; size = size; is_function = is_function s; name = name }

-- ---- the nearest one

-- of two the nearer one has the greater address; at one address a function is nearer than a label, and else the first of the file
abbrev pub is_nearer : CodeSymbol → Symbol → Bool
is_nearer later s = nat_lt s.value later.address || (later.address == s.value && later.is_function && not (is_function s))

abbrev pub is_farther : Symbol → Option CodeSymbol → Bool
is_farther s None = false
is_farther s (Some later) = is_nearer later s

-- a symbol may be the nearest where it isn't above the address, and none of the later ones is nearer
abbrev pub may_be_nearest : (address : ℕ) → Symbol → Option CodeSymbol → Bool
may_be_nearest address s later = is_of_code s && nat_le s.value address && not (is_farther s later)

-- without a name it is none
abbrev pub named_or : Symbol → (size : ℕ) → Option (List ℕ) → Option CodeSymbol → Option CodeSymbol
named_or s size None later = later
named_or s size (Some name) later = Some (code_symbol s size name)

-- the nearest of the symbol at a place and of those after it
unfoldable pub nearest_with : Tables → (address : ℕ) → ℕ → Option CodeSymbol → Option CodeSymbol
nearest_with t address i later =
    if may_be_nearest address (symbol_at t.symbols i) later
    then named_or (symbol_at t.symbols i) (size_at t.symbols i) (name_at t.strings (symbol_at t.symbols i).name) later
    else later

abbrev pub nearest_of : Tables → (address : ℕ) → List ℕ → Option CodeSymbol
nearest_of t address [] = None
nearest_of t address (i ∷ is) = nearest_with t address i (nearest_of t address is)

-- the nearest of all symbols
unfoldable pub nearest : Tables → (address : ℕ) → Option CodeSymbol
nearest t address = nearest_of t address (numbers_from 0 (symbol_count t.symbols))

-- ---- names of addresses

-- a name, and how far an address is from it
pub record Location : Type 0 where
  pub name : List ℕ
  pub offset : ℕ

-- within its size, where it has one
abbrev pub reaches : CodeSymbol → ℕ → Bool
reaches s address = s.size == 0 || nat_lt (address - s.address) s.size

abbrev pub location_at : ℕ → CodeSymbol → Location
location_at address s = record { name = s.name; offset = address - s.address }

abbrev pub location_by : ℕ → Option CodeSymbol → Option Location
location_by address None = None
location_by address (Some s) = if reaches s address then Some (location_at address s) else None

-- the name of an address by the symbols
unfoldable pub location_of : Tables → ℕ → Option Location
location_of t address = location_by address (nearest t address)
