-- How a hart's virtual address is translated, word by word. This project's own, over "Sv39" of the RISC-V Privileged manual.
use Rattle.std.specs.Prelude.{ℕ, ◌+◌, ◌*◌, Bool, ◌&&◌, ◌==◌, nat_lt, if◌then◌else◌, List, [], ◌∷◌, ◌++◌, length, slice_get, codes, Option, Some, None}
use Rattle.std.specs.Fmt.{decimal}
use Rattle.spec_processor.specs.Bits.{bit}
use Rattle.spec_processor.specs.Bytes.{page_of, ram_base}
use Rattle.spec_processor.specs.Registers.{sum_bit, mxr_bit}
use Rattle.spec_processor.specs.Roots.{root_mode, bare_mode}
use Rattle.spec_processor.specs.Translation.{Settings, entry_in_ram, entry_page, entry_size, is_canonical, is_leaf, is_pointer}
use Rattle.spec_processor.specs.Translation.{permits_access, root_of, sv39_indices}
use Rattle.spec_processor.specs.declared.access.Access.{Access}
use Rattle.spec_processor.specs.declared.access.Access.TheVariants.{Fetch, Load, Store}
use Rattle.spec_processor.specs.declared.mode.Mode.{Mode}
use Rattle.spec_processor.specs.declared.mode.Mode.TheVariants.{Kernel, User}
use Rattle.sv_types.specs.Output.{address_text, line_end}
use Rattle.sv_types.specs.declared.protection.Protection.{Protection}
use Rattle.spec_reference.specs.declared.saved_machine.harts.SavedHart.{SavedHart}
use Rattle.debug_views.specs.Memory.{seen_address}
use Rattle.sv_types.specs.Protections.{protection_name}

-- what the first stage of a hart goes by
abbrev pub settings_of_hart : SavedHart → Settings
settings_of_hart h = record { satp = h.satp; sum = bit h.sstatus sum_bit; mxr = bit h.sstatus mxr_bit }

-- ---- what a table word permits

abbrev pub permits : Settings → Mode → (below word : ℕ) → Access → Bool
permits s mode below word access = is_leaf below word && permits_access s mode access word

abbrev pub letter : List ℕ → Bool → List ℕ
letter name permitted = if permitted then name else codes "-"

-- loads, stores and fetches
unfoldable pub rights : Settings → Mode → (below word : ℕ) → List ℕ
rights s mode below word =
    letter (codes "r") (permits s mode below word Load)
    ++ (letter (codes "w") (permits s mode below word Store) ++ letter (codes "x") (permits s mode below word Fetch))

unfoldable pub use_text : Settings → (below word : ℕ) → List ℕ
use_text s below word =
    if is_pointer word then codes "pointer" else codes "kernel " ++ (rights s Kernel below word ++ (codes " user " ++ rights s User below word))

-- ---- the words of a walk

abbrev pub word_text : Settings → (below : ℕ) → Option ℕ → List ℕ
word_text s below None = codes "outside RAM"
word_text s below (Some word) = codes "word " ++ (address_text word ++ (codes " " ++ use_text s below word))

-- the word at an address of a table with so many levels below it
unfoldable pub level_line : Settings → (below at : ℕ) → Option ℕ → List ℕ
level_line s below at word = codes "level " ++ (decimal below ++ (codes " at " ++ (address_text at ++ (codes " " ++ (word_text s below word ++ line_end)))))

-- the table to go on from
unfoldable pub next_table : Option ℕ → Option ℕ
next_table None = None
next_table (Some word) = if is_pointer word then Some (entry_page word) else None

abbrev pub going_on : (ℕ → List ℕ) → Option ℕ → List ℕ
going_on deeper None = []
going_on deeper (Some table) = deeper table

-- a line for the word at each index in turn, from the root on, up to the first that is no pointer
unfoldable pub walk_lines : (ram : List ℕ) → Settings → (indices : List ℕ) → (table : ℕ) → List ℕ
walk_lines ram s [] table = []
walk_lines ram s (index ∷ indices) table =
    level_line s (length indices) (table + entry_size * index) (entry_in_ram ram (table + entry_size * index)) ++
    going_on (λ next. walk_lines ram s indices next) (next_table (entry_in_ram ram (table + entry_size * index)))

unfoldable pub table_lines : (ram : List ℕ) → Settings → (va : ℕ) → List ℕ
table_lines ram s va =
    if root_mode s.satp == bare_mode then codes "bare" ++ line_end
    else if is_canonical va then walk_lines ram s (sv39_indices va) (root_of s.satp)
    else codes "not canonical" ++ line_end

-- ---- the result

-- how the page of an address is guarded
abbrev pub guard_at : List Protection → (gpa : ℕ) → Option Protection
guard_at guards gpa = if nat_lt gpa ram_base then None else slice_get guards (page_of gpa)

abbrev pub guard_text : Option Protection → List ℕ
guard_text None = codes "outside RAM"
guard_text (Some guard) = protection_name guard

unfoldable pub place_line : List Protection → Option ℕ → List ℕ
place_line guards None = codes "page fault" ++ line_end
place_line guards (Some gpa) = codes "to " ++ (address_text gpa ++ (codes " " ++ (guard_text (guard_at guards gpa) ++ line_end)))

-- the words of the walk, and where a load leads with SUM and MXR set
unfoldable pub translation_text : (ram : List ℕ) → List Protection → SavedHart → (va : ℕ) → List ℕ
translation_text ram guards h va = table_lines ram (settings_of_hart h) va ++ place_line guards (seen_address ram h.satp va)
