-- The limits of what a policy names, and the numbers of bases. This project's own.
use Rattle.std.specs.Prelude.{ℕ, ◌*◌, ◌^◌}

-- the formats of a policy: the plain one, and that in which each entry is bound to its place
abbrev pub plain_format : ℕ
plain_format = 1

abbrev pub bound_format : ℕ
bound_format = 2

abbrev pub max_harts : ℕ
max_harts = 4

abbrev pub min_ram_pages : ℕ
min_ram_pages = 16

abbrev pub max_entries : ℕ
max_entries = 64

abbrev pub max_exports : ℕ
max_exports = 4096

abbrev pub max_modules : ℕ
max_modules = 64

abbrev pub max_module_pages : ℕ
max_module_pages = 1024

-- the fields of one module, and of all modules together
abbrev pub max_module_sites : ℕ
max_module_sites = 65536

abbrev pub max_sites : ℕ
max_sites = 131072

-- the bytes of a name
abbrev pub max_name_bytes : ℕ
max_name_bytes = 64

-- the bytes of a disk
abbrev pub max_disk_bytes : ℕ
max_disk_bytes = 64 * 2 ^ 20

-- the bytes of the console that a journal has room for, until they are handed on
abbrev pub max_printed : ℕ
max_printed = 4096

-- the notes that a journal keeps, and the events of a run
abbrev pub max_notes : ℕ
max_notes = 4096

abbrev pub max_events : ℕ
max_events = 2 ^ 32

-- what a field of a module's text is relocated by: the module's text, its data, nothing, and from the last on the exports
abbrev pub text_base : ℕ
text_base = 0

abbrev pub data_base : ℕ
data_base = 1

abbrev pub no_base : ℕ
no_base = 2

abbrev pub first_export_base : ℕ
first_export_base = 3
