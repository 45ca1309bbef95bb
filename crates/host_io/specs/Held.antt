-- Files in memory: names with their bytes, of which the first of a name counts.
use Rattle.std.specs.Prelude.{◌<◌, ◌≤◌, ◌==◌, ◌&&◌, ◌||◌, not, nat_lt, nat_le, ℕ, length, vec_capacity, All, List, Bool, true, false, find}
use Rattle.std.specs.Prelude.{map, option_map, Option, Some, None, Vec}
use Rattle.std.specs.List.{list_any}
use Rattle.std.specs.Str.{bytes_eq}
use Rattle.std.specs.declared.alloc.Global.{Global}
use Rattle.spec_processor.specs.Counters.{next_count}
use Rattle.sv_types.specs.Limits.{max_name_bytes}
use Rattle.host_io.specs.declared.FileRefusal.{FileRefusal}
use Rattle.host_io.specs.declared.FileRefusal.TheVariants.{Absent, Failed, TooLong, Memory}
use Rattle.host_io.specs.Outside.{FilesState, SinkState}

-- a name and its bytes
abbrev pub File : Type 0
File = List ℕ × Vec ℕ Global

abbrev pub has_name : List ℕ → File → Bool
has_name name file = bytes_eq file.0 name

abbrev pub file_bytes : File → List ℕ
file_bytes file = file.1.items

-- the names and their bytes
abbrev pub contents : List File → List (List ℕ × List ℕ)
contents files = map (λ file. (file.0, file_bytes file)) files

-- the bytes of a name
abbrev pub held_in : List File → List ℕ → Option (List ℕ)
held_in files name = option_map file_bytes (find (has_name name) files)

-- a name is one of these
abbrev pub is_barred : List (List ℕ) → List ℕ → Bool
is_barred barred name = list_any (λ one. bytes_eq one name) barred

-- with the names under which no file can be made
abbrev pub memory_state : List File → (barred : List (List ℕ)) → (read_faults save_faults : ℕ) → FilesState
memory_state files barred read_faults save_faults = record {
  tells = true;
  held = held_in files;
  permits = λ asked. true;
  permits_save = λ saves. true;
  bars = is_barred barred;
  read_faults = read_faults;
  save_faults = save_faults;
}

-- each of the spare rooms holds so many bytes
abbrev pub HaveRoom : ℕ → List (Vec ℕ Global) → Type 0
HaveRoom room spare = All (λ (v : Vec ℕ Global). room ≤ vec_capacity v) spare

-- ---- which calls fail

-- the call after so many calls is one of those that are to fail
abbrev pub is_to_fail : List ℕ → ℕ → Bool
is_to_fail failing calls = list_any (λ number. number == next_count calls) failing

-- a text that can be a name has one byte at least, and no more than a name may have
abbrev pub is_name_text : List ℕ → Bool
is_name_text text = nat_lt 0 (length text) && nat_le (length text) max_name_bytes

-- A save fails: its number is listed, it is beyond the room that is left, the text is no name, or no file more has a place.
abbrev pub save_fails : (failing : List ℕ) → (saves room places : ℕ) → (name bytes : List ℕ) → Bool
save_fails failing saves room places name bytes =
    is_to_fail failing saves || nat_lt room (length bytes) || not (is_name_text name && not (places == 0))

-- more bytes than the limit, or out of memory
abbrev pub IsTooLongOrMemory : ℕ → ℕ → FileRefusal → Type 0
IsTooLongOrMemory size limit Absent = ⊥
IsTooLongOrMemory size limit Failed = ⊥
IsTooLongOrMemory size limit TooLong = limit < size
IsTooLongOrMemory size limit Memory = Unit {0}

abbrev pub memory_sink : List ℕ → ℕ → SinkState
memory_sink taken faults = record { taken = Some taken; is_open = true; faults = faults }

-- ---- real files and standard output tell nothing of content, and any name may be asked for

abbrev pub real_state : ℕ → ℕ → FilesState
real_state read_faults save_faults = record {
  tells = false;
  held = λ name. None;
  permits = λ asked. true;
  permits_save = λ saves. true;
  bars = λ name. false;
  read_faults = read_faults;
  save_faults = save_faults;
}

abbrev pub real_sink : ℕ → SinkState
real_sink faults = record { taken = None; is_open = true; faults = faults }
