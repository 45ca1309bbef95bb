-- The policy of format 2 that one of format 1 becomes: each entry is bound to its place in the kernel's text. This
-- project's own.
use Rattle.std.specs.Prelude.{ℕ, ◌+◌, ◌-◌, ◌%◌, Bool, ◌&&◌, ◌==◌, nat_le, nat_lt, List, [], ◌∷◌, ◌++◌, find, fold, if◌then◌else◌, Option, Some, None, Ok, Err}
use Rattle.std.specs.List.{list_any}
use Rattle.std.specs.Str.{bytes_eq}
use Rattle.spec_processor.specs.Bytes.{page_size}
use Rattle.sv_types.specs.Limits.{plain_format, bound_format}
use Rattle.sv_types.specs.Kernel.{LoadedSegment, text_of}
use Rattle.sv_types.specs.Measure.{measure}
use Rattle.sv_types.specs.Policies.{Rules}
use Rattle.sv_types.specs.Steps.{◌>>=◌}
use Rattle.elf64_load.specs.Judged.{each}
use Rattle.policy_making.specs.Faults.{Judged}
use Rattle.policy_making.specs.declared.bind_fault.BindFault.TheVariants.{Convert, Measure}
use Rattle.policy_making.specs.declared.bind_fault.ConvertFault.TheVariants.{OtherFormat, NoPlace, OtherByte}

-- ---- the place of an entry

-- the memory of an executable segment, from this address on, holds the entry
abbrev pub holds_from : (start entry : ℕ) → LoadedSegment → Bool
holds_from start entry s = s.executable && (nat_le start entry && nat_lt entry (start + s.memory))

-- by its virtual address
abbrev pub maps : (entry : ℕ) → LoadedSegment → Bool
maps entry s = holds_from s.va entry s

-- by its guest-physical address
abbrev pub holds : (entry : ℕ) → LoadedSegment → Bool
holds entry s = holds_from s.gpa entry s

abbrev pub place_in : (entry : ℕ) → LoadedSegment → ℕ
place_in entry s = s.gpa + (entry - s.va)

-- where no segment maps it, the entry itself, if it lies in one
abbrev pub place_by : List LoadedSegment → (entry : ℕ) → Option LoadedSegment → Option ℕ
place_by ss entry (Some s) = Some (place_in entry s)
place_by ss entry None = if list_any (holds entry) ss then Some entry else None

-- in the first segment of the image that maps it
unfoldable pub place_of : List LoadedSegment → (entry : ℕ) → Option ℕ
place_of ss entry = place_by ss entry (find (maps entry) ss)

-- ---- bound entries

-- a place is where the entry is in its page
abbrev pub at_place : (entry : ℕ) → Option ℕ → Judged ℕ
at_place entry None = Err (Convert NoPlace)
at_place entry (Some gpa) = if gpa % page_size == entry % page_size then Ok gpa else Err (Convert OtherByte)

-- the guest-physical address that an entry is bound to
unfoldable pub bound_place : List LoadedSegment → (entry : ℕ) → Judged ℕ
bound_place ss entry = at_place entry (place_of ss entry)

abbrev pub with_entry : List ℕ → (entry : ℕ) → List ℕ
with_entry before entry = if list_any (λ e. e == entry) before then before else before ++ entry ∷ []

-- each entry once, where it stands first
unfoldable pub each_once : List ℕ → List ℕ
each_once entries = fold with_entry [] entries

-- in order
abbrev pub bound_places : List LoadedSegment → (entries : List ℕ) → Judged (List ℕ)
bound_places ss entries = each (bound_place ss) [] entries

-- ---- the policy

abbrev pub with_places : Rules → (entries places : List ℕ) → Rules
with_places r entries places = record r { format = bound_format; entries = entries; bound = places }

unfoldable pub entries_bound : Rules → List LoadedSegment → Judged Rules
entries_bound r ss = bound_places ss (each_once r.entries) >>= λ places. Ok (with_places r (each_once r.entries) places)

-- after the format
unfoldable pub measured_bound : Rules → List LoadedSegment → (digest : List ℕ) → Judged Rules
measured_bound r ss digest = if bytes_eq digest r.kernel then entries_bound r ss else Err (Measure digest r.kernel)

-- the format is judged first, then the measure of the kernel's text, then entry by entry
unfoldable pub bound_rules : Rules → List LoadedSegment → Judged Rules
bound_rules r ss = if r.format == plain_format then measured_bound r ss (measure (text_of ss)) else Err (Convert OtherFormat)
