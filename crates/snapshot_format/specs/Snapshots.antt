-- The bytes of a snapshot: a machine's parts one after the other, RAM last. This project's own.
use Rattle.std.specs.Prelude.{ℕ, ◌*◌, ◌^◌, List, length, take, drop, Bool, Option, Result, Ok, Err, codes, nat_lt, nat_le, ◌==◌, if◌then◌else◌}
use Rattle.std.specs.Str.{bytes_eq}
use Rattle.spec_reference.specs.declared.saved_machine.harts.SavedHart.{SavedHart}
use Rattle.spec_reference.specs.declared.saved_machine.whole.SavedLoad.{SavedLoad}
use Rattle.snapshot_format.specs.DeviceForms.{Devices, devices, kind_of}
use Rattle.sv_types.specs.Steps.{◌>>=◌}
use Rattle.snapshot_format.specs.Forms.{Taken, Form, number, plain, within, and_then, ◌⨾◌, map_form, always}
use Rattle.snapshot_format.specs.HartForms.{harts}
use Rattle.snapshot_format.specs.JournalForms.{JournalParts, journal}
use Rattle.snapshot_format.specs.PageForms.{Pages, pages, Gate, gate}
use Rattle.snapshot_format.specs.declared.refusal.SnapRefusal.TheVariants.{TooLong, OtherLength, OtherBeginning}
use Rattle.snapshot_format.specs.declared.refusal.SnapRefusal.{SnapRefusal}
use Rattle.snapshot_format.specs.declared.whole.PortKind.{PortKind}
use Rattle.snapshot_format.specs.declared.whole.PortKind.TheVariants.{Block, Virtio}
use Rattle.snapshot_format.specs.declared.whole.Snapshot.{Snapshot}
use Rattle.snapshot_format.specs.declared.whole.TextPage.{TextPage}
use Rattle.spec_processor.specs.Bytes.{page_size}
use Rattle.sv_types.specs.Limits.{max_events}
use Rattle.sv_types.specs.Policies.{harts_within, ram_pages_within}
use Rattle.sv_types.specs.declared.event.Counts.{Counts}
use Rattle.sv_types.specs.declared.event.Note.{Note}
use Rattle.sv_types.specs.declared.event.Verdict.{Verdict}
use Rattle.sv_types.specs.declared.port.PortState.{PortState}
use Rattle.sv_types.specs.declared.saved.ModulePlacement.{ModulePlacement}
use Rattle.sv_types.specs.declared.protection.Protection.{Protection}

-- ---- the beginning

-- by the device that the disk is behind
abbrev pub magic : PortKind → List ℕ
magic Block = codes "SVSNAP01"
magic Virtio = codes "SVSNAP02"

abbrev pub magic_size : ℕ
magic_size = 8

unfoldable pub magic_at : List ℕ → Taken PortKind
magic_at bytes =
    if nat_lt (length bytes) magic_size then Err OtherLength
    else if bytes_eq (take magic_size bytes) (magic Block) then Ok (Block, drop magic_size bytes)
    else if bytes_eq (take magic_size bytes) (magic Virtio) then Ok (Virtio, drop magic_size bytes)
    else Err OtherBeginning

abbrev pub magic_form : Form PortKind
magic_form = record { encode = magic; has = always; taken = magic_at }

-- the kind of the device, events, harts, pages of RAM, time
pub record Header : Type 0 where
  pub kind : PortKind
  pub events : ℕ
  pub harts : ℕ
  pub ram_pages : ℕ
  pub time : ℕ

abbrev pub header_by : PortKind → (events hart_count ram_pages time : ℕ) → Header
header_by kind events hart_count ram_pages time = record { kind = kind; events = events; harts = hart_count; ram_pages = ram_pages; time = time }

abbrev pub HeaderParts : Type 0
HeaderParts = PortKind × (ℕ × (ℕ × (ℕ × ℕ)))

abbrev pub header_of : HeaderParts → Header
header_of x = record { kind = x.0; events = x.1.0; harts = x.1.1.0; ram_pages = x.1.1.1.0; time = x.1.1.1.1 }

abbrev pub header_parts : Header → HeaderParts
header_parts h = (h.kind, (h.events, (h.harts, (h.ram_pages, h.time))))

-- no more than 2^32 events
abbrev pub events_made : Form ℕ
events_made = within (λ n. nat_le n max_events) number

abbrev pub hart_count : Form ℕ
hart_count = within harts_within number

abbrev pub page_count : Form ℕ
page_count = within ram_pages_within number

unfoldable pub header : Form Header
header = map_form header_of header_parts always (magic_form ⨾ (events_made ⨾ (hart_count ⨾ (page_count ⨾ number))))

-- ---- the whole

-- what a snapshot says, as plain values
pub record Contents : Type 0 where
  pub events : ℕ
  pub time : ℕ
  pub harts : List SavedHart
  pub protection : List Protection
  pub text : List TextPage
  pub modules : List ModulePlacement
  pub retired : Bool
  pub loading : Option SavedLoad
  pub console : List ℕ
  pub port : PortState
  pub disk : List ℕ
  pub counts : Counts
  pub notes : List Note
  pub verdict : Verdict
  pub ram : List ℕ

abbrev pub contents : Snapshot → Contents
contents s = record {
  events = s.events;
  time = s.«machine».time;
  harts = s.«machine».harts.items;
  protection = s.«machine».protection.items;
  text = s.text.items;
  modules = s.«machine».modules.items;
  retired = s.«machine».retired;
  loading = s.«machine».loading;
  console = s.«machine».console.items;
  port = s.«machine».port;
  disk = s.«machine».disk.items;
  counts = s.«machine».counts;
  notes = s.«machine».notes.items;
  verdict = s.«machine».verdict;
  ram = s.«machine».ram.items;
}

abbrev pub Body : Type 0
Body = List SavedHart × (Pages × (Gate × (Devices × (JournalParts × List ℕ))))

unfoldable pub body : Header → Form Body
body h =
    and_then (harts h.ram_pages h.harts)
    (λ hs. pages h.ram_pages ⨾ (gate hs ⨾ (devices h.kind ⨾ (journal h.events h.harts ⨾ plain (page_size * h.ram_pages)))))

abbrev pub whole_of : Header × Body → Contents
whole_of x = record {
  events = x.0.events;
  time = x.0.time;
  harts = x.1.0;
  protection = x.1.1.0.0;
  text = x.1.1.0.1;
  modules = x.1.1.1.0.0;
  retired = x.1.1.1.0.1.0;
  loading = x.1.1.1.0.1.1;
  console = x.1.1.1.1.0.0;
  port = x.1.1.1.1.0.1.0;
  disk = x.1.1.1.1.0.1.1;
  counts = x.1.1.1.1.1.0.0;
  notes = x.1.1.1.1.1.0.1.0;
  verdict = x.1.1.1.1.1.0.1.1;
  ram = x.1.1.1.1.1.1;
}

-- the kind is the device's, and the numbers of harts and of pages are those of their lists
abbrev pub whole_header : Contents → Header
whole_header s = record { kind = kind_of s.port; events = s.events; harts = length s.harts; ram_pages = length s.protection; time = s.time }

abbrev pub whole_body : Contents → Body
whole_body s = (
  s.harts,
  (
    (s.protection, s.text),
    (
      (s.modules, (s.retired, s.loading)),
      (
        (s.console, (s.port, s.disk)),
        ((s.counts, (s.notes, s.verdict)), s.ram),
      ),
    ),
  ),
)

unfoldable pub snapshot : Form Contents
snapshot = map_form whole_of (λ s. (whole_header s, whole_body s)) always (and_then header body)

-- ---- files

abbrev pub max_snapshot_bytes : ℕ
max_snapshot_bytes = 1300 * 2 ^ 20

-- nothing stands after it
abbrev pub if_at_end : Contents × List ℕ → Result Contents SnapRefusal
if_at_end x = if length x.1 == 0 then Ok x.0 else Err OtherLength

-- what bytes are: a snapshot, or why they are none
unfoldable pub snapshot_read : List ℕ → Result Contents SnapRefusal
snapshot_read bytes = if nat_lt max_snapshot_bytes (length bytes) then Err TooLong else snapshot.taken bytes >>= if_at_end
