-- The commands of the program, and the words of each by their names. This project's own.
use Rattle.std.specs.Prelude.{ℕ, Bool, false, ◌==◌, List, [], ◌∷◌, Option, Some, None, codes, if◌then◌else◌}
use Rattle.std.specs.List.{list_any}
use Rattle.std.specs.Str.{bytes_eq}
use Rattle.cli_plans.specs.declared.command_words.command.DiskKind.{DiskKind}
use Rattle.cli_plans.specs.declared.command_words.table.CommandName.{CommandName}
use Rattle.cli_plans.specs.declared.command_words.table.CommandName.TheVariants as command

-- flat FILE MEASURE EVENTS
pub record FlatSplit : Type 0 where
  pub file : List ℕ
  pub wanted : List ℕ
  pub events : List ℕ

-- run IMAGE POLICY DISK SCRIPT EVENTS SAVE, or vrun with the same words
pub record RunSplit : Type 0 where
  -- which block device the machine has
  pub kind : DiskKind
  pub image : List ℕ
  pub policy : List ℕ
  pub disk : List ℕ
  pub script : List ℕ
  pub events : List ℕ
  pub save : List ℕ

-- survey IMAGE POLICY DISK SCRIPT EVENTS, or debug with the same words
pub record SurveySplit : Type 0 where
  pub image : List ℕ
  pub policy : List ℕ
  pub disk : List ℕ
  pub script : List ℕ
  pub events : List ℕ

-- live IMAGE POLICY DISK EVENTS OUT, or vlive with the same words
pub record LiveSplit : Type 0 where
  -- which block device the machine has
  pub kind : DiskKind
  pub image : List ℕ
  pub policy : List ℕ
  pub disk : List ℕ
  pub events : List ℕ
  pub out : List ℕ

-- snap IMAGE POLICY DISK SCRIPT EVENTS OUT, or vsnap or shrink with the same words
pub record SnapSplit : Type 0 where
  -- which block device the machine has
  pub kind : DiskKind
  pub image : List ℕ
  pub policy : List ℕ
  pub disk : List ℕ
  pub script : List ℕ
  pub events : List ℕ
  pub out : List ℕ

-- sweep IMAGE POLICY DISK SCHEDULE FIRST COUNT EVENTS
pub record SweepSplit : Type 0 where
  pub image : List ℕ
  pub policy : List ℕ
  pub disk : List ℕ
  pub schedule : List ℕ
  pub first : List ℕ
  pub count : List ℕ
  pub events : List ℕ

-- resume SNAPSHOT POLICY SCRIPT EVENTS SAVE
pub record ResumeSplit : Type 0 where
  pub saved : List ℕ
  pub policy : List ℕ
  pub script : List ℕ
  pub events : List ℕ
  pub save : List ℕ

-- show SNAPSHOT, or SNAPSHOT KERNEL
pub record ShowSplit : Type 0 where
  pub saved : List ℕ
  -- whose symbols name addresses, where it is given
  pub kernel : Option (List ℕ)

-- measure OUT KERNEL RAM HARTS ENTRIES INIT MODULES..
pub record MeasureSplit : Type 0 where
  pub out : List ℕ
  pub kernel : List ℕ
  pub ram : List ℕ
  pub harts : List ℕ
  pub entries : List ℕ
  pub init : List ℕ
  pub modules : List (List ℕ)

-- convert KERNEL IN OUT
pub record ConvertSplit : Type 0 where
  pub kernel : List ℕ
  -- the policy that is given
  pub given : List ℕ
  pub out : List ℕ

-- ---- the commands by their names

abbrev pub name_of : List ℕ → Option CommandName
name_of name =
    if bytes_eq name (codes "flat") then Some command.Flat
    else if bytes_eq name (codes "gen") then Some command.Generated
    else if bytes_eq name (codes "run") then Some (command.Run DiskKind.Block)
    else if bytes_eq name (codes "vrun") then Some (command.Run DiskKind.Virtio)
    else if bytes_eq name (codes "survey") then Some command.Survey
    else if bytes_eq name (codes "debug") then Some command.Debug
    else if bytes_eq name (codes "live") then Some (command.Live DiskKind.Block)
    else if bytes_eq name (codes "vlive") then Some (command.Live DiskKind.Virtio)
    else if bytes_eq name (codes "snap") then Some (command.Snap DiskKind.Block)
    else if bytes_eq name (codes "vsnap") then Some (command.Snap DiskKind.Virtio)
    else if bytes_eq name (codes "resume") then Some command.Resume
    else if bytes_eq name (codes "sweep") then Some command.Sweep
    else if bytes_eq name (codes "shrink") then Some command.Shrink
    else if bytes_eq name (codes "show") then Some command.Show
    else if bytes_eq name (codes "measure") then Some command.Measure
    else if bytes_eq name (codes "convert") then Some command.Convert
    else None

-- the names of commands that have a machine, by its block device
abbrev pub run_name : DiskKind → List ℕ
run_name DiskKind.Block = codes "run"
run_name DiskKind.Virtio = codes "vrun"

abbrev pub live_name : DiskKind → List ℕ
live_name DiskKind.Block = codes "live"
live_name DiskKind.Virtio = codes "vlive"

abbrev pub snap_name : DiskKind → List ℕ
snap_name DiskKind.Block = codes "snap"
snap_name DiskKind.Virtio = codes "vsnap"

-- ---- the words after the name, by their number

abbrev pub flat_split : List (List ℕ) → Option FlatSplit
flat_split (file ∷ wanted ∷ events ∷ []) = Some (record { file = file; wanted = wanted; events = events })
flat_split _ = None

abbrev pub gen_split : List (List ℕ) → Option (List ℕ)
gen_split (calls ∷ []) = Some calls
gen_split _ = None

abbrev pub run_split : DiskKind → List (List ℕ) → Option RunSplit
run_split kind (image ∷ policy ∷ disk ∷ script ∷ events ∷ save ∷ []) = Some (record {
  kind = kind;
  image = image;
  policy = policy;
  disk = disk;
  script = script;
  events = events;
  save = save;
})
run_split kind _ = None

abbrev pub survey_split : List (List ℕ) → Option SurveySplit
survey_split (image ∷ policy ∷ disk ∷ script ∷ events ∷ []) =
    Some (record { image = image; policy = policy; disk = disk; script = script; events = events })
survey_split _ = None

abbrev pub live_split : DiskKind → List (List ℕ) → Option LiveSplit
live_split kind (image ∷ policy ∷ disk ∷ events ∷ out ∷ []) =
    Some (record { kind = kind; image = image; policy = policy; disk = disk; events = events; out = out })
live_split kind _ = None

abbrev pub snap_split : DiskKind → List (List ℕ) → Option SnapSplit
snap_split kind (image ∷ policy ∷ disk ∷ script ∷ events ∷ out ∷ []) = Some (record {
  kind = kind;
  image = image;
  policy = policy;
  disk = disk;
  script = script;
  events = events;
  out = out;
})
snap_split kind _ = None

abbrev pub sweep_split : List (List ℕ) → Option SweepSplit
sweep_split (image ∷ policy ∷ disk ∷ schedule ∷ first ∷ count ∷ events ∷ []) = Some (record {
  image = image;
  policy = policy;
  disk = disk;
  schedule = schedule;
  first = first;
  count = count;
  events = events;
})
sweep_split _ = None

abbrev pub resume_split : List (List ℕ) → Option ResumeSplit
resume_split (saved ∷ policy ∷ script ∷ events ∷ save ∷ []) =
    Some (record { saved = saved; policy = policy; script = script; events = events; save = save })
resume_split _ = None

abbrev pub show_split : List (List ℕ) → Option ShowSplit
show_split (saved ∷ []) = Some (record { saved = saved; kernel = None })
show_split (saved ∷ kernel ∷ []) = Some (record { saved = saved; kernel = Some kernel })
show_split _ = None

abbrev pub measure_split : List (List ℕ) → Option MeasureSplit
measure_split (out ∷ kernel ∷ ram ∷ harts ∷ entries ∷ init ∷ modules) = Some (record {
  out = out;
  kernel = kernel;
  ram = ram;
  harts = harts;
  entries = entries;
  init = init;
  modules = modules;
})
measure_split _ = None

abbrev pub convert_split : List (List ℕ) → Option ConvertSplit
convert_split (kernel ∷ given ∷ out ∷ []) = Some (record { kernel = kernel; given = given; out = out })
convert_split _ = None

-- ---- words that are no names

abbrev pub hyphen : ℕ
hyphen = 45

-- a word begins with a dash
abbrev pub has_dash : List ℕ → Bool
has_dash [] = false
has_dash (first ∷ rest) = first == hyphen

-- ---- the command that words name

-- a command, and the words after its name
pub record Named : Type 0 where
  pub command : CommandName
  pub rest : List (List ℕ)

abbrev pub named_by : Option CommandName → List (List ℕ) → Option Named
named_by None rest = None
named_by (Some command) rest = Some (record { command = command; rest = rest })

abbrev pub named_shape : List (List ℕ) → Option Named
named_shape [] = None
named_shape (name ∷ rest) = named_by (name_of name) rest

-- the command that the first word names, where no word begins with a dash
unfoldable pub named_words : List (List ℕ) → Option Named
named_words words = if list_any has_dash words then None else named_shape words
