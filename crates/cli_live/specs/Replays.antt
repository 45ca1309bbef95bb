-- That `run` replays what `live` did, and `vrun` what `vlive` did: what it is due, where the text that was saved is its script.
use Rattle.std.specs.Prelude.{◌≡◌, ◌<◌, ◌≤◌, ◌⊎◌, ℕ, List, [], ◌∷◌, length, Bool, true, false, IsTrue, Option, Some, None}
use Rattle.std.specs.Fmt.{decimal}
use Rattle.sv_types.specs.Limits.{max_events}
use Rattle.sv_types.specs.declared.event.Event.{Event}
use Rattle.sv_types.specs.declared.status.Status.{Status}
use Rattle.sv_types.specs.Output.{run_status}
use Rattle.spec_reference.specs.Disk.{disk_bytes}
use Rattle.spec_reference.specs.States.{State}
use Rattle.spec_reference.specs.Report.{output}
use Rattle.spec_reference.specs.Run.{run}
use Rattle.spec_hardware.specs.Machine.{Machine}
use Rattle.cli_plans.specs.Commands.{has_dash, live_name, run_name}
use Rattle.cli_plans.specs.declared.command_words.command.DiskKind.{DiskKind}
use Rattle.host_io.specs.Outside.{after_taking}
use Rattle.live_keys.specs.Keys.{KeysState}
use Rattle.cli_plans.specs.CommandLine.{Text, judgement_of_words, source_of, unless_none}
use Rattle.secvisor_cli.specs.DueIn.{due_in}
use Rattle.cli_plans.specs.Plans.{RunFrom, plan_of}
use Rattle.cli_live.specs.LiveAnswers.{LiveOutside}

-- ---- the words

-- live IMAGE POLICY DISK EVENTS OUT, or vlive with the same words
pub record LiveLine : Type 0 where
  -- which block device the machine has
  pub kind : DiskKind
  pub image : List ℕ
  pub policy : List ℕ
  pub disk : List ℕ
  pub events : List ℕ
  pub out : List ℕ

abbrev pub live_line : LiveLine → List (List ℕ)
live_line line = live_name line.kind ∷ line.image ∷ line.policy ∷ line.disk ∷ line.events ∷ line.out ∷ []

-- run IMAGE POLICY DISK SCRIPT EVENTS SAVE, or vrun, over the same device, where the first three words are those of the live run
abbrev pub run_line : LiveLine → (script : List ℕ) → (events : ℕ) → (save : List ℕ) → List (List ℕ)
run_line line script events save =
    run_name line.kind ∷ line.image ∷ line.policy ∷ line.disk ∷ script ∷ decimal events ∷ save ∷ []

-- a word that `run` takes for the name of its script's file
pub record NamesScript (word : List ℕ) : Type 0 where
  pub dash : has_dash word ≡ false
  pub file : source_of word ≡ Some (Text word)

-- ---- what is read

-- the bytes of a run's parts
pub record Parts : Type 0 where
  pub image : List ℕ
  pub policy : List ℕ
  pub disk : List ℕ

-- a disk without a name is empty
abbrev pub HoldDisk : (held : List ℕ → Option (List ℕ)) → (name : Option (List ℕ)) → List ℕ → Type 0
HoldDisk held None bytes = bytes ≡ []
HoldDisk held (Some name) bytes = held name ≡ Some bytes

-- the names of the line hold these parts
pub record HoldParts (held : List ℕ → Option (List ℕ)) (line : LiveLine) (parts : Parts) : Type 0 where
  pub image : held line.image ≡ Some parts.image
  pub policy : held line.policy ≡ Some parts.policy
  pub disk : HoldDisk held (unless_none line.disk) parts.disk

-- ---- the replay

-- the status of a run that came to its end
abbrev pub is_of_run : Status → Bool
is_of_run Status.Done = true
is_of_run Status.Stopped = true
is_of_run Status.Ended = true
is_of_run Status.Usage = false
is_of_run Status.Refused = false
is_of_run Status.ReadFault = false
is_of_run Status.WriteFault = false
is_of_run Status.Memory = false

-- The run came to its end, and all that it owes was written and saved. Status 4 says so only where a read of the keys failed.
abbrev pub HasEnded : (answer : Status) → (old new : KeysState) → Type 0
HasEnded answer old new = IsTrue (is_of_run answer) ⊎ ((answer ≡ Status.ReadFault) × (old.faults < new.faults))

-- There is one run, from a start over a journal. The live run wrote its output, answered its status, left its disk in the machine and
-- saved a text; and `run`, or `vrun` after `vlive`, over that text is due this very run.
pub record Replays (line : LiveLine) (old new : LiveOutside) (answer : Status) : Type 0 where
  pub start : State
  pub journal : List Event
  -- what was read
  pub parts : Parts
  pub found : IsTrue old.files.tells → HoldParts old.files.held line parts
  -- what was saved
  pub text : List ℕ
  pub saved : IsTrue old.files.tells → new.files.held line.out ≡ Some text
  pub bytes : new.sink ≡ after_taking old.sink (output (run start journal))
  pub status : (answer ≡ run_status (run start journal).journal.verdict) ⊎ ((answer ≡ Status.ReadFault) × (old.keys.faults < new.keys.faults))
  pub disk : (machine : Machine) × (new.bench ≡ Some machine) × (disk_bytes machine.devices.disk ≡ disk_bytes (run start journal).devices.disk)
  pub few : length journal ≤ max_events
  -- in all files that hold the same parts, and the text under a name of their own, with at least as many events
  pub again : (held : List ℕ → Option (List ℕ)) (script : List ℕ) (events : ℕ) (save : List ℕ) → HoldParts held line parts → held script ≡ Some text →
      NamesScript script → has_dash save ≡ false → length journal ≤ events → events ≤ max_events →
      due_in held (plan_of (judgement_of_words (run_line line script events save))) ≡ RunFrom start journal (unless_none save)
