-- What files and a sink mean to the program: what they hold and took, where they tell it, what may be asked of them, and
-- how often they failed.
use Rattle.std.specs.Prelude.{◌≡◌, ◌≢◌, ◌<◌, ◌≤◌, ℕ, List, [], ◌∷◌, ◌++◌, length, Bool, IsTrue, Option, Some, None, Result, Ok, Err, Vec}
use Rattle.spec_processor.specs.Counters.{CanCount}
use Rattle.std.specs.declared.alloc.Global.{Global}
use Rattle.host_io.specs.declared.FileRefusal.{FileRefusal}
use Rattle.host_io.specs.declared.FileRefusal.TheVariants.{Absent, Failed, TooLong, Memory}

-- ---- files

pub record FilesState : Type 0 where
  -- the files tell what they hold
  pub tells : Bool
  -- what each name holds
  pub held : List ℕ → Option (List ℕ)
  -- the names that may be asked for from now on, one after another, each with the most bytes that may be read of it
  pub permits : List (List ℕ × ℕ) → Bool
  -- the names that may be saved under from now on, one after another, each with its bytes
  pub permits_save : List (List ℕ × List ℕ) → Bool
  -- the names under which, as the files know, no file can be made
  pub bars : List ℕ → Bool
  -- how often a read failed, and how often a save or the try of one
  pub read_faults : ℕ
  pub save_faults : ℕ

-- the files once a name was asked for with a limit: what was permitted after that is permitted now
abbrev pub after_asking : (name : List ℕ) → (limit : ℕ) → FilesState → FilesState
after_asking name limit files = record files { permits = λ asked. files.permits ((name, limit) ∷ asked) }

-- the files once bytes were saved under a name, or the save failed: what was permitted after that is permitted now
abbrev pub after_saving : (name bytes : List ℕ) → FilesState → FilesState
after_saving name bytes files = record files { permits_save = λ saves. files.permits_save ((name, bytes) ∷ saves) }

-- any bytes may be saved under the name, once
abbrev pub MaySaveUnder : (name : List ℕ) → FilesState → Type 0
MaySaveUnder name files = (bytes : List ℕ) → IsTrue (files.permits_save ((name, bytes) ∷ []))

-- some bytes may be saved under the name
abbrev pub MayTry : (name : List ℕ) → FilesState → Type 0
MayTry name files = (bytes : List ℕ) × IsTrue (files.permits_save ((name, bytes) ∷ []))

-- no file can be made under a name that was tried: that is counted, and all else stays
pub record TryFails (old new : FilesState) : Type 0 where
  pub faults : old.save_faults < new.save_faults
  pub leaves : new ≡ record old { save_faults = new.save_faults }

-- the files after an answer to a read: a failure raises the count of reads alone
abbrev pub ReadLeaves : FilesState → FilesState → List ℕ → ℕ → Result (Vec ℕ Global) FileRefusal → Type 0
ReadLeaves old new name limit (Ok bytes) = new ≡ after_asking name limit old
ReadLeaves old new name limit (Err Absent) = new ≡ after_asking name limit old
ReadLeaves old new name limit (Err TooLong) = new ≡ after_asking name limit old
ReadLeaves old new name limit (Err Memory) = new ≡ after_asking name limit old
ReadLeaves old new name limit (Err Failed) =
    (old.read_faults < new.read_faults) × (new ≡ record (after_asking name limit old) { read_faults = new.read_faults })

-- what an answer to a read says of the name's bytes
abbrev pub ReadTells : FilesState → List ℕ → ℕ → Result (Vec ℕ Global) FileRefusal → Type 0
ReadTells files name limit (Ok bytes) = (length bytes.items ≤ limit) × (IsTrue files.tells → files.held name ≡ Some bytes.items)
ReadTells files name limit (Err Absent) = IsTrue files.tells × (files.held name ≡ None)
ReadTells files name limit (Err TooLong) =
    (bytes : List ℕ) × (limit < length bytes) × (IsTrue files.tells → files.held name ≡ Some bytes)
ReadTells files name limit (Err Failed) = Unit {0}
ReadTells files name limit (Err Memory) = Unit {0}

-- ---- a sink

pub record SinkState : Type 0 where
  -- the bytes taken so far, where the sink tells them
  pub taken : Option (List ℕ)
  -- the sink may be written to. Nothing says so after a write that failed
  pub is_open : Bool
  -- how often a write failed
  pub faults : ℕ

-- the sink may be written to, and a failure counted
pub record MayWrite (sink : SinkState) : Type 0 where
  pub is_open : IsTrue sink.is_open
  pub count : CanCount sink.faults

abbrev pub append_bytes : Option (List ℕ) → List ℕ → Option (List ℕ)
append_bytes None bytes = None
append_bytes (Some taken) bytes = Some (taken ++ bytes)

-- the sink when it has taken these bytes more
abbrev pub after_taking : SinkState → List ℕ → SinkState
after_taking sink bytes = record sink { taken = append_bytes sink.taken bytes }

-- a write failed, and took nothing
pub record WriteFails (old new : SinkState) : Type 0 where
  pub taken : new.taken ≡ old.taken
  pub faults : old.faults < new.faults

-- the sink took some of these bytes from their start on, perhaps all
pub record TookPrefix (old new : SinkState) (bytes : List ℕ) : Type 0 where
  pub written : List ℕ
  pub left : List ℕ
  pub whole : written ++ left ≡ bytes
  pub taken : new.taken ≡ append_bytes old.taken written

-- a write failed before the sink had taken all of these bytes
pub record BreaksOff (old new : SinkState) (bytes : List ℕ) : Type 0 where
  pub prefix : TookPrefix old new bytes
  pub some_left : prefix.left ≢ []
  pub faults : old.faults < new.faults
