-- What a session owes to the bytes that come in, whatever they are. This project's own.
use Rattle.std.specs.Prelude.{◌≡◌, ◌<◌, ℕ, List, ◌∷◌, ◌++◌, Result, Ok, Err}
use Rattle.host_io.specs.Outside.{SinkState, after_taking, BreaksOff, TookPrefix}
use Rattle.live_keys.specs.Keys.{KeysState, before_taking, with_front}
use Rattle.gdb_protocol.specs.Reading.{Reading, arrivals}
use Rattle.gdb_protocol.specs.FrameLaws.{arrivals_of}
use Rattle.debug_session.specs.Runs.{Run}
use Rattle.debug_session.specs.Sessions.{Desk, first_desk, written}
use Rattle.debug_session.specs.declared.breakdown.Breakdown.{Breakdown}
use Rattle.debug_session.specs.declared.breakdown.Breakdown.TheVariants.{Read, Write, Memory}

-- the bytes that a session from its beginning writes on these
abbrev pub answered : Run → (input : List ℕ) → List ℕ
answered run input = written run first_desk (arrivals_of input)

-- ---- the whole

-- these bytes came in, and those of the session were written
pub record ServesAll {T : Type 0} (stands : T → Run → Type 0) (first : T) (keys left : KeysState) (old new : SinkState) : Type 0 where
  pub input : List ℕ
  pub took : keys ≡ before_taking input left
  pub wrote : (run : Run) → stands first run → new ≡ after_taking old (answered run input)

-- the same up to a read that failed
pub record ServesUpToRead {T : Type 0} (stands : T → Run → Type 0) (first : T) (keys left : KeysState) (old new : SinkState) : Type 0 where
  pub input : List ℕ
  pub took : keys.left ≡ with_front input left.left
  pub faults : keys.faults < left.faults
  pub wrote : (run : Run) → stands first run → new ≡ after_taking old (answered run input)

-- a write failed before all of them were written
pub record ServesUpToWrite {T : Type 0} (stands : T → Run → Type 0) (first : T) (keys left : KeysState) (old new : SinkState) : Type 0 where
  pub input : List ℕ
  pub took : keys ≡ before_taking input left
  pub broke : (run : Run) → stands first run → BreaksOff old new (answered run input)

-- memory ran out, and some of them were written from their start on
pub record ServesSome {T : Type 0} (stands : T → Run → Type 0) (first : T) (keys left : KeysState) (old new : SinkState) : Type 0 where
  pub input : List ℕ
  pub took : keys ≡ before_taking input left
  pub some : (run : Run) → stands first run → TookPrefix old new (answered run input)
  pub faults : new.faults ≡ old.faults

abbrev pub Serves : {T : Type 0} (stands : T → Run → Type 0) (first : T) (keys left : KeysState) (old new : SinkState) → Result (Unit {0}) Breakdown → Type 0
Serves stands first keys left old new (Ok done) = ServesAll stands first keys left old new
Serves stands first keys left old new (Err Read) = ServesUpToRead stands first keys left old new
Serves stands first keys left old new (Err Write) = ServesUpToWrite stands first keys left old new
Serves stands first keys left old new (Err Memory) = ServesSome stands first keys left old new

-- ---- under way

-- a run stands here, and what is still written is written from here
pub record StandsAt {T : Type 0} (stands : T → Run → Type 0) (run : Run) (target : T) (desk : Desk) (reading : Reading) (input bytes : List ℕ) : Type 0 where
  pub now : Run
  pub stands_there : stands target now
  pub still : (rest : List ℕ) → answered run (input ++ rest) ≡ bytes ++ written now desk (arrivals reading rest)

-- after one byte: what was put is what is written on it
pub record Steps {T : Type 0} (stands : T → Run → Type 0) (run : Run) (desk : Desk) (reading : Reading) (byte : ℕ) (before : List ℕ)
    (target : T) (kept : Desk) (read : Reading) (bytes : List ℕ) : Type 0 where
  pub now : Run
  pub stands_there : stands target now
  pub more : List ℕ
  pub bytes_are : bytes ≡ before ++ more
  pub still : (rest : List ℕ) → written run desk (arrivals reading (byte ∷ rest)) ≡ more ++ written now kept (arrivals read rest)
