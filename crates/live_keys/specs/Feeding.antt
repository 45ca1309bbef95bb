-- What a feeder takes from keys for its line.
use Rattle.std.specs.Prelude.{◌≡◌, ◌<◌, ◌≤◌, ◌⊎◌, [], Bool, true, false, length, Option, Some, None}
use Rattle.atomic_table.specs.Seated.{TableId}
use Rattle.live_keys.specs.Keys.{KeysState, with_front, IsAtEnd}
use Rattle.live_keys.specs.Line.{Feeding, max_keys}

-- a feeder that came with this line and has sent nothing
abbrev pub IsFresh : TableId → Option Feeding → Type 0
IsFresh line None = ⊥
IsFresh line (Some feeder) = (feeder.line ≡ line) × (feeder.bytes ≡ [])

-- the feeder's list is the bytes that were taken from the keys: all up to their end, a fault, or the most that are sent
pub record Feeds (own : TableId) (old new : KeysState) (feeder : Feeding) (broke : Bool) : Type 0 where
  pub line : feeder.line ≡ own
  pub taken : old.left ≡ with_front feeder.bytes new.left
  pub few : length feeder.bytes ≤ max_keys
  pub all : broke ≡ false → (length feeder.bytes ≡ max_keys) ⊎ IsAtEnd new.left
  pub failed : broke ≡ true → old.faults < new.faults
  pub no_fault : broke ≡ false → new.faults ≡ old.faults
