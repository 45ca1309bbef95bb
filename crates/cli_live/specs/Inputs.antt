-- What a live run takes of its input.
use Rattle.std.specs.Prelude.{◌≡◌, ◌<◌, ◌≤◌, ◌⊎◌, ℕ, List, Bool, true, false, length}
use Rattle.live_keys.specs.Keys.{KeysState, with_front, IsAtEnd}
use Rattle.live_keys.specs.Line.{StartsWith, max_keys}
use Rattle.cli_live.specs.declared.threads.LiveEnd.{LiveEnd}

-- These bytes were read: all up to the input's end, or its first 16,384, or those before a read that failed.
pub record WasRead (old new : KeysState) (bytes : List ℕ) (broke : Bool) : Type 0 where
  pub taken : old.left ≡ with_front bytes new.left
  pub few : length bytes ≤ max_keys
  pub all : broke ≡ false → (length bytes ≡ max_keys) ⊎ IsAtEnd new.left
  pub failed : broke ≡ true → old.faults < new.faults
  pub no_fault : broke ≡ false → new.faults ≡ old.faults

-- The keys are the bytes that were read, in order and each once; where a write failed, the first of them.
pub record HasKeys (old new : KeysState) (keys : List ℕ) (ended : LiveEnd) : Type 0 where
  pub bytes : List ℕ
  pub read : WasRead old new bytes ended.read_failed
  pub front : StartsWith bytes keys
  pub whole : ended.write_failed ≡ false → keys ≡ bytes
