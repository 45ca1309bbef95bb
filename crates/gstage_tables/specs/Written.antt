-- Words of the tables that were written. This project's own.
use Rattle.std.specs.Prelude.{◌≡◌, ◌≢◌, ℕ, ◌*◌, ◌<◌, List, length}
use Rattle.spec_processor.specs.Bytes.{word}
use Rattle.spec_processor.specs.Translation.{entry_size}

-- so many words were written, number n at place n with value n, and no other. Places are counted in words
pub record Wrote (before after : List ℕ) (count : ℕ) (place value : ℕ → ℕ) : Type 0 where
  pub size : length after ≡ length before
  pub written : (n : ℕ) → n < count → word after (entry_size * place n) entry_size ≡ value n
  pub kept : (k : ℕ) → ((n : ℕ) → n < count → k ≢ place n) → word after (entry_size * k) entry_size ≡ word before (entry_size * k) entry_size
