-- What makes a form one: reading is the inverse of encoding, on both sides. This project's own.
use Rattle.std.specs.Prelude.{◌≡◌, ℕ, ◌<◌, List, ◌++◌, true, get_or, Ok}
use Rattle.snapshot_format.specs.Forms.{Form}

abbrev pub IsBytes : List ℕ → Type 0
IsBytes bytes = (i : ℕ) → get_or bytes i 0 < 256

pub record IsForm {A : Type 0} (f : Form A) : Type 0 where
  -- what is encoded is read, whatever follows it
  pub again : (a : A) (rest : List ℕ) → f.has a ≡ true → f.taken (f.encode a ++ rest) ≡ Ok (a, rest)
  -- what is read is encoded so
  pub only : (bytes : List ℕ) (a : A) (rest : List ℕ) → IsBytes bytes → f.taken bytes ≡ Ok (a, rest)
      → (bytes ≡ f.encode a ++ rest) × (f.has a ≡ true)
