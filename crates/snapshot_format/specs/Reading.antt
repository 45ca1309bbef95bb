-- What readers return. This project's own.
use Rattle.std.specs.Prelude.{◌≡◌, Result, Ok, Err}
use Rattle.snapshot_format.specs.declared.reader.read_error.ReadError.TheVariants.{Refused, Memory}
use Rattle.snapshot_format.specs.declared.reader.read_error.ReadError.{ReadError}
use Rattle.snapshot_format.specs.declared.refusal.SnapRefusal.{SnapRefusal}

-- what was read is the value and the rest, or the refusal, that a form gives
abbrev pub Gives : {X A : Type 0} → (X → A) → Result X SnapRefusal → Result A SnapRefusal → Type 0
Gives view (Ok x) read = read ≡ Ok (view x)
Gives view (Err e) read = read ≡ Err e

-- this is why, unless it is out of memory
abbrev pub Refuses : {A : Type 0} → Result A SnapRefusal → ReadError → Type 0
Refuses read (Refused e) = read ≡ Err e
Refuses read Memory = Unit {0}

-- the same of a reader that takes memory
abbrev pub Reads : {X A : Type 0} → (X → A) → Result X ReadError → Result A SnapRefusal → Type 0
Reads view (Ok x) read = read ≡ Ok (view x)
Reads view (Err e) read = Refuses read e
