-- Answers, before they are framed. GDB manual, "gdb Remote Serial Protocol", "Stop Reply Packets", "General Query Packets" and
-- "Packets".
use Rattle.std.specs.Prelude.{ℕ, ◌-◌, nat_lt, if◌then◌else◌, List, [], ◌∷◌, ◌++◌, length, take, drop, codes}
use Rattle.std.specs.Int.{w64, to_be_bytes}
use Rattle.gdb_protocol.specs.Digits.{byte_digits}
use Rattle.gdb_protocol.specs.declared.packet.Range.{Range}
use Rattle.gdb_protocol.specs.declared.stop.Stop.{Stop}
use Rattle.gdb_protocol.specs.declared.stop.Stop.TheVariants.{Step, Break, Write, Beginning, Fault, End}

-- ---- why a run stopped

-- by a trap, which is signal 5
abbrev pub trapped : (thread : ℕ) → List ℕ
trapped thread = codes "T05thread:" ++ byte_digits (thread ∷ []) ++ codes ";"

unfoldable pub stop_text : Stop → (thread : ℕ) → List ℕ
stop_text Step thread = trapped thread
stop_text Break thread = trapped thread ++ codes "hwbreak:;"
stop_text (Write address) thread = trapped thread ++ codes "watch:" ++ byte_digits (to_be_bytes w64 address) ++ codes ";"
stop_text Beginning thread = trapped thread ++ codes "replaylog:begin;"
-- a segmentation violation is signal 11
stop_text Fault thread = codes "T0bthread:" ++ byte_digits (thread ∷ []) ++ codes ";"
stop_text End thread = codes "W00"

-- ---- the rest

-- text that the console prints
unfoldable pub console_text : List ℕ → List ℕ
console_text bytes = codes "O" ++ byte_digits bytes

-- a part of a document: `m` where more is left after it, else `l`
unfoldable pub part_text : (document : List ℕ) → Range → List ℕ
part_text document part =
    (if nat_lt part.length (length document - part.start) then codes "m" else codes "l") ++ take part.length (drop part.start document)
