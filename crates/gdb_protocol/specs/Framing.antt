-- How a packet is framed. GDB manual, "gdb Remote Serial Protocol", "Overview" and "Binary Data".
use Rattle.std.specs.Prelude.{ℕ, ◌+◌, ◌%◌, Bool, ◌||◌, ◌==◌, if◌then◌else◌, List, [], ◌∷◌, ◌++◌, flat_map, bit_xor}
use Rattle.gdb_protocol.specs.Digits.{byte_digits}

-- ---- characters

-- `$` begins a packet, and `#` ends its data
abbrev pub packet_start : ℕ
packet_start = 36

abbrev pub packet_end : ℕ
packet_end = 35

-- `}` stands before a byte that is written with bit 5 turned over
abbrev pub escape : ℕ
escape = 125

abbrev pub escape_bit : ℕ
escape_bit = 32

-- `*` says in an answer that a character is repeated
abbrev pub repeat_mark : ℕ
repeat_mark = 42

-- ---- a frame

-- the bytes that don't stand for themselves in an answer
abbrev pub is_reserved : ℕ → Bool
is_reserved byte = byte == packet_end || byte == packet_start || byte == escape || byte == repeat_mark

abbrev pub escaped_byte : ℕ → List ℕ
escaped_byte byte = if is_reserved byte then escape ∷ bit_xor byte escape_bit ∷ [] else byte ∷ []

-- the data of a packet
abbrev pub escaped : List ℕ → List ℕ
escaped payload = flat_map escaped_byte payload

-- the sum of bytes modulo 256, onto that of the bytes before
unfoldable pub sum_onto : ℕ → List ℕ → ℕ
sum_onto before [] = before
sum_onto before (byte ∷ bytes) = sum_onto ((before + byte) % 256) bytes

abbrev pub checksum : List ℕ → ℕ
checksum bytes = sum_onto 0 bytes

-- the data between `$` and `#`, and the two digits of its checksum
abbrev pub framed : List ℕ → List ℕ
framed bytes = packet_start ∷ (bytes ++ packet_end ∷ byte_digits (checksum bytes ∷ []))

unfoldable pub frame : List ℕ → List ℕ
frame payload = framed (escaped payload)
