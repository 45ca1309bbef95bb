-- What arrives by a stream of bytes: packets, acknowledgments, and what asks for a stop. GDB manual, "gdb Remote Serial
-- Protocol", "Overview", "Packet Acknowledgment" and "Interrupts".
use Rattle.std.specs.Prelude.{ℕ, ◌+◌, ◌%◌, Bool, false, true, ◌==◌, nat_lt, if◌then◌else◌, List, [], ◌∷◌, ◌++◌, length, Option, Some, None, bit_xor}
use Rattle.gdb_protocol.specs.Digits.{pair_value}
use Rattle.gdb_protocol.specs.Framing.{packet_start, packet_end, escape, escape_bit}
use Rattle.gdb_protocol.specs.declared.arrival.Arrival.{Arrival}
use Rattle.gdb_protocol.specs.declared.arrival.Arrival.TheVariants as kind
use Rattle.gdb_protocol.specs.declared.place.Place.{Place}
use Rattle.gdb_protocol.specs.declared.place.Place.TheVariants.{Outside, Inside, Escaped, Ended, AtLastDigit}

-- the most bytes of a packet, once its escapes are read. This project's own
abbrev pub max_payload : ℕ
max_payload = 16384

-- `+` and `-` acknowledge a packet or ask for it once more, and the byte 3 asks for a stop
abbrev pub plus : ℕ
plus = 43

abbrev pub minus : ℕ
minus = 45

abbrev pub interrupt : ℕ
interrupt = 3

-- ---- a reader

-- where it stands, the bytes of the packet that it read, the sum of its data, and whether it has more bytes than are kept
pub record Reading : Type 0 where
  pub place : Place
  pub payload : List ℕ
  pub sum : ℕ
  pub long : Bool

abbrev pub at : Place → Reading → Reading
at place r = record r { place = place }

-- before the data of a packet
abbrev pub at_start : Place → Reading
at_start place = record { place = place; payload = []; sum = 0; long = false }

-- a byte of the data that counts for the sum alone
abbrev pub summed : ℕ → Reading → Reading
summed byte r = record r { sum = (r.sum + byte) % 256 }

-- a byte of the payload
abbrev pub kept : ℕ → Reading → Reading
kept byte r = if nat_lt (length r.payload) max_payload then record r { payload = r.payload ++ byte ∷ [] } else record r { long = true }

-- a `$` begins a packet anew also where one goes on
unfoldable pub next_inside : ℕ → Reading → Reading
next_inside byte r =
    if byte == packet_start then at_start Inside
    else if byte == packet_end then at Ended r
    else if byte == escape then at Escaped (summed byte r)
    else kept byte (summed byte r)

-- bytes between packets are passed over
unfoldable pub next_at : Place → ℕ → Reading → Reading
next_at Outside byte r = if byte == packet_start then at_start Inside else r
next_at Inside byte r = next_inside byte r
next_at Escaped byte r = at Inside (kept (bit_xor byte escape_bit) (summed byte r))
next_at Ended byte r = at (AtLastDigit byte) r
next_at (AtLastDigit first) byte r = at Outside r

abbrev pub next : ℕ → Reading → Reading
next byte r = next_at r.place byte r

-- ---- what arrives

abbrev pub is_sum : ℕ → Option ℕ → Bool
is_sum total None = false
is_sum total (Some value) = value == total

-- with the digits of its checksum
abbrev pub ended : (first last : ℕ) → Reading → Arrival
ended first last r =
    if r.long then kind.TooLong else if is_sum r.sum (pair_value first last) then kind.Packet else kind.Broken

abbrev pub between : ℕ → Option Arrival
between byte =
    if byte == plus then Some kind.Received
    else if byte == minus then Some kind.Again
    else if byte == interrupt then Some kind.Interrupt
    else None

unfoldable pub arrival_at : Place → ℕ → Reading → Option Arrival
arrival_at Outside byte r = between byte
arrival_at Inside byte r = None
arrival_at Escaped byte r = None
arrival_at Ended byte r = None
arrival_at (AtLastDigit first) byte r = Some (ended first byte r)

abbrev pub arrival : ℕ → Reading → Option Arrival
arrival byte r = arrival_at r.place byte r

-- ---- a stream

-- what arrived, a packet with its payload
pub record Arrived : Type 0 where
  pub kind : Arrival
  pub payload : List ℕ

abbrev pub payload_of : Arrival → Reading → List ℕ
payload_of kind.Packet r = r.payload
payload_of kind.Broken r = []
payload_of kind.TooLong r = []
payload_of kind.Interrupt r = []
payload_of kind.Received r = []
payload_of kind.Again r = []

abbrev pub with_arrival : Option Arrival → Reading → List Arrived → List Arrived
with_arrival None r arrived = arrived
with_arrival (Some kind) r arrived = record { kind = kind; payload = payload_of kind r } ∷ arrived

-- what arrives by these bytes, one after the other
unfoldable pub arrivals : Reading → List ℕ → List Arrived
arrivals r [] = []
arrivals r (byte ∷ bytes) = with_arrival (arrival byte r) r (arrivals (next byte r) bytes)
