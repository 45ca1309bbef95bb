-- What the reading of a stream owes to framing. This project's own.
use Rattle.std.specs.Prelude.{◌≡◌, ◌<◌, ◌≤◌, ◌==◌, ◌||◌, not, true, Bool, if◌then◌else◌, ℕ, List, [], ◌∷◌, ◌++◌, length}
use Rattle.std.specs.List.{list_all}
use Rattle.gdb_protocol.specs.Digits.{pair_value}
use Rattle.gdb_protocol.specs.Framing.{packet_start, packet_end, escape, checksum, frame}
use Rattle.gdb_protocol.specs.Reading.{Arrived, at_start, arrivals, plus, minus, interrupt, max_payload, is_sum}
use Rattle.gdb_protocol.specs.declared.arrival.Arrival.TheVariants as kind
use Rattle.gdb_protocol.specs.declared.place.Place.TheVariants.{Outside}

-- what arrives where nothing came before
abbrev pub arrivals_of : List ℕ → List Arrived
arrivals_of bytes = arrivals (at_start Outside) bytes

-- ---- a payload that is framed is read as it was

abbrev pub FramesAreRead : Type 0
FramesAreRead = (payload rest : List ℕ) → length payload ≤ max_payload →
    arrivals_of (frame payload ++ rest) ≡ record { kind = kind.Packet; payload = payload } ∷ arrivals_of rest

-- ---- data without escapes is a packet where its checksum is right, and asked for once more where it is another one

abbrev pub is_plain : ℕ → Bool
is_plain byte = not (byte == packet_start || byte == packet_end || byte == escape)

abbrev pub read_with : (text : List ℕ) → (right : Bool) → Arrived
read_with text right =
    if right then record { kind = kind.Packet; payload = text } else record { kind = kind.Broken; payload = [] }

abbrev pub PlainFrames : Type 0
PlainFrames = (text rest : List ℕ) (first last : ℕ) → list_all is_plain text ≡ true → length text ≤ max_payload →
    arrivals_of (packet_start ∷ (text ++ packet_end ∷ first ∷ last ∷ rest)) ≡
    read_with text (is_sum (checksum text) (pair_value first last)) ∷ arrivals_of rest

-- ---- too many bytes are no packet, whatever the checksum

abbrev pub LongFrames : Type 0
LongFrames = (text rest : List ℕ) (first last : ℕ) → list_all is_plain text ≡ true → max_payload < length text →
    arrivals_of (packet_start ∷ (text ++ packet_end ∷ first ∷ last ∷ rest)) ≡
    record { kind = kind.TooLong; payload = [] } ∷ arrivals_of rest

-- ---- other bytes between packets are passed over

abbrev pub is_noise : ℕ → Bool
is_noise byte = not (byte == packet_start || byte == plus || byte == minus || byte == interrupt)

abbrev pub Noise : Type 0
Noise = (noise rest : List ℕ) → list_all is_noise noise ≡ true → arrivals_of (noise ++ rest) ≡ arrivals_of rest
