-- The reading of frames.
use Rattle.std.proofs.Common.{◌≡◌, ℕ, ◌+◌, ◌/◌, ◌%◌, ◌<◌, ◌≤◌, Bool, true, false, not, ◌==◌, if◌then◌else◌, List, [], ◌∷◌, ◌++◌, length, refl, sym, ◌∙◌, ap, subst, arith, Some, None}
use Rattle.std.specs.Prelude.{◌||◌, nat_lt, bit_xor}
use Rattle.std.specs.List.{list_all}
use Rattle.std.specs.Cmp.{first_so, second_so}
use Rattle.std.proofs.lemmas.Bool.{ltb-true, ltb-false, lt-ltb, le-ltb, eqb-true, eq-eqb}
use Rattle.std.proofs.lemmas.Bool.Decides.{nat_tests}
use Rattle.std.proofs.lemmas.List.{append-nil, append_assoc, length-append}
use Rattle.std.proofs.lemmas.Nat.{div-add-mod', mod_below, div_below}
use Rattle.gdb_protocol.specs.Digits.{digit, digit_value, pair_value, byte_digits}
use Rattle.gdb_protocol.specs.Framing.{packet_start, packet_end, escape, escape_bit, is_reserved, repeat_mark, escaped_byte, escaped, sum_onto, checksum, frame}
use Rattle.gdb_protocol.specs.Reading.{Reading, Arrived, at, at_start, next_inside, next_at, arrival_at, arrivals, between, is_sum, ended, with_arrival, max_payload, plus, minus, interrupt}
use Rattle.gdb_protocol.specs.FrameLaws.{arrivals_of, is_plain, is_noise, read_with, FramesAreRead, PlainFrames, LongFrames, Noise}
use Rattle.gdb_protocol.specs.declared.arrival.Arrival.TheVariants as kind
use Rattle.gdb_protocol.specs.declared.place.Place.TheVariants.{Outside, Inside, Escaped, Ended, AtLastDigit}

-- ---- digits

digit_back : (n : ℕ) → n < 16 → digit_value (digit n) ≡ Some n
digit_back n small = elim (nat_lt n 10) as (λ b. nat_lt n 10 ≡ b → digit_value (if b then n + 48 else n + 87) ≡ Some n) [
  | true ↦ λ h. grind (arith, nat_tests)
  | false ↦ λ h. grind (arith, nat_tests)
] refl

pair_back : (n : ℕ) → n < 256 → pair_value (digit (n / 16)) (digit (n % 16)) ≡ Some n
pair_back n small =
    rw (digit_back (n / 16) (div_below n 16 16 (omega arith) (omega arith)), digit_back (n % 16) (mod_below n 16 (omega arith)))
    (ap Some (omega (arith, div-add-mod' n 16)))

-- ---- sums

sum_small : (before : ℕ) (bytes : List ℕ) → before < 256 → sum_onto before bytes < 256
unfolding sum_onto
sum_small before [] small = small
sum_small before (byte ∷ bytes) small = sum_small ((before + byte) % 256) bytes (mod_below (before + byte) 256 (omega arith))

sum_parts : (before : ℕ) (xs ys : List ℕ) → sum_onto before (xs ++ ys) ≡ sum_onto (sum_onto before xs) ys
unfolding sum_onto
sum_parts before [] ys = refl
sum_parts before (x ∷ xs) ys = sum_parts ((before + x) % 256) xs ys

-- ---- between packets

abbrev outside : (payload : List ℕ) (total : ℕ) (long : Bool) → Reading
outside payload total long = record { place = Outside; payload = payload; sum = total; long = long }

-- what arrives between packets doesn't depend on the packet before
between_told : (b : ℕ) (r s : Reading) (rest : List Arrived) → with_arrival (between b) r rest ≡ with_arrival (between b) s rest
between_told b r s rest =
    elim (b == plus) as (λ t. with_arrival (if t then Some kind.Received else if b == minus then Some kind.Again else if b == interrupt then Some kind.Interrupt else None) r rest
    ≡ with_arrival (if t then Some kind.Received else if b == minus then Some kind.Again else if b == interrupt then Some kind.Interrupt else None) s rest) [
      | true ↦ refl
      | false ↦ elim (b == minus) as (λ t. with_arrival (if t then Some kind.Again else if b == interrupt then Some kind.Interrupt else None) r rest
          ≡ with_arrival (if t then Some kind.Again else if b == interrupt then Some kind.Interrupt else None) s rest) [
            | true ↦ refl
            | false ↦ elim (b == interrupt) as (λ t. with_arrival (if t then Some kind.Interrupt else None) r rest ≡ with_arrival (if t then Some kind.Interrupt else None) s rest) [
              | true ↦ refl
              | false ↦ refl
            ]
          ]
    ]

next_outside : (starts : Bool) (p : List ℕ) (total : ℕ) (long : Bool) (bytes : List ℕ) → arrivals (outside p total long) bytes ≡ arrivals_of bytes →
    arrivals (if starts then at_start Inside else outside p total long) bytes ≡ arrivals (if starts then at_start Inside else at_start Outside) bytes
next_outside true p total long bytes same = refl
next_outside false p total long bytes same = same

outside_same : (p : List ℕ) (total : ℕ) (long : Bool) (bytes : List ℕ) → arrivals (outside p total long) bytes ≡ arrivals_of bytes
unfolding arrivals next_at arrival_at
outside_same p total long [] = refl
outside_same p total long (b ∷ bytes) =
    between_told b (outside p total long) (at_start Outside) (arrivals (if b == packet_start then at_start Inside else outside p total long) bytes)
    ∙ ap (with_arrival (between b) (at_start Outside)) (next_outside (b == packet_start) p total long bytes (outside_same p total long bytes))

-- ---- other bytes

noise_by : (s p m i : Bool) (bytes : List ℕ) → not (s || p || m || i) ≡ true →
    with_arrival (if p then Some kind.Received else if m then Some kind.Again else if i then Some kind.Interrupt else None) (at_start Outside)
    (arrivals (if s then at_start Inside else at_start Outside) bytes) ≡ arrivals_of bytes
noise_by true p m i bytes h = absurd (cc)
noise_by false true m i bytes h = absurd (cc)
noise_by false false true i bytes h = absurd (cc)
noise_by false false false true bytes h = absurd (cc)
noise_by false false false false bytes h = refl

pub noise : Noise
unfolding arrivals next_at arrival_at
noise [] rest h = refl
noise (b ∷ bytes) rest h =
    noise_by (b == packet_start) (b == plus) (b == minus) (b == interrupt) (bytes ++ rest) (first_so (is_noise b) (list_all is_noise bytes) h)
    ∙ noise bytes rest (second_so (is_noise b) (list_all is_noise bytes) h)

-- ---- in a packet

abbrev inside : (payload : List ℕ) (total : ℕ) (long : Bool) → Reading
inside payload total long = record { place = Inside; payload = payload; sum = total; long = long }

-- a byte of the data that stands for itself, by its tests and whether there is room
plain_by : (s e x room : Bool) (b : ℕ) (p : List ℕ) (total : ℕ) (long : Bool) → not (s || e || x) ≡ true →
    (if s then at_start Inside
    else if e then record { place = Ended; payload = p; sum = total; long = long }
    else if x then record { place = Escaped; payload = p; sum = (total + b) % 256; long = long }
    else if room then inside (p ++ b ∷ []) ((total + b) % 256) long else inside p ((total + b) % 256) true)
    ≡ (if room then inside (p ++ b ∷ []) ((total + b) % 256) long else inside p ((total + b) % 256) true)
plain_by true e x room b p total long h = absurd (cc)
plain_by false true x room b p total long h = absurd (cc)
plain_by false false true room b p total long h = absurd (cc)
plain_by false false false room b p total long h = refl

plain_step : (b : ℕ) (p : List ℕ) (total : ℕ) (long : Bool) (bytes : List ℕ) → is_plain b ≡ true →
    arrivals (inside p total long) (b ∷ bytes)
    ≡ arrivals (if nat_lt (length p) max_payload then inside (p ++ b ∷ []) ((total + b) % 256) long else inside p ((total + b) % 256) true) bytes
unfolding arrivals next_at next_inside arrival_at
plain_step b p total long bytes plain =
    ap (λ r. arrivals r bytes) (plain_by (b == packet_start) (b == packet_end) (b == escape) (nat_lt (length p) max_payload) b p total long plain)

kept_step : (b : ℕ) (p : List ℕ) (total : ℕ) (long : Bool) (bytes : List ℕ) → is_plain b ≡ true → length p < max_payload →
    arrivals (inside p total long) (b ∷ bytes) ≡ arrivals (inside (p ++ b ∷ []) ((total + b) % 256) long) bytes
kept_step b p total long bytes plain room =
    plain_step b p total long bytes plain
    ∙ ap (λ t. arrivals (if t then inside (p ++ b ∷ []) ((total + b) % 256) long else inside p ((total + b) % 256) true) bytes) (lt-ltb (length p) max_payload room)

full_step : (b : ℕ) (p : List ℕ) (total : ℕ) (long : Bool) (bytes : List ℕ) → is_plain b ≡ true → max_payload ≤ length p →
    arrivals (inside p total long) (b ∷ bytes) ≡ arrivals (inside p ((total + b) % 256) true) bytes
full_step b p total long bytes plain full =
    plain_step b p total long bytes plain
    ∙ ap (λ t. arrivals (if t then inside (p ++ b ∷ []) ((total + b) % 256) long else inside p ((total + b) % 256) true) bytes) (le-ltb (length p) max_payload full)

-- ---- the end of a packet

abbrev at_last : (first : ℕ) (payload : List ℕ) (total : ℕ) (long : Bool) → Reading
at_last first payload total long = record { place = AtLastDigit first; payload = payload; sum = total; long = long }

end_read : (p : List ℕ) (total : ℕ) (long : Bool) (first last : ℕ) (rest : List ℕ) →
    arrivals (inside p total long) (packet_end ∷ first ∷ last ∷ rest)
    ≡ with_arrival (Some (ended first last (at_last first p total long))) (at_last first p total long) (arrivals_of rest)
unfolding arrivals next_at next_inside arrival_at
end_read p total long first last rest =
    ap (with_arrival (Some (ended first last (at_last first p total long))) (at_last first p total long)) (outside_same p total long rest)

told_by : (right : Bool) (first : ℕ) (p : List ℕ) (total : ℕ) (rest : List Arrived) →
    with_arrival (Some (if right then kind.Packet else kind.Broken)) (at_last first p total false) rest ≡ read_with p right ∷ rest
told_by true first p total rest = refl
told_by false first p total rest = refl

-- ---- data without escapes

plain_read : (text tail p : List ℕ) (total : ℕ) (long : Bool) → list_all is_plain text ≡ true → length p + length text ≤ max_payload →
    arrivals (inside p total long) (text ++ tail) ≡ arrivals (inside (p ++ text) (sum_onto total text) long) tail
unfolding sum_onto
plain_read [] tail p total long plain few = ap (λ q. arrivals (inside q total long) tail) (sym (append-nil p))
plain_read (b ∷ text) tail p total long plain few =
    kept_step b p total long (text ++ tail) (first_so (is_plain b) (list_all is_plain text) plain) (omega arith)
    ∙ plain_read text tail (p ++ b ∷ []) ((total + b) % 256) long (second_so (is_plain b) (list_all is_plain text) plain) (omega (arith, length-append p (b ∷ [])))
    ∙ ap (λ q. arrivals (inside q (sum_onto ((total + b) % 256) text) long) tail) (append_assoc p (b ∷ []) text)

pub plain_frames : PlainFrames
unfolding arrivals next_at arrival_at
plain_frames text rest first last plain few =
    plain_read text (packet_end ∷ first ∷ last ∷ rest) [] 0 false plain (omega (arith, few))
    ∙ end_read text (checksum text) false first last rest
    ∙ told_by (is_sum (checksum text) (pair_value first last)) first text (checksum text) (arrivals_of rest)

full_read : (text tail p : List ℕ) (total : ℕ) → list_all is_plain text ≡ true → max_payload ≤ length p →
    arrivals (inside p total true) (text ++ tail) ≡ arrivals (inside p (sum_onto total text) true) tail
unfolding sum_onto
full_read [] tail p total plain full = refl
full_read (b ∷ text) tail p total plain full =
    full_step b p total true (text ++ tail) (first_so (is_plain b) (list_all is_plain text) plain) full
    ∙ full_read text tail p ((total + b) % 256) (second_so (is_plain b) (list_all is_plain text) plain) full

-- what was kept of data that is too long
record ReadsLong (text tail p : List ℕ) (total : ℕ) (long : Bool) : Type 0 where
  first : List ℕ
  read : arrivals (inside p total long) (text ++ tail) ≡ arrivals (inside first (sum_onto total text) true) tail

long_by : (b : ℕ) (text tail p : List ℕ) (total : ℕ) (long : Bool) → list_all is_plain (b ∷ text) ≡ true →
    (length p < max_payload → ReadsLong text tail (p ++ b ∷ []) ((total + b) % 256) long) →
    (test : Bool) → nat_lt (length p) max_payload ≡ test → ReadsLong (b ∷ text) tail p total long
unfolding sum_onto
long_by b text tail p total long plain further true room =
    let more = further (ltb-true _ _ room) in
    record { first = more.first; read = kept_step b p total long (text ++ tail) (first_so (is_plain b) (list_all is_plain text) plain) (ltb-true _ _ room) ∙ more.read }
long_by b text tail p total long plain further false room =
    record {
      first = p;
      read =
          full_step b p total long (text ++ tail) (first_so (is_plain b) (list_all is_plain text) plain) (ltb-false _ _ room)
          ∙ full_read text tail p ((total + b) % 256) (second_so (is_plain b) (list_all is_plain text) plain) (ltb-false _ _ room);
    }

long_read : (text tail p : List ℕ) (total : ℕ) (long : Bool) → list_all is_plain text ≡ true → max_payload < length p + length text → length p ≤ max_payload →
    ReadsLong text tail p total long
long_read [] tail p total long plain many few = absurd (omega arith)
long_read (b ∷ text) tail p total long plain many few =
    long_by b text tail p total long plain
    (λ room. long_read text tail (p ++ b ∷ []) ((total + b) % 256) long (second_so (is_plain b) (list_all is_plain text) plain)
    (omega (arith, many, length-append p (b ∷ []))) (omega (arith, room, length-append p (b ∷ []))))
    (nat_lt (length p) max_payload) refl

pub long_frames : LongFrames
unfolding arrivals next_at arrival_at
long_frames text rest first last plain many =
    let read = long_read text (packet_end ∷ first ∷ last ∷ rest) [] 0 false plain (omega (arith, many)) (omega arith) in
    read.read ∙ end_read read.first (checksum text) true first last rest

-- ---- data of a payload

reserved_by : (b : ℕ) (e s x m : Bool) → (b == packet_end) ≡ e → (b == packet_start) ≡ s → (b == escape) ≡ x → (b == repeat_mark) ≡ m → (e || s || x || m) ≡ true →
    bit_xor (bit_xor b escape_bit) escape_bit ≡ b
reserved_by b true s x m he hs hx hm h = subst (λ n. bit_xor (bit_xor n escape_bit) escape_bit ≡ n) (sym (eqb-true b packet_end he)) refl
reserved_by b false true x m he hs hx hm h = subst (λ n. bit_xor (bit_xor n escape_bit) escape_bit ≡ n) (sym (eqb-true b packet_start hs)) refl
reserved_by b false false true m he hs hx hm h = subst (λ n. bit_xor (bit_xor n escape_bit) escape_bit ≡ n) (sym (eqb-true b escape hx)) refl
reserved_by b false false false true he hs hx hm h = subst (λ n. bit_xor (bit_xor n escape_bit) escape_bit ≡ n) (sym (eqb-true b repeat_mark hm)) refl
reserved_by b false false false false he hs hx hm h = absurd (cc)

unreserved_by : (e s x m : Bool) → (e || s || x || m) ≡ false → not (s || e || x) ≡ true
unreserved_by true s x m h = absurd (cc)
unreserved_by false true x m h = absurd (cc)
unreserved_by false false true m h = absurd (cc)
unreserved_by false false false m h = refl

-- after the mark of an escaped byte
abbrev mid : (payload : List ℕ) (total : ℕ) (long : Bool) → Reading
mid payload total long = record { place = Escaped; payload = payload; sum = total; long = long }

escape_step : (b : ℕ) (p : List ℕ) (total : ℕ) (long : Bool) (bytes : List ℕ) → length p < max_payload → bit_xor (bit_xor b escape_bit) escape_bit ≡ b →
    arrivals (inside p total long) (escape ∷ bit_xor b escape_bit ∷ bytes)
    ≡ arrivals (inside (p ++ b ∷ []) (((total + escape) % 256 + bit_xor b escape_bit) % 256) long) bytes
unfolding arrivals next_at next_inside arrival_at
escape_step b p total long bytes room back =
    ap (λ t. arrivals (at Inside (if t then mid (p ++ bit_xor (bit_xor b escape_bit) escape_bit ∷ []) (((total + escape) % 256 + bit_xor b escape_bit) % 256) long
    else mid p (((total + escape) % 256 + bit_xor b escape_bit) % 256) true)) bytes) (lt-ltb (length p) max_payload room)
    ∙ ap (λ c. arrivals (inside (p ++ c ∷ []) (((total + escape) % 256 + bit_xor b escape_bit) % 256) long) bytes) back

byte_read : (b : ℕ) (p : List ℕ) (total : ℕ) (long : Bool) (bytes : List ℕ) → length p < max_payload →
    arrivals (inside p total long) (escaped_byte b ++ bytes) ≡ arrivals (inside (p ++ b ∷ []) (sum_onto total (escaped_byte b)) long) bytes
unfolding sum_onto
byte_read b p total long bytes room =
    elim (is_reserved b) as (λ t. is_reserved b ≡ t →
    arrivals (inside p total long) ((if t then escape ∷ bit_xor b escape_bit ∷ [] else b ∷ []) ++ bytes)
    ≡ arrivals (inside (p ++ b ∷ []) (sum_onto total (if t then escape ∷ bit_xor b escape_bit ∷ [] else b ∷ [])) long) bytes) [
      | true ↦ λ h. escape_step b p total long bytes room
          (reserved_by b (b == packet_end) (b == packet_start) (b == escape) (b == repeat_mark) refl refl refl refl h)
      | false ↦ λ h. kept_step b p total long bytes (unreserved_by (b == packet_end) (b == packet_start) (b == escape) (b == repeat_mark) h) room
    ] refl

escaped_read : (payload tail p : List ℕ) (total : ℕ) (long : Bool) → length p + length payload ≤ max_payload →
    arrivals (inside p total long) (escaped payload ++ tail) ≡ arrivals (inside (p ++ payload) (sum_onto total (escaped payload)) long) tail
unfolding sum_onto
escaped_read [] tail p total long few = ap (λ q. arrivals (inside q total long) tail) (sym (append-nil p))
escaped_read (b ∷ payload) tail p total long few =
    ap (arrivals (inside p total long)) (append_assoc (escaped_byte b) (escaped payload) tail)
    ∙ byte_read b p total long (escaped payload ++ tail) (omega arith)
    ∙ escaped_read payload tail (p ++ b ∷ []) (sum_onto total (escaped_byte b)) long (omega (arith, length-append p (b ∷ [])))
    ∙ ap (λ q. arrivals (inside q (sum_onto (sum_onto total (escaped_byte b)) (escaped payload)) long) tail) (append_assoc p (b ∷ []) payload)
    ∙ ap (λ n. arrivals (inside (p ++ b ∷ payload) n long) tail) (sym (sum_parts total (escaped_byte b) (escaped payload)))

right_sum : (n : ℕ) → n < 256 → is_sum n (pair_value (digit (n / 16)) (digit (n % 16))) ≡ true
right_sum n small = ap (is_sum n) (pair_back n small) ∙ eq-eqb n n refl

pub frames_are_read : FramesAreRead
unfolding arrivals next_at arrival_at frame byte_digits
frames_are_read payload rest few =
    let total = checksum (escaped payload) in
    let first = digit (total / 16) in
    let last = digit (total % 16) in
    ap (λ bytes. arrivals (inside [] 0 false) bytes) (append_assoc (escaped payload) (packet_end ∷ first ∷ last ∷ []) rest)
    ∙ escaped_read payload (packet_end ∷ first ∷ last ∷ rest) [] 0 false (omega (arith, few))
    ∙ end_read payload total false first last rest
    ∙ told_by (is_sum total (pair_value first last)) first payload total (arrivals_of rest)
    ∙ ap (λ right. read_with payload right ∷ arrivals_of rest) (right_sum total (sum_small 0 (escaped payload) (omega arith)))
