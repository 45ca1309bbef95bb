-- How values are encoded as bytes and read again. A form of a type says which values have an encoding, what it is, and which
-- value stands at the front of some bytes. Forms are put together from small ones. This project's own.
use Rattle.std.specs.Int.{w64, to_le_bytes, from_le_bytes}
use Rattle.std.specs.Prelude.{ℕ, zero, suc, ◌^◌, List, [], ◌∷◌, ◌++◌, length, take, drop, Bool, true, false, ◌&&◌, Result, Ok, Err, nat_lt, ◌==◌, if◌then◌else◌}
use Rattle.sv_types.specs.Steps.{◌>>=◌}
use Rattle.snapshot_format.specs.declared.refusal.SnapRefusal.TheVariants.{OtherLength, OutOfRange}
use Rattle.snapshot_format.specs.declared.refusal.SnapRefusal.{SnapRefusal}

-- ---- reading, from left to right, with the first refusal that is met

-- a value and the bytes after it, or why there is none
abbrev pub Taken : Type 0 → Type 0
Taken A = Result (A × List ℕ) SnapRefusal

-- ---- forms

pub record Form (A : Type 0) : Type 0 where
  pub encode : A → List ℕ
  -- the value has an encoding
  pub has : A → Bool
  pub taken : List ℕ → Taken A

-- the bytes of a number
abbrev pub number_size : ℕ
number_size = 8

-- a number's bytes, the low one first
unfoldable pub encode_number : ℕ → List ℕ
encode_number n = to_le_bytes w64 n

unfoldable pub number_at : List ℕ → Taken ℕ
number_at bytes = if nat_lt (length bytes) number_size then Err OtherLength else Ok (from_le_bytes w64 (take number_size bytes), drop number_size bytes)

abbrev pub is_word : ℕ → Bool
is_word n = nat_lt n (2 ^ 64)

abbrev pub number : Form ℕ
number = record { encode = encode_number; has = is_word; taken = number_at }

-- one byte
abbrev pub byte_at : List ℕ → Taken ℕ
byte_at [] = Err OtherLength
byte_at (n ∷ bytes) = Ok (n, bytes)

abbrev pub byte : Form ℕ
byte = record { encode = λ n. n ∷ []; has = λ n. nat_lt n 256; taken = byte_at }

-- so many bytes as they are
unfoldable pub bytes_at : ℕ → List ℕ → Taken (List ℕ)
bytes_at n bytes = if nat_lt (length bytes) n then Err OtherLength else Ok (take n bytes, drop n bytes)

abbrev pub plain : ℕ → Form (List ℕ)
plain n = record { encode = λ b. b; has = λ b. length b == n; taken = bytes_at n }

-- no bytes
abbrev pub nothing : {A : Type 0} → A → (A → Bool) → Form A
nothing value is = record { encode = λ a. []; has = is; taken = λ bytes. Ok (value, bytes) }

-- the same values, of which those outside a range are refused
abbrev pub if_in_range : {A : Type 0} → (A → Bool) → A × List ℕ → Taken A
if_in_range good x = if good x.0 then Ok x else Err OutOfRange

abbrev pub within : {A : Type 0} → (A → Bool) → Form A → Form A
within good f = record {
  encode = f.encode;
  has = λ a. f.has a && good a;
  taken = λ bytes. f.taken bytes >>= if_in_range good;
}

-- a value, and after it another, whose form may depend on the first
abbrev pub pair_with : {A B : Type 0} → A → B × List ℕ → Taken (A × B)
pair_with a x = Ok ((a, x.0), x.1)

abbrev pub and_then : {A B : Type 0} → Form A → (A → Form B) → Form (A × B)
and_then f g = record {
  encode = λ x. f.encode x.0 ++ (g x.0).encode x.1;
  has = λ x. f.has x.0 && (g x.0).has x.1;
  taken = λ bytes. f.taken bytes >>= λ a. (g a.0).taken a.1 >>= pair_with a.0;
}

infixr 10 ◌⨾◌
abbrev pub ◌⨾◌ : {A B : Type 0} → Form A → Form B → Form (A × B)
f ⨾ g = and_then f (λ a. g)

-- the same encodings, read as other values. A proper value stands for one that was encoded, there and back
abbrev pub map_value : {A B : Type 0} → (A → B) → A × List ℕ → Taken B
map_value to x = Ok (to x.0, x.1)

abbrev pub map_form : {A B : Type 0} → (A → B) → (B → A) → (B → Bool) → Form A → Form B
map_form to from proper f = record {
  encode = λ b. f.encode (from b);
  has = λ b. proper b && f.has (from b);
  taken = λ bytes. f.taken bytes >>= map_value to;
}

abbrev pub always : {A : Type 0} → A → Bool
always a = true

-- ---- lists

-- so many values, each of a form that may depend on those before it
unfoldable pub encode_all : {A : Type 0} → (List A → Form A) → (before values : List A) → List ℕ
encode_all f before [] = []
encode_all f before (a ∷ values) = (f before).encode a ++ encode_all f (before ++ a ∷ []) values

unfoldable pub has_all : {A : Type 0} → (List A → Form A) → (before : List A) → ℕ → (values : List A) → Bool
has_all f before zero [] = true
has_all f before zero (a ∷ values) = false
has_all f before (suc n) [] = false
has_all f before (suc n) (a ∷ values) = (f before).has a && has_all f (before ++ a ∷ []) n values

abbrev pub put_first : {A : Type 0} → A → List A × List ℕ → Taken (List A)
put_first a x = Ok (a ∷ x.0, x.1)

unfoldable pub all_taken : {A : Type 0} → (List A → Form A) → (before : List A) → ℕ → List ℕ → Taken (List A)
all_taken f before zero bytes = Ok ([], bytes)
all_taken f before (suc n) bytes = (f before).taken bytes >>= λ a. all_taken f (before ++ a.0 ∷ []) n a.1 >>= put_first a.0

abbrev pub list_form : {A : Type 0} → (List A → Form A) → (before : List A) → ℕ → Form (List A)
list_form f before n = record { encode = encode_all f before; has = has_all f before n; taken = all_taken f before n }

-- the number of values, in a range, and the values
abbrev pub counted_list : {A : Type 0} → (ℕ → Bool) → (List A → Form A) → Form (List A)
counted_list few f = map_form (λ x. x.1) (λ values. (length values, values)) always (and_then (within few number) (list_form f []))

-- the number of bytes, in a range, and the bytes
abbrev pub counted_bytes : (ℕ → Bool) → Form (List ℕ)
counted_bytes few = map_form (λ x. x.1) (λ bytes. (length bytes, bytes)) always (and_then (within few number) plain)
