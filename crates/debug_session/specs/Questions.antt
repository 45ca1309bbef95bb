-- What is asked by `monitor`. This project's own; GDB manual, "Packets" (qRcmd).
use Rattle.std.specs.Prelude.{ℕ, ◌-◌, ◌%◌, ◌^◌, nat_lt, if◌then◌else◌, List, [], ◌∷◌, ◌++◌, length, take, drop, codes, Option, Some, None}
use Rattle.std.specs.Fmt.{decimal}
use Rattle.sv_types.specs.Addresses.{address_of}
use Rattle.sv_types.specs.Output.{line_end}
use Rattle.std.specs.Str.{bytes_eq}
use Rattle.sv_types.specs.Numbers.{number_within}
use Rattle.gdb_protocol.specs.Digits.{number_of}
use Rattle.debug_session.specs.declared.questions.Question.{Question}
use Rattle.debug_session.specs.declared.questions.Question.TheVariants as asks

-- ---- the text

abbrev pub begun : Option ℕ → List ℕ → List ℕ
begun None text = []
begun (Some byte) text = byte % 256 ∷ text

-- the text that pairs of digits write, up to what is no pair
unfoldable pub text_of : List ℕ → List ℕ
text_of [] = []
text_of (high ∷ []) = []
text_of (high ∷ low ∷ digits) = begun (number_of (high ∷ low ∷ [])) (text_of digits)

-- ---- the question

abbrev pub at_number : Option ℕ → Question
at_number None = asks.Unknown
at_number (Some number) = asks.At number

abbrev pub at_address : Option ℕ → Question
at_address None = asks.Unknown
at_address (Some address) = asks.Translate address

-- `translate` and an address, or none that is known
unfoldable pub translation_of : List ℕ → Question
translation_of text =
    if nat_lt (length text) 10 then asks.Unknown
    else if bytes_eq (take 10 text) (codes "translate ") then at_address (address_of (drop 10 text))
    else asks.Unknown

-- `at` and a decimal number
unfoldable pub argued : List ℕ → Question
argued text =
    if nat_lt (length text) 3 then asks.Unknown
    else if bytes_eq (take 3 text) (codes "at ") then at_number (number_within 0 (2 ^ 64 - 1) (drop 3 text))
    else translation_of text

-- a word alone, or one with what it is about
unfoldable pub question_of : List ℕ → Question
question_of text =
    if bytes_eq text (codes "events") then asks.Events
    else if bytes_eq text (codes "pages") then asks.Pages
    else if bytes_eq text (codes "why") then asks.Why
    else argued text

-- ---- the answer

-- how many events are made
unfoldable pub events_text : (made : ℕ) → List ℕ
events_text made = codes "events " ++ (decimal made ++ line_end)

-- to what isn't known
unfoldable pub usage_text : List ℕ
usage_text = codes "events, at N, pages, why, or translate ADDRESS" ++ line_end
