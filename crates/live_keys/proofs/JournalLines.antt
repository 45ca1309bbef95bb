-- The text of a journal, read back.
use Rattle.std.proofs.Common.{◌≡◌, ◌≤◌, ◌<◌, ◌+◌, ◌-◌, ◌*◌, ◌%◌, ◌^◌, ◌==◌, ℕ, zero, suc, Bool, true, false, nat_le, if◌then◌else◌, List}
use Rattle.std.proofs.Common.{[], ◌∷◌, ◌++◌, length, map, flat_map, replicate, drop, Option, Some, None, is_none, unwrap_or, option_map}
use Rattle.std.proofs.Common.{codes, refl, sym, ◌∙◌, ap, subst, append_assoc, arith, rules, length-append, add-one}
use Rattle.std.proofs.Math.ListN.{drop_of_length-le}
use Rattle.std.specs.Fmt.{decimal}
use Rattle.std.specs.List.{All, list_all, position_from}
use Rattle.std.proofs.lemmas.Grind.{flat_map-append}
use Rattle.std.specs.Char.{is_ascii_digit}
use Rattle.std.proofs.lemmas.Bool.{leb-true, le-leb, and_from}
use Rattle.std.proofs.lemmas.Bool.Decides.{nat_tests}
use Rattle.std.proofs.lemmas.Fmt.{digits_decimal, digits_value-decimal, decimal_nonempty, length-decimal-le, decimal_by_steps}
use Rattle.std.proofs.lemmas.List.{append-nil}
use Rattle.std.proofs.lemmas.List.Splits.{slice_split_at, slice_split_none}
use Rattle.std.proofs.lemmas.Str.Parse.{IsNumeralModel, numerals_by_fold}
use Rattle.std.specs.Cmp.{first_so, second_so}
use Rattle.sv_types.specs.declared.event.Event.{Event}
use Rattle.sv_types.specs.declared.event.Event.TheVariants.{Key}
use Rattle.sv_types.specs.Numbers.{decimal_value, is_number, number_within}
use Rattle.sv_types.specs.Schedule.{Auto, lines, fields, two_fields_events, max_repeats, single, auto_event, random_at}
use Rattle.sv_types.specs.ApprovedPages.{numbers_from}
use Rattle.script.specs.declared.said.Said.{Said}
use Rattle.script.specs.declared.said.Said.TheVariants.{This, Drawn}
use Rattle.script.specs.AutoScripts.{all_said, drawn_times, two_fields_said, fields_said, line_said, said_of_line, text_said, events_drawn, events_of_text, is_refused, first_refused}
use Rattle.live_keys.proofs.Events.{placed_le}
use Rattle.live_keys.specs.declared.live_key.LiveKey.{LiveKey}
use Rattle.live_keys.specs.Placed.{is_placed, are_bytes, autos_between, events_between}
use Rattle.live_keys.specs.JournalText.{key_line, auto_line, auto_lines, journal_lines, ended_line, text_of, journal_text}

-- ---- numbers

own : IsNumeralModel (λ ds. list_all is_ascii_digit ds ≡ true) (decimal_value 0)
own = numerals_by_fold _ (search rules) decimal_value (search rules)

is_number_decimal : (n : ℕ) → n < 2 ^ 64 → is_number (decimal n) ≡ true
is_number_decimal n small =
    let some : 1 ≤ length (decimal n) = omega (arith, decimal_nonempty n small) in
    let few : length (decimal n) ≤ 20 = length-decimal-le 20 n (omega arith) (omega arith) small in
    and_from _ _ (and_from _ _ (le-leb _ _ some) (le-leb _ _ few)) (digits_decimal own n small)

if_true : {A : Type 0} (b : Bool) (x y : A) → b ≡ true → (if b then x else y) ≡ x
if_true true x y is = refl
if_true false x y is = absurd (cc)

pub number_back : (low high n : ℕ) → n < 2 ^ 64 → low ≤ n → n ≤ high → number_within low high (decimal n) ≡ Some n
unfolding number_within
number_back low high n small above below =
    let value : decimal_value 0 (decimal n) ≡ n = digits_value-decimal own n small in
    let high_enough : nat_le low (decimal_value 0 (decimal n)) ≡ true = ap (λ (k : ℕ). nat_le low k) value ∙ le-leb low n above in
    let low_enough : nat_le (decimal_value 0 (decimal n)) high ≡ true = ap (λ (k : ℕ). nat_le k high) value ∙ le-leb n high below in
    if_true _ (Some (decimal_value 0 (decimal n))) None (and_from _ _ (and_from _ _ (is_number_decimal n small) high_enough) low_enough) ∙ ap Some value

-- ---- no digit is a blank or a line feed

-- no byte of these is the one
abbrev Without : ℕ → List ℕ → Type 0
Without c [] = Unit {0}
Without c (b ∷ bytes) = ((b == c) ≡ false) × Without c bytes

all_without : (c : ℕ) (bytes : List ℕ) → Without c bytes → All (λ b. (b == c) ≡ false) bytes
all_without c [] w k d within = absurd (omega arith)
all_without c (b ∷ bytes) w zero d within = w.0
all_without c (b ∷ bytes) w (suc k) d within = all_without c bytes w.1 k d (omega arith)

without_append : (c : ℕ) (front back : List ℕ) → Without c front → Without c back → Without c (front ++ back)
without_append c [] back w v = v
without_append c (b ∷ front) back w v = (w.0, without_append c front back w.1 v)

digit_apart : (c d : ℕ) → c < 48 → ((48 + d) == c) ≡ false
digit_apart c d low = grind (arith, nat_tests)

decimal_without : (c n : ℕ) → c < 48 → n < 2 ^ 64 → Without c (decimal n)
decimal_without c n low small =
    decimal_by_steps (λ k ds. Without c ds) (λ k few. (digit_apart c k low, tt))
    (λ k ds many before. without_append c ds ((48 + k % 10) ∷ []) before (digit_apart c (k % 10) low, tt)) n small

-- ---- two fields

two_fields : (word : List ℕ) (n : ℕ) → Without 32 word → n < 2 ^ 64 → fields (word ++ 32 ∷ decimal n) ≡ word ∷ decimal n ∷ []
two_fields word n apart small =
    slice_split_at (λ c. c == 32) word 32 (decimal n) (all_without 32 word apart) refl
    ∙ ap (λ (rest : List (List ℕ)). word ∷ rest) (slice_split_none (λ c. c == 32) (decimal n) (all_without 32 (decimal n) (decimal_without 32 n (omega arith) small)))

no_blank_key : Without 32 (codes "key")
no_blank_key = (refl, (refl, (refl, tt)))

no_blank_auto : Without 32 (codes "auto")
no_blank_auto = (refl, (refl, (refl, (refl, tt))))

-- ---- what the lines say

single_key : Option ℕ → Option (List Event)
single_key None = None
single_key (Some byte) = Some (Key byte ∷ [])

key_fields : (number : List ℕ) → two_fields_events (codes "key") number ≡ single_key (number_within 0 255 number)
unfolding two_fields_events single_key
key_fields number = elim (number_within 0 255 number) as (λ o. single Key o ≡ single_key o) [ None ↦ refl | Some b ↦ refl ]

key_said : (byte : ℕ) → byte ≤ 255 → line_said (key_line byte) ≡ Some (This (Key byte) ∷ [])
unfolding line_said two_fields_said single_key
key_said byte few =
    ap fields_said (two_fields (codes "key") byte no_blank_key (omega arith))
    ∙ ap all_said (key_fields (decimal byte) ∙ ap single_key (number_back 0 255 byte (omega arith) (omega arith) few))

auto_said : (n : ℕ) → 1 ≤ n → n ≤ 2 ^ 32 → line_said (auto_line n) ≡ Some (replicate n Drawn)
unfolding line_said two_fields_said
auto_said n some few =
    ap fields_said (two_fields (codes "auto") n no_blank_auto (omega arith))
    ∙ ap (λ (o : Option ℕ). option_map drawn_times o) (number_back 1 max_repeats n (omega arith) some few)

-- ---- the events that are said

drawn_autos : (harts first n : ℕ) (more : List Said) → events_drawn (Auto harts (random_at 0 first)) (replicate n Drawn ++ more)
    ≡ map (auto_event harts 0) (numbers_from first n) ++ events_drawn (Auto harts (random_at 0 (first + n))) more
unfolding random_at
drawn_autos harts first zero more =
    let same : first ≡ first + 0 = omega arith in
    ap (λ (k : ℕ). events_drawn (Auto harts (random_at 0 k)) more) same
drawn_autos harts first (suc n) more =
    let behind : first + 1 + n ≡ first + suc n = omega arith in
    ap (λ (k : ℕ). auto_event harts 0 first ∷ events_drawn (Auto harts (random_at 0 k)) (replicate n Drawn ++ more)) (sym (add-one first))
    ∙ ap (λ (es : List Event). auto_event harts 0 first ∷ es) (drawn_autos harts (first + 1) n more)
    ∙ ap (λ (k : ℕ). auto_event harts 0 first ∷ map (auto_event harts 0) (numbers_from (first + 1) n) ++ events_drawn (Auto harts (random_at 0 k)) more) behind

-- the events of lines, after so many of `auto(0, harts)`
abbrev events_after : (harts first : ℕ) → List (List ℕ) → List Event
events_after harts first all = events_drawn (Auto harts (random_at 0 first)) (flat_map said_of_line all)

after_autos : (harts first n : ℕ) (rest : List (List ℕ)) → n ≤ 2 ^ 32 →
    events_after harts first (auto_lines n ++ rest) ≡ map (auto_event harts 0) (numbers_from first n) ++ events_after harts (first + n) rest
after_autos harts first zero rest few = drawn_autos harts first 0 (flat_map said_of_line rest)
after_autos harts first (suc n) rest few =
    ap (λ (o : Option (List Said)). events_drawn (Auto harts (random_at 0 first)) (unwrap_or o [] ++ flat_map said_of_line rest)) (auto_said (suc n) (omega arith) few)
    ∙ drawn_autos harts first (suc n) (flat_map said_of_line rest)

after_key : (harts first byte : ℕ) (rest : List (List ℕ)) → byte ≤ 255 → events_after harts first (key_line byte ∷ rest) ≡ Key byte ∷ events_after harts first rest
after_key harts first byte rest few =
    ap (λ (o : Option (List Said)). events_drawn (Auto harts (random_at 0 first)) (unwrap_or o [] ++ flat_map said_of_line rest)) (key_said byte few)

empty_line : (harts first : ℕ) → events_after harts first ([] ∷ []) ≡ []
unfolding line_said
empty_line harts first = refl

reads : (harts first : ℕ) (keys : List LiveKey) (last : ℕ) → is_placed first keys last ≡ true → are_bytes keys ≡ true → last ≤ 2 ^ 32 →
    events_after harts first (journal_lines first keys last ++ [] ∷ []) ≡ events_between harts first keys last
reads harts first [] last is bytes few =
    let le = placed_le first last [] is in
    after_autos harts first (last - first) ([] ∷ []) (omega arith)
    ∙ ap (λ (es : List Event). autos_between harts first last ++ es) (empty_line harts (first + (last - first)))
    ∙ append-nil (autos_between harts first last)
reads harts first (key ∷ keys) last is bytes few =
    let low = leb-true first key.before (first_so (nat_le first key.before) (is_placed key.before keys last) is) in
    let behind = second_so (nat_le first key.before) (is_placed key.before keys last) is in
    let high = placed_le key.before last keys behind in
    let byte = leb-true key.byte 255 (first_so (nat_le key.byte 255) (are_bytes keys) bytes) in
    let end : first + (key.before - first) ≡ key.before = omega arith in
    let rest : List (List ℕ) = journal_lines key.before keys last ++ [] ∷ [] in
    ap (λ (ls : List (List ℕ)). events_after harts first ls) (append_assoc (auto_lines (key.before - first)) (key_line key.byte ∷ journal_lines key.before keys last) ([] ∷ []))
    ∙ after_autos harts first (key.before - first) (key_line key.byte ∷ rest) (omega arith)
    ∙ ap (λ (k : ℕ). autos_between harts first key.before ++ events_after harts k (key_line key.byte ∷ rest)) end
    ∙ ap (λ (es : List Event). autos_between harts first key.before ++ es) (after_key harts key.before key.byte rest byte)
    ∙ ap (λ (es : List Event). autos_between harts first key.before ++ Key key.byte ∷ es)
    (reads harts key.before keys last behind (second_so (nat_le key.byte 255) (are_bytes keys) bytes) few)

-- ---- the lines of a text

abbrev EachWithout : List (List ℕ) → Type 0
EachWithout [] = Unit {0}
EachWithout (line ∷ lines) = Without 10 line × EachWithout lines

lines_back : (all : List (List ℕ)) → EachWithout all → lines (text_of all) ≡ all ++ [] ∷ []
lines_back [] each = refl
lines_back (line ∷ all) each =
    ap (λ (text : List ℕ). lines text) (append_assoc line (10 ∷ []) (text_of all))
    ∙ slice_split_at (λ c. c == 10) line 10 (text_of all) (all_without 10 line each.0) refl
    ∙ ap (λ (rest : List (List ℕ)). line ∷ rest) (lines_back all each.1)

autos_without : (n : ℕ) (rest : List (List ℕ)) → n ≤ 2 ^ 32 → EachWithout rest → EachWithout (auto_lines n ++ rest)
autos_without zero rest few each = each
autos_without (suc n) rest few each =
    (without_append 10 (codes "auto") (32 ∷ decimal (suc n)) (refl, (refl, (refl, (refl, tt)))) (refl, decimal_without 10 (suc n) (omega arith) (omega arith)), each)

journal_without : (first : ℕ) (keys : List LiveKey) (last : ℕ) → is_placed first keys last ≡ true → are_bytes keys ≡ true → last ≤ 2 ^ 32 → EachWithout (journal_lines first keys last)
journal_without first [] last is bytes few =
    subst (λ (ls : List (List ℕ)). EachWithout ls) (append-nil (auto_lines (last - first))) (autos_without (last - first) [] (omega arith) tt)
journal_without first (key ∷ keys) last is bytes few =
    let behind = second_so (nat_le first key.before) (is_placed key.before keys last) is in
    let high = placed_le key.before last keys behind in
    let byte = leb-true key.byte 255 (first_so (nat_le key.byte 255) (are_bytes keys) bytes) in
    autos_without (key.before - first) (key_line key.byte ∷ journal_lines key.before keys last) (omega arith) (
      without_append 10 (codes "key") (32 ∷ decimal key.byte) (refl, (refl, (refl, tt))) (refl, decimal_without 10 key.byte (omega arith) (omega arith)),
      journal_without key.before keys last behind (second_so (nat_le key.byte 255) (are_bytes keys) bytes) few,
    )

pub journal_reads : (harts : ℕ) (keys : List LiveKey) (last : ℕ) → is_placed 0 keys last ≡ true → are_bytes keys ≡ true → last ≤ 2 ^ 32 →
    events_of_text harts (journal_text keys last) ≡ events_between harts 0 keys last
unfolding journal_text text_said random_at
journal_reads harts keys last is bytes few =
    ap (λ (ls : List (List ℕ)). events_after harts 0 ls) (lines_back (journal_lines 0 keys last) (journal_without 0 keys last is bytes few))
    ∙ reads harts 0 keys last is bytes few

-- ---- no line is refused

abbrev EachRead : List (List ℕ) → Type 0
EachRead [] = Unit {0}
EachRead (line ∷ lines) = (is_refused line ≡ false) × EachRead lines

none_refused : (number : ℕ) (all : List (List ℕ)) → EachRead all → position_from is_refused number all ≡ None
none_refused number [] each = refl
none_refused number (line ∷ all) each =
    ap (λ (b : Bool). if b then Some number else position_from is_refused (number + 1) all) each.0 ∙ none_refused (number + 1) all each.1

empty_read : is_refused [] ≡ false
unfolding line_said
empty_read = refl

key_read : (byte : ℕ) → byte ≤ 255 → is_refused (key_line byte) ≡ false
key_read byte few = ap (λ (o : Option (List Said)). is_none o) (key_said byte few)

auto_read : (n : ℕ) → 1 ≤ n → n ≤ 2 ^ 32 → is_refused (auto_line n) ≡ false
auto_read n some few = ap (λ (o : Option (List Said)). is_none o) (auto_said n some few)

autos_read : (n : ℕ) (rest : List (List ℕ)) → n ≤ 2 ^ 32 → EachRead rest → EachRead (auto_lines n ++ rest)
autos_read zero rest few each = each
autos_read (suc n) rest few each = (auto_read (suc n) (omega arith) few, each)

journal_read : (first : ℕ) (keys : List LiveKey) (last : ℕ) → is_placed first keys last ≡ true → are_bytes keys ≡ true → last ≤ 2 ^ 32 →
    EachRead (journal_lines first keys last ++ [] ∷ [])
journal_read first [] last is bytes few = autos_read (last - first) ([] ∷ []) (omega arith) (empty_read, tt)
journal_read first (key ∷ keys) last is bytes few =
    let behind = second_so (nat_le first key.before) (is_placed key.before keys last) is in
    let high = placed_le key.before last keys behind in
    let byte = leb-true key.byte 255 (first_so (nat_le key.byte 255) (are_bytes keys) bytes) in
    let rest : List (List ℕ) = journal_lines key.before keys last ++ [] ∷ [] in
    subst (λ (ls : List (List ℕ)). EachRead ls)
    (sym (append_assoc (auto_lines (key.before - first)) (key_line key.byte ∷ journal_lines key.before keys last) ([] ∷ [])))
    (autos_read (key.before - first) (key_line key.byte ∷ rest) (omega arith) (
      key_read key.byte byte,
      journal_read key.before keys last behind (second_so (nat_le key.byte 255) (are_bytes keys) bytes) few,
    ))

pub journal_accepted : (keys : List LiveKey) (last : ℕ) → is_placed 0 keys last ≡ true → are_bytes keys ≡ true → last ≤ 2 ^ 32 → first_refused (journal_text keys last) ≡ None
unfolding journal_text first_refused
journal_accepted keys last is bytes few =
    ap (λ (ls : List (List ℕ)). position_from is_refused 1 ls) (lines_back (journal_lines 0 keys last) (journal_without 0 keys last is bytes few))
    ∙ none_refused 1 (journal_lines 0 keys last ++ [] ∷ []) (journal_read 0 keys last is bytes few)

-- ---- the size of a text

line_size : (word : List ℕ) (n k : ℕ) → length (decimal n) ≤ k → length (ended_line (word ++ 32 ∷ decimal n)) ≤ length word + 2 + k
line_size word n k few = omega (arith, length-append (word ++ 32 ∷ decimal n) (10 ∷ []), length-append word (32 ∷ decimal n))

autos_size : (n : ℕ) → n ≤ 2 ^ 32 → length (text_of (auto_lines n)) ≤ 16
autos_size zero few = omega arith
autos_size (suc n) few =
    let digits = length-decimal-le 10 (suc n) (omega arith) (omega arith) (omega arith) in
    let line = line_size (codes "auto") (suc n) 10 digits in
    omega (arith, length-append (ended_line (auto_line (suc n))) [])

lines_size : (first : ℕ) (keys : List LiveKey) (last : ℕ) → is_placed first keys last ≡ true → are_bytes keys ≡ true → last ≤ 2 ^ 32 →
    length (text_of (journal_lines first keys last)) ≤ 24 * length keys + 16
lines_size first [] last is bytes few = autos_size (last - first) (omega arith)
lines_size first (key ∷ keys) last is bytes few =
    let behind = second_so (nat_le first key.before) (is_placed key.before keys last) is in
    let high = placed_le key.before last keys behind in
    let byte = leb-true key.byte 255 (first_so (nat_le key.byte 255) (are_bytes keys) bytes) in
    let front = autos_size (key.before - first) (omega arith) in
    let digits = length-decimal-le 3 key.byte (omega arith) (omega arith) (omega arith) in
    let line = line_size (codes "key") key.byte 3 digits in
    let back = lines_size key.before keys last behind (second_so (nat_le key.byte 255) (are_bytes keys) bytes) few in
    let rest : List (List ℕ) = journal_lines key.before keys last in
    let parts : length (text_of (auto_lines (key.before - first) ++ key_line key.byte ∷ rest))
    ≡ length (text_of (auto_lines (key.before - first)) ++ (ended_line (key_line key.byte) ++ text_of rest)) =
    ap (λ (l : List ℕ). length l) (flat_map-append ended_line (auto_lines (key.before - first)) (key_line key.byte ∷ rest)) in
    omega (
      arith,
      length-append (text_of (auto_lines (key.before - first))) (ended_line (key_line key.byte) ++ text_of rest),
      length-append (ended_line (key_line key.byte)) (text_of rest),
    )

pub journal_size : (keys : List LiveKey) (last : ℕ) → is_placed 0 keys last ≡ true → are_bytes keys ≡ true → last ≤ 2 ^ 32 → length (journal_text keys last) ≤ 24 * length keys + 16
unfolding journal_text
journal_size keys last is bytes few = lines_size 0 keys last is bytes few

-- ---- the text as it grows

pub no_line : (count : ℕ) (text : List ℕ) → count ≡ 0 → text ≡ text ++ text_of (auto_lines count)
no_line count text none = sym (append-nil text) ∙ ap (λ (n : ℕ). text ++ text_of (auto_lines n)) (sym none)

pub one_line : (count : ℕ) (old new : List ℕ) → 0 < count → new ≡ old ++ ended_line (auto_line count) → new ≡ old ++ text_of (auto_lines count)
one_line zero old new some is = absurd (omega arith)
one_line (suc count) old new some is = is ∙ ap (λ (text : List ℕ). old ++ text) (sym (append-nil (ended_line (auto_line (suc count)))))

-- after the last key come the events that are left
pub text_whole : (before after : List ℕ) (made : ℕ) (keys : List LiveKey) (at last : ℕ) → length keys ≤ at →
    after ≡ before ++ text_of (auto_lines (last - made)) → before ++ text_of (journal_lines made (drop at keys) last) ≡ text_of (journal_lines 0 keys last) →
    after ≡ journal_text keys last
unfolding journal_text
text_whole before after made keys at last past is whole =
    is ∙ ap (λ (left : List LiveKey). before ++ text_of (journal_lines made left last)) (sym (drop_of_length-le keys past)) ∙ whole
