-- The events of a journal as it grows, and which of them are keys.
use Rattle.std.proofs.Common.{◌≡◌, ◌≤◌, ◌+◌, ◌-◌, ℕ, zero, suc, Bool, true, false, if◌then◌else◌, nat_le, List, [], ◌∷◌, ◌++◌, map, refl, sym, ◌∙◌, ap, append_assoc, arith}
use Rattle.std.proofs.lemmas.List.{map-append}
use Rattle.std.proofs.lemmas.Bool.{leb-true, le-leb, and_from}
use Rattle.std.specs.Cmp.{first_so, second_so}
use Rattle.sv_types.specs.ApprovedPages.{numbers_from}
use Rattle.sv_types.specs.Schedule.{Schedule, auto_event, first_events}
use Rattle.sv_types.specs.declared.event.Event.{Event}
use Rattle.sv_types.specs.declared.event.Event.TheVariants.{Turn, Beat, Key, Tick, Poke}
use Rattle.script.proofs.FirstEvents.{first_drawn}
use Rattle.live_keys.specs.declared.live_key.LiveKey.{LiveKey}
use Rattle.live_keys.specs.Placed.{is_placed, are_bytes, autos_between, events_between, bytes_of, keys_among, others_among}

-- ---- numbers

-- numbers from one on, and then those after them
pub numbers_join : (first count more : ℕ) → numbers_from first (count + more) ≡ numbers_from first count ++ numbers_from (first + count) more
numbers_join first zero more =
    let none : zero + more ≡ more = omega arith in
    let here : first ≡ first + zero = omega arith in
    ap (λ (n : ℕ). numbers_from first n) none ∙ ap (λ (n : ℕ). numbers_from n more) here
numbers_join first (suc count) more =
    let one : suc count + more ≡ suc (count + more) = omega arith in
    let behind : first + 1 + count ≡ first + suc count = omega arith in
    ap (λ (n : ℕ). numbers_from first n) one
    ∙ ap (λ (rest : List ℕ). first ∷ rest) (numbers_join (first + 1) count more)
    ∙ ap (λ (n : ℕ). first ∷ numbers_from (first + 1) count ++ numbers_from n more) behind

-- the last number is no lower than the first
pub placed_le : (first last : ℕ) (keys : List LiveKey) → is_placed first keys last ≡ true → first ≤ last
placed_le first last [] is = leb-true first last is
placed_le first last (key ∷ keys) is =
    let low = leb-true first key.before (first_so (nat_le first key.before) (is_placed key.before keys last) is) in
    let high = placed_le key.before last keys (second_so (nat_le first key.before) (is_placed key.before keys last) is) in
    omega arith

-- ---- events of `auto(0, harts)`

autos_join : (harts first middle last : ℕ) → first ≤ middle → middle ≤ last → autos_between harts first middle ++ autos_between harts middle last ≡ autos_between harts first last
autos_join harts first middle last low high =
    let from : middle ≡ first + (middle - first) = omega arith in
    let all : middle - first + (last - middle) ≡ last - first = omega arith in
    ap (λ (n : ℕ). map (auto_event harts 0) (numbers_from first (middle - first)) ++ map (auto_event harts 0) (numbers_from n (last - middle))) from
    ∙ sym (map-append (auto_event harts 0) (numbers_from first (middle - first)) (numbers_from (first + (middle - first)) (last - middle)))
    ∙ ap (λ (ns : List ℕ). map (auto_event harts 0) ns) (sym (numbers_join first (middle - first) (last - middle)))
    ∙ ap (λ (n : ℕ). map (auto_event harts 0) (numbers_from first n)) all

autos_none : (harts n : ℕ) → autos_between harts n n ≡ []
autos_none harts n =
    let none : n - n ≡ 0 = omega arith in
    ap (λ (k : ℕ). map (auto_event harts 0) (numbers_from n k)) none

autos_one : (harts n : ℕ) → autos_between harts n (n + 1) ≡ auto_event harts 0 n ∷ []
autos_one harts n =
    let one : n + 1 - n ≡ 1 = omega arith in
    ap (λ (k : ℕ). map (auto_event harts 0) (numbers_from n k)) one

autos_more : (harts first last : ℕ) → first ≤ last → autos_between harts first (last + 1) ≡ autos_between harts first last ++ auto_event harts 0 last ∷ []
autos_more harts first last le =
    sym (autos_join harts first last (last + 1) le (omega arith)) ∙ ap (λ (es : List Event). autos_between harts first last ++ es) (autos_one harts last)

-- ---- a journal grows

pub placed_key : (first last : ℕ) (keys : List LiveKey) (byte : ℕ) → is_placed first keys last ≡ true →
    is_placed first (keys ++ record { before = last; byte = byte } ∷ []) last ≡ true
placed_key first last [] byte is = and_from (nat_le first last) (nat_le last last) is (le-leb last last (omega arith))
placed_key first last (key ∷ keys) byte is =
    and_from (nat_le first key.before) (is_placed key.before (keys ++ record { before = last; byte = byte } ∷ []) last)
    (first_so (nat_le first key.before) (is_placed key.before keys last) is)
    (placed_key key.before last keys byte (second_so (nat_le first key.before) (is_placed key.before keys last) is))

pub bytes_key : (keys : List LiveKey) (before byte : ℕ) → are_bytes keys ≡ true → byte ≤ 255 →
    are_bytes (keys ++ record { before = before; byte = byte } ∷ []) ≡ true
bytes_key [] before byte are few = and_from (nat_le byte 255) true (le-leb byte 255 few) refl
bytes_key (key ∷ keys) before byte are few =
    and_from (nat_le key.byte 255) (are_bytes (keys ++ record { before = before; byte = byte } ∷ []))
    (first_so (nat_le key.byte 255) (are_bytes keys) are)
    (bytes_key keys before byte (second_so (nat_le key.byte 255) (are_bytes keys) are) few)

pub placed_auto : (first last : ℕ) (keys : List LiveKey) → is_placed first keys last ≡ true → is_placed first keys (last + 1) ≡ true
placed_auto first last [] is = let le = leb-true first last is in le-leb first (last + 1) (omega arith)
placed_auto first last (key ∷ keys) is =
    and_from (nat_le first key.before) (is_placed key.before keys (last + 1))
    (first_so (nat_le first key.before) (is_placed key.before keys last) is)
    (placed_auto key.before last keys (second_so (nat_le first key.before) (is_placed key.before keys last) is))

pub events_key : (harts first last : ℕ) (keys : List LiveKey) (byte : ℕ) →
    events_between harts first (keys ++ record { before = last; byte = byte } ∷ []) last ≡ events_between harts first keys last ++ Key byte ∷ []
events_key harts first last [] byte = ap (λ (es : List Event). autos_between harts first last ++ Key byte ∷ es) (autos_none harts last)
events_key harts first last (key ∷ keys) byte =
    let front : List Event = autos_between harts first key.before in
    let rest : List Event = events_between harts key.before keys last in
    ap (λ (es : List Event). front ++ Key key.byte ∷ es) (events_key harts key.before last keys byte)
    ∙ sym (append_assoc front (Key key.byte ∷ rest) (Key byte ∷ []))

pub events_auto : (harts first last : ℕ) (keys : List LiveKey) → is_placed first keys last ≡ true →
    events_between harts first keys (last + 1) ≡ events_between harts first keys last ++ auto_event harts 0 last ∷ []
events_auto harts first last [] is = autos_more harts first last (leb-true first last is)
events_auto harts first last (key ∷ keys) is =
    let front : List Event = autos_between harts first key.before in
    let rest : List Event = events_between harts key.before keys last in
    ap (λ (es : List Event). front ++ Key key.byte ∷ es)
    (events_auto harts key.before last keys (second_so (nat_le first key.before) (is_placed key.before keys last) is))
    ∙ sym (append_assoc front (Key key.byte ∷ rest) (auto_event harts 0 last ∷ []))

-- ---- which events are keys

drawn_no_key : (turn beat : Bool) (hart : ℕ) (events : List Event) →
    keys_among ((if turn then Turn hart else if beat then Beat else Tick 16) ∷ events) ≡ keys_among events
drawn_no_key true beat hart events = refl
drawn_no_key false true hart events = refl
drawn_no_key false false hart events = refl

drawn_other : (turn beat : Bool) (hart : ℕ) (events : List Event) →
    others_among ((if turn then Turn hart else if beat then Beat else Tick 16) ∷ events) ≡ (if turn then Turn hart else if beat then Beat else Tick 16) ∷ others_among events
drawn_other true beat hart events = refl
drawn_other false true hart events = refl
drawn_other false false hart events = refl

-- ---- keys and others in two lists

keys_append : (front back : List Event) → keys_among (front ++ back) ≡ keys_among front ++ keys_among back
keys_append [] back = refl
keys_append (Key byte ∷ front) back = ap (λ (bytes : List ℕ). byte ∷ bytes) (keys_append front back)
keys_append (Turn hart ∷ front) back = keys_append front back
keys_append (Beat ∷ front) back = keys_append front back
keys_append (Tick ticks ∷ front) back = keys_append front back
keys_append (Poke gpa value ∷ front) back = keys_append front back

others_append : (front back : List Event) → others_among (front ++ back) ≡ others_among front ++ others_among back
others_append [] back = refl
others_append (Key byte ∷ front) back = others_append front back
others_append (Turn hart ∷ front) back = ap (λ (es : List Event). Turn hart ∷ es) (others_append front back)
others_append (Beat ∷ front) back = ap (λ (es : List Event). Beat ∷ es) (others_append front back)
others_append (Tick ticks ∷ front) back = ap (λ (es : List Event). Tick ticks ∷ es) (others_append front back)
others_append (Poke gpa value ∷ front) back = ap (λ (es : List Event). Poke gpa value ∷ es) (others_append front back)

autos_no_keys : (harts : ℕ) (numbers : List ℕ) → keys_among (map (auto_event harts 0) numbers) ≡ []
autos_no_keys harts [] = refl
autos_no_keys harts (n ∷ numbers) = drawn_no_key _ _ _ (map (auto_event harts 0) numbers) ∙ autos_no_keys harts numbers

autos_others : (harts : ℕ) (numbers : List ℕ) → others_among (map (auto_event harts 0) numbers) ≡ map (auto_event harts 0) numbers
autos_others harts [] = refl
autos_others harts (n ∷ numbers) =
    drawn_other _ _ _ (map (auto_event harts 0) numbers) ∙ ap (λ (es : List Event). auto_event harts 0 n ∷ es) (autos_others harts numbers)

pub journal_keys : (harts first : ℕ) (keys : List LiveKey) (last : ℕ) → keys_among (events_between harts first keys last) ≡ bytes_of keys
journal_keys harts first [] last = autos_no_keys harts (numbers_from first (last - first))
journal_keys harts first (key ∷ keys) last =
    keys_append (autos_between harts first key.before) (Key key.byte ∷ events_between harts key.before keys last)
    ∙ ap (λ (bytes : List ℕ). bytes ++ key.byte ∷ keys_among (events_between harts key.before keys last)) (autos_no_keys harts (numbers_from first (key.before - first)))
    ∙ ap (λ (bytes : List ℕ). key.byte ∷ bytes) (journal_keys harts key.before keys last)

others_between : (harts first : ℕ) (keys : List LiveKey) (last : ℕ) → is_placed first keys last ≡ true →
    others_among (events_between harts first keys last) ≡ autos_between harts first last
others_between harts first [] last is = autos_others harts (numbers_from first (last - first))
others_between harts first (key ∷ keys) last is =
    let low = leb-true first key.before (first_so (nat_le first key.before) (is_placed key.before keys last) is) in
    let behind = second_so (nat_le first key.before) (is_placed key.before keys last) is in
    others_append (autos_between harts first key.before) (Key key.byte ∷ events_between harts key.before keys last)
    ∙ ap (λ (es : List Event). es ++ others_among (events_between harts key.before keys last)) (autos_others harts (numbers_from first (key.before - first)))
    ∙ ap (λ (es : List Event). autos_between harts first key.before ++ es) (others_between harts key.before keys last behind)
    ∙ autos_join harts first key.before last low (placed_le key.before last keys behind)

pub journal_others : (harts : ℕ) (keys : List LiveKey) (last : ℕ) → is_placed 0 keys last ≡ true →
    others_among (events_between harts 0 keys last) ≡ first_events last (Schedule.Auto harts 0)
journal_others harts keys last is =
    let all : last - 0 ≡ last = omega arith in
    others_between harts 0 keys last is ∙ ap (λ (n : ℕ). map (auto_event harts 0) (numbers_from 0 n)) all ∙ sym (first_drawn harts 0 last)
