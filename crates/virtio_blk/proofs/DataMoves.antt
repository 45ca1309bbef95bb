-- How the moves of a request's data go on.
use Rattle.std.proofs.Common.{◌≡◌, ℕ, zero, suc, ◌+◌, ◌-◌, ◌%◌, ◌<◌, ◌≤◌, Bool, true, false, List, [], ◌∷◌, ◌++◌, length, take, drop}
use Rattle.std.proofs.Common.{get_or, filter, refl, ◌∙◌, sym, ap, append_assoc, length-drop, arith}
use Rattle.spec_processor.specs.Bytes.{page_size}
use Rattle.std.proofs.lemmas.List.{drop_more, take_more, get_or-drop}
use Rattle.spec_reference.specs.VirtioChain.{no_part, between}
use Rattle.spec_reference.specs.VirtioRequests.{bytes_in, piece_size, piece, pieces, data_moves}
use Rattle.spec_reference.specs.VirtioBeats.{is_last}
use Rattle.spec_reference.specs.VirtioStates.{behind}
use Rattle.sv_types.specs.declared.virtio.VirtioMove.{VirtioMove}
use Rattle.sv_types.specs.declared.virtio.VirtioPart.{VirtioPart}

-- ---- parts between two places

pub between_first : (parts : List VirtioPart) (from to : ℕ) → from < to → from < length parts → between parts from to ≡ get_or parts from no_part ∷ between parts (from + 1) to
between_first parts from to before inside =
    let count : to - from ≡ suc (to - (from + 1)) = omega (arith, before) in
    rw (count, drop_more parts from no_part inside) refl

bytes_in_append : (xs : List VirtioPart) (y : VirtioPart) → bytes_in (xs ++ y ∷ []) ≡ bytes_in xs + y.len
bytes_in_append [] y = omega arith
bytes_in_append (x ∷ xs) y = let more = bytes_in_append xs y in rw more (omega arith)

pub between_none : (parts : List VirtioPart) (at : ℕ) → between parts at at ≡ []
between_none parts at = let none : at - at ≡ 0 = omega arith in rw none refl

pub bytes_in_more : (parts : List VirtioPart) (from k : ℕ) → from ≤ k → k < length parts → bytes_in (between parts from (k + 1)) ≡ bytes_in (between parts from k) + (get_or parts k no_part).len
bytes_in_more parts from k before inside =
    let count : k + 1 - from ≡ k - from + 1 = omega (arith, before) in
    let there : k - from < length (drop from parts) = let size = length-drop from parts in omega (arith, before, inside, size) in
    let place : from + (k - from) ≡ k = omega (arith, before) in
    let item : get_or (drop from parts) (k - from) no_part ≡ get_or parts k no_part = get_or-drop from parts (k - from) no_part ∙ ap (λ (n : ℕ). get_or parts n no_part) place in
    ap (λ (n : ℕ). bytes_in (take n (drop from parts))) count
    ∙ ap bytes_in (take_more (drop from parts) (k - from) no_part there)
    ∙ bytes_in_append (take (k - from) (drop from parts)) (get_or (drop from parts) (k - from) no_part)
    ∙ ap (λ (p : VirtioPart). bytes_in (take (k - from) (drop from parts)) + p.len) item

-- ---- pieces

pub piece_size_some : (gpa len : ℕ) → 0 < len → 0 < piece_size gpa len
piece_size_some gpa len some =
    let below : gpa % page_size < page_size = grind arith in
    omega (arith, some, below)

pub piece_size_most : (gpa len : ℕ) → piece_size gpa len ≤ len
piece_size_most gpa len = omega arith

-- more pieces than there are bytes are none
pieces_enough : (n m : ℕ) (write : Bool) (gpa place len : ℕ) → len ≤ n → len ≤ m → pieces n write gpa place len ≡ pieces m write gpa place len
unfolding pieces
pieces_enough zero zero write gpa place zero a b = refl
pieces_enough zero (suc m) write gpa place zero a b = refl
pieces_enough (suc n) zero write gpa place zero a b = refl
pieces_enough (suc n) (suc m) write gpa place zero a b = refl
pieces_enough zero m write gpa place (suc len) a b = absurd (omega (arith, a))
pieces_enough (suc n) zero write gpa place (suc len) a b = absurd (omega (arith, b))
pieces_enough (suc n) (suc m) write gpa place (suc len) a b =
    let size = piece_size gpa (suc len) in
    let some : 0 < size = piece_size_some gpa (suc len) (omega arith) in
    ap (λ (rest : List VirtioMove). piece write gpa place size ∷ rest)
    (pieces_enough n m write (gpa + size) (place + size) (suc len - size) (omega (arith, a, some)) (omega (arith, b, some)))

pieces_first : (write : Bool) (gpa place len size : ℕ) → 0 < len → size ≡ piece_size gpa len → pieces len write gpa place len ≡
    piece write gpa place size ∷ pieces (len - size) write (gpa + size) (place + size) (len - size)
unfolding pieces
pieces_first write gpa place zero size some is = absurd (omega (arith, some))
pieces_first write gpa place (suc n) size some is =
    let positive : 0 < size = rw is (piece_size_some gpa (suc n) some) in
    rw (sym is) (ap (λ (rest : List VirtioMove). piece write gpa place size ∷ rest)
    (pieces_enough n (suc n - size) write (gpa + size) (place + size) (suc n - size) (omega (arith, positive)) (omega arith)))

-- ---- data

-- the first piece of data
pub data_moves_first : (place size : ℕ) (part : VirtioPart) (parts : List VirtioPart) → 0 < part.len → size ≡ piece_size part.gpa part.len → data_moves place (part ∷ parts) ≡
    piece part.write part.gpa place size ∷ data_moves (place + size) (behind size (part ∷ parts))
unfolding data_moves
data_moves_first place size part parts some is =
    let most : size ≤ part.len = rw is (piece_size_most part.gpa part.len) in
    let over : place + size + (part.len - size) ≡ place + part.len = omega (arith, most) in
    rw (pieces_first part.write part.gpa place part.len size some is, over) refl

-- data of which all of the first part is moved
pub data_moves_passed : (place : ℕ) (offset : ℕ) (part : VirtioPart) (parts : List VirtioPart) → part.len ≡ offset → data_moves place (behind offset (part ∷ parts)) ≡ data_moves place parts
unfolding data_moves pieces
data_moves_passed place offset part parts all =
    let none : part.len - offset ≡ 0 = omega (arith, all) in
    let same : place + 0 ≡ place = omega arith in
    rw (none, same) refl

pub data_moves_none : (place : ℕ) → data_moves place [] ≡ []
unfolding data_moves
data_moves_none place = refl

pub behind_none : (parts : List VirtioPart) → behind 0 parts ≡ parts
behind_none [] = refl
behind_none (part ∷ parts) =
    let a : part.gpa + 0 ≡ part.gpa = omega arith in
    let b : part.len - 0 ≡ part.len = omega arith in
    rw (a, b) refl

pub after_more : (a b : ℕ) (parts : List VirtioPart) → behind b (behind a parts) ≡ behind (a + b) parts
after_more a b [] = refl
after_more a b (part ∷ parts) =
    let g : part.gpa + a + b ≡ part.gpa + (a + b) = omega arith in
    let l : part.len - a - b ≡ part.len - (a + b) = omega arith in
    rw (g, l) refl

-- ---- no move of data is one of the last

not_last : (write : Bool) (gpa place size : ℕ) (rest : List VirtioMove) → filter is_last (piece write gpa place size ∷ rest) ≡ filter is_last rest
not_last true gpa place size rest = refl
not_last false gpa place size rest = refl

pieces_not_last : (n : ℕ) (write : Bool) (gpa place len : ℕ) (rest : List VirtioMove) → filter is_last (pieces n write gpa place len ++ rest) ≡ filter is_last rest
unfolding pieces
pieces_not_last zero write gpa place len rest = refl
pieces_not_last (suc n) write gpa place zero rest = refl
pieces_not_last (suc n) write gpa place (suc m) rest =
    let size = piece_size gpa (suc m) in
    not_last write gpa place size (pieces n write (gpa + size) (place + size) (suc m - size) ++ rest)
    ∙ pieces_not_last n write (gpa + size) (place + size) (suc m - size) rest

pub data_moves_not_last : (place : ℕ) (parts : List VirtioPart) (rest : List VirtioMove) → filter is_last (data_moves place parts ++ rest) ≡ filter is_last rest
unfolding data_moves
data_moves_not_last place [] rest = refl
data_moves_not_last place (part ∷ parts) rest =
    ap (filter is_last) (append_assoc (pieces part.len part.write part.gpa place part.len) (data_moves (place + part.len) parts) rest)
    ∙ pieces_not_last part.len part.write part.gpa place part.len (data_moves (place + part.len) parts ++ rest)
    ∙ data_moves_not_last (place + part.len) parts rest
