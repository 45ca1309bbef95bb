-- How the place in a chain goes on, as moves are taken.
use Rattle.std.proofs.Common.{◌≡◌, ℕ, ◌+◌, ◌-◌, ◌%◌, ◌<◌, ◌≤◌, Bool, true, false, List, [], ◌∷◌, ◌++◌, length, drop, filter, Option, Some, None, IfSome, refl, ◌∙◌, sym, ap, subst, arith}
use Rattle.spec_processor.specs.Bytes.{page_size}
use Rattle.std.proofs.lemmas.List.{drop-drop}
use Rattle.spec_reference.specs.VirtioChain.{between}
use Rattle.spec_reference.specs.VirtioRequests.{bytes_in, piece_size, piece, data_moves, last_moves}
use Rattle.spec_reference.specs.VirtioBeats.{is_last}
use Rattle.spec_reference.specs.VirtioStates.{behind, part_at, last_place, data_left, disk_offset, last_left, moves_left}
use Rattle.virtio_blk.specs.Held.{first_move, IsPlaced, IsOnDisk, IsSame, CanBeMade}
use Rattle.virtio_blk.proofs.DataMoves.{between_first, between_none, bytes_in_more, data_moves_first, data_moves_passed, data_moves_none, data_moves_not_last, behind_none, after_more}
use Rattle.sv_types.specs.declared.virtio.VirtioMove.{VirtioMove}
use Rattle.sv_types.specs.declared.virtio.VirtioPart.{VirtioPart}
use Rattle.sv_types.specs.declared.virtio.VirtioRequest.{VirtioRequest}
use Rattle.sv_types.specs.declared.virtio.VirtioResult.{VirtioResult}

-- what is left begins with the part that is reached
abbrev pub rest_of : VirtioRequest → List VirtioPart
rest_of q = between q.parts (q.part + 1) (last_place q)

left_first : (offset : ℕ) (q : VirtioRequest) → q.count ≤ 34 → length q.parts ≡ 34 → q.part < last_place q → behind offset (between q.parts q.part (last_place q)) ≡
    behind offset (part_at q q.part ∷ rest_of q)
left_first offset q most size before =
    let inside : q.part < length q.parts = omega (arith, size, before, most) in
    ap (behind offset) (between_first q.parts q.part (last_place q) before inside)

place_more : (q : VirtioRequest) → IsPlaced q → q.part < last_place q → bytes_in (between q.parts 1 (q.part + 1)) ≡ bytes_in (between q.parts 1 q.part) + (part_at q q.part).len
place_more q placed before =
    let inside : q.part < length q.parts = let most = placed.most in let size = placed.parts in omega (arith, size, before, most) in
    bytes_in_more q.parts 1 q.part placed.begun inside

-- ---- a part is passed

abbrev pub at_next_part : VirtioRequest → VirtioRequest
at_next_part q = record q { part = q.part + 1; offset = 0 }

passed_place : (q : VirtioRequest) → IsPlaced q → q.part < last_place q → q.offset ≡ (part_at q q.part).len → disk_offset (at_next_part q) ≡ disk_offset q
passed_place q placed before all =
    let more = place_more q placed before in
    omega (arith, more, all)

passed_moves : (accepted : ℕ) (q : VirtioRequest) → IsPlaced q → q.part < last_place q → q.offset ≡ (part_at q q.part).len → moves_left accepted (at_next_part q) ≡ moves_left accepted q
unfolding moves_left
passed_moves accepted q placed before all =
    let place = passed_place q placed before all in
    let old : data_moves (disk_offset q) (data_left q) ≡ data_moves (disk_offset q) (rest_of q) =
    ap (data_moves (disk_offset q)) (left_first q.offset q placed.most placed.parts before) ∙ data_moves_passed (disk_offset q) q.offset (part_at q q.part) (rest_of q) (sym all) in
    let new : data_moves (disk_offset (at_next_part q)) (data_left (at_next_part q)) ≡ data_moves (disk_offset q) (rest_of q) =
    ap (data_moves (disk_offset (at_next_part q))) (behind_none (rest_of q)) ∙ ap (λ (n : ℕ). data_moves n (rest_of q)) place in
    ap (λ (moves : List VirtioMove). moves ++ last_left accepted q) (new ∙ sym old)

passed_disk : (n : ℕ) (q : VirtioRequest) → IsPlaced q → q.part < last_place q → q.offset ≡ (part_at q q.part).len → IsOnDisk n q → IsOnDisk n (at_next_part q)
passed_disk n q placed before all on next =
    let place = passed_place q placed before all in
    let left : bytes_in (data_left q) ≡ (part_at q q.part).len - q.offset + bytes_in (rest_of q) = ap bytes_in (left_first q.offset q placed.most placed.parts before) in
    let new : bytes_in (data_left (at_next_part q)) ≡ bytes_in (rest_of q) = ap bytes_in (behind_none (rest_of q)) in
    let there = on before in
    omega (arith, place, left, new, there)

pub passed_placed : (q : VirtioRequest) → IsPlaced q → q.part < last_place q → IsPlaced (at_next_part q)
passed_placed q placed before = record {
  parts = placed.parts;
  least = placed.least;
  most = placed.most;
  begun = omega arith;
  inside = omega (arith, before);
  tail = placed.tail;
  data_first = λ next. placed.data_first before;
  offset = λ next. omega arith;
  at_end = λ end. refl;
  empty = placed.empty;
  addresses = λ k from to some. placed.addresses k (omega (arith, from)) to some;
  size_some = placed.size_some;
  size_most = placed.size_most;
  aligned = placed.aligned;
  used = placed.used;
}

pub passed_same : (start q : VirtioRequest) → IsSame start q → IsPlaced q → q.part < last_place q → q.offset ≡ (part_at q q.part).len → IsSame start (at_next_part q)
passed_same start q same placed before all = record {
  moves = λ accepted. passed_moves accepted q placed before all ∙ same.moves accepted;
  disk = λ n on. passed_disk n q placed before all (same.disk n on);
  others = ap (λ (r : VirtioRequest). record r { part = q.part + 1; offset = 0 }) same.others;
}

-- ---- a piece is moved

abbrev pub with_offset_raised : VirtioRequest → ℕ → VirtioRequest
with_offset_raised q size = record q { offset = q.offset + size }

pub moved_moves : (accepted : ℕ) (q : VirtioRequest) (n : ℕ) → IsPlaced q → q.part < last_place q → q.offset < (part_at q q.part).len → n ≡
    piece_size ((part_at q q.part).gpa + q.offset) ((part_at q q.part).len - q.offset) → moves_left accepted q ≡
    piece (part_at q q.part).write ((part_at q q.part).gpa + q.offset) (disk_offset q) n ∷ moves_left accepted (with_offset_raised q n)
unfolding moves_left
moved_moves accepted q n placed before some is =
    let x = part_at q q.part in
    let cut : VirtioPart = record x { gpa = x.gpa + q.offset; len = x.len - q.offset } in
    let first = data_moves_first (disk_offset q) n cut (rest_of q) (omega (arith, some)) is in
    let left : data_left q ≡ cut ∷ rest_of q = left_first q.offset q placed.most placed.parts before in
    let next : behind n (cut ∷ rest_of q) ≡ data_left (with_offset_raised q n) = after_more q.offset n (x ∷ rest_of q) ∙ sym (left_first (q.offset + n) q placed.most placed.parts before) in
    let place : disk_offset q + n ≡ disk_offset (with_offset_raised q n) = omega arith in
    let all_data : data_moves (disk_offset q) (data_left q) ≡
    piece x.write (x.gpa + q.offset) (disk_offset q) n ∷ data_moves (disk_offset (with_offset_raised q n)) (data_left (with_offset_raised q n)) =
    ap (data_moves (disk_offset q)) left ∙ first
    ∙ ap (λ (parts : List VirtioPart). piece x.write (x.gpa + q.offset) (disk_offset q) n ∷ data_moves (disk_offset q + n) parts) next
    ∙ ap (λ (at : ℕ). piece x.write (x.gpa + q.offset) (disk_offset q) n ∷ data_moves at (data_left (with_offset_raised q n))) place in
    ap (λ (moves : List VirtioMove). moves ++ last_left accepted q) all_data

moved_bytes : (q : VirtioRequest) (n : ℕ) → IsPlaced q → q.part < last_place q → bytes_in (data_left (with_offset_raised q n)) ≡ (part_at q q.part).len - (q.offset + n) + bytes_in (rest_of q)
moved_bytes q n placed before = ap bytes_in (left_first (q.offset + n) q placed.most placed.parts before)

left_bytes : (q : VirtioRequest) → IsPlaced q → q.part < last_place q → bytes_in (data_left q) ≡ (part_at q q.part).len - q.offset + bytes_in (rest_of q)
left_bytes q placed before = ap bytes_in (left_first q.offset q placed.most placed.parts before)

pub moved_disk : (disk_size : ℕ) (q : VirtioRequest) (n : ℕ) → IsPlaced q → q.part < last_place q → n ≤ (part_at q q.part).len - q.offset → IsOnDisk disk_size q →
    IsOnDisk disk_size (with_offset_raised q n)
moved_disk disk_size q n placed before most on next =
    let new = moved_bytes q n placed before in
    let old = left_bytes q placed before in
    let reached = placed.offset before in
    let there = on before in
    omega (arith, new, old, reached, there, most)

-- the piece lies on the disk
pub piece_on_disk : (disk_size : ℕ) (q : VirtioRequest) (n : ℕ) → IsPlaced q → q.part < last_place q → n ≤ (part_at q q.part).len - q.offset → IsOnDisk disk_size q → disk_offset q + n ≤ disk_size
piece_on_disk disk_size q n placed before most on =
    let old = left_bytes q placed before in
    let there = on before in
    omega (arith, old, there, most)

-- ---- after all data

pub last_moves_left : (accepted : ℕ) (q : VirtioRequest) → q.part ≡ last_place q → moves_left accepted q ≡ last_left accepted q
unfolding moves_left
last_moves_left accepted q end =
    let none : between q.parts q.part (last_place q) ≡ [] = ap (λ (k : ℕ). between q.parts k (last_place q)) end ∙ between_none q.parts (last_place q) in
    let left : data_left q ≡ [] = ap (behind q.offset) none in
    ap (λ (parts : List VirtioPart). data_moves (disk_offset q) parts ++ last_left accepted q) left
    ∙ ap (λ (moves : List VirtioMove). moves ++ last_left accepted q) (data_moves_none (disk_offset q))

-- ---- data that may not be written is dropped

abbrev pub without_data : VirtioRequest → VirtioRequest
without_data q = record q { part = last_place q; offset = 0; result = VirtioResult.Failed }

pub without_data_moves : (accepted : ℕ) (q : VirtioRequest) → filter is_last (last_left accepted q) ≡ last_left accepted q → moves_left accepted (without_data q) ≡
    filter is_last (moves_left accepted q)
unfolding moves_left
without_data_moves accepted q all =
    last_moves_left accepted (without_data q) refl
    ∙ sym all
    ∙ sym (data_moves_not_last (disk_offset q) (data_left q) (last_left accepted q))

-- ---- moves stay in a page, and on the disk

pub piece_made : (disk_size : ℕ) (write : Bool) (gpa place size len : ℕ) → size ≡ piece_size gpa len → place + size ≤ disk_size → CanBeMade disk_size (piece write gpa place size)
piece_made disk_size true gpa place size len is on =
    let below : gpa % page_size < page_size = grind arith in
    (omega (arith, is), (omega (arith, is, below), on))
piece_made disk_size false gpa place size len is on =
    let below : gpa % page_size < page_size = grind arith in
    (omega (arith, is), (omega (arith, is, below), on))

-- ---- the last moves

pub last_left_more : (accepted : ℕ) (q : VirtioRequest) → last_left accepted (record q { tail = q.tail + 1 }) ≡ drop 1 (last_left accepted q)
last_left_more accepted q = sym (drop-drop 1 q.tail (last_moves (part_at q (last_place q)).gpa q.used q.size q.head accepted))

pub first_at : (tail k : ℕ) (moves : List VirtioMove) → tail ≡ k → first_move (drop tail moves) ≡ first_move (drop k moves)
first_at tail k moves is = ap (λ (n : ℕ). first_move (drop n moves)) is

pub last_all : (accepted : ℕ) (q : VirtioRequest) → q.tail ≡ 0 → filter is_last (last_left accepted q) ≡ last_left accepted q
last_all accepted q first =
    let moves = last_moves (part_at q (last_place q)).gpa q.used q.size q.head accepted in
    subst (λ (tail : ℕ). filter is_last (drop tail moves) ≡ drop tail moves) (sym first) refl

pub without_data_placed : (q : VirtioRequest) → IsPlaced q → q.tail ≡ 0 → IsPlaced (without_data q)
without_data_placed q placed first = record {
  parts = placed.parts;
  least = placed.least;
  most = placed.most;
  begun = let least = placed.least in omega (arith, least);
  inside = omega arith;
  tail = placed.tail;
  data_first = λ before. first;
  offset = λ before. omega arith;
  at_end = λ end. refl;
  empty = placed.empty;
  addresses = λ k from to some. absurd (omega (arith, from, to));
  size_some = placed.size_some;
  size_most = placed.size_most;
  aligned = placed.aligned;
  used = placed.used;
}

-- the last moves are no data
pub no_data : (move : Option VirtioMove) (tail : ℕ) → IfSome move (λ m. is_last m ≡ true) → IfSome move (λ m. is_last m ≡ false → tail ≡ 0)
no_data None tail last = tt
no_data (Some move) tail last = λ other. absurd (cc)
