-- A request that was just accepted is in its chain and on the disk.
use Rattle.std.proofs.Common.{◌≡◌, ℕ, zero, suc, ◌+◌, ◌-◌, ◌*◌, ◌%◌, ◌^◌, ◌<◌, ◌≤◌, Bool, true, false, ◌&&◌, ◌||◌, ◌==◌, if◌then◌else◌, List, ◌++◌, length}
use Rattle.std.proofs.Common.{drop, replicate, get_or, refl, ◌∙◌, sym, ap, subst, length-drop, length-append, arith}
use Rattle.std.specs.List.{list_all}
use Rattle.std.proofs.lemmas.Bool.Decides.{nat_tests}
use Rattle.std.proofs.lemmas.List.{get_or-append-add, get_or-drop, get_or-take, length-replicate, length-take-le}
use Rattle.spec_processor.specs.Bytes.{in_ram}
use Rattle.spec_reference.specs.VirtioChain.{no_part, between, data_of}
use Rattle.spec_reference.specs.VirtioRequests.{bytes_in, lies_in, fits_type, are_sectors, can_move, result_by}
use Rattle.spec_reference.specs.VirtioStates.{behind}
use Rattle.virtio_blk.specs.Held.{padded_parts, new_of, IsPlaced, IsOnDisk}
use Rattle.sv_types.specs.declared.virtio.VirtioPart.{VirtioPart}
use Rattle.virtio_blk.proofs.DataMoves.{between_none, behind_none}
use Rattle.spec_reference.specs.VirtioStores.{is_size}
use Rattle.virtio_blk.proofs.Accepting.{part_padded, between_padded, first_between, done_can, all_at}
use Rattle.sv_types.specs.VirtioResults.{is_done}

-- an empty part is at each place of some empty parts, and after them
empty_at : (n k : ℕ) → get_or (replicate n no_part) k no_part ≡ no_part
empty_at zero k = refl
empty_at (suc n) zero = refl
empty_at (suc n) (suc k) = empty_at n k

all_three : (a b c : Bool) → a && b && c ≡ true → (a ≡ true) × ((b ≡ true) × (c ≡ true))
all_three true true true is = (refl, (refl, refl))
all_three true true false is = absurd (cc)
all_three true false c is = absurd (cc)
all_three false b c is = absurd (cc)

-- what the result of a request that is done says
can_of : (ram : List ℕ) (disk_size kind sector : ℕ) (parts : List VirtioPart) → is_done (result_by ram disk_size kind sector parts) ≡ true
    → (are_sectors disk_size sector (bytes_in parts) ≡ true) × ((list_all (lies_in ram) parts ≡ true) × (list_all (fits_type kind) parts ≡ true))
unfolding result_by can_move
can_of ram disk_size kind sector parts is =
    let sectors = are_sectors disk_size sector (bytes_in parts) in
    let lie = list_all (lies_in ram) parts in
    let fit = list_all (fits_type kind) parts in
    all_three sectors lie fit (done_can (kind == 0 || kind == 1) (sectors && lie && fit) is)

address_of : (ram : List ℕ) (gpa len : ℕ) → (len == 0 || in_ram ram gpa len) ≡ true → 0 < len → length ram < 2 ^ 62 → gpa + len < 2 ^ 63
address_of ram gpa len lies some small = grind (arith, nat_tests)

data_at : (parts : List VirtioPart) (k : ℕ) → 1 ≤ k → k < length parts - 1 → get_or (data_of parts) (k - 1) no_part ≡ get_or parts k no_part
data_at parts k from to =
    let place : 1 + (k - 1) ≡ k = omega (arith, from) in
    get_or-take (length parts - 1 - 1) (drop 1 parts) (k - 1) no_part (omega (arith, from, to))
    ∙ get_or-drop 1 parts (k - 1) no_part
    ∙ ap (λ (n : ℕ). get_or parts n no_part) place

data_length : (parts : List VirtioPart) → 2 ≤ length parts → length (data_of parts) ≡ length parts - 1 - 1
data_length parts few =
    let size = length-drop 1 parts in
    length-take-le (length parts - 1 - 1) (drop 1 parts) (omega (arith, size, few))

addresses_by : (ram : List ℕ) (disk_size kind sector : ℕ) (parts : List VirtioPart) (k : ℕ) (done : Bool) → is_done (result_by ram disk_size kind sector (data_of parts)) ≡ done
    → 2 ≤ length parts → length ram < 2 ^ 62 → (if done then 1 else length parts - 1) ≤ k → k < length parts - 1 → 0 < (get_or parts k no_part).len
    → (get_or parts k no_part).gpa + (get_or parts k no_part).len < 2 ^ 63
addresses_by ram disk_size kind sector parts k true is few small from to some =
    let lie = (can_of ram disk_size kind sector (data_of parts) is).1.0 in
    let size = data_length parts few in
    let inside : k - 1 < length (data_of parts) = omega (arith, from, to, size) in
    let there = all_at (lies_in ram) (data_of parts) (k - 1) (lies_in ram (get_or (data_of parts) (k - 1) no_part)) lie inside refl in
    let lies : lies_in ram (get_or parts k no_part) ≡ true = subst (λ (p : VirtioPart). lies_in ram p ≡ true) (data_at parts k from to) there in
    address_of ram (get_or parts k no_part).gpa (get_or parts k no_part).len lies some small
addresses_by ram disk_size kind sector parts k false is few small from to some = absurd (omega (arith, from, to))

padded_empty : (parts : List VirtioPart) (k : ℕ) → length parts ≤ k → get_or (padded_parts parts) k no_part ≡ no_part
padded_empty parts k past =
    let rest = replicate (34 - length parts) no_part in
    let place : length parts + (k - length parts) ≡ k = omega (arith, past) in
    ap (λ (n : ℕ). get_or (parts ++ rest) n no_part) (sym place) ∙ get_or-append-add parts rest (k - length parts) no_part
    ∙ empty_at (34 - length parts) (k - length parts)

pub new_placed : (ram : List ℕ) (disk_size kind head sector size used : ℕ) (parts : List VirtioPart) → 2 ≤ length parts → length parts ≤ 34 → 1 ≤ size → size ≤ 64 → used % 4 ≡ 0 →
    used < 2 ^ 63 → length ram < 2 ^ 62
    → IsPlaced (new_of head sector size used (result_by ram disk_size kind sector (data_of parts)) parts)
new_placed ram disk_size kind head sector size used parts few most some large aligned below small =
    let result = result_by ram disk_size kind sector (data_of parts) in
    let between = first_between (length parts - 1) (is_done result) (omega (arith, few)) in
    let zeros = length-replicate (34 - length parts) no_part in
    let all = length-append parts (replicate (34 - length parts) no_part) in
    record {
      parts = omega (arith, zeros, all, most);
      least = few;
      most = most;
      begun = between.0;
      inside = between.1;
      tail = omega arith;
      data_first = λ before. refl;
      offset = λ before. omega arith;
      at_end = λ end. refl;
      empty = λ k past. padded_empty parts k past;
      addresses = λ k from to any.
          let same = part_padded parts k (omega (arith, to)) in
          subst (λ (p : VirtioPart). p.gpa + p.len < 2 ^ 63) (sym same)
          (addresses_by ram disk_size kind sector parts k (is_done result) refl few small from to (subst (λ (p : VirtioPart). 0 < p.len) same any));
      size_some = some;
      size_most = large;
      aligned = aligned;
      used = below;
    }

-- ---- on the disk

on_disk_of : (disk_size sector size : ℕ) → are_sectors disk_size sector size ≡ true → 512 * sector + size ≤ disk_size
on_disk_of disk_size sector size is = grind (arith, nat_tests)

on_disk_by : (ram : List ℕ) (disk_size kind sector : ℕ) (parts : List VirtioPart) (done : Bool) → is_done (result_by ram disk_size kind sector (data_of parts)) ≡ done → 2 ≤ length parts
    → (if done then 1 else length parts - 1) < length parts - 1
    → 512 * sector + (bytes_in (between (padded_parts parts) 1 (if done then 1 else length parts - 1)) + 0)
    + bytes_in (behind 0 (between (padded_parts parts) (if done then 1 else length parts - 1) (length parts - 1))) ≤ disk_size
on_disk_by ram disk_size kind sector parts true is few before =
    let there = on_disk_of disk_size sector (bytes_in (data_of parts)) (can_of ram disk_size kind sector (data_of parts) is).0 in
    let none : bytes_in (between (padded_parts parts) 1 1) ≡ 0 = ap bytes_in (between_none (padded_parts parts) 1) in
    let left : bytes_in (behind 0 (between (padded_parts parts) 1 (length parts - 1))) ≡ bytes_in (data_of parts) =
    ap bytes_in (behind_none (between (padded_parts parts) 1 (length parts - 1)) ∙ between_padded parts 1 (length parts - 1) (omega (arith, few)) (omega arith)) in
    omega (arith, there, none, left)
on_disk_by ram disk_size kind sector parts false is few before = absurd (omega (arith, before))

pub new_on_disk : (ram : List ℕ) (disk_size kind head sector size used : ℕ) (parts : List VirtioPart) → 2 ≤ length parts
    → IsOnDisk disk_size (new_of head sector size used (result_by ram disk_size kind sector (data_of parts)) parts)
new_on_disk ram disk_size kind head sector size used parts few before =
    on_disk_by ram disk_size kind sector parts (is_done (result_by ram disk_size kind sector (data_of parts))) refl few before

-- the sizes of a queue in use
pub size_some : (size : ℕ) → is_size size ≡ true → 1 ≤ size
size_some size is = grind (arith, nat_tests)

pub size_most : (size : ℕ) → is_size size ≡ true → size ≤ 64
size_most size is = grind (arith, nat_tests)
