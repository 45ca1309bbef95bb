-- The request that a chain asks for, as the code holds it.
use Rattle.std.proofs.Common.{◌≡◌, ℕ, ◌+◌, ◌-◌, ◌*◌, ◌<◌, ◌≤◌, Bool, true, false, if◌then◌else◌, List, [], ◌++◌, length, take, drop, replicate, get_or, refl, ◌∙◌, ap, length-drop, arith}
use Rattle.std.specs.List.{list_all}
use Rattle.std.proofs.lemmas.List.{take-append-le, drop-append-le, get_or_append_left}
use Rattle.std.proofs.lemmas.List.Folds.{list_all_at}
use Rattle.spec_reference.specs.VirtioChain.{no_part, between, max_parts, data_of, result_of}
use Rattle.spec_reference.specs.VirtioRequests.{bytes_in, data_moves, moves_by, last_moves}
use Rattle.spec_reference.specs.VirtioStates.{behind, moves_left}
use Rattle.virtio_blk.specs.Held.{padded_parts, new_of}
use Rattle.sv_types.specs.declared.virtio.VirtioMove.{VirtioMove}
use Rattle.sv_types.specs.declared.virtio.VirtioPart.{VirtioPart}
use Rattle.virtio_blk.proofs.DataMoves.{between_none, behind_none, data_moves_none}
use Rattle.sv_types.specs.VirtioResults.{is_done}
use Rattle.sv_types.specs.declared.virtio.VirtioResult.{VirtioResult}

-- ---- the parts with empty ones after them

pub between_padded : (parts : List VirtioPart) (from to : ℕ) → from ≤ to → to ≤ length parts → between (padded_parts parts) from to ≡ between parts from to
between_padded parts from to order inside =
    let zeros = replicate (max_parts - length parts) no_part in
    let size = length-drop from parts in
    ap (take (to - from)) (drop-append-le from parts zeros (omega (arith, order, inside)))
    ∙ take-append-le (to - from) (drop from parts) zeros (omega (arith, order, inside, size))

pub part_padded : (parts : List VirtioPart) (k : ℕ) → k < length parts → get_or (padded_parts parts) k no_part ≡ get_or parts k no_part
part_padded parts k inside = get_or_append_left parts (replicate (max_parts - length parts) no_part) no_part k inside

-- ---- its moves

data_by : (sector : ℕ) (parts : List VirtioPart) (result : VirtioResult) (done : Bool) → 2 ≤ length parts → is_done result ≡ done
    → data_moves (512 * sector + (bytes_in (between (padded_parts parts) 1 (if done then 1 else length parts - 1)) + 0))
    (behind 0 (between (padded_parts parts) (if done then 1 else length parts - 1) (length parts - 1)))
    ≡ (if done then data_moves (512 * sector) (data_of parts) else [])
data_by sector parts result true few is =
    let none = between_none (padded_parts parts) 1 in
    let start : 512 * sector + (bytes_in (between (padded_parts parts) 1 1) + 0) ≡ 512 * sector =
    ap (λ (xs : List VirtioPart). 512 * sector + (bytes_in xs + 0)) none ∙ omega arith in
    ap (λ (n : ℕ). data_moves n (behind 0 (between (padded_parts parts) 1 (length parts - 1)))) start
    ∙ ap (data_moves (512 * sector)) (behind_none (between (padded_parts parts) 1 (length parts - 1)) ∙ between_padded parts 1 (length parts - 1) (omega (arith, few)) (omega arith))
data_by sector parts result false few is =
    let start = 512 * sector + (bytes_in (between (padded_parts parts) 1 (length parts - 1)) + 0) in
    ap (λ (xs : List VirtioPart). data_moves start (behind 0 xs)) (between_none (padded_parts parts) (length parts - 1))
    ∙ data_moves_none start

pub new_moves : (accepted head sector size used : ℕ) (result : VirtioResult) (parts : List VirtioPart) → 2 ≤ length parts
    → moves_left accepted (new_of head sector size used result parts) ≡ moves_by result sector (data_of parts) ++ last_moves (result_of parts).gpa used size head accepted
unfolding moves_left
new_moves accepted head sector size used result parts few =
    let last = part_padded parts (length parts - 1) (omega (arith, few)) in
    ap (λ (moves : List VirtioMove). moves ++ last_moves (get_or (padded_parts parts) (length parts - 1) no_part).gpa used size head accepted)
    (data_by sector parts result (is_done result) few refl)
    ∙ ap (λ (p : VirtioPart). moves_by result sector (data_of parts) ++ last_moves p.gpa used size head accepted) last

-- ---- its place

pub first_between : (last : ℕ) (done : Bool) → 1 ≤ last → (1 ≤ (if done then 1 else last)) × ((if done then 1 else last) ≤ last)
first_between last true some = (omega arith, some)
first_between last false some = (some, omega arith)

-- a request that is done as far as it was judged has data that can be moved
pub done_can : (known can : Bool) → is_done (if known then (if can then VirtioResult.Done else VirtioResult.Failed) else VirtioResult.Unsupported) ≡ true → can ≡ true
done_can true true is = refl
done_can true false is = absurd (cc)
done_can false can is = absurd (cc)

pub all_at : (p : VirtioPart → Bool) (xs : List VirtioPart) (k : ℕ) (b : Bool) → list_all p xs ≡ true → k < length xs → p (get_or xs k no_part) ≡ b → b ≡ true
all_at p xs k true all inside is = refl
all_at p xs k false all inside is = let none = list_all_at p xs k no_part inside is in cc
