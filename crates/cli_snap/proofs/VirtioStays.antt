-- What holds of the virtio block device and its disk after a store, and after a beat.
use Rattle.std.proofs.Common.{◌≡◌, ℕ, suc, ◌+◌, ◌-◌, ◌*◌, ◌%◌, ◌^◌, ◌≤◌, List, [], ◌∷◌, ◌++◌, length, filter, Bool, true, false, not, ◌&&◌, ◌||◌, arith, refl, subst, ◌∙◌}
use Rattle.std.specs.Prelude.{Option, Some, None, option_map, if◌then◌else◌, ◌==◌, nat_lt}
use Rattle.std.specs.List.{list_all}
use Rattle.std.proofs.lemmas.Bool.Decides.{nat_tests}
use Rattle.spec_processor.specs.Bytes.{low_bytes, part, in_ram, ram_offset, page_of}
use Rattle.laws_processor.proofs.ByteLemmas.{length_overwrite}
use Rattle.sv_types.specs.VirtioResults.{is_done, result_number}
use Rattle.sv_types.specs.declared.virtio.VirtioMove.{VirtioMove}
use Rattle.sv_types.specs.declared.virtio.VirtioPart.{VirtioPart}
use Rattle.sv_types.specs.declared.virtio.VirtioRegister.{VirtioRegister}
use Rattle.sv_types.specs.declared.virtio.VirtioResult.{VirtioResult}
use Rattle.spec_reference.specs.Move.{Move, DeniedAt, OutsideRam}
use Rattle.spec_reference.specs.VirtioDevice.{VirtioDevice, Request, is_selected}
use Rattle.spec_reference.specs.VirtioQueue.{rings_in_ram, available_index, next_head, waiting_count}
use Rattle.spec_reference.specs.VirtioChain.{chain, max_parts, is_good_chain, data_of, result_of}
use Rattle.spec_reference.specs.VirtioRegisters.{register_at}
use Rattle.spec_reference.specs.VirtioRequests.{bytes_in, lies_in, fits_type, are_sectors, can_move, result_by, sector_of, type_of, piece_size, piece, pieces}
use Rattle.spec_reference.specs.VirtioRequests.{data_moves, last_moves, moves_by}
use Rattle.spec_reference.specs.VirtioStores.{reset, with_features, kept_status, with_status, can_set, ready_after, with_ready, with_size, with_descriptors}
use Rattle.spec_reference.specs.VirtioStores.{with_available, with_used, with_low, with_high, put, virtio_store}
use Rattle.spec_reference.specs.VirtioBeats.{VirtioBeat, nothing, broken_beat, with_request, last_moves_alone, with_written, to_memory, is_last}
use Rattle.spec_reference.specs.VirtioBeats.{to_disk, put_last, finish_request, make, make_first, next_beat_count, result_in}
use Rattle.spec_reference.specs.VirtioBeats.{accept_request, accept, look, go_on, is_live, virtio_beat}
use Rattle.laws_simulation.proofs.Lookups.{part_short}
use Rattle.snapshot_format.proofs.FormLaws.{first_true}
use Rattle.cli_snap.specs.BlockRuns.{AllLieOn, LiesOn, HoldsVirtio, RequestLies}

-- ---- stores

either : (n : ℕ) (b : Bool) (x y : VirtioDevice) → HoldsVirtio n x → HoldsVirtio n y → HoldsVirtio n (if b then x else y)
either n true x y s t = s
either n false x y s t = t

features_hold : (n : ℕ) (d : VirtioDevice) (value : ℕ) → HoldsVirtio n d → HoldsVirtio n (with_features d value)
unfolding with_features
features_hold n d value k =
    either n (d.driver_select == 0) (record d { driver_low = value }) _ (record { size = k.size; moves = k.moves })
    (either n (d.driver_select == 1) (record d { driver_high = value }) d (record { size = k.size; moves = k.moves }) k)

status_holds : (n : ℕ) (d : VirtioDevice) (value : ℕ) → HoldsVirtio n d → HoldsVirtio n (with_status d value)
unfolding with_status reset
status_holds n d value k =
    either n (value == 0) (reset d.bytes) (record d { status = kept_status d value }) (record { size = k.size; moves = tt }) (record { size = k.size; moves = k.moves })

ready_holds : (n : ℕ) (d : VirtioDevice) (value : ℕ) → HoldsVirtio n d → HoldsVirtio n (with_ready d value)
unfolding with_ready
ready_holds n d value k = either n (is_selected d) (record d { ready = ready_after d value }) d (record { size = k.size; moves = k.moves }) k

size_holds : (n : ℕ) (d : VirtioDevice) (value : ℕ) → HoldsVirtio n d → HoldsVirtio n (with_size d value)
unfolding with_size
size_holds n d value k = either n (can_set d) (record d { size = value }) d (record { size = k.size; moves = k.moves }) k

descriptors_hold : (n : ℕ) (d : VirtioDevice) (address : ℕ) → HoldsVirtio n d → HoldsVirtio n (with_descriptors d address)
unfolding with_descriptors
descriptors_hold n d address k = either n (can_set d) (record d { descriptors = address }) d (record { size = k.size; moves = k.moves }) k

available_holds : (n : ℕ) (d : VirtioDevice) (address : ℕ) → HoldsVirtio n d → HoldsVirtio n (with_available d address)
unfolding with_available
available_holds n d address k = either n (can_set d) (record d { available = address }) d (record { size = k.size; moves = k.moves }) k

used_holds : (n : ℕ) (d : VirtioDevice) (address : ℕ) → HoldsVirtio n d → HoldsVirtio n (with_used d address)
unfolding with_used
used_holds n d address k = either n (can_set d) (record d { used = address }) d (record { size = k.size; moves = k.moves }) k

put_holds : (n : ℕ) (d : VirtioDevice) (register : VirtioRegister) (value : ℕ) → HoldsVirtio n d → HoldsVirtio n (put d register value)
unfolding put
put_holds n d VirtioRegister.DeviceFeaturesSelect value k = record { size = k.size; moves = k.moves }
put_holds n d VirtioRegister.DriverFeatures value k = features_hold n d value k
put_holds n d VirtioRegister.DriverFeaturesSelect value k = record { size = k.size; moves = k.moves }
put_holds n d VirtioRegister.QueueSelect value k = record { size = k.size; moves = k.moves }
put_holds n d VirtioRegister.QueueSize value k = size_holds n d value k
put_holds n d VirtioRegister.QueueReady value k = ready_holds n d value k
put_holds n d VirtioRegister.InterruptAcknowledge value k = record { size = k.size; moves = k.moves }
put_holds n d VirtioRegister.Status value k = status_holds n d value k
put_holds n d VirtioRegister.DescriptorsLow value k = descriptors_hold n d (with_low d.descriptors value) k
put_holds n d VirtioRegister.DescriptorsHigh value k = descriptors_hold n d (with_high d.descriptors value) k
put_holds n d VirtioRegister.AvailableLow value k = available_holds n d (with_low d.available value) k
put_holds n d VirtioRegister.AvailableHigh value k = available_holds n d (with_high d.available value) k
put_holds n d VirtioRegister.UsedLow value k = used_holds n d (with_low d.used value) k
put_holds n d VirtioRegister.UsedHigh value k = used_holds n d (with_high d.used value) k
put_holds n d _ value k = k

-- what a device becomes, if it becomes one
abbrev pub AnyHoldsVirtio : ℕ → Option VirtioDevice → Type 0
AnyHoldsVirtio n None = Unit {0}
AnyHoldsVirtio n (Some next) = HoldsVirtio n next

any_holds : (n : ℕ) (d : VirtioDevice) (value : ℕ) (x : Option VirtioRegister) → HoldsVirtio n d → AnyHoldsVirtio n (option_map (λ r. put d r value) x)
any_holds n d value None k = tt
any_holds n d value (Some register) k = put_holds n d register value k

pub virtio_stored : (n : ℕ) (d : VirtioDevice) (offset width value : ℕ) → HoldsVirtio n d → AnyHoldsVirtio n (virtio_store d offset width value)
unfolding virtio_store
virtio_stored n d offset width value k = any_holds n d (value % 2 ^ 32) (register_at offset width) k

-- ---- the moves of a request

all_append : (n : ℕ) (first rest : List VirtioMove) → AllLieOn n first → AllLieOn n rest → AllLieOn n (first ++ rest)
all_append n [] rest a b = b
all_append n (move ∷ first) rest a b = (a.0, all_append n first rest a.1 b)

last_lie : (n : ℕ) (moves : List VirtioMove) → AllLieOn n moves → AllLieOn n (filter is_last moves)
last_lie n [] k = tt
last_lie n (VirtioMove.ToMemory gpa place size ∷ moves) k = last_lie n moves k.1
last_lie n (VirtioMove.ToDisk gpa place size ∷ moves) k = last_lie n moves k.1
last_lie n (VirtioMove.PutResult gpa ∷ moves) k = (tt, last_lie n moves k.1)
last_lie n (VirtioMove.PutHead gpa head ∷ moves) k = (tt, last_lie n moves k.1)
last_lie n (VirtioMove.PutLength gpa ∷ moves) k = (tt, last_lie n moves k.1)
last_lie n (VirtioMove.PutIndex gpa index ∷ moves) k = (tt, last_lie n moves k.1)

piece_lies : (n : ℕ) (write : Bool) (gpa place size : ℕ) → place + size ≤ n → LiesOn n (piece write gpa place size)
piece_lies n true gpa place size fits = tt
piece_lies n false gpa place size fits = fits

pieces_lie : (k n : ℕ) (write : Bool) (gpa place len : ℕ) → place + len ≤ n → AllLieOn n (pieces k write gpa place len)
unfolding pieces
pieces_lie (suc k) n write gpa place (suc m) fits =
    let size = piece_size gpa (suc m) in
    let few : size ≤ suc m = omega arith in
    (piece_lies n write gpa place size (omega (arith, few, fits)), pieces_lie k n write (gpa + size) (place + size) (suc m - size) (omega (arith, few, fits)))
pieces_lie _ n write gpa place _ fits = tt

data_lie : (n place : ℕ) (parts : List VirtioPart) → place + bytes_in parts ≤ n → AllLieOn n (data_moves place parts)
unfolding data_moves
data_lie n place [] fits = tt
data_lie n place (part ∷ parts) fits =
    all_append n (pieces part.len part.write part.gpa place part.len) (data_moves (place + part.len) parts)
    (pieces_lie part.len n part.write part.gpa place part.len (omega (arith, fits))) (data_lie n (place + part.len) parts (omega (arith, fits)))

sectors_fit : (disk_size sector size : ℕ) → are_sectors disk_size sector size ≡ true → 512 * sector + size ≤ disk_size
sectors_fit disk_size sector size is = grind (arith, nat_tests)

done_fits : (known can : Bool) → is_done (if known then (if can then VirtioResult.Done else VirtioResult.Failed) else VirtioResult.Unsupported) ≡ true → can ≡ true
done_fits true true is = refl
done_fits _ _ is = absurd (cc)

moves_by_lie : (ram : List ℕ) (n kind sector : ℕ) (parts : List VirtioPart) (done : Bool) → is_done (result_by ram n kind sector parts) ≡ done
    → AllLieOn n (if done then data_moves (512 * sector) parts else [])
unfolding result_by can_move
moves_by_lie ram n kind sector parts true is =
    let sectors = are_sectors n sector (bytes_in parts) in
    let can = done_fits (kind == 0 || kind == 1) (sectors && list_all (lies_in ram) parts && list_all (fits_type kind) parts) is in
    let two = first_true (sectors && list_all (lies_in ram) parts) (list_all (fits_type kind) parts) can in
    data_lie n (512 * sector) parts (sectors_fit n sector (bytes_in parts) (first_true sectors (list_all (lies_in ram) parts) two))
moves_by_lie ram n kind sector parts false is = tt

-- ---- beats

broken_holds : (n : ℕ) (d : VirtioDevice) (x : Move) → HoldsVirtio n d → HoldsVirtio n (broken_beat d x).device
broken_holds n d x k = record { size = k.size; moves = tt }

going_holds : (n : ℕ) (d : VirtioDevice) (q : Request) → HoldsVirtio n d → AllLieOn n q.moves → HoldsVirtio n (with_request d q)
going_holds n d q k moves = record { size = k.size; moves = moves }

choose : (n : ℕ) (b : Bool) (x y : VirtioBeat) → HoldsVirtio n x.device → HoldsVirtio n y.device → HoldsVirtio n (if b then x else y).device
choose n true x y s t = s
choose n false x y s t = t

memory_holds : (n : ℕ) (d : VirtioDevice) (q : Request) (gpa place size : ℕ) (ram : List ℕ) (may_write : ℕ → Bool) → HoldsVirtio n d → AllLieOn n q.moves
    → HoldsVirtio n (to_memory d q gpa place size ram may_write).device
unfolding to_memory
memory_holds n d q gpa place size ram may_write k moves =
    choose n (not (in_ram ram gpa size)) (broken_beat d OutsideRam) _ (broken_holds n d OutsideRam k)
    (choose n (may_write (page_of gpa)) _ _ (going_holds n d (with_written q size) k moves) (going_holds n d (last_moves_alone q) k (last_lie n q.moves moves)))

disk_holds : (n : ℕ) (d : VirtioDevice) (q : Request) (gpa place size : ℕ) (ram : List ℕ) → HoldsVirtio n d → AllLieOn n q.moves → place + size ≤ n
    → HoldsVirtio n (to_disk d q gpa place size ram).device
unfolding to_disk
disk_holds n d q gpa place size ram k moves fits =
    let bytes = part ram (ram_offset gpa) size in
    let few = part_short ram (ram_offset gpa) size in
    let same = k.size in
    choose n (not (in_ram ram gpa size)) (broken_beat d OutsideRam) _ (broken_holds n d OutsideRam k)
    (record { size = length_overwrite d.bytes bytes place (omega (arith, few, fits, same)) ∙ k.size; moves = moves })

last_holds : (n : ℕ) (d next : VirtioDevice) (gpa : ℕ) (bytes ram : List ℕ) (may_write : ℕ → Bool) → HoldsVirtio n d → HoldsVirtio n next
    → HoldsVirtio n (put_last d next gpa bytes ram may_write).device
unfolding put_last
last_holds n d next gpa bytes ram may_write k after =
    choose n (not (in_ram ram gpa (length bytes))) (broken_beat d OutsideRam) _ (broken_holds n d OutsideRam k)
    (choose n (may_write (page_of gpa)) _ _ after (broken_holds n d (DeniedAt gpa) k))

make_holds : (n : ℕ) (d : VirtioDevice) (q : Request) (x : VirtioMove) (ram : List ℕ) (may_write : ℕ → Bool) → HoldsVirtio n d → AllLieOn n q.moves → LiesOn n x
    → HoldsVirtio n (make d q x ram may_write).device
unfolding make
make_holds n d q (VirtioMove.ToMemory gpa place size) ram may_write k moves lies = memory_holds n d q gpa place size ram may_write k moves
make_holds n d q (VirtioMove.ToDisk gpa place size) ram may_write k moves lies = disk_holds n d q gpa place size ram k moves lies
make_holds n d q (VirtioMove.PutResult gpa) ram may_write k moves lies = last_holds n d (with_request d q) gpa (low_bytes 1 (result_number q.result)) ram may_write k (going_holds n d q k moves)
make_holds n d q (VirtioMove.PutHead gpa head) ram may_write k moves lies = last_holds n d (with_request d q) gpa (low_bytes 4 head) ram may_write k (going_holds n d q k moves)
make_holds n d q (VirtioMove.PutLength gpa) ram may_write k moves lies = last_holds n d (with_request d q) gpa (low_bytes 4 (q.written + 1)) ram may_write k (going_holds n d q k moves)
make_holds n d q (VirtioMove.PutIndex gpa index) ram may_write k moves lies =
    last_holds n d (finish_request d) gpa (low_bytes 2 index) ram may_write k (record { size = k.size; moves = tt })

first_holds : (n : ℕ) (d : VirtioDevice) (q : Request) (moves : List VirtioMove) (ram : List ℕ) (may_write : ℕ → Bool) → HoldsVirtio n d → AllLieOn n moves
    → HoldsVirtio n (make_first d q moves ram may_write).device
first_holds n d q [] ram may_write k lie = k
first_holds n d q (move ∷ moves) ram may_write k lie = make_holds n d (record q { moves = moves }) move ram may_write k lie.1 lie.0

request_holds : (n : ℕ) (d : VirtioDevice) (ram : List ℕ) (head : ℕ) (parts : List VirtioPart) → HoldsVirtio n d → HoldsVirtio n (accept_request d ram head parts)
unfolding accept_request
request_holds n d ram head parts k =
    let result = result_in d ram parts in
    let lie = subst (λ (m : ℕ). AllLieOn m (moves_by result (sector_of ram parts) (data_of parts))) k.size
    (moves_by_lie ram (length d.bytes) (type_of ram parts) (sector_of ram parts) (data_of parts) (is_done result) refl) in
    record {
      size = k.size;
      moves = all_append n (moves_by result (sector_of ram parts) (data_of parts)) (last_moves (result_of parts).gpa d.used d.size head (next_beat_count d)) lie (tt, (tt, (tt, (tt, tt))));
    }

accept_holds : (n : ℕ) (d : VirtioDevice) (ram : List ℕ) (head : ℕ) (parts : Option (List VirtioPart)) → HoldsVirtio n d → HoldsVirtio n (accept d ram head parts).device
unfolding accept
accept_holds n d ram head None k = broken_holds n d OutsideRam k
accept_holds n d ram head (Some parts) k = choose n (is_good_chain ram parts) _ _ (request_holds n d ram head parts k) (broken_holds n d OutsideRam k)

look_holds : (n : ℕ) (d : VirtioDevice) (ram : List ℕ) → HoldsVirtio n d → HoldsVirtio n (look d ram).device
unfolding look
look_holds n d ram k =
    choose n (not (rings_in_ram d ram)) (broken_beat d OutsideRam) _ (broken_holds n d OutsideRam k)
    (choose n (available_index d ram == d.accepted) (nothing d) _ k
    (choose n (nat_lt d.size (waiting_count d ram)) (broken_beat d OutsideRam) _ (broken_holds n d OutsideRam k)
    (accept_holds n d ram (next_head d ram) (chain max_parts ram (ram_offset d.descriptors) d.size (next_head d ram)) k)))

going_on : (n : ℕ) (d : VirtioDevice) (q : Option Request) (ram : List ℕ) (may_write : ℕ → Bool) → HoldsVirtio n d → RequestLies n q
    → HoldsVirtio n (go_on d q ram may_write).device
going_on n d None ram may_write k lie = look_holds n d ram k
going_on n d (Some q) ram may_write k lie = first_holds n d q q.moves ram may_write k lie

pub virtio_beat_holds : (n : ℕ) (d : VirtioDevice) (ram : List ℕ) (may_write : ℕ → Bool) → HoldsVirtio n d → HoldsVirtio n (virtio_beat d ram may_write).device
unfolding virtio_beat
virtio_beat_holds n d ram may_write k = choose n (is_live d) _ _ (going_on n d d.request ram may_write k k.moves) k
