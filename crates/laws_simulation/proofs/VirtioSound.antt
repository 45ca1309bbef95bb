-- A virtio block device stays sound: stores into its registers, and the moves of the requests that it accepts.
use Rattle.std.proofs.Common.{◌≡◌, ℕ, zero, suc, ◌+◌, ◌-◌, ◌*◌, ◌%◌, ◌^◌, ◌<◌, inl, inr, List, [], ◌∷◌, ◌++◌, refl, subst, Bool, true, false, not, ◌&&◌, ◌||◌, filter, arith}
use Rattle.spec_processor.specs.Bytes.{page_size}
use Rattle.sv_types.proofs.InPages.{aligned_in_page, word_in_page}
use Rattle.std.specs.Prelude.{Option, Some, None, option_map, if◌then◌else◌, ◌==◌}
use Rattle.std.proofs.lemmas.Bool.{eqb-true}
use Rattle.sv_types.specs.declared.virtio.VirtioMove.{VirtioMove}
use Rattle.sv_types.specs.declared.virtio.VirtioPart.{VirtioPart}
use Rattle.sv_types.specs.declared.virtio.VirtioRegister.{VirtioRegister}
use Rattle.spec_reference.specs.VirtioDevice.{VirtioDevice, is_selected}
use Rattle.spec_reference.specs.VirtioRegisters.{register_at}
use Rattle.spec_reference.specs.VirtioStores.{reset, with_features, kept_status, with_status, can_set, is_size, ready_after, with_ready}
use Rattle.spec_reference.specs.VirtioStores.{with_size, with_descriptors, with_available, with_used, with_low, with_high, put}
use Rattle.spec_reference.specs.VirtioStores.{virtio_store}
use Rattle.spec_reference.specs.VirtioQueue.{used_gpa, used_index_gpa}
use Rattle.spec_reference.specs.VirtioRequests.{piece_size, piece, pieces, data_moves, last_moves, moves_by}
use Rattle.spec_reference.specs.VirtioBeats.{is_last}
use Rattle.spec_reference.specs.Soundness.{IsSoundMove, AreSoundMoves, IsSoundVirtio, StaysInPage}
use Rattle.sv_types.specs.declared.virtio.VirtioResult.{VirtioResult}
use Rattle.sv_types.specs.VirtioResults.{is_done}

-- ---- stores

choose_virtio : (b : Bool) (x y : VirtioDevice) → IsSoundVirtio x → IsSoundVirtio y → IsSoundVirtio (if b then x else y)
choose_virtio true x y s t = s
choose_virtio false x y s t = t

reset_sound : (bytes : List ℕ) → IsSoundVirtio (reset bytes)
unfolding reset
reset_sound bytes = record { aligned = λ ready. cc; moves = tt }

features_sound : (d : VirtioDevice) (value : ℕ) → IsSoundVirtio d → IsSoundVirtio (with_features d value)
unfolding with_features
features_sound d value k =
    choose_virtio (d.driver_select == 0) (record d { driver_low = value }) _ (record { aligned = k.aligned; moves = k.moves })
    (choose_virtio (d.driver_select == 1) (record d { driver_high = value }) d (record { aligned = k.aligned; moves = k.moves }) k)

status_sound : (d : VirtioDevice) (value : ℕ) → IsSoundVirtio d → IsSoundVirtio (with_status d value)
unfolding with_status
status_sound d value k =
    choose_virtio (value == 0) (reset d.bytes) (record d { status = kept_status d value }) (reset_sound d.bytes) (record { aligned = k.aligned; moves = k.moves })

-- a queue that becomes ready is aligned
ready_aligned : (one ready size descriptors available : Bool) (used : ℕ) → (ready ≡ true → used % 4 ≡ 0)
    → (one && (ready || (size && (descriptors && available && (used % 4 == 0))))) ≡ true → used % 4 ≡ 0
ready_aligned true true size descriptors available used k e = k refl
ready_aligned true false true true true used k e = eqb-true (used % 4) 0 e
ready_aligned true false true true false used k e = cc
ready_aligned true false true false available used k e = cc
ready_aligned true false false descriptors available used k e = cc
ready_aligned false ready size descriptors available used k e = cc

ready_sound : (d : VirtioDevice) (value : ℕ) → IsSoundVirtio d → IsSoundVirtio (with_ready d value)
unfolding with_ready
ready_sound d value k =
    choose_virtio (is_selected d) (record d { ready = ready_after d value }) d
    (record { aligned = ready_aligned (value == 1) d.ready (is_size d.size) (d.descriptors % 16 == 0) (d.available % 2 == 0) d.used k.aligned; moves = k.moves }) k

size_sound : (d : VirtioDevice) (value : ℕ) → IsSoundVirtio d → IsSoundVirtio (with_size d value)
unfolding with_size
size_sound d value k = choose_virtio (can_set d) (record d { size = value }) d (record { aligned = k.aligned; moves = k.moves }) k

descriptors_sound : (d : VirtioDevice) (address : ℕ) → IsSoundVirtio d → IsSoundVirtio (with_descriptors d address)
unfolding with_descriptors
descriptors_sound d address k = choose_virtio (can_set d) (record d { descriptors = address }) d (record { aligned = k.aligned; moves = k.moves }) k

available_sound : (d : VirtioDevice) (address : ℕ) → IsSoundVirtio d → IsSoundVirtio (with_available d address)
unfolding with_available
available_sound d address k = choose_virtio (can_set d) (record d { available = address }) d (record { aligned = k.aligned; moves = k.moves }) k

-- the used ring may be set only while the queue isn't in use
not_ready : (selected ready : Bool) → (selected && not ready) ≡ true → ready ≡ true → ⊥
not_ready true true e on = cc
not_ready true false e on = cc
not_ready false ready e on = cc

set_used : (d : VirtioDevice) (can : Bool) (address : ℕ) → (can ≡ true → d.ready ≡ true → ⊥) → IsSoundVirtio d → IsSoundVirtio (if can then record d { used = address } else d)
set_used d true address off k = record { aligned = λ ready. absurd (off refl ready); moves = k.moves }
set_used d false address off k = k

used_sound : (d : VirtioDevice) (address : ℕ) → IsSoundVirtio d → IsSoundVirtio (with_used d address)
unfolding with_used
used_sound d address k = set_used d (can_set d) address (not_ready (is_selected d) d.ready) k

put_sound : (d : VirtioDevice) (register : VirtioRegister) (value : ℕ) → IsSoundVirtio d → IsSoundVirtio (put d register value)
unfolding put
put_sound d VirtioRegister.MagicValue value k = k
put_sound d VirtioRegister.Version value k = k
put_sound d VirtioRegister.DeviceId value k = k
put_sound d VirtioRegister.VendorId value k = k
put_sound d VirtioRegister.DeviceFeatures value k = k
put_sound d VirtioRegister.DeviceFeaturesSelect value k = record { aligned = k.aligned; moves = k.moves }
put_sound d VirtioRegister.DriverFeatures value k = features_sound d value k
put_sound d VirtioRegister.DriverFeaturesSelect value k = record { aligned = k.aligned; moves = k.moves }
put_sound d VirtioRegister.QueueSelect value k = record { aligned = k.aligned; moves = k.moves }
put_sound d VirtioRegister.QueueSizeMax value k = k
put_sound d VirtioRegister.QueueSize value k = size_sound d value k
put_sound d VirtioRegister.QueueReady value k = ready_sound d value k
put_sound d VirtioRegister.QueueNotify value k = k
put_sound d VirtioRegister.InterruptStatus value k = k
put_sound d VirtioRegister.InterruptAcknowledge value k = record { aligned = k.aligned; moves = k.moves }
put_sound d VirtioRegister.Status value k = status_sound d value k
put_sound d VirtioRegister.DescriptorsLow value k = descriptors_sound d (with_low d.descriptors value) k
put_sound d VirtioRegister.DescriptorsHigh value k = descriptors_sound d (with_high d.descriptors value) k
put_sound d VirtioRegister.AvailableLow value k = available_sound d (with_low d.available value) k
put_sound d VirtioRegister.AvailableHigh value k = available_sound d (with_high d.available value) k
put_sound d VirtioRegister.UsedLow value k = used_sound d (with_low d.used value) k
put_sound d VirtioRegister.UsedHigh value k = used_sound d (with_high d.used value) k
put_sound d VirtioRegister.ConfigGeneration value k = k
put_sound d VirtioRegister.CapacityLow value k = k
put_sound d VirtioRegister.CapacityHigh value k = k

put_found : (d next : VirtioDevice) (value : ℕ) (x : Option VirtioRegister) → IsSoundVirtio d → option_map (λ r. put d r value) x ≡ Some next → IsSoundVirtio next
put_found d next value None k e = cc
put_found d next value (Some register) k e =
    let same : put d register value ≡ next = cc in subst IsSoundVirtio same (put_sound d register value k)

-- a store leaves the device sound
pub virtio_stored : (d next : VirtioDevice) (offset width value : ℕ) → IsSoundVirtio d → virtio_store d offset width value ≡ Some next → IsSoundVirtio next
unfolding virtio_store
virtio_stored d next offset width value k e = put_found d next (value % 2 ^ 32) (register_at offset width) k e

-- ---- the moves of a request

pub sound_append : (first rest : List VirtioMove) → AreSoundMoves first → AreSoundMoves rest → AreSoundMoves (first ++ rest)
sound_append [] rest a b = b
sound_append (move ∷ first) rest a b = (a.0, sound_append first rest a.1 b)

-- those that are left where no data may be written
pub sound_last : (moves : List VirtioMove) → AreSoundMoves moves → AreSoundMoves (filter is_last moves)
sound_last [] k = tt
sound_last (VirtioMove.ToMemory gpa place size ∷ moves) k = sound_last moves k.1
sound_last (VirtioMove.ToDisk gpa place size ∷ moves) k = sound_last moves k.1
sound_last (VirtioMove.PutResult gpa ∷ moves) k = (k.0, sound_last moves k.1)
sound_last (VirtioMove.PutHead gpa head ∷ moves) k = (k.0, sound_last moves k.1)
sound_last (VirtioMove.PutLength gpa ∷ moves) k = (k.0, sound_last moves k.1)
sound_last (VirtioMove.PutIndex gpa index ∷ moves) k = (k.0, sound_last moves k.1)

piece_sound : (write : Bool) (gpa place size : ℕ) → StaysInPage gpa size → IsSoundMove (piece write gpa place size)
piece_sound true gpa place size k = k
piece_sound false gpa place size k = k

piece_stays : (gpa m : ℕ) → StaysInPage gpa (piece_size gpa (suc m))
piece_stays gpa m =
    let below : gpa % page_size < page_size = grind arith in
    (omega (arith, below), omega (arith, below))

pieces_sound : (n : ℕ) (write : Bool) (gpa place len : ℕ) → AreSoundMoves (pieces n write gpa place len)
unfolding pieces
pieces_sound zero write gpa place len = tt
pieces_sound (suc n) write gpa place zero = tt
pieces_sound (suc n) write gpa place (suc m) =
    let size = piece_size gpa (suc m) in
    (piece_sound write gpa place size (piece_stays gpa m), pieces_sound n write (gpa + size) (place + size) (suc m - size))

data_sound : (place : ℕ) (parts : List VirtioPart) → AreSoundMoves (data_moves place parts)
unfolding data_moves
data_sound place [] = tt
data_sound place (part ∷ parts) =
    sound_append (pieces part.len part.write part.gpa place part.len) (data_moves (place + part.len) parts)
    (pieces_sound part.len part.write part.gpa place part.len) (data_sound (place + part.len) parts)

chosen_sound : (done : Bool) (moves : List VirtioMove) → AreSoundMoves moves → AreSoundMoves (if done then moves else [])
chosen_sound true moves k = k
chosen_sound false moves k = tt

byte_stays : (gpa : ℕ) → StaysInPage gpa 1
byte_stays gpa = let below : gpa % page_size < page_size = grind arith in (omega arith, omega (arith, below))

word_stays : (gpa : ℕ) → gpa % 4 ≡ 0 → StaysInPage gpa 4
word_stays gpa aligned = (omega arith, word_in_page gpa aligned)

half_stays : (gpa : ℕ) → gpa % 2 ≡ 0 → StaysInPage gpa 2
half_stays gpa aligned = (omega arith, aligned_in_page 2 gpa (inr (inl refl)) aligned)

entry_aligned : (used k : ℕ) → used % 4 ≡ 0 → (used + 4 + 8 * k) % 4 ≡ 0
entry_aligned used k e = omega (arith, e)

next_aligned : (used k : ℕ) → used % 4 ≡ 0 → (used + 4 + 8 * k + 4) % 4 ≡ 0
next_aligned used k e = omega (arith, e)

index_aligned : (used : ℕ) → used % 4 ≡ 0 → (used + 2) % 2 ≡ 0
index_aligned used e = omega (arith, e)

lasts_sound : (result_gpa used size head accepted : ℕ) → used % 4 ≡ 0 → AreSoundMoves (last_moves result_gpa used size head accepted)
lasts_sound result_gpa used size head accepted aligned =
    let k : ℕ = (accepted + 65535) % 65536 % size in (
      byte_stays result_gpa,
      (
        word_stays (used_gpa used size accepted) (entry_aligned used k aligned),
        (word_stays (used_gpa used size accepted + 4) (next_aligned used k aligned), (half_stays (used_index_gpa used) (index_aligned used aligned), tt)),
      ),
    )

-- the moves of a request as it is accepted
pub request_sound : (result : VirtioResult) (sector : ℕ) (parts : List VirtioPart) (result_gpa used size head accepted : ℕ) → used % 4 ≡ 0
    → AreSoundMoves (moves_by result sector parts ++ last_moves result_gpa used size head accepted)
request_sound result sector parts result_gpa used size head accepted aligned =
    sound_append (moves_by result sector parts) (last_moves result_gpa used size head accepted)
    (chosen_sound (is_done result) (data_moves (512 * sector) parts) (data_sound (512 * sector) parts))
    (lasts_sound result_gpa used size head accepted aligned)
