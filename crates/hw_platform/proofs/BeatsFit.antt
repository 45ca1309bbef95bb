-- A beat of the disk's device keeps to RAM, and so does a write of an attacker's.
use Rattle.std.proofs.Common.{◌≡◌, ℕ, ◌+◌, ◌≤◌, List, [], ◌∷◌, length, refl, arith, Bool, true, false}
use Rattle.std.specs.Prelude.{Option, Some, None, not, ◌&&◌, ◌==◌, nat_lt, if◌then◌else◌}
use Rattle.std.proofs.lemmas.Bool.Decides.{nat_tests}
use Rattle.spec_processor.specs.Bytes.{in_ram, low_bytes, ram_base, ram_offset, page_of, part}
use Rattle.spec_processor.specs.Regions.{Region}
use Rattle.laws_processor.proofs.ByteLemmas.{length_overwrite}
use Rattle.sv_types.specs.Schedule.{is_poke_address, poke_size}
use Rattle.sv_types.specs.declared.block.BlockStatus.{BlockStatus}
use Rattle.sv_types.specs.declared.virtio.VirtioMove.{VirtioMove}
use Rattle.sv_types.specs.declared.virtio.VirtioPart.{VirtioPart}
use Rattle.spec_reference.specs.States.{Disk, BlockDevice, BlockDisk, VirtioDisk}
use Rattle.spec_reference.specs.VirtioDevice.{VirtioDevice, Request}
use Rattle.spec_reference.specs.VirtioQueue.{rings_in_ram, available_index, next_head, waiting_count}
use Rattle.spec_reference.specs.VirtioChain.{chain, max_parts, is_good_chain}
use Rattle.spec_reference.specs.VirtioBeats.{VirtioBeat, nothing, broken_beat, with_request, last_moves_alone, with_written, to_memory}
use Rattle.spec_reference.specs.VirtioBeats.{to_disk, put_last, finish_request, make, make_first, accept_request, accept, look, go_on}
use Rattle.spec_reference.specs.VirtioBeats.{is_live, virtio_beat}
use Rattle.spec_reference.specs.BlockDisk.{block_beat, is_busy, block_to_disk, transfer_ended, block_after_beat, beat_gpa, beat_place, beat_size, is_to_memory}
use Rattle.spec_reference.specs.Attacker.{poke_move}
use Rattle.spec_reference.specs.Disk.{disk_beat}
use Rattle.spec_reference.specs.Move.{Move, Idle, FromRam, IntoRam, DeniedAt, OutsideRam}
use Rattle.dma_guard.specs.Transfers.{beat_of, after_move}
use Rattle.dma_guard.specs.declared.port.DmaStep.{DmaStep}
use Rattle.laws_simulation.proofs.Lookups.{part_short}
use Rattle.hw_platform.specs.Beats.{LiesInRam, ToldInRam}
use Rattle.laws_simulation.proofs.BeatsSound.{room_of}
use Rattle.sv_types.specs.VirtioResults.{result_number}

begins : (ram : List ℕ) (gpa size : ℕ) → in_ram ram gpa size ≡ true → ram_base ≤ gpa
begins ram gpa size e = grind (arith, nat_tests)

lies_there : (ram : List ℕ) (gpa size : ℕ) (bytes : List ℕ) → length bytes ≤ size → in_ram ram gpa size ≡ true → LiesInRam ram gpa (length bytes)
lies_there ram gpa size bytes short e = record { first = begins ram gpa size e; last = room_of ram gpa (length bytes) size short e }

-- ---- this project's block device

fits_by : (d : BlockDevice) (ram : List ℕ) (busy inside into free : Bool) → in_ram ram (beat_gpa d.block) beat_size ≡ inside
    → ToldInRam ram (beat_of (if not busy then record { device = d; move = Idle }
    else if not inside then transfer_ended d BlockStatus.OutOfRange OutsideRam
    else if into
    then (if free
    then record { device = record d { block = block_after_beat d.block }; move = IntoRam (beat_gpa d.block) (part d.bytes (beat_place d.block) beat_size) }
    else transfer_ended d BlockStatus.Denied (DeniedAt (beat_gpa d.block)))
    else block_to_disk d ram).move)
fits_by d ram false inside into free e = tt
fits_by d ram true false into free e = tt
fits_by d ram true true false free e = tt
fits_by d ram true true true false e = tt
fits_by d ram true true true true e =
    lies_there ram (beat_gpa d.block) beat_size (part d.bytes (beat_place d.block) beat_size) (part_short d.bytes (beat_place d.block) beat_size) e

block_fits : (d : BlockDevice) (ram : List ℕ) (may_write : ℕ → Bool) → ToldInRam ram (beat_of (block_beat d ram may_write).move)
unfolding block_beat
block_fits d ram may_write =
    fits_by d ram (is_busy d.block) (in_ram ram (beat_gpa d.block) beat_size) (is_to_memory d.block.status) (may_write (page_of (beat_gpa d.block))) refl

-- ---- a virtio block device

choose_fits : (ram : List ℕ) (b : Bool) (x y : VirtioBeat) → ToldInRam ram (beat_of x.move) → ToldInRam ram (beat_of y.move) → ToldInRam ram (beat_of (if b then x else y).move)
choose_fits ram true x y s t = s
choose_fits ram false x y s t = t

data_fits : (d : VirtioDevice) (q : Request) (gpa place size : ℕ) (ram : List ℕ) (inside free : Bool) → in_ram ram gpa size ≡ inside
    → ToldInRam ram (beat_of (if not inside then broken_beat d OutsideRam
    else if free then record { device = with_request d (with_written q size); move = IntoRam gpa (part d.bytes place size) }
    else record { device = with_request d (last_moves_alone q); move = DeniedAt gpa }).move)
data_fits d q gpa place size ram true true e = lies_there ram gpa size (part d.bytes place size) (part_short d.bytes place size) e
data_fits d q gpa place size ram true false e = tt
data_fits d q gpa place size ram false free e = tt

put_fits : (d next : VirtioDevice) (gpa : ℕ) (bytes ram : List ℕ) (inside free : Bool) → in_ram ram gpa (length bytes) ≡ inside
    → ToldInRam ram (beat_of (if not inside then broken_beat d OutsideRam
    else if free then record { device = next; move = IntoRam gpa bytes }
    else broken_beat d (DeniedAt gpa)).move)
put_fits d next gpa bytes ram true true e = lies_there ram gpa (length bytes) bytes (omega arith) e
put_fits d next gpa bytes ram true false e = tt
put_fits d next gpa bytes ram false free e = tt

last_fits : (d next : VirtioDevice) (gpa : ℕ) (bytes ram : List ℕ) (may_write : ℕ → Bool) → ToldInRam ram (beat_of (put_last d next gpa bytes ram may_write).move)
unfolding put_last
last_fits d next gpa bytes ram may_write = put_fits d next gpa bytes ram (in_ram ram gpa (length bytes)) (may_write (page_of gpa)) refl

move_fits : (d : VirtioDevice) (q : Request) (x : VirtioMove) (ram : List ℕ) (may_write : ℕ → Bool) → ToldInRam ram (beat_of (make d q x ram may_write).move)
unfolding make to_memory to_disk
move_fits d q (VirtioMove.ToMemory gpa place size) ram may_write = data_fits d q gpa place size ram (in_ram ram gpa size) (may_write (page_of gpa)) refl
move_fits d q (VirtioMove.ToDisk gpa place size) ram may_write = choose_fits ram (not (in_ram ram gpa size)) (broken_beat d OutsideRam) _ tt tt
move_fits d q (VirtioMove.PutResult gpa) ram may_write = last_fits d (with_request d q) gpa (low_bytes 1 (result_number q.result)) ram may_write
move_fits d q (VirtioMove.PutHead gpa head) ram may_write = last_fits d (with_request d q) gpa (low_bytes 4 head) ram may_write
move_fits d q (VirtioMove.PutLength gpa) ram may_write = last_fits d (with_request d q) gpa (low_bytes 4 (q.written + 1)) ram may_write
move_fits d q (VirtioMove.PutIndex gpa index) ram may_write = last_fits d (finish_request d) gpa (low_bytes 2 index) ram may_write

first_fits : (d : VirtioDevice) (q : Request) (moves : List VirtioMove) (ram : List ℕ) (may_write : ℕ → Bool) → ToldInRam ram (beat_of (make_first d q moves ram may_write).move)
first_fits d q [] ram may_write = tt
first_fits d q (move ∷ moves) ram may_write = move_fits d (record q { moves = moves }) move ram may_write

accept_fits : (d : VirtioDevice) (ram : List ℕ) (head : ℕ) (parts : Option (List VirtioPart)) → ToldInRam ram (beat_of (accept d ram head parts).move)
unfolding accept
accept_fits d ram head None = tt
accept_fits d ram head (Some parts) = choose_fits ram (is_good_chain ram parts) (record { device = accept_request d ram head parts; move = Idle }) (broken_beat d OutsideRam) tt tt

look_fits : (d : VirtioDevice) (ram : List ℕ) → ToldInRam ram (beat_of (look d ram).move)
unfolding look
look_fits d ram =
    choose_fits ram (not (rings_in_ram d ram)) (broken_beat d OutsideRam) _ tt
    (choose_fits ram (available_index d ram == d.accepted) (nothing d) _ tt
    (choose_fits ram (nat_lt d.size (waiting_count d ram)) (broken_beat d OutsideRam) _ tt
    (accept_fits d ram (next_head d ram) (chain max_parts ram (ram_offset d.descriptors) d.size (next_head d ram)))))

going_fits : (d : VirtioDevice) (q : Option Request) (ram : List ℕ) (may_write : ℕ → Bool) → ToldInRam ram (beat_of (go_on d q ram may_write).move)
going_fits d None ram may_write = look_fits d ram
going_fits d (Some q) ram may_write = first_fits d q q.moves ram may_write

virtio_fits : (d : VirtioDevice) (ram : List ℕ) (may_write : ℕ → Bool) → ToldInRam ram (beat_of (virtio_beat d ram may_write).move)
unfolding virtio_beat
virtio_fits d ram may_write = choose_fits ram (is_live d) (go_on d d.request ram may_write) (nothing d) (going_fits d d.request ram may_write) tt

-- ---- either

pub beat_fits : (d : Disk) (ram : List ℕ) (may_write : ℕ → Bool) → ToldInRam ram (beat_of (disk_beat d ram may_write).move)
unfolding disk_beat
beat_fits (BlockDisk d) ram may_write = block_fits d ram may_write
beat_fits (VirtioDisk d) ram may_write = virtio_fits d ram may_write

-- ---- an attacker's device

poke_fits_by : (ram : List ℕ) (gpa value : ℕ) (aligned inside free : Bool) → in_ram ram gpa poke_size ≡ inside
    → ToldInRam ram (beat_of (if not (aligned && inside) then OutsideRam
    else if free then IntoRam gpa (low_bytes poke_size value)
    else DeniedAt gpa))
poke_fits_by ram gpa value false inside free e = tt
poke_fits_by ram gpa value true false free e = tt
poke_fits_by ram gpa value true true false e = tt
poke_fits_by ram gpa value true true true e = lies_there ram gpa poke_size (low_bytes poke_size value) (omega arith) e

pub poke_fits : (ram : List ℕ) (may_write : ℕ → Bool) (gpa value : ℕ) → ToldInRam ram (beat_of (poke_move ram may_write gpa value))
unfolding poke_move
poke_fits ram may_write gpa value = poke_fits_by ram gpa value (is_poke_address gpa) (in_ram ram gpa poke_size) (may_write (page_of gpa)) refl

-- ---- what a move keeps

pub move_keeps_tables : (r : Region) (x : Move) → (after_move r x).tables ≡ r.tables
move_keeps_tables r Idle = refl
move_keeps_tables r (FromRam gpa) = refl
move_keeps_tables r (IntoRam gpa bytes) = refl
move_keeps_tables r (DeniedAt gpa) = refl
move_keeps_tables r OutsideRam = refl

pub move_keeps_size : (r : Region) (x : Move) → ToldInRam r.ram (beat_of x) → length (after_move r x).ram ≡ length r.ram
move_keeps_size r Idle fits = refl
move_keeps_size r (FromRam gpa) fits = refl
move_keeps_size r (IntoRam gpa bytes) fits = length_overwrite r.ram bytes (ram_offset gpa) fits.last
move_keeps_size r (DeniedAt gpa) fits = refl
move_keeps_size r OutsideRam fits = refl

-- what lies in RAM lies in any other of its size
pub told_inside : (ram after : List ℕ) (told : DmaStep) → length after ≡ length ram → ToldInRam ram told → ToldInRam after told
told_inside ram after (DmaStep.Wrote gpa n) same fits = record { first = fits.first; last = let last = fits.last in omega (arith, same, last) }
told_inside ram after (DmaStep.Read gpa) same fits = tt
told_inside ram after (DmaStep.Denied gpa) same fits = tt
told_inside ram after DmaStep.Idle same fits = tt
told_inside ram after DmaStep.Range same fits = tt
