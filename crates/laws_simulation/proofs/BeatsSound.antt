-- What a device writes, by a beat or a poke, lies in one page that isn't protected, and the disk stays sound.
use Rattle.std.proofs.Common.{◌≡◌, ℕ, ◌+◌, ◌*◌, ◌/◌, ◌%◌, ◌≤◌, List, [], ◌∷◌, length, refl, sym, subst, Bool, true, false, not, ◌&&◌, arith}
use Rattle.sv_types.proofs.InPages.{page_begins}
use Rattle.std.specs.Prelude.{Option, Some, None, if◌then◌else◌, ◌==◌, nat_lt}
use Rattle.std.proofs.lemmas.Bool.Decides.{nat_tests}
use Rattle.std.proofs.lemmas.Bool.{not-true, eqb-true}
use Rattle.spec_processor.specs.Bytes.{part, overwrite, low_bytes, in_ram, page_of, page_size, ram_offset}
use Rattle.laws_processor.proofs.ByteLemmas.{length_low_bytes}
use Rattle.sv_types.specs.declared.block.BlockStatus.{BlockStatus}
use Rattle.sv_types.specs.declared.virtio.VirtioMove.{VirtioMove}
use Rattle.sv_types.specs.declared.virtio.VirtioPart.{VirtioPart}
use Rattle.spec_reference.specs.States.{State, Disk, BlockDevice, BlockDisk, VirtioDisk, is_protected}
use Rattle.spec_reference.specs.Move.{Move, Idle, FromRam, IntoRam, DeniedAt, OutsideRam}
use Rattle.spec_reference.specs.BlockDisk.{BlockBeat, block_beat, block_to_memory, block_to_disk, transfer_ended, block_ended}
use Rattle.spec_reference.specs.BlockDisk.{block_after_beat, beat_gpa, beat_place, beat_size, beats_done, one_further, is_busy}
use Rattle.spec_reference.specs.BlockDisk.{is_to_memory, sector_size}
use Rattle.spec_reference.specs.VirtioDevice.{VirtioDevice, Request, driver_ok, is_broken}
use Rattle.spec_reference.specs.VirtioQueue.{rings_in_ram, available_index, next_head, waiting_count}
use Rattle.spec_reference.specs.VirtioChain.{chain, max_parts, is_good_chain, data_of, result_of}
use Rattle.spec_reference.specs.VirtioRequests.{sector_of}
use Rattle.spec_reference.specs.VirtioBeats.{VirtioBeat, nothing, broken_beat, with_request, last_moves_alone, with_written, to_memory}
use Rattle.spec_reference.specs.VirtioBeats.{to_disk, put_last, finish_request, make, make_first, next_beat_count, result_in}
use Rattle.spec_reference.specs.VirtioBeats.{accept_request, accept, look, go_on, is_live, virtio_beat}
use Rattle.spec_reference.specs.Attacker.{poke_move}
use Rattle.spec_reference.specs.Devices.{with_disk}
use Rattle.spec_reference.specs.Disk.{DmaStep, disk_beat}
use Rattle.sv_types.specs.Schedule.{poke_size, is_poke_address}
use Rattle.spec_reference.specs.Soundness.{IsSound, IsSoundBlock, IsSoundDisk, IsSoundVirtio, IsSoundRequest, IsSoundMove, AreSoundMoves, StaysInPage}
use Rattle.laws_simulation.proofs.Lookups.{unprotected, unheld, part_short}
use Rattle.laws_simulation.proofs.Sounds.{InFreePage}
use Rattle.laws_simulation.proofs.VirtioSound.{sound_last, request_sound}
use Rattle.sv_types.specs.VirtioResults.{result_number}

-- what a device writes: no more bytes than there is room for in RAM and in a page that isn't protected
pub record IsFreeBeat (r : State) (gpa : ℕ) (bytes : List ℕ) : Type 0 where
  pub size : ℕ
  pub some : 1 ≤ size
  pub short : length bytes ≤ size
  pub one_page : ram_offset gpa % page_size + size ≤ page_size
  pub inside : in_ram r.ram gpa size ≡ true
  pub free : not (is_protected r (page_of gpa)) ≡ true

abbrev pub FreeMove : State → Move → Type 0
FreeMove r (IntoRam gpa bytes) = IsFreeBeat r gpa bytes
FreeMove r _ = Unit {0}

-- another disk changes no protection
same_free : (r : State) (disk : Disk) (gpa : ℕ) → not (is_protected r (page_of gpa)) ≡ true → not (is_protected (with_disk r disk) (page_of gpa)) ≡ true
unfolding is_protected
same_free r disk gpa free = free

pub free_with_disk : (r : State) (disk : Disk) (x : Move) → FreeMove r x → FreeMove (with_disk r disk) x
free_with_disk r disk Idle free = tt
free_with_disk r disk (FromRam gpa) free = tt
free_with_disk r disk (IntoRam gpa bytes) free =
    record { size = free.size; some = free.some; short = free.short; one_page = free.one_page; inside = free.inside; free = same_free r disk gpa free.free }
free_with_disk r disk (DeniedAt gpa) free = tt
free_with_disk r disk OutsideRam free = tt

-- what a beat leaves
pub record IsSoundBeat (r : State) (b : DmaStep) : Type 0 where
  pub disk : IsSoundDisk b.disk
  pub move : FreeMove r b.move

in_page : (p n size : ℕ) → n ≤ size → p % page_size + size ≤ page_size → p + n ≤ page_size * (p / page_size + 1)
in_page p n size short fits = grind arith

pub room_of : (ram : List ℕ) (gpa n size : ℕ) → n ≤ size → in_ram ram gpa size ≡ true → ram_offset gpa + n ≤ length ram
room_of ram gpa n size short e = grind (arith, nat_tests)

pub beat_page : (r : State) (gpa : ℕ) (bytes : List ℕ) → IsFreeBeat r gpa bytes → InFreePage r (ram_offset gpa) bytes
beat_page r gpa bytes k = record {
  page = page_of gpa;
  free = unprotected r (page_of gpa) (not-true (is_protected r (page_of gpa)) k.free);
  unheld = unheld r (page_of gpa) (not-true (is_protected r (page_of gpa)) k.free);
  first = page_begins (ram_offset gpa);
  last = in_page (ram_offset gpa) (length bytes) k.size k.short k.one_page;
  inside = room_of r.ram gpa (length bytes) k.size k.short k.inside;
}

-- ---- this project's block device

record IsSoundBlockBeat (r : State) (b : BlockBeat) : Type 0 where
  device : IsSoundBlock b.device.block
  move : FreeMove r b.move

block_sound : (d : BlockDevice) (last : Bool) → d.block.gpa % beat_size ≡ 0
    → is_busy (if last then block_ended d.block BlockStatus.Done else record d.block { status = one_further d.block.status }) ≡ true
    → (if last then block_ended d.block BlockStatus.Done else record d.block { status = one_further d.block.status }).gpa % beat_size ≡ 0
block_sound d true aligned busy = aligned
block_sound d false aligned busy = aligned

place_aligned : (gpa done : ℕ) → gpa % 64 ≡ 0 → ram_offset (gpa + 64 * done) % 64 ≡ 0
place_aligned gpa done e = grind arith

beat_fits : (p : ℕ) → p % 64 ≡ 0 → p % page_size + 64 ≤ page_size
beat_fits p e = grind arith

some_bytes : 1 ≤ beat_size
some_bytes = omega arith

memory_sound : (r : State) (d : BlockDevice) (free : Bool) → d.block.gpa % beat_size ≡ 0 → in_ram r.ram (beat_gpa d.block) beat_size ≡ true
    → not (is_protected r (page_of (beat_gpa d.block))) ≡ free
    → IsSoundBlockBeat r (if free
    then record { device = record d { block = block_after_beat d.block }; move = IntoRam (beat_gpa d.block) (part d.bytes (beat_place d.block) beat_size) }
    else transfer_ended d BlockStatus.Denied (DeniedAt (beat_gpa d.block)))
memory_sound r d true aligned inside free = record {
  device = block_sound d (beat_size * (beats_done d.block.status + 1) == sector_size * d.block.count) aligned;
  move = record {
    size = beat_size;
    some = some_bytes;
    short = part_short d.bytes (beat_place d.block) beat_size;
    one_page = beat_fits (ram_offset (beat_gpa d.block)) (place_aligned d.block.gpa (beats_done d.block.status) aligned);
    inside = inside;
    free = free;
  };
}
memory_sound r d false aligned inside free = record { device = λ busy. cc; move = tt }

reads_sound : (r : State) (d : BlockDevice) (memory : Bool) → d.block.gpa % beat_size ≡ 0 → in_ram r.ram (beat_gpa d.block) beat_size ≡ true
    → IsSoundBlockBeat r (if memory then block_to_memory d (λ page. not (is_protected r page)) else block_to_disk d r.ram)
reads_sound r d true aligned inside = memory_sound r d (not (is_protected r (page_of (beat_gpa d.block)))) aligned inside refl
reads_sound r d false aligned inside = record { device = block_sound d (beat_size * (beats_done d.block.status + 1) == sector_size * d.block.count) aligned; move = tt }

inside_sound : (r : State) (d : BlockDevice) (inside : Bool) → d.block.gpa % beat_size ≡ 0 → in_ram r.ram (beat_gpa d.block) beat_size ≡ inside
    → IsSoundBlockBeat r (if not inside then transfer_ended d BlockStatus.OutOfRange OutsideRam else if is_to_memory d.block.status then
    block_to_memory d (λ page. not (is_protected r page)) else block_to_disk d r.ram)
inside_sound r d true aligned inside = reads_sound r d (is_to_memory d.block.status) aligned inside
inside_sound r d false aligned inside = record { device = λ busy. cc; move = tt }

busy_sound : (r : State) (d : BlockDevice) (busy : Bool) → IsSoundBlock d.block → is_busy d.block ≡ busy
    → IsSoundBlockBeat r (if not busy then record { device = d; move = Idle }
    else if not (in_ram r.ram (beat_gpa d.block) beat_size) then transfer_ended d BlockStatus.OutOfRange OutsideRam
    else if is_to_memory d.block.status then block_to_memory d (λ page. not (is_protected r page)) else block_to_disk d r.ram)
busy_sound r d true k at = inside_sound r d (in_ram r.ram (beat_gpa d.block) beat_size) (k at) refl
busy_sound r d false k at = record { device = k; move = tt }

block_beat_sound : (r : State) (d : BlockDevice) → IsSoundBlock d.block → IsSoundBlockBeat r (block_beat d r.ram (λ page. not (is_protected r page)))
unfolding block_beat
block_beat_sound r d k = busy_sound r d (is_busy d.block) k refl

-- ---- a virtio block device

record IsSoundVirtioBeat (r : State) (b : VirtioBeat) : Type 0 where
  device : IsSoundVirtio b.device
  move : FreeMove r b.move

broken_sound : (r : State) (d : VirtioDevice) (x : Move) → IsSoundVirtio d → FreeMove r x → IsSoundVirtioBeat r (broken_beat d x)
broken_sound r d x k free = record { device = record { aligned = k.aligned; moves = tt }; move = free }

-- a device with another request under way
going_sound : (d : VirtioDevice) (q : Request) (bytes : List ℕ) → IsSoundVirtio d → AreSoundMoves q.moves → IsSoundVirtio (record d { request = Some q; bytes = bytes })
going_sound d q bytes k moves = record { aligned = k.aligned; moves = moves }

place_fits : (gpa size : ℕ) → gpa % page_size + size ≤ page_size → ram_offset gpa % page_size + size ≤ page_size
place_fits gpa size fits = grind arith

-- bytes in a page that may be written
free_beat : (r : State) (gpa size : ℕ) (bytes : List ℕ) → StaysInPage gpa size → length bytes ≤ size → in_ram r.ram gpa size ≡ true → not (is_protected r (page_of gpa)) ≡ true
    → IsFreeBeat r gpa bytes
free_beat r gpa size bytes stays short inside free =
    record { size = size; some = stays.0; short = short; one_page = place_fits gpa size stays.1; inside = inside; free = free }

into_memory : (r : State) (d : VirtioDevice) (q : Request) (gpa place size : ℕ) (inside free : Bool) → IsSoundVirtio d → AreSoundMoves q.moves → StaysInPage gpa size
    → in_ram r.ram gpa size ≡ inside → not (is_protected r (page_of gpa)) ≡ free
    → IsSoundVirtioBeat r (if not inside then broken_beat d OutsideRam
    else if free then record { device = with_request d (with_written q size); move = IntoRam gpa (part d.bytes place size) }
    else record { device = with_request d (last_moves_alone q); move = DeniedAt gpa })
into_memory r d q gpa place size true true k moves stays there free = record {
  device = going_sound d (with_written q size) d.bytes k moves;
  move = free_beat r gpa size (part d.bytes place size) stays (part_short d.bytes place size) there free;
}
into_memory r d q gpa place size true false k moves stays there free =
    record { device = going_sound d (last_moves_alone q) d.bytes k (sound_last q.moves moves); move = tt }
into_memory r d q gpa place size false free k moves stays there may = broken_sound r d OutsideRam k tt

onto_disk : (r : State) (d : VirtioDevice) (q : Request) (gpa place size : ℕ) (inside : Bool) → IsSoundVirtio d → AreSoundMoves q.moves
    → IsSoundVirtioBeat r (if not inside then broken_beat d OutsideRam
    else record { device = record d { request = Some q; bytes = overwrite d.bytes place (part r.ram (ram_offset gpa) size) }; move = FromRam gpa })
onto_disk r d q gpa place size true k moves =
    record { device = going_sound d q (overwrite d.bytes place (part r.ram (ram_offset gpa) size)) k moves; move = tt }
onto_disk r d q gpa place size false k moves = broken_sound r d OutsideRam k tt

last_by : (r : State) (d next : VirtioDevice) (gpa : ℕ) (bytes : List ℕ) (inside free : Bool) → IsSoundVirtio d → IsSoundVirtio next → StaysInPage gpa (length bytes)
    → in_ram r.ram gpa (length bytes) ≡ inside → not (is_protected r (page_of gpa)) ≡ free
    → IsSoundVirtioBeat r (if not inside then broken_beat d OutsideRam
    else if free then record { device = next; move = IntoRam gpa bytes }
    else broken_beat d (DeniedAt gpa))
last_by r d next gpa bytes true true k after stays there free =
    record { device = after; move = free_beat r gpa (length bytes) bytes stays (omega arith) there free }
last_by r d next gpa bytes true false k after stays there free = broken_sound r d (DeniedAt gpa) k tt
last_by r d next gpa bytes false free k after stays there may = broken_sound r d OutsideRam k tt

last_put : (r : State) (d next : VirtioDevice) (gpa width value : ℕ) → IsSoundVirtio d → IsSoundVirtio next → StaysInPage gpa width
    → IsSoundVirtioBeat r (put_last d next gpa (low_bytes width value) r.ram (λ page. not (is_protected r page)))
unfolding put_last
last_put r d next gpa width value k after stays =
    last_by r d next gpa (low_bytes width value) (in_ram r.ram gpa (length (low_bytes width value))) (not (is_protected r (page_of gpa))) k after
    (subst (λ (n : ℕ). StaysInPage gpa n) (sym (length_low_bytes width value)) stays) refl refl

finished_sound : (d : VirtioDevice) → IsSoundVirtio d → IsSoundVirtio (finish_request d)
finished_sound d k = record { aligned = k.aligned; moves = tt }

make_sound : (r : State) (d : VirtioDevice) (q : Request) (x : VirtioMove) → IsSoundVirtio d → AreSoundMoves q.moves → IsSoundMove x
    → IsSoundVirtioBeat r (make d q x r.ram (λ page. not (is_protected r page)))
unfolding make to_memory to_disk
make_sound r d q (VirtioMove.ToMemory gpa place size) k moves stays =
    into_memory r d q gpa place size (in_ram r.ram gpa size) (not (is_protected r (page_of gpa))) k moves stays refl refl
make_sound r d q (VirtioMove.ToDisk gpa place size) k moves stays = onto_disk r d q gpa place size (in_ram r.ram gpa size) k moves
make_sound r d q (VirtioMove.PutResult gpa) k moves stays = last_put r d (with_request d q) gpa 1 (result_number q.result) k (going_sound d q d.bytes k moves) stays
make_sound r d q (VirtioMove.PutHead gpa head) k moves stays = last_put r d (with_request d q) gpa 4 head k (going_sound d q d.bytes k moves) stays
make_sound r d q (VirtioMove.PutLength gpa) k moves stays = last_put r d (with_request d q) gpa 4 (q.written + 1) k (going_sound d q d.bytes k moves) stays
make_sound r d q (VirtioMove.PutIndex gpa index) k moves stays = last_put r d (finish_request d) gpa 2 index k (finished_sound d k) stays

first_sound : (r : State) (d : VirtioDevice) (q : Request) (moves : List VirtioMove) → IsSoundVirtio d → AreSoundMoves moves
    → IsSoundVirtioBeat r (make_first d q moves r.ram (λ page. not (is_protected r page)))
first_sound r d q [] k sound = record { device = k; move = tt }
first_sound r d q (move ∷ moves) k sound = make_sound r d (record q { moves = moves }) move k sound.1 sound.0

accepted_sound : (r : State) (d : VirtioDevice) (head : ℕ) (parts : List VirtioPart) → IsSoundVirtio d → d.ready ≡ true → IsSoundVirtio (accept_request d r.ram head parts)
unfolding accept_request
accepted_sound r d head parts k ready = record {
  aligned = k.aligned;
  moves = request_sound (result_in d r.ram parts) (sector_of r.ram parts) (data_of parts) (result_of parts).gpa d.used d.size head (next_beat_count d) (k.aligned ready);
}

good_sound : (r : State) (d : VirtioDevice) (head : ℕ) (parts : List VirtioPart) (good : Bool) → IsSoundVirtio d → d.ready ≡ true
    → IsSoundVirtioBeat r (if good then record { device = accept_request d r.ram head parts; move = Idle } else broken_beat d OutsideRam)
good_sound r d head parts true k ready = record { device = accepted_sound r d head parts k ready; move = tt }
good_sound r d head parts false k ready = broken_sound r d OutsideRam k tt

accept_sound : (r : State) (d : VirtioDevice) (head : ℕ) (parts : Option (List VirtioPart)) → IsSoundVirtio d → d.ready ≡ true → IsSoundVirtioBeat r (accept d r.ram head parts)
unfolding accept
accept_sound r d head None k ready = broken_sound r d OutsideRam k tt
accept_sound r d head (Some parts) k ready = good_sound r d head parts (is_good_chain r.ram parts) k ready

choose_beat : (r : State) (b : Bool) (x y : VirtioBeat) → IsSoundVirtioBeat r x → IsSoundVirtioBeat r y → IsSoundVirtioBeat r (if b then x else y)
choose_beat r true x y s t = s
choose_beat r false x y s t = t

look_sound : (r : State) (d : VirtioDevice) → IsSoundVirtio d → d.ready ≡ true → IsSoundVirtioBeat r (look d r.ram)
unfolding look
look_sound r d k ready =
    choose_beat r (not (rings_in_ram d r.ram)) (broken_beat d OutsideRam) _ (broken_sound r d OutsideRam k tt)
    (choose_beat r (available_index d r.ram == d.accepted) (nothing d) _ (record { device = k; move = tt })
    (choose_beat r (nat_lt d.size (waiting_count d r.ram)) (broken_beat d OutsideRam) _ (broken_sound r d OutsideRam k tt)
    (accept_sound r d (next_head d r.ram) (chain max_parts r.ram (ram_offset d.descriptors) d.size (next_head d r.ram)) k ready)))

going_on : (r : State) (d : VirtioDevice) (q : Option Request) → IsSoundVirtio d → IsSoundRequest q → d.ready ≡ true
    → IsSoundVirtioBeat r (go_on d q r.ram (λ page. not (is_protected r page)))
going_on r d None k sound ready = look_sound r d k ready
going_on r d (Some q) k sound ready = first_sound r d q q.moves k sound

is_in_use : (ok ready broken : Bool) → (ok && ready && not broken) ≡ true → ready ≡ true
is_in_use true true broken e = refl
is_in_use true false broken e = cc
is_in_use false ready broken e = cc

live_sound : (r : State) (d : VirtioDevice) (live : Bool) → IsSoundVirtio d → (live ≡ true → d.ready ≡ true)
    → IsSoundVirtioBeat r (if live then go_on d d.request r.ram (λ page. not (is_protected r page)) else nothing d)
live_sound r d true k ready = going_on r d d.request k k.moves (ready refl)
live_sound r d false k ready = record { device = k; move = tt }

virtio_beat_sound : (r : State) (d : VirtioDevice) → IsSoundVirtio d → IsSoundVirtioBeat r (virtio_beat d r.ram (λ page. not (is_protected r page)))
unfolding virtio_beat
virtio_beat_sound r d k = live_sound r d (is_live d) k (is_in_use (driver_ok d) d.ready (is_broken d))

-- ---- either

by_kind : (r : State) (d : Disk) → IsSoundDisk d → IsSoundBeat r (disk_beat d r.ram (λ page. not (is_protected r page)))
unfolding disk_beat
by_kind r (BlockDisk d) k = let b = block_beat_sound r d k in record { disk = b.device; move = b.move }
by_kind r (VirtioDisk d) k = let b = virtio_beat_sound r d k in record { disk = b.device; move = b.move }

pub beat_sound : (r : State) → IsSound r → IsSoundBeat r (disk_beat r.devices.disk r.ram (λ page. not (is_protected r page)))
beat_sound r s = by_kind r r.devices.disk s.disk

-- ---- an attacker's device

-- a double word lies in one page
double_word_fits : (p : ℕ) → p % 8 ≡ 0 → p % page_size + 8 ≤ page_size
double_word_fits p e = grind arith

place_of_poke : (gpa : ℕ) → gpa % 8 ≡ 0 → ram_offset gpa % 8 ≡ 0
place_of_poke gpa e = grind arith

poke_free : (r : State) (gpa value : ℕ) (aligned inside free : Bool) → is_poke_address gpa ≡ aligned → in_ram r.ram gpa poke_size ≡ inside
    → not (is_protected r (page_of gpa)) ≡ free
    → FreeMove r (if not (aligned && inside) then OutsideRam else if free then IntoRam gpa (low_bytes poke_size value) else DeniedAt gpa)
poke_free r gpa value false inside free at there may = tt
poke_free r gpa value true false free at there may = tt
poke_free r gpa value true true false at there may = tt
poke_free r gpa value true true true at there may = record {
  size = poke_size;
  some = omega arith;
  short = subst (λ (n : ℕ). n ≤ poke_size) (sym (length_low_bytes poke_size value)) (omega arith);
  one_page = double_word_fits (ram_offset gpa) (place_of_poke gpa (eqb-true (gpa % 8) 0 at));
  inside = there;
  free = may;
}

pub poke_sound : (r : State) (gpa value : ℕ) → FreeMove r (poke_move r.ram (λ page. not (is_protected r page)) gpa value)
unfolding poke_move
poke_sound r gpa value = poke_free r gpa value (is_poke_address gpa) (in_ram r.ram gpa poke_size) (not (is_protected r (page_of gpa))) refl refl refl
