-- Beats and pokes of the machine's are the reference machine's: they ask DMA bits where the reference asks protections.
use Rattle.std.proofs.Common.{◌≡◌, ℕ, ◌+◌, ◌*◌, ◌<◌, ◌≤◌, List, [], ◌∷◌, length, map, refl, sym, ◌∙◌, ap, subst, Bool, true, false, not, ◌&&◌, ◌||◌, arith}
use Rattle.std.specs.Prelude.{Option, Some, None, unwrap_or, option_map, if◌then◌else◌, nat_le}
use Rattle.std.proofs.lemmas.Bool.Decides.{nat_tests}
use Rattle.std.proofs.lemmas.Option.{slice_get-map}
use Rattle.spec_processor.specs.Bytes.{part, overwrite, low_bytes, in_ram, ram_base, ram_offset, page_of, page_size}
use Rattle.sv_types.specs.declared.block.BlockStatus.{BlockStatus}
use Rattle.sv_types.specs.declared.virtio.VirtioMove.{VirtioMove}
use Rattle.laws_processor.proofs.ByteLemmas.{length_low_bytes}
use Rattle.spec_reference.specs.States.{State, Disk, BlockDevice, BlockDisk, VirtioDisk, protection_in, protection_by, is_protected, is_approved_in, has_number, protections_of}
use Rattle.spec_reference.specs.BlockDisk.{block_beat, block_to_memory, block_to_disk, block_after_beat, beat_place, beat_gpa, beat_size, is_busy, is_to_memory, transfer_ended}
use Rattle.spec_reference.specs.VirtioDevice.{VirtioDevice, Request}
use Rattle.spec_reference.specs.VirtioBeats.{VirtioBeat, nothing, broken_beat, with_request, with_written, last_moves_alone, to_memory}
use Rattle.spec_reference.specs.VirtioBeats.{put_last, finish_request, make, make_first, go_on, is_live, virtio_beat}
use Rattle.spec_reference.specs.Attacker.{poke_move}
use Rattle.spec_reference.specs.Disk.{block_dma_step, virtio_dma_step, disk_beat, is_writable, DmaStep}
use Rattle.sv_types.specs.Schedule.{poke_size, is_poke_address}
use Rattle.spec_reference.specs.Move.{Move, Idle, FromRam, IntoRam, DeniedAt, OutsideRam}
use Rattle.spec_reference.specs.Devices.{beat, poke, with_disk, after_move, with_bytes}
use Rattle.sv_types.specs.Protections.{is_free}
use Rattle.spec_hardware.specs.HwEvents.{beat_served, poke_served, after_host_dma_step, after_hw_move}
use Rattle.spec_hardware.specs.StandsFor.{Unseen, machine_of}
use Rattle.spec_reference.specs.Soundness.{IsSound, IsSoundDisk, IsSoundVirtio, IsSoundRequest, IsSoundMove, AreSoundMoves}
use Rattle.laws_simulation.proofs.HwOfSlots.{hw_harts_forget}
use Rattle.laws_simulation.proofs.Sounds.{bytes_keep_load}
use Rattle.laws_simulation.proofs.BeatsSound.{FreeMove, beat_page, beat_sound, poke_sound}
use Rattle.laws_simulation.proofs.Stays.{KeepsLoad}
use Rattle.laws_simulation.proofs.ViewsMeet.{get_numbers}
use Rattle.sv_types.specs.VirtioResults.{result_number}

-- ---- bits and protections

pub free_by : (a b : Bool) → is_free (protection_by a b) ≡ not (a || b)
unfolding protection_by
free_by true b = refl
free_by false true = refl
free_by false false = refl

bit_of : (r : State) (page : ℕ) → page < r.rules.ram_pages → is_writable (map is_free (protections_of r)) page ≡ not (is_protected r page)
unfolding protection_in is_protected
bit_of r page below =
    let first : 0 + page ≡ page = omega arith in
    ap (λ (bit : Option Bool). unwrap_or bit false) (slice_get-map is_free (protections_of r) page ∙
    ap (option_map is_free) (get_numbers (protection_in r.approved r.held) 0 r.rules.ram_pages page below
    ∙ ap (λ (k : ℕ). Some (protection_in r.approved r.held k)) first))
    ∙ free_by (is_approved_in r.approved page) (has_number r.held page)

-- ---- beats and pokes ask only of pages in RAM

abbrev AgreeInRam : List ℕ → (f g : ℕ → Bool) → Type 0
AgreeInRam ram f g = (gpa size : ℕ) → 1 ≤ size → in_ram ram gpa size ≡ true → f (page_of gpa) ≡ g (page_of gpa)

beat_by : (d : BlockDevice) (ram : List ℕ) (f g : ℕ → Bool) (busy inside reads : Bool) → (inside ≡ true → f (page_of (beat_gpa d.block)) ≡ g (page_of (beat_gpa d.block)))
    → (if not busy then record { device = d; move = Idle } else if not inside then transfer_ended d BlockStatus.OutOfRange OutsideRam else if reads then block_to_memory d f else block_to_disk d ram)
    ≡ (if not busy then record { device = d; move = Idle } else if not inside then transfer_ended d BlockStatus.OutOfRange OutsideRam else if reads then block_to_memory d g else block_to_disk d ram)
beat_by d ram f g false inside reads same = refl
beat_by d ram f g true false reads same = refl
beat_by d ram f g true true true same =
    ap (λ (b : Bool). if b then record { device = record d { block = block_after_beat d.block }; move = IntoRam (beat_gpa d.block) (part d.bytes (beat_place d.block) beat_size) }
    else transfer_ended d BlockStatus.Denied (DeniedAt (beat_gpa d.block))) (same refl)
beat_by d ram f g true true false same = refl

block_meets : (d : BlockDevice) (ram : List ℕ) (f g : ℕ → Bool) → AgreeInRam ram f g → block_beat d ram f ≡ block_beat d ram g
unfolding block_beat
block_meets d ram f g agree =
    beat_by d ram f g (is_busy d.block) (in_ram ram (beat_gpa d.block) beat_size) (is_to_memory d.block.status) (agree (beat_gpa d.block) beat_size (omega arith))

memory_meets : (d : VirtioDevice) (q : Request) (gpa place size : ℕ) (f g : ℕ → Bool) (inside : Bool) → (inside ≡ true → f (page_of gpa) ≡ g (page_of gpa))
    → (if not inside then broken_beat d OutsideRam else if f (page_of gpa) then
    record { device = with_request d (with_written q size); move = IntoRam gpa (part d.bytes place size) } else record { device = with_request d (last_moves_alone q); move = DeniedAt gpa })
    ≡ (if not inside then broken_beat d OutsideRam else if g (page_of gpa) then
    record { device = with_request d (with_written q size); move = IntoRam gpa (part d.bytes place size) } else record { device = with_request d (last_moves_alone q); move = DeniedAt gpa })
memory_meets d q gpa place size f g true same =
    ap (λ (b : Bool). if b then record { device = with_request d (with_written q size); move = IntoRam gpa (part d.bytes place size) } else
    record { device = with_request d (last_moves_alone q); move = DeniedAt gpa }) (same refl)
memory_meets d q gpa place size f g false same = refl

put_meets : (d next : VirtioDevice) (gpa : ℕ) (bytes : List ℕ) (f g : ℕ → Bool) (inside : Bool) → (inside ≡ true → f (page_of gpa) ≡ g (page_of gpa))
    → (if not inside then broken_beat d OutsideRam else if f (page_of gpa) then record { device = next; move = IntoRam gpa bytes } else broken_beat d (DeniedAt gpa))
    ≡ (if not inside then broken_beat d OutsideRam else if g (page_of gpa) then record { device = next; move = IntoRam gpa bytes } else broken_beat d (DeniedAt gpa))
put_meets d next gpa bytes f g true same = ap (λ (b : Bool). if b then record { device = next; move = IntoRam gpa bytes } else broken_beat d (DeniedAt gpa)) (same refl)
put_meets d next gpa bytes f g false same = refl

last_meets : (d next : VirtioDevice) (gpa width value : ℕ) (ram : List ℕ) (f g : ℕ → Bool) → 1 ≤ width → AgreeInRam ram f g
    → put_last d next gpa (low_bytes width value) ram f ≡ put_last d next gpa (low_bytes width value) ram g
unfolding put_last
last_meets d next gpa width value ram f g some agree =
    put_meets d next gpa (low_bytes width value) f g (in_ram ram gpa (length (low_bytes width value)))
    (agree gpa (length (low_bytes width value)) (subst (λ (n : ℕ). 1 ≤ n) (sym (length_low_bytes width value)) some))

make_meets : (d : VirtioDevice) (q : Request) (x : VirtioMove) (ram : List ℕ) (f g : ℕ → Bool) → IsSoundMove x → AgreeInRam ram f g → make d q x ram f ≡ make d q x ram g
unfolding make to_memory
make_meets d q (VirtioMove.ToMemory gpa place size) ram f g stays agree = memory_meets d q gpa place size f g (in_ram ram gpa size) (agree gpa size stays.0)
make_meets d q (VirtioMove.ToDisk gpa place size) ram f g stays agree = refl
make_meets d q (VirtioMove.PutResult gpa) ram f g stays agree = last_meets d (with_request d q) gpa 1 (result_number q.result) ram f g stays.0 agree
make_meets d q (VirtioMove.PutHead gpa head) ram f g stays agree = last_meets d (with_request d q) gpa 4 head ram f g (omega arith) agree
make_meets d q (VirtioMove.PutLength gpa) ram f g stays agree = last_meets d (with_request d q) gpa 4 (q.written + 1) ram f g (omega arith) agree
make_meets d q (VirtioMove.PutIndex gpa index) ram f g stays agree = last_meets d (finish_request d) gpa 2 index ram f g (omega arith) agree

first_meets : (d : VirtioDevice) (q : Request) (moves : List VirtioMove) (ram : List ℕ) (f g : ℕ → Bool) → AreSoundMoves moves → AgreeInRam ram f g
    → make_first d q moves ram f ≡ make_first d q moves ram g
first_meets d q [] ram f g sound agree = refl
first_meets d q (move ∷ moves) ram f g sound agree = make_meets d (record q { moves = moves }) move ram f g sound.0 agree

goes_alike : (d : VirtioDevice) (q : Option Request) (ram : List ℕ) (f g : ℕ → Bool) → IsSoundRequest q → AgreeInRam ram f g → go_on d q ram f ≡ go_on d q ram g
goes_alike d None ram f g sound agree = refl
goes_alike d (Some q) ram f g sound agree = first_meets d q q.moves ram f g sound agree

virtio_meets : (d : VirtioDevice) (ram : List ℕ) (f g : ℕ → Bool) → IsSoundVirtio d → AgreeInRam ram f g → virtio_beat d ram f ≡ virtio_beat d ram g
unfolding virtio_beat
virtio_meets d ram f g k agree = ap (λ (b : VirtioBeat). if is_live d then b else nothing d) (goes_alike d d.request ram f g k.moves agree)

beat_meets : (d : Disk) (ram : List ℕ) (f g : ℕ → Bool) → IsSoundDisk d → AgreeInRam ram f g → disk_beat d ram f ≡ disk_beat d ram g
unfolding disk_beat
beat_meets (BlockDisk d) ram f g k agree = ap block_dma_step (block_meets d ram f g agree)
beat_meets (VirtioDisk d) ram f g k agree = ap virtio_dma_step (virtio_meets d ram f g k agree)

poke_by : (gpa value : ℕ) (f g : ℕ → Bool) (aligned inside : Bool) → (inside ≡ true → f (page_of gpa) ≡ g (page_of gpa))
    → (if not (aligned && inside) then OutsideRam else if f (page_of gpa) then IntoRam gpa (low_bytes poke_size value) else DeniedAt gpa)
    ≡ (if not (aligned && inside) then OutsideRam else if g (page_of gpa) then IntoRam gpa (low_bytes poke_size value) else DeniedAt gpa)
poke_by gpa value f g false inside same = refl
poke_by gpa value f g true false same = refl
poke_by gpa value f g true true same = ap (λ (b : Bool). if b then IntoRam gpa (low_bytes poke_size value) else DeniedAt gpa) (same refl)

poke_meets : (ram : List ℕ) (f g : ℕ → Bool) (gpa value : ℕ) → AgreeInRam ram f g → poke_move ram f gpa value ≡ poke_move ram g gpa value
unfolding poke_move
poke_meets ram f g gpa value agree = poke_by gpa value f g (is_poke_address gpa) (in_ram ram gpa poke_size) (agree gpa poke_size (omega arith))

pub page_of_beat : (ram : List ℕ) (gpa size n : ℕ) → length ram ≡ page_size * n → 1 ≤ size → in_ram ram gpa size ≡ true → page_of gpa < n
page_of_beat ram gpa size n is some inside =
    let tests : (nat_le ram_base gpa && nat_le (ram_offset gpa + size) (page_size * n)) ≡ true = ap (λ (k : ℕ). nat_le ram_base gpa && nat_le (ram_offset gpa + size) k) (sym is) ∙ inside in
    grind (arith, nat_tests)

agree_in_ram : (r : State) → IsSound r → AgreeInRam r.ram (is_writable (map is_free (protections_of r))) (λ page. not (is_protected r page))
agree_in_ram r sound = λ gpa size some inside. bit_of r (page_of gpa) (page_of_beat r.ram gpa size r.rules.ram_pages sound.size some inside)

same_beat : (r : State) → IsSound r
    → disk_beat r.devices.disk r.ram (is_writable (map is_free (protections_of r))) ≡ disk_beat r.devices.disk r.ram (λ page. not (is_protected r page))
same_beat r sound =
    beat_meets r.devices.disk r.ram (is_writable (map is_free (protections_of r))) (λ page. not (is_protected r page)) sound.disk (agree_in_ram r sound)

same_poke : (r : State) (gpa value : ℕ) → IsSound r
    → poke_move r.ram (is_writable (map is_free (protections_of r))) gpa value ≡ poke_move r.ram (λ page. not (is_protected r page)) gpa value
same_poke r gpa value sound =
    poke_meets r.ram (is_writable (map is_free (protections_of r))) (λ page. not (is_protected r page)) gpa value (agree_in_ram r sound)

-- ---- what moves

-- a move that writes leaves what is kept of a load
abbrev pub MoveKeeps : State → Move → Type 0
MoveKeeps r (IntoRam gpa bytes) = KeepsLoad r (overwrite r.ram (ram_offset gpa) bytes)
MoveKeeps r _ = Unit {0}

moved : (o : Unseen) (r : State) (x : Move) → MoveKeeps r x → after_hw_move (machine_of o r) x ≡ machine_of o (after_move r x)
unfolding machine_of after_hw_move after_move with_bytes
moved o r Idle kept = refl
moved o r (FromRam gpa) kept = refl
moved o r (IntoRam gpa bytes) kept = rw (hw_harts_forget (length o.tables) o.exits r.harts (ram_offset gpa) (length bytes), kept) refl
moved o r (DeniedAt gpa) kept = refl
moved o r OutsideRam kept = refl

free_keeps : (r : State) (x : Move) → IsSound r → FreeMove r x → MoveKeeps r x
free_keeps r Idle s free = tt
free_keeps r (FromRam gpa) s free = tt
free_keeps r (IntoRam gpa bytes) s free = bytes_keep_load r (ram_offset gpa) bytes s (beat_page r gpa bytes free)
free_keeps r (DeniedAt gpa) s free = tt
free_keeps r OutsideRam s free = tt

keeps_with_disk : (r : State) (disk : Disk) (x : Move) → MoveKeeps r x → MoveKeeps (with_disk r disk) x
keeps_with_disk r disk Idle kept = tt
keeps_with_disk r disk (FromRam gpa) kept = tt
keeps_with_disk r disk (IntoRam gpa bytes) kept = kept
keeps_with_disk r disk (DeniedAt gpa) kept = tt
keeps_with_disk r disk OutsideRam kept = tt

pub beat_agrees : (o : Unseen) (r : State) → IsSound r → beat_served (machine_of o r) ≡ machine_of o (beat r)
unfolding beat_served beat machine_of
beat_agrees o r sound =
    let b : DmaStep = disk_beat r.devices.disk r.ram (λ page. not (is_protected r page)) in
    ap (after_host_dma_step (machine_of o r)) (same_beat r sound)
    ∙ moved o (with_disk r b.disk) b.move (keeps_with_disk r b.disk b.move (free_keeps r b.move sound (beat_sound r sound).move))

pub poke_agrees : (o : Unseen) (r : State) (gpa value : ℕ) → IsSound r → poke_served (machine_of o r) gpa value ≡ machine_of o (poke r gpa value)
unfolding poke_served poke machine_of
poke_agrees o r gpa value sound =
    let x : Move = poke_move r.ram (λ page. not (is_protected r page)) gpa value in
    ap (after_hw_move (machine_of o r)) (same_poke r gpa value sound) ∙ moved o r x (free_keeps r x sound (poke_sound r gpa value))
