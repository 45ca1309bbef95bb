-- The devices that a snapshot says.
use Rattle.std.proofs.Common.{◌≡◌, ℕ, suc, ◌+◌, ◌*◌, ◌/◌, ◌<◌, ◌≤◌, List, [], ◌∷◌, ◌++◌, length, drop, get_or, refl, sym, ◌∙◌, ap, Bool, true, false, not, ◌&&◌, ◌||◌, arith, slice_get, length-append}
use Rattle.std.specs.Prelude.{nat_le, if◌then◌else◌}
use Rattle.std.proofs.lemmas.Bool.Decides.{nat_tests}
use Rattle.std.proofs.lemmas.List.{append-nil, drop_more, drop_all}
use Rattle.sv_types.specs.Console.{after_key, has_room, max_queued}
use Rattle.sv_types.specs.declared.block.BlockState.{BlockState}
use Rattle.sv_types.specs.declared.port.PortState.{PortState}
use Rattle.spec_reference.specs.BlockDisk.{is_busy, sector_size}
use Rattle.spec_reference.specs.States.{Devices}
use Rattle.spec_reference.specs.declared.saved_machine.harts.SavedHart.{SavedHart}
use Rattle.snapshot_format.specs.DeviceForms.{block, console, devices, disk, holds_disk, kind_of, port}
use Rattle.snapshot_format.specs.Forms.{is_word}
use Rattle.snapshot_format.proofs.FormLaws.{first_true, second_true}
use Rattle.hw_devices.specs.BlockRegisters.{IsSound}
use Rattle.snapshot_format.specs.ResumedStates.{timers_of}
use Rattle.laws_resume.proofs.FormParts.{max_is, block_goes}
use Rattle.hw_devices.specs.Ports.{IsSoundPort}
use Rattle.machine.proofs.PortForms.{virtio_sound}
use Rattle.machine.specs.Timing.{timer_in}

-- ---- timers

pub timers_are : (hs : List SavedHart) → length hs ≤ 4
    → timer_in (slice_get hs 0) ∷ (timer_in (slice_get hs 1) ∷ (timer_in (slice_get hs 2) ∷ (timer_in (slice_get hs 3) ∷ []))) ≡ timers_of hs
timers_are [] few = refl
timers_are (a ∷ []) few = refl
timers_are (a ∷ (b ∷ [])) few = refl
timers_are (a ∷ (b ∷ (c ∷ []))) few = refl
timers_are (a ∷ (b ∷ (c ∷ (d ∷ [])))) few = refl
timers_are (a ∷ (b ∷ (c ∷ (d ∷ (e ∷ hs))))) few = absurd (omega (arith, few))

-- ---- input

room_by : (queue : List ℕ) (byte : ℕ) (b : Bool) → has_room queue ≡ b → length queue < max_queued → (if b then queue ++ byte ∷ [] else queue) ≡ queue ++ byte ∷ []
room_by queue byte true at less = refl
room_by queue byte false at less = absurd (grind (arith, nat_tests))

appended : (queue rest : List ℕ) (byte : ℕ) → (queue ++ byte ∷ []) ++ rest ≡ queue ++ (byte ∷ rest)
appended [] rest byte = refl
appended (x ∷ queue) rest byte = ap (◌∷◌ x) (appended queue rest byte)

-- one byte more
pub key_next : (queue bytes all : List ℕ) (i d : ℕ) → i < length bytes → length all ≤ max_queued → queue ++ drop i bytes ≡ all
    → after_key queue (get_or bytes i d) ++ drop (i + 1) bytes ≡ all
key_next queue bytes all i d within few before =
    let byte : ℕ = get_or bytes i d in
    let next : queue ++ (byte ∷ drop (i + 1) bytes) ≡ all = ap (λ (rest : List ℕ). queue ++ rest) (sym (drop_more bytes i d within)) ∙ before in
    let size : length all ≡ length queue + suc (length (drop (i + 1) bytes)) = ap length (sym next) ∙ length-append queue (byte ∷ drop (i + 1) bytes) in
    let less : length queue < max_queued = omega (arith, size, few) in
    ap (λ (q : List ℕ). q ++ drop (i + 1) bytes) (room_by queue byte (has_room queue) refl less) ∙ appended queue (drop (i + 1) bytes) byte ∙ next

-- only the input differs
pub input_alone : (start before after : Devices) (queue : List ℕ) → before ≡ record start { console = before.console } → after ≡ record before { console = queue }
    → after ≡ record start { console = after.console }
input_alone start before after queue was is =
    let console : after.console ≡ queue = ap (λ (d : Devices). d.console) is in
    is ∙ ap (λ (d : Devices). record d { console = queue }) was ∙ ap (λ (q : List ℕ). record start { console = q }) (sym console)

pub keys_end : (queue bytes all : List ℕ) (i : ℕ) → length bytes ≤ i → queue ++ drop i bytes ≡ all → queue ≡ all
keys_end queue bytes all i past before = sym (append-nil queue) ∙ ap (λ (rest : List ℕ). queue ++ rest) (sym (drop_all i bytes past)) ∙ before

-- ---- the parts of the form

pub record HaveForms (input : List ℕ) (p : PortState) (bytes : List ℕ) : Type 0 where
  pub few : length input ≤ max_queued
  pub of_port : (port (kind_of p)).has p ≡ true
  pub of_disk : (disk p).has bytes ≡ true

pub have_forms : (input : List ℕ) (p : PortState) (bytes : List ℕ) → (devices (kind_of p)).has (input, (p, bytes)) ≡ true → HaveForms input p bytes
unfolding devices console
have_forms input p bytes h =
    let waits = first_true (console.has input) _ h in
    let rest = second_true (console.has input) _ h in
    record {
      few = max_is (length input) max_queued (second_true (is_word (length input)) _ (first_true (is_word (length input) && nat_le (length input) max_queued) _ waits));
      of_port = first_true ((port (kind_of p)).has p) _ rest;
      of_disk = second_true ((port (kind_of p)).has p) _ rest;
    }

-- ---- the block device

not_idle : (busy fits : Bool) → (not busy || fits) ≡ true → busy ≡ true → fits ≡ true
not_idle true fits e busy = e
not_idle false fits e busy = absurd cc

disk_holds : (b : BlockState) (bytes : List ℕ) → (disk (PortState.Block b)).has bytes ≡ true → is_busy b ≡ true → sector_size * (b.sector + b.count) ≤ length bytes
unfolding disk
disk_holds b bytes h busy =
    let range = second_true (is_word (length bytes)) (holds_disk (PortState.Block b) (length bytes))
    (first_true (is_word (length bytes) && holds_disk (PortState.Block b) (length bytes)) _ h) in
    let fits = not_idle (is_busy b) (nat_le (b.sector + b.count) (length bytes / sector_size)) (second_true _ (not (is_busy b) ||
    nat_le (b.sector + b.count) (length bytes / sector_size)) range) busy in
    let most = max_is (b.sector + b.count) (length bytes / sector_size) fits in omega (arith, most)

block_sound : (b : BlockState) (bytes : List ℕ) → block.has b ≡ true → (disk (PortState.Block b)).has bytes ≡ true → IsSound (record { block = b; bytes = bytes })
block_sound b bytes h on_disk = record {
  aligned = λ busy. (block_goes b h busy).aligned;
  left = λ busy. (block_goes b h busy).left;
  inside = λ busy. disk_holds b bytes on_disk busy;
}

-- ---- of either kind

pub port_sound : (p : PortState) (bytes : List ℕ) → (port (kind_of p)).has p ≡ true → (disk p).has bytes ≡ true → IsSoundPort p bytes
unfolding port
port_sound (PortState.Block b) bytes h on = block_sound b bytes h on
port_sound (PortState.Virtio v) bytes h on = virtio_sound v bytes h on
