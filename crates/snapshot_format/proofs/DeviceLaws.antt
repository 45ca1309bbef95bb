-- The devices have forms.
use Rattle.std.proofs.Common.{◌≡◌, ℕ, zero, suc, ◌%◌, ◌^◌, ◌≤◌, Bool, true, false, refl, sym, subst, arith}
use Rattle.std.specs.Prelude.{is_some, not, ◌&&◌, ◌==◌, if◌then◌else◌, nat_lt, nat_le}
use Rattle.std.proofs.lemmas.Bool.{eqb-true, leb-true}
use Rattle.sv_types.specs.BlockNumbers.{command_of}
use Rattle.sv_types.specs.declared.block.BlockCommand.{BlockCommand}
use Rattle.sv_types.specs.declared.block.BlockStatus.{BlockStatus}
use Rattle.sv_types.specs.declared.block.BlockState.{BlockState}
use Rattle.spec_reference.specs.BlockDisk.{beat_size}
use Rattle.sv_types.specs.declared.port.PortState.{PortState}
use Rattle.snapshot_format.specs.DeviceForms.{console, busy, goes_with, beats_of, has_beats, StatusParts, transfer, status_of, status_parts}
use Rattle.snapshot_format.specs.DeviceForms.{standing_status, block_of, block_parts, sectors, block, holds_disk, disk, devices}
use Rattle.snapshot_format.specs.DeviceForms.{kind_of, is_block, block_in, virtio_in, port}
use Rattle.snapshot_format.specs.VirtioForms.{virtio}
use Rattle.snapshot_format.specs.declared.whole.PortKind.{PortKind}
use Rattle.snapshot_format.specs.declared.whole.PortKind.TheVariants.{Block, Virtio}
use Rattle.snapshot_format.specs.FormLaw.{IsForm}
use Rattle.snapshot_format.specs.Forms.{is_word, number, within, and_then, always}
use Rattle.snapshot_format.specs.JournalForms.{count}
use Rattle.snapshot_format.proofs.FormLaws.{first_true, second_true, number_is, and_then_is, made_is, measured_is, pair_is, numbers_are}
use Rattle.snapshot_format.proofs.VirtioLaws.{virtio_is}

pub console_is : IsForm console
unfolding console
console_is = measured_is (λ n. nat_le n 256)

pub transfer_is : (gpa count : ℕ) → IsForm (transfer gpa count)
unfolding transfer
transfer_is gpa count =
    and_then_is (within (λ n. nat_le n 2) number) _ (numbers_are (λ n. nat_le n 2)) (λ command h.
    and_then_is (within (goes_with gpa count command) number) _ (numbers_are (goes_with gpa count command)) (λ now h. numbers_are (has_beats count now)))

-- ---- a status and its parts

status_back : (status : BlockStatus) → status_of (status_parts status) ≡ status
status_back BlockStatus.Idle = refl
status_back (BlockStatus.Busy BlockCommand.DiskToMemory done) = refl
status_back (BlockStatus.Busy BlockCommand.MemoryToDisk done) = refl
status_back BlockStatus.Done = refl
status_back BlockStatus.Denied = refl
status_back BlockStatus.OutOfRange = refl

-- of a transfer that is under way
busy_again : (command done : ℕ) → command ≤ 2 → is_some (command_of command) ≡ true → status_parts (status_of (command, (busy, done))) ≡ (command, (busy, done))
busy_again zero done few known = absurd cc
busy_again (suc zero) done few known = refl
busy_again (suc (suc zero)) done few known = refl
busy_again (suc (suc (suc command))) done few known = absurd (omega (arith, few))

-- and where none is
resting_again : (status : ℕ) → status ≤ 4 → (status == busy) ≡ false → status_parts (status_of (0, (status, 0))) ≡ (0, (status, 0))
resting_again zero few at = refl
resting_again (suc zero) few at = absurd cc
resting_again (suc (suc zero)) few at = refl
resting_again (suc (suc (suc zero))) few at = refl
resting_again (suc (suc (suc (suc zero)))) few at = refl
resting_again (suc (suc (suc (suc (suc status))))) few at = absurd (omega (arith, few))

parts_again : (gpa sectors command status done : ℕ) (under_way : Bool) → (status == busy) ≡ under_way → nat_le command 2 ≡ true
    → (if under_way then is_some (command_of command) && nat_lt 0 sectors && gpa % beat_size == 0 else nat_le status 4 && command == 0) ≡ true
    → (if under_way then nat_lt done (beats_of sectors) else done == 0) ≡ true
    → status_parts (status_of (command, (status, done))) ≡ (command, (status, done))
parts_again gpa sectors command status done true at few goes beats =
    let known = first_true (is_some (command_of command)) _ (first_true (is_some (command_of command) && nat_lt 0 sectors) _ goes) in
    subst (λ (n : ℕ). status_parts (status_of (command, (n, done))) ≡ (command, (n, done))) (sym (eqb-true status busy at))
    (busy_again command done (leb-true command 2 few) known)
parts_again gpa sectors command status done false at few goes beats =
    let last = leb-true status 4 (first_true (nat_le status 4) (command == 0) goes) in
    let none = eqb-true command 0 (second_true (nat_le status 4) (command == 0) goes) in
    subst (λ (n : ℕ). status_parts (status_of (n, (status, done))) ≡ (n, (status, done))) (sym none)
    (subst (λ (n : ℕ). status_parts (status_of (0, (status, n))) ≡ (0, (status, n))) (sym (eqb-true done 0 beats)) (resting_again status last at))

standing_again : (gpa count : ℕ) (x : StatusParts) → (transfer gpa count).has x ≡ true → status_parts (status_of x) ≡ x
unfolding transfer
standing_again gpa count x h =
    let few = first_true (is_word x.0 && nat_le x.0 2) _ h in
    let behind = second_true (is_word x.0 && nat_le x.0 2) _ h in
    let goes = first_true (is_word x.1.0 && goes_with gpa count x.0 x.1.0) _ behind in
    let beats = second_true (is_word x.1.0 && goes_with gpa count x.0 x.1.0) _ behind in
    parts_again gpa count x.0 x.1.0 x.1.1 (x.1.0 == busy) refl (second_true (is_word x.0) _ few) (second_true (is_word x.1.0) _ goes) (second_true (is_word x.1.1) _ beats)

pub standing_is : (gpa count : ℕ) → IsForm (standing_status gpa count)
unfolding standing_status
standing_is gpa count =
    made_is status_of status_parts always (transfer gpa count) (transfer_is gpa count)
    (record { back = λ status p h. status_back status; again = λ x h. standing_again gpa count x h; stays = λ x h. refl })

-- ---- the devices

pub block_is : IsForm block
unfolding block
block_is =
    made_is block_of block_parts always _
    (pair_is _ _ number_is (and_then_is number _ number_is (λ gpa h.
    and_then_is sectors (standing_status gpa) (numbers_are (λ n. nat_lt n (2 ^ 32))) (λ count h. standing_is gpa count))))
    (record { back = λ b p h. refl; again = λ x h. refl; stays = λ x h. refl })

pub disk_is : (p : PortState) → IsForm (disk p)
unfolding disk
disk_is p = measured_is (holds_disk p)

block_back : (p : PortState) → is_block p ≡ true → PortState.Block (block_in p) ≡ p
block_back (PortState.Block b) is = refl
block_back (PortState.Virtio v) is = absurd (cc)

virtio_back : (p : PortState) → not (is_block p) ≡ true → PortState.Virtio (virtio_in p) ≡ p
virtio_back (PortState.Block b) is = absurd (cc)
virtio_back (PortState.Virtio v) is = refl

pub port_is : (kind : PortKind) → IsForm (port kind)
unfolding port
port_is Block =
    made_is PortState.Block block_in is_block block block_is
    (record { back = λ p is h. block_back p is; again = λ x h. refl; stays = λ x h. refl })
port_is Virtio =
    made_is PortState.Virtio virtio_in (λ p. not (is_block p)) virtio virtio_is
    (record { back = λ p is h. virtio_back p is; again = λ x h. refl; stays = λ x h. refl })

-- a device is of the kind of its form
pub port_kind : (kind : PortKind) (p : PortState) → (port kind).has p ≡ true → kind_of p ≡ kind
unfolding port
port_kind Block (PortState.Block b) h = refl
port_kind Block (PortState.Virtio v) h = absurd cc
port_kind Virtio (PortState.Block b) h = absurd cc
port_kind Virtio (PortState.Virtio v) h = refl

pub devices_are : (kind : PortKind) → IsForm (devices kind)
unfolding devices
devices_are kind = pair_is console (and_then (port kind) disk) console_is (and_then_is (port kind) disk (port_is kind) (λ p h. disk_is p))
