-- A machine that has just started is fit for its first event.
use Rattle.std.proofs.Common.{◌≡◌, ◌-◌, List, [], ℕ, zero, suc, length, replicate, ap, arith, false}
use Rattle.elf64_load.specs.Images.{segments_of}
use Rattle.elf64_load.specs.declared.image.KernelImage.{KernelImage}
use Rattle.secvisor_core.proofs.Accepted.{image_placed}
use Rattle.secvisor_core.specs.Placed.{ArePlaced}
use Rattle.spec_reference.specs.Calls.{hart_at, stopped_hart}
use Rattle.spec_reference.specs.Start.{block_disk, flat_rules, flat_start, image_start, start}
use Rattle.spec_reference.specs.States.{State, Disk, Journal}
use Rattle.sv_types.specs.Policies.{Rules}
use Rattle.spec_hardware.specs.Machine.{Machine}
use Rattle.spec_hardware.specs.Reaches.{IsNew}
use Rattle.laws_resume.specs.Starts.{journal_at_boot}
use Rattle.machine.specs.Boot.{IsImageOf, IsRead}
use Rattle.machine.specs.Machines.{HaveAddresses, IsFit}
use Rattle.machine.specs.declared.machine.Machine.TheInside.{Inside}

-- no hart has a reservation at the start
stopped_addressed : (n : ℕ) → HaveAddresses (replicate n stopped_hart)
unfolding stopped_hart hart_at
stopped_addressed zero = tt
stopped_addressed (suc n) = (tt, stopped_addressed n)

start_addressed : (rules : Rules) (ram text : List ℕ) (entry : ℕ) (disk : Disk) → HaveAddresses (start rules ram text entry disk).harts
unfolding start hart_at
start_addressed rules ram text entry disk = (tt, stopped_addressed (rules.harts - 1))

flat_addressed : (pages wanted : List ℕ) → HaveAddresses (flat_start pages wanted).harts
unfolding flat_start
flat_addressed pages wanted = start_addressed (flat_rules wanted) _ _ _ (block_disk [])

image_addressed : (rules : Rules) (file : List ℕ) (disk : Disk) → HaveAddresses (image_start rules file disk).harts
image_addressed rules file disk = start_addressed rules _ _ _ disk

-- a machine of these parts, of which no reservation is noted
abbrev pub without_reservations : Machine → Inside
without_reservations system = record { system = system; none_reserved = false }

new_fit : (m : Machine) (start : State) → HaveAddresses start.harts → IsNew m start → m.journal ≡ journal_at_boot → IsFit (without_reservations m)
new_fit m start have new none =
    let attempts = new.attempts in
    let cleared = new.cleared in
    let printed : length m.journal.printed ≡ 0 = ap (λ (j : Journal). length j.printed) none in
    record { state = start; stands = new.stands; addresses = have; attempts = omega arith; few = omega arith; free = tt; printed = omega arith }

pub flat_fit : (m : Machine) (pages wanted : List ℕ) → IsNew m (flat_start pages wanted) → m.journal ≡ journal_at_boot → IsFit (without_reservations m)
flat_fit m pages wanted new none = new_fit m (flat_start pages wanted) (flat_addressed pages wanted) new none

-- an image that was read lies in RAM
pub read_placed : (ram_pages : ℕ) (image : KernelImage) → IsRead ram_pages image → ArePlaced ram_pages (segments_of image)
read_placed ram_pages image read = image_placed read.file ram_pages (segments_of image) read.is.accepted read.is.segments

pub image_fit : (m : Machine) (rules : Rules) (ram_pages : ℕ) (image : KernelImage) (disk : Disk) → IsRead ram_pages image
    → ((file : List ℕ) → IsImageOf file ram_pages image → IsNew m (image_start rules file disk)) → m.journal ≡ journal_at_boot → IsFit (without_reservations m)
image_fit m rules ram_pages image disk read new none = new_fit m (image_start rules read.file disk) (image_addressed rules read.file disk) (new read.file read.is) none
