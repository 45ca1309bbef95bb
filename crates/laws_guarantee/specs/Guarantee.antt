-- What a guest can't do, whatever it, its devices and an attacker's device try: in each law `r` is a sound state. Each that a run
-- reaches from a measured start is sound and has its origins (`ReachedLaw`). This project's own.
use Rattle.std.specs.Prelude.{◌≡◌, ◌⊎◌, ℕ, ◌+◌, Bool, true, false, List, [], ◌∷◌, map, ◌==◌, Option, Some, None, slice_get}
use Rattle.sv_types.specs.ApprovedPages.{approved_bytes}
use Rattle.sv_types.specs.Measure.{page_digest, joined_digests}
use Rattle.sv_types.specs.declared.saved.ModulePlacement.{ModulePlacement}
use Rattle.spec_processor.specs.Bytes.{word, in_ram, ram_offset, page_bytes, page_of, place_in_page, instruction_size}
use Rattle.spec_processor.specs.Causes.{cause_number}
use Rattle.spec_processor.specs.Translation.{At}
use Rattle.spec_processor.specs.Requests.{WritesBytes}
use Rattle.spec_processor.specs.Traps.{trap_target, mode_at_return, deliverable, interrupt_number}
use Rattle.spec_processor.specs.declared.cause.Cause.{Cause}
use Rattle.spec_processor.specs.declared.effect.Effect.{Effect}
use Rattle.spec_processor.specs.declared.interrupt.Interrupt.{Interrupt}
use Rattle.sv_types.specs.declared.event.Event.{Event}
use Rattle.sv_types.specs.declared.event.Rule.{Rule}
use Rattle.sv_types.specs.declared.event.Verdict.{Verdict}
use Rattle.spec_processor.specs.declared.mode.Mode.{Mode}
use Rattle.spec_reference.specs.Calls.{started_hart}
use Rattle.spec_reference.specs.Counting.{count, count_turn, stopped_by}
use Rattle.sv_types.specs.declared.virtio.VirtioMove.{VirtioMove}
use Rattle.spec_reference.specs.BlockDisk.{beat_gpa}
use Rattle.spec_reference.specs.Devices.{lines_at}
use Rattle.spec_reference.specs.VirtioDevice.{Request}
use Rattle.spec_reference.specs.Loads.{load_step}
use Rattle.spec_reference.specs.Requests.{Guarded, target_of}
use Rattle.spec_reference.specs.Run.{step}
use Rattle.spec_reference.specs.Soundness.{IsSound}
use Rattle.spec_reference.specs.States.{State, Hart, Disk, BlockDisk, VirtioDisk, Loading, Binding, has_number, in_kernel, is_approved_in, is_protected}
use Rattle.spec_reference.specs.Trapping.{hart_at_trap, hart_at_return, trap_from}
use Rattle.spec_reference.specs.Turn.{NoWord, Word, after_going, bound_entry, carry_out_word, demote, effect_of_word, fetch_of, going_hart}
use Rattle.spec_reference.specs.Turn.{leads_into, noted_gpa, place_of_pc}
use Rattle.laws_simulation.specs.Agree.{IsNotLoading}
use Rattle.laws_simulation.specs.EntryLaws.{TrapsIn}
use Rattle.laws_simulation.specs.StateLaws.{IsText, IsModulePage, HasOrigins}
use Rattle.snapshot_format.specs.declared.whole.TextPage.{TextPage}
use Rattle.laws_guarantee.specs.Reached.{HasDigests, IsReached}
use Rattle.laws_guarantee.specs.UserTraps.{UserTrap, user_trap}

-- ---- how a turn begins; q is the state with the turn counted

-- whether the hart leaves its entry before it fetches. It stays where it is in no bound entry, or its pc leads into the page that
-- the entry is bound to; where its pc leads elsewhere it leaves, but for the entry's own address, at which it is demoted
abbrev pub Goes : State → Hart → (left : Bool) → Option Binding → Type 0
Goes q hart false None = Unit {0}
Goes q hart true None = ⊥
Goes q hart false (Some entry) = leads_into q (page_of entry.gpa) (place_of_pc q hart) ≡ true
Goes q hart true (Some entry) = (leads_into q (page_of entry.gpa) (place_of_pc q hart) ≡ false) × ((hart.pc == entry.va) ≡ false)

-- no interrupt is deliverable, and the hart isn't demoted at its entry's address
pub record Fetches (q : State) (h : ℕ) (hart : Hart) (left : Bool) : Type 0 where
  pub quiet : deliverable hart.mode hart.supervisor (lines_at q.devices h) ≡ None
  pub goes : Goes q hart left (bound_entry q.rules hart.entry)

-- the machine runs, and the hart is started and has no load under way
pub record HasTurn (r : State) (h : ℕ) (hart : Hart) : Type 0 where
  pub running : r.journal.verdict ≡ Verdict.Running
  pub found : slice_get r.harts h ≡ Some hart
  pub started : hart.started ≡ true
  pub free : IsNotLoading h r.loading

-- ---- kernel mode

-- The bytes of the page in RAM have the digest that stands for the page in a list, which has one for each page that was approved
-- at boot, in their order, and joins to the policy's digest of the kernel.
pub record HasItsDigest (r : State) (page : ℕ) : Type 0 where
  pub digests : List TextPage
  pub pages : map (λ (t : TextPage). t.page) digests ≡ r.text
  pub joined : joined_digests (map (λ (t : TextPage). t.digest) digests) ≡ r.rules.kernel
  pub number : ℕ
  pub there : slice_get digests number ≡ Some (record { page = page; digest = page_digest (page_bytes r.ram page) })

-- a page of the kernel's text, as it was at the start
pub record IsMeasuredText (s r : State) (page : ℕ) : Type 0 where
  pub text : IsText s r page
  pub measured : HasItsDigest r page

-- the kernel's text that was measured, or a part of a loaded module's that measures to the policy's digest with each field right
abbrev pub IsMeasuredPage : (s r : State) → (page : ℕ) → Type 0
IsMeasuredPage s r page = IsMeasuredText s r page ⊎ ((m : ModulePlacement) × IsModulePage r m page)

-- the word at the hart's pc lies in an approved page, as it was approved, and as RAM has it; and the page was measured
pub record IsMeasuredWord (s r : State) (hart : Hart) (w : ℕ) : Type 0 where
  pub gpa : ℕ
  pub bytes : List ℕ
  pub place : place_of_pc r hart ≡ At gpa
  pub approved : approved_bytes r.approved (page_of gpa) ≡ Some bytes
  pub kept : page_bytes r.ram (page_of gpa) ≡ bytes
  pub origin : IsMeasuredPage s r (page_of gpa)
  pub word : w ≡ word bytes (place_in_page gpa) instruction_size

-- why a hart is demoted: its pc leads into RAM, in a page that isn't approved;
pub record Strays (q : State) (hart : Hart) (gpa : ℕ) : Type 0 where
  pub leads : place_of_pc q hart ≡ At gpa
  pub inside : in_ram q.ram gpa instruction_size ≡ true
  pub unapproved : is_approved_in q.approved (page_of gpa) ≡ false

-- or it stands at its entry's address, and its pc leads elsewhere than into the page that the entry is bound to, which is approved
pub record IsOutOfPlace (q : State) (hart : Hart) (gpa : ℕ) : Type 0 where
  pub entry : Binding
  pub bound : bound_entry q.rules hart.entry ≡ Some entry
  pub there : hart.pc ≡ entry.va
  pub away : leads_into q (page_of entry.gpa) (place_of_pc q hart) ≡ false
  pub noted : gpa ≡ noted_gpa q.ram (place_of_pc q hart)

-- q is r with the turn counted
pub data KernelTurn (s r q : State) (h : ℕ) (hart : Hart) (next : State) : Type 0 where
  -- its load of a module goes on
  Loads : (load : Loading) → r.loading ≡ Some load → load.hart ≡ h → next ≡ load_step q h hart load → KernelTurn s r q h hart next
  Interrupts : (interrupt : Interrupt) → deliverable hart.mode hart.supervisor (lines_at q.devices h) ≡ Some interrupt →
      next ≡ trap_from q h hart Mode.Kernel true (interrupt_number interrupt) 0 → KernelTurn s r q h hart next
  -- the fetch faults
  Traps : (left : Bool) (cause : Cause) → Fetches q h hart left → fetch_of q hart ≡ NoWord cause →
      next ≡ trap_from (after_going left q h hart) h (going_hart left hart) Mode.Kernel false (cause_number cause) hart.pc → KernelTurn s r q h hart next
  -- it leaves for user mode, and executes nothing
  Demotes : (left : Bool) (gpa : ℕ) → Fetches q h hart left → Strays q hart gpa → next ≡ demote q h hart gpa → KernelTurn s r q h hart next
  DemotesAtEntry : (gpa : ℕ) → deliverable hart.mode hart.supervisor (lines_at q.devices h) ≡ None → IsOutOfPlace q hart gpa →
      next ≡ demote q h hart gpa → KernelTurn s r q h hart next
  Executes : (left : Bool) (w : ℕ) → Fetches q h hart left → IsMeasuredWord s r hart w →
      next ≡ carry_out_word (after_going left q h hart) h (going_hart left hart) w → KernelTurn s r q h hart next

abbrev pub KernelWords : (s r : State) → Type 0
KernelWords s r = (h : ℕ) (hart : Hart) → r.journal.verdict ≡ Verdict.Running → slice_get r.harts h ≡ Some hart → in_kernel hart ≡ true →
    KernelTurn s r (count r count_turn) h hart (step r (Event.Turn h))

abbrev pub KernelWordsLaw : Type 0
KernelWordsLaw = (s r : State) → IsSound r → HasOrigins s r → HasDigests r → KernelWords s r

-- ---- user mode

-- the word at the hart's pc lies in RAM, in a page that isn't approved
pub record IsFreeWord (q : State) (hart : Hart) (w : ℕ) : Type 0 where
  pub gpa : ℕ
  pub place : place_of_pc q hart ≡ At gpa
  pub inside : in_ram q.ram gpa instruction_size ≡ true
  pub unapproved : is_approved_in q.approved (page_of gpa) ≡ false
  pub word : w ≡ word q.ram (ram_offset gpa) instruction_size

pub data UserTurn (q : State) (h : ℕ) (hart : Hart) (next : State) : Type 0 where
  Interrupted : (interrupt : Interrupt) → deliverable hart.mode hart.supervisor (lines_at q.devices h) ≡ Some interrupt →
      next ≡ trap_from q h hart Mode.User true (interrupt_number interrupt) 0 → UserTurn q h hart next
  -- the fetch faults
  Faults : (cause : Cause) → Fetches q h hart false → fetch_of q hart ≡ NoWord cause →
      next ≡ trap_from q h hart Mode.User false (cause_number cause) hart.pc → UserTurn q h hart next
  Carries : (w : ℕ) → Fetches q h hart false → fetch_of q hart ≡ Word w → IsFreeWord q hart w → next ≡ carry_out_word q h hart w → UserTurn q h hart next

-- a hart in user mode has no load under way
abbrev pub UsersLoadNothing : State → Type 0
UsersLoadNothing r = (h : ℕ) (hart : Hart) → slice_get r.harts h ≡ Some hart → hart.mode ≡ Mode.User → IsNotLoading h r.loading

-- its turn is one of these,
abbrev pub UserTurns : State → Type 0
UserTurns r = (h : ℕ) (hart : Hart) → HasTurn r h hart → hart.mode ≡ Mode.User → UserTurn (count r count_turn) h hart (step r (Event.Turn h))

-- and where the table of traps says so, it is that trap
abbrev pub UserTraps : State → Type 0
UserTraps r = (h : ℕ) (hart : Hart) (t : UserTrap) → HasTurn r h hart → hart.mode ≡ Mode.User → user_trap (count r count_turn) h hart ≡ Some t →
    step r (Event.Turn h) ≡ trap_from (count r count_turn) h hart Mode.User t.interrupt t.cause t.tval

pub record UserTurnsLaw : Type 0 where
  pub free : (s r : State) → IsReached s r → UsersLoadNothing r
  pub turns : (r : State) → IsSound r → UserTurns r
  pub traps : (r : State) → IsSound r → UserTraps r

-- ---- into kernel mode and out of it

-- how a hart comes to kernel mode, and below how it leaves it
pub data Enters (r : State) (e : Event) (h : ℕ) (before after : Hart) : Type 0 where
  ByTrap : (k : TrapsIn r h) → e ≡ Event.Turn h → k.hart ≡ before → before.mode ≡ Mode.User →
      after ≡ hart_at_trap r.rules before Mode.User k.interrupt k.cause k.tval → Enters r e h before after
  -- another hart starts it, in its own turn
  ByStart : (other opaque : ℕ) → e ≡ Event.Turn other → (h == other) ≡ false → before.started ≡ false →
      after ≡ started_hart h after.pc opaque → Enters r e h before after

-- what follows such a trap where entries are bound says `EntryLaw`
abbrev pub EntersRight : State → Type 0
EntersRight r = (e : Event) (h : ℕ) (before after : Hart) → slice_get r.harts h ≡ Some before → slice_get (step r e).harts h ≡ Some after →
    in_kernel before ≡ false → in_kernel after ≡ true → Enters r e h before after × (has_number r.rules.entries after.pc ≡ true)

abbrev pub EntriesLaw : Type 0
EntriesLaw = (s r : State) → IsReached s r → EntersRight r

pub data Leaves (r next : State) (h : ℕ) (before after : Hart) : Type 0 where
  ByReturn : (w : ℕ) → fetch_of r before ≡ Word w → effect_of_word w before ≡ Some Effect.Sret →
      mode_at_return before.supervisor.sstatus ≡ Mode.User → after ≡ hart_at_return before → Leaves r next h before after
  ByDemotion : (gpa : ℕ) → (Strays (count r count_turn) before gpa ⊎ IsOutOfPlace (count r count_turn) before gpa) →
      next ≡ demote (count r count_turn) h before gpa → Leaves r next h before after
  ByStop : after.started ≡ false → Leaves r next h before after

abbrev pub LeavesRight : State → Type 0
LeavesRight r = (e : Event) (h : ℕ) (before after : Hart) → slice_get r.harts h ≡ Some before → slice_get (step r e).harts h ≡ Some after →
    in_kernel before ≡ true → in_kernel after ≡ false → Leaves r (step r e) h before after × (e ≡ Event.Turn h)

abbrev pub ExitsLaw : Type 0
ExitsLaw = (r : State) → IsSound r → LeavesRight r

-- ---- protected pages

-- where in memory a move goes
abbrev pub move_gpa : VirtioMove → ℕ
move_gpa (VirtioMove.ToMemory gpa place size) = gpa
move_gpa (VirtioMove.ToDisk gpa place size) = gpa
move_gpa (VirtioMove.PutResult gpa) = gpa
move_gpa (VirtioMove.PutHead gpa head) = gpa
move_gpa (VirtioMove.PutLength gpa) = gpa
move_gpa (VirtioMove.PutIndex gpa index) = gpa

abbrev pub first_gpa : List VirtioMove → Option ℕ
first_gpa [] = None
first_gpa (move ∷ moves) = Some (move_gpa move)

abbrev pub request_gpa : Option Request → Option ℕ
request_gpa None = None
request_gpa (Some q) = first_gpa q.moves

-- where in memory the disk's device moves next
abbrev pub disk_gpa : Disk → Option ℕ
disk_gpa (BlockDisk d) = Some (beat_gpa d.block)
disk_gpa (VirtioDisk d) = request_gpa d.request

-- where in memory an event's device moves, the disk's or an attacker's
abbrev pub device_gpa : Disk → Event → Option ℕ
device_gpa disk (Event.Turn h) = None
device_gpa disk Event.Beat = disk_gpa disk
device_gpa disk (Event.Key byte) = None
device_gpa disk (Event.Tick n) = None
device_gpa disk (Event.Poke gpa value) = Some gpa

-- pages that are held or approved
pub record KeepsPages (r : State) (e : Event) : Type 0 where
  pub bytes : (page : ℕ) → is_protected r page ≡ true → page_bytes (step r e).ram page ≡ page_bytes r.ram page
  -- a device's move to one changes no byte and no hart
  pub moves : (gpa : ℕ) → device_gpa r.devices.disk e ≡ Some gpa → is_protected r (page_of gpa) ≡ true →
      ((step r e).ram ≡ r.ram) × ((step r e).harts ≡ r.harts)

abbrev pub ProtectedBytesLaw : Type 0
ProtectedBytesLaw = (r : State) (e : Event) → IsSound r → KeepsPages r e

-- ---- stops

-- a word writes into a protected page
pub record WritesGuarded (r : State) (hart : Hart) (w gpa : ℕ) : Type 0 where
  pub effect : Effect
  pub is : effect_of_word w hart ≡ Some effect
  pub address : ℕ
  pub width : ℕ
  pub writes : WritesBytes effect address width
  pub leads : target_of r hart address width ≡ Guarded gpa

-- its turn carries out a word
pub record CarriesOut (r : State) (h : ℕ) (hart : Hart) (w : ℕ) : Type 0 where
  pub turn : HasTurn r h hart
  pub left : Bool
  pub fetches : Fetches (count r count_turn) h hart left
  pub fetched : fetch_of (count r count_turn) hart ≡ Word w

-- nothing changes but the count of turns, an entry that is left, and the verdict, which names the hart, the turn, and the target or
-- the pc and the address
pub data Stops (r : State) (h : ℕ) (hart : Hart) (next : State) : Type 0 where
  AtEntry : (t : UserTrap) → HasTurn r h hart → hart.mode ≡ Mode.User → user_trap (count r count_turn) h hart ≡ Some t →
      has_number r.rules.entries (trap_target hart.supervisor.stvec t.interrupt t.cause) ≡ false →
      next ≡ stopped_by (count r count_turn) h (Rule.Entry (trap_target hart.supervisor.stvec t.interrupt t.cause)) → Stops r h hart next
  AtWrite : (w gpa : ℕ) (k : CarriesOut r h hart w) → WritesGuarded (count r count_turn) hart w gpa →
      next ≡ stopped_by (after_going k.left (count r count_turn) h hart) h (Rule.Write hart.pc gpa) → Stops r h hart next

pub record StopsRight (r : State) (e : Event) (h : ℕ) : Type 0 where
  pub hart : Hart
  pub turn : e ≡ Event.Turn h
  pub stops : Stops r h hart (step r e)

-- its turn stops the machine; but for the count of turns and an entry that it left nothing else is changed
pub record StopsBy (r : State) (h : ℕ) (hart : Hart) (left : Bool) (rule : Rule) : Type 0 where
  pub same : step r (Event.Turn h) ≡ stopped_by (after_going left (count r count_turn) h hart) h rule
  pub verdict : (step r (Event.Turn h)).journal.verdict ≡ Verdict.Stopped rule h (r.journal.counts.turns + 1)

-- the machine stops for these two alone;
abbrev pub StopsForThese : State → Type 0
StopsForThese r = (e : Event) (rule : Rule) (h at : ℕ) → r.journal.verdict ≡ Verdict.Running → (step r e).journal.verdict ≡ Verdict.Stopped rule h at →
    StopsRight r e h

-- and it does stop at every trap from user mode to another target,
abbrev pub StopsAtTraps : State → Type 0
StopsAtTraps r = (h : ℕ) (hart : Hart) (t : UserTrap) → HasTurn r h hart → hart.mode ≡ Mode.User → user_trap (count r count_turn) h hart ≡ Some t →
    has_number r.rules.entries (trap_target hart.supervisor.stvec t.interrupt t.cause) ≡ false →
    StopsBy r h hart false (Rule.Entry (trap_target hart.supervisor.stvec t.interrupt t.cause))

-- and at every word that is carried out and writes into a protected page
abbrev pub StopsAtWrites : State → Type 0
StopsAtWrites r = (h : ℕ) (hart : Hart) (w gpa : ℕ) → (k : CarriesOut r h hart w) → WritesGuarded (count r count_turn) hart w gpa →
    StopsBy r h hart k.left (Rule.Write hart.pc gpa)

pub record StopsLaw : Type 0 where
  pub only : (r : State) → IsSound r → StopsForThese r
  pub traps : (r : State) → IsSound r → StopsAtTraps r
  pub writes : (r : State) → StopsAtWrites r
