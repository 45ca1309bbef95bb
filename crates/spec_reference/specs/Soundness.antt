-- Which states of the reference machine are sound: each state that a run reaches is. This project's own.
use Rattle.std.specs.Prelude.{◌≡◌, ℕ, ◌+◌, ◌*◌, ◌%◌, ◌^◌, ◌<◌, ◌≤◌, true, false, List, [], ◌∷◌, length, Option, Some, None, slice_get, IsTrue}
use Rattle.spec_reference.specs.VirtioQueue.{used_word_size, ring_index_size}
use Rattle.spec_processor.specs.Bytes.{page_size, page_bytes, ram_offset, ram_base, instruction_size}
use Rattle.sv_types.specs.Policies.{Rules, rules_within}
use Rattle.sv_types.specs.ApprovedPages.{ApprovedPage, approved_bytes}
use Rattle.spec_processor.specs.Registers.{IsLegalSupervisor}
use Rattle.sv_types.specs.declared.saved.ModulePlacement.{ModulePlacement}
use Rattle.spec_processor.specs.declared.mode.Mode.{Mode}
use Rattle.spec_processor.specs.declared.mode.Mode.TheVariants.{Kernel, User}
use Rattle.spec_reference.specs.States.{State, Hart, Disk, BlockDisk, VirtioDisk, Loading, Binding, binding_at, module_pages, pages_in_rule}
use Rattle.spec_reference.specs.States.{has_number, is_approved_in, find_module}
use Rattle.sv_types.specs.declared.block.BlockState.{BlockState}
use Rattle.sv_types.specs.declared.virtio.VirtioMove.{VirtioMove}
use Rattle.spec_reference.specs.BlockDisk.{is_busy, beat_size}
use Rattle.spec_reference.specs.VirtioDevice.{VirtioDevice, Request}
use Rattle.spec_reference.specs.Origins.{OwnsPages, IsMeasured, Ascends, ownership}
use Rattle.spec_reference.specs.Start.{AreWords}
use Rattle.spec_reference.specs.VirtioStores.{used_alignment}

-- a hart in an entry is in kernel mode, and the entry is bound
abbrev pub IsSoundEntry : Rules → Mode → Option ℕ → Type 0
IsSoundEntry rules mode None = Unit {0}
IsSoundEntry rules Kernel (Some i) = (entry : Binding) × (binding_at rules i ≡ Some entry)
IsSoundEntry rules User (Some i) = ⊥

-- a stopped hart is in kernel mode, and in no entry
pub record IsStill (hart : Hart) : Type 0 where
  pub mode : hart.mode ≡ Kernel
  pub entry : hart.entry ≡ None

pub record IsSoundHart (rules : Rules) (hart : Hart) : Type 0 where
  pub aligned : hart.pc % instruction_size ≡ 0
  pub small : hart.pc < 2 ^ 64
  pub legal : IsLegalSupervisor hart.supervisor
  pub entry : IsSoundEntry rules hart.mode hart.entry
  pub stopped : hart.started ≡ false → IsStill hart

-- in each approved page RAM has its bytes
pub record KeepsText (approved : List ApprovedPage) (ram : List ℕ) : Type 0 where
  pub same : (page : ℕ) (bytes : List ℕ) → approved_bytes approved page ≡ Some bytes → page_bytes ram page ≡ bytes

-- the module is one of the policy's. The pages that are held are its own, whole pages in RAM; none of them is approved, and no
-- module of its id is loaded
pub record HoldsModule (rules : Rules) (approved : List ApprovedPage) (loaded : List ModulePlacement) (held : List ℕ) (load : Loading) : Type 0 where
  pub known : load.about.id < length rules.modules
  pub pages : held ≡ module_pages rules load.about
  pub base : ram_base ≤ load.about.gpa
  pub aligned : ram_offset load.about.gpa % page_size ≡ 0
  pub inside : ram_offset load.about.gpa + page_size * pages_in_rule (slice_get rules.modules load.about.id) ≤ page_size * rules.ram_pages
  pub left : load.left ≤ pages_in_rule (slice_get rules.modules load.about.id)
  pub free : (page : ℕ) → has_number held page ≡ true → is_approved_in approved page ≡ false
  pub other : find_module loaded load.about.id ≡ None

abbrev pub IsSoundLoad : Rules → List ApprovedPage → List ModulePlacement → List ℕ → Option Loading → Type 0
IsSoundLoad rules approved loaded held None = held ≡ []
IsSoundLoad rules approved loaded held (Some load) = HoldsModule rules approved loaded held load

-- ---- the disk: no move reaches into a second page

-- a transfer under way begins with whole beats
abbrev pub IsSoundBlock : BlockState → Type 0
IsSoundBlock b = is_busy b ≡ true → b.gpa % beat_size ≡ 0

-- there are bytes, all in one page
abbrev pub StaysInPage : (gpa size : ℕ) → Type 0
StaysInPage gpa size = (1 ≤ size) × (gpa % page_size + size ≤ page_size)

abbrev pub IsSoundMove : VirtioMove → Type 0
IsSoundMove (VirtioMove.ToMemory gpa place size) = StaysInPage gpa size
IsSoundMove (VirtioMove.ToDisk gpa place size) = StaysInPage gpa size
IsSoundMove (VirtioMove.PutResult gpa) = StaysInPage gpa 1
IsSoundMove (VirtioMove.PutHead gpa head) = StaysInPage gpa used_word_size
IsSoundMove (VirtioMove.PutLength gpa) = StaysInPage gpa used_word_size
IsSoundMove (VirtioMove.PutIndex gpa index) = StaysInPage gpa ring_index_size

abbrev pub AreSoundMoves : List VirtioMove → Type 0
AreSoundMoves [] = Unit {0}
AreSoundMoves (move ∷ moves) = IsSoundMove move × AreSoundMoves moves

abbrev pub IsSoundRequest : Option Request → Type 0
IsSoundRequest None = Unit {0}
IsSoundRequest (Some q) = AreSoundMoves q.moves

-- the used ring of a queue in use is aligned, and each move that is left of a request stays in a page
pub record IsSoundVirtio (d : VirtioDevice) : Type 0 where
  pub aligned : d.ready ≡ true → d.used % used_alignment ≡ 0
  pub moves : IsSoundRequest d.request

abbrev pub IsSoundDisk : Disk → Type 0
IsSoundDisk (BlockDisk d) = IsSoundBlock d.block
IsSoundDisk (VirtioDisk d) = IsSoundVirtio d

pub record IsSound (r : State) : Type 0 where
  pub within : IsTrue (rules_within r.rules)
  pub words : AreWords r.rules.entries
  pub number : length r.harts ≡ r.rules.harts
  pub harts : (h : ℕ) (hart : Hart) → slice_get r.harts h ≡ Some hart → IsSoundHart r.rules hart
  pub size : length r.ram ≡ page_size * r.rules.ram_pages
  pub text : KeepsText r.approved r.ram
  pub ascends : Ascends r.loaded
  pub modules : (m : ModulePlacement) → find_module r.loaded m.id ≡ Some m → IsMeasured r.rules r.ram m
  pub load : IsSoundLoad r.rules r.approved r.loaded r.held r.loading
  pub pages : OwnsPages (ownership r)
  pub disk : IsSoundDisk r.devices.disk
