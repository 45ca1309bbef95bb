-- When a machine stands for a state of the reference machine: it is what the state makes of the parts that it leaves free.
-- This project's own.
use Rattle.std.specs.Prelude.{◌≡◌, ℕ, ◌+◌, ◌-◌, ◌*◌, ◌≤◌, Bool, true, List, [], ◌∷◌, map, filter, length, drop, nat_lt, Option, Some, None}
use Rattle.std.specs.Prelude.{option_map, slice_get}
use Rattle.spec_processor.specs.Bytes.{page_size, page_of}
use Rattle.spec_processor.specs.GuestView.{with_guest, hideleg_in}
use Rattle.spec_processor.specs.Hardware.{Core}
use Rattle.spec_processor.specs.HypervisorRegisters.{HypervisorRegisters}
use Rattle.sv_types.specs.Measure.{page_digests}
use Rattle.sv_types.specs.Policies.{Rules, ModuleRule}
use Rattle.spec_processor.specs.Regions.{IsRegion}
use Rattle.sv_types.specs.Views.{AreViews, view_hgatp, with_ram}
use Rattle.spec_processor.specs.declared.hregs.HRegs.{HRegs}
use Rattle.spec_processor.specs.declared.mode.Mode.{Mode}
use Rattle.spec_processor.specs.declared.mode.Mode.TheVariants.{Kernel, User}
use Rattle.sv_types.specs.declared.view.View.{View as Root}
use Rattle.sv_types.specs.declared.view.View.TheVariants as View
use Rattle.sv_types.specs.declared.saved.ModulePlacement.{ModulePlacement}
use Rattle.spec_reference.specs.States.{State, Hart, Journal, Loading, protection_in, protections_of}
use Rattle.spec_reference.specs.Loads.{module_text, module_bases}
use Rattle.spec_reference.specs.Soundness.{IsSound}
use Rattle.sv_types.specs.Protections.{is_free}
use Rattle.spec_hardware.specs.Machine.{Machine, HwHart, HwLoad}
use Rattle.spec_reference.specs.Relocations.{masked_text, fields_right}

-- ---- a hart, as the hardware has it

-- the kernel's view, or in an entry that entry's
abbrev pub kernel_view : (entry : Option ℕ) → Root
kernel_view None = View.Kernel
kernel_view (Some i) = View.Entry i

-- the exceptions that kernel mode takes itself, a bit for each cause: 0 to 7 (misaligned addresses, refused accesses, illegal
-- instructions, breakpoints), 8 (calls of user mode), and 12, 13 and 15 (page faults of fetches, loads and stores); so all but
-- its own calls and what SecVisor answers
abbrev pub delegated_exceptions : ℕ
delegated_exceptions = 0xB1FF

-- in an entry all of these but 12, which may mean that the hart is to leave the entry
abbrev pub entry_exceptions : ℕ
entry_exceptions = 0xA1FF

abbrev pub kernel_hedeleg : (entry : Option ℕ) → ℕ
kernel_hedeleg None = delegated_exceptions
kernel_hedeleg (Some i) = entry_exceptions

-- kernel mode runs under the kernel's view or an entry's with what it takes itself delegated; user mode under the user's, with
-- nothing delegated; and no SRET is carried out in either
abbrev pub hregs_in : Mode → (entry : Option ℕ) → HRegs
hregs_in Kernel entry =
    record { mode = Kernel; hgatp = view_hgatp (kernel_view entry); hedeleg = kernel_hedeleg entry; hideleg = hideleg_in Kernel; vtsr = true }
hregs_in User entry = record { mode = User; hgatp = view_hgatp View.User; hedeleg = 0; hideleg = hideleg_in User; vtsr = true }

-- RAM lies after so many bytes of tables
abbrev pub hw_reservation : ℕ → Option ℕ → Option ℕ
hw_reservation tables reservation = option_map (λ place. tables + place) reservation

-- what an exit writes is the hardware's own
abbrev pub hw_core : ℕ → HypervisorRegisters → Hart → Core
hw_core tables exits hart = record {
  registers = hart.registers;
  pc = hart.pc;
  csrs = with_guest exits hart.supervisor;
  hregs = hregs_in hart.mode hart.entry;
  reservation = hw_reservation tables hart.reservation;
}

abbrev pub hw_hart : ℕ → HypervisorRegisters → Hart → HwHart
hw_hart tables exits hart = record { core = hw_core tables exits hart; started = hart.started; entry = hart.entry }

unfoldable pub hw_harts : ℕ → List HypervisorRegisters → List Hart → List HwHart
hw_harts tables [] harts = []
hw_harts tables (exits ∷ rest) [] = []
hw_harts tables (exits ∷ rest) (hart ∷ harts) = hw_hart tables exits hart ∷ hw_harts tables rest harts

-- ---- a load under way: what is kept of the pages that were counted, as they are now

abbrev pub pages_counted : ℕ → Loading → ℕ
pages_counted pages load = pages - load.left

unfoldable pub kept_digests : ModuleRule → List ℕ → ℕ → List (List ℕ)
kept_digests rule text n = page_digests n (masked_text text rule.sites)

unfoldable pub kept_answer : Rules → ModuleRule → ModulePlacement → List ℕ → ℕ → Bool
kept_answer rules rule m text n =
    fields_right rules.exports (module_bases m) (filter (λ site. nat_lt site.offset (page_size * n)) rule.sites) text

unfoldable pub load_kept_by : Rules → List ℕ → Loading → Option ModuleRule → HwLoad
load_kept_by rules ram load None = record { hart = load.hart; about = load.about; left = load.left; digests = []; right = true }
load_kept_by rules ram load (Some rule) = record {
  hart = load.hart;
  about = load.about;
  left = load.left;
  digests = kept_digests rule (module_text ram load.about rule.pages) (pages_counted rule.pages load);
  right = kept_answer rules rule load.about (module_text ram load.about rule.pages) (pages_counted rule.pages load);
}

abbrev pub load_kept : Rules → List ℕ → Loading → HwLoad
load_kept rules ram load = load_kept_by rules ram load (slice_get rules.modules load.about.id)

-- ---- the machine

-- what a machine has that the state doesn't say
pub record Unseen : Type 0 where
  pub tables : List ℕ
  -- of each hart the registers that an exit writes
  pub exits : List HypervisorRegisters
  -- the printed bytes that were taken away
  pub cleared : ℕ
  pub attempts : ℕ

abbrev pub without_printed : ℕ → Journal → Journal
without_printed cleared j = record j { printed = drop cleared j.printed }

unfoldable pub machine_of : Unseen → State → Machine
machine_of o r = record {
  rules = r.rules;
  region = with_ram o.tables r.ram;
  harts = hw_harts (length o.tables) o.exits r.harts;
  protections = protections_of r;
  dma = map is_free (protections_of r);
  loaded = r.loaded;
  loading = option_map (load_kept r.rules r.ram) r.loading;
  retired = r.retired;
  devices = r.devices;
  journal = without_printed o.cleared r.journal;
  cleared = o.cleared;
  attempts = o.attempts;
}

-- the pages that entries are bound to
abbrev pub bound_pages : Rules → List ℕ
bound_pages rules = map page_of rules.bound

-- the unseen parts go with the state
pub record IsRightFor (o : Unseen) (r : State) : Type 0 where
  pub views : AreViews o.tables r.rules.ram_pages (bound_pages r.rules) (protection_in r.approved r.held)
  pub region : IsRegion (with_ram o.tables r.ram)
  pub exits : length o.exits ≡ length r.harts
  pub cleared : o.cleared ≤ length r.journal.printed

-- ---- the relation

pub record StandsFor (m : Machine) (r : State) : Type 0 where
  pub unseen : Unseen
  pub same : m ≡ machine_of unseen r
  pub unseen_is_right : IsRightFor unseen r
  pub sound : IsSound r
