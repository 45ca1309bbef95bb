-- What an attempt of a hart asks for, and what turns of a hart among all do. This project's own.
use Rattle.std.specs.Prelude.{◌≡◌, ◌<◌, ◌%◌, ℕ, true, false, List, length, replicate, None, slice_index_or}
use Rattle.hw_tlb.specs.Usable.{AreUsable}
use Rattle.spec_processor.specs.HardwareAttempt.{attempt}
use Rattle.spec_processor.specs.HypervisorRegisters.{registers_at_boot}
use Rattle.spec_processor.specs.Regions.{Region}
use Rattle.spec_processor.specs.GStage.{WalksApart}
use Rattle.spec_processor.specs.Roots.{IsSv39x4}
use Rattle.spec_processor.specs.IntegerRegisters.{register_count}
use Rattle.spec_processor.specs.declared.lines.Lines.{Lines}
use Rattle.spec_processor.specs.declared.mode.Mode.TheVariants.{Kernel}
use Rattle.hart.specs.Conditions.{KeepsMode}
use Rattle.spec_hardware.specs.Machine.{HwHart}
use Rattle.spec_hardware.specs.StandsFor.{hregs_in}
use Rattle.hw_tlb.specs.declared.caches.HartCaches.{HartCaches}
use Rattle.spec_processor.specs.Bytes.{instruction_size}

-- a stopped hart, past the end of all harts
abbrev pub nobody : HwHart
nobody = record {
  core = record {
    registers = replicate register_count 0;
    pc = 0;
    csrs = registers_at_boot;
    hregs = hregs_in Kernel None;
    reservation = None;
  };
  started = false;
  entry = None;
}

abbrev pub hart_in : List HwHart → ℕ → HwHart
hart_in harts h = slice_index_or harts h nobody

-- a hart may make an attempt, whose walks lead to RAM and which writes no byte after it
pub record IsReady (region : Region) (hw : HwHart) (lines : Lines) : Type 0 where
  pub started : hw.started ≡ true
  pub aligned : hw.core.pc % instruction_size ≡ 0
  pub keeps : KeepsMode hw.core.hregs
  pub stage : IsSv39x4 hw.core.hregs.hgatp
  pub apart : WalksApart region hw.core.hregs.hgatp
  pub ram : length (attempt region hw.core lines).region.ram ≡ length region.ram

-- a hart among all harts may make turns: it is there, and there are as many caches as harts, all of which are usable
pub record MayTakeTurns {S : Type 0} (tables : List ℕ) (slots : List S) (caches : List HartCaches) (hart : ℕ) : Type 0 where
  pub there : hart < length slots
  pub number : length caches ≡ length slots
  pub usable : AreUsable tables caches

-- what turns keep: the numbers of harts and caches, the tables and RAM's size; and the caches are usable
pub record KeepsTurns {S : Type 0} (before after : Region) (slots left : List S) (caches held : List HartCaches) : Type 0 where
  pub slots_count : length left ≡ length slots
  pub caches_count : length held ≡ length caches
  pub tables : after.tables ≡ before.tables
  pub ram : length after.ram ≡ length before.ram
  pub usable : AreUsable after.tables held
