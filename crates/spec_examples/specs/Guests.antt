-- Small guests, and what is seen of a state. This project's own.
use Rattle.std.specs.Prelude.{ℕ, List, [], ◌∷◌, ◌++◌, replicate, Option, Some, None, slice_get, true}
use Rattle.spec_processor.specs.Bytes.{low_bytes, with_padding}
use Rattle.spec_processor.specs.Effects.{register}
use Rattle.sv_types.specs.Output.{line_end}
use Rattle.sv_types.specs.Policies.{Rules}
use Rattle.spec_processor.specs.Registers.{Supervisor}
use Rattle.sv_types.specs.declared.event.Event.TheVariants.{Turn}
use Rattle.spec_processor.specs.declared.mode.Mode.{Mode}
use Rattle.spec_processor.specs.declared.mode.Mode.TheVariants.{Kernel, User}
use Rattle.spec_reference.specs.States.{State, Hart, with_hart}
use Rattle.spec_reference.specs.Calls.{stopped_hart, supervisor_at_boot}
use Rattle.spec_reference.specs.Run.{step, run}
use Rattle.spec_reference.specs.Start.{start, flat_start, block_disk}

-- instruction words as bytes
abbrev pub words : List ℕ → List ℕ
words [] = []
words (w ∷ ws) = low_bytes 4 w ++ words ws

-- entries of tables as bytes
abbrev pub doubles : List ℕ → List ℕ
doubles [] = []
doubles (d ∷ ds) = low_bytes 8 d ++ doubles ds

-- one page that begins with these bytes
abbrev pub page : List ℕ → List ℕ
page bytes = with_padding bytes 4096

-- so many turns of the one hart of a machine that runs a page
abbrev pub flat : List ℕ → ℕ → State
flat bytes n = run (flat_start (page bytes) []) (replicate n (Turn 0))

-- lines, each with its line feed
abbrev pub text_of_lines : List (List ℕ) → List ℕ
text_of_lines [] = []
text_of_lines (line ∷ lines) = line ++ line_end ++ text_of_lines lines

-- ---- a machine of two harts and four pages: the first page is approved, and the others are free

abbrev pub small_rules : Rules
small_rules = record {
  format = 1;
  harts = 2;
  ram_pages = 4;
  entries = 0x80000100 ∷ [];
  bound = [];
  exports = [];
  kernel = [];
  init = None;
  modules = [];
}

abbrev pub small_ram : (kernel user : ℕ) → List ℕ
small_ram kernel user = with_padding (page (words (kernel ∷ [])) ++ words (user ∷ [])) 16384

abbrev pub small : (kernel user : ℕ) → State
small kernel user = start small_rules (small_ram kernel user) (0 ∷ []) 0x80000000 (block_disk [])

-- traps lead to the permitted entry
abbrev pub with_vector : Supervisor
with_vector = record supervisor_at_boot { stvec = 0x80000100 }

abbrev pub hart_in : Mode → ℕ → List ℕ → Hart
hart_in mode pc registers = record { started = true; mode = mode; pc = pc; registers = registers; supervisor = with_vector; reservation = None; entry = None }

-- x5 and x6 have these values
abbrev pub with_two : (x5 x6 : ℕ) → List ℕ
with_two x5 x6 = replicate 5 0 ++ (x5 ∷ x6 ∷ replicate 25 0)

-- one turn of hart 0 as it is given
abbrev pub turn_of_hart : State → Hart → State
turn_of_hart r hart = step (with_hart r 0 hart) (Turn 0)

-- the word as kernel code, and as user code
abbrev pub as_kernel : (word : ℕ) → (registers : List ℕ) → State
as_kernel w registers = turn_of_hart (small w 0) (hart_in Kernel 0x80000000 registers)

abbrev pub as_user : (word : ℕ) → (registers : List ℕ) → State
as_user w registers = turn_of_hart (small 0 w) (hart_in User 0x80001000 registers)

-- ---- what is seen

abbrev pub or_stopped : Option Hart → Hart
or_stopped None = stopped_hart
or_stopped (Some hart) = hart

abbrev pub hart_of : State → ℕ → Hart
hart_of r h = or_stopped (slice_get r.harts h)

abbrev pub register_of : State → ℕ → ℕ
register_of r n = register (hart_of r 0).registers n

-- cause, stval, traps taken, instructions retired
abbrev pub trap_facts : State → List ℕ
trap_facts r = (hart_of r 0).supervisor.scause ∷ (hart_of r 0).supervisor.stval ∷ r.journal.counts.traps ∷ r.journal.counts.retired ∷ []

-- a trap with a cause and a value, and nothing retired
abbrev pub trap_of : (cause value : ℕ) → List ℕ
trap_of cause value = cause ∷ value ∷ 1 ∷ 0 ∷ []

-- the pc and the instructions retired
abbrev pub at_pc : State → List ℕ
at_pc r = (hart_of r 0).pc ∷ r.journal.counts.retired ∷ []
