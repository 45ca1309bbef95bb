-- Relocated fields, loads, unloads and retired text. RISC-V ELF psABI, "Relocations"; this project's own.
use Rattle.std.specs.Prelude.{◌≡◌, ℕ, List, [], ◌∷◌, ◌++◌, map, replicate, Option, Some, None, pos, Bool, true, false}
use Rattle.spec_processor.specs.Bytes.{with_padding}
use Rattle.sv_types.specs.Policies.{Rules, ModuleRule}
use Rattle.sv_types.specs.ApprovedPages.{ApprovedPage, approved_pages}
use Rattle.sv_types.specs.declared.block.BlockCommand.TheVariants.{DiskToMemory}
use Rattle.sv_types.specs.declared.event.Event.TheVariants.{Turn, Beat}
use Rattle.sv_types.specs.declared.event.Note.TheVariants.{Demote, Denied, Load, Unload, Retire}
use Rattle.sv_types.specs.declared.sbi.SbiCode.TheVariants.{Success, InvalidParameter, RefusedByMeasure, InvalidAddress, Already, PendingLoad}
use Rattle.sv_types.specs.declared.module.Bases.{Bases}
use Rattle.sv_types.specs.declared.module.Site.{Site}
use Rattle.sv_types.specs.declared.relocation_kind.RelocationKind.{RelocationKind}
use Rattle.sv_types.specs.declared.module.Span.{Span}
use Rattle.sv_types.specs.declared.policy.Export.{Export}
use Rattle.spec_processor.specs.declared.mode.Mode.TheVariants.{Kernel}
use Rattle.spec_reference.specs.Relocations.{masked_text, fields_right}
use Rattle.spec_reference.specs.Run.{step, run}
use Rattle.spec_reference.specs.Start.{start, block_disk}
use Rattle.spec_reference.specs.States.{State, with_hart}
use Rattle.spec_hardware.specs.HwExits.{load_counted}
use Rattle.spec_hardware.specs.Machine.{HwLoad}
use Rattle.spec_examples.specs.CallRows.{call_registers, answer, error_answer}
use Rattle.spec_examples.specs.DeviceRows.{busy_with, disk_with}
use Rattle.spec_examples.specs.Guests.{words, page, hart_in, hart_of, at_pc}

-- ---- a call of an export, by two fields

abbrev pub site : (offset : ℕ) → RelocationKind → (base anchor : ℕ) → Site
site offset kind base anchor = record { offset = offset; kind = kind; base = base; addend = pos 0; anchor = anchor }

abbrev pub call_sites : List Site
call_sites = site 0 RelocationKind.PcrelHi20 3 0 ∷ site 4 RelocationKind.PcrelLo12I 3 0 ∷ []

abbrev pub print_at : List Export
print_at = record { name = []; addr = 0x80003010 } ∷ []

abbrev pub at_8000 : Bases
at_8000 = record { va = 0x80008000; data_va = 0 }

abbrev pub are_right : List ℕ → Bool
are_right text = fields_right print_at at_8000 call_sites text

-- ---- modules: the first of two pages, each with one word, and the second of one

abbrev pub one_word_page : List ℕ
one_word_page = page (words (0x00000073 ∷ []))

-- SHA-256 of the two pages' digests
abbrev pub two_page_digest : List ℕ
two_page_digest = 115 ∷ 189 ∷ 155 ∷ 218 ∷ 156 ∷ 85 ∷ 10 ∷ 89 ∷ 124 ∷ 146 ∷ 12 ∷ 12 ∷ 171 ∷ 91 ∷ 220 ∷ 22 ∷ 12 ∷ 140 ∷ 28 ∷ 134 ∷ 31 ∷ 106 ∷ 160 ∷ 144
    ∷ 220 ∷ 134 ∷ 133 ∷ 4 ∷ 207 ∷ 106 ∷ 16 ∷ 134 ∷ []

abbrev pub module_of : ℕ → List ℕ → ModuleRule
module_of pages measure = record { name = []; pages = pages; measure = measure; sites = [] }

abbrev pub rules_with : Option Span → Rules
rules_with init = record {
  format = 1;
  harts = 2;
  ram_pages = 8;
  entries = 0x80000100 ∷ [];
  bound = [];
  exports = [];
  kernel = [];
  init = init;
  modules = module_of 2 two_page_digest ∷ module_of 1 [] ∷ [];
}

-- two pages of kernel text, whose words are ECALLs, and the first module's text from page 5 on
abbrev pub memory : List ℕ
memory = with_padding (page (words (0x00000073 ∷ 0x00000073 ∷ [])) ++ one_word_page ++ replicate 12288 0 ++ one_word_page ++ one_word_page) 32768

abbrev pub begin : Option Span → State
begin init = start (rules_with init) memory (0 ∷ 1 ∷ []) 0x80000000 (block_disk [])

-- hart h makes a call of the modules' extension
abbrev pub asks : State → (h function a0 a1 a2 : ℕ) → State
asks r h function a0 a1 a2 = step (with_hart r h (hart_in Kernel 0x80000000 (call_registers 0x08534543 function a0 a1 a2 0))) (Turn h)

abbrev pub loads : State → (h id gpa : ℕ) → State
loads r h id gpa = asks r h 0 id gpa 0x80008000

abbrev pub first : State
first = begin None

-- the first module's load, with the second asked for meanwhile; then it goes on to its decision
abbrev pub under_way : State
under_way = loads first 0 0 0x80005000

abbrev pub decided_state : State
decided_state = run (loads under_way 1 1 0x80005000) (replicate 3 (Turn 0))

abbrev pub all_calls : State
all_calls = asks (asks (loads (loads (loads (loads decided_state 0 0 0x80005000) 0 1 0x80006000) 0 1 0x80008000) 0 2 0x80010000) 0 1 1 0 0) 0 1 0 0 0

-- a transfer of the disk into the module's first page is under way
abbrev pub with_transfer : State → State
with_transfer r = record r { devices = record r.devices { disk = disk_with (busy_with DiskToMemory 0x80005000 0) } }

abbrev pub beat_after_a_page : State
beat_after_a_page = run (loads (with_transfer first) 0 0 0x80005000) (Turn 0 ∷ Beat ∷ [])

abbrev pub beat_before_the_call : State
beat_before_the_call = run (loads (step (with_transfer first) Beat) 0 0 0x80005000) (Turn 0 ∷ Turn 0 ∷ Turn 0 ∷ [])

-- the second module is loaded, and hart 1 runs in it
abbrev pub with_second : State
with_second = record first {
  approved = approved_pages memory (0 ∷ 1 ∷ 4 ∷ []);
  loaded = record { id = 1; gpa = 0x80004000; va = 0; data_va = 0 } ∷ [];
}

abbrev pub running_in_it : State
running_in_it = with_hart with_second 1 (hart_in Kernel 0x80004000 (replicate 32 0))

-- the second page of the kernel's text is its init text
abbrev pub with_init : State
with_init = begin (Some (record { first = 1; count = 4 }))

-- a module of one page, whose first field holds its own address. At page 5 it is right, and at page 6 another address stands there
abbrev pub address_site : List Site
address_site = site 0 RelocationKind.Word64 0 0 ∷ []

-- SHA-256 of the page with its field cleared, and of that digest
abbrev pub cleared_digest : List ℕ
cleared_digest = 201 ∷ 118 ∷ 143 ∷ 36 ∷ 73 ∷ 111 ∷ 235 ∷ 244 ∷ 147 ∷ 81 ∷ 133 ∷ 117 ∷ 220 ∷ 148 ∷ 44 ∷ 16 ∷ 37 ∷ 229 ∷ 216 ∷ 187 ∷ 2 ∷ 92 ∷ 156 ∷ 242
    ∷ 128 ∷ 122 ∷ 89 ∷ 149 ∷ 128 ∷ 61 ∷ 218 ∷ 205 ∷ []

abbrev pub address_rule : ModuleRule
address_rule = record {
  name = [];
  pages = 1;
  measure = 55 ∷ 21 ∷ 96 ∷ 201 ∷ 140 ∷ 169 ∷ 196 ∷ 224 ∷ 171 ∷ 124 ∷ 213 ∷ 215 ∷ 203 ∷ 47 ∷ 201 ∷ 204 ∷ 185 ∷ 27 ∷ 239 ∷ 143 ∷ 255 ∷ 214 ∷ 139 ∷ 67 ∷
      220 ∷ 203 ∷ 255 ∷ 18 ∷ 29 ∷ 78 ∷ 30 ∷ 174 ∷ [];
  sites = address_site;
}

abbrev pub address_rules : Rules
address_rules = record (rules_with None) { modules = address_rule ∷ [] }

abbrev pub two_addresses : List ℕ
two_addresses = with_padding (page (words (0x00000073 ∷ 0x00000073 ∷ [])) ++ replicate 16384 0
    ++ page (words (0x80008000 ∷ 0 ∷ 0x00000073 ∷ [])) ++ page (words (0x80008004 ∷ 0 ∷ 0x00000073 ∷ []))) 32768

abbrev pub loaded_at : ℕ → State
loaded_at gpa = run (loads (start address_rules two_addresses (0 ∷ []) 0x80000000 (block_disk [])) 0 0 gpa) (Turn 0 ∷ Turn 0 ∷ [])

-- what is kept of its load when its page was turned
abbrev pub turned_at : ℕ → HwLoad
turned_at gpa = load_counted address_rules two_addresses
    (record { hart = 0; about = record { id = 0; gpa = gpa; va = 0x80008000; data_va = 0 }; left = 1; digests = []; right = true }) 0 (Some address_rule)

abbrev pub pages_of : State → List ℕ
pages_of r = map (λ (entry : ApprovedPage). entry.page) r.approved

-- its hart has an interrupt that it might take
abbrev pub interruptible : State → State
interruptible r = with_hart r 0 (record (hart_of r 0) { supervisor = record (hart_of r 0).supervisor { sstatus = 2; sie = 2; software = true } })

pub record ModuleRows : Type 0 where
  -- ---- relocated fields
  pub right_call : are_right (words (0xFFFFB097 ∷ 0x010080E7 ∷ [])) ≡ true
  pub wrong_call : are_right (words (0xFFFFB097 ∷ 0x014080E7 ∷ [])) ≡ false
  pub cleared_call : masked_text (words (0xFFFFB097 ∷ 0x010080E7 ∷ [])) call_sites ≡ words (0x00000097 ∷ 0x000080E7 ∷ [])
  pub wrong_call_cleared : masked_text (words (0xFFFFB097 ∷ 0x014080E7 ∷ [])) call_sites ≡ words (0x00000097 ∷ 0x000080E7 ∷ [])
  -- ---- a load begins: its pages are held, and the hart stays at its call
  pub held : under_way.held ≡ 5 ∷ 6 ∷ []
  pub stays_at_its_call : at_pc under_way ≡ 0x80000000 ∷ 0 ∷ []
  pub begun_without_a_note : under_way.journal.notes ≡ []
  pub takes_no_interrupt : (step (interruptible under_way) (Turn 0)).journal.counts.traps ≡ 0
  -- ---- refusals, and the answer
  pub crooked_place : answer (loads first 0 0 0x80005008) ≡ error_answer 5
  pub crooked_address : answer (asks first 0 0 0 0x80005000 0x80008004) ≡ error_answer 5
  pub in_kernel_text : answer (loads first 0 1 0x80001000) ≡ error_answer 5
  pub outside_ram : answer (loads first 0 0 0x80007000) ≡ error_answer 5
  pub calls_noted : all_calls.journal.notes ≡
      Load 1 2 1 PendingLoad
      ∷ Load 0 5 0 Success
      ∷ Load 0 6 0 Already
      ∷ Load 0 7 1 InvalidAddress
      ∷ Load 0 8 1 InvalidAddress
      ∷ Load 0 9 2 InvalidParameter
      ∷ Unload 0 10 1 InvalidParameter
      ∷ Unload 0 11 0 Success
      ∷ []
  -- ---- bytes of the deciding moment
  pub held_pages_are_not_written : beat_after_a_page.journal.notes ≡ Denied 0x80005000 ∷ []
  pub held_page_keeps_its_bytes : beat_after_a_page.ram ≡ memory
  pub bytes_written_before_count : beat_before_the_call.journal.notes ≡ Load 0 4 0 RefusedByMeasure ∷ []
  -- ---- a module with one field
  pub right_address : (loaded_at 0x80005000).journal.notes ≡ Load 0 3 0 Success ∷ []
  pub wrong_address_answered : answer (loaded_at 0x80006000) ≡ error_answer 4
  pub right_page_turned : turned_at 0x80005000 ≡ record {
    hart = 0;
    about = record { id = 0; gpa = 0x80005000; va = 0x80008000; data_va = 0 };
    left = 0;
    digests = cleared_digest ∷ [];
    right = true;
  }
  pub wrong_page_turned : (turned_at 0x80006000).right ≡ false
  -- ---- unload and retire
  pub unload_demotes_who_runs_there : (step (asks running_in_it 0 1 1 0 0) (Turn 1)).journal.notes ≡
      Unload 0 1 1 Success ∷ Demote 1 2 0x80004000 0x80004000 ∷ []
  pub unload_while_a_load_is_under_way : answer
      (asks (record with_second { loading = Some (record { hart = 1; about = record { id = 0; gpa = 0x80005000; va = 0; data_va = 0 }; left = 2 }) })
      0 1 1 0 0) ≡ error_answer 7
  pub unload_of_none : answer (asks first 0 1 1 0 0) ≡ error_answer 3
  pub retire : pages_of (asks with_init 0 2 0 0 0) ≡ 0 ∷ []
  pub retire_twice : (asks (asks with_init 0 2 0 0 0) 0 2 0 0 0).journal.notes ≡ Retire 0 1 Success ∷ Retire 0 2 Already ∷ []
  pub nothing_to_retire : answer (asks first 0 2 0 0 0) ≡ error_answer 3
