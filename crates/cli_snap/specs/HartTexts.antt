-- The lines of a hart: its registers by their names of the RISC-V calling convention, and its supervisor registers. This
-- project's own.
use Rattle.std.specs.Prelude.{ℕ, List, [], ◌∷◌, ◌++◌, drop, Bool, true, false, Option, Some, None, codes}
use Rattle.std.specs.Fmt.{decimal}
use Rattle.spec_processor.specs.declared.mode.Mode.{Mode}
use Rattle.spec_reference.specs.declared.saved_machine.harts.SavedHart.{SavedHart}
use Rattle.sv_types.specs.Output.{line_end, address_text}
use Rattle.elf64_load.specs.Names.{KernelNames}
use Rattle.cli_snap.specs.CodeNames.{name_after}
use Rattle.cli_snap.specs.Lines.{lines_of, named_line, register_lines}

-- registers 1 to 31: The RISC-V ABIs Specification, 1.1
abbrev pub register_names : List (List ℕ)
register_names =
    codes "ra" ∷ codes "sp" ∷ codes "gp" ∷ codes "tp" ∷ codes "t0" ∷ codes "t1" ∷ codes "t2" ∷ codes "s0" ∷ codes "s1" ∷
    codes "a0" ∷ codes "a1" ∷ codes "a2" ∷ codes "a3" ∷ codes "a4" ∷ codes "a5" ∷ codes "a6" ∷ codes "a7" ∷ codes "s2" ∷
    codes "s3" ∷ codes "s4" ∷ codes "s5" ∷ codes "s6" ∷ codes "s7" ∷ codes "s8" ∷ codes "s9" ∷ codes "s10" ∷ codes "s11" ∷
    codes "t3" ∷ codes "t4" ∷ codes "t5" ∷ codes "t6" ∷ []

abbrev pub supervisor_names : List (List ℕ)
supervisor_names =
    codes "sstatus" ∷ codes "sie" ∷ codes "stvec" ∷ codes "scounteren" ∷ codes "sscratch" ∷ codes "sepc" ∷ codes "scause" ∷
    codes "stval" ∷ codes "sip" ∷ codes "satp" ∷ codes "timer" ∷ []

abbrev pub supervisor_values : SavedHart → List ℕ
supervisor_values h =
    h.sstatus ∷ h.sie ∷ h.stvec ∷ h.scounteren ∷ h.sscratch ∷ h.sepc ∷ h.scause ∷ h.stval ∷ h.sip ∷ h.satp ∷ h.timer ∷ []

abbrev pub standing_name : Bool → List ℕ
standing_name true = codes "started"
standing_name false = codes "stopped"

abbrev pub mode_name : Mode → List ℕ
mode_name Mode.Kernel = codes "kernel"
mode_name Mode.User = codes "user"

-- the place of its entry in the policy's list, where it is in one
unfoldable pub entry_text : Option ℕ → List ℕ
entry_text None = []
entry_text (Some place) = codes " entry " ++ decimal place

unfoldable pub hart_pc : ℕ → SavedHart → List ℕ
hart_pc number h =
    codes "hart " ++ (decimal number ++ (codes " " ++ (standing_name h.started ++ (codes " " ++ (mode_name h.mode ++
    (codes " pc " ++ address_text h.pc))))))

-- the name of the pc stands after it
unfoldable pub hart_head : Option KernelNames → ℕ → SavedHart → List ℕ
hart_head names number h = (hart_pc number h ++ name_after names h.pc) ++ (entry_text h.entry ++ line_end)

unfoldable pub reservation_line : Option ℕ → List ℕ
reservation_line None = []
reservation_line (Some gpa) = named_line (codes "reservation") gpa

unfoldable pub integer_lines : Option KernelNames → SavedHart → List ℕ
integer_lines names h = register_lines names register_names (drop 1 h.registers)

unfoldable pub supervisor_lines : Option KernelNames → SavedHart → List ℕ
supervisor_lines names h = register_lines names supervisor_names (supervisor_values h)

unfoldable pub hart_text : Option KernelNames → ℕ → SavedHart → List ℕ
hart_text names number h = hart_head names number h ++ integer_lines names h ++ supervisor_lines names h ++ reservation_line h.reservation

unfoldable pub hart_texts : Option KernelNames → List SavedHart → List ℕ
hart_texts names harts = lines_of (hart_text names) 0 harts
