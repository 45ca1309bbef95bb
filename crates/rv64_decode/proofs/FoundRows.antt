-- A word's fields lead to its row of the instruction table, by each kind of row.
use Rattle.std.proofs.Common.{◌≡◌, ℕ, ◌+◌, ◌*◌, ◌^◌, ◌<◌, sym, ◌∙◌, ap, Some, None, refl, ◌≢◌, inl, inr, Bool, true, false}
use Rattle.spec_processor.specs.declared.instruction.Instr.{Instr}
use Rattle.spec_processor.specs.Instructions.{bits, rows, rd, instruction_of, sc, lr, hyper_store}
use Rattle.laws_processor.proofs.Decoding.{IsOnlyRow, found, mask_opcode, mask_funct3, mask_funct7, mask_funct6, mask_funct5, mask_funct5_rs2, mask_funct7_rs2, mask_funct7_no_rd, mask_whole}
use Rattle.std.specs.Prelude.{◌==◌, if◌then◌else◌}
use Rattle.std.proofs.lemmas.Bool.{eqb-true, eqb-false}
use Rattle.spec_processor.specs.declared.instruction.HyperOp.{HyperOp}
use Rattle.rv64_decode.specs.Widths.{IsWidthCode}

-- an instruction in a form, where its operation was chosen
module _ {Op : Type 0} (w : ℕ) (form : Op → ℕ → Instr) (op chosen : Op) (instr : Instr) (made : instr ≡ form chosen w) (choice : chosen ≡ op) where
  chosen_row : instruction_of w ≡ Some (form op w) → Some instr ≡ instruction_of w
  chosen_row e = ap Some (made ∙ ap (λ (o : Op). form o w) choice) ∙ sym e

  pub row_funct3 : (o f : ℕ) → bits w 0 7 ≡ o → bits w 12 15 ≡ f → IsOnlyRow 0x707F (o + 2 ^ 12 * f) (form op) → Some instr ≡ instruction_of w
  row_funct3 o f e g only = chosen_row (found w 0x707F (o + 2 ^ 12 * f) (form op) (mask_funct3 w o f e g) only)

  pub row_funct7 : (o f g : ℕ) → bits w 0 7 ≡ o → bits w 12 15 ≡ f → bits w 25 32 ≡ g
      → IsOnlyRow 0xFE00707F (o + 2 ^ 12 * f + 2 ^ 25 * g) (form op) → Some instr ≡ instruction_of w
  row_funct7 o f g e h k only = chosen_row (found w 0xFE00707F (o + 2 ^ 12 * f + 2 ^ 25 * g) (form op) (mask_funct7 w o f g e h k) only)

  pub row_funct6 : (o f g : ℕ) → bits w 0 7 ≡ o → bits w 12 15 ≡ f → bits w 26 32 ≡ g
      → IsOnlyRow 0xFC00707F (o + 2 ^ 12 * f + 2 ^ 26 * g) (form op) → Some instr ≡ instruction_of w
  row_funct6 o f g e h k only = chosen_row (found w 0xFC00707F (o + 2 ^ 12 * f + 2 ^ 26 * g) (form op) (mask_funct6 w o f g e h k) only)

  pub row_funct5 : (o f g : ℕ) → bits w 0 7 ≡ o → bits w 12 15 ≡ f → bits w 27 32 ≡ g
      → IsOnlyRow 0xF800707F (o + 2 ^ 12 * f + 2 ^ 27 * g) (form op) → Some instr ≡ instruction_of w
  row_funct5 o f g e h k only = chosen_row (found w 0xF800707F (o + 2 ^ 12 * f + 2 ^ 27 * g) (form op) (mask_funct5 w o f g e h k) only)

  pub row_funct5_rs2 : (o f g n : ℕ) → bits w 0 7 ≡ o → bits w 12 15 ≡ f → bits w 27 32 ≡ g → bits w 20 25 ≡ n
      → IsOnlyRow 0xF9F0707F (o + 2 ^ 12 * f + 2 ^ 20 * n + 2 ^ 27 * g) (form op) → Some instr ≡ instruction_of w
  row_funct5_rs2 o f g n e h k r only =
      chosen_row (found w 0xF9F0707F (o + 2 ^ 12 * f + 2 ^ 20 * n + 2 ^ 27 * g) (form op) (mask_funct5_rs2 w o f g n e h k r) only)

  pub row_funct7_rs2 : (o f g n : ℕ) → bits w 0 7 ≡ o → bits w 12 15 ≡ f → bits w 25 32 ≡ g → bits w 20 25 ≡ n
      → IsOnlyRow 0xFFF0707F (o + 2 ^ 12 * f + 2 ^ 20 * n + 2 ^ 25 * g) (form op) → Some instr ≡ instruction_of w
  row_funct7_rs2 o f g n e h k r only =
      chosen_row (found w 0xFFF0707F (o + 2 ^ 12 * f + 2 ^ 20 * n + 2 ^ 25 * g) (form op) (mask_funct7_rs2 w o f g n e h k r) only)

  pub row_funct7_no_rd : (o f g : ℕ) → bits w 0 7 ≡ o → bits w 12 15 ≡ f → bits w 25 32 ≡ g → bits w 7 12 ≡ 0
      → IsOnlyRow 0xFE007FFF (o + 2 ^ 12 * f + 2 ^ 25 * g) (form op) → Some instr ≡ instruction_of w
  row_funct7_no_rd o f g e h k r only =
      chosen_row (found w 0xFE007FFF (o + 2 ^ 12 * f + 2 ^ 25 * g) (form op) (mask_funct7_no_rd w o f g e h k r) only)

-- an instruction in a form without an operation
pub row_opcode : (w : ℕ) (form : ℕ → Instr) (instr : Instr) (o : ℕ) → instr ≡ form w → bits w 0 7 ≡ o → IsOnlyRow 0x7F o form → Some instr ≡ instruction_of w
row_opcode w form instr o made e only = ap Some made ∙ sym (found w 0x7F o form (mask_opcode w o e) only)

pub row_whole : (w : ℕ) (form : ℕ → Instr) (instr : Instr) (v : ℕ) → instr ≡ form w → w < 2 ^ 32 → w ≡ v → IsOnlyRow 0xFFFFFFFF v form → Some instr ≡ instruction_of w
row_whole w form instr v made h e only = ap Some made ∙ sym (found w 0xFFFFFFFF v form (mask_whole w v h e) only)

-- an atomic instruction, whose width has its function code
pub row_atomic : {Op : Type 0} (w width : ℕ) (form : Op → ℕ → ℕ → Instr) (op chosen : Op) (instr : Instr) → instr ≡ form chosen width w → chosen ≡ op
    → (g : ℕ) → bits w 0 7 ≡ 0x2F → IsWidthCode width (bits w 12 15) → bits w 27 32 ≡ g
    → IsOnlyRow 0xF800707F (0x2F + 2 ^ 12 * 2 + 2 ^ 27 * g) (form op 4) → IsOnlyRow 0xF800707F (0x2F + 2 ^ 12 * 3 + 2 ^ 27 * g) (form op 8)
    → Some instr ≡ instruction_of w
row_atomic w width form op chosen instr made choice g e code k four eight = elim code [
  | inl h ↦ row_funct5 w (λ (o : _) (v : ℕ). form o 4 v) op chosen instr (made ∙ ap (λ (n : ℕ). form chosen n w) h.0) choice 0x2F 2 g e h.1 k four
  | inr h ↦ row_funct5 w (λ (o : _) (v : ℕ). form o 8 v) op chosen instr (made ∙ ap (λ (n : ℕ). form chosen n w) h.0) choice 0x2F 3 g e h.1 k eight
]

pub row_conditional : (w width : ℕ) (instr : Instr) → instr ≡ sc width w → bits w 0 7 ≡ 0x2F → IsWidthCode width (bits w 12 15) → bits w 27 32 ≡ 3
    → Some instr ≡ instruction_of w
unfolding rows
row_conditional w width instr made e code k = elim code [
  | inl h ↦ row_funct5 w sc 4 width instr made h.0 0x2F 2 3 e h.1 k refl
  | inr h ↦ row_funct5 w sc 8 width instr made h.0 0x2F 3 3 e h.1 k refl
]

pub row_reserved : (w width : ℕ) (instr : Instr) → instr ≡ lr width w → bits w 0 7 ≡ 0x2F → IsWidthCode width (bits w 12 15) → bits w 27 32 ≡ 2
    → bits w 20 25 ≡ 0 → Some instr ≡ instruction_of w
unfolding rows
row_reserved w width instr made e code k r = elim code [
  | inl h ↦ row_funct5_rs2 w lr 4 width instr made h.0 0x2F 2 2 0 e h.1 k r refl
  | inr h ↦ row_funct5_rs2 w lr 8 width instr made h.0 0x2F 3 2 0 e h.1 k r refl
]

-- a hypervisor instruction that needs rd zero: its row, or none
pub row_no_rd : (w : ℕ) (op : HyperOp) (f g : ℕ) → bits w 0 7 ≡ 0x73 → bits w 12 15 ≡ f → bits w 25 32 ≡ g
    → IsOnlyRow 0xFE007FFF (0x73 + 2 ^ 12 * f + 2 ^ 25 * g) (hyper_store op) → (bits w 7 12 ≢ 0 → instruction_of w ≡ None)
    → (if rd w == 0 then Some (hyper_store op w) else None) ≡ instruction_of w
row_no_rd w op f g e h k only other = step (rd w == 0) refl
  where
    step : (b : Bool) → (rd w == 0) ≡ b → (if b then Some (hyper_store op w) else None) ≡ instruction_of w
    step true t = row_funct7_no_rd w hyper_store op op (hyper_store op w) refl refl 0x73 f g e h k (eqb-true (rd w) 0 t) only
    step false t = sym (other (eqb-false (rd w) 0 t))
