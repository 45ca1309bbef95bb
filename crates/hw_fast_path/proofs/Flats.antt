-- Fields of flat instructions, and what such an instruction does.
use Rattle.std.proofs.Common.{◌≡◌, ℕ, ◌<◌, pos, Bool, true, false, arith, ◌∙◌, List, Option, Some, None, IsTrue, sym, subst, ap, ◌%◌}
use Rattle.std.proofs.lemmas.Bool.Decides.{nat_tests}
use Rattle.spec_processor.specs.Effects.{effect_of}
use Rattle.spec_processor.specs.Encoding.{fits}
use Rattle.spec_processor.specs.Hardware.{Core}
use Rattle.spec_processor.specs.HardwareAttempt.{after_word, after_instruction, after_effect}
use Rattle.spec_processor.specs.Instructions.{instruction_of}
use Rattle.spec_processor.specs.Regions.{Region}
use Rattle.spec_processor.specs.Requests.{IsRequest}
use Rattle.spec_processor.specs.declared.effect.Effect.{Effect}
use Rattle.spec_processor.specs.declared.instruction.Instr.{Instr}
use Rattle.spec_processor.specs.declared.lines.Lines.{Lines}
use Rattle.laws_processor.proofs.EffectRequests.{is_request}
use Rattle.hw_fast_path.specs.MicroOp.{effect_of_found, number, order_number, width, width_values, word_effect, acquires, releases}

-- the number of a register comes back from the immediate's place
pub number_of : (csr : ℕ) → csr < 65536 → number (pos csr) ≡ csr
number_of csr small = omega arith

-- and so do an atomic operation's width and bits
pub width_of : (w : ℕ) (aq rl : Bool) → w < width_values → width (pos (order_number w aq rl)) ≡ w
width_of w false false small = omega arith
width_of w false true small = omega arith
width_of w true false small = omega arith
width_of w true true small = omega arith

pub acquires_of : (w : ℕ) (aq rl : Bool) → w < width_values → acquires (pos (order_number w aq rl)) ≡ aq
acquires_of w false false small = grind (arith, nat_tests)
acquires_of w false true small = grind (arith, nat_tests)
acquires_of w true false small = grind (arith, nat_tests)
acquires_of w true true small = grind (arith, nat_tests)

pub releases_of : (w : ℕ) (aq rl : Bool) → w < width_values → releases (pos (order_number w aq rl)) ≡ rl
releases_of w false false small = grind (arith, nat_tests)
releases_of w false true small = grind (arith, nat_tests)
releases_of w true false small = grind (arith, nat_tests)
releases_of w true true small = grind (arith, nat_tests)

-- ---- what a flat instruction does

-- the effect of a word's instruction is the word's
pub effect_done : (word pc : ℕ) (registers : List ℕ) (instr : Instr) (e : Effect) → instruction_of word ≡ Some instr → e ≡ effect_of instr registers pc
    → word_effect word registers pc ≡ Some e
effect_done word pc registers instr e here done = ap (effect_of_found registers pc) here ∙ ap Some (sym done)

-- and asks what may be asked
pub effect_asks : (pc : ℕ) (registers : List ℕ) (instr : Instr) (e : Effect) → IsTrue (fits instr) → e ≡ effect_of instr registers pc → pc % 4 ≡ 0 → IsRequest e
effect_asks pc registers instr e fit done aligned = subst IsRequest (sym done) (is_request instr registers pc fit aligned)

-- an attempt that has a word carries out its effect
carried : (r : Region) (core : Core) (lines : Lines) (word : ℕ) (e : Effect) (found : Option Instr) → effect_of_found core.registers core.pc found ≡ Some e
    → after_instruction r core lines word found ≡ after_effect r core lines word e
unfolding after_instruction
carried r core lines word e None done = cc
carried r core lines word e (Some instr) done = let same : effect_of instr core.registers core.pc ≡ e = cc in ap (after_effect r core lines word) same

pub word_carried : (r : Region) (core : Core) (lines : Lines) (word : ℕ) (e : Effect) → word_effect word core.registers core.pc ≡ Some e
    → after_word r core lines word ≡ after_effect r core lines word e
unfolding after_word
word_carried r core lines word e done = carried r core lines word e (instruction_of word) done
