-- The next byte of input, by whether one waits.
use Rattle.std.proofs.Common.{◌≡◌, ℕ, List, [], ◌∷◌, refl, arith}
use Rattle.std.specs.Prelude.{Some, None, slice_get}
use Rattle.sv_types.specs.SbiCodes.{code_word}
use Rattle.sv_types.specs.declared.sbi.SbiCode.TheVariants.{NoInput}
use Rattle.spec_reference.specs.Calls.{first_input}

pub input_there : (queue : List ℕ) (byte : ℕ) → slice_get queue 0 ≡ Some byte → first_input queue ≡ byte
input_there [] byte there = grind (arith, there)
input_there (first ∷ queue) byte there = grind (arith, there)

pub no_input_there : (queue : List ℕ) → slice_get queue 0 ≡ None → first_input queue ≡ code_word NoInput
no_input_there [] none = refl
no_input_there (first ∷ queue) none = grind (arith, none)
