-- One number for all by which a kept translation is found alongside the roots. This project's own.
use Rattle.std.specs.Prelude.{ℕ, ◌+◌, ◌*◌, Bool, true, false}
use Rattle.spec_processor.specs.Bytes.{page_size}
use Rattle.spec_processor.specs.declared.access.Access.{Access}
use Rattle.spec_processor.specs.declared.access.Access.TheVariants.{Fetch, Load, Store}
use Rattle.spec_processor.specs.declared.mode.Mode.{Mode}
use Rattle.spec_processor.specs.declared.mode.Mode.TheVariants.{Kernel, User}
use Rattle.sv39_walk.specs.declared.first_stage.Regime.{Regime}

abbrev pub kind_number : Access → ℕ
kind_number Fetch = 0
kind_number Load = 1
kind_number Store = 2

abbrev pub mode_number : Mode → ℕ
mode_number Kernel = 0
mode_number User = 1

abbrev pub bit_number : Bool → ℕ
bit_number false = 0
bit_number true = 1

-- the first address of the page, and in the twelve places of an address within it the kind of access, the privilege, MXR and SUM
abbrev pub tag_of : Regime → Access → (page : ℕ) → ℕ
tag_of regime access page = page_size * page + (8 * kind_number access + (4 * mode_number regime.mode + (2 * bit_number regime.mxr + bit_number regime.sum)))
