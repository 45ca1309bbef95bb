-- Whether the text of a load under way measures as the policy says, by the digests that are kept of its pages. This project's own.
use Rattle.std.specs.Prelude.{ℕ, Bool, false, List, Option, Some, None, slice_get}
use Rattle.std.specs.Str.{bytes_eq}
use Rattle.sv_types.specs.Measure.{joined_digests}
use Rattle.sv_types.specs.Policies.{Rules, ModuleRule}
use Rattle.spec_hardware.specs.Machine.{HwLoad}

-- these are the digests of a module's pages; a module that the policy doesn't have has none
unfoldable pub measures : List (List ℕ) → Option ModuleRule → Bool
measures digests None = false
measures digests (Some rule) = bytes_eq (joined_digests digests) rule.measure

unfoldable pub hw_is_measured : Rules → Option HwLoad → Bool
hw_is_measured rules None = false
hw_is_measured rules (Some load) = measures load.digests (slice_get rules.modules load.about.id)
