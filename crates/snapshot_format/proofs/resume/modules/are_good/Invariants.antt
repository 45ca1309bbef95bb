use Rattle.std.proofs.Common.{◌≡◌, drop, true, slice_get}
use Rattle.std.specs.List.{list_all}
use Rattle.sv_types.specs.Policies.{rules_of}
use Rattle.spec_reference.specs.Loads.{is_good_load}
use Rattle.snapshot_format.specs.Judgements.{fits}
use Rattle.snapshot_format.proofs.resume.modules.are_good.Given as goal

-- the rest decides, and fits
abbrev pub invariant-modules : goal.invariant-modules
invariant-modules g l =
    (list_all (λ m. is_good_load (rules_of l.policy) l.ram m (slice_get (rules_of l.policy).modules m.id)) l.modules
    ≡ list_all (λ m. is_good_load (rules_of l.policy) l.ram m (slice_get (rules_of l.policy).modules m.id)) (drop l.about-index l.modules))
    × (list_all (fits (rules_of l.policy)) (drop l.about-index l.modules) ≡ true)
