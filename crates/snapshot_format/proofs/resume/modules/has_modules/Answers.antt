use Rattle.std.proofs.Common.{ℕ, List, ◌∙◌, ◌*◌, ap, length}
use Rattle.std.specs.List.{list_all}
use Rattle.spec_processor.specs.Bytes.{page_size}
use Rattle.sv_types.specs.Policies.{rules_of}
use Rattle.sv_types.specs.declared.saved.ModulePlacement.{ModulePlacement}
use Rattle.snapshot_format.specs.Snapshots.{contents}
use Rattle.snapshot_format.specs.Judgements.{fits}
use Rattle.snapshot_format.proofs.ModuleSites.{of_policy}
use Rattle.snapshot_format.proofs.resume.modules.has_modules.Goals as goal

pub are_good-requires-clause-fitting : goal.are_good-requires-clause-fitting
are_good-requires-clause-fitting g c κs within =
    ap (λ (modules : List ModulePlacement). list_all (fits (rules_of c.args.policy.now)) modules) c.deref-2.ensures.value
    ∙ (of_policy (rules_of c.args.policy.now) (contents c.args.snapshot.now) c.requires.policy).modules

pub are_good-requires-clause-ram : goal.are_good-requires-clause-ram
are_good-requires-clause-ram g c κs within =
    ap (λ (bytes : List ℕ). length bytes) c.deref.ensures.value
    ∙ c.requires.ram
    ∙ ap (λ (pages : ℕ). page_size * pages) (of_policy (rules_of c.args.policy.now) (contents c.args.snapshot.now) c.requires.policy).pages
