use Rattle.std.proofs.Common.{ℕ, subst, sym}
use Rattle.sv_types.specs.Policies.{module_rule}
use Rattle.snapshot_format.specs.ModuleSites.{LieIn}
use Rattle.snapshot_format.proofs.resume.modules.is_as_ruled.Goals as goal

pub is_as_measured-requires-clause-sites : goal.is_as_measured-requires-clause-sites
is_as_measured-requires-clause-sites g c κs within =
    subst (λ (bytes : ℕ). LieIn bytes (module_rule c.args.rule.now).sites) (sym c.module_text-text.ensures.size) c.requires.sites

pub has_fields-requires-clause-sites : goal.has_fields-requires-clause-sites
has_fields-requires-clause-sites g c =
    subst (λ (bytes : ℕ). LieIn bytes (module_rule c.args.rule.now).sites) (sym c.module_text-text.ensures.size) c.requires.sites
