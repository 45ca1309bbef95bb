use Rattle.std.proofs.Common.{◌∙◌, ap}
use Rattle.std.specs.Prelude.{is_some}
use Rattle.spec_processor.specs.Translation.{is_canonical, is_leaf, leaf_address, permits_access}
use Rattle.sv39_walk.specs.Regimes.{settings_of}
use Rattle.debug_views.proofs.WalkLines.{leaf_permits}
use Rattle.debug_views.proofs.walks.permits.Goals as goal

pub returns : goal.returns
returns c =
    c.is_some.ensures ∙ ap is_some c.leaf_gpa.ensures
    ∙ leaf_permits (is_canonical c.args.va) (is_leaf c.args.below c.args.word.0) (permits_access (settings_of c.args.regime.now) c.args.regime.now.mode c.args.access c.args.word.0)
    (leaf_address c.args.below c.args.word.0 c.args.va) c.requires.canonical
