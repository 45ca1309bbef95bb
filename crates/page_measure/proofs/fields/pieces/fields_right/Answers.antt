use Rattle.std.proofs.Common.{◌+◌, Bool, length, drop, sym, ◌∙◌, ap}
use Rattle.std.specs.Prelude.{◌&&◌}
use Rattle.spec_reference.specs.Relocations.{fields_right}
use Rattle.page_measure.specs.Pieces.{piece_sites}
use Rattle.page_measure.proofs.Sites.{one_judged, none_judged}
use Rattle.page_measure.proofs.fields.pieces.fields_right.Goals as goal

pub returns-then-not-is_right : goal.returns-then-not-is_right
returns-then-not-is_right c =
    let rest : Bool = fields_right c.args.exports.now c.args.bases.now (piece_sites c.args.first (length c.args.text.now) (drop (c.sites.site-index + 1) c.args.sites.now)) c.args.text.now in
    sym (c.sites.invariant
    ∙ one_judged c.args.exports.now c.args.bases.now c.args.first c.args.text.now c.args.sites.now c.sites.site-index _ c.sites-test.true
    ∙ ap (λ (b : Bool). b && rest) (sym c.is_right.ensures ∙ c.if-not-is_right.true))

pub sites-preserved : goal.sites-preserved
sites-preserved c =
    let rest : Bool = fields_right c.args.exports.now c.args.bases.now (piece_sites c.args.first (length c.args.text.now) (drop (c.sites.site-index + 1) c.args.sites.now)) c.args.text.now in
    c.sites.invariant
    ∙ one_judged c.args.exports.now c.args.bases.now c.args.first c.args.text.now c.args.sites.now c.sites.site-index _ c.sites-test.true
    ∙ ap (λ (b : Bool). b && rest) (sym c.is_right.ensures ∙ c.if-not-is_right.false)

pub returns : goal.returns
returns c =
    sym (c.sites.invariant
    ∙ none_judged c.args.exports.now c.args.bases.now c.args.first (length c.args.text.now) c.args.text.now c.args.sites.now c.sites.site-index c.sites-test.false)
