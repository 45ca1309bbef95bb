use Rattle.std.proofs.Common.{◌∙◌, ap, sym}
use Rattle.std.specs.Prelude.{Some}
use Rattle.page_measure.proofs.WrongFields.{none_wrong, one_right, one_wrong}
use Rattle.page_measure.proofs.fields.wrong.first_wrong.Goals as goal

pub returns-then-not-field_right : goal.returns-then-not-field_right
returns-then-not-field_right c =
    ap Some c.wrong_field.ensures
    ∙ sym (one_wrong c.args.exports.now c.args.bases.now c.args.text.now c.args.sites.now c.sites.site-index _ c.sites-test.true
    (sym c.field_right.ensures ∙ c.if-not-field_right.true))
    ∙ c.sites.invariant

pub sites-preserved : goal.sites-preserved
sites-preserved c =
    one_right c.args.exports.now c.args.bases.now c.args.text.now c.args.sites.now c.sites.site-index _ c.sites-test.true
    (sym c.field_right.ensures ∙ c.if-not-field_right.false)
    ∙ c.sites.invariant

pub returns : goal.returns
returns c = none_wrong c.args.exports.now c.args.bases.now c.args.text.now c.args.sites.now c.sites.site-index c.sites-test.false ∙ c.sites.invariant
