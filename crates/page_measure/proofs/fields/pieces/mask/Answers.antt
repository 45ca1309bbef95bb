use Rattle.std.proofs.Common.{ℕ, ◌+◌, List, length, drop, sym, ◌∙◌, ap}
use Rattle.sv_types.specs.declared.module.Site.{Site}
use Rattle.spec_reference.specs.Relocations.{masked_text}
use Rattle.page_measure.specs.Pieces.{piece_sites}
use Rattle.page_measure.proofs.Sites.{one_cleared, none_cleared}
use Rattle.page_measure.proofs.fields.pieces.mask.Goals as goal

pub sites-preserved : goal.sites-preserved
sites-preserved c =
    let rest : List Site = drop (c.sites.site-index + 1) c.args.sites.now in
    ap (λ (n : ℕ). masked_text c.clear_in_piece.new.text (piece_sites c.args.first n rest)) c.clear_in_piece.auto.text
    ∙ ap (λ (t : List ℕ). masked_text t (piece_sites c.args.first (length c.sites.text) rest)) c.clear_in_piece.ensures
    ∙ one_cleared c.args.first c.sites.text c.args.sites.now c.sites.site-index _ c.sites-test.true
    ∙ c.sites.invariant
    ∙ ap (λ (n : ℕ). masked_text c.args.text.now (piece_sites c.args.first n c.args.sites.now)) (sym c.clear_in_piece.auto.text)

pub returns : goal.returns
returns c =
    sym (none_cleared c.args.first (length c.sites.text) c.sites.text c.args.sites.now c.sites.site-index c.sites-test.false)
    ∙ c.sites.invariant
    ∙ ap (λ (n : ℕ). masked_text c.args.text.now (piece_sites c.args.first n c.args.sites.now)) c.sites.auto.text
