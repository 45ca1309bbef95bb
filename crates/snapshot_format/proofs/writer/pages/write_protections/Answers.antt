use Rattle.std.proofs.Common.{◌≡◌, ℕ, ◌++◌, List, [], ◌∷◌, ap, ◌∙◌}
use Rattle.snapshot_format.specs.PageForms.{protection_form, protection_number, protections}
use Rattle.sv_types.specs.declared.protection.Protection.{Protection}
use Rattle.snapshot_format.proofs.WrittenLists.{nothing_yet, one_more, all_written}
use Rattle.snapshot_format.proofs.writer.pages.write_protections.Goals as goal

protection_written : (n : ℕ) (out next : List ℕ) (p : Protection) → n ≡ protection_number p → next ≡ out ++ n ∷ [] → next ≡ out ++ protection_form.encode p
unfolding protection_form
protection_written n out next p byte pushed = pushed ∙ ap (λ k. out ++ k ∷ []) byte

pub pages-init : goal.pages-init
pages-init c = nothing_yet (λ before. protection_form) c.args.out.now.items

pub pages-preserved : goal.pages-preserved
pages-preserved c = one_more _ (λ before. protection_form) c.args.protection.now c.pages.page-index c.args.out.now.items c.pages.out.items _ c.pages-test.true c.pages.invariant
    (protection_written _ _ _ _ c.protection_byte.ensures c.in_ok-push.ensures.items)

pub returns : goal.returns
unfolding protections
returns c ram_pages = all_written (λ before. protection_form) c.args.protection.now c.pages.page-index c.args.out.now.items c.pages.out.items c.pages-test.false c.pages.invariant
