use Rattle.std.proofs.Common.{◌≡◌, ◌∙◌, ℕ, ◌++◌, List, [], ◌∷◌, sym, ap, arith, length, true, false, Vec, Global}
use Rattle.spec_reference.specs.Protections.{protection_at}
use Rattle.snapshot_format.specs.declared.whole.TextPage.{TextPage}
use Rattle.sv_types.specs.Protections.{is_approved}
use Rattle.laws_resume.specs.TextPages.{paired, paired_among, paired_text}
use Rattle.laws_resume.proofs.TextPages.{page_paired, page_passed, page_unpaired, read_at}
use Rattle.laws_resume.proofs.start.text.text_pages.Goals as goal
use Rattle.laws_resume.proofs.start.text.text_pages.Goals.{then-is_approved+in-Some+in_ok-push, then-is_approved+in_default, else-is_approved}

pub pages-init : goal.pages-init
unfolding paired
pages-init c = c.new-text.ensures.items

pub pages-preserved : goal.pages-preserved
pages-preserved c =
    let guard = c.args.protections.now in
    let digests = c.args.digests.now in
    let at : is_approved (protection_at guard c.pages.page) ≡ c.is_approved.result =
    ap is_approved (sym (read_at guard c.pages.page _ c.pages-test.true)) ∙ sym c.is_approved.ensures in
    elim c.if-is_approved.branch [
      | then-is_approved+in-Some+in_ok-push w ↦
          let digest = w.in-Some.digest.now in
          let next : w.len.result ≡ length (paired_among guard digests c.pages.page) = w.len.ensures ∙ c.pages.text.ok.0 ∙ ap length c.pages.invariant in
          ap (λ (v : Vec TextPage Global). v.items) w.text-is
          ∙ w.in_ok-push.ensures.items
          ∙ ap (λ (text : List TextPage). text ++ record { page = c.pages.page; digest = digest } ∷ []) c.pages.invariant
          ∙ ap (λ (d : List ℕ). paired_among guard digests c.pages.page ++ record { page = c.pages.page; digest = d } ∷ []) (w.in-Some.ensures.lookup.3.1 [])
          ∙ sym (page_paired guard digests c.pages.page w.len.result [] (at ∙ w.if-is_approved.true) next w.in-Some.ensures.lookup.3.0)
      | then-is_approved+in_default w ↦
          let next : w.len.result ≡ length (paired_among guard digests c.pages.page) = w.len.ensures ∙ c.pages.text.ok.0 ∙ ap length c.pages.invariant in
          ap (λ (v : Vec TextPage Global). v.items) w.text-is
          ∙ c.pages.invariant
          ∙ sym (page_unpaired guard digests c.pages.page w.len.result (at ∙ w.if-is_approved.true) next w.in_default.ensures.lookup.3)
      | else-is_approved w ↦
          ap (λ (v : Vec TextPage Global). v.items) w.text-is
          ∙ c.pages.invariant
          ∙ sym (page_passed guard digests c.pages.page (at ∙ w.if-is_approved.false))
    ]

pub returns : goal.returns
unfolding paired_text
returns c =
    let last = c.pages-test.false in
    let most = c.pages.auto.page-end in
    let end : c.pages.page ≡ length c.args.protections.now = omega (arith, last, most) in
    c.pages.invariant ∙ ap (λ (n : ℕ). paired_among c.args.protections.now c.args.digests.now n) end
