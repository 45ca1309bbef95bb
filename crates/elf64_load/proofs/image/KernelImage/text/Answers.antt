use Rattle.std.proofs.Common.{◌≡◌, ◌∙◌, ◌++◌, List, ℕ, sym, ap, map, arith, flat_map}
use Rattle.sv_types.specs.Kernel.{text_of, text_page}
use Rattle.sv_types.specs.ApprovedPages.{numbers_from}
use Rattle.spec_processor.specs.Regions.{max_ram_pages}
use Rattle.elf64_load.specs.Images.{segment_of, segments_of}
use Rattle.elf64_load.specs.declared.image.Segment.{Segment}
use Rattle.elf64_load.proofs.Pages.{flat_map-more}
use Rattle.elf64_load.proofs.image.KernelImage.text.Goals as goal

pub pages-preserved : goal.pages-preserved
pages-preserved c =
    let page = c.pages.page in
    let text_here = text_page (segments_of c.args.self.now) page in
    c.in_ok-push_text_page.ensures
    ∙ ap (λ (ss : List Segment). c.pages.text.items ++ text_page (map segment_of ss) page) c.deref-in-pages.ensures.value
    ∙ ap (λ (text : List ℕ). text ++ text_here) c.pages.invariant
    ∙ sym (flat_map-more (text_page (segments_of c.args.self.now)) page)

pub returns : goal.returns
unfolding text_of
returns c =
    let end = c.pages.auto.page-end in
    let pages = c.in_ok-owners.ensures.pages in
    let same = c.deref-owner-items.ensures.len in
    let all : c.pages.page ≡ max_ram_pages = omega arith in
    c.pages.invariant ∙ ap (λ (n : ℕ). flat_map (text_page (segments_of c.args.self.now)) (numbers_from 0 n)) all
