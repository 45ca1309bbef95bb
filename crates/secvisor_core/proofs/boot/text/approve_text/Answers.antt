use Rattle.std.proofs.Common.{◌≡◌, ◌+◌, ◌-◌, ◌∙◌, ◌≤◌, ℕ, Bool, List, filter, length, ap, sym, arith}
use Rattle.std.specs.Prelude.{nat_lt, slice_get}
use Rattle.std.specs.List.{list_any}
use Rattle.std.proofs.lemmas.List.{length-map}
use Rattle.sv_types.specs.ApprovedPages.{numbers_from}
use Rattle.sv_types.specs.Kernel.{is_text_of}
use Rattle.spec_processor.specs.Regions.{max_ram_pages}
use Rattle.sv_types.specs.declared.protection.Protection.{Protection}
use Rattle.sv_types.specs.declared.protection.Protection.TheVariants.{Approved}
use Rattle.spec_reference.specs.Protections.{with_each}
use Rattle.elf64_load.specs.Images.{segment_of, segments_of, text_owner}
use Rattle.page_guard.proofs.Stays.{stays_further}
use Rattle.secvisor_core.proofs.FreePages.{approved_where, after_kept, last_page, next_page}
use Rattle.secvisor_core.proofs.TextPages.{owner_tells, same_item, text_in_ram}
use Rattle.secvisor_core.proofs.boot.text.approve_text.Goals as goal

pub pages-preserved : goal.pages-preserved
pages-preserved c =
    let guard = c.pages.guard.pages in
    let page = c.pages.page in
    let pages = c.ram_pages-pages.result in
    let ss = segments_of c.args.image.now in
    let picks = λ (page : ℕ). list_any (is_text_of page) ss in
    let before = c.pages.invariant in
    let few = c.ram_pages-pages.ensures.region.most in
    let size = c.ram_pages-pages.ensures.value in
    let all = c.in_ok-owners.ensures.pages in
    let before_end = c.pages-test.true in
    let owner : c.index.result.now ≡ text_owner page ss =
    c.index.ensures ∙ same_item c.in_ok-owners.owners.items page c.index.result.now 0 (omega arith) ∙ c.in_ok-owners.ensures.owners page (omega arith) in
    let count : length c.as_slice-segments.result.now ≡ length ss =
    ap length c.as_slice-segments.ensures.value ∙ sym (length-map c.args.image.now.segments.items segment_of) in
    let test : nat_lt c.index.result.now (length c.as_slice-segments.result.now) ≡ picks page =
    rw (owner, count) (owner_tells page ss) in
    let changed : c.approve_if.new.guard.pages ≡ approved_where (picks page) guard page =
    c.approve_if.ensures.guard ∙ ap (λ (t : Bool). approved_where t guard page) test in (
      ap (λ (g : List Protection). with_each g (filter picks (numbers_from (page + 1) (pages - (page + 1)))) Approved) changed
          ∙ sym (next_page picks guard page pages c.pages-test.true) ∙ before.0,
      (
        λ q low high. ap (λ (g : List Protection). slice_get g q) changed ∙ after_kept (picks page) guard page q (omega arith) ∙ before.1.0 q (omega arith) high,
        stays_further c.args.mem.now c.pages.mem c.approve_if.new.mem c.args.guard.now c.pages.guard c.approve_if.new.guard before.1.1 c.approve_if.ensures.tables_match,
      ),
    )

pub returns-clause-guard : goal.returns-clause-guard
returns-clause-guard c =
    let pages = c.ram_pages-pages.result in
    let ss = segments_of c.args.image.now in
    let picks = λ (page : ℕ). list_any (is_text_of page) ss in
    let size = c.ram_pages-pages.ensures.value in
    let most = c.ram_pages-pages.ensures.region.most in
    let all : pages ≡ length c.args.guard.now.pages = let whole = c.requires.tables_match.ram in omega arith in
    let few : pages ≤ max_ram_pages = omega arith in
    sym (last_page picks c.pages.guard.pages c.pages.page pages (omega arith)) ∙ c.pages.invariant.0
    ∙ ap (λ (text : List ℕ). with_each c.args.guard.now.pages text Approved) (sym (text_in_ram ss pages few (rw all c.requires.placed)))
