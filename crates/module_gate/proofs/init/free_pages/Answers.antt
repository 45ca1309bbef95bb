use Rattle.std.proofs.Common.{◌≡◌, ◌+◌, ◌∙◌, ap, refl, arith, ℕ, List}
use Rattle.sv_types.specs.Policies.{rules_of}
use Rattle.sv_types.specs.declared.protection.Protection.{Protection}
use Rattle.spec_reference.specs.Protections.{freed_one, freed_by}
use Rattle.module_gate.specs.Retiring.{is_kernels}
use Rattle.page_guard.proofs.Stays.{stays_same, stays_further}
use Rattle.module_gate.proofs.Retired.{freed_more, freed_each}
use Rattle.module_gate.proofs.init.free_pages.Goals as goal

pub pages-init : goal.pages-init
unfolding freed_by
pages-init c = (refl, stays_same c.args.mem.now c.args.guard.now c.requires.tables_match)

pub pages-preserved : goal.pages-preserved
pages-preserved c =
    let guard = c.args.guard.now.pages in
    let page = c.args.span.first + c.pages.i in
    let picks = is_kernels (rules_of c.args.policy.now) c.args.loaded.now in
    let before = c.pages.invariant in (
      c.free_page.ensures.guard ∙ ap (λ (g : List Protection). freed_one picks g page) before.0 ∙ freed_more picks guard c.args.span.first c.pages.i,
      stays_further c.args.mem.now c.pages.mem c.free_page.new.mem c.args.guard.now c.pages.guard c.free_page.new.guard before.1 c.free_page.ensures.tables_match,
    )

pub returns-clause-guard : goal.returns-clause-guard
returns-clause-guard c =
    let guard = c.args.guard.now.pages in
    let picks = is_kernels (rules_of c.args.policy.now) c.args.loaded.now in
    let all : c.pages.i ≡ c.args.span.count = omega arith in
    c.pages.invariant.0 ∙ ap (λ (n : ℕ). freed_by picks guard c.args.span.first n) all ∙ freed_each picks guard c.args.span.first c.args.span.count
