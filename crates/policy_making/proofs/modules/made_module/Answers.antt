use Rattle.std.proofs.Common.{◌≤◌, ◌^◌, List, ℕ, length, sym, subst}
use Rattle.elf64_reloc.specs.ModuleViews.{module_view}
use Rattle.policy_making.proofs.FittingSites.{fitting_pages, fitting_inside, fitting_aligned}
use Rattle.policy_making.proofs.WholePages.{module_is_whole}
use Rattle.policy_making.proofs.modules.made_module.Goals as goal

pub rule_of-requires-clause-whole : goal.rule_of-requires-clause-whole
rule_of-requires-clause-whole g c κs within =
    module_is_whole c.deref.result.now c.args.exports.now (module_view c.in-Ok.image) c.in-Ok.ensures.module

pub rule_of-requires-clause-pages : goal.rule_of-requires-clause-pages
rule_of-requires-clause-pages g c κs within =
    fitting_pages (length c.args.exports.now) (module_view c.in-Ok.image)
    (c.in-Ok.ensures.fits (subst (λ (b : List ℕ). length b ≤ 2 ^ 32) (sym c.deref.ensures.value) c.args.object.now.short))

pub rule_of-requires-clause-inside : goal.rule_of-requires-clause-inside
rule_of-requires-clause-inside g c κs within =
    fitting_inside (length c.args.exports.now) (module_view c.in-Ok.image)
    (c.in-Ok.ensures.fits (subst (λ (b : List ℕ). length b ≤ 2 ^ 32) (sym c.deref.ensures.value) c.args.object.now.short))

pub rule_of-requires-clause-aligned : goal.rule_of-requires-clause-aligned
rule_of-requires-clause-aligned g c κs within =
    fitting_aligned (length c.args.exports.now) (module_view c.in-Ok.image)
    (c.in-Ok.ensures.fits (subst (λ (b : List ℕ). length b ≤ 2 ^ 32) (sym c.deref.ensures.value) c.args.object.now.short))
