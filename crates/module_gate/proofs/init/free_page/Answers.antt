use Rattle.std.proofs.Common.{rules, ◌≡◌, ◌∙◌, true, false, not}
use Rattle.std.proofs.lemmas.Bool.{and_parts}
use Rattle.sv_types.specs.Policies.{rules_of}
use Rattle.spec_reference.specs.Protections.{protection_at}
use Rattle.sv_types.specs.Protections.{is_approved}
use Rattle.module_gate.specs.Retiring.{is_modules, is_kernels}
use Rattle.module_gate.proofs.Retired.{one_approved, one_freed, freed_where, kept_where}
use Rattle.module_gate.proofs.init.free_page.Goals as goal

pub unapprove-requires-clause-approved : goal.unapprove-requires-clause-approved
unapprove-requires-clause-approved c =
    let guard = c.args.guard.now.pages in
    let page = c.args.page in
    let law = rules_of c.args.policy.now in
    let picked : is_kernels law c.args.loaded.now page (protection_at guard page) ≡ true = search rules in
    one_approved guard page (and_parts (is_approved (protection_at guard page)) (not (is_modules law c.args.loaded.now page)) picked).0

pub returns-then-is_kernels-clause-guard : goal.returns-then-is_kernels-clause-guard
returns-then-is_kernels-clause-guard c =
    let guard = c.args.guard.now.pages in
    let page = c.args.page in
    let picks = is_kernels (rules_of c.args.policy.now) c.args.loaded.now in
    let picked : picks page (protection_at guard page) ≡ true = search rules in
    c.unapprove.ensures.guard ∙ one_freed guard page ∙ freed_where picks guard page picked

pub returns-else-is_kernels-clause-guard : goal.returns-else-is_kernels-clause-guard
returns-else-is_kernels-clause-guard c =
    let guard = c.args.guard.now.pages in
    let page = c.args.page in
    let picks = is_kernels (rules_of c.args.policy.now) c.args.loaded.now in
    let other : picks page (protection_at guard page) ≡ false = search rules in kept_where picks guard page other
