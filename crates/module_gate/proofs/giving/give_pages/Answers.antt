use Rattle.std.proofs.Common.{◌≡◌, ◌∙◌, sym, ap, subst, slice_get}
use Rattle.std.specs.Prelude.{Option, Some, IfSome, is_some}
use Rattle.sv_types.specs.Policies.{ModuleRule, rules_of}
use Rattle.spec_reference.specs.States.{find_module, pages_in_rule}
use Rattle.module_gate.specs.Gates.{is_good_place}
use Rattle.module_gate.specs.declared.modules.PendingLoad.{PendingLoad}
use Rattle.module_gate.proofs.Given.{MayBegin, IsCounted, MayDo, may_do}
use Rattle.module_gate.proofs.Joined.{takes_its_pages, none_under_way}
use Rattle.module_gate.proofs.PagesGiven.{at_load, begins, approves, releases}
use Rattle.module_gate.proofs.giving.give_pages.Goals as goal

pub begin_load-requires-clause-known : goal.begin_load-requires-clause-known
begin_load-requires-clause-known c =
    let law = rules_of c.args.policy.now in
    let modules = c.args.modules.now in
    let may : MayBegin law c.args.mem.now.ram c.args.guard.now.pages modules c.in-BeginsLoad.about c.in-BeginsLoad.pages =
    subst (MayDo law c.args.mem.now.ram c.args.guard.now.pages modules) c.in-BeginsLoad.is (may_do law c.args.mem.now.ram c.args.guard.now.pages modules c.args.side_effect.now c.requires.given) in
    ap is_some may.known

pub begin_load-requires-clause-none : goal.begin_load-requires-clause-none
begin_load-requires-clause-none c =
    let law = rules_of c.args.policy.now in
    let modules = c.args.modules.now in
    let may : MayBegin law c.args.mem.now.ram c.args.guard.now.pages modules c.in-BeginsLoad.about c.in-BeginsLoad.pages =
    subst (MayDo law c.args.mem.now.ram c.args.guard.now.pages modules) c.in-BeginsLoad.is (may_do law c.args.mem.now.ram c.args.guard.now.pages modules c.args.side_effect.now c.requires.given) in
    none_under_way modules may.idle

pub begin_load-requires-clause-place : goal.begin_load-requires-clause-place
begin_load-requires-clause-place c =
    let law = rules_of c.args.policy.now in
    let modules = c.args.modules.now in
    let may : MayBegin law c.args.mem.now.ram c.args.guard.now.pages modules c.in-BeginsLoad.about c.in-BeginsLoad.pages =
    subst (MayDo law c.args.mem.now.ram c.args.guard.now.pages modules) c.in-BeginsLoad.is (may_do law c.args.mem.now.ram c.args.guard.now.pages modules c.args.side_effect.now c.requires.given) in
    ap (λ (o : Option ModuleRule). is_good_place c.args.mem.now.ram c.args.guard.now.pages c.in-BeginsLoad.about (pages_in_rule o)) may.known ∙ may.place

pub approve_load-requires-clause-there : goal.approve_load-requires-clause-there
approve_load-requires-clause-there c =
    let law = rules_of c.args.policy.now in
    let modules = c.args.modules.now in
    let may : IsCounted modules c.in-ApprovesModule.about =
    subst (MayDo law c.args.mem.now.ram c.args.guard.now.pages modules) c.in-ApprovesModule.is (may_do law c.args.mem.now.ram c.args.guard.now.pages modules c.args.side_effect.now c.requires.given) in
    ap is_some may.there

pub release_load-requires-clause-there : goal.release_load-requires-clause-there
release_load-requires-clause-there c =
    let law = rules_of c.args.policy.now in
    let modules = c.args.modules.now in
    let may : IsCounted modules c.in-ReleasesModule.about =
    subst (MayDo law c.args.mem.now.ram c.args.guard.now.pages modules) c.in-ReleasesModule.is (may_do law c.args.mem.now.ram c.args.guard.now.pages modules c.args.side_effect.now c.requires.given) in
    ap is_some may.there

pub approve_load-requires-clause-counted : goal.approve_load-requires-clause-counted
approve_load-requires-clause-counted c =
    let law = rules_of c.args.policy.now in
    let modules = c.args.modules.now in
    let may : IsCounted modules c.in-ApprovesModule.about =
    subst (MayDo law c.args.mem.now.ram c.args.guard.now.pages modules) c.in-ApprovesModule.is (may_do law c.args.mem.now.ram c.args.guard.now.pages modules c.args.side_effect.now c.requires.given) in
    subst (λ (o : Option PendingLoad). IfSome o (λ u. u.load.left ≡ 0)) (sym may.there) may.counted

pub unload-requires-clause-loaded : goal.unload-requires-clause-loaded
unload-requires-clause-loaded c =
    let law = rules_of c.args.policy.now in
    let modules = c.args.modules.now in
    let may : find_module modules.gate.loaded c.in-UnloadsModule.about.id ≡ Some c.in-UnloadsModule.about =
    subst (MayDo law c.args.mem.now.ram c.args.guard.now.pages modules) c.in-UnloadsModule.is (may_do law c.args.mem.now.ram c.args.guard.now.pages modules c.args.side_effect.now c.requires.given) in
    may

pub retire-requires-clause-init : goal.retire-requires-clause-init
retire-requires-clause-init c =
    let law = rules_of c.args.policy.now in
    let modules = c.args.modules.now in
    let may : law.init ≡ Some c.in-RetiresInit.span =
    subst (MayDo law c.args.mem.now.ram c.args.guard.now.pages modules) c.in-RetiresInit.is (may_do law c.args.mem.now.ram c.args.guard.now.pages modules c.args.side_effect.now c.requires.given) in
    may

pub returns-in-BeginsLoad-clause-machine : goal.returns-in-BeginsLoad-clause-machine
returns-in-BeginsLoad-clause-machine c = λ m.
    let law = rules_of c.args.policy.now in
    let modules = c.args.modules.now in
    let may : MayBegin law c.args.mem.now.ram c.args.guard.now.pages modules c.in-BeginsLoad.about c.in-BeginsLoad.pages =
    subst (MayDo law c.args.mem.now.ram c.args.guard.now.pages modules) c.in-BeginsLoad.is (may_do law c.args.mem.now.ram c.args.guard.now.pages modules c.args.side_effect.now c.requires.given) in
    rw (c.in-BeginsLoad.is, c.begin_load.ensures.guard, c.begin_load.ensures.modules, c.begin_load.ensures.tables_match.ram)
    (begins m law c.args.mem.now c.args.hart c.args.guard.now.pages modules c.begin_load.new.mem.tables c.in-BeginsLoad.about
    (pages_in_rule (slice_get law.modules c.in-BeginsLoad.about.id)) c.in-BeginsLoad.pages (ap pages_in_rule may.known ∙ may.number))

pub returns-in-ApprovesModule-clause-machine : goal.returns-in-ApprovesModule-clause-machine
returns-in-ApprovesModule-clause-machine c = λ m.
    let law = rules_of c.args.policy.now in
    let modules = c.args.modules.now in
    let may : IsCounted modules c.in-ApprovesModule.about =
    subst (MayDo law c.args.mem.now.ram c.args.guard.now.pages modules) c.in-ApprovesModule.is (may_do law c.args.mem.now.ram c.args.guard.now.pages modules c.args.side_effect.now c.requires.given) in
    let u = may.under_way in
    rw (
      c.in-ApprovesModule.is,
      sym may.about_it,
      at_load _ modules.loading u may.there c.approve_load.ensures.guard,
      at_load _ modules.loading u may.there c.approve_load.ensures.modules,
      c.approve_load.ensures.tables_match.ram,
    )
    (approves m law c.args.mem.now c.args.hart c.args.guard.now.pages modules c.approve_load.new.mem.tables u.load (takes_its_pages law modules u c.requires.joined may.there))

pub returns-in-ApprovesModule-clause-joined : goal.returns-in-ApprovesModule-clause-joined
returns-in-ApprovesModule-clause-joined c =
    let law = rules_of c.args.policy.now in
    let modules = c.args.modules.now in
    let may : IsCounted modules c.in-ApprovesModule.about =
    subst (MayDo law c.args.mem.now.ram c.args.guard.now.pages modules) c.in-ApprovesModule.is (may_do law c.args.mem.now.ram c.args.guard.now.pages modules c.args.side_effect.now c.requires.given) in
    rw (at_load _ modules.loading may.under_way may.there c.approve_load.ensures.modules) (record { digests = record {}; pages = record {} })

pub returns-in-ReleasesModule-clause-machine : goal.returns-in-ReleasesModule-clause-machine
returns-in-ReleasesModule-clause-machine c = λ m.
    let law = rules_of c.args.policy.now in
    let modules = c.args.modules.now in
    let may : IsCounted modules c.in-ReleasesModule.about =
    subst (MayDo law c.args.mem.now.ram c.args.guard.now.pages modules) c.in-ReleasesModule.is (may_do law c.args.mem.now.ram c.args.guard.now.pages modules c.args.side_effect.now c.requires.given) in
    let u = may.under_way in
    rw (c.in-ReleasesModule.is, sym may.about_it, at_load _ modules.loading u may.there c.release_load.ensures.guard, c.release_load.ensures.modules, c.release_load.ensures.tables_match.ram)
    (releases m law c.args.mem.now c.args.hart c.args.guard.now.pages modules c.release_load.new.mem.tables u.load (takes_its_pages law modules u c.requires.joined may.there))

pub returns-in-ReleasesModule-clause-joined : goal.returns-in-ReleasesModule-clause-joined
returns-in-ReleasesModule-clause-joined c = rw c.release_load.ensures.modules (record { digests = record {}; pages = record {} })
