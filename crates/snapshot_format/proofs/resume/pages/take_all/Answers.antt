use Rattle.std.proofs.Common.{List, Option, subst, sym}
use Rattle.sv_types.specs.Policies.{rules_of}
use Rattle.sv_types.specs.declared.protection.Protection.{Protection}
use Rattle.sv_types.specs.declared.protection.Protection.TheVariants.{Approved}
use Rattle.sv_types.specs.declared.saved.ModulePlacement.{ModulePlacement}
use Rattle.snapshot_format.specs.Snapshots.{contents}
use Rattle.snapshot_format.specs.declared.whole.TextPage.{TextPage}
use Rattle.snapshot_format.specs.Judgements.{load_pages, loaded_pages, take_pages}
use Rattle.snapshot_format.specs.Taking.{IsTaken, left_of}
use Rattle.snapshot_format.proofs.TakenLoops.{text_busy, modules_busy, load_last, were_busy, were_taken}
use Rattle.snapshot_format.proofs.resume.pages.take_all.Goals as goal

pub returns-then-not-take_text : goal.returns-then-not-take_text
returns-then-not-take_text c =
    let rules = rules_of c.args.policy.now in
    let s = contents c.args.snapshot.now in
    let busy = were_busy _ c.take_text.new.guard c.take_text.result c.if-not-take_text.true
    (subst (λ (text : List TextPage). IsTaken (take_pages Approved c.args.guard.now (left_of rules s.retired text)) c.take_text.new.guard c.take_text.result)
    c.deref.ensures.value c.take_text.ensures) in
    text_busy c.args.guard.now (left_of rules s.retired s.text) (loaded_pages rules s.modules) (load_pages rules s.loading) busy

pub returns-then-not-take_modules : goal.returns-then-not-take_modules
returns-then-not-take_modules c =
    let rules = rules_of c.args.policy.now in
    let s = contents c.args.snapshot.now in
    let first = were_taken _ c.take_text.new.guard c.take_text.result c.if-not-take_text.false
    (subst (λ (text : List TextPage). IsTaken (take_pages Approved c.args.guard.now (left_of rules s.retired text)) c.take_text.new.guard c.take_text.result)
    c.deref.ensures.value c.take_text.ensures) in
    let busy = were_busy _ c.take_modules.new.guard c.take_modules.result c.if-not-take_modules.true
    (subst (λ (modules : List ModulePlacement). IsTaken (take_pages Approved c.take_text.new.guard (loaded_pages rules modules)) c.take_modules.new.guard
    c.take_modules.result) c.deref-2.ensures.value c.take_modules.ensures) in
    modules_busy c.args.guard.now c.take_text.new.guard (left_of rules s.retired s.text) (loaded_pages rules s.modules) (load_pages rules s.loading) first busy

pub returns : goal.returns
returns c =
    let rules = rules_of c.args.policy.now in
    let s = contents c.args.snapshot.now in
    let first = were_taken _ c.take_text.new.guard c.take_text.result c.if-not-take_text.false
    (subst (λ (text : List TextPage). IsTaken (take_pages Approved c.args.guard.now (left_of rules s.retired text)) c.take_text.new.guard c.take_text.result)
    c.deref.ensures.value c.take_text.ensures) in
    let second = were_taken _ c.take_modules.new.guard c.take_modules.result c.if-not-take_modules.false
    (subst (λ (modules : List ModulePlacement). IsTaken (take_pages Approved c.take_text.new.guard (loaded_pages rules modules)) c.take_modules.new.guard
    c.take_modules.result) c.deref-2.ensures.value c.take_modules.ensures) in
    let last = load_last c.args.guard.now c.take_text.new.guard c.take_modules.new.guard (left_of rules s.retired s.text) (loaded_pages rules s.modules) (load_pages rules s.loading) first second in
    subst (λ (due : Option (List Protection)). IsTaken due c.take_load.new.guard c.take_load.result) (sym last) c.take_load.ensures
