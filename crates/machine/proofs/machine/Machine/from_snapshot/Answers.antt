use Rattle.std.proofs.Common.{◌∙◌, ap, subst}
use Rattle.sv_types.specs.Policies.{rules_of}
use Rattle.spec_reference.specs.Start.{AreWords}
use Rattle.spec_hardware.specs.Machine.{Machine}
use Rattle.snapshot_format.specs.Snapshots.{contents}
use Rattle.machine.proofs.Resuming.{resumed_fit, resumed_journal}
use Rattle.machine.proofs.machine.Machine.from_snapshot.Goals as goal

pub invariant_of-result : goal.invariant_of-result
invariant_of-result g c =
    let rules = rules_of c.args.policy in
    let s = contents c.args.snapshot in
    let words : AreWords rules.entries = subst AreWords c.deref.ensures.value c.entries_are_words.ensures in
    let accepted = c.in_ok-judge.ensures.accepted in
    let made = c.in_ok-system.ensures.made in
    let new = c.law_resumed_start.ensures c.in_ok-system.system rules s c.requires.within words c.requires.form accepted c.in_ok-system.ensures.guarded made in
    let journal = ap (λ (m : Machine). m.journal) made ∙ resumed_journal c.in_ok-system.system.region.tables rules s in
    resumed_fit c.in_ok-system.system rules s c.requires.within (c.law_resumed_sound.ensures rules s c.requires.within words c.requires.form accepted) new journal

pub returns-clause-new : goal.returns-clause-new
returns-clause-new g c =
    let rules = rules_of c.args.policy in
    let s = contents c.args.snapshot in
    let words : AreWords rules.entries = subst AreWords c.deref.ensures.value c.entries_are_words.ensures in
    let accepted = c.in_ok-judge.ensures.accepted in
    let made = c.in_ok-system.ensures.made in
    let new = c.law_resumed_start.ensures c.in_ok-system.system rules s c.requires.within words c.requires.form accepted c.in_ok-system.ensures.guarded made in
    new

pub returns-clause-journal : goal.returns-clause-journal
returns-clause-journal g c =
    ap (λ (m : Machine). m.journal) c.in_ok-system.ensures.made ∙ resumed_journal c.in_ok-system.system.region.tables (rules_of c.args.policy) (contents c.args.snapshot)
