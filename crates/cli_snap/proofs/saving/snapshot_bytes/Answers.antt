use Rattle.std.proofs.Common.{◌∙◌, ap, refl}
use Rattle.snapshot_format.specs.declared.whole.Snapshot.{Snapshot}
use Rattle.laws_resume.specs.EventCounts.{events_counted}
use Rattle.cli_snap.proofs.SaveLemmas.{encodes}
use Rattle.cli_snap.proofs.saving.snapshot_bytes.Goals as goal

pub returns : goal.returns
returns c =
    let made : Snapshot = record { events = c.events_made.result; «machine» = c.in_ok-saved.saved; text = c.args.text } in
    encodes c.args.machine.now c.args.text.items made c.write.result
    (λ typed. record { state = c.in_ok-saved.ensures.state; made = c.events_made.ensures ∙ ap events_counted c.counts.ensures; text_is = refl; typed = typed; port = c.in_ok-saved.ensures.port })
    c.write.ensures.encoded c.write.ensures.typed
