use Rattle.std.proofs.Common.{◌≡◌, ◌+◌, ◌≤◌, List, sym, ◌∙◌, subst, arith}
use Rattle.snapshot_format.specs.declared.whole.TextPage.{TextPage}
use Rattle.debug_session.specs.Runs.{state}
use Rattle.cli_snap.specs.Encoding.{EncodesMachine}
use Rattle.cli_debug.specs.Upcoming.{most_upcoming}
use Rattle.cli_debug.proofs.Keeping.{few_counted, kept_of}
use Rattle.cli_debug.proofs.Shelving.{one_more}
use Rattle.cli_debug.proofs.target.debugged.DebuggedMachineTarget.keep.Goals as goal

pub of-requires : goal.of-requires
of-requires g c =
    let few : c.args.self.now.made + most_upcoming c.args.self.now.next c.args.self.now.left ≤ c.args.self.now.events = c.args.self.now.few in
    let limit = c.args.self.now.limit in
    few_counted c.args.self.now.made _ c.args.self.now.counts (omega (arith, few, limit))

pub returns-in-Ok : goal.returns-in-Ok
unfolding state
returns-in-Ok g c = λ run at.
    let self = c.args.self.now in
    let made : c.in-Ok.kept.made ≡ run.made = c.in-Ok.ensures.made ∙ sym at.made_are in
    let bytes = subst (λ (text : List TextPage). EncodesMachine c.args.self.now.machine text c.in-Ok.kept.bytes.items) c.deref.ensures.value c.in-Ok.ensures.bytes in
    record {
      kernel_is = at.kernel_is;
      starts = at.starts;
      events_are = at.events_are;
      made_are = at.made_are;
      within = at.within;
      here = at.here;
      left_are = at.left_are;
      measured = at.measured;
      text_is = at.text_is;
      kept = one_more run.start run.events c.args.self.now.shelf _ c.in-Ok.kept c.args.last c.add.ensures.before c.add.ensures.last
          (kept_of c.in-Ok.kept c.args.self.now.machine c.args.self.now.console.items c.args.self.now.text.items run.start run.events run.made at.measured at.text_is c.args.self.now.none
          at.here at.within made (c.in-Ok.ensures.console ∙ c.deref-2.ensures.value) bytes) at.kept;
    }
