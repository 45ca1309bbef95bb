use Rattle.std.proofs.Common.{◌≡◌, ℕ, ◌≤◌, length, sym, ◌∙◌, ap, subst, arith, Some}
use Rattle.std.specs.Prelude.{option_map}
use Rattle.script.proofs.FirstEvents.{first_few}
use Rattle.spec_reference.specs.Counting.{CountsAtMost}
use Rattle.spec_reference.specs.States.{State}
use Rattle.debug_session.specs.Runs.{state}
use Rattle.cli_debug.specs.Keeping.{GoesOnFrom}
use Rattle.cli_debug.specs.Shelves.{latest}
use Rattle.cli_debug.proofs.Keeping.{kept_stands, returned}
use Rattle.cli_debug.proofs.Shelving.{latest_early, latest_kept}
use Rattle.cli_debug.proofs.target.debugged.DebuggedMachineTarget.rewind.Goals as goal

pub go_to-requires-clause-early : goal.go_to-requires-clause-early
go_to-requires-clause-early g c =
    let is : Some c.in-Some.kept.now ≡ latest c.args.self.now.shelf c.min.result = ap (option_map (λ k. k.now)) (sym c.in-Some.is) ∙ c.latest.ensures in
    let early : c.in-Some.kept.now.made ≤ c.min.result = latest_early c.args.self.now.shelf c.min.result c.in-Some.kept.now is in
    let least = c.min.ensures in
    let made : c.made-made.result ≡ c.in-Some.kept.now.made = c.made-made.ensures in
    omega (arith, made, early, least)

pub go_to-requires-clause-counts : goal.go_to-requires-clause-counts
go_to-requires-clause-counts g c =
    let made : c.made-made.result ≡ c.in-Some.kept.now.made = c.made-made.ensures in
    subst (λ (n : ℕ). CountsAtMost n c.in_ok-machine.machine.journal.counts) (sym made) c.in_ok-machine.ensures.counts

pub returns-clause-few : goal.returns-clause-few
returns-clause-few g c =
    let is : Some c.in-Some.kept.now ≡ latest c.args.self.now.shelf c.min.result = ap (option_map (λ k. k.now)) (sym c.in-Some.is) ∙ c.latest.ensures in
    let early : c.in-Some.kept.now.made ≤ c.min.result = latest_early c.args.self.now.shelf c.min.result c.in-Some.kept.now is in
    let least = c.min.ensures in
    let made : c.made-made.result ≡ c.in-Some.kept.now.made = c.made-made.ensures in
    omega (arith, made, early, least)

pub returns-clause-there : goal.returns-clause-there
unfolding state
returns-clause-there g c = λ run at.
    let kept = c.in-Some.kept.now in
    let is : Some c.in-Some.kept.now ≡ latest c.args.self.now.shelf c.min.result = ap (option_map (λ k. k.now)) (sym c.in-Some.is) ∙ c.latest.ensures in
    let holds = latest_kept run.start run.events c.args.self.now.shelf c.min.result kept is at.kept in
    let made : c.made-made.result ≡ c.in-Some.kept.now.made = c.made-made.ensures in
    let few : length run.events ≤ c.args.self.now.events = subst (λ es. length es ≤ c.args.self.now.events) (sym at.events_are) (first_few c.args.self.now.events _) in
    let limit = c.args.self.now.limit in
    let within : c.in-Some.kept.now.made ≤ length run.events = holds.within in
    let goes = subst (λ (start : State). GoesOnFrom start.rules kept.made kept.bytes.items c.in_ok-machine.machine) (sym at.starts) c.in_ok-machine.ensures in
    c.in_ok-go_to.ensures run
    (record {
      kernel_is = at.kernel_is;
      starts = at.starts;
      events_are = at.events_are;
      made_are = at.made_are;
      within = at.within;
      here = at.here;
      left_are = at.left_are;
      measured = at.measured;
      text_is = at.text_is;
      kept = at.kept;
    })
    (omega (arith, made, within))
    (returned kept c.in_ok-machine.machine c.in_ok-console.console.items c.made-made.result run.start run.events made c.in_ok-console.ensures
    (kept_stands run.start run.events kept c.in_ok-machine.machine at.measured (omega (arith, few, limit)) holds goes))
