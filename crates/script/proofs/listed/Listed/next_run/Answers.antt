use Rattle.std.proofs.Common.{◌≡◌, arith, ap, ◌∙◌}
use Rattle.sv_types.specs.Schedule.{Listed}
use Rattle.script.specs.declared.listed.Listed.TheInside.{Inside}
use Rattle.script.specs.Listed.{events_left}
use Rattle.script.proofs.EventRuns.{begins_next, next_begins, run_goes_on}
use Rattle.script.proofs.listed.Listed.next_run.Goals.{then-self-eq0+in_ok-run, else-self-eq0}
use Rattle.script.proofs.listed.Listed.next_run.Goals as goal

pub returns-clause-first : goal.returns-clause-first
returns-clause-first c =
    let l = c.self.inside in
    let begun : Inside = c.if-self-eq0.self-inside in
    let same : Listed (events_left begun) ≡ c.args.self.now = elim c.if-self-eq0.branch [
      | then-self-eq0+in_ok-run w ↦
          let found = w.in_ok-run.ensures.lookup in
          ap (λ (i : Inside). Listed (events_left i)) w.self-inside-is
          ∙ next_begins l.runs.items w.deref.result.now l.at l.left l.said w.in_ok-run.field-0.now l.autos c.args.self.now w.deref.ensures.value
          found.3.0 found.1 w.if-self-eq0.true c.self.view_is
      | else-self-eq0 w ↦ ap (λ (i : Inside). Listed (events_left i)) w.self-inside-is ∙ c.self.view_is
    ] in
    run_goes_on begun.runs.items begun.at begun.left c.min.result begun.said begun.autos c.run_said-run.new.autos c.run_said-run.result c.args.self.now
    c.run_said-run.ensures.most (grind (arith, c.min.ensures)) c.run_said-run.ensures.run same

pub returns-clause-event : goal.returns-clause-event
returns-clause-event c = begins_next c.args.self.now _ c.run_said-run.result c.run_said-run.ensures.some (returns-clause-first c)
