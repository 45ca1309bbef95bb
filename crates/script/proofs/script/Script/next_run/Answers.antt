use Rattle.std.proofs.Common.{ap, sym, ◌∙◌, Some}
use Rattle.script.specs.declared.script.Script.TheInside.{Inside}
use Rattle.script.specs.Sources.{schedule_of}
use Rattle.script.proofs.EventRuns.{drawn_begin, given_on}
use Rattle.script.proofs.script.Script.next_run.Goals.{in-Listed, in-Rounds, in-Weave, in-Auto, in-Bursts}
use Rattle.script.proofs.script.Script.next_run.Goals as goal

pub returns-clause-first : goal.returns-clause-first
returns-clause-first c =
    elim c.match-self.branch [
      | in-Listed w ↦ given_on c.match-self.result w.next_run.result c.args.self.now w.in-Listed.listed _ w.next_run.new.self w.result-is
          (sym (ap schedule_of w.in-Listed.is) ∙ c.self.view_is) (ap (λ (i : Inside). schedule_of i.source) w.self-inside-is) w.next_run.ensures.first
      | in-Rounds w ↦ given_on c.match-self.result (Some w.next_run-in-Rounds.result) c.args.self.now w.in-Rounds.rounds _ w.next_run-in-Rounds.new.self w.result-is
          (sym (ap schedule_of w.in-Rounds.is) ∙ c.self.view_is) (ap (λ (i : Inside). schedule_of i.source) w.self-inside-is) w.next_run-in-Rounds.ensures.first
      | in-Weave w ↦ given_on c.match-self.result (Some w.next_run-in-Weave.result) c.args.self.now w.in-Weave.weave _ w.next_run-in-Weave.new.self w.result-is
          (sym (ap schedule_of w.in-Weave.is) ∙ c.self.view_is) (ap (λ (i : Inside). schedule_of i.source) w.self-inside-is) w.next_run-in-Weave.ensures.first
      | in-Auto w ↦ given_on c.match-self.result (Some w.next_run-in-Auto.result) c.args.self.now w.in-Auto.auto _ w.next_run-in-Auto.new.self w.result-is
          (sym (ap schedule_of w.in-Auto.is) ∙ c.self.view_is) (ap (λ (i : Inside). schedule_of i.source) w.self-inside-is)
          (drawn_begin w.in-Auto.auto w.next_run-in-Auto.new.self w.next_run-in-Auto.result w.next_run-in-Auto.ensures.draws)
      | in-Bursts w ↦ given_on c.match-self.result (Some w.next_run-in-Bursts.result) c.args.self.now w.in-Bursts.bursts _ w.next_run-in-Bursts.new.self w.result-is
          (sym (ap schedule_of w.in-Bursts.is) ∙ c.self.view_is) (ap (λ (i : Inside). schedule_of i.source) w.self-inside-is)
          (drawn_begin w.in-Bursts.bursts w.next_run-in-Bursts.new.self w.next_run-in-Bursts.result w.next_run-in-Bursts.ensures.draws)
    ]
