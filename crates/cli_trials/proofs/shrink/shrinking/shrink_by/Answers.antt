use Rattle.std.proofs.Common.{ap, ◌∙◌, refl}
use Rattle.script_lines.specs.Lines.{text_of}
use Rattle.cli_trials.proofs.SmallScripts.{small, stops_again}
use Rattle.cli_trials.proofs.shrink.shrinking.shrink_by.Goals as goal

pub shrink_lines-requires-clause-stops : goal.shrink_lines-requires-clause-stops
shrink_lines-requires-clause-stops g c κs within =
    stops_again _ _ c.args.lines.items _ _ c.stops_so.ensures.same c.deref.ensures.value c.in-Ok-true.ensures.answer c.in-Ok-true.field-0-test

pub returns-clause-small : goal.returns-clause-small
returns-clause-small g c =
    small c.args.trial.now.wanted _ _ _ c.shrink_lines.new.test.runs_left c.stops_so.ensures.same (c.in-Ok-script_text.ensures ∙ ap text_of c.deref-2.ensures.value) c.shrink_lines.ensures.stops
    c.in-Ok.ensures.minimal c.in-Ok.ensures.spent refl
