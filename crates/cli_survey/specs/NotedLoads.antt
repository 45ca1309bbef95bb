-- A load that is refused for its text is noted by the event that refuses it. This project's own.
use Rattle.std.specs.Prelude.{◌≡◌, [], ◌∷◌}
use Rattle.sv_types.specs.declared.event.Event.{Event}
use Rattle.sv_types.specs.declared.event.Note.{Note}
use Rattle.sv_types.specs.declared.event.Note.TheVariants.{Load}
use Rattle.sv_types.specs.declared.sbi.SbiCode.TheVariants.{RefusedByMeasure}
use Rattle.spec_reference.specs.Counting.{count_refused, count_turn, with_count, with_note}
use Rattle.spec_reference.specs.Run.{step}
use Rattle.spec_reference.specs.States.{State, Journal}
use Rattle.report.specs.declared.findings.loads.RefusedLoad.{RefusedLoad}
use Rattle.cli_survey.specs.Refusals.{refusals}

abbrev pub note_of : RefusedLoad → Note
note_of l = Load l.hart l.turn l.id RefusedByMeasure

-- the turn is counted and the refusal is, and then it is noted
abbrev pub journal_after : Journal → RefusedLoad → Journal
journal_after j l = with_note (note_of l) (with_count count_refused (with_count count_turn j))

abbrev pub RefusedNotedLaw : Type 0
RefusedNotedLaw = (r : State) (e : Event) (l : RefusedLoad) → refusals r e ≡ l ∷ [] → (step r e).journal ≡ journal_after r.journal l
