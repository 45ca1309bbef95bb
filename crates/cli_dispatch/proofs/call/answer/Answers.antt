use Rattle.std.proofs.Common.{refl, sym, ◌∙◌}
use Rattle.cli_dispatch.specs.declared.choice.TopCall.TheVariants.{Live, Snap, Sweep, Shrink, Resume, Others, Survey, Debug}
use Rattle.cli_dispatch.proofs.Owing.{owed_of}
use Rattle.cli_dispatch.proofs.call.answer.Goals as goal

pub returns-in-Survey-clause-owed : goal.returns-in-Survey-clause-owed
returns-in-Survey-clause-owed g c = owed_of Survey _ _ _ _ _ (sym c.in-Survey.is ∙ c.top_call_of.ensures)
    (record {
      headline = c.secvisor_survey.ensures.headline;
      unread = c.secvisor_survey.ensures.unread;
      unsaved = c.secvisor_survey.ensures.same;
      keys = refl;
    })

pub returns-in-Debug-clause-owed : goal.returns-in-Debug-clause-owed
returns-in-Debug-clause-owed g c = owed_of Debug _ _ _ _ _ (sym c.in-Debug.is ∙ c.top_call_of.ensures)
    (record {
      headline = c.secvisor_debug.ensures.headline;
      read_fault = c.secvisor_debug.ensures.read_fault;
      unread = c.secvisor_debug.ensures.unread;
      unsaved = c.secvisor_debug.ensures.same;
      bench = refl;
    })

pub returns-in-Live-clause-owed : goal.returns-in-Live-clause-owed
returns-in-Live-clause-owed g c = owed_of Live _ _ _ _ _ (sym c.in-Live.is ∙ c.top_call_of.ensures)
    (record {
      headline = c.secvisor_live.ensures.headline;
      replay = c.secvisor_live.ensures.replay;
      read_fault = c.secvisor_live.ensures.read_fault;
      unread = c.secvisor_live.ensures.unread;
      unasked = c.secvisor_live.ensures.unasked;
      held = c.secvisor_live.ensures.held;
      unsaved = c.secvisor_live.ensures.unsaved;
    })

pub returns-in-Snap-clause-owed : goal.returns-in-Snap-clause-owed
returns-in-Snap-clause-owed g c = owed_of Snap _ _ _ _ _ (sym c.in-Snap.is ∙ c.top_call_of.ensures)
    (record {
      headline = c.secvisor_snap.ensures.headline;
      read_fault = c.secvisor_snap.ensures.read_fault;
      unread = c.secvisor_snap.ensures.unread;
      held = c.secvisor_snap.ensures.held;
      keys = refl;
    })

pub returns-in-Sweep-clause-owed : goal.returns-in-Sweep-clause-owed
returns-in-Sweep-clause-owed g c = owed_of Sweep _ _ _ _ _ (sym c.in-Sweep.is ∙ c.top_call_of.ensures)
    (record {
      headline = c.secvisor_sweep.ensures.headline;
      read_fault = c.secvisor_sweep.ensures.read_fault;
      unread = c.secvisor_sweep.ensures.unread;
      unsaved = c.secvisor_sweep.ensures.same;
      keys = refl;
      bench = refl;
    })

pub returns-in-Shrink-clause-owed : goal.returns-in-Shrink-clause-owed
returns-in-Shrink-clause-owed g c = owed_of Shrink _ _ _ _ _ (sym c.in-Shrink.is ∙ c.top_call_of.ensures)
    (record {
      headline = c.secvisor_shrink.ensures.headline;
      read_fault = c.secvisor_shrink.ensures.read_fault;
      unread = c.secvisor_shrink.ensures.unread;
      held = c.secvisor_shrink.ensures.held;
      keys = refl;
      bench = refl;
    })

pub returns-in-Resume-clause-owed : goal.returns-in-Resume-clause-owed
returns-in-Resume-clause-owed g c = owed_of Resume _ _ _ _ _ (sym c.in-Resume.is ∙ c.top_call_of.ensures)
    (record {
      headline = c.secvisor_resume.ensures.headline;
      read_fault = c.secvisor_resume.ensures.read_fault;
      unread = c.secvisor_resume.ensures.unread;
      held = c.secvisor_resume.ensures.held;
      unsaved = c.secvisor_resume.ensures.unsaved;
      keys = refl;
    })

pub returns-in-Others-clause-owed : goal.returns-in-Others-clause-owed
returns-in-Others-clause-owed g c = owed_of Others _ _ _ _ _ (sym c.in-Others.is ∙ c.top_call_of.ensures)
    (record {
      headline = c.secvisor.ensures.headline;
      read_fault = c.secvisor.ensures.read_fault;
      unread = c.secvisor.ensures.unread;
      held = c.secvisor.ensures.held;
      unsaved = c.secvisor.ensures.unsaved;
      keys = refl;
    })
