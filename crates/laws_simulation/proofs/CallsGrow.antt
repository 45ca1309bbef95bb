-- The journal after calls from kernel mode, and after each step of a load: after each answer, by what it does.
use Rattle.std.proofs.Common.{ℕ, zero, suc, slice_get}
use Rattle.sv_types.specs.declared.event.Note.TheVariants.{Load, Unload, Retire}
use Rattle.sv_types.specs.declared.event.Verdict.TheVariants.{Shutdown}
use Rattle.sv_types.specs.declared.sbi.SbiCode.TheVariants.{Success, RefusedByMeasure}
use Rattle.spec_reference.specs.States.{State, Hart, Journal, Loading}
use Rattle.spec_reference.specs.Answers.{journal_side_effect, state_after_answer, call}
use Rattle.spec_reference.specs.Calls.{asked_by, facts_of}
use Rattle.spec_reference.specs.Loads.{is_good_load, decide, load_step_of}
use Rattle.spec_reference.specs.ModuleCalls.{answer_of, load_decision}
use Rattle.spec_reference.specs.declared.answers.Answer.{Answer}
use Rattle.spec_reference.specs.declared.answers.SideEffect.{SideEffect}
use Rattle.spec_reference.specs.declared.answers.SideEffect.TheVariants.{Prints, ShutsDown, RefusesLoad, ApprovesModule, ReleasesModule, UnloadsModule, RefusesUnload, RetiresInit, RefusesRetire}
use Rattle.laws_simulation.proofs.Growth.{Moves, Gains, still, ended, printed, answers, loads, unloads}

beside_gains : (b : SideEffect) (h : ℕ) (j : Journal) → Moves j (journal_side_effect b h j)
unfolding journal_side_effect
beside_gains (Prints byte) h j = printed j byte
beside_gains ShutsDown h j = ended j Shutdown
beside_gains (RefusesLoad id how) h j = answers j how (Load h j.counts.turns id how)
beside_gains (ApprovesModule m) h j = loads j (Load h j.counts.turns m.id Success)
beside_gains (ReleasesModule m) h j = answers j RefusedByMeasure (Load h j.counts.turns m.id RefusedByMeasure)
beside_gains (UnloadsModule m) h j = unloads j (Unload h j.counts.turns m.id Success)
beside_gains (RefusesUnload id how) h j = answers j how (Unload h j.counts.turns id how)
beside_gains (RetiresInit span) h j = answers j Success (Retire h j.counts.turns Success)
beside_gains (RefusesRetire how) h j = answers j how (Retire h j.counts.turns how)
beside_gains _ h j = still j

answered_gains : (r : State) (h : ℕ) (hart : Hart) (a : Answer) → Gains r (state_after_answer r h hart a)
unfolding state_after_answer
answered_gains r h hart a = beside_gains a.side_effect h r.journal

pub call_gains : (r : State) (h : ℕ) (hart : Hart) → Gains r (call r h hart)
call_gains r h hart = answered_gains r h hart (answer_of (facts_of r) (asked_by hart.registers))

-- ---- a load under way

pub load_step_gains : (r : State) (h : ℕ) (hart : Hart) (load : Loading) (left : ℕ) → Gains r (load_step_of r h hart load left)
unfolding load_step_of decide
load_step_gains r h hart load zero =
    answered_gains r h hart (load_decision (is_good_load r.rules r.ram load.about (slice_get r.rules.modules load.about.id)) load.about)
load_step_gains r h hart load (suc left) = still r.journal
