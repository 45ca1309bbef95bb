-- The notes of calls from kernel mode, and of each step of a load: of each answer, by what it does.
use Rattle.std.proofs.Common.{◌≡◌, ℕ, zero, suc, List, slice_get, slice_set, refl, ap, ◌∙◌}
use Rattle.sv_types.specs.declared.event.Note.{Note}
use Rattle.sv_types.specs.declared.event.Note.TheVariants.{Load, Unload, Retire}
use Rattle.sv_types.specs.declared.event.Verdict.TheVariants.{Shutdown}
use Rattle.sv_types.specs.declared.sbi.SbiCode.TheVariants.{Success, RefusedByMeasure}
use Rattle.spec_reference.specs.States.{State, Hart, Devices, Journal, Loading, is_protected}
use Rattle.spec_reference.specs.Counting.{with_count, printed_low, machine_ended, count_load, count_unload, count_refused}
use Rattle.spec_reference.specs.Answers.{count_answer, devices_side_effect, harts_side_effect, journal_side_effect, pages_side_effect, with_reply, state_after_answer, call}
use Rattle.spec_reference.specs.Calls.{asked_by, facts_of}
use Rattle.spec_reference.specs.Loads.{is_good_load, decide, load_step_of}
use Rattle.spec_reference.specs.ModuleCalls.{answer_of, load_decision}
use Rattle.spec_reference.specs.declared.answers.Answer.{Answer}
use Rattle.spec_reference.specs.declared.answers.SideEffect.{SideEffect}
use Rattle.spec_reference.specs.declared.answers.SideEffect.TheVariants.{Prints, ShutsDown, BeginsLoad, RefusesLoad}
use Rattle.spec_reference.specs.declared.answers.SideEffect.TheVariants.{ApprovesModule, ReleasesModule, UnloadsModule, RefusesUnload, RetiresInit, RefusesRetire}
use Rattle.machine.specs.Noting.{noting}
use Rattle.machine_journal.specs.Journals.{with_notes}
use Rattle.cli_survey.proofs.KeepsNotes.{JournalNotes, Notes, none_noted, one_noted, quiet}

effect_noted : (b : SideEffect) (h : ℕ) (j : Journal) → JournalNotes (λ notes. journal_side_effect b h (with_notes notes j)) (journal_side_effect b h j)
unfolding journal_side_effect
effect_noted (Prints byte) h j = none_noted (printed_low byte j)
effect_noted ShutsDown h j = none_noted (machine_ended Shutdown j)
effect_noted (RefusesLoad id how) h j = one_noted (Load h j.counts.turns id how) (with_count (count_answer how) j)
effect_noted (ApprovesModule m) h j = one_noted (Load h j.counts.turns m.id Success) (with_count count_load j)
effect_noted (ReleasesModule m) h j = one_noted (Load h j.counts.turns m.id RefusedByMeasure) (with_count count_refused j)
effect_noted (UnloadsModule m) h j = one_noted (Unload h j.counts.turns m.id Success) (with_count count_unload j)
effect_noted (RefusesUnload id how) h j = one_noted (Unload h j.counts.turns id how) (with_count (count_answer how) j)
effect_noted (RetiresInit span) h j = one_noted (Retire h j.counts.turns Success) j
effect_noted (RefusesRetire how) h j = one_noted (Retire h j.counts.turns how) (with_count (count_answer how) j)
effect_noted _ h j = none_noted j

pages_noting : (b : SideEffect) (h : ℕ) (r : State) (notes : List Note) → pages_side_effect b h (noting notes r) ≡ noting notes (pages_side_effect b h r)
unfolding pages_side_effect
pages_noting (BeginsLoad m pages) h r notes = refl
pages_noting (ApprovesModule m) h r notes = refl
pages_noting (ReleasesModule m) h r notes = refl
pages_noting (UnloadsModule m) h r notes = refl
pages_noting (RetiresInit span) h r notes = refl
pages_noting _ h r notes = refl

abbrev with_parts : State → List Hart → Devices → Journal → State
with_parts r harts devices journal = record r { harts = harts; devices = devices; journal = journal }

answered_notes : (r : State) (h : ℕ) (hart : Hart) (a : Answer) → Notes (λ notes. state_after_answer (noting notes r) h hart a) (state_after_answer r h hart a)
unfolding state_after_answer
answered_notes r h hart a =
    let journal : JournalNotes (λ notes. journal_side_effect a.side_effect h (with_notes notes r.journal)) (journal_side_effect a.side_effect h r.journal) =
    effect_noted a.side_effect h r.journal in
    let harts : List Hart = harts_side_effect a.side_effect (slice_set r.harts h (with_reply a.reply hart)) in
    let devices : Devices = devices_side_effect a.side_effect h r.devices in
    record {
      new = journal.new;
      same = λ notes.
          ap (λ (x : State). with_parts x harts devices (journal_side_effect a.side_effect h (with_notes notes r.journal))) (pages_noting a.side_effect h r notes)
          ∙ ap (λ (j : Journal). with_parts (pages_side_effect a.side_effect h r) harts devices j) (journal.same notes);
    }

pub call_notes : (r : State) (h : ℕ) (hart : Hart) → Notes (λ notes. call (noting notes r) h hart) (call r h hart)
unfolding is_protected
call_notes r h hart = answered_notes r h hart (answer_of (facts_of r) (asked_by hart.registers))

-- ---- a load under way

pub load_step_notes : (r : State) (h : ℕ) (hart : Hart) (load : Loading) (left : ℕ) → Notes (λ notes. load_step_of (noting notes r) h hart load left) (load_step_of r h hart load left)
unfolding load_step_of decide
load_step_notes r h hart load zero =
    answered_notes r h hart (load_decision (is_good_load r.rules r.ram load.about (slice_get r.rules.modules load.about.id)) load.about)
load_step_notes r h hart load (suc left) = quiet _
