-- What an answer to a call does: to the hart that called, to devices and journal, to pages and modules, to other harts.
-- This project's own.
use Rattle.std.specs.Prelude.{ℕ, List, [], ◌++◌, filter, slice_set, Some, None, true, false}
use Rattle.sv_types.specs.ApprovedPages.{numbers_from, approved_pages}
use Rattle.sv_types.specs.Clock.{with_timer, latest}
use Rattle.sv_types.specs.Console.{without_first}
use Rattle.spec_processor.specs.Effects.{set_register, next_pc}
use Rattle.sv_types.specs.declared.event.Counts.{Counts}
use Rattle.sv_types.specs.declared.event.Note.TheVariants.{Load, Unload, Retire}
use Rattle.sv_types.specs.declared.event.Verdict.TheVariants.{Shutdown}
use Rattle.sv_types.specs.declared.module.Span.{Span}
use Rattle.spec_processor.specs.IntegerRegisters as abi
use Rattle.sv_types.specs.declared.sbi.SbiCode.{SbiCode}
use Rattle.sv_types.specs.declared.sbi.SbiCode.TheVariants.{Success, RefusedByMeasure}
use Rattle.spec_reference.specs.States.{State, Hart, Devices, Journal, has_number, module_pages, with_module, without_module, without_pages}
use Rattle.spec_reference.specs.States.{without_reservation}
use Rattle.spec_reference.specs.Counting.{with_count, with_note, printed_low, machine_ended, count_load, count_unload, count_refused}
use Rattle.spec_reference.specs.Calls.{facts_of, asked_by, started_hart, interrupt_harts, mask_names}
use Rattle.spec_reference.specs.ModuleCalls.{answer_of}
use Rattle.spec_reference.specs.declared.answers.Answer.{Answer}
use Rattle.spec_reference.specs.declared.answers.SideEffect.{SideEffect}
use Rattle.spec_reference.specs.declared.answers.SideEffect.TheVariants.{SetsTimer, Prints, TakesInput, ShutsDown, SendsInterrupts}
use Rattle.spec_reference.specs.declared.answers.SideEffect.TheVariants.{StartsHart, BeginsLoad, RefusesLoad, ApprovesModule}
use Rattle.spec_reference.specs.declared.answers.SideEffect.TheVariants.{ReleasesModule, UnloadsModule, RefusesUnload, RetiresInit}
use Rattle.spec_reference.specs.declared.answers.SideEffect.TheVariants.{RefusesRetire}
use Rattle.spec_reference.specs.declared.answers.Reply.{Reply}
use Rattle.spec_reference.specs.declared.answers.Reply.TheVariants.{Gives, Replies, Stays, Stops}

-- ---- to the hart

abbrev pub with_a0 : Hart → ℕ → Hart
with_a0 hart a0 = record hart { registers = set_register hart.registers abi.a0 a0; pc = next_pc hart.pc; reservation = None }

abbrev pub with_answer : Hart → ℕ → ℕ → Hart
with_answer hart a0 a1 = record hart {
  registers = set_register (set_register hart.registers abi.a0 a0) abi.a1 a1;
  pc = next_pc hart.pc;
  reservation = None;
}

unfoldable pub with_reply : Reply → Hart → Hart
with_reply (Gives a0) hart = with_a0 hart a0
with_reply (Replies a0 a1) hart = with_answer hart a0 a1
with_reply Stays hart = without_reservation hart
with_reply Stops hart = record hart { started = false; reservation = None; entry = None }

-- ---- to devices and journal

unfoldable pub devices_side_effect : SideEffect → ℕ → Devices → Devices
devices_side_effect (SetsTimer at) h d = record d { clock = with_timer d.clock h at }
devices_side_effect (StartsHart other pc opaque) h d = record d { clock = with_timer d.clock other latest }
devices_side_effect TakesInput h d = record d { console = without_first d.console }
devices_side_effect _ h d = d

-- a code other than success counts as refused
abbrev pub count_answer : SbiCode → Counts → Counts
count_answer Success c = c
count_answer _ c = count_refused c

-- what the end of a load, an unload or a retirement is noted with, by its hart and the count of turns
unfoldable pub journal_side_effect : SideEffect → ℕ → Journal → Journal
journal_side_effect (Prints byte) h j = printed_low byte j
journal_side_effect ShutsDown h j = machine_ended Shutdown j
journal_side_effect (RefusesLoad id how) h j = with_note (Load h j.counts.turns id how) (with_count (count_answer how) j)
journal_side_effect (ApprovesModule m) h j = with_note (Load h j.counts.turns m.id Success) (with_count count_load j)
journal_side_effect (ReleasesModule m) h j = with_note (Load h j.counts.turns m.id RefusedByMeasure) (with_count count_refused j)
journal_side_effect (UnloadsModule m) h j = with_note (Unload h j.counts.turns m.id Success) (with_count count_unload j)
journal_side_effect (RefusesUnload id how) h j = with_note (Unload h j.counts.turns id how) (with_count (count_answer how) j)
journal_side_effect (RetiresInit span) h j = with_note (Retire h j.counts.turns Success) j
journal_side_effect (RefusesRetire how) h j = with_note (Retire h j.counts.turns how) (with_count (count_answer how) j)
journal_side_effect _ h j = j

-- ---- to pages and modules

abbrev pub span_pages : Span → List ℕ
span_pages span = numbers_from span.first span.count

-- the init pages that were approved at boot
abbrev pub init_text : State → Span → List ℕ
init_text r span = filter (has_number r.text) (span_pages span)

unfoldable pub pages_side_effect : SideEffect → ℕ → State → State
pages_side_effect (BeginsLoad m pages) h r = record r {
  held = module_pages r.rules m;
  loading = Some (record { hart = h; about = m; left = pages });
}
pages_side_effect (ApprovesModule m) h r = record r {
  held = [];
  loading = None;
  approved = approved_pages r.ram (module_pages r.rules m) ++ r.approved;
  loaded = with_module r.loaded m;
}
pages_side_effect (ReleasesModule m) h r = record r { held = []; loading = None }
pages_side_effect (UnloadsModule m) h r = record r {
  approved = without_pages r.approved (module_pages r.rules m);
  loaded = without_module r.loaded m.id;
}
pages_side_effect (RetiresInit span) h r = record r { approved = without_pages r.approved (init_text r span); retired = true }
pages_side_effect _ h r = r

-- ---- to other harts

-- interrupts are sent after the reply, since the mask may name the calling hart
unfoldable pub harts_side_effect : SideEffect → List Hart → List Hart
harts_side_effect (SendsInterrupts mask base) harts = interrupt_harts (mask_names mask base) 0 harts
harts_side_effect (StartsHart other pc opaque) harts = slice_set harts other (started_hart other pc opaque)
harts_side_effect _ harts = harts

-- ---- the whole

unfoldable pub state_after_answer : State → ℕ → Hart → Answer → State
state_after_answer r h hart a = record (pages_side_effect a.side_effect h r) {
  harts = harts_side_effect a.side_effect (slice_set r.harts h (with_reply a.reply hart));
  devices = devices_side_effect a.side_effect h r.devices;
  journal = journal_side_effect a.side_effect h r.journal;
}

abbrev pub call : State → ℕ → Hart → State
call r h hart = state_after_answer r h hart (answer_of (facts_of r) (asked_by hart.registers))
