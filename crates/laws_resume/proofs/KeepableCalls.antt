-- A state that can be saved can be saved after calls from kernel mode, and after each step of a load.
use Rattle.std.proofs.Common.{◌≡◌, ℕ, suc, ◌*◌, ◌%◌, ◌<◌, ◌≤◌, List, [], ◌∷◌, length, map, refl, sym, ◌∙◌, ap, subst, Bool, true, false, not, ◌&&◌, slice_get, slice_set}
use Rattle.std.specs.Prelude.{Option, Some, None, if◌then◌else◌, ◌==◌, nat_le, is_some}
use Rattle.std.specs.List.{list_any}
use Rattle.std.proofs.lemmas.Bool.{eqb-true}
use Rattle.spec_processor.specs.Bytes.{page_of, page_size, in_ram}
use Rattle.spec_processor.specs.Effects.{set_register}
use Rattle.spec_processor.specs.declared.mode.Mode.TheVariants.{Kernel}
use Rattle.sv_types.specs.ApprovedPages.{numbers_from}
use Rattle.sv_types.specs.Clock.{latest}
use Rattle.sv_types.specs.Console.{max_queued}
use Rattle.sv_types.specs.Policies.{ModuleRule}
use Rattle.sv_types.specs.declared.event.Counts.{Counts}
use Rattle.sv_types.specs.declared.event.Note.TheVariants.{Load, Unload, Retire}
use Rattle.sv_types.specs.declared.event.Note.{Note}
use Rattle.sv_types.specs.declared.event.Verdict.TheVariants.{Shutdown}
use Rattle.sv_types.specs.declared.module.Span.{Span}
use Rattle.sv_types.specs.declared.saved.ModulePlacement.{ModulePlacement}
use Rattle.sv_types.specs.declared.sbi.SbiCode.{SbiCode}
use Rattle.sv_types.specs.declared.sbi.SbiCode.TheVariants.{Success, RefusedByMeasure}
use Rattle.spec_reference.specs.Answers.{with_reply, devices_side_effect, journal_side_effect, pages_side_effect, harts_side_effect, state_after_answer, call, count_answer}
use Rattle.spec_reference.specs.Calls.{Asked, Facts, facts_of, asked_by, extension_of, mask_exists, mask_names, started_hart, hart_at}
use Rattle.spec_reference.specs.Calls.{integer_registers_at_boot, timer_call, ipi_call, start_other, hart_call, reset_call}
use Rattle.spec_reference.specs.Counting.{with_count, with_note, count_load, count_unload, count_refused}
use Rattle.spec_reference.specs.Loads.{is_good_load, decide}
use Rattle.spec_reference.specs.ModuleCalls.{good_address, load_call, load_decision, unload_call, retire_call, module_call, call_answer_by, answer_of}
use Rattle.spec_reference.specs.States.{State, Hart, Devices, Journal, Loading, find_module, has_number}
use Rattle.spec_reference.specs.declared.answers.Answer.{Answer}
use Rattle.spec_reference.specs.declared.answers.SideEffect.{SideEffect}
use Rattle.spec_reference.specs.declared.answers.SideEffect.TheVariants.{SetsTimer, Prints, TakesInput, ShutsDown, SendsInterrupts}
use Rattle.spec_reference.specs.declared.answers.SideEffect.TheVariants.{StartsHart, BeginsLoad, RefusesLoad, ApprovesModule}
use Rattle.spec_reference.specs.declared.answers.SideEffect.TheVariants.{ReleasesModule, UnloadsModule, RefusesUnload, RetiresInit}
use Rattle.spec_reference.specs.declared.answers.SideEffect.TheVariants.{RefusesRetire}
use Rattle.spec_reference.specs.declared.answers.Extension.{Extension}
use Rattle.spec_reference.specs.declared.answers.Reply.{Reply}
use Rattle.spec_reference.specs.declared.answers.Reply.TheVariants.{Gives, Replies, Stays, Stops}
use Rattle.laws_simulation.proofs.AnswersMay.{MayHaveSideEffect, answer_may}
use Rattle.laws_resume.specs.Keepable.{ram_size, IsKeepableHart, AreKeepable, IsKeepableNote, IsKeepableJournal, IsKeepableClock, AreAligned, MayGoOn, IsKeepableLoad, IsKeepableText, IsKeepable}
use Rattle.laws_resume.proofs.KeepableParts.{zero_stays, are_set, are_interrupted, below, load_beside, load_interrupted, load_begun}
use Rattle.laws_resume.proofs.KeepableParts.{journal_noted, journal_ended, clock_set, aligned_with, aligned_without}
use Rattle.laws_resume.proofs.KeepableRequests.{Moving, hart_kept, there, shorter}
use Rattle.laws_simulation.proofs.AttemptsAgree.{get_back}
use Rattle.sv_types.proofs.TruthValues.{and_first, and_second}

-- ---- what a call may begin

-- a load that begins has whole pages of its own addresses, and its hart stays at its call
abbrev pub Begins : Reply → SideEffect → Type 0
Begins reply (BeginsLoad m pages) = (m.va % page_size ≡ 0) × (reply ≡ Stays)
Begins reply (ApprovesModule m) = m.va % page_size ≡ 0
Begins reply _ = Unit {0}

abbrev BeginsWell : Answer → Type 0
BeginsWell a = Begins a.reply a.side_effect

choose_begins : (b : Bool) (x y : Answer) → BeginsWell x → BeginsWell y → BeginsWell (if b then x else y)
choose_begins true x y s t = s
choose_begins false x y s t = t

decide_begins : (b : Bool) (x y : Answer) → (b ≡ true → BeginsWell x) → BeginsWell y → BeginsWell (if b then x else y)
decide_begins true x y s t = s refl
decide_begins false x y s t = t

timer_begins : (ask : Asked) → BeginsWell (timer_call ask)
unfolding timer_call
timer_begins ask = choose_begins (ask.function == 0) _ _ tt tt

ipi_begins : (f : Facts) (ask : Asked) → BeginsWell (ipi_call f ask)
unfolding ipi_call
ipi_begins f ask = choose_begins (not (ask.function == 0)) _ _ tt (choose_begins (mask_exists (length f.started) ask.a0 ask.a1) _ _ tt tt)

start_begins : (f : Facts) (ask : Asked) (x : Option Bool) → BeginsWell (start_other f ask x)
unfolding start_other
start_begins f ask None = tt
start_begins f ask (Some true) = tt
start_begins f ask (Some false) = choose_begins (has_number f.rules.entries ask.a1) _ _ tt tt

hart_begins : (f : Facts) (ask : Asked) → BeginsWell (hart_call f ask)
unfolding hart_call
hart_begins f ask =
    choose_begins (ask.function == 0) _ _ (start_begins f ask (slice_get f.started ask.a0))
    (choose_begins (ask.function == 1) _ _ tt (choose_begins (ask.function == 2) _ _ tt tt))

reset_begins : (ask : Asked) → BeginsWell (reset_call ask)
unfolding reset_call
reset_begins ask = choose_begins (not (ask.function == 0)) _ _ tt (choose_begins (ask.a0 == 0) _ _ tt (choose_begins (nat_le ask.a0 2) _ _ tt tt))

second_aligned : (f : Facts) (gpa va pages : ℕ) → good_address f gpa va pages ≡ true → va % page_size ≡ 0
unfolding good_address
second_aligned f gpa va pages e =
    let first = and_first (gpa % page_size == 0 && va % page_size == 0 && in_ram f.ram gpa (page_size * pages)) (not (list_any f.protected (numbers_from (page_of gpa) pages))) e in
    let both = and_first (gpa % page_size == 0 && va % page_size == 0) (in_ram f.ram gpa (page_size * pages)) first in
    eqb-true (va % page_size) 0 (and_second (gpa % page_size == 0) (va % page_size == 0) both)

load_begins : (f : Facts) (ask : Asked) (x : Option ModuleRule) → BeginsWell (load_call f ask x)
unfolding load_call
load_begins f ask None = tt
load_begins f ask (Some rule) =
    choose_begins f.loads _ _ tt (choose_begins (is_some (find_module f.loaded ask.a0)) _ _ tt
    (decide_begins (good_address f ask.a1 ask.a2 rule.pages) _ _ (λ good. (second_aligned f ask.a1 ask.a2 rule.pages good, refl)) tt))

unload_begins : (f : Facts) (id : ℕ) (x : Option ModulePlacement) → BeginsWell (unload_call f id x)
unfolding unload_call
unload_begins f id None = tt
unload_begins f id (Some m) = choose_begins f.loads _ _ tt tt

retire_begins : (f : Facts) (x : Option Span) → BeginsWell (retire_call f x)
unfolding retire_call
retire_begins f None = tt
retire_begins f (Some span) = choose_begins f.retired _ _ tt tt

module_begins : (f : Facts) (ask : Asked) → BeginsWell (module_call f ask)
unfolding module_call
module_begins f ask =
    choose_begins (ask.function == 0) _ _ (load_begins f ask (slice_get f.rules.modules ask.a0))
    (choose_begins (ask.function == 1) _ _ (unload_begins f ask.a0 (find_module f.loaded ask.a0))
    (choose_begins (ask.function == 2) _ _ (retire_begins f f.rules.init) tt))

answer_begins : (f : Facts) (ask : Asked) (x : Option Extension) → BeginsWell (call_answer_by f ask x)
unfolding call_answer_by
answer_begins f ask (Some Extension.Timer) = timer_begins ask
answer_begins f ask (Some Extension.Interrupt) = ipi_begins f ask
answer_begins f ask (Some Extension.HartState) = hart_begins f ask
answer_begins f ask (Some Extension.Reset) = reset_begins ask
answer_begins f ask (Some Extension.Modules) = module_begins f ask
answer_begins f ask _ = tt

-- ---- the parts after an answer

replied_kept : (size : ℕ) (reply : Reply) (hart : Hart) → IsKeepableHart size hart → IsKeepableHart size (with_reply reply hart)
unfolding with_reply
replied_kept size (Gives a0) hart k = record { zero = zero_stays hart.registers 10 a0 k.zero; reservation = tt }
replied_kept size (Replies a0 a1) hart k =
    record { zero = zero_stays (set_register hart.registers 10 a0) 11 a1 (zero_stays hart.registers 10 a0 k.zero); reservation = tt }
replied_kept size Stays hart k = record { zero = k.zero; reservation = tt }
replied_kept size Stops hart k = record { zero = k.zero; reservation = tt }

begun_kept : (size h pc opaque : ℕ) → IsKeepableHart size (started_hart h pc opaque)
unfolding hart_at
begun_kept size h pc opaque = record {
  zero = zero_stays (set_register integer_registers_at_boot 10 h) 11 opaque (zero_stays integer_registers_at_boot 10 h refl);
  reservation = tt;
}

harts_kept : (size : ℕ) (b : SideEffect) (harts : List Hart) → AreKeepable size harts → AreKeepable size (harts_side_effect b harts)
unfolding harts_side_effect
harts_kept size (SendsInterrupts mask base) harts all = are_interrupted size (mask_names mask base) 0 harts all
harts_kept size (StartsHart other pc opaque) harts all = are_set size harts other (started_hart other pc opaque) all (begun_kept size other pc opaque)
harts_kept size _ harts all = all

same_notes : (how : SbiCode) (c : Counts) → (count_answer how c).notes ≡ c.notes
same_notes Success c = refl
same_notes _ c = refl

abbrev KeptBy : ℕ → Journal → Type 0
KeptBy harts j = IsKeepableJournal harts j.notes j.counts.notes j.verdict

note_kept : (harts : ℕ) (j : Journal) (count : Counts → Counts) (note : Note) → (count j.counts).notes ≡ j.counts.notes → KeptBy harts j → IsKeepableNote harts note
    → KeptBy harts (with_note note (with_count count j))
note_kept harts j count note same k one =
    journal_noted harts j.notes (count j.counts).notes j.verdict note (subst (λ (all : ℕ). IsKeepableJournal harts j.notes all j.verdict) (sym same) k) one

journal_kept : (harts : ℕ) (b : SideEffect) (h : ℕ) (j : Journal) → h < harts → KeptBy harts j → KeptBy harts (journal_side_effect b h j)
unfolding journal_side_effect
journal_kept harts (Prints byte) h j there k = k
journal_kept harts ShutsDown h j there k = journal_ended harts j.notes j.counts.notes j.verdict Shutdown k tt
journal_kept harts (RefusesLoad id how) h j there k = note_kept harts j (count_answer how) (Load h j.counts.turns id how) (same_notes how j.counts) k there
journal_kept harts (ApprovesModule m) h j there k = note_kept harts j count_load (Load h j.counts.turns m.id Success) refl k there
journal_kept harts (ReleasesModule m) h j there k = note_kept harts j count_refused (Load h j.counts.turns m.id RefusedByMeasure) refl k there
journal_kept harts (UnloadsModule m) h j there k = note_kept harts j count_unload (Unload h j.counts.turns m.id Success) refl k there
journal_kept harts (RefusesUnload id how) h j there k = note_kept harts j (count_answer how) (Unload h j.counts.turns id how) (same_notes how j.counts) k there
journal_kept harts (RetiresInit span) h j there k = note_kept harts j (λ c. c) (Retire h j.counts.turns Success) refl k there
journal_kept harts (RefusesRetire how) h j there k = note_kept harts j (count_answer how) (Retire h j.counts.turns how) (same_notes how j.counts) k there
journal_kept harts _ h j there k = k

-- a hart that a call names is there
other_there : (r : State) (other : ℕ) → length r.harts ≡ r.rules.harts → slice_get (facts_of r).started other ≡ Some false → other < r.rules.harts
other_there r other number off =
    let inside : other < length (map (λ (hart : Hart). hart.started) r.harts) = below (map (λ (hart : Hart). hart.started) r.harts) other false off in
    subst (λ (n : ℕ). other < n) (started_length r.harts ∙ number) inside
  where
    started_length : (harts : List Hart) → length (map (λ (hart : Hart). hart.started) harts) ≡ length harts
    started_length [] = refl
    started_length (x ∷ harts) = ap suc (started_length harts)

clock_kept : (r : State) (b : SideEffect) (h : ℕ) → h < r.rules.harts → length r.harts ≡ r.rules.harts → MayHaveSideEffect r b → IsKeepableClock r.rules.harts r.devices.clock
    → IsKeepableClock r.rules.harts (devices_side_effect b h r.devices).clock
unfolding devices_side_effect
clock_kept r (SetsTimer at) h there number may k = clock_set r.rules.harts r.devices.clock h at there k
clock_kept r (StartsHart other pc opaque) h there number may k = clock_set r.rules.harts r.devices.clock other latest (other_there r other number may.0) k
clock_kept r _ h there number may k = k

console_kept : (b : SideEffect) (h : ℕ) (d : Devices) → length d.console ≤ max_queued → length (devices_side_effect b h d).console ≤ max_queued
unfolding devices_side_effect
console_kept TakesInput h d k = shorter d.console k
console_kept _ h d k = k

modules_kept : (r : State) (h : ℕ) (reply : Reply) (b : SideEffect) → Begins reply b → AreAligned r.loaded → AreAligned (pages_side_effect b h r).loaded
unfolding pages_side_effect
modules_kept r h reply (ApprovesModule m) begins all = aligned_with r.loaded m all begins
modules_kept r h reply (UnloadsModule m) begins all = aligned_without r.loaded m.id all
modules_kept r h reply _ begins all = all

-- the load under way after a call of another hart, or with the hart whose load begins
load_begins_at : (r : State) (h : ℕ) (hart : Hart) (reply : Reply) (m : ModulePlacement) (pages : ℕ) → Moving r h hart → hart.started ≡ true → hart.mode ≡ Kernel
    → m.va % page_size ≡ 0 → reply ≡ Stays → MayGoOn (slice_set r.harts h (with_reply reply hart)) (record { hart = h; about = m; left = pages })
unfolding with_reply
load_begins_at r h hart reply m pages moving on kernel aligned stays =
    subst (λ (how : Reply). MayGoOn (slice_set r.harts h (with_reply how hart)) (record { hart = h; about = m; left = pages })) (sym stays)
    (record { hart = with_reply Stays hart; found = get_back r.harts h hart (with_reply Stays hart) moving.found; started = on; mode = kernel; aligned = aligned })

load_kept : (r : State) (h : ℕ) (hart : Hart) (reply : Reply) (b : SideEffect) → Moving r h hart → hart.started ≡ true → hart.mode ≡ Kernel → MayHaveSideEffect r b → Begins reply b
    → IsKeepableLoad (harts_side_effect b (slice_set r.harts h (with_reply reply hart))) (pages_side_effect b h r).loading
unfolding harts_side_effect pages_side_effect
load_kept r h hart reply (BeginsLoad m pages) moving on kernel may begins = load_begins_at r h hart reply m pages moving on kernel begins.0 begins.1
load_kept r h hart reply (ApprovesModule m) moving on kernel may begins = tt
load_kept r h hart reply (ReleasesModule m) moving on kernel may begins = tt
load_kept r h hart reply (SendsInterrupts mask base) moving on kernel may begins =
    load_interrupted (mask_names mask base) (slice_set r.harts h (with_reply reply hart)) r.loading
    (load_beside r.harts h (with_reply reply hart) r.loading moving.free moving.keepable.load)
load_kept r h hart reply (StartsHart other pc opaque) moving on kernel may begins =
    load_begun r.harts (slice_set r.harts h (with_reply reply hart)) other (started_hart other pc opaque) r.loading may.0 moving.keepable.load
    (load_beside r.harts h (with_reply reply hart) r.loading moving.free moving.keepable.load)
load_kept r h hart reply _ moving on kernel may begins = load_beside r.harts h (with_reply reply hart) r.loading moving.free moving.keepable.load

-- ---- each answer

-- pages and modules after an answer, with all the rest set
record_kept : (r : State) (b : SideEffect) (h : ℕ) (harts : List Hart) (d : Devices) (j : Journal) → AreKeepable (ram_size r.rules) harts → KeptBy r.rules.harts j
    → IsKeepableClock r.rules.harts d.clock → length d.console ≤ max_queued → AreAligned (pages_side_effect b h r).loaded → IsKeepableLoad harts (pages_side_effect b h r).loading
    → IsKeepableText r.rules.ram_pages r.text → IsKeepable (record (pages_side_effect b h r) { harts = harts; devices = d; journal = j })
unfolding pages_side_effect
record_kept r (BeginsLoad m pages) h harts d j all journal clock console modules load text =
    record { harts = all; journal = journal; clock = clock; console = console; modules = modules; load = load; text = text }
record_kept r _ h harts d j all journal clock console modules load text =
    record { harts = all; journal = journal; clock = clock; console = console; modules = modules; load = load; text = text }

answered_keeps : (r : State) (h : ℕ) (hart : Hart) (a : Answer) → IsKeepable r → length r.harts ≡ r.rules.harts → h < r.rules.harts → IsKeepableHart (ram_size r.rules) hart
    → MayHaveSideEffect r a.side_effect → Begins a.reply a.side_effect →
    IsKeepableLoad (harts_side_effect a.side_effect (slice_set r.harts h (with_reply a.reply hart))) (pages_side_effect a.side_effect h r).loading
    → IsKeepable (state_after_answer r h hart a)
unfolding state_after_answer
answered_keeps r h hart a k number there one may begins load =
    record_kept r a.side_effect h _ (devices_side_effect a.side_effect h r.devices) (journal_side_effect a.side_effect h r.journal)
    (harts_kept (ram_size r.rules) a.side_effect _ (are_set (ram_size r.rules) r.harts h (with_reply a.reply hart) k.harts (replied_kept (ram_size r.rules) a.reply hart one)))
    (journal_kept r.rules.harts a.side_effect h r.journal there k.journal)
    (clock_kept r a.side_effect h there number may k.clock)
    (console_kept a.side_effect h r.devices k.console)
    (modules_kept r h a.reply a.side_effect begins k.modules) load k.text

pub call_keeps : (r : State) (h : ℕ) (hart : Hart) → Moving r h hart → hart.started ≡ true → hart.mode ≡ Kernel → IsKeepable (call r h hart)
call_keeps r h hart m on kernel =
    let ask : Asked = asked_by hart.registers in
    let a : Answer = answer_of (facts_of r) ask in
    let may = answer_may r ask (extension_of ask.extension) in
    let begins = answer_begins (facts_of r) ask (extension_of ask.extension) in
    answered_keeps r h hart a m.keepable m.sound.number (there m) (hart_kept m) may begins (load_kept r h hart a.reply a.side_effect m on kernel may begins)

-- ---- a load under way

-- the hart whose load it is takes a step
pub record Loads (r : State) (h : ℕ) (hart : Hart) (load : Loading) : Type 0 where
  pub keepable : IsKeepable r
  pub number : length r.harts ≡ r.rules.harts
  pub there : h < r.rules.harts
  pub one : IsKeepableHart (ram_size r.rules) hart
  pub under : r.loading ≡ Some load

loading_is : (r : State) (load : Loading) → r.loading ≡ Some load → IsKeepable r → MayGoOn r.harts load
loading_is r load under k = subst (IsKeepableLoad r.harts) under k.load

decision_by : (r : State) (h : ℕ) (hart : Hart) (load : Loading) (good : Bool) → Loads r h hart load → MayHaveSideEffect r (load_decision good load.about).side_effect
    → IsKeepable (state_after_answer r h hart (load_decision good load.about))
unfolding pages_side_effect
decision_by r h hart load true l may =
    answered_keeps r h hart (load_decision true load.about) l.keepable l.number l.there l.one may (loading_is r load l.under l.keepable).aligned tt
decision_by r h hart load false l may = answered_keeps r h hart (load_decision false load.about) l.keepable l.number l.there l.one may tt tt

pub decision_keeps : (r : State) (h : ℕ) (hart : Hart) (load : Loading) → Loads r h hart load
    → MayHaveSideEffect r (load_decision (is_good_load r.rules r.ram load.about (slice_get r.rules.modules load.about.id)) load.about).side_effect → IsKeepable (decide r h hart load.about)
unfolding decide
decision_keeps r h hart load l may = decision_by r h hart load (is_good_load r.rules r.ram load.about (slice_get r.rules.modules load.about.id)) l may

-- a page turn
pub page_turn_keeps : (r : State) (load : Loading) (left : ℕ) → IsKeepable r → r.loading ≡ Some load → IsKeepable (record r { loading = Some (record load { left = left }) })
page_turn_keeps r load left k under =
    let goes = loading_is r load under k in
    record {
      harts = k.harts;
      journal = k.journal;
      clock = k.clock;
      console = k.console;
      modules = k.modules;
      load = record { hart = goes.hart; found = goes.found; started = goes.started; mode = goes.mode; aligned = goes.aligned };
      text = k.text;
    }
