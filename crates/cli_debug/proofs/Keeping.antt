-- What is kept of a run, and a machine that goes on from there.
use Rattle.std.proofs.Common.{◌≡◌, ℕ, ◌^◌, ◌<◌, ◌≤◌, List, [], length, take, refl, sym, ◌∙◌, ap, subst, arith, Result, Ok, Err, IfOk, true}
use Rattle.std.proofs.lemmas.List.{append-nil}
use Rattle.sv_types.specs.Limits.{max_events}
use Rattle.sv_types.specs.Policies.{Rules}
use Rattle.sv_types.specs.Schedule.{Listed, first_events}
use Rattle.sv_types.specs.declared.event.Counts.{Counts}
use Rattle.sv_types.specs.declared.event.Event.{Event}
use Rattle.spec_reference.specs.Counting.{CountsAtMost}
use Rattle.spec_reference.specs.Run.{run}
use Rattle.spec_reference.specs.Start.{IsStart, boot_start}
use Rattle.spec_reference.specs.States.{Journal, State}
use Rattle.spec_hardware.specs.Machine.{Machine}
use Rattle.spec_hardware.specs.Reaches.{IsNew}
use Rattle.script.proofs.FirstEvents.{first_listed}
use Rattle.snapshot_format.specs.Snapshots.{Contents, contents, snapshot, snapshot_read}
use Rattle.snapshot_format.specs.ResumedStates.{resumed_state}
use Rattle.snapshot_format.specs.declared.whole.Snapshot.{Snapshot}
use Rattle.snapshot_format.specs.declared.whole.TextPage.{TextPage}
use Rattle.laws_resume.specs.Continues.{Alike, draw_count}
use Rattle.laws_resume.specs.EventCounts.{events_counted}
use Rattle.laws_resume.specs.Resumed.{KeepsDigests}
use Rattle.laws_resume.specs.SnapLaws.{IsSnapshotOf}
use Rattle.laws_resume.specs.TextPages.{digested_text}
use Rattle.laws_resume.proofs.BootDigests.{block_boot}
use Rattle.laws_resume.proofs.EventsCounted.{counted_law}
use Rattle.laws_resume.proofs.SnapHolds.{good_at, nothing_printed}
use Rattle.machine.proofs.Repeated.{counts_within}
use Rattle.machine.proofs.Standing.{stands_new}
use Rattle.cli_snap.specs.Encoding.{EncodesMachine, IsMachineSnapshot}
use Rattle.cli_snap.proofs.CountLemmas.{counted_by_events}
use Rattle.cli_snap.proofs.FileHolds.{block_begins, snap_file_law}
use Rattle.cli_snap.proofs.RunLemmas.{counts_are, none_counted}
use Rattle.cli_debug.specs.Debugged.{StandsIn}
use Rattle.cli_debug.specs.Keeping.{GoesOnFrom, IsKept, IsMeasuredStart}
use Rattle.cli_debug.specs.declared.target.kept.Kept.{Kept}
use Rattle.cli_debug.proofs.AlikeStates.{console_printed, saved_alike}

-- ---- what is kept

nothing_counted : (start : State) → IsMeasuredStart start → events_counted start.journal.counts ≡ 0
nothing_counted start k =
    ap (λ (s : State). events_counted s.journal.counts) k.same
    ∙ none_counted (boot_start k.rules k.file k.disk).journal.counts (block_begins.counts k.rules k.file k.disk)

-- the events that a machine has counted are those that were made
counted_are : (m : Machine) (console : List ℕ) (start : State) (events : List Event) → IsMeasuredStart start → StandsIn m console (run start events) →
    events_counted m.journal.counts ≡ draw_count start events
counted_are m console start events k s =
    let here : events_counted m.journal.counts ≡ events_counted s.like.journal.counts = counts_are m s.like s.here.stands in
    let like : events_counted s.like.journal.counts ≡ events_counted (run start events).journal.counts = ap (λ (x : State). events_counted x.journal.counts) s.alike.rest in
    let all = counted_law start events in
    let none = nothing_counted start k in
    omega (arith, here, like, all, none)

snapshot_of : (m : Machine) (console : List ℕ) (text : List TextPage) (start : State) (events : List Event) (s : Snapshot) → IsMeasuredStart start → text ≡ digested_text start →
    StandsIn m console (run start events) → IsMachineSnapshot m text s → IsSnapshotOf start events s
snapshot_of m console text start events s k text_is at it = record {
  state = saved_alike at.front (run start events) at.like s.«machine» at.alike (it.state at.like at.here.stands);
  made = it.made ∙ counted_are m console start events k at;
  text = it.text_is ∙ text_is;
  typed = it.typed;
  port = it.port;
}

-- the state that a machine is in after n events
pub kept_of : (kept : Kept) (m : Machine) (console : List ℕ) (text : List TextPage) (start : State) (events : List Event) (n : ℕ) → IsMeasuredStart start → text ≡ digested_text start →
    m.journal.printed ≡ [] → StandsIn m console (run start (take n events)) → n ≤ length events → kept.made ≡ n → kept.console.items ≡ console → EncodesMachine m text kept.bytes.items →
    IsKept start events kept
kept_of kept m console text start events n k text_is none at within made console_is encodes = record {
  within = subst (λ (i : ℕ). i ≤ length events) (sym made) within;
  it = encodes.it;
  snapshot_is = subst (λ (i : ℕ). IsSnapshotOf start (take i events) encodes.it) (sym made) (snapshot_of m console text start (take n events) encodes.it k text_is at encodes.snapshot_is);
  bytes_are = encodes.bytes_are;
  console_is = console_is ∙ console_printed m console (run start (take n events)) at none ∙ ap (λ (i : ℕ). (run start (take i events)).journal.printed) (sym made);
}

-- no count of so many events is too large
pub few_counted : (n : ℕ) (counts : Counts) → CountsAtMost n counts → n ≤ max_events → events_counted counts < 2 ^ 64
few_counted n counts most few = omega (arith, most.turns, most.beats, most.keys, most.ticks, few)

-- ---- a machine that goes on

-- the bytes are read again as they were
reads_again : (start : State) (events : List Event) (kept : Kept) → IsMeasuredStart start → length events ≤ max_events → (k : IsKept start events kept) →
    snapshot_read kept.bytes.items ≡ Ok (contents k.it)
reads_again start events kept m few k =
    let boot = boot_start m.rules m.file m.disk in
    let within : kept.made ≤ length events = k.within in
    let listed : first_events kept.made (Listed events) ≡ take kept.made events = first_listed kept.made events in
    let snap : IsSnapshotOf boot (first_events kept.made (Listed events)) k.it =
    subst (λ (es : List Event). IsSnapshotOf boot es k.it) (sym listed) (subst (λ (s : State). IsSnapshotOf s (take kept.made events) k.it) m.same k.snapshot_is) in
    ap snapshot_read k.bytes_are
    ∙ snap_file_law boot_start block_boot block_begins m.rules m.file m.disk (Listed events) kept.made k.it m.measured m.disk_is (omega (arith, within, few)) snap

is_start : (start : State) → IsMeasuredStart start → IsStart start
is_start start m = subst IsStart (sym m.same) (block_boot.starts m.rules m.file m.disk m.measured)

has_digests : (start : State) → IsMeasuredStart start → KeepsDigests start (digested_text start)
has_digests start m = subst (λ (s : State). KeepsDigests s (digested_text s)) (sym m.same) (block_boot.digests m.rules m.file m.disk m.measured)

alike_again : (start : State) (events : List Event) (s : Snapshot) → IsMeasuredStart start → IsSnapshotOf start events s →
    Alike (run start events).journal.printed (run start events) (resumed_state start.rules (contents s))
alike_again start events s m snap =
    (good_at start start.rules events s (is_start start m) refl (subst (KeepsDigests start) (sym snap.text) (has_digests start m)) snap.state).alike

pub kept_stands : (start : State) (events : List Event) (kept : Kept) (m : Machine) → IsMeasuredStart start → length events ≤ max_events → IsKept start events kept →
    GoesOnFrom start.rules kept.made kept.bytes.items m → StandsIn m kept.console.items (run start (take kept.made events))
kept_stands start events kept m k few is on =
    let r = run start (take kept.made events) in
    let like = resumed_state start.rules (contents is.it) in
    record {
      front = r.journal.printed;
      rest = [];
      like = like;
      alike = alike_again start (take kept.made events) is.it k is.snapshot_is;
      here = stands_new m like (on.new (contents is.it) (reads_again start events kept k few is));
      console_is = is.console_is ∙ sym (append-nil r.journal.printed);
    }

same_contents : {E : Type 0} {a b : Contents} → ◌≡◌ {A = Result Contents E} (Ok a) (Ok b) → a ≡ b
same_contents is = cc is

counts_of : (rules : Rules) (s : Contents) (n : ℕ) → CountsAtMost n s.counts → CountsAtMost n (resumed_state rules s).journal.counts
unfolding resumed_state
counts_of rules s n most = most

-- a machine of the snapshot that the bytes are
pub goes_on : {E : Type 0} (rules : Rules) (made : ℕ) (bytes : List ℕ) (s : Snapshot) (result : Result Machine E) → snapshot.has (contents s) ≡ true → snapshot_read bytes ≡ Ok (contents s) →
    s.events ≤ made → IfOk result (λ m. IsNew m (resumed_state rules (contents s))) → IfOk result (λ m. m.journal ≡ (resumed_state rules (contents s)).journal) →
    IfOk result (GoesOnFrom rules made bytes)
goes_on rules made bytes s (Ok m) has read few new same = record {
  new = λ c is. subst (λ (x : Contents). IsNew m (resumed_state rules x)) (same_contents (sym read ∙ is)) new;
  none = ap (λ (j : Journal). j.printed) same ∙ nothing_printed rules (contents s);
  counts = subst (λ (j : Journal). CountsAtMost made j.counts) (sym same)
      (counts_of rules (contents s) made (counts_within s.events made (contents s).counts few (counted_by_events (contents s) has)));
}
goes_on rules made bytes s (Err e) has read few new same = tt

-- what is kept, by where it was read
pub returned : (kept : Kept) (m : Machine) (console : List ℕ) (made : ℕ) (start : State) (events : List Event) → made ≡ kept.made → console ≡ kept.console.items →
    StandsIn m kept.console.items (run start (take kept.made events)) → StandsIn m console (run start (take made events))
returned kept m console made start events at printed s =
    subst (λ (n : ℕ). StandsIn m console (run start (take n events))) (sym at) (subst (λ (xs : List ℕ). StandsIn m xs (run start (take kept.made events))) (sym printed) s)
