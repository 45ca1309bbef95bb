-- The counts of a snapshot are no more than its events.
use Rattle.std.proofs.Common.{◌≡◌, ℕ, ◌^◌, ◌≤◌, true}
use Rattle.std.specs.Prelude.{nat_le}
use Rattle.sv_types.specs.Limits.{max_events}
use Rattle.sv_types.specs.declared.event.Counts.{Counts}
use Rattle.spec_reference.specs.Counting.{CountsAtMost}
use Rattle.snapshot_format.specs.DeviceForms.{devices}
use Rattle.snapshot_format.specs.Forms.{is_word}
use Rattle.snapshot_format.specs.HartForms.{harts}
use Rattle.snapshot_format.specs.JournalForms.{count, event_counts, hart_counts, rule_counts, counts, journal}
use Rattle.snapshot_format.specs.PageForms.{pages, gate}
use Rattle.snapshot_format.specs.Snapshots.{Contents, magic_form, events_made, header, body, whole_header, whole_body, snapshot}
use Rattle.snapshot_format.proofs.FormLaws.{first_true, second_true}
use Rattle.laws_resume.proofs.FormParts.{max_is}
use Rattle.machine.proofs.Repeated.{counts_within}

count_is : (events n : ℕ) → (count events).has n ≡ true → n ≤ events
unfolding count
count_is events n h = max_is n events (second_true (is_word n) (nat_le n events) h)

counts_are : (events : ℕ) (c : Counts) → (counts events).has c ≡ true → CountsAtMost events c
unfolding counts event_counts hart_counts rule_counts
counts_are events c h =
    let e1 = first_true _ _ h in
    let e2 = second_true _ _ e1 in
    let e3 = second_true _ _ e2 in
    let rest = second_true _ _ h in
    let h1 = first_true _ _ rest in
    let h2 = second_true _ _ h1 in
    let h3 = second_true _ _ h2 in
    let h4 = second_true _ _ h3 in
    let r1 = second_true _ _ rest in
    let r2 = second_true _ _ r1 in
    let r3 = second_true _ _ r2 in
    let r4 = second_true _ _ r3 in
    let r5 = second_true _ _ r4 in
    record {
      turns = count_is events c.turns (first_true _ _ e1);
      beats = count_is events c.beats (first_true _ _ e2);
      keys = count_is events c.keys (first_true _ _ e3);
      ticks = count_is events c.ticks (second_true _ _ e3);
      retired = count_is events c.retired (first_true _ _ h1);
      traps = count_is events c.traps (first_true _ _ h2);
      enters = count_is events c.enters (first_true _ _ h3);
      leaves = count_is events c.leaves (first_true _ _ h4);
      demotes = count_is events c.demotes (second_true _ _ h4);
      denied = count_is events c.denied (first_true _ _ r1);
      dropped = count_is events c.dropped (first_true _ _ r2);
      loads = count_is events c.loads (first_true _ _ r3);
      unloads = count_is events c.unloads (first_true _ _ r4);
      refused = count_is events c.refused (first_true _ _ r5);
      notes = count_is events c.notes (second_true _ _ r5);
    }

-- no count of a snapshot is above its events, nor these above the most
counted_events : (s : Contents) → snapshot.has s ≡ true → (s.events ≤ max_events) × CountsAtMost s.events s.counts
unfolding snapshot header body pages gate devices journal
counted_events s h =
    let h0 = whole_header s in
    let b = whole_body s in
    let head = first_true (header.has h0) ((body h0).has b) h in
    let events = first_true (events_made.has h0.events) _ (second_true (magic_form.has h0.kind) _ head) in
    let few = max_is h0.events max_events (second_true (is_word h0.events) (nat_le h0.events max_events) events) in
    let whole = second_true (header.has h0) ((body h0).has b) h in
    let behind = second_true ((harts h0.ram_pages h0.harts).has b.0) _ whole in
    let after_pages = second_true ((pages h0.ram_pages).has b.1.0) _ behind in
    let after_gate = second_true ((gate b.0).has b.1.1.0) _ after_pages in
    let after_devices = second_true ((devices h0.kind).has b.1.1.1.0) _ after_gate in
    let journal_parts = first_true ((journal h0.events h0.harts).has b.1.1.1.1.0) _ after_devices in
    (few, counts_are s.events s.counts (first_true ((counts h0.events).has s.counts) _ journal_parts))

pub counted_by_events : (s : Contents) → snapshot.has s ≡ true → CountsAtMost s.events s.counts
counted_by_events s h = (counted_events s h).1

pub counted : (s : Contents) → snapshot.has s ≡ true → CountsAtMost max_events s.counts
counted s h = let it = counted_events s h in counts_within s.events (2 ^ 32) s.counts it.0 it.1
