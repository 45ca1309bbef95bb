-- Beats, pokes, keys and ticks: the machine after one stands for the state after it, and nothing else changed.
use Rattle.laws_simulation.proofs.Stays.{length_map}
use Rattle.std.proofs.Common.{◌≡◌, ℕ, ◌+◌, ◌%◌, ◌<◌, ◌≤◌, List, length, map, refl, sym, ◌∙◌, ap, subst, Bool, true, false, not, arith, slice_get}
use Rattle.std.specs.Prelude.{Option, Some, None, option_map, if◌then◌else◌}
use Rattle.std.proofs.lemmas.Bool.Decides.{nat_tests}
use Rattle.std.proofs.lemmas.Option.{slice_get-map}
use Rattle.spec_processor.specs.Bytes.{overwrite, in_ram, page_of, ram_offset, page_size}
use Rattle.sv_types.specs.Clock.{after_tick}
use Rattle.sv_types.specs.Console.{after_key, has_room}
use Rattle.spec_processor.specs.Regions.{IsRegion}
use Rattle.sv_types.specs.Views.{with_ram}
use Rattle.sv_types.specs.declared.event.Counts.{Counts}
use Rattle.sv_types.specs.declared.event.Event.{Event}
use Rattle.sv_types.specs.declared.event.Event.TheVariants.{Turn, Beat, Key, Tick, Poke}
use Rattle.laws_processor.proofs.ByteLemmas.{length_overwrite}
use Rattle.sv_types.specs.declared.event.Note.TheVariants.{Denied}
use Rattle.sv_types.specs.declared.event.Verdict.{Verdict}
use Rattle.sv_types.specs.declared.event.Verdict.TheVariants.{Running}
use Rattle.spec_reference.specs.States.{State, Disk, Journal, protection_in, is_protected, is_approved_in, has_number, protections_of}
use Rattle.spec_reference.specs.Counting.{count, with_count, count_beat, count_key, count_tick, count_dropped, with_note, count_denied}
use Rattle.spec_reference.specs.Attacker.{poke_move}
use Rattle.spec_reference.specs.Disk.{disk_beat, DmaStep}
use Rattle.spec_reference.specs.Move.{Move, Idle, FromRam, IntoRam, DeniedAt, OutsideRam}
use Rattle.spec_reference.specs.Devices.{beat, poke, key, tick, after_move, with_bytes, with_disk, hart_after_write}
use Rattle.sv_types.specs.Protections.{is_free}
use Rattle.spec_hardware.specs.Machine.{Machine, with_count_raised}
use Rattle.spec_hardware.specs.HardwareEvent.{with_records, with_bytes_at, Written, IsPermitted, OnlyDisk, OnlyBytes, IsEvent, Happens, HappensUnder}
use Rattle.spec_hardware.specs.HwEvents.{with_hw_disk, beat_served, poke_served, key_served, tick_served, event_served}
use Rattle.spec_reference.specs.Run.{step, happen}
use Rattle.spec_hardware.specs.StandsFor.{Unseen, IsRightFor, StandsFor, machine_of, without_printed}
use Rattle.spec_reference.specs.Soundness.{IsSound}
use Rattle.laws_simulation.proofs.BeatsAgree.{beat_agrees, poke_agrees, free_by, page_of_beat}
use Rattle.laws_simulation.proofs.HwOfSlots.{hw_harts_forget}
use Rattle.laws_simulation.proofs.Sounds.{bytes_keep_load}
use Rattle.laws_simulation.proofs.BeatsSound.{IsFreeBeat, FreeMove, beat_page, beat_sound, free_with_disk, poke_sound}
use Rattle.laws_simulation.proofs.StepsSound.{counted_sound, step_goes}
use Rattle.laws_simulation.proofs.EntriesHold.{runs_on}
use Rattle.laws_simulation.proofs.ViewsMeet.{get_numbers}

-- ---- what is open stays so

region_kept : (tables ram bytes : List ℕ) (place : ℕ) → place + length bytes ≤ length ram → IsRegion (with_ram tables ram) → IsRegion (with_ram tables (overwrite ram place bytes))
region_kept tables ram bytes place inside p =
    let same : length (overwrite ram place bytes) ≡ length ram = length_overwrite ram bytes place inside in
    record { tables = p.tables; ram = rw same p.ram; most = rw same p.most; small = rw same p.small }

open_moved : (o : Unseen) (r : State) (x : Move) → IsRightFor o r → FreeMove r x → IsRightFor o (after_move r x)
unfolding after_move with_bytes
open_moved o r Idle p free = p
open_moved o r (FromRam gpa) p free = p
open_moved o r (IntoRam gpa bytes) p free = record {
  views = p.views;
  region = region_kept o.tables r.ram bytes (ram_offset gpa) (beat_page r gpa bytes free).inside p.region;
  exits = p.exits ∙ sym (length_map (hart_after_write (ram_offset gpa) (length bytes)) r.harts);
  cleared = p.cleared;
}
open_moved o r (DeniedAt gpa) p free = record { views = p.views; region = p.region; exits = p.exits; cleared = p.cleared }
open_moved o r OutsideRam p free = p

open_beat : (o : Unseen) (r : State) → IsRightFor o r → IsSound r → IsRightFor o (beat r)
unfolding beat
open_beat o r p s =
    let b : DmaStep = disk_beat r.devices.disk r.ram (λ page. not (is_protected r page)) in
    open_moved o (with_disk r b.disk) b.move (record { views = p.views; region = p.region; exits = p.exits; cleared = p.cleared })
    (free_with_disk r b.disk b.move (beat_sound r s).move)

open_poke : (o : Unseen) (r : State) (gpa value : ℕ) → IsRightFor o r → IsRightFor o (poke r gpa value)
unfolding poke
open_poke o r gpa value p = open_moved o r (poke_move r.ram (λ page. not (is_protected r page)) gpa value) p (poke_sound r gpa value)

open_key : (o : Unseen) (r : State) (byte : ℕ) (room : Bool) → IsRightFor o r → o.cleared ≤ length (if room then r.journal else with_count count_dropped r.journal).printed
open_key o r byte true p = p.cleared
open_key o r byte false p = p.cleared

open_key_event : (o : Unseen) (r : State) (byte : ℕ) → IsRightFor o r → IsRightFor o (key (count r count_key) byte)
unfolding key
open_key_event o r byte p = record {
  views = p.views;
  region = p.region;
  exits = p.exits;
  cleared = open_key o (count r count_key) byte (has_room r.devices.console)
      (record { views = p.views; region = p.region; exits = p.exits; cleared = p.cleared });
}

open_tick_event : (o : Unseen) (r : State) (n : ℕ) → IsRightFor o r → IsRightFor o (tick (count r count_tick) n)
unfolding tick
open_tick_event o r n p = record { views = p.views; region = p.region; exits = p.exits; cleared = p.cleared }

-- ---- what a beat or a poke changes

permits : (r : State) (page : ℕ) → page < r.rules.ram_pages → not (is_protected r page) ≡ true → slice_get (map is_free (protections_of r)) page ≡ Some true
unfolding protection_in is_protected
permits r page below free =
    let first : 0 + page ≡ page = omega arith in
    slice_get-map is_free (protections_of r) page ∙ ap (option_map is_free) (get_numbers (protection_in r.approved r.held) 0 r.rules.ram_pages page below
    ∙ ap (λ (k : ℕ). Some (protection_in r.approved r.held k)) first)
    ∙ ap Some (free_by (is_approved_in r.approved page) (has_number r.held page) ∙ free)

in_one_page : (p n size : ℕ) → n ≤ size → p % page_size + size ≤ page_size → p % page_size + n ≤ page_size
in_one_page p n size short fits = omega (arith, short, fits)

fewer_inside : (ram : List ℕ) (gpa n size : ℕ) → n ≤ size → in_ram ram gpa size ≡ true → in_ram ram gpa n ≡ true
fewer_inside ram gpa n size short inside = grind (arith, nat_tests)

beat_permitted : (o : Unseen) (r : State) (gpa : ℕ) (bytes : List ℕ) → IsSound r → IsFreeBeat r gpa bytes → IsPermitted (machine_of o r) (Some (record { gpa = gpa; bytes = bytes }))
unfolding machine_of
beat_permitted o r gpa bytes s k = record {
  inside = fewer_inside r.ram gpa (length bytes) k.size k.short k.inside;
  one_page = in_one_page (ram_offset gpa) (length bytes) k.size k.short k.one_page;
  permitted = permits r (page_of gpa) (page_of_beat r.ram gpa k.size r.rules.ram_pages s.size k.some k.inside) k.free;
}

moved_frame : (o : Unseen) (r : State) (f : Counts → Counts) (x : Move) → IsSound r → FreeMove r x → OnlyBytes (machine_of o r) (machine_of o (after_move (count r f) x))
unfolding machine_of after_move with_bytes
moved_frame o r f Idle s free =
    record { bytes = None; new = record { counts = f r.journal.counts; notes = r.journal.notes }; permitted = tt; same = refl }
moved_frame o r f (FromRam gpa) s free =
    record { bytes = None; new = record { counts = f r.journal.counts; notes = r.journal.notes }; permitted = tt; same = refl }
moved_frame o r f (IntoRam gpa bytes) s free = record {
  bytes = Some (record { gpa = gpa; bytes = bytes });
  new = record { counts = f r.journal.counts; notes = r.journal.notes };
  permitted = beat_permitted o r gpa bytes s free;
  same = rw (hw_harts_forget (length o.tables) o.exits r.harts (ram_offset gpa) (length bytes), bytes_keep_load r (ram_offset gpa) bytes s (beat_page r gpa bytes free)) refl;
}
moved_frame o r f (DeniedAt gpa) s free =
    let j : Journal = with_note (Denied gpa) (with_count count_denied (with_count f r.journal)) in
    record { bytes = None; new = record { counts = j.counts; notes = j.notes }; permitted = tt; same = refl }
moved_frame o r f OutsideRam s free =
    record { bytes = None; new = record { counts = f r.journal.counts; notes = r.journal.notes }; permitted = tt; same = refl }

-- the disk and what moves are apart
moved_beside_disk : (o : Unseen) (r : State) (disk : Disk) (x : Move)
    → machine_of o (after_move (with_disk r disk) x) ≡ with_hw_disk (machine_of o (after_move r x)) disk
unfolding machine_of after_move with_bytes
moved_beside_disk o r disk Idle = refl
moved_beside_disk o r disk (FromRam gpa) = refl
moved_beside_disk o r disk (IntoRam gpa bytes) = refl
moved_beside_disk o r disk (DeniedAt gpa) = refl
moved_beside_disk o r disk OutsideRam = refl

count_unprotected : (r : State) (f : Counts → Counts) (page : ℕ) → not (is_protected (count r f) page) ≡ true → not (is_protected r page) ≡ true
unfolding is_protected
count_unprotected r f page e = e

count_free : (r : State) (f : Counts → Counts) (x : Move) → FreeMove (count r f) x → FreeMove r x
count_free r f Idle free = tt
count_free r f (FromRam gpa) free = tt
count_free r f (IntoRam gpa bytes) free = record {
  size = free.size;
  some = free.some;
  short = free.short;
  one_page = free.one_page;
  inside = free.inside;
  free = count_unprotected r f (page_of gpa) free.free;
}
count_free r f (DeniedAt gpa) free = tt
count_free r f OutsideRam free = tt

-- with the disk that a beat leaves
disk_frame : (before after : Machine) (disk : Disk) → OnlyBytes before after → OnlyDisk before (with_hw_disk after disk)
disk_frame before after disk k = record {
  disk = disk;
  bytes = k.bytes;
  new = k.new;
  permitted = k.permitted;
  same = ap (λ (m : Machine). with_hw_disk m disk) k.same ∙ devices_stay before k.bytes;
}
  where
    devices_stay : (m : Machine) (bytes : Option Written) → with_hw_disk (with_records (with_bytes_at m bytes) k.new) disk
        ≡ with_records (record (with_bytes_at m bytes) { devices = record m.devices { disk = disk } }) k.new
    devices_stay m None = refl
    devices_stay m (Some w) = refl

beat_frame : (o : Unseen) (r : State) (f : Counts → Counts) → IsSound r → IsSound (count r f) → OnlyDisk (machine_of o r) (machine_of o (beat (count r f)))
unfolding beat
beat_frame o r f s t =
    let b : DmaStep = disk_beat r.devices.disk r.ram (λ page. not (is_protected (count r f) page)) in
    subst (OnlyDisk (machine_of o r)) (sym (moved_beside_disk o (count r f) b.disk b.move))
    (disk_frame (machine_of o r) (machine_of o (after_move (count r f) b.move)) b.disk
    (moved_frame o r f b.move s (count_free r f b.move (beat_sound (count r f) t).move)))

poke_frame : (o : Unseen) (r : State) (f : Counts → Counts) (gpa value : ℕ) → IsSound r → OnlyBytes (machine_of o r) (machine_of o (poke (count r f) gpa value))
unfolding poke
poke_frame o r f gpa value s =
    let x : Move = poke_move r.ram (λ page. not (is_protected (count r f) page)) gpa value in
    moved_frame o r f x s (count_free r f x (poke_sound (count r f) gpa value))

-- ---- keys and time

-- a key changes counts alone alongside the queue
key_frame : (o : Unseen) (r : State) (byte : ℕ) (room : Bool)
    → record (machine_of o r) {
      devices = record r.devices { console = after_key r.devices.console byte };
      journal = without_printed o.cleared (if room then with_count count_key r.journal else with_count count_dropped (with_count count_key r.journal));
    }
    ≡ with_records (record (machine_of o r) { devices = record r.devices { console = after_key r.devices.console byte } }) (record {
      counts = (if room then with_count count_key r.journal else with_count count_dropped (with_count count_key r.journal)).counts;
      notes = (if room then with_count count_key r.journal else with_count count_dropped (with_count count_key r.journal)).notes;
    })
unfolding machine_of
key_frame o r byte true = refl
key_frame o r byte false = refl

key_same : (o : Unseen) (r : State) (byte : ℕ) → key_served (with_count_raised (machine_of o r) count_key) byte ≡ machine_of o (key (count r count_key) byte)
unfolding key_served key machine_of
key_same o r byte = choice (has_room r.devices.console)
  where
    choice : (room : Bool) → record (machine_of o r) {
      devices = record r.devices { console = after_key r.devices.console byte };
      journal = if room then with_count count_key (without_printed o.cleared r.journal) else with_count count_dropped (with_count count_key (without_printed o.cleared r.journal));
    } ≡ record (machine_of o r) {
      devices = record r.devices { console = after_key r.devices.console byte };
      journal = without_printed o.cleared (if room then with_count count_key r.journal else with_count count_dropped (with_count count_key r.journal));
    }
    choice true = refl
    choice false = refl

key_event : (o : Unseen) (r : State) (byte : ℕ) → Happens (machine_of o r) (Key byte) (machine_of o (key (count r count_key) byte))
unfolding key machine_of
key_event o r byte =
    let room : Bool = has_room r.devices.console in
    let j : Journal = if room then with_count count_key r.journal else with_count count_dropped (with_count count_key r.journal) in
    record { console = after_key r.devices.console byte; new = record { counts = j.counts; notes = j.notes }; same = key_frame o r byte room }

tick_same : (o : Unseen) (r : State) (n : ℕ) → tick_served (with_count_raised (machine_of o r) count_tick) n ≡ machine_of o (tick (count r count_tick) n)
unfolding tick_served tick machine_of
tick_same o r n = refl

tick_event : (o : Unseen) (r : State) (n : ℕ) → Happens (machine_of o r) (Tick n) (machine_of o (tick (count r count_tick) n))
unfolding tick machine_of
tick_event o r n = record {
  time = (after_tick r.devices.clock n).time;
  new = record { counts = count_tick r.journal.counts; notes = r.journal.notes };
  same = refl;
}

-- ---- the events that are no turn

abbrev pub IsNoTurn : Event → Type 0
IsNoTurn (Turn h) = ⊥
IsNoTurn Beat = Unit {0}
IsNoTurn (Key byte) = Unit {0}
IsNoTurn (Tick n) = Unit {0}
IsNoTurn (Poke gpa value) = Unit {0}

raised_same : (o : Unseen) (r : State) (f : Counts → Counts) → with_count_raised (machine_of o r) f ≡ machine_of o (count r f)
unfolding machine_of
raised_same o r f = refl

-- what is known of the machine after an event
record Follows (o : Unseen) (r : State) (e : Event) (after : State) : Type 0 where
  same : event_served (machine_of o r) e ≡ machine_of o after
  right : IsRightFor o after
  frame : Happens (machine_of o r) e (machine_of o after)

follows : (o : Unseen) (r : State) (e : Event) → IsRightFor o r → IsSound r → IsNoTurn e → Follows o r e (happen r e)
unfolding event_served happen
follows o r (Turn h) p s no_turn = absurd no_turn
follows o r Beat p s no_turn =
    let t : IsSound (count r count_beat) = (counted_sound r count_beat s).sound in
    let p2 : IsRightFor o (count r count_beat) = record { views = p.views; region = p.region; exits = p.exits; cleared = p.cleared } in
    record {
      same = ap beat_served (raised_same o r count_beat) ∙ beat_agrees o (count r count_beat) t;
      right = open_beat o (count r count_beat) p2 t;
      frame = beat_frame o r count_beat s t;
    }
follows o r (Key byte) p s no_turn = record {
  same = key_same o r byte;
  right = open_key_event o r byte p;
  frame = key_event o r byte;
}
follows o r (Tick n) p s no_turn = record { same = tick_same o r n; right = open_tick_event o r n p; frame = tick_event o r n }
follows o r (Poke gpa value) p s no_turn = record {
  same = ap (λ (m : Machine). poke_served m gpa value) (raised_same o r count_beat) ∙ poke_agrees o (count r count_beat) gpa value (counted_sound r count_beat s).sound;
  right = open_poke o (count r count_beat) gpa value (record { views = p.views; region = p.region; exits = p.exits; cleared = p.cleared });
  frame = poke_frame o r count_beat gpa value s;
}

event_under : (m after : Machine) (e : Event) → m.journal.verdict ≡ Running → Happens m e after → IsEvent m e after
unfolding IsEvent
event_under m after e on happens = subst (λ (v : Verdict). HappensUnder v m e after) (sym on) happens

pub verdict_of : (o : Unseen) (r : State) → (machine_of o r).journal.verdict ≡ r.journal.verdict
unfolding machine_of
verdict_of o r = refl

-- a beat, a poke, a key or a tick of a machine that runs: it stands for the state after the event, and no more was changed
pub event_law : (m : Machine) (r : State) (e : Event) → StandsFor m r → r.journal.verdict ≡ Running → IsNoTurn e
    → StandsFor (event_served m e) (step r e) × IsEvent m e (event_served m e)
event_law m r e stands on no_turn =
    let o : Unseen = stands.unseen in
    let k : Follows o r e (happen r e) = follows o r e stands.unseen_is_right stands.sound no_turn in
    let same : event_served m e ≡ machine_of o (happen r e) = ap (λ (x : Machine). event_served x e) stands.same ∙ k.same in (
      subst (StandsFor (event_served m e)) (sym (runs_on r e on)) (record {
        unseen = o;
        same = same;
        unseen_is_right = k.right;
        sound = subst IsSound (runs_on r e on) (step_goes r e stands.sound).sound;
      }),
      event_under m (event_served m e) e (ap (λ (x : Machine). x.journal.verdict) stands.same ∙ verdict_of o r ∙ on)
          (subst (λ (x : Machine). Happens x e (event_served m e)) (sym stands.same) (subst (Happens (machine_of o r) e) (sym same) k.frame)),
    )
