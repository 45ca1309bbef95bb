-- The forms of what a machine recorded: its counts, notes and verdict. This project's own.
use Rattle.std.specs.Prelude.{ℕ, List, [], ◌∷◌, min, Bool, false, ◌||◌, nat_lt, nat_le, ◌==◌, if◌then◌else◌}
use Rattle.spec_processor.specs.Bytes.{instruction_size}
use Rattle.sv_types.specs.Limits.{max_notes}
use Rattle.snapshot_format.specs.Forms.{Form, number, nothing, within, and_then, ◌⨾◌, map_form, always, counted_list}
use Rattle.snapshot_format.specs.HartForms.{multiple_of}
use Rattle.sv_types.specs.Policies.{is_between}
use Rattle.sv_types.specs.SbiCodes.{code_word}
use Rattle.sv_types.specs.declared.sbi.SbiCode.{SbiCode}
use Rattle.sv_types.specs.declared.event.Counts.{Counts}
use Rattle.sv_types.specs.declared.event.Note.{Note}
use Rattle.sv_types.specs.declared.event.Rule.{Rule}
use Rattle.sv_types.specs.declared.event.Verdict.{Verdict}

-- ---- counts

-- none of them is above the number of events
unfoldable pub count : ℕ → Form ℕ
count events = within (λ n. nat_le n events) number

-- turns, beats, keys, ticks
abbrev pub EventCounts : Type 0
EventCounts = ℕ × (ℕ × (ℕ × ℕ))

unfoldable pub event_counts : ℕ → Form EventCounts
event_counts events = count events ⨾ (count events ⨾ (count events ⨾ count events))

-- retired, traps, enters, leaves, demotes
abbrev pub HartCounts : Type 0
HartCounts = ℕ × (ℕ × (ℕ × (ℕ × ℕ)))

unfoldable pub hart_counts : ℕ → Form HartCounts
hart_counts events = count events ⨾ (count events ⨾ (count events ⨾ (count events ⨾ count events)))

-- denied, dropped, loads, unloads, refused, notes
abbrev pub RuleCounts : Type 0
RuleCounts = ℕ × (ℕ × (ℕ × (ℕ × (ℕ × ℕ))))

unfoldable pub rule_counts : ℕ → Form RuleCounts
rule_counts events = count events ⨾ (count events ⨾ (count events ⨾ (count events ⨾ (count events ⨾ count events))))

abbrev pub CountParts : Type 0
CountParts = EventCounts × (HartCounts × RuleCounts)

abbrev pub counts_of : CountParts → Counts
counts_of x = record {
  turns = x.0.0;
  beats = x.0.1.0;
  keys = x.0.1.1.0;
  ticks = x.0.1.1.1;
  retired = x.1.0.0;
  traps = x.1.0.1.0;
  enters = x.1.0.1.1.0;
  leaves = x.1.0.1.1.1.0;
  demotes = x.1.0.1.1.1.1;
  denied = x.1.1.0;
  dropped = x.1.1.1.0;
  loads = x.1.1.1.1.0;
  unloads = x.1.1.1.1.1.0;
  refused = x.1.1.1.1.1.1.0;
  notes = x.1.1.1.1.1.1.1;
}

abbrev pub counts_parts : Counts → CountParts
counts_parts c = (
  (c.turns, (c.beats, (c.keys, c.ticks))),
  (
    (c.retired, (c.traps, (c.enters, (c.leaves, c.demotes)))),
    (c.denied, (c.dropped, (c.loads, (c.unloads, (c.refused, c.notes))))),
  ),
)

unfoldable pub counts : ℕ → Form Counts
counts events = map_form counts_of counts_parts always (event_counts events ⨾ (hart_counts events ⨾ rule_counts events))

-- ---- small values

-- a call's code, as a register holds it
abbrev pub codes_known : List SbiCode
codes_known =
    SbiCode.Success ∷ SbiCode.NoInput ∷ SbiCode.NotSupported ∷ SbiCode.InvalidParameter ∷ SbiCode.RefusedByMeasure ∷ SbiCode.InvalidAddress
    ∷ SbiCode.Already ∷ SbiCode.PendingLoad ∷ []

unfoldable pub is_among : List SbiCode → ℕ → Bool
is_among [] n = false
is_among (c ∷ cs) n = (code_word c == n) || is_among cs n

unfoldable pub found_among : List SbiCode → ℕ → SbiCode
found_among [] n = SbiCode.Success
found_among (c ∷ cs) n = if code_word c == n then c else found_among cs n

unfoldable pub code : Form SbiCode
code = map_form (found_among codes_known) code_word always (within (is_among codes_known) number)

-- a hart that is there
unfoldable pub hart_number : ℕ → Form ℕ
hart_number harts = within (λ n. nat_lt n harts) number

-- ---- notes: a kind, and the fields of each

abbrev pub demote_kind : ℕ
demote_kind = 1

abbrev pub denied_kind : ℕ
denied_kind = 2

abbrev pub load_kind : ℕ
load_kind = 3

abbrev pub unload_kind : ℕ
unload_kind = 4

abbrev pub retire_kind : ℕ
retire_kind = 5

abbrev pub kind_of : Note → ℕ
kind_of (Note.Demote h turn pc gpa) = demote_kind
kind_of (Note.Denied gpa) = denied_kind
kind_of (Note.Load h turn id c) = load_kind
kind_of (Note.Unload h turn id c) = unload_kind
kind_of (Note.Retire h turn c) = retire_kind

abbrev pub is_kind : ℕ → Note → Bool
is_kind kind n = kind_of n == kind

abbrev pub demote_of : ℕ × (ℕ × (ℕ × ℕ)) → Note
demote_of x = Note.Demote x.0 x.1.0 x.1.1.0 x.1.1.1

abbrev pub demote_parts : Note → ℕ × (ℕ × (ℕ × ℕ))
demote_parts (Note.Demote h turn pc gpa) = (h, (turn, (pc, gpa)))
demote_parts (Note.Denied gpa) = (0, (0, (0, 0)))
demote_parts (Note.Load h turn id c) = (0, (0, (0, 0)))
demote_parts (Note.Unload h turn id c) = (0, (0, (0, 0)))
demote_parts (Note.Retire h turn c) = (0, (0, (0, 0)))

unfoldable pub demote_form : ℕ → Form Note
demote_form harts = map_form demote_of demote_parts (is_kind demote_kind) (hart_number harts ⨾ (number ⨾ (multiple_of instruction_size ⨾ number)))

abbrev pub denied_of : ℕ → Note
denied_of gpa = Note.Denied gpa

abbrev pub denied_parts : Note → ℕ
denied_parts (Note.Demote h turn pc gpa) = 0
denied_parts (Note.Denied gpa) = gpa
denied_parts (Note.Load h turn id c) = 0
denied_parts (Note.Unload h turn id c) = 0
denied_parts (Note.Retire h turn c) = 0

unfoldable pub denied_note : Form Note
denied_note = map_form denied_of denied_parts (is_kind denied_kind) number

-- a module's load or unload
abbrev pub AnswerParts : Type 0
AnswerParts = ℕ × (ℕ × (ℕ × SbiCode))

unfoldable pub answer : ℕ → Form AnswerParts
answer harts = hart_number harts ⨾ (number ⨾ (number ⨾ code))

abbrev pub load_note_of : AnswerParts → Note
load_note_of x = Note.Load x.0 x.1.0 x.1.1.0 x.1.1.1

abbrev pub load_note_parts : Note → AnswerParts
load_note_parts (Note.Demote h turn pc gpa) = (0, (0, (0, SbiCode.Success)))
load_note_parts (Note.Denied gpa) = (0, (0, (0, SbiCode.Success)))
load_note_parts (Note.Load h turn id c) = (h, (turn, (id, c)))
load_note_parts (Note.Unload h turn id c) = (0, (0, (0, SbiCode.Success)))
load_note_parts (Note.Retire h turn c) = (0, (0, (0, SbiCode.Success)))

unfoldable pub load_note : ℕ → Form Note
load_note harts = map_form load_note_of load_note_parts (is_kind load_kind) (answer harts)

abbrev pub unload_of : AnswerParts → Note
unload_of x = Note.Unload x.0 x.1.0 x.1.1.0 x.1.1.1

abbrev pub unload_parts : Note → AnswerParts
unload_parts (Note.Demote h turn pc gpa) = (0, (0, (0, SbiCode.Success)))
unload_parts (Note.Denied gpa) = (0, (0, (0, SbiCode.Success)))
unload_parts (Note.Load h turn id c) = (0, (0, (0, SbiCode.Success)))
unload_parts (Note.Unload h turn id c) = (h, (turn, (id, c)))
unload_parts (Note.Retire h turn c) = (0, (0, (0, SbiCode.Success)))

unfoldable pub unload : ℕ → Form Note
unload harts = map_form unload_of unload_parts (is_kind unload_kind) (answer harts)

abbrev pub retire_of : ℕ × (ℕ × SbiCode) → Note
retire_of x = Note.Retire x.0 x.1.0 x.1.1

abbrev pub retire_parts : Note → ℕ × (ℕ × SbiCode)
retire_parts (Note.Demote h turn pc gpa) = (0, (0, SbiCode.Success))
retire_parts (Note.Denied gpa) = (0, (0, SbiCode.Success))
retire_parts (Note.Load h turn id c) = (0, (0, SbiCode.Success))
retire_parts (Note.Unload h turn id c) = (0, (0, SbiCode.Success))
retire_parts (Note.Retire h turn c) = (h, (turn, c))

unfoldable pub retire : ℕ → Form Note
retire harts = map_form retire_of retire_parts (is_kind retire_kind) (hart_number harts ⨾ (number ⨾ code))

-- the fields after a kind
unfoldable pub note_after : ℕ → ℕ → Form Note
note_after harts kind =
    if kind == demote_kind then demote_form harts
    else if kind == denied_kind then denied_note
    else if kind == load_kind then load_note harts
    else if kind == unload_kind then unload harts
    else retire harts

unfoldable pub note_form : ℕ → Form Note
note_form harts = map_form (λ x. x.1) (λ n. (kind_of n, n)) always (and_then (within (is_between demote_kind retire_kind) number) (note_after harts))

-- those that a journal keeps, or all of them
unfoldable pub notes : ℕ → ℕ → Form (List Note)
notes harts all = counted_list (λ n. n == min max_notes all) (λ before. note_form harts)

-- ---- the verdict: a kind, and the fields of each

abbrev pub running_kind : ℕ
running_kind = 0

abbrev pub shutdown_kind : ℕ
shutdown_kind = 1

abbrev pub entry_kind : ℕ
entry_kind = 2

abbrev pub write_kind : ℕ
write_kind = 3

abbrev pub verdict_kind : Verdict → ℕ
verdict_kind Verdict.Running = running_kind
verdict_kind Verdict.Shutdown = shutdown_kind
verdict_kind (Verdict.Stopped (Rule.Entry target) h turn) = entry_kind
verdict_kind (Verdict.Stopped (Rule.Write pc gpa) h turn) = write_kind

abbrev pub is_verdict : ℕ → Verdict → Bool
is_verdict kind v = verdict_kind v == kind

abbrev pub entry_of : ℕ × (ℕ × ℕ) → Verdict
entry_of x = Verdict.Stopped (Rule.Entry x.0) x.1.0 x.1.1

abbrev pub entry_parts : Verdict → ℕ × (ℕ × ℕ)
entry_parts Verdict.Running = (0, (0, 0))
entry_parts Verdict.Shutdown = (0, (0, 0))
entry_parts (Verdict.Stopped (Rule.Entry target) h turn) = (target, (h, turn))
entry_parts (Verdict.Stopped (Rule.Write pc gpa) h turn) = (0, (0, 0))

unfoldable pub stopped_entry : ℕ → Form Verdict
stopped_entry harts = map_form entry_of entry_parts (is_verdict entry_kind) (number ⨾ (hart_number harts ⨾ number))

abbrev pub write_of : ℕ × (ℕ × (ℕ × ℕ)) → Verdict
write_of x = Verdict.Stopped (Rule.Write x.0 x.1.0) x.1.1.0 x.1.1.1

abbrev pub write_parts : Verdict → ℕ × (ℕ × (ℕ × ℕ))
write_parts Verdict.Running = (0, (0, (0, 0)))
write_parts Verdict.Shutdown = (0, (0, (0, 0)))
write_parts (Verdict.Stopped (Rule.Entry target) h turn) = (0, (0, (0, 0)))
write_parts (Verdict.Stopped (Rule.Write pc gpa) h turn) = (pc, (gpa, (h, turn)))

unfoldable pub stopped_write : ℕ → Form Verdict
stopped_write harts = map_form write_of write_parts (is_verdict write_kind) (multiple_of instruction_size ⨾ (number ⨾ (hart_number harts ⨾ number)))

unfoldable pub verdict_after : ℕ → ℕ → Form Verdict
verdict_after harts kind =
    if kind == running_kind then nothing Verdict.Running (is_verdict running_kind)
    else if kind == shutdown_kind then nothing Verdict.Shutdown (is_verdict shutdown_kind)
    else if kind == entry_kind then stopped_entry harts
    else stopped_write harts

unfoldable pub verdict : ℕ → Form Verdict
verdict harts = map_form (λ x. x.1) (λ v. (verdict_kind v, v)) always (and_then (within (λ n. nat_le n write_kind) number) (verdict_after harts))

-- ---- counts, notes and verdict

abbrev pub JournalParts : Type 0
JournalParts = Counts × (List Note × Verdict)

unfoldable pub journal : ℕ → ℕ → Form JournalParts
journal events harts = and_then (counts events) (λ c. notes harts c.notes ⨾ verdict harts)
