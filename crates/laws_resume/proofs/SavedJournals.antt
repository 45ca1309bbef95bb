-- The counts, the notes and the verdict of a state have an encoding.
use Rattle.std.proofs.Common.{◌≡◌, ℕ, ◌<◌, ◌≤◌, List, [], ◌∷◌, ◌++◌, length, min, refl, true, arith}
use Rattle.std.specs.Prelude.{◌==◌, nat_lt, nat_le}
use Rattle.std.specs.List.{list_all}
use Rattle.std.proofs.lemmas.Bool.{eq-eqb}
use Rattle.sv_types.specs.Limits.{max_notes, max_events}
use Rattle.sv_types.specs.declared.event.Counts.{Counts}
use Rattle.sv_types.specs.declared.event.Note.{Note}
use Rattle.sv_types.specs.declared.event.Note.TheVariants.{Demote, Denied, Load, Unload, Retire}
use Rattle.sv_types.specs.declared.event.Rule.TheVariants.{Entry, Write}
use Rattle.sv_types.specs.declared.event.Verdict.{Verdict}
use Rattle.sv_types.specs.declared.event.Verdict.TheVariants.{Running, Shutdown, Stopped}
use Rattle.sv_types.specs.declared.sbi.SbiCode.{SbiCode}
use Rattle.spec_reference.specs.Counting.{CountsAtMost}
use Rattle.snapshot_format.specs.Forms.{is_word, has_all}
use Rattle.snapshot_format.specs.HartForms.{multiple_of}
use Rattle.snapshot_format.specs.JournalForms.{answer, code, count, counts, demote_form, denied_note, event_counts, hart_counts}
use Rattle.snapshot_format.specs.JournalForms.{hart_number, is_among, load_note, note_form, note_after, notes, retire, rule_counts}
use Rattle.snapshot_format.specs.JournalForms.{stopped_entry, stopped_write, unload, verdict, verdict_after}
use Rattle.snapshot_format.specs.Typed.{are_words, is_typed_note, note_numbers, verdict_numbers}
use Rattle.snapshot_format.proofs.FormLaws.{both_true, first_true, second_true}
use Rattle.laws_resume.specs.Keepable.{AreKeepableNotes, IsKeepableJournal, IsKeepableNote, IsKeepableVerdict}
use Rattle.laws_resume.proofs.FormParts.{least_is, less_is, small_word}
use Rattle.laws_resume.proofs.SavedHarts.{aligned_has, word_at}

-- ---- counts

count_has : (events n : ℕ) → events ≤ max_events → n ≤ events → (count events).has n ≡ true
unfolding count
count_has events n few most = both_true (is_word n) (nat_le n events) (small_word n (omega (arith, few, most))) (least_is n events most)

pub counts_have : (events : ℕ) (c : Counts) → events ≤ max_events → CountsAtMost events c → (counts events).has c ≡ true
unfolding counts event_counts hart_counts rule_counts
counts_have events c few k =
    let one : (n : ℕ) → n ≤ events → (count events).has n ≡ true = λ n most. count_has events n few most in
    both_true _ _
    (both_true _ _ (one c.turns k.turns) (both_true _ _ (one c.beats k.beats) (both_true _ _ (one c.keys k.keys) (one c.ticks k.ticks))))
    (both_true _ _
    (both_true _ _ (one c.retired k.retired) (both_true _ _ (one c.traps k.traps) (both_true _ _ (one c.enters k.enters) (both_true _ _ (one c.leaves k.leaves) (one c.demotes k.demotes)))))
    (both_true _ _ (one c.denied k.denied) (both_true _ _ (one c.dropped k.dropped) (both_true _ _ (one c.loads k.loads)
    (both_true _ _ (one c.unloads k.unloads) (both_true _ _ (one c.refused k.refused) (one c.notes k.notes)))))))

-- ---- notes

hart_has : (harts h : ℕ) → is_word h ≡ true → h < harts → (hart_number harts).has h ≡ true
unfolding hart_number
hart_has harts h w less = both_true (is_word h) (nat_lt h harts) w (less_is h harts less)

code_has : (c : SbiCode) → code.has c ≡ true
unfolding code is_among
code_has SbiCode.Success = refl
code_has SbiCode.NoInput = refl
code_has SbiCode.NotSupported = refl
code_has SbiCode.InvalidParameter = refl
code_has SbiCode.RefusedByMeasure = refl
code_has SbiCode.InvalidAddress = refl
code_has SbiCode.Already = refl
code_has SbiCode.PendingLoad = refl

note_has : (harts : ℕ) (n : Note) → IsKeepableNote harts n → are_words (note_numbers n) ≡ true → (note_form harts).has n ≡ true
unfolding note_form note_after demote_form denied_note load_note unload retire answer
note_has harts (Demote h turn pc gpa) k words =
    let ns : List ℕ = h ∷ turn ∷ pc ∷ gpa ∷ [] in
    both_true ((hart_number harts).has h) _ (hart_has harts h (word_at ns 0 h words refl) k.0)
    (both_true (is_word turn) _ (word_at ns 1 turn words refl)
    (both_true ((multiple_of 4).has pc) _ (aligned_has 4 pc (word_at ns 2 pc words refl) k.1) (word_at ns 3 gpa words refl)))
note_has harts (Denied gpa) k words = word_at (gpa ∷ []) 0 gpa words refl
note_has harts (Load h turn id c) k words =
    let ns : List ℕ = h ∷ turn ∷ id ∷ [] in
    both_true ((hart_number harts).has h) _ (hart_has harts h (word_at ns 0 h words refl) k)
    (both_true (is_word turn) _ (word_at ns 1 turn words refl) (both_true (is_word id) _ (word_at ns 2 id words refl) (code_has c)))
note_has harts (Unload h turn id c) k words =
    let ns : List ℕ = h ∷ turn ∷ id ∷ [] in
    both_true ((hart_number harts).has h) _ (hart_has harts h (word_at ns 0 h words refl) k)
    (both_true (is_word turn) _ (word_at ns 1 turn words refl) (both_true (is_word id) _ (word_at ns 2 id words refl) (code_has c)))
note_has harts (Retire h turn c) k words =
    let ns : List ℕ = h ∷ turn ∷ [] in
    both_true ((hart_number harts).has h) _ (hart_has harts h (word_at ns 0 h words refl) k)
    (both_true (is_word turn) _ (word_at ns 1 turn words refl) (code_has c))

notes_each : (harts : ℕ) (before ns : List Note) → AreKeepableNotes harts ns → list_all is_typed_note ns ≡ true
    → has_all (λ before. note_form harts) before (length ns) ns ≡ true
unfolding has_all
notes_each harts before [] k words = refl
notes_each harts before (n ∷ ns) k words =
    both_true ((note_form harts).has n) _ (note_has harts n k.0 (first_true (are_words (note_numbers n)) _ words))
    (notes_each harts (before ++ n ∷ []) ns k.1 (second_true (are_words (note_numbers n)) _ words))

pub notes_have : (harts all : ℕ) (ns : List Note) (v : Verdict) → IsKeepableJournal harts ns all v → list_all is_typed_note ns ≡ true
    → (notes harts all).has ns ≡ true
unfolding notes
notes_have harts all ns v k words =
    let few : length ns ≤ max_notes = least (length ns) all k.number in
    both_true _ (has_all (λ before. note_form harts) [] (length ns) ns)
    (both_true (is_word (length ns)) (length ns == min max_notes all) (small_word (length ns) (omega (arith, few))) (eq-eqb (length ns) (min max_notes all) k.number))
    (notes_each harts [] ns k.each words)
  where
    least : (n all : ℕ) → n ≡ min max_notes all → n ≤ max_notes
    least n all e = omega (arith, e)

-- ---- the verdict

pub verdict_has : (harts : ℕ) (v : Verdict) → IsKeepableVerdict harts v → are_words (verdict_numbers v) ≡ true → (verdict harts).has v ≡ true
unfolding verdict verdict_after stopped_entry stopped_write
verdict_has harts Running k words = refl
verdict_has harts Shutdown k words = refl
verdict_has harts (Stopped (Entry target) h turn) k words =
    let ns : List ℕ = target ∷ h ∷ turn ∷ [] in
    both_true (is_word target) _ (word_at ns 0 target words refl)
    (both_true ((hart_number harts).has h) _ (hart_has harts h (word_at ns 1 h words refl) k) (word_at ns 2 turn words refl))
verdict_has harts (Stopped (Write pc gpa) h turn) k words =
    let ns : List ℕ = pc ∷ gpa ∷ h ∷ turn ∷ [] in
    both_true ((multiple_of 4).has pc) _ (aligned_has 4 pc (word_at ns 0 pc words refl) k.1)
    (both_true (is_word gpa) _ (word_at ns 1 gpa words refl)
    (both_true ((hart_number harts).has h) _ (hart_has harts h (word_at ns 2 h words refl) k.0) (word_at ns 3 turn words refl)))
