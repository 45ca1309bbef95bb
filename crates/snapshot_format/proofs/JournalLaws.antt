-- What a machine recorded has a form.
use Rattle.std.proofs.Common.{◌≡◌, ℕ, zero, suc, Bool, true, false, List, [], ◌∷◌, eqb, leb, refl, ap, arith}
use Rattle.sv_types.specs.Limits.{max_notes}
use Rattle.std.specs.Prelude.{nat_lt, nat_le, ◌==◌, ◌||◌, if◌then◌else◌, min}
use Rattle.std.proofs.lemmas.Bool.{eqb-true, leb-true}
use Rattle.sv_types.specs.Policies.{is_between}
use Rattle.sv_types.specs.SbiCodes.{code_word}
use Rattle.sv_types.specs.declared.sbi.SbiCode.{SbiCode}
use Rattle.sv_types.specs.declared.event.Note.{Note}
use Rattle.sv_types.specs.declared.event.Rule.{Rule}
use Rattle.sv_types.specs.declared.event.Verdict.{Verdict}
use Rattle.snapshot_format.specs.FormLaw.{IsForm}
use Rattle.snapshot_format.specs.Forms.{is_word, number, within, and_then, ◌⨾◌, always}
use Rattle.snapshot_format.specs.JournalForms.{count, event_counts, hart_counts, rule_counts, counts_of, counts_parts, counts, codes_known}
use Rattle.snapshot_format.specs.JournalForms.{is_among, found_among, code, hart_number, kind_of, is_kind, demote_of, demote_parts}
use Rattle.snapshot_format.specs.JournalForms.{demote_form, denied_of, denied_parts, denied_note, answer, load_note_of, load_note_parts}
use Rattle.snapshot_format.specs.JournalForms.{load_note, unload_of, unload_parts, unload, retire_of, retire_parts, retire, note_after}
use Rattle.snapshot_format.specs.JournalForms.{note_form, notes, verdict_kind, is_verdict, entry_of, entry_parts, stopped_entry, write_of}
use Rattle.snapshot_format.specs.JournalForms.{write_parts, stopped_write, verdict_after, verdict, journal}
use Rattle.snapshot_format.proofs.FormLaws.{first_true, second_true, number_is, within_is, nothing_is, and_then_is, made_is, counted_is, pair_is, numbers_are, choose_is}
use Rattle.snapshot_format.proofs.HartLaws.{aligned_is}

-- ---- the journal

pub count_is : (events : ℕ) → IsForm (count events)
unfolding count
count_is events = numbers_are (λ n. nat_le n events)

pub event_counts_are : (events : ℕ) → IsForm (event_counts events)
unfolding event_counts
event_counts_are events =
    let one = count_is events in
    pair_is _ _ one (pair_is _ _ one (pair_is _ _ one one))

pub hart_counts_are : (events : ℕ) → IsForm (hart_counts events)
unfolding hart_counts
hart_counts_are events =
    let one = count_is events in
    pair_is _ _ one (pair_is _ _ one (pair_is _ _ one (pair_is _ _ one one)))

pub rule_counts_are : (events : ℕ) → IsForm (rule_counts events)
unfolding rule_counts
rule_counts_are events =
    let one = count_is events in
    pair_is _ _ one (pair_is _ _ one (pair_is _ _ one (pair_is _ _ one (pair_is _ _ one one))))

pub counts_are : (events : ℕ) → IsForm (counts events)
unfolding counts
counts_are events =
    made_is counts_of counts_parts always _
    (pair_is _ _ (event_counts_are events) (pair_is _ _ (hart_counts_are events) (rule_counts_are events)))
    (record { back = λ c p h. refl; again = λ x h. refl; stays = λ x h. refl })

-- ---- small values

first_or : (cs : List SbiCode) (c : SbiCode) (n : ℕ) (b : Bool) → (code_word c == n) ≡ b → (b || is_among cs n) ≡ true
    → (is_among cs n ≡ true → code_word (found_among cs n) ≡ n) → code_word (if b then c else found_among cs n) ≡ n
first_or cs c n true is e rest = eqb-true (code_word c) n is
first_or cs c n false is e rest = rest e

code_again : (cs : List SbiCode) (n : ℕ) → is_among cs n ≡ true → code_word (found_among cs n) ≡ n
unfolding is_among found_among
code_again [] n h = absurd (cc)
code_again (c ∷ cs) n h = first_or cs c n (code_word c == n) refl h (λ e. code_again cs n e)

code_back : (c : SbiCode) → found_among codes_known (code_word c) ≡ c
unfolding found_among
code_back SbiCode.Success = refl
code_back SbiCode.NoInput = refl
code_back SbiCode.NotSupported = refl
code_back SbiCode.InvalidParameter = refl
code_back SbiCode.RefusedByMeasure = refl
code_back SbiCode.InvalidAddress = refl
code_back SbiCode.Already = refl
code_back SbiCode.PendingLoad = refl

pub code_is : IsForm code
unfolding code
code_is =
    made_is (found_among codes_known) code_word always (within (is_among codes_known) number) (within_is (is_among codes_known) number number_is)
    (record {
      back = λ c p h. code_back c;
      again = λ n h. code_again codes_known n (second_true (is_word n) (is_among codes_known n) h);
      stays = λ n h. refl;
    })

pub hart_number_is : (harts : ℕ) → IsForm (hart_number harts)
unfolding hart_number
hart_number_is harts = numbers_are (λ n. nat_lt n harts)

demote_back : (n : Note) → eqb (kind_of n) 1 ≡ true → demote_of (demote_parts n) ≡ n
demote_back (Note.Demote h turn pc gpa) e = refl
demote_back (Note.Denied gpa) e = absurd cc
demote_back (Note.Load h turn id c) e = absurd cc
demote_back (Note.Unload h turn id c) e = absurd cc
demote_back (Note.Retire h turn c) e = absurd cc

denied_back : (n : Note) → eqb (kind_of n) 2 ≡ true → denied_of (denied_parts n) ≡ n
denied_back (Note.Demote h turn pc gpa) e = absurd cc
denied_back (Note.Denied gpa) e = refl
denied_back (Note.Load h turn id c) e = absurd cc
denied_back (Note.Unload h turn id c) e = absurd cc
denied_back (Note.Retire h turn c) e = absurd cc

load_note_back : (n : Note) → eqb (kind_of n) 3 ≡ true → load_note_of (load_note_parts n) ≡ n
load_note_back (Note.Demote h turn pc gpa) e = absurd cc
load_note_back (Note.Denied gpa) e = absurd cc
load_note_back (Note.Load h turn id c) e = refl
load_note_back (Note.Unload h turn id c) e = absurd cc
load_note_back (Note.Retire h turn c) e = absurd cc

unload_back : (n : Note) → eqb (kind_of n) 4 ≡ true → unload_of (unload_parts n) ≡ n
unload_back (Note.Demote h turn pc gpa) e = absurd cc
unload_back (Note.Denied gpa) e = absurd cc
unload_back (Note.Load h turn id c) e = absurd cc
unload_back (Note.Unload h turn id c) e = refl
unload_back (Note.Retire h turn c) e = absurd cc

retire_back : (n : Note) → eqb (kind_of n) 5 ≡ true → retire_of (retire_parts n) ≡ n
retire_back (Note.Demote h turn pc gpa) e = absurd cc
retire_back (Note.Denied gpa) e = absurd cc
retire_back (Note.Load h turn id c) e = absurd cc
retire_back (Note.Unload h turn id c) e = absurd cc
retire_back (Note.Retire h turn c) e = refl

pub demote_is : (harts : ℕ) → IsForm (demote_form harts)
unfolding demote_form
demote_is harts =
    made_is demote_of demote_parts (is_kind 1) _
    (pair_is _ _ (hart_number_is harts) (pair_is _ _ number_is (pair_is _ _ (aligned_is 4) number_is)))
    (record { back = λ n p h. demote_back n p; again = λ x h. refl; stays = λ x h. refl })

pub denied_is : IsForm denied_note
unfolding denied_note
denied_is =
    made_is denied_of denied_parts (is_kind 2) number number_is
    (record { back = λ n p h. denied_back n p; again = λ x h. refl; stays = λ x h. refl })

pub answer_is : (harts : ℕ) → IsForm (answer harts)
unfolding answer
answer_is harts = pair_is _ _ (hart_number_is harts) (pair_is _ _ number_is (pair_is _ _ number_is code_is))

pub load_note_is : (harts : ℕ) → IsForm (load_note harts)
unfolding load_note
load_note_is harts =
    made_is load_note_of load_note_parts (is_kind 3) (answer harts) (answer_is harts)
    (record { back = λ n p h. load_note_back n p; again = λ x h. refl; stays = λ x h. refl })

pub unload_is : (harts : ℕ) → IsForm (unload harts)
unfolding unload
unload_is harts =
    made_is unload_of unload_parts (is_kind 4) (answer harts) (answer_is harts)
    (record { back = λ n p h. unload_back n p; again = λ x h. refl; stays = λ x h. refl })

pub retire_is : (harts : ℕ) → IsForm (retire harts)
unfolding retire
retire_is harts =
    made_is retire_of retire_parts (is_kind 5) _ (pair_is _ _ (hart_number_is harts) (pair_is _ _ number_is code_is))
    (record { back = λ n p h. retire_back n p; again = λ x h. refl; stays = λ x h. refl })

pub note_after_is : (harts kind : ℕ) → IsForm (note_after harts kind)
unfolding note_after
note_after_is harts kind =
    choose_is (kind == 1) _ _ (demote_is harts)
    (choose_is (kind == 2) _ _ denied_is
    (choose_is (kind == 3) _ _ (load_note_is harts)
    (choose_is (kind == 4) _ _ (unload_is harts) (retire_is harts))))

-- the kind that stands before a note is its own
note_kind : (harts kind : ℕ) (n : Note) → is_between 1 5 kind ≡ true → (note_after harts kind).has n ≡ true → kind_of n ≡ kind
unfolding note_after demote_form denied_note load_note unload retire
note_kind harts zero n k h = absurd cc
note_kind harts (suc zero) n k h = eqb-true (kind_of n) 1 (first_true (eqb (kind_of n) 1) _ h)
note_kind harts (suc (suc zero)) n k h = eqb-true (kind_of n) 2 (first_true (eqb (kind_of n) 2) _ h)
note_kind harts (suc (suc (suc zero))) n k h = eqb-true (kind_of n) 3 (first_true (eqb (kind_of n) 3) _ h)
note_kind harts (suc (suc (suc (suc zero)))) n k h = eqb-true (kind_of n) 4 (first_true (eqb (kind_of n) 4) _ h)
note_kind harts (suc (suc (suc (suc (suc zero))))) n k h = eqb-true (kind_of n) 5 (first_true (eqb (kind_of n) 5) _ h)
note_kind harts (suc (suc (suc (suc (suc (suc kind)))))) n k h =
    let m : ℕ = suc (suc (suc (suc (suc (suc kind))))) in
    absurd (omega (arith, leb-true m 5 (second_true (leb 1 m) (leb m 5) k)))

pub note_is : (harts : ℕ) → IsForm (note_form harts)
unfolding note_form
note_is harts =
    made_is (λ (x : ℕ × Note). x.1) (λ n. (kind_of n, n)) always (and_then (within (is_between 1 5) number) (note_after harts))
    (and_then_is (within (is_between 1 5) number) (note_after harts) (numbers_are (is_between 1 5)) (λ kind h. note_after_is harts kind))
    (record {
      back = λ n p h. refl;
      again = λ x h.
          let kind = second_true (is_word x.0) (is_between 1 5 x.0) (first_true ((within (is_between 1 5) number).has x.0) ((note_after harts x.0).has x.1) h) in
          let there = second_true ((within (is_between 1 5) number).has x.0) ((note_after harts x.0).has x.1) h in
          ap (λ (k : ℕ). (k, x.1)) (note_kind harts x.0 x.1 kind there);
      stays = λ x h. refl;
    })

pub notes_are : (harts all : ℕ) → IsForm (notes harts all)
unfolding notes
notes_are harts all = counted_is (λ n. n == min max_notes all) (λ before. note_form harts) (λ before. note_is harts)

entry_back : (v : Verdict) → eqb (verdict_kind v) 2 ≡ true → entry_of (entry_parts v) ≡ v
entry_back Verdict.Running e = absurd cc
entry_back Verdict.Shutdown e = absurd cc
entry_back (Verdict.Stopped (Rule.Entry target) h turn) e = refl
entry_back (Verdict.Stopped (Rule.Write pc gpa) h turn) e = absurd cc

write_back : (v : Verdict) → eqb (verdict_kind v) 3 ≡ true → write_of (write_parts v) ≡ v
write_back Verdict.Running e = absurd cc
write_back Verdict.Shutdown e = absurd cc
write_back (Verdict.Stopped (Rule.Entry target) h turn) e = absurd cc
write_back (Verdict.Stopped (Rule.Write pc gpa) h turn) e = refl

running_back : (v : Verdict) → eqb (verdict_kind v) 0 ≡ true → Verdict.Running ≡ v
running_back Verdict.Running e = refl
running_back Verdict.Shutdown e = absurd cc
running_back (Verdict.Stopped (Rule.Entry target) h turn) e = absurd cc
running_back (Verdict.Stopped (Rule.Write pc gpa) h turn) e = absurd cc

shutdown_back : (v : Verdict) → eqb (verdict_kind v) 1 ≡ true → Verdict.Shutdown ≡ v
shutdown_back Verdict.Running e = absurd cc
shutdown_back Verdict.Shutdown e = refl
shutdown_back (Verdict.Stopped (Rule.Entry target) h turn) e = absurd cc
shutdown_back (Verdict.Stopped (Rule.Write pc gpa) h turn) e = absurd cc

pub stopped_entry_is : (harts : ℕ) → IsForm (stopped_entry harts)
unfolding stopped_entry
stopped_entry_is harts =
    made_is entry_of entry_parts (is_verdict 2) _ (pair_is _ _ number_is (pair_is _ _ (hart_number_is harts) number_is))
    (record { back = λ v p h. entry_back v p; again = λ x h. refl; stays = λ x h. refl })

pub stopped_write_is : (harts : ℕ) → IsForm (stopped_write harts)
unfolding stopped_write
stopped_write_is harts =
    made_is write_of write_parts (is_verdict 3) _ (pair_is _ _ (aligned_is 4) (pair_is _ _ number_is (pair_is _ _ (hart_number_is harts) number_is)))
    (record { back = λ v p h. write_back v p; again = λ x h. refl; stays = λ x h. refl })

pub verdict_after_is : (harts kind : ℕ) → IsForm (verdict_after harts kind)
unfolding verdict_after
verdict_after_is harts kind =
    choose_is (kind == 0) _ _ (nothing_is Verdict.Running (is_verdict 0) running_back refl)
    (choose_is (kind == 1) _ _ (nothing_is Verdict.Shutdown (is_verdict 1) shutdown_back refl)
    (choose_is (kind == 2) _ _ (stopped_entry_is harts) (stopped_write_is harts)))

verdict_of_kind : (harts kind : ℕ) (v : Verdict) → leb kind 3 ≡ true → (verdict_after harts kind).has v ≡ true → verdict_kind v ≡ kind
unfolding verdict_after stopped_entry stopped_write
verdict_of_kind harts zero v k h = eqb-true (verdict_kind v) 0 h
verdict_of_kind harts (suc zero) v k h = eqb-true (verdict_kind v) 1 h
verdict_of_kind harts (suc (suc zero)) v k h = eqb-true (verdict_kind v) 2 (first_true (eqb (verdict_kind v) 2) _ h)
verdict_of_kind harts (suc (suc (suc zero))) v k h = eqb-true (verdict_kind v) 3 (first_true (eqb (verdict_kind v) 3) _ h)
verdict_of_kind harts (suc (suc (suc (suc kind)))) v k h = absurd (omega (arith, leb-true (suc (suc (suc (suc kind)))) 3 k))

pub verdict_is : (harts : ℕ) → IsForm (verdict harts)
unfolding verdict
verdict_is harts =
    made_is (λ (x : ℕ × Verdict). x.1) (λ v. (verdict_kind v, v)) always (and_then (within (λ n. nat_le n 3) number) (verdict_after harts))
    (and_then_is (within (λ n. nat_le n 3) number) (verdict_after harts) (numbers_are (λ n. nat_le n 3)) (λ kind h. verdict_after_is harts kind))
    (record {
      back = λ v p h. refl;
      again = λ x h.
          let kind = second_true (is_word x.0) (leb x.0 3) (first_true ((within (λ n. nat_le n 3) number).has x.0) ((verdict_after harts x.0).has x.1) h) in
          let there = second_true ((within (λ n. nat_le n 3) number).has x.0) ((verdict_after harts x.0).has x.1) h in
          ap (λ (k : ℕ). (k, x.1)) (verdict_of_kind harts x.0 x.1 kind there);
      stays = λ x h. refl;
    })

pub journal_is : (events harts : ℕ) → IsForm (journal events harts)
unfolding journal
journal_is events harts =
    and_then_is (counts events) (λ c. notes harts c.notes ⨾ verdict harts) (counts_are events)
    (λ c h. pair_is (notes harts c.notes) (verdict harts) (notes_are harts c.notes) (verdict_is harts))
