-- What one event does to the journal once its own count was raised: each other count rises by one at most, and one byte at
-- most is printed, after those that were.
use Rattle.std.proofs.Common.{◌≡◌, ℕ, ◌+◌, ◌%◌, ◌≤◌, ◌∷◌, ◌++◌, Bool, true, false, List, [], length, refl, sym, subst, arith, length-append}
use Rattle.std.specs.Prelude.{if◌then◌else◌}
use Rattle.std.proofs.lemmas.List.{append-nil}
use Rattle.sv_types.specs.declared.event.Note.{Note}
use Rattle.sv_types.specs.declared.event.Verdict.{Verdict}
use Rattle.sv_types.specs.declared.sbi.SbiCode.{SbiCode}
use Rattle.spec_processor.specs.declared.mode.Mode.{Mode}
use Rattle.spec_processor.specs.declared.mode.Mode.TheVariants.{Kernel, User}
use Rattle.spec_reference.specs.States.{State, Journal}
use Rattle.spec_reference.specs.Counting.{with_count, with_note, printed_low, machine_ended, count_trap, count_return, count_retired}
use Rattle.spec_reference.specs.Counting.{count_denied, count_demote, count_dropped, count_load, count_unload, count_refused, count_turn}
use Rattle.spec_reference.specs.Counting.{count_beat, count_key, count_tick}
use Rattle.spec_reference.specs.Answers.{count_answer}
use Rattle.laws_simulation.specs.GrowthLaws.{NoneFalls, Grows}

-- the counts but for those of the events
pub record Rises (old new : Journal) : Type 0 where
  pub turns : new.counts.turns ≡ old.counts.turns
  pub beats : new.counts.beats ≡ old.counts.beats
  pub keys : new.counts.keys ≡ old.counts.keys
  pub ticks : new.counts.ticks ≡ old.counts.ticks
  pub retired : new.counts.retired ≤ old.counts.retired + 1
  pub traps : new.counts.traps ≤ old.counts.traps + 1
  pub enters : new.counts.enters ≤ old.counts.enters + 1
  pub leaves : new.counts.leaves ≤ old.counts.leaves + 1
  pub demotes : new.counts.demotes ≤ old.counts.demotes + 1
  pub denied : new.counts.denied ≤ old.counts.denied + 1
  pub dropped : new.counts.dropped ≤ old.counts.dropped + 1
  pub loads : new.counts.loads ≤ old.counts.loads + 1
  pub unloads : new.counts.unloads ≤ old.counts.unloads + 1
  pub refused : new.counts.refused ≤ old.counts.refused + 1
  pub notes : new.counts.notes ≤ old.counts.notes + 1

-- the printed bytes
pub record Prints (old new : List ℕ) : Type 0 where
  pub console : length new ≤ length old + 1
  pub behind : (more : List ℕ) × (new ≡ old ++ more)

pub record Moves (old new : Journal) : Type 0 where
  pub rises : Rises old new
  pub kept : NoneFalls old.counts new.counts
  pub prints : Prints old.printed new.printed

abbrev pub Gains : State → State → Type 0
Gains r next = Moves r.journal next.journal

prints_none : (list : List ℕ) → Prints list list
prints_none list = record { console = omega arith; behind = ([], sym (append-nil list)) }

prints_one : (list : List ℕ) (byte : ℕ) → Prints list (list ++ byte ∷ [])
prints_one list byte = record { console = grind (arith, length-append list (byte ∷ [])); behind = (byte ∷ [], refl) }

quietly : (old new : Journal) → Rises old new → NoneFalls old.counts new.counts → old.printed ≡ new.printed → Moves old new
quietly old new rises kept same = record { rises = rises; kept = kept; prints = subst (Prints old.printed) same (prints_none old.printed) }

-- nothing, or the verdict alone
pub still : (j : Journal) → Moves j (j)
still j = quietly j _ (grind arith) (grind arith) refl

pub ended : (j : Journal) (verdict : Verdict) → Moves j (machine_ended verdict j)
ended j verdict = quietly j _ (grind arith) (grind arith) refl

-- an instruction, with or without a byte that it prints
pub retires : (j : Journal) → Moves j (with_count count_retired j)
retires j = quietly j _ (grind arith) (grind arith) refl

pub printed : (j : Journal) (value : ℕ) → Moves j (printed_low value j)
printed j value = record { rises = grind arith; kept = grind arith; prints = prints_one j.printed (value % 256) }

pub printed_retired : (j : Journal) (value : ℕ) → Moves j (with_count count_retired (printed_low value j))
printed_retired j value = record { rises = grind arith; kept = grind arith; prints = prints_one j.printed (value % 256) }

-- traps and returns
pub trapped : (j : Journal) (from : Mode) → Moves j (with_count (count_trap from) j)
trapped j Kernel = quietly j _ (grind arith) (grind arith) refl
trapped j User = quietly j _ (grind arith) (grind arith) refl

pub returned : (j : Journal) (to : Mode) → Moves j (with_count (count_return to) j)
returned j Kernel = quietly j _ (grind arith) (grind arith) refl
returned j User = quietly j _ (grind arith) (grind arith) refl

-- what is noted
pub demotes : (j : Journal) (line : Note) → Moves j (with_note line (with_count count_demote j))
demotes j line = quietly j _ (grind arith) (grind arith) refl

pub denies : (j : Journal) (line : Note) → Moves j (with_note line (with_count count_denied j))
denies j line = quietly j _ (grind arith) (grind arith) refl

pub loads : (j : Journal) (line : Note) → Moves j (with_note line (with_count count_load j))
loads j line = quietly j _ (grind arith) (grind arith) refl

pub unloads : (j : Journal) (line : Note) → Moves j (with_note line (with_count count_unload j))
unloads j line = quietly j _ (grind arith) (grind arith) refl

pub drops : (j : Journal) → Moves j (with_count count_dropped j)
drops j = quietly j _ (grind arith) (grind arith) refl

went_well : (j : Journal) (line : Note) → Moves j (with_note line j)
went_well j line = quietly j _ (grind arith) (grind arith) refl

failed : (j : Journal) (line : Note) → Moves j (with_note line (with_count count_refused j))
failed j line = quietly j _ (grind arith) (grind arith) refl

pub answers : (j : Journal) (how : SbiCode) (line : Note) → Moves j (with_note line (with_count (count_answer how) j))
answers j SbiCode.Success line = went_well j line
answers j _ line = failed j line

-- ---- choices

pub choose_gains : (r : State) (b : Bool) (x y : State) → Gains r x → Gains r y → Gains r (if b then x else y)
choose_gains r true x y s t = s
choose_gains r false x y s t = t

-- ---- the event's own count, which is raised first

pub turn_grows : (old new : Journal) → Moves (with_count count_turn old) new → Grows old new
turn_grows old new m = record { counts = grind (arith, m.rises); kept = grind (arith, m.kept); console = m.prints.console; behind = m.prints.behind }

pub beat_grows : (old new : Journal) → Moves (with_count count_beat old) new → Grows old new
beat_grows old new m = record { counts = grind (arith, m.rises); kept = grind (arith, m.kept); console = m.prints.console; behind = m.prints.behind }

pub key_grows : (old new : Journal) → Moves (with_count count_key old) new → Grows old new
key_grows old new m = record { counts = grind (arith, m.rises); kept = grind (arith, m.kept); console = m.prints.console; behind = m.prints.behind }

pub tick_grows : (old new : Journal) → Moves (with_count count_tick old) new → Grows old new
tick_grows old new m = record { counts = grind (arith, m.rises); kept = grind (arith, m.kept); console = m.prints.console; behind = m.prints.behind }

pub rests_grows : (j : Journal) → Grows j j
rests_grows j = record { counts = grind arith; kept = grind arith; console = omega arith; behind = ([], sym (append-nil j.printed)) }
