-- One event several times in a row: the state that the machine stands for after it, and how far its counts rise.
use Rattle.std.proofs.Common.{◌≡◌, ℕ, zero, suc, ◌+◌, ◌-◌, ◌<◌, ◌≤◌, List, [], ◌∷◌, ◌++◌, replicate, refl, sym, ◌∙◌, ap, subst, arith, add-one, false}
use Rattle.std.specs.Prelude.{Option, Some, None, is_some}
use Rattle.std.proofs.lemmas.List.{replicate-append-replicate}
use Rattle.sv_types.specs.declared.event.Counts.{Counts}
use Rattle.sv_types.specs.declared.event.Event.{Event}
use Rattle.sv_types.specs.Boot.{no_counts}
use Rattle.spec_reference.specs.Counting.{CountsAtMost}
use Rattle.spec_reference.specs.Run.{run, step}
use Rattle.spec_reference.specs.States.{State}
use Rattle.spec_reference.proofs.Runs.{run_on}
use Rattle.laws_simulation.specs.GrowthLaws.{RiseByOne}
use Rattle.laws_simulation.proofs.StepsGrow.{grows_law}
use Rattle.spec_hardware.specs.Machine.{Machine}
use Rattle.spec_hardware.specs.StandsFor.{StandsFor, machine_of}
use Rattle.machine.specs.Repeats.{GoesOn, Made, MadeRow, Makes, Repeats, Rows, StaysUnloaded}

-- ---- counts

pub counts_are : (m : Machine) (r : State) → StandsFor m r → m.journal.counts ≡ r.journal.counts
unfolding machine_of
counts_are m r s = ap (λ (x : Machine). x.journal.counts) s.same

pub risen : (n : ℕ) (old new : Counts) → RiseByOne old new → CountsAtMost n old → CountsAtMost (n + 1) new
risen n old new rise most = record {
  turns = omega (arith, rise.turns, most.turns);
  beats = omega (arith, rise.beats, most.beats);
  keys = omega (arith, rise.keys, most.keys);
  ticks = omega (arith, rise.ticks, most.ticks);
  retired = omega (arith, rise.retired, most.retired);
  traps = omega (arith, rise.traps, most.traps);
  enters = omega (arith, rise.enters, most.enters);
  leaves = omega (arith, rise.leaves, most.leaves);
  demotes = omega (arith, rise.demotes, most.demotes);
  denied = omega (arith, rise.denied, most.denied);
  dropped = omega (arith, rise.dropped, most.dropped);
  loads = omega (arith, rise.loads, most.loads);
  unloads = omega (arith, rise.unloads, most.unloads);
  refused = omega (arith, rise.refused, most.refused);
  notes = omega (arith, rise.notes, most.notes);
}

-- an event raises no count by more than one
pub step_counts : (n : ℕ) (m next : Machine) (r : State) (e : Event) → StandsFor m r → StandsFor next (step r e) → CountsAtMost n m.journal.counts →
    CountsAtMost (n + 1) next.journal.counts
step_counts n m next r e s after counts =
    subst (λ (c : Counts). CountsAtMost (n + 1) c) (sym (counts_are next (step r e) after))
    (risen n r.journal.counts (step r e).journal.counts (grows_law r e).counts (subst (λ (c : Counts). CountsAtMost n c) (counts_are m r s) counts))

-- before the first event
pub none_counted : CountsAtMost 0 no_counts
none_counted = record {
  turns = omega arith;
  beats = omega arith;
  keys = omega arith;
  ticks = omega arith;
  retired = omega arith;
  traps = omega arith;
  enters = omega arith;
  leaves = omega arith;
  demotes = omega arith;
  denied = omega arith;
  dropped = omega arith;
  loads = omega arith;
  unloads = omega arith;
  refused = omega arith;
  notes = omega arith;
}

pub counts_within : (n most : ℕ) (c : Counts) → n ≤ most → CountsAtMost n c → CountsAtMost most c
counts_within n most c le at = record {
  turns = omega arith;
  beats = omega arith;
  keys = omega arith;
  ticks = omega arith;
  retired = omega arith;
  traps = omega arith;
  enters = omega arith;
  leaves = omega arith;
  demotes = omega arith;
  denied = omega arith;
  dropped = omega arith;
  loads = omega arith;
  unloads = omega arith;
  refused = omega arith;
  notes = omega arith;
}

-- and so one more
pub counts_more : (made : ℕ) (old now new : Counts) → ((n : ℕ) → CountsAtMost n old → CountsAtMost (n + made) now) → ((n : ℕ) → CountsAtMost n now → CountsAtMost (n + 1) new) →
    (n : ℕ) → CountsAtMost n old → CountsAtMost (n + (made + 1)) new
counts_more made old now new so_far one n counts =
    let sum : n + made + 1 ≡ n + (made + 1) = omega arith in subst (λ (k : ℕ). CountsAtMost k new) sum (one (n + made) (so_far n counts))

-- ---- in a row

pub one_more : (n : ℕ) (e : Event) → replicate n e ++ e ∷ [] ≡ replicate (suc n) e
one_more n e = replicate-append-replicate n 1 e ∙ ap (λ (k : ℕ). replicate k e) (add-one n)

-- the machine stands for the state after all of them
pub repeats_stand : (n : ℕ) (m after : Machine) (e : Event) → Repeats n m e after → (r : State) → StandsFor m r → StandsFor after (run r (replicate n e))
repeats_stand zero m after e same r stands = subst (λ (x : Machine). StandsFor x r) (sym same) stands
repeats_stand (suc n) m after e (before, (those, (on, makes))) r stands =
    subst (λ (s : State). StandsFor after s) (sym (run_on r (replicate n e) (e ∷ [])) ∙ ap (λ (events : List Event). run r events) (one_more n e))
    (makes.stands (run r (replicate n e)) (repeats_stand n m before e those r stands))

pub repeats_more : (n : ℕ) (m before after : Machine) (e : Event) → Repeats n m e before → GoesOn m before → Makes before e after → Repeats (n + 1) m e after
repeats_more n m before after e those on makes = subst (λ (k : ℕ). Repeats k m e after) (sym (add-one n)) (before, (those, (on, makes)))

-- once
pub repeats_once : (n : ℕ) (m after : Machine) (e : Event) → n ≡ 1 → Repeats n m e after → Makes m e after
repeats_once n m after e one repeats =
    let those : Repeats (suc zero) m e after = subst (λ (k : ℕ). Repeats k m e after) one repeats in
    subst (λ (x : Machine). Makes x e after) those.1.0 those.1.1.1

goes_then : (m mid after : Machine) → GoesOn m mid → GoesOn mid after → GoesOn m after
goes_then m mid after first second = record { quiet = second.quiet ∙ first.quiet; running = λ is. second.running (first.running is) }

-- after some that printed nothing and didn't end the run, more of them
pub repeats_on : (n k : ℕ) (m mid after : Machine) (e : Event) → Repeats n m e mid → GoesOn m mid → Repeats k mid e after → Repeats (n + k) m e after
repeats_on n zero m mid after e those on same =
    let sum : n ≡ n + 0 = omega arith in
    subst (λ (i : ℕ). Repeats i m e after) sum (subst (λ (x : Machine). Repeats n m e x) (sym same) those)
repeats_on n (suc k) m mid after e those on (before, (more, (still, makes))) =
    let rest : Repeats (suc (n + k)) m e after = (before, (repeats_on n k m mid before e those on more, (goes_then m mid before on still, makes))) in
    let sum : suc (n + k) ≡ n + suc k = omega arith in
    subst (λ (i : ℕ). Repeats i m e after) sum rest

pub counts_on : (made more : ℕ) (old now new : Counts) → ((n : ℕ) → CountsAtMost n old → CountsAtMost (n + made) now) → ((n : ℕ) → CountsAtMost n now → CountsAtMost (n + more) new) →
    (n : ℕ) → CountsAtMost n old → CountsAtMost (n + (made + more)) new
counts_on made more old now new so_far then n counts =
    let sum : n + made + more ≡ n + (made + more) = omega arith in subst (λ (k : ℕ). CountsAtMost k new) sum (then (n + made) (so_far n counts))

-- ---- in a row in which the last event alone may begin a load

pub rows_repeat : (n : ℕ) (m after : Machine) (e : Event) → Rows n m e after → Repeats n m e after
rows_repeat zero m after e same = same
rows_repeat (suc n) m after e (before, (those, (on, makes))) = (before, (rows_repeat n m before e those, (on.on, makes)))

pub made_of : (n asked : ℕ) (m after : Machine) (e : Event) → MadeRow n asked m e after → Made n asked m e after
made_of n asked m after e made = record { chain = rows_repeat n m after e made.chain; counts = made.counts; some = made.some; most = made.most }

pub rows_more : (n : ℕ) (m before after : Machine) (e : Event) → Rows n m e before → StaysUnloaded m before → Makes before e after → Rows (n + 1) m e after
rows_more n m before after e those on makes = subst (λ (k : ℕ). Rows k m e after) (sym (add-one n)) (before, (those, (on, makes)))

unloaded_then : (m mid after : Machine) → StaysUnloaded m mid → StaysUnloaded mid after → StaysUnloaded m after
unloaded_then m mid after first second = record { on = goes_then m mid after first.on second.on; loading = λ none. second.loading (first.loading none) }

pub rows_on : (n k : ℕ) (m mid after : Machine) (e : Event) → Rows n m e mid → StaysUnloaded m mid → Rows k mid e after → Rows (n + k) m e after
rows_on n zero m mid after e those on same =
    let sum : n ≡ n + 0 = omega arith in
    subst (λ (i : ℕ). Rows i m e after) sum (subst (λ (x : Machine). Rows n m e x) (sym same) those)
rows_on n (suc k) m mid after e those on (before, (more, (still, makes))) =
    let rest : Rows (suc (n + k)) m e after = (before, (rows_on n k m mid before e those on more, (unloaded_then m mid before on still, makes))) in
    let sum : suc (n + k) ≡ n + suc k = omega arith in
    subst (λ (i : ℕ). Rows i m e after) sum rest

-- and so more of them
pub row_made : (n k asked : ℕ) (m mid after : Machine) (e : Event) → Rows n m e mid → StaysUnloaded m mid
    → ((i : ℕ) → CountsAtMost i m.journal.counts → CountsAtMost (i + n) mid.journal.counts) → n < asked → MadeRow k (asked - n) mid e after → MadeRow (n + k) asked m e after
row_made n k asked m mid after e those on counts less more = record {
  chain = rows_on n k m mid after e those on more.chain;
  counts = counts_on n k m.journal.counts mid.journal.counts after.journal.counts counts more.counts;
  some = let some = more.some in omega (arith, some);
  most = let most = more.most in omega (arith, less, most);
}

pub none_loading : {A : Type 0} (x : Option A) → is_some x ≡ false → x ≡ None
none_loading None is = refl
none_loading (Some a) is = absurd (cc)
