-- Equal events of a machine in a row, and its console.
use Rattle.std.proofs.Common.{◌≡◌, ℕ, zero, suc, ◌-◌, ◌<◌, List, [], ◌∷◌, ◌++◌, length, ◌==◌, take, drop, replicate, refl, sym, ◌∙◌, ap, subst, arith, if◌then◌else◌, true, Result, Ok, Err}
use Rattle.std.specs.Prelude.{OnOk, is_ok}
use Rattle.std.proofs.lemmas.Bool.{eqb-true}
use Rattle.std.proofs.lemmas.List.{append-nil, append_assoc}
use Rattle.sv_types.specs.declared.event.Event.{Event}
use Rattle.sv_types.specs.declared.event.Verdict.TheVariants.{Running}
use Rattle.spec_reference.specs.Counting.{CountsAtMost}
use Rattle.spec_reference.specs.Run.{run, step}
use Rattle.spec_reference.specs.States.{State}
use Rattle.spec_hardware.specs.Machine.{Machine}
use Rattle.spec_hardware.specs.Reaches.{Cleared}
use Rattle.spec_hardware.specs.StandsFor.{StandsFor}
use Rattle.machine.specs.Repeats.{GoesOn, Repeats}
use Rattle.machine.specs.Standing.{Stands}
use Rattle.machine.proofs.Standing.{stands_away, stands_step, verdict_is}
use Rattle.cli_debug.specs.Debugged.{StandsIn}
use Rattle.cli_debug.proofs.AlikeStates.{alike_run}

run_end : (e : Event) (n : ℕ) (r : State) → run r (replicate (suc n) e) ≡ step (run r (replicate n e)) e
run_end e zero r = refl
run_end e (suc n) r = run_end e n (step r e)

stands_for_row : (n : ℕ) (m after : Machine) (r : State) (e : Event) → StandsFor m r → Repeats n m e after → StandsFor after (run r (replicate n e))
stands_for_row zero m after r e s same = subst (λ (x : Machine). StandsFor x r) (sym same) s
stands_for_row (suc n) m after r e s (before, (repeats, (on, makes))) =
    subst (λ x. StandsFor after x) (sym (run_end e n r)) (makes.stands (run r (replicate n e)) (stands_for_row n m before r e s repeats))

stands_row : (n : ℕ) (m after : Machine) (r : State) (console : List ℕ) (e : Event) → Stands m console r → Repeats n m e after → Stands after console (run r (replicate n e))
stands_row zero m after r console e s same = subst (λ (x : Machine). Stands x console r) (sym same) s
stands_row (suc n) m after r console e s (before, (repeats, (on, makes))) =
    let there = stands_row n m before r console e s repeats in
    subst (λ x. Stands after console x) (sym (run_end e n r))
    (stands_step before after (run r (replicate n e)) console e there (makes.stands (run r (replicate n e)) there.stands) makes.event)

-- ---- the run goes on within a row

running_here : (n : ℕ) (m before : Machine) (r : State) (e : Event) → StandsFor m r → m.journal.verdict ≡ Running → Repeats n m e before → GoesOn m before →
    (run r (replicate n e)).journal.verdict ≡ Running
running_here n m before r e s running repeats on =
    sym (verdict_is before (run r (replicate n e)) (stands_for_row n m before r e s repeats)) ∙ on.running running

here_or_before : (n : ℕ) (r : State) (e : Event) → (run r (replicate n e)).journal.verdict ≡ Running → ((k : ℕ) → k < n → (run r (replicate k e)).journal.verdict ≡ Running) →
    (k : ℕ) → k < suc n → (d : ℕ) → n - k ≡ d → (run r (replicate k e)).journal.verdict ≡ Running
here_or_before n r e here before k under zero is =
    let same : n ≡ k = omega (arith, under, is) in
    subst (λ j. (run r (replicate j e)).journal.verdict ≡ Running) same here
here_or_before n r e here before k under (suc d) is = before k (omega (arith, is))

pub running_before : (n : ℕ) (m after : Machine) (r : State) (e : Event) → StandsFor m r → m.journal.verdict ≡ Running → Repeats n m e after →
    (k : ℕ) → k < n → (run r (replicate k e)).journal.verdict ≡ Running
running_before zero m after r e s running repeats k under = absurd (omega (arith, under))
running_before (suc n) m after r e s running (before, (repeats, (on, makes))) k under =
    here_or_before n r e (running_here n m before r e s running repeats on) (running_before n m before r e s running repeats) k under (n - k) refl

-- ---- the console's bytes

take_all_dropped : (n : ℕ) (bytes : List ℕ) → drop n bytes ≡ [] → bytes ≡ take n bytes
take_all_dropped zero bytes none = none
take_all_dropped (suc n) [] none = refl
take_all_dropped (suc n) (b ∷ bytes) none = ap (λ (rest : List ℕ). b ∷ rest) (take_all_dropped n bytes none)

stands_after : (n : ℕ) (m next after : Machine) (r : State) (console : List ℕ) (e : Event) → Repeats n m e next → Cleared next after → after.journal.printed ≡ [] →
    StandsIn m console r → StandsIn after (console ++ next.journal.printed) (run r (replicate n e))
stands_after n m next after r console e repeats cleared none s = record {
  front = s.front;
  rest = s.rest ++ next.journal.printed;
  like = run s.like (replicate n e);
  alike = alike_run s.front r s.like (replicate n e) s.alike;
  here =
      stands_away next after (run s.like (replicate n e)) s.rest next.journal.printed (stands_row n m next s.like s.rest e s.here repeats)
      (record {
        cleared = cleared;
        away = take_all_dropped cleared.taken next.journal.printed (sym (ap (λ (x : Machine). x.journal.printed) cleared.same) ∙ none);
      });
  console_is = ap (λ (xs : List ℕ). xs ++ next.journal.printed) s.console_is ∙ append_assoc s.front s.rest next.journal.printed;
}

pub counts_same : (n : ℕ) (next after : Machine) → Cleared next after → CountsAtMost n next.journal.counts → CountsAtMost n after.journal.counts
counts_same n next after cleared most = subst (λ (x : Machine). CountsAtMost n x.journal.counts) (sym cleared.same) most

-- where the console took the bytes
pub told_stands : {A E : Type 0} (n : ℕ) (m next after : Machine) (console now : List ℕ) (e : Event) (told : Result A E) → Repeats n m e next → Cleared next after →
    after.journal.printed ≡ [] → now ≡ (if is_ok told then console ++ next.journal.printed else console) →
    OnOk told ((r : State) → StandsIn m console r → StandsIn after now (run r (replicate n e)))
told_stands n m next after console now e (Ok done) repeats cleared none pushed = λ r s.
    subst (λ xs. StandsIn after xs (run r (replicate n e))) (sym pushed) (stands_after n m next after r console e repeats cleared none s)
told_stands n m next after console now e (Err error) repeats cleared none pushed = tt

-- nothing was printed
pub none_printed : (bytes printed : List ℕ) → bytes ≡ printed → (length bytes == 0) ≡ true → printed ≡ []
none_printed [] printed is none = sym is
none_printed (b ∷ bytes) printed is none = absurd (omega (arith, eqb-true (length (b ∷ bytes)) 0 none))

pub none_taken : (console printed : List ℕ) → printed ≡ [] → console ≡ console ++ printed
none_taken console printed none = sym (append-nil console) ∙ ap (λ xs. console ++ xs) (sym none)
