-- How high a run raises the counts.
use Rattle.std.proofs.Common.{◌≡◌, ℕ, suc, ◌+◌, List, [], ◌∷◌, arith, refl, subst, sym}
use Rattle.std.proofs.Math.Nat.{add-zero}
use Rattle.sv_types.specs.declared.event.Event.{Event}
use Rattle.sv_types.specs.declared.event.Verdict.{Verdict}
use Rattle.sv_types.specs.declared.event.Verdict.TheVariants.{Running, Shutdown, Stopped}
use Rattle.spec_reference.specs.Counting.{CountsAtMost}
use Rattle.spec_reference.specs.Run.{step, run, HasEnded}
use Rattle.spec_reference.specs.States.{State}
use Rattle.spec_reference.proofs.Runs.{ended_stays}
use Rattle.laws_resume.specs.Continues.{drawn_under, draw_count}
use Rattle.laws_simulation.proofs.StepsGrow.{grows_law}
use Rattle.machine.proofs.Repeated.{risen}
use Rattle.cli_snap.specs.CountRuns.{CountsLaw}

-- the counts of a state are at most n
abbrev Within : ℕ → State → Type 0
Within n r = CountsAtMost n r.journal.counts

one_more : (n later : ℕ) → n + 1 + later ≡ n + suc later
one_more n later = omega arith

ended_within : (r : State) (e : Event) (events : List Event) (n : ℕ) → HasEnded r.journal.verdict → Within n r → Within (n + 0) (run (step r e) events)
ended_within r e events n ended most =
    subst (λ (m : ℕ). Within m (run (step r e) events)) (sym (add-zero n)) (subst (Within n) (sym (ended_stays r (e ∷ events) ended)) most)

under_within : (verdict : Verdict) (r : State) (e : Event) (events : List Event) (n later : ℕ) → r.journal.verdict ≡ verdict → Within n r
    → (Within (n + 1) (step r e) → Within (n + 1 + later) (run (step r e) events)) → Within (n + drawn_under verdict suc later) (run (step r e) events)
unfolding drawn_under
under_within Running r e events n later is most rest =
    subst (λ (m : ℕ). Within m (run (step r e) events)) (one_more n later)
    (rest (risen n r.journal.counts (step r e).journal.counts (grows_law r e).counts most))
under_within Shutdown r e events n later is most rest = ended_within r e events n (subst HasEnded (sym is) tt) most
under_within (Stopped rule h at) r e events n later is most rest = ended_within r e events n (subst HasEnded (sym is) tt) most

pub counts_law : CountsLaw
unfolding draw_count
counts_law s [] n most = subst (λ (m : ℕ). Within m s) (sym (add-zero n)) most
counts_law s (e ∷ events) n most = under_within s.journal.verdict s e events n (draw_count (step s e) events) refl most (counts_law (step s e) events (n + 1))
