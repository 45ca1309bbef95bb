-- What a run prints that goes on from a saved state.
use Rattle.std.proofs.Common.{◌≡◌, ℕ, zero, suc, List, [], ◌∷◌, ◌++◌, take, drop, refl, sym, ap, subst, append_assoc}
use Rattle.sv_types.specs.declared.event.Event.{Event}
use Rattle.sv_types.specs.declared.event.Verdict.{Verdict}
use Rattle.sv_types.specs.declared.event.Verdict.TheVariants.{Running, Shutdown, Stopped}
use Rattle.spec_reference.specs.Disk.{disk_bytes}
use Rattle.spec_reference.specs.States.{State}
use Rattle.spec_reference.specs.Report.{output, report}
use Rattle.spec_reference.specs.Run.{step, run, HasEnded}
use Rattle.spec_reference.proofs.Runs.{ended_stays, steps_nowhere}
use Rattle.laws_resume.proofs.AlikeSteps.{alike_law}
use Rattle.laws_resume.specs.Continues.{Alike, drawn_under, draw_count, ContinuesLaw}

-- no run tells them apart
run_alike : (front : List ℕ) (r next : State) (events : List Event) → Alike front r next → Alike front (run r events) (run next events)
run_alike front r next [] alike = alike
run_alike front r next (e ∷ events) alike = run_alike front (step r e) (step next e) events (alike_law front r next e alike)

-- the events that are left, made by the state after the first ones
goes_on_by : (verdict : Verdict) (s : State) (k : ℕ) (e : Event) (events : List Event) → s.journal.verdict ≡ verdict
    → run (run (step s e) (take k events)) (drop (draw_count (step s e) (take k events)) events) ≡ run (step s e) events
    → run (run (step s e) (take k events)) (drop (drawn_under verdict suc (draw_count (step s e) (take k events))) (e ∷ events)) ≡ run (step s e) events
unfolding drawn_under
goes_on_by Running s k e events is rest = rest
goes_on_by Shutdown s k e events is rest =
    let ended : HasEnded s.journal.verdict = subst HasEnded (sym is) tt in
    let same = steps_nowhere s e ended in
    rw (same, ended_stays s (take k events) ended, same) refl
goes_on_by (Stopped rule h at) s k e events is rest =
    let ended : HasEnded s.journal.verdict = subst HasEnded (sym is) tt in
    let same = steps_nowhere s e ended in
    rw (same, ended_stays s (take k events) ended, same) refl

goes_on : (s : State) (k : ℕ) (events : List Event) → run (run s (take k events)) (drop (draw_count s (take k events)) events) ≡ run s events
unfolding draw_count
goes_on s zero events = refl
goes_on s (suc k) [] = refl
goes_on s (suc k) (e ∷ events) = goes_on_by s.journal.verdict s k e events refl (goes_on (step s e) k events)

same_output : (front : List ℕ) (r next : State) → Alike front r next → front ++ output next ≡ output r
same_output front r next alike =
    let text : report next.journal ≡ report r.journal = ap (λ (x : State). report x.journal) alike.rest in
    rw (text, alike.printed) (sym (append_assoc front next.journal.printed (report r.journal)))

continues : (front : List ℕ) (last other : State) → Alike front last other
    → (front ++ output other ≡ output last) × (other.journal.verdict ≡ last.journal.verdict) × (disk_bytes other.devices.disk ≡ disk_bytes last.devices.disk)
continues front last other alike =
    (same_output front last other alike, ap (λ (x : State). x.journal.verdict) alike.rest, ap (λ (x : State). disk_bytes x.devices.disk) alike.rest)

pub continues_law : ContinuesLaw
continues_law s k events resumed none alike =
    let saved : State = run s (take k events) in
    let left : List Event = drop (draw_count s (take k events)) events in
    let front : List ℕ = saved.journal.printed in
    let far : Alike front (run saved left) (run resumed left) = run_alike front saved resumed left alike in
    let whole : Alike front (run s events) (run resumed left) = subst (λ (last : State). Alike front last (run resumed left)) (goes_on s k events) far in
    let c = continues front (run s events) (run resumed left) whole in
    record { output = c.0; verdict = c.1; disk = c.2 }
