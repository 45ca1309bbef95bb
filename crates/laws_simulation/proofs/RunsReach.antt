-- Printed bytes taken away, and whole runs of the machine.
use Rattle.std.proofs.Common.{◌≡◌, ℕ, zero, suc, ◌+◌, ◌≤◌, List, [], ◌∷◌, length, drop, refl, sym, ◌∙◌, ap, subst, arith}
use Rattle.sv_types.specs.declared.event.Event.{Event}
use Rattle.spec_reference.specs.States.{State}
use Rattle.spec_reference.specs.Run.{step, run}
use Rattle.spec_reference.specs.Soundness.{IsSound}
use Rattle.spec_hardware.specs.Machine.{Machine}
use Rattle.spec_hardware.specs.StandsFor.{StandsFor, Unseen, IsRightFor, machine_of}
use Rattle.spec_hardware.specs.Reaches.{without_first_printed, ReachesFrom, Stepped, StepsThrough}
use Rattle.laws_simulation.specs.Laws.{ClearLaw, ReachesLaw}
use Rattle.laws_simulation.proofs.TurnsServed.{step_law}

-- ---- printed bytes taken away

pub dropped_twice : (m n : ℕ) (list : List ℕ) → drop n (drop m list) ≡ drop (m + n) list
dropped_twice zero n list = let e : n ≡ 0 + n = omega arith in ap (λ (k : ℕ). drop k list) e
dropped_twice (suc m) zero [] = let e : suc m ≡ suc m + 0 = omega arith in ap (λ (k : ℕ). drop {A = ℕ} k []) e
dropped_twice (suc m) (suc n) [] = let e : suc (m + suc n) ≡ suc m + suc n = omega arith in ap (λ (k : ℕ). drop {A = ℕ} k []) e
dropped_twice (suc m) n (x ∷ list) =
    let e : suc (m + n) ≡ suc m + n = omega arith in dropped_twice m n list ∙ ap (λ (k : ℕ). drop k (x ∷ list)) e

dropped_length : (m n : ℕ) (list : List ℕ) → m ≤ length list → n ≤ length (drop m list) → m + n ≤ length list
dropped_length zero n list small there = omega arith
dropped_length (suc m) n [] small there = absurd (omega arith)
dropped_length (suc m) n (x ∷ list) small there = let rest = dropped_length m n list (omega arith) there in omega arith

cleared_same : (o : Unseen) (r : State) (n : ℕ) → without_first_printed (machine_of o r) n ≡ machine_of (record o { cleared = o.cleared + n }) r
unfolding machine_of
cleared_same o r n = rw (dropped_twice o.cleared n r.journal.printed) refl

cleared_by : (o : Unseen) (r : State) (n : ℕ) → IsRightFor o r → IsSound r → n ≤ length (machine_of o r).journal.printed → StandsFor (without_first_printed (machine_of o r) n) r
unfolding machine_of
cleared_by o r n p s there = record {
  unseen = record o { cleared = o.cleared + n };
  same = cleared_same o r n;
  unseen_is_right = record { views = p.views; region = p.region; exits = p.exits; cleared = dropped_length o.cleared n r.journal.printed p.cleared there };
  sound = s;
}

pub clear_law : ClearLaw
clear_law m after r stands k =
    subst (λ (x : Machine). StandsFor x r) (sym k.same)
    (subst (λ (x : Machine). k.taken ≤ length x.journal.printed → StandsFor (without_first_printed x k.taken) r) (sym stands.same)
    (cleared_by stands.unseen r k.taken stands.unseen_is_right stands.sound) k.there)

-- ---- runs

reaches_from : (m after : Machine) (r : State) (events : List Event) → StandsFor m r → StepsThrough m events after
    → ReachesFrom m r events after × StandsFor after (run r events)
reaches_from m after r [] stands printed = (printed, clear_law m after r stands printed)
reaches_from m after r (e ∷ events) stands steps =
    let first : Stepped m e steps.0 = steps.1.0 in
    let ready : StandsFor first.ready r = clear_law m first.ready r stands first.printed in
    let k = step_law first.ready steps.0 r e ready first.step in
    let rest = reaches_from steps.0 after (step r e) events k.0 steps.1.1 in (
      (steps.0, (record { ready = first.ready; printed = first.printed; event = k.1; stands = k.0 }, rest.0)),
      rest.1,
    )

pub reaches_law : ReachesLaw
reaches_law m after r events new steps =
    let k = reaches_from m after r events new.stands steps in (record { new = new; chain = k.0 }, k.1)
