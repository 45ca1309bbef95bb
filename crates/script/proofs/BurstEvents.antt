-- Turns that are drawn in a row, by a hart that is alone and in a burst.
use Rattle.std.proofs.Common.{◌≡◌, ℕ, zero, suc, ◌+◌, ◌-◌, ◌*◌, ◌/◌, ◌%◌, ◌^◌, ◌≤◌, Bool, true, if◌then◌else◌, refl, sym, ◌∙◌, ap, subst, Option, Some, arith, add-one}
use Rattle.std.specs.Prelude.{nat_lt}
use Rattle.std.proofs.lemmas.Nat.{one_shl}
use Rattle.sv_types.specs.declared.event.Event.{Event}
use Rattle.sv_types.specs.declared.event.Event.TheVariants.{Turn, Beat, Tick}
use Rattle.sv_types.specs.Schedule.{Schedule, Auto, Bursts, next_event, after_event, next_random, drawn_hart, event_among, kind_shift, first_ticks, drawn_ticks}
use Rattle.script.specs.Runs.{Draws}
use Rattle.script.specs.TurnNumbers.{is_turn, DrawTurns}

-- ---- lengths

pub shifted : (n : ℕ) → (1 * 2 ^ (n % 13)) % 2 ^ 64 ≡ 2 ^ (n % 13)
shifted n = one_shl (n % 13) 64 (omega arith)

-- ---- one event

turn_among : (hart x : ℕ) → is_turn x ≡ true → Turn hart ≡ event_among hart x
turn_among hart x is =
    ap (λ (b : Bool). if b then Turn hart else if nat_lt (x / 2 ^ kind_shift) first_ticks then Beat else Tick drawn_ticks) (sym is)

-- ---- turns in a row

pub turns_more : (n old mid new : ℕ) → DrawTurns n old mid → is_turn (next_random mid) ≡ true → new ≡ next_random mid → DrawTurns (n + 1) old new
turns_more n old mid new before turn last =
    subst (λ (k : ℕ). DrawTurns k old new) (sym (add-one n)) (mid, (before, (turn, last)))

-- those of the only hart
turns_of_one : (n old new : ℕ) → DrawTurns n old new → Draws n (Turn 0) (Auto 1 old) (Auto 1 new)
turns_of_one zero old new same = ap (λ (k : ℕ). Auto 1 k) same
turns_of_one (suc n) old new (mid, (before, (turn, last))) =
    let first : 0 ≡ drawn_hart 1 (next_random mid) = omega arith in (
      Auto 1 mid,
      (
        turns_of_one n old mid before,
        (ap (λ (h : ℕ). Some (Turn h)) first ∙ ap (λ (e : Event). Some e) (turn_among (drawn_hart 1 (next_random mid)) (next_random mid) turn), ap (λ (k : ℕ). Auto 1 k) last),
      ),
    )

pub turns_alone : (n hart harts old new : ℕ) (s : Schedule) → harts ≡ 1 → hart ≡ 0 → DrawTurns n old new → Auto harts old ≡ s → Draws n (Turn hart) s (Auto harts new)
turns_alone n hart harts old new s one first drawn shown =
    subst (λ (t : Schedule). Draws n (Turn hart) t (Auto harts new)) shown
    (subst (λ (k : ℕ). Draws n (Turn hart) (Auto k old) (Auto k new)) (sym one)
    (subst (λ (h : ℕ). Draws n (Turn h) (Auto 1 old) (Auto 1 new)) (sym first) (turns_of_one n old new drawn)))

-- one more of a burst's hart
one_more : (harts hart left rest number : ℕ) → left ≡ suc rest → is_turn (next_random number) ≡ true →
    (Some (Turn hart) ≡ next_event (Bursts harts hart left number)) × (Bursts harts hart rest (next_random number) ≡ after_event (Bursts harts hart left number))
one_more harts hart left rest number some turn =
    subst (λ (n : ℕ). (Some (Turn hart) ≡ next_event (Bursts harts hart n number)) × (Bursts harts hart rest (next_random number) ≡ after_event (Bursts harts hart n number)))
    (sym some) (ap (λ (e : Event). Some e) (turn_among hart (next_random number) turn), refl)

turns_of_burst : (n harts hart left old new : ℕ) → n ≤ left → DrawTurns n old new → Draws n (Turn hart) (Bursts harts hart left old) (Bursts harts hart (left - n) new)
turns_of_burst zero harts hart left old new few same =
    let all : left - 0 ≡ left = omega arith in
    ap (λ (n : ℕ). Bursts harts hart n new) all ∙ ap (λ (k : ℕ). Bursts harts hart left k) same
turns_of_burst (suc n) harts hart left old new few (mid, (before, (turn, last))) =
    let some : left - n ≡ suc (left - suc n) = omega (arith, few) in
    let more = one_more harts hart (left - n) (left - suc n) mid some turn in (
      Bursts harts hart (left - n) mid,
      (
        turns_of_burst n harts hart left old mid (omega (arith, few)) before,
        (more.0, ap (λ (k : ℕ). Bursts harts hart (left - suc n) k) last ∙ more.1),
      ),
    )

pub turns_in_burst : (n harts hart here left old new : ℕ) (s : Schedule) → here ≡ hart → n ≤ left → DrawTurns n old new → Bursts harts hart left old ≡ s →
    Draws n (Turn here) s (Bursts harts hart (left - n) new)
turns_in_burst n harts hart here left old new s same few drawn shown =
    subst (λ (t : Schedule). Draws n (Turn here) t (Bursts harts hart (left - n) new)) shown
    (subst (λ (h : ℕ). Draws n (Turn h) (Bursts harts hart left old) (Bursts harts hart (left - n) new)) (sym same) (turns_of_burst n harts hart left old new few drawn))
