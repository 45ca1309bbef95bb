-- One run more, and what it makes of the counts.
use Rattle.std.proofs.Common.{◌≡◌, ◌≤◌, ℕ, suc, ◌+◌, ◌==◌, Bool, true, false, ◌&&◌, ◌||◌, not, cond, if◌then◌else◌, List, [], ◌∷◌, ◌++◌}
use Rattle.std.proofs.Common.{length, map, filter, Some, None, unwrap_or, refl, sym, ◌∙◌, ap, ap₂, subst, arith, true≢false, length-append}
use Rattle.std.specs.List.{list_any}
use Rattle.std.specs.Map.{lookup}
use Rattle.std.proofs.lemmas.Bool.{eqb-true}
use Rattle.std.proofs.lemmas.Bool.Decides.{nat_tests}
use Rattle.std.specs.Cmp.{first_so, second_so}
use Rattle.indexmap.specs.IndexMap.{insert_entry}
use Rattle.script_lines.specs.declared.tally.outcome.Outcome.{Outcome}
use Rattle.script_lines.specs.declared.tally.outcome.Outcome.TheVariants.{ShutDown, Entry, Write, Ended}
use Rattle.script_lines.specs.declared.tally.tally.Tally.{Tally}
use Rattle.script_lines.specs.contracts.tally.outcome.OutcomePartialEq.TheImpl.{eq-value as eq}
use Rattle.script_lines.specs.Tallies.{same, numbers_of, least, tally_of, distinct, tallies_of, no_runs, tally_in, with_run}

-- ---- the same way to end

by_bool : {P : Type 0} (b : Bool) → (b ≡ true → P) → (b ≡ false → P) → P
by_bool true yes_ no_ = yes_ refl
by_bool false yes_ no_ = no_ refl

same_is : (a b : Outcome) → same a b ≡ true → a ≡ b
same_is ShutDown ShutDown is = refl
same_is ShutDown (Entry target) is = absurd (cc)
same_is ShutDown (Write pc gpa) is = absurd (cc)
same_is ShutDown Ended is = absurd (cc)
same_is (Entry target) ShutDown is = absurd (cc)
same_is (Entry target) (Entry other) is = ap Entry (eqb-true target other is)
same_is (Entry target) (Write pc gpa) is = absurd (cc)
same_is (Entry target) Ended is = absurd (cc)
same_is (Write pc gpa) ShutDown is = absurd (cc)
same_is (Write pc gpa) (Entry target) is = absurd (cc)
same_is (Write pc gpa) (Write other place) is =
    ap (λ p. Write p gpa) (eqb-true pc other (first_so (pc == other) (gpa == place) is))
    ∙ ap (λ g. Write other g) (eqb-true gpa place (second_so (pc == other) (gpa == place) is))
same_is (Write pc gpa) Ended is = absurd (cc)
same_is Ended ShutDown is = absurd (cc)
same_is Ended (Entry target) is = absurd (cc)
same_is Ended (Write pc gpa) is = absurd (cc)
same_is Ended Ended is = refl

own : (n : ℕ) → (n == n) ≡ true
own n = grind (arith)

same_own : (a : Outcome) → same a a ≡ true
same_own ShutDown = refl
same_own (Entry target) = own target
same_own (Write pc gpa) = ap₂ (λ a b. a && b) (own pc) (own gpa)
same_own Ended = refl

same_back : (a b : Outcome) → same a b ≡ same b a
same_back a b =
    by_bool (same a b)
    (λ is. is ∙ sym (subst (λ c. same c a ≡ true) (same_is a b is) (same_own a)))
    (λ isnt. by_bool (same b a) (λ is. absurd (true≢false (sym (subst (λ c. same c b ≡ true) (same_is b a is) (same_own b)) ∙ isnt))) (λ other. isnt ∙ sym other))

-- ---- the numbers of one way to end

-- the number of the last run, where it ended so
last_number : Outcome → (number : ℕ) → Outcome → List ℕ
last_number outcome number other = if same outcome other then number ∷ [] else []

numbers_more : (outcome : Outcome) (first : ℕ) (outcomes : List Outcome) (last : Outcome) →
    numbers_of outcome first (outcomes ++ last ∷ []) ≡ numbers_of outcome first outcomes ++ last_number outcome (first + length outcomes) last
unfolding last_number
numbers_more outcome first [] last = let same_place : first ≡ first + 0 = omega arith in ap (λ n. if same outcome last then n ∷ [] else []) same_place
numbers_more outcome first (other ∷ more) last =
    let place : suc first + length more ≡ first + suc (length more) = omega arith in
    let rest = numbers_more outcome (suc first) more last ∙ ap (λ n. numbers_of outcome (suc first) more ++ last_number outcome n last) place in
    by_bool (same outcome other)
    (λ is.
    ap (λ b. if b then first ∷ numbers_of outcome (suc first) (more ++ last ∷ []) else numbers_of outcome (suc first) (more ++ last ∷ [])) is
    ∙ ap (λ ns. first ∷ ns) rest
    ∙ ap (λ b. (if b then first ∷ numbers_of outcome (suc first) more else numbers_of outcome (suc first) more) ++ last_number outcome (first + suc (length more)) last) (sym is))
    (λ isnt.
    ap (λ b. if b then first ∷ numbers_of outcome (suc first) (more ++ last ∷ []) else numbers_of outcome (suc first) (more ++ last ∷ [])) isnt
    ∙ rest
    ∙ ap (λ b. (if b then first ∷ numbers_of outcome (suc first) more else numbers_of outcome (suc first) more) ++ last_number outcome (first + suc (length more)) last) (sym isnt))

numbers_few : (outcome : Outcome) (first : ℕ) (outcomes : List Outcome) → length (numbers_of outcome first outcomes) ≤ length outcomes
numbers_few outcome first [] = omega arith
numbers_few outcome first (other ∷ more) =
    let rest = numbers_few outcome (suc first) more in
    by_bool (same outcome other)
    (λ is. subst (λ b. length (if b then first ∷ numbers_of outcome (suc first) more else numbers_of outcome (suc first) more) ≤ suc (length more)) (sym is) (omega (arith, rest)))
    (λ isnt. subst (λ b. length (if b then first ∷ numbers_of outcome (suc first) more else numbers_of outcome (suc first) more) ≤ suc (length more)) (sym isnt) (omega (arith, rest)))

-- ---- a tally of numbers

tally_from : List ℕ → Tally
tally_from numbers = record { runs = length numbers; first = least numbers }

tally_from_more : (numbers : List ℕ) (last : ℕ) → tally_from (numbers ++ last ∷ []) ≡ with_run last (tally_from numbers)
unfolding tally_from
tally_from_more [] last = refl
tally_from_more (number ∷ more) last =
    let count : length (more ++ last ∷ []) ≡ suc (length more) = omega (arith, length-append more (last ∷ [])) in
    let some : (suc (length more) == 0) ≡ false = grind (arith, nat_tests) in
    ap (λ (n : ℕ). record { runs = suc n; first = number }) count
    ∙ ap (λ (b : Bool). if b then record { runs = 1; first = last } else record { runs = suc (suc (length more)); first = number }) (sym some)

tally_same : (outcome : Outcome) (first : ℕ) (outcomes : List Outcome) (last : Outcome) → same outcome last ≡ true →
    tally_of outcome first (outcomes ++ last ∷ []) ≡ with_run (first + length outcomes) (tally_of outcome first outcomes)
unfolding tally_from last_number
tally_same outcome first outcomes last is =
    ap tally_from (numbers_more outcome first outcomes last
    ∙ ap (λ b. numbers_of outcome first outcomes ++ (if b then (first + length outcomes) ∷ [] else [])) is)
    ∙ tally_from_more (numbers_of outcome first outcomes) (first + length outcomes)

tally_other : (outcome : Outcome) (first : ℕ) (outcomes : List Outcome) (last : Outcome) → same outcome last ≡ false →
    tally_of outcome first (outcomes ++ last ∷ []) ≡ tally_of outcome first outcomes
unfolding tally_from last_number
tally_other outcome first outcomes last isnt =
    ap tally_from (numbers_more outcome first outcomes last
    ∙ ap (λ b. numbers_of outcome first outcomes ++ (if b then (first + length outcomes) ∷ [] else [])) isnt
    ∙ append-none (numbers_of outcome first outcomes))
  where
    append-none : (ns : List ℕ) → ns ++ [] ≡ ns
    append-none [] = refl
    append-none (n ∷ ns) = ap (λ rest. n ∷ rest) (append-none ns)

-- ---- the distinct ways to end

-- these, and one more where it isn't among them
with_one : Outcome → List Outcome → List Outcome
with_one outcome [] = outcome ∷ []
with_one outcome (other ∷ more) = if same outcome other then other ∷ more else other ∷ with_one outcome more

has : Outcome → List Outcome → Bool
has outcome outcomes = list_any (same outcome) outcomes

-- those that aren't this one
others : Outcome → List Outcome → List Outcome
others outcome outcomes = filter (λ other. not (same outcome other)) outcomes

-- none comes twice
abbrev AreDistinct : List Outcome → Type 0
AreDistinct [] = Unit {0}
AreDistinct (outcome ∷ more) = (has outcome more ≡ false) × AreDistinct more

with_one_has : (outcome other : Outcome) (outcomes : List Outcome) → has other (with_one outcome outcomes) ≡ (same other outcome || has other outcomes)
unfolding has with_one
with_one_has outcome other [] = refl
with_one_has outcome other (first ∷ more) =
    by_bool (same outcome first)
    (λ is.
    ap (λ b. list_any (same other) (if b then first ∷ more else first ∷ with_one outcome more)) is
    ∙ known (same other outcome) (same other first) (has other more) (λ e. subst (λ o. same other o ≡ true) (same_is outcome first is) e))
    (λ isnt.
    ap (λ b. list_any (same other) (if b then first ∷ more else first ∷ with_one outcome more)) isnt
    ∙ ap (λ b. same other first || b) (with_one_has outcome other more)
    ∙ swapped (same other first) (same other outcome) (has other more))
  where
    known : (a b c : Bool) → (a ≡ true → b ≡ true) → (b || c) ≡ (a || (b || c))
    known true b c follows = ap (λ d. d || c) (follows refl)
    known false b c follows = refl

    swapped : (a b c : Bool) → (a || (b || c)) ≡ (b || (a || c))
    swapped true true c = refl
    swapped true false c = refl
    swapped false true c = refl
    swapped false false c = refl

others_has : (outcome other : Outcome) (outcomes : List Outcome) → has other (others outcome outcomes) ≡ true → has other outcomes ≡ true
unfolding has others
others_has outcome other [] is = is
others_has outcome other (first ∷ more) is =
    by_bool (same outcome first)
    (λ gone. either (same other first) (others_has outcome other more (sym (ap (λ b. list_any (same other) (cond (not b) (first ∷ others outcome more) (others outcome more))) gone) ∙ is)))
    (λ kept. by_bool (same other first)
    (λ e. ap (λ b. b || has other more) e)
    (λ e. either (same other first) (others_has outcome other more
    (sym (ap (λ b. b || has other (others outcome more)) e) ∙ sym (ap (λ b. list_any (same other) (cond (not b) (first ∷ others outcome more) (others outcome more))) kept) ∙ is))))
  where
    either : (a : Bool) {b : Bool} → b ≡ true → (a || b) ≡ true
    either true e = refl
    either false e = e

-- none of the others is this one
others_without : (outcome : Outcome) (outcomes : List Outcome) → has outcome (others outcome outcomes) ≡ false
unfolding has others
others_without outcome [] = refl
others_without outcome (first ∷ more) =
    by_bool (same outcome first)
    (λ gone. ap (λ b. list_any (same outcome) (cond (not b) (first ∷ others outcome more) (others outcome more))) gone ∙ others_without outcome more)
    (λ kept.
    ap (λ b. list_any (same outcome) (cond (not b) (first ∷ others outcome more) (others outcome more))) kept
    ∙ ap (λ b. b || has outcome (others outcome more)) kept ∙ others_without outcome more)

others_distinct : (outcome : Outcome) (outcomes : List Outcome) → AreDistinct outcomes → AreDistinct (others outcome outcomes)
unfolding has others
others_distinct outcome [] are = tt
others_distinct outcome (first ∷ more) are =
    let rest = others_distinct outcome more are.1 in
    by_bool (same outcome first)
    (λ gone. subst (λ b. AreDistinct (cond (not b) (first ∷ others outcome more) (others outcome more))) (sym gone) rest)
    (λ kept. subst (λ b. AreDistinct (cond (not b) (first ∷ others outcome more) (others outcome more))) (sym kept)
    (by_bool (has first (others outcome more)) (λ e. absurd (true≢false (sym (others_has outcome first more e) ∙ are.0))) (λ e. e), rest))

distinct_distinct : (outcomes : List Outcome) → AreDistinct (distinct outcomes)
unfolding others
distinct_distinct [] = tt
distinct_distinct (outcome ∷ more) = (others_without outcome (distinct more), others_distinct outcome (distinct more) (distinct_distinct more))

-- one more, and then without one of them
others_with_same : (outcome : Outcome) (outcomes : List Outcome) → others outcome (with_one outcome outcomes) ≡ others outcome outcomes
unfolding others with_one
others_with_same outcome [] = ap (λ b. cond (not b) (outcome ∷ []) []) (same_own outcome)
others_with_same outcome (first ∷ more) =
    by_bool (same outcome first)
    (λ is. ap (λ b. others outcome (if b then first ∷ more else first ∷ with_one outcome more)) is)
    (λ isnt.
    ap (λ b. others outcome (if b then first ∷ more else first ∷ with_one outcome more)) isnt
    ∙ ap (λ rest. cond (not (same outcome first)) (first ∷ rest) rest) (others_with_same outcome more))

others_with_other : (outcome last : Outcome) (outcomes : List Outcome) → same outcome last ≡ false →
    others outcome (with_one last outcomes) ≡ with_one last (others outcome outcomes)
unfolding others with_one
others_with_other outcome last [] isnt = ap (λ b. cond (not b) (last ∷ []) []) isnt
others_with_other outcome last (first ∷ more) isnt =
    let rest = others_with_other outcome last more isnt in
    by_bool (same last first)
    (λ is.
    let kept : same outcome first ≡ false = subst (λ o. same outcome o ≡ false) (same_is last first is) isnt in
    ap (λ b. others outcome (if b then first ∷ more else first ∷ with_one last more)) is
    ∙ ap (λ b. cond (not b) (first ∷ others outcome more) (others outcome more)) kept
    ∙ sym (ap (λ b. if b then first ∷ others outcome more else first ∷ with_one last (others outcome more)) is)
    ∙ sym (ap (λ b. with_one last (cond (not b) (first ∷ others outcome more) (others outcome more))) kept))
    (λ other.
    ap (λ b. others outcome (if b then first ∷ more else first ∷ with_one last more)) other
    ∙ ap (λ os. cond (not (same outcome first)) (first ∷ os) os) rest
    ∙ by_bool (same outcome first)
    (λ gone.
    ap (λ b. cond (not b) (first ∷ with_one last (others outcome more)) (with_one last (others outcome more))) gone
    ∙ sym (ap (λ b. with_one last (cond (not b) (first ∷ others outcome more) (others outcome more))) gone))
    (λ kept.
    ap (λ b. cond (not b) (first ∷ with_one last (others outcome more)) (with_one last (others outcome more))) kept
    ∙ sym (ap (λ b. if b then first ∷ others outcome more else first ∷ with_one last (others outcome more)) other)
    ∙ sym (ap (λ b. with_one last (cond (not b) (first ∷ others outcome more) (others outcome more))) kept)))

distinct_more : (outcomes : List Outcome) (last : Outcome) → distinct (outcomes ++ last ∷ []) ≡ with_one last (distinct outcomes)
unfolding others with_one
distinct_more [] last = refl
distinct_more (outcome ∷ more) last =
    ap (λ os. outcome ∷ others outcome os) (distinct_more more last)
    ∙ by_bool (same last outcome)
    (λ is.
    ap (λ os. outcome ∷ os) (subst (λ o. others outcome (with_one o (distinct more)) ≡ others outcome (distinct more)) (sym (same_is last outcome is)) (others_with_same outcome (distinct more)))
    ∙ sym (ap (λ b. if b then outcome ∷ others outcome (distinct more) else outcome ∷ with_one last (others outcome (distinct more))) is))
    (λ isnt.
    ap (λ os. outcome ∷ os) (others_with_other outcome last (distinct more) (same_back outcome last ∙ isnt))
    ∙ sym (ap (λ b. if b then outcome ∷ others outcome (distinct more) else outcome ∷ with_one last (others outcome (distinct more))) isnt))

-- ---- entries

entry_of : (Outcome → Tally) → Outcome → Outcome × Tally
entry_of f outcome = (outcome, f outcome)

-- this tally at one, and the others as they were
at_one : Outcome → Tally → (Outcome → Tally) → Outcome → Tally
at_one outcome tally f other = if same outcome other then tally else f other

left_alone : (outcome : Outcome) (tally : Tally) (f : Outcome → Tally) (outcomes : List Outcome) → has outcome outcomes ≡ false →
    map (entry_of f) outcomes ≡ map (entry_of (at_one outcome tally f)) outcomes
unfolding has entry_of at_one
left_alone outcome tally f [] isnt = refl
left_alone outcome tally f (first ∷ more) isnt =
    let apart = neither (same outcome first) (has outcome more) isnt in
    ap₂ (λ t rest. (first, t) ∷ rest) (sym (ap (λ b. if b then tally else f first) apart.0)) (left_alone outcome tally f more apart.1)
  where
    neither : (a b : Bool) → (a || b) ≡ false → (a ≡ false) × (b ≡ false)
    neither true b is = absurd (cc)
    neither false b is = (refl, is)

inserted : (outcome : Outcome) (tally : Tally) (f : Outcome → Tally) (outcomes : List Outcome) → AreDistinct outcomes →
    insert_entry same (map (entry_of f) outcomes) outcome tally ≡ map (entry_of (at_one outcome tally f)) (with_one outcome outcomes)
unfolding entry_of at_one with_one
inserted outcome tally f [] are = ap (λ b. (outcome, if b then tally else f outcome) ∷ []) (sym (same_own outcome))
inserted outcome tally f (first ∷ more) are =
    by_bool (same outcome first)
    (λ is.
    let gone : has outcome more ≡ false = subst (λ o. has o more ≡ false) (sym (same_is outcome first is)) are.0 in
    ap (λ b. if b then (first, tally) ∷ map (entry_of f) more else (first, f first) ∷ insert_entry same (map (entry_of f) more) outcome tally) is
    ∙ ap₂ (λ t rest. (first, t) ∷ rest) (sym (ap (λ b. if b then tally else f first) is)) (left_alone outcome tally f more gone)
    ∙ sym (ap (λ b. map (entry_of (at_one outcome tally f)) (if b then first ∷ more else first ∷ with_one outcome more)) is))
    (λ isnt.
    ap (λ b. if b then (first, tally) ∷ map (entry_of f) more else (first, f first) ∷ insert_entry same (map (entry_of f) more) outcome tally) isnt
    ∙ ap₂ (λ t rest. (first, t) ∷ rest) (sym (ap (λ b. if b then tally else f first) isnt)) (inserted outcome tally f more are.1)
    ∙ sym (ap (λ b. map (entry_of (at_one outcome tally f)) (if b then first ∷ more else first ∷ with_one outcome more)) isnt))

looked_up : (outcome : Outcome) (f : Outcome → Tally) (outcomes : List Outcome) →
    lookup (same outcome) (map (entry_of f) outcomes) ≡ (if has outcome outcomes then Some (f outcome) else None)
unfolding has entry_of
looked_up outcome f [] = refl
looked_up outcome f (first ∷ more) =
    by_bool (same outcome first)
    (λ is.
    ap (λ b. cond b (Some (f first)) (lookup (same outcome) (map (entry_of f) more))) is
    ∙ ap (λ o. Some (f o)) (sym (same_is outcome first is))
    ∙ sym (ap (λ b. if b || has outcome more then Some (f outcome) else None) is))
    (λ isnt.
    ap (λ b. cond b (Some (f first)) (lookup (same outcome) (map (entry_of f) more))) isnt
    ∙ looked_up outcome f more
    ∙ sym (ap (λ b. if b || has outcome more then Some (f outcome) else None) isnt))

others_keep : (outcome other : Outcome) (outcomes : List Outcome) → same outcome other ≡ false → has other outcomes ≡ true → has other (others outcome outcomes) ≡ true
unfolding has others
others_keep outcome other [] apart is = is
others_keep outcome other (first ∷ more) apart is =
    by_bool (same other first)
    (λ e.
    let kept : same outcome first ≡ false = subst (λ o. same outcome o ≡ false) (same_is other first e) apart in
    ap (λ b. list_any (same other) (cond (not b) (first ∷ others outcome more) (others outcome more))) kept
    ∙ ap (λ b. b || has other (others outcome more)) e)
    (λ e.
    let rest = others_keep outcome other more apart (sym (ap (λ b. b || has other more) e) ∙ is) in
    by_bool (same outcome first)
    (λ gone. ap (λ b. list_any (same other) (cond (not b) (first ∷ others outcome more) (others outcome more))) gone ∙ rest)
    (λ kept.
    ap (λ b. list_any (same other) (cond (not b) (first ∷ others outcome more) (others outcome more))) kept
    ∙ ap (λ b. b || has other (others outcome more)) e ∙ rest))

-- what isn't among the ways to end has no number
none_of : (outcome : Outcome) (first : ℕ) (outcomes : List Outcome) → has outcome (distinct outcomes) ≡ false → numbers_of outcome first outcomes ≡ []
unfolding has others
none_of outcome first [] isnt = refl
none_of outcome first (other ∷ more) isnt =
    let apart = neither (same outcome other) (has outcome (others other (distinct more))) isnt in
    let rest : has outcome (distinct more) ≡ false =
    by_bool (has outcome (distinct more))
    (λ is. absurd (true≢false (sym (others_keep other outcome (distinct more) (same_back other outcome ∙ apart.0) is) ∙ apart.1)))
    (λ isnt. isnt) in
    ap (λ b. if b then first ∷ numbers_of outcome (suc first) more else numbers_of outcome (suc first) more) apart.0
    ∙ none_of outcome (suc first) more rest
  where
    neither : (a b : Bool) → (a || b) ≡ false → (a ≡ false) × (b ≡ false)
    neither true b is = absurd (cc)
    neither false b is = (refl, is)

-- ---- the whole

abbrev tallied : (first : ℕ) → List Outcome → Outcome → Tally
tallied first outcomes outcome = tally_of outcome first outcomes

pub tally_found : (outcome : Outcome) (first : ℕ) (outcomes : List Outcome) → tally_in outcome (tallies_of first outcomes) ≡ tally_of outcome first outcomes
unfolding entry_of tally_from
tally_found outcome first outcomes =
    ap (λ o. unwrap_or o no_runs) (looked_up outcome (tallied first outcomes) (distinct outcomes))
    ∙ by_bool (has outcome (distinct outcomes))
    (λ is. ap (λ b. unwrap_or (if b then Some (tally_of outcome first outcomes) else None) no_runs) is)
    (λ isnt.
    ap (λ b. unwrap_or (if b then Some (tally_of outcome first outcomes) else None) no_runs) isnt
    ∙ ap tally_from (sym (none_of outcome first outcomes isnt)))

pub runs_few : (outcome : Outcome) (first : ℕ) (outcomes : List Outcome) → (tally_in outcome (tallies_of first outcomes)).runs ≤ length outcomes
runs_few outcome first outcomes =
    subst (λ (t : Tally). t.runs ≤ length outcomes) (sym (tally_found outcome first outcomes)) (numbers_few outcome first outcomes)

one_more_each : (first : ℕ) (outcomes : List Outcome) (last other : Outcome) →
    at_one last (with_run (first + length outcomes) (tally_of last first outcomes)) (tallied first outcomes) other ≡ tally_of other first (outcomes ++ last ∷ [])
unfolding at_one
one_more_each first outcomes last other =
    by_bool (same last other)
    (λ is.
    ap (λ b. if b then with_run (first + length outcomes) (tally_of last first outcomes) else tally_of other first outcomes) is
    ∙ subst (λ o. with_run (first + length outcomes) (tally_of last first outcomes) ≡ tally_of o first (outcomes ++ last ∷ [])) (same_is last other is)
    (sym (tally_same last first outcomes last (same_own last))))
    (λ isnt.
    ap (λ b. if b then with_run (first + length outcomes) (tally_of last first outcomes) else tally_of other first outcomes) isnt
    ∙ sym (tally_other other first outcomes last (same_back other last ∙ isnt)))

each_entry : (f g : Outcome → Tally) (outcomes : List Outcome) → ((o : Outcome) → f o ≡ g o) → map (entry_of f) outcomes ≡ map (entry_of g) outcomes
unfolding entry_of
each_entry f g [] all = refl
each_entry f g (outcome ∷ more) all = ap₂ (λ t rest. (outcome, t) ∷ rest) (all outcome) (each_entry f g more all)

-- the entries with one run more
pub one_run_more : (first : ℕ) (outcomes : List Outcome) (last : Outcome) →
    insert_entry same (tallies_of first outcomes) last (with_run (first + length outcomes) (tally_in last (tallies_of first outcomes)))
    ≡ tallies_of first (outcomes ++ last ∷ [])
unfolding entry_of
one_run_more first outcomes last =
    ap (λ t. insert_entry same (tallies_of first outcomes) last (with_run (first + length outcomes) t)) (tally_found last first outcomes)
    ∙ inserted last (with_run (first + length outcomes) (tally_of last first outcomes)) (tallied first outcomes) (distinct outcomes) (distinct_distinct outcomes)
    ∙ ap (λ os. map (entry_of (at_one last (with_run (first + length outcomes) (tally_of last first outcomes)) (tallied first outcomes))) os) (sym (distinct_more outcomes last))
    ∙ each_entry (at_one last (with_run (first + length outcomes) (tally_of last first outcomes)) (tallied first outcomes)) (tallied first (outcomes ++ last ∷ []))
    (distinct (outcomes ++ last ∷ [])) (one_more_each first outcomes last)

-- ---- the equality that was derived

pub derived_same : (a b : Outcome) → eq.it a b ≡ same a b
derived_same ShutDown ShutDown = refl
derived_same ShutDown (Entry target) = refl
derived_same ShutDown (Write pc gpa) = refl
derived_same ShutDown Ended = refl
derived_same (Entry target) ShutDown = refl
derived_same (Entry target) (Entry other) = refl
derived_same (Entry target) (Write pc gpa) = refl
derived_same (Entry target) Ended = refl
derived_same (Write pc gpa) ShutDown = refl
derived_same (Write pc gpa) (Entry target) = refl
derived_same (Write pc gpa) (Write other place) = refl
derived_same (Write pc gpa) Ended = refl
derived_same Ended ShutDown = refl
derived_same Ended (Entry target) = refl
derived_same Ended (Write pc gpa) = refl
derived_same Ended Ended = refl

pub derived_test : (a : Outcome) → eq.it a ≡ same a
derived_test a = λ j b. derived_same a b j

pub derived : eq.it ≡ same
derived = λ j a b. derived_same a b j
