-- The entries of the ways to stop.
use Rattle.std.proofs.Common.{◌≡◌, ◌⊎◌, inl, inr, min, ◌≤◌, ℕ, suc, ◌+◌, true, false, if◌then◌else◌, List, [], ◌∷◌, ◌++◌, length, take}
use Rattle.std.proofs.Common.{drop, Some, slice_get, refl, sym, ◌∙◌, ap, arith, add-one, append_assoc}
use Rattle.std.proofs.Math.Seq.{drop-cons}
use Rattle.std.proofs.lemmas.List.{take_all}
use Rattle.std.proofs.lemmas.Bool.Decides.{nat_tests}
use Rattle.std.proofs.lemmas.Option.{slice_get_within, get_or_from_slice_get}
use Rattle.script_lines.specs.declared.tally.outcome.Outcome.{Outcome}
use Rattle.script_lines.specs.declared.tally.tally.Tally.{Tally}
use Rattle.script_lines.specs.TallyLines.{is_stop, stops_of}

dropped_next : (entries : List (Outcome × Tally)) (place : ℕ) (entry : Outcome × Tally) → slice_get entries place ≡ Some entry →
    drop place entries ≡ entry ∷ drop (place + 1) entries
dropped_next entries place entry at =
    drop-cons entries place entry (slice_get_within entries place entry at)
    ∙ ap (λ (x : Outcome × Tally). x ∷ drop (suc place) entries) (get_or_from_slice_get entries place entry entry at)
    ∙ ap (λ (n : ℕ). entry ∷ drop n entries) (sym (add-one place))

one_and_rest : (entry : Outcome × Tally) (more : List (Outcome × Tally)) → stops_of (entry ∷ more) ≡ stops_of (entry ∷ []) ++ stops_of more
one_and_rest (outcome, tally) more = elim (is_stop outcome) as (λ b. (if b then (outcome, tally) ∷ stops_of more else stops_of more) ≡ (if b then (outcome, tally) ∷ [] else []) ++ stops_of more) [
  | true ↦ refl
  | false ↦ refl
]

pub stops_more : (entries stops : List (Outcome × Tally)) (place : ℕ) (entry : Outcome × Tally) → slice_get entries place ≡ Some entry →
    (stops ++ stops_of (entry ∷ [])) ++ stops_of (drop (place + 1) entries) ≡ stops ++ stops_of (drop place entries)
stops_more entries stops place entry at =
    append_assoc stops (stops_of (entry ∷ [])) (stops_of (drop (place + 1) entries))
    ∙ ap (λ (es : List (Outcome × Tally)). stops ++ es) (sym (one_and_rest entry (drop (place + 1) entries)))
    ∙ ap (λ (es : List (Outcome × Tally)). stops ++ stops_of es) (sym (dropped_next entries place entry at))

pub few_are_all : {A : Type 0} (items : List A) (n k : ℕ) → k ≡ min (length items) n → take k items ≡ take n items
few_are_all items n k is =
    let few : (length items ≤ n) ⊎ (n ≤ length items) = grind (arith, nat_tests) in
    elim few as (λ _. take k items ≡ take n items) [
      | inl all ↦ (let end : length items ≤ k = omega arith in take_all k items end ∙ sym (take_all n items all))
      | inr many ↦ (let end : k ≡ n = omega arith in ap (λ (m : ℕ). take m items) end)
    ]
