-- Entries, each once.
use Rattle.std.proofs.Common.{◌≡◌, ℕ, ◌+◌, ◌≤◌, not, Bool, true, false, List, [], ◌∷◌, ◌++◌, length, refl, sym, subst, arith, cond, append_assoc, append-nil, length-append}
use Rattle.std.specs.Prelude.{◌==◌}
use Rattle.std.specs.List.{fold, list_any}
use Rattle.std.proofs.lemmas.Bool.{and_parts}
use Rattle.sv_types.specs.Policies.{each_within, entries_within, entry_within}
use Rattle.policy_making.specs.Binding.{each_once, with_entry}

-- it stands not among those before it
abbrev pub is_new : (before : List ℕ) (entry : ℕ) → Bool
is_new before entry = not (list_any (λ e. e == entry) before)

within_after : {A : Type 0} (fits : List A → A → Bool) (before xs : List A) (y : A) → each_within fits before xs ≡ true → fits (before ++ xs) y ≡ true
    → each_within fits before (xs ++ y ∷ []) ≡ true
within_after fits before [] y all one = rw (subst (λ (bs : List _). fits bs y ≡ true) (append-nil before) one) refl
within_after fits before (x ∷ xs) y all one =
    let parts = and_parts (fits before x) (each_within fits (before ++ x ∷ []) xs) all in
    let rest = within_after fits (before ++ x ∷ []) xs y parts.1 (subst (λ (bs : List _). fits bs y ≡ true) (sym (append_assoc before (x ∷ []) xs)) one) in
    rw (parts.0, rest) refl

-- what a list of entries is
pub record AreOnce (most : ℕ) (once : List ℕ) : Type 0 where
  pub new : each_within is_new [] once ≡ true
  pub whole : entries_within once ≡ true
  pub few : length once ≤ most

once_more : (most : ℕ) (once : List ℕ) (entry : ℕ) → AreOnce most once → entry_within entry ≡ true → AreOnce (most + 1) (with_entry once entry)
once_more most once entry are whole = by_met (list_any (λ e. e == entry) once) refl
  where
    by_met : (b : Bool) → list_any (λ e. e == entry) once ≡ b → AreOnce (most + 1) (cond b once (once ++ entry ∷ []))
    by_met true is = record { new = are.new; whole = are.whole; few = let few = are.few in omega arith }
    by_met false is = record {
      new = within_after is_new [] once entry are.new (rw is refl);
      whole = within_after (λ before e. entry_within e) [] once entry are.whole whole;
      few = let few = are.few in let long = length-append once (entry ∷ []) in omega arith;
    }

once_from : (most : ℕ) (once entries seen : List ℕ) → AreOnce most once → each_within (λ before e. entry_within e) seen entries ≡ true
    → AreOnce (most + length entries) (fold with_entry once entries)
once_from most once [] seen are whole = record { new = are.new; whole = are.whole; few = let few = are.few in omega arith }
once_from most once (entry ∷ entries) seen are whole =
    let parts = and_parts (entry_within entry) (each_within (λ before e. entry_within e) (seen ++ entry ∷ []) entries) whole in
    let now = once_from (most + 1) (with_entry once entry) entries (seen ++ entry ∷ []) (once_more most once entry are parts.0) parts.1 in
    record { new = now.new; whole = now.whole; few = let few = now.few in omega arith }

pub once : (entries : List ℕ) → entries_within entries ≡ true → AreOnce (length entries) (each_once entries)
unfolding each_once
once entries whole =
    let now = once_from 0 [] entries [] (record { new = refl; whole = refl; few = omega arith }) whole in
    record { new = now.new; whole = now.whole; few = let few = now.few in omega arith }

-- and some where there are some
longer_with : (once : List ℕ) (entry : ℕ) → 1 ≤ length (with_entry once entry)
longer_with once entry = by_met once (list_any (λ e. e == entry) once) refl
  where
    by_met : (once : List ℕ) (b : Bool) → list_any (λ e. e == entry) once ≡ b → 1 ≤ length (cond b once (once ++ entry ∷ []))
    by_met [] true is = absurd (cc is)
    by_met (e ∷ es) true is = omega arith
    by_met es false is = let long = length-append es (entry ∷ []) in omega arith

longer : (once entries : List ℕ) → 1 ≤ length once → 1 ≤ length (fold with_entry once entries)
longer once [] some = some
longer once (entry ∷ entries) some = longer (with_entry once entry) entries (longer_with once entry)

pub some_once : (entries : List ℕ) → 1 ≤ length entries → 1 ≤ length (each_once entries)
unfolding each_once
some_once [] some = absurd (omega arith)
some_once (entry ∷ entries) some = longer (with_entry [] entry) entries (longer_with [] entry)
