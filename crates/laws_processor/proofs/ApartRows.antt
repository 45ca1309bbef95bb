-- No two rows of the instruction table share a word.
use Rattle.std.proofs.Common.{◌≡◌, ℕ, ◌≤◌, List, [], ◌∷◌, length, refl, sym, ◌∙◌, ap, Bool, true, false, cond, arith}
use Rattle.std.specs.Prelude.{filter, bit_and, ◌==◌, ◌&&◌, not}
use Rattle.std.specs.List.{list_all}
use Rattle.std.proofs.lemmas.Nat.{and_assoc, and_comm}
use Rattle.std.proofs.lemmas.Bool.{eqb-true, eq-eqb, and_parts}
use Rattle.spec_processor.specs.Instructions.{Row, has_row, rows}

-- the rows differ in a bit that both fix
abbrev apart : Row → Row → Bool
apart a b = not (bit_and b.match a.mask == bit_and a.match b.mask)

abbrev each_apart : List Row → Bool
each_apart [] = true
each_apart (row ∷ rest) = list_all (apart row) rest && each_apart rest

rows-apart : each_apart rows ≡ true
unfolding rows
rows-apart = refl

-- a word of both rows has each bit that both fix
shared : (w : ℕ) (a b : Row) → has_row w a ≡ true → has_row w b ≡ true → bit_and b.match a.mask ≡ bit_and a.match b.mask
shared w a b e f =
    let first : bit_and b.match a.mask ≡ bit_and (bit_and w b.mask) a.mask = ap (λ (x : ℕ). bit_and x a.mask) (sym (eqb-true (bit_and w b.mask) b.match f)) in
    let swap : bit_and (bit_and w b.mask) a.mask ≡ bit_and (bit_and w a.mask) b.mask =
    and_assoc a.mask w b.mask ∙ ap (bit_and w) (and_comm b.mask a.mask) ∙ sym (and_assoc b.mask w a.mask) in
    first ∙ swap ∙ ap (λ (x : ℕ). bit_and x b.mask) (eqb-true (bit_and w a.mask) a.match e)

never : false ≡ true → ⊥
never e = cc

alone : (w : ℕ) (a : Row) (rs : List Row) → has_row w a ≡ true → list_all (apart a) rs ≡ true → filter (has_row w) rs ≡ []
alone w a [] e all = refl
alone w a (row ∷ rs) e all = step (has_row w row) refl (alone w a rs e (and_parts (apart a row) (list_all (apart a) rs) all).1)
  where
    step : (b : Bool) → has_row w row ≡ b → filter (has_row w) rs ≡ [] → cond b (row ∷ filter (has_row w) rs) (filter (has_row w) rs) ≡ []
    step false f rest = rest
    step true f rest =
        let differ = (and_parts (apart a row) (list_all (apart a) rs) all).0 in
        let same = eq-eqb (bit_and row.match a.mask) (bit_and a.match row.mask) (shared w a row e f) in
        let clash : not true ≡ true = rw same at differ in
        absurd (never clash)

one_row : (w : ℕ) (rs : List Row) → each_apart rs ≡ true → length (filter (has_row w) rs) ≤ 1
one_row w [] h = omega arith
one_row w (row ∷ rs) h = step (has_row w row) refl (one_row w rs (and_parts (list_all (apart row) rs) (each_apart rs) h).1)
  where
    step : (b : Bool) → has_row w row ≡ b → length (filter (has_row w) rs) ≤ 1
        → length (cond b (row ∷ filter (has_row w) rs) (filter (has_row w) rs)) ≤ 1
    step false f rest = rest
    step true f rest = rw (alone w row rs f (and_parts (list_all (apart row) rs) (each_apart rs) h).0) (omega arith)

pub at_most_one_row : (w : ℕ) → length (filter (has_row w) rows) ≤ 1
at_most_one_row w = one_row w rows rows-apart
