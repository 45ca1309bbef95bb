-- Lines of one element after another, as a loop writes them.
use Rattle.std.proofs.Common.{◌≡◌, Option, ℕ, zero, suc, map, ◌+◌, ◌<◌, ◌≤◌, List, [], ◌∷◌, ◌++◌, length, get_or, drop, refl, sym, ap, ◌∙◌, append_assoc, arith, add-one}
use Rattle.std.proofs.Math.Seq.{drop-cons}
use Rattle.std.proofs.lemmas.List.{append-nil, drop_all}
use Rattle.elf64_load.specs.Names.{KernelNames}
use Rattle.cli_snap.specs.Lines.{lines_of, register_line}

-- the lines that are left
abbrev pub lines_from : {A : Type 0} → (ℕ → A → List ℕ) → List A → ℕ → List ℕ
lines_from line xs i = lines_of line i (drop i xs)

left_is : {A : Type 0} (line : ℕ → A → List ℕ) (xs : List A) (i : ℕ) (d : A) → i < length xs →
    lines_from line xs i ≡ line i (get_or xs i d) ++ lines_from line xs (i + 1)
unfolding lines_of
left_is line xs i d inside =
    ap (lines_of line i) (drop-cons xs i d inside)
    ∙ ap (λ n. line i (get_or xs i d) ++ lines_of line (i + 1) (drop n xs)) (sym (add-one i))

pub one_more : {A : Type 0} (d : A) (line : ℕ → A → List ℕ) (xs : List A) (i : ℕ) (whole out next : List ℕ) → i < length xs →
    out ++ lines_from line xs i ≡ whole → next ≡ out ++ line i (get_or xs i d) → next ++ lines_from line xs (i + 1) ≡ whole
one_more d line xs i whole out next inside so_far pushed =
    ap (λ bytes. bytes ++ lines_from line xs (i + 1)) pushed
    ∙ append_assoc out (line i (get_or xs i d)) (lines_from line xs (i + 1))
    ∙ ap (λ bytes. out ++ bytes) (sym (left_is line xs i d inside))
    ∙ so_far

pub all_written : {A : Type 0} (line : ℕ → A → List ℕ) (xs : List A) (i : ℕ) (whole out : List ℕ) → length xs ≤ i →
    out ++ lines_from line xs i ≡ whole → out ≡ whole
unfolding lines_of
all_written line xs i whole out end so_far =
    sym (append-nil out) ∙ ap (λ rest. out ++ lines_of line i rest) (sym (drop_all i xs end)) ∙ so_far

-- the text of the name at a place
pub name_at : {A B : Type 0} (f : A → B) (xs : List A) (i : ℕ) (d : A) (e : B) → i < length xs → get_or (map f xs) i e ≡ f (get_or xs i d)
name_at f [] i d e inside = absurd (omega arith)
name_at f (x ∷ xs) zero d e inside = refl
name_at f (x ∷ xs) (suc i) d e inside = name_at f xs i d e (omega arith)

-- the line of a value more, by the register at its place
pub register_more : {A : Type 0} (f : A → List ℕ) (k : Option KernelNames) (names : List A) (values : List ℕ) (i : ℕ) (d : A) (e : ℕ) (whole out next text line : List ℕ) →
    length values ≤ length names → i < length values →
    out ++ lines_from (λ place value. register_line k (get_or (map f names) place []) value) values i ≡ whole →
    next ≡ out ++ text → text ≡ line → line ≡ register_line k (f (get_or names i d)) (get_or values i e) →
    next ++ lines_from (λ place value. register_line k (get_or (map f names) place []) value) values (i + 1) ≡ whole
register_more f k names values i d e whole out next text line enough inside so_far pushed text_is line_is =
    one_more e (λ place value. register_line k (get_or (map f names) place []) value) values i whole out next inside so_far
    (pushed ∙ ap (λ bytes. out ++ bytes) (text_is ∙ line_is
    ∙ ap (λ name. register_line k name (get_or values i e)) (sym (name_at f names i d [] (omega arith)))))
