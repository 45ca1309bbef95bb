-- Text that is given in parts.
use Rattle.std.proofs.Common.{◌≡◌, ℕ, zero, suc, ◌+◌, ◌-◌, ◌*◌, ◌<◌, ◌≤◌, List, [], ◌∷◌, ◌++◌, length, take, drop, refl, sym, ◌∙◌, ap, arith, drop-drop}
use Rattle.std.proofs.lemmas.List.{append-nil, append_assoc}
use Rattle.gdb_protocol.specs.Answers.{console_text}
use Rattle.gdb_protocol.specs.Digits.{byte_digits}
use Rattle.gdb_protocol.specs.Framing.{frame}
use Rattle.std.proofs.Common.{Result, Ok, Err}
use Rattle.std.specs.Prelude.{OnOk}
use Rattle.debug_session.specs.Sessions.{frames, last_of, max_text, parts_of, text_answers}

answers_more : (parts fewer : ℕ) (text : List ℕ) → parts ≡ suc fewer → text_answers parts text ≡ console_text (take max_text text) ∷ text_answers fewer (drop max_text text)
unfolding text_answers
answers_more parts fewer text more = ap (λ n. text_answers n text) more

pub part_given : (put front part whole : List ℕ) (text : List ℕ) (parts i : ℕ) → i < parts → part ≡ take max_text (drop (max_text * i) text) → front ≡ put ++ frame (console_text part) →
    put ++ frames (text_answers (parts - i) (drop (max_text * i) text)) ≡ whole → front ++ frames (text_answers (parts - (i + 1)) (drop (max_text * (i + 1)) text)) ≡ whole
part_given put front part whole text parts i under is line so_far =
    let rest = drop (max_text * i) text in
    let fewer = parts - (i + 1) in
    let more : parts - i ≡ suc (parts - (i + 1)) = omega (arith, under) in
    let place : max_text * i + max_text ≡ max_text * (i + 1) = omega arith in
    let further : drop max_text rest ≡ drop (max_text * (i + 1)) text = drop-drop max_text (max_text * i) text ∙ ap (λ n. drop n text) place in
    ap (λ xs. xs ++ frames (text_answers fewer (drop (max_text * (i + 1)) text))) line
    ∙ append_assoc put (frame (console_text part)) (frames (text_answers fewer (drop (max_text * (i + 1)) text)))
    ∙ ap (λ p. put ++ (frame (console_text p) ++ frames (text_answers fewer (drop (max_text * (i + 1)) text)))) is
    ∙ ap (λ t. put ++ (frame (console_text (take max_text rest)) ++ frames (text_answers fewer t))) (sym further)
    ∙ ap (λ a. put ++ frames a) (sym (answers_more (parts - i) fewer rest more))
    ∙ so_far

pub all_given : (put whole : List ℕ) (text : List ℕ) (parts i : ℕ) → i ≡ parts → put ++ frames (text_answers (parts - i) (drop (max_text * i) text)) ≡ whole →
    put ++ frames (text_answers 0 (drop (max_text * parts) text)) ≡ whole
all_given put whole text parts i is so_far =
    let none : 0 ≡ parts - i = omega (arith, is) in
    ap (λ n. put ++ frames (text_answers n (drop (max_text * parts) text))) none
    ∙ ap (λ n. put ++ frames (text_answers (parts - i) (drop (max_text * n) text))) (sym is) ∙ so_far

-- the last part is the answer
pub last_part : (put front text whole : List ℕ) → front ≡ put ++ frame (byte_digits text) → put ++ frames (text_answers 0 text) ≡ whole → front ≡ whole
unfolding text_answers
last_part put front text whole line is = line ∙ ap (λ xs. put ++ xs) (sym (append-nil (frame (byte_digits text)))) ∙ is

pub last_is : (parts : ℕ) (text before : List ℕ) → byte_digits (drop (max_text * parts) text) ≡ last_of (text_answers parts text) before
unfolding text_answers
last_is zero text before = refl
last_is (suc parts) text before =
    let place : max_text + max_text * parts ≡ max_text * suc parts = omega arith in
    ap byte_digits (ap (λ n. drop n text) (sym place) ∙ sym (drop-drop (max_text * parts) max_text text)) ∙ last_is parts (drop max_text text) (console_text (take max_text text))

pub on_ok : {A E P Q : Type 0} (r : Result A E) → OnOk r P → (P → Q) → OnOk r Q
on_ok (Ok done) p f = f p
on_ok (Err e) p f = tt

-- the answer's frame, after the parts before it
pub whole_given : (out put front text digits rest : List ℕ) (parts : ℕ) → parts ≡ parts_of text → digits ≡ byte_digits rest → rest ≡ drop (max_text * parts) text →
    put ++ frames (text_answers 0 (drop (max_text * parts) text)) ≡ out ++ frames (text_answers parts text) → front ≡ put ++ frame digits →
    front ≡ out ++ frames (text_answers (parts_of text) text)
whole_given out put front text digits rest parts number digits_are rest_is before line =
    last_part put front (drop (max_text * parts) text) (out ++ frames (text_answers (parts_of text) text))
    (line ∙ ap (λ a. put ++ frame a) (digits_are ∙ ap byte_digits rest_is))
    (before ∙ ap (λ n. out ++ frames (text_answers n text)) number)

pub answer_kept : (text digits rest last : List ℕ) (parts : ℕ) → parts ≡ parts_of text → digits ≡ byte_digits rest → rest ≡ drop (max_text * parts) text →
    digits ≡ last_of (text_answers (parts_of text) text) last
answer_kept text digits rest last parts number digits_are rest_is =
    digits_are ∙ ap byte_digits rest_is ∙ last_is parts text last ∙ ap (λ n. last_of (text_answers n text) last) number

-- ---- a part of a text

pub part_size : (n : ℕ) (text : List ℕ) → n < length text → n ≡ length (take n text)
part_size zero text more = refl
part_size (suc n) [] more = absurd (omega (arith, more))
part_size (suc n) (x ∷ text) more = ap suc (part_size n text (omega (arith, more)))

pub whole_part : (n : ℕ) (text : List ℕ) → length text ≤ n → text ≡ take n text
whole_part zero [] few = refl
whole_part zero (x ∷ text) few = absurd (omega (arith, few))
whole_part (suc n) [] few = refl
whole_part (suc n) (x ∷ text) few = ap (λ rest. x ∷ rest) (whole_part n text (omega (arith, few)))
