-- A word without a colon.
use Rattle.std.proofs.Common.{◌≡◌, ◌+◌, ◌==◌, ℕ, List, [], drop, length, Option, None, Some, refl, ap, sym, ◌∙◌, arith}
use Rattle.std.specs.List.{position_or_len, before_first, after_first}
use Rattle.std.proofs.lemmas.List.{drop_all}
use Rattle.sv_types.specs.Numbers.{number_within}
use Rattle.sv_types.specs.declared.module.Span.{Span}
use Rattle.sv_types.specs.Addresses.{address_of}
use Rattle.policy_making.specs.WordRanges.{colon, span_of_numbers, span_of_two, span_of}

no_count : (ram_pages : ℕ) → number_within 1 ram_pages [] ≡ None
unfolding number_within
no_count ram_pages = refl

without_count : (ram_pages : ℕ) (address : Option ℕ) → ◌≡◌ {A = Option Span} None (span_of_numbers ram_pages address None)
without_count ram_pages None = refl
without_count ram_pages (Some address) = refl

pub no_colon : (ram_pages : ℕ) (word : List ℕ) → position_or_len (λ c. c == colon) word ≡ length word → None ≡ span_of ram_pages word
unfolding span_of_two
no_colon ram_pages word none =
    let rest : after_first (λ c. c == colon) word ≡ [] = ap (λ (n : ℕ). drop (n + 1) word) none ∙ drop_all (length word + 1) word (omega arith) in
    without_count ram_pages (address_of (before_first (λ c. c == colon) word))
    ∙ ap (λ (count : Option ℕ). span_of_numbers ram_pages (address_of (before_first (λ c. c == colon) word)) count)
    (sym (ap (λ (text : List ℕ). number_within 1 ram_pages text) rest ∙ no_count ram_pages))
