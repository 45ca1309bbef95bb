-- Bytes that are a text, and bytes that are none.
use Rattle.std.proofs.Common.{◌≡◌, ℕ, List, Err, ok_or, inl, inr, ◌∙◌, ap, Some, Ok}
use Rattle.std.specs.Prelude.{IsUtf8}
use Rattle.std.specs.Str.{is_utf8}
use Rattle.std.proofs.lemmas.Bool.{cases_Bool}
use Rattle.std.proofs.lemmas.Str.{is_utf8-from_IsUtf8, IsUtf8-from_is_utf8}
use Rattle.toml.specs.Data.{Members}
use Rattle.toml.specs.Parse.{parse_document}
use Rattle.policy.specs.Text.{table_of_text}
use Rattle.policy_limits.specs.declared.policy_fault.PolicyFault.{PolicyFault}

pub table_of_valid : (bytes : List ℕ) → IsUtf8 bytes → table_of_text bytes ≡ ok_or (parse_document bytes) PolicyFault.NotToml
table_of_valid bytes is = rw (is_utf8-from_IsUtf8 bytes is)

pub table_of_invalid : (bytes : List ℕ) → ¬ (IsUtf8 bytes) → table_of_text bytes ≡ Err PolicyFault.NotToml
table_of_invalid bytes isnt =
    elim (cases_Bool (is_utf8 bytes)) [
      | inl is ↦ absurd (isnt (IsUtf8-from_is_utf8 bytes is))
      | inr other ↦ rw other
    ]

pub table_of_text_valid : (bytes : List ℕ) (ms : Members) → IsUtf8 bytes → parse_document bytes ≡ Some ms → table_of_text bytes ≡ Ok ms
table_of_text_valid bytes ms is read = table_of_valid bytes is ∙ ap (λ o. ok_or o PolicyFault.NotToml) read
