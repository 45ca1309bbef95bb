-- Exports that are read alongside the names of those before them.
use Rattle.std.proofs.Common.{◌≡◌, ℕ, Bool, true, false, ◌||◌, List, [], ◌∷◌, ◌++◌, String, Global, string_bytes, refl, sym, ◌∙◌, ap, Ok, if◌then◌else◌}
use Rattle.std.specs.Str.{bytes_eq}
use Rattle.std.specs.BTreeSet.{BTreeSet, UpdatesBy}
use Rattle.std.specs.String.{string_cmp}
use Rattle.std.specs.Ordering.{nat_cmp}
use Rattle.std.specs.Cmp.Lexicographic.{slice_cmp}
use Rattle.std.proofs.lemmas.Map.Text.{btree_set_updates_text}
use Rattle.toml.specs.Data.{Data}
use Rattle.sv_types.specs.Policies.{is_exported}
use Rattle.sv_types.specs.declared.policy.Export.{Export}
use Rattle.policy.specs.Values.{name_of, address_of}
use Rattle.policy.specs.Text.{export_of_two, unless_repeated}
use Rattle.policy.specs.ExportNames.{HasNames}

-- an export whose values are good
pub export_judged : (before : List Export) (name addr : Data) (n : List ℕ) (a : ℕ) (met : Bool) → name_of name ≡ Ok n → address_of addr ≡ Ok a → is_exported n before ≡ met →
    export_of_two before name addr ≡ unless_repeated met (record { name = n; addr = a })
unfolding export_of_two
export_judged before name addr n a met name_is addr_is met_is = rw (name_is, addr_is, met_is) refl

pub is_exported-append : (name : List ℕ) (before : List Export) (e : Export) → is_exported name (before ++ e ∷ []) ≡ (if bytes_eq e.name name then true else is_exported name before)
is_exported-append name [] e = elim (bytes_eq e.name name) as (λ b. (b || false) ≡ (if b then true else false)) [ true ↦ refl | false ↦ refl ]
is_exported-append name (x ∷ xs) e =
    ap (λ (b : Bool). bytes_eq x.name name || b) (is_exported-append name xs e)
    ∙ elim (bytes_eq x.name name) as (λ b. (b || (if bytes_eq e.name name then true else is_exported name xs)) ≡ (if bytes_eq e.name name then true else (b || is_exported name xs)))
    [ true ↦ elim (bytes_eq e.name name) as (λ c. true ≡ (if c then true else true)) [ true ↦ refl | false ↦ refl ] | false ↦ refl ]

-- the names with that of one export more
pub names_more : (names more : BTreeSet (String Global)) (before : List Export) (e : Export) → HasNames names before →
    UpdatesBy string_cmp (λ k. slice_cmp nat_cmp e.name (string_bytes k)) names more true → HasNames more (before ++ e ∷ [])
names_more names more before e has updates name =
    btree_set_updates_text e.name names more true updates name
    ∙ ap (λ (b : Bool). if bytes_eq e.name name then true else b) (has name)
    ∙ sym (is_exported-append name before e)
