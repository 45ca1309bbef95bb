-- Values of a policy's table, each by its kind.
-- TOML 1.0; the limits are this project's own.
use Rattle.std.specs.Prelude.{ℕ, suc, ℤ, pos, negsuc, Bool, true, false, ◌||◌, not, List, [], ◌∷◌, ◌++◌, if◌then◌else◌, ok_or, Ok, Err}
use Rattle.std.specs.List.{list_any}
use Rattle.std.specs.Str.{bytes_eq}
use Rattle.toml.specs.Data.{Data, Items, no_items, item, Members, no_members, member, get_member, as_integer, as_str, as_array, as_table}
use Rattle.sv_types.specs.Numbers.{digest_of}
use Rattle.sv_types.specs.Policies.{entry_within}
use Rattle.sv_types.specs.Addresses as addresses
use Rattle.sv_types.specs.Steps.{◌>>=◌}
use Rattle.policy.specs.Refusals.{Judged}
use Rattle.policy_limits.specs.declared.policy_fault.PolicyFault.{PolicyFault}
use Rattle.sv_types.specs.Names.{name_within}

abbrev pub required_member : List ℕ → Members → Judged Data
required_member key members = ok_or (get_member key members) PolicyFault.MissingKey

abbrev pub integer_of : Data → Judged ℤ
integer_of d = ok_or (as_integer d) PolicyFault.WrongKind

abbrev pub text_of : Data → Judged (List ℕ)
text_of d = ok_or (as_str d) PolicyFault.WrongKind

abbrev pub items_in : Data → Judged Items
items_in d = ok_or (as_array d) PolicyFault.WrongKind

abbrev pub members_in : Data → Judged Members
members_in d = ok_or (as_table d) PolicyFault.WrongKind

-- the value, if it passes its limit
abbrev pub if_within_limit : {A : Type 0} → Bool → A → Judged A
if_within_limit true a = Ok a
if_within_limit false a = Err PolicyFault.BeyondLimit

abbrev pub whole : ℤ → Judged ℕ
whole (pos n) = Ok n
whole (negsuc n) = Err PolicyFault.BeyondLimit

abbrev pub natural_of : Data → Judged ℕ
natural_of d = integer_of d >>= whole

abbrev pub number_of : (ℕ → Bool) → Data → Judged ℕ
number_of fits d = natural_of d >>= λ n. if_within_limit (fits n) n

abbrev pub name_of : Data → Judged (List ℕ)
name_of d = text_of d >>= λ text. if_within_limit (name_within text) text

abbrev pub address_of : Data → Judged ℕ
address_of d = text_of d >>= λ text. ok_or (addresses.address_of text) PolicyFault.BadHexadecimal

-- an instruction's address
abbrev pub entry_of : Data → Judged ℕ
entry_of d = address_of d >>= λ address. if_within_limit (entry_within address) address

-- a digest's bytes
abbrev pub measure_of : Data → Judged (List ℕ)
measure_of d = text_of d >>= λ text. ok_or (digest_of text) PolicyFault.BadHexadecimal

-- some key is none of these
abbrev pub has_unknown : List (List ℕ) → Members → Bool
has_unknown keys no_members = false
has_unknown keys (member key d members) = not (list_any (bytes_eq key) keys) || has_unknown keys members

-- the members, if each key is one of these
abbrev pub with_known : List (List ℕ) → Members → Judged Members
with_known keys members = if has_unknown keys members then Err PolicyFault.UnknownKey else Ok members

abbrev pub items_length : Items → ℕ
items_length no_items = 0
items_length (item d items) = suc (items_length items)

-- each item is judged alongside those before it
abbrev pub each_item : {A : Type 0} → (List A → Data → Judged A) → List A → Items → Judged (List A)
each_item judged before no_items = Ok before
each_item judged before (item d items) = judged before d >>= λ a. each_item judged (before ++ a ∷ []) items
