-- Entries of format 2, each a pair with the guest-physical address that it is bound to. This project's own.
use Rattle.std.specs.Prelude.{ℕ, ◌==◌, Bool, List, map, if◌then◌else◌, Ok, Err}
use Rattle.std.specs.List.{list_any, zip}
use Rattle.toml.specs.Data.{Data, Items, no_items, item}
use Rattle.sv_types.specs.Policies.{bound_fits}
use Rattle.sv_types.specs.Steps.{◌>>=◌}
use Rattle.policy.specs.Refusals.{Judged}
use Rattle.policy.specs.Values.{items_in, if_within_limit, address_of, entry_of, each_item}
use Rattle.policy.specs.declared.binding.Binding.{Binding}
use Rattle.policy_limits.specs.declared.policy_fault.PolicyFault.{PolicyFault}

-- ---- the two lists of them

abbrev pub entries_in : List Binding → List ℕ
entries_in = map (λ b. b.va)

abbrev pub bound_in : List Binding → List ℕ
bound_in = map (λ b. b.gpa)

abbrev pub binding : ℕ → ℕ → Binding
binding va gpa = record { va = va; gpa = gpa }

abbrev pub bindings_of : (entries bound : List ℕ) → List Binding
bindings_of entries bound = map (λ pair. binding pair.0 pair.1) (zip entries bound)

-- ---- one of them, as it is read

-- one of these is at the entry's address
abbrev pub is_bound : ℕ → List Binding → Bool
is_bound va before = list_any (λ b. b.va == va) before

abbrev pub unrepeated_entry : List Binding → Binding → Judged Binding
unrepeated_entry before b = if is_bound b.va before then Err PolicyFault.RepeatedEntry else Ok b

-- the entry, its address, the two together, and alongside those before it
unfoldable pub binding_of_two : ℕ → List Binding → Data → Data → Judged Binding
binding_of_two ram_pages before va gpa = do
  va_read ← entry_of va
  gpa_read ← address_of gpa
  fitting ← if_within_limit (bound_fits ram_pages va_read gpa_read) (binding va_read gpa_read)
  unrepeated_entry before fitting

abbrev pub binding_of_items : ℕ → List Binding → Items → Judged Binding
binding_of_items ram_pages before (item va (item gpa no_items)) = binding_of_two ram_pages before va gpa
binding_of_items ram_pages before _ = Err PolicyFault.WrongKind

abbrev pub binding_of : ℕ → List Binding → Data → Judged Binding
binding_of ram_pages before d = items_in d >>= binding_of_items ram_pages before

abbrev pub each_binding : ℕ → List Binding → Items → Judged (List Binding)
each_binding ram_pages = each_item (binding_of ram_pages)
