-- Bindings that are read are within the limits of bound entries.
use Rattle.std.proofs.Common.{◌≡◌, ℕ, ◌==◌, Bool, true, false, ◌&&◌, ◌||◌, not, List, [], ◌∷◌, ◌++◌, length, Ok, Err, refl, sym, ◌∙◌, ap, subst, if◌then◌else◌}
use Rattle.std.proofs.lemmas.Bool.{and_parts}
use Rattle.std.proofs.lemmas.List.{map-append, length-map}
use Rattle.std.specs.List.{list_any}
use Rattle.std.specs.Cmp.Derive.{both_true}
use Rattle.toml.specs.Data.{Data, Items, no_items, item}
use Rattle.sv_types.specs.Policies.{each_within, entry_within, entries_within, bound_fits, all_bound}
use Rattle.policy.specs.Values.{if_within_limit, address_of, entry_of, items_in, items_length}
use Rattle.policy.specs.Bindings.{binding, entries_in, bound_in, is_bound, unrepeated_entry, binding_of_two, binding_of_items, binding_of, each_binding}
use Rattle.policy.specs.declared.binding.Binding.{Binding}
use Rattle.policy.proofs.Judging.{bind_ok, after, ok_same, limited_ok}
use Rattle.policy.proofs.ReadLists.{each_within_read}
use Rattle.policy_limits.specs.declared.policy_fault.PolicyFault.{PolicyFault}

-- a binding alongside those before it
abbrev pub binding_within : ℕ → List Binding → Binding → Bool
binding_within ram_pages before b = entry_within b.va && bound_fits ram_pages b.va b.gpa && not (is_bound b.va before)

-- ---- one of them

pub entry_read : (d : Data) (a : ℕ) → entry_of d ≡ Ok a → entry_within a ≡ true
entry_read d a read =
    let address = bind_ok (address_of d) (λ address. if_within_limit (entry_within address) address) a read in
    let fit = limited_ok (entry_within address.0) address.0 a address.2 in
    sym (ap entry_within fit.1) ∙ fit.0

unrepeated_read : (before : List Binding) (b c : Binding) → unrepeated_entry before b ≡ Ok c → (not (is_bound b.va before) ≡ true) × (b ≡ c)
unrepeated_read before b c read = by_met (is_bound b.va before) read where
  by_met : (met : Bool) → (if met then Err PolicyFault.RepeatedEntry else Ok b) ≡ Ok c → (not met ≡ true) × (b ≡ c)
  by_met true h = cc h
  by_met false h = (refl, ok_same b c h)

two_read : (ram_pages : ℕ) (before : List Binding) (va gpa : Data) (b : Binding) → binding_of_two ram_pages before va gpa ≡ Ok b → binding_within ram_pages before b ≡ true
unfolding binding_of_two
two_read ram_pages before va gpa b read =
    after (entry_of va) _ b read λ v va_is read.
    after (address_of gpa) _ b read λ g gpa_is read.
    after (if_within_limit (bound_fits ram_pages v g) (binding v g)) _ b read λ pair pair_is read.
    let fit = limited_ok (bound_fits ram_pages v g) (binding v g) pair pair_is in
    let fresh = unrepeated_read before pair b read in
    subst (λ (x : Binding). binding_within ram_pages before x ≡ true) (fit.1 ∙ fresh.1)
    (both_true (both_true (entry_read va v va_is) fit.0) (ap (λ (x : Binding). not (is_bound x.va before)) fit.1 ∙ fresh.0))

items_read : (ram_pages : ℕ) (before : List Binding) (items : Items) (b : Binding) → binding_of_items ram_pages before items ≡ Ok b → binding_within ram_pages before b ≡ true
items_read ram_pages before no_items b read = cc read
items_read ram_pages before (item va no_items) b read = cc read
items_read ram_pages before (item va (item gpa no_items)) b read = two_read ram_pages before va gpa b read
items_read ram_pages before (item va (item gpa (item d items))) b read = cc read

binding_read : (ram_pages : ℕ) (before : List Binding) (d : Data) (b : Binding) → binding_of ram_pages before d ≡ Ok b → binding_within ram_pages before b ≡ true
binding_read ram_pages before d b read =
    let items = bind_ok (items_in d) (binding_of_items ram_pages before) b read in
    items_read ram_pages before items.0 b items.2

-- ---- the two lists

pub bound_among : (va : ℕ) (before : List Binding) → list_any (λ e. e == va) (entries_in before) ≡ is_bound va before
bound_among va [] = refl
bound_among va (b ∷ before) = ap (λ (met : Bool). (b.va == va) || met) (bound_among va before)

entries_fit : (ram_pages : ℕ) (before : List Binding) (met : List ℕ) (bs : List Binding) → each_within (binding_within ram_pages) before bs ≡ true →
    each_within (λ met entry. entry_within entry) met (entries_in bs) ≡ true
entries_fit ram_pages before met [] within = refl
entries_fit ram_pages before met (b ∷ bs) within =
    let parts = and_parts (binding_within ram_pages before b) _ within in
    let fits = and_parts _ (not (is_bound b.va before)) parts.0 in
    let entry = and_parts (entry_within b.va) (bound_fits ram_pages b.va b.gpa) fits.0 in
    both_true entry.0 (entries_fit ram_pages (before ++ b ∷ []) (met ++ b.va ∷ []) bs parts.1)

bound_fit : (ram_pages : ℕ) (before bs : List Binding) → each_within (binding_within ram_pages) before bs ≡ true →
    all_bound ram_pages (entries_in before) (entries_in bs) (bound_in bs) ≡ true
bound_fit ram_pages before [] within = refl
bound_fit ram_pages before (b ∷ bs) within =
    let parts = and_parts (binding_within ram_pages before b) _ within in
    let fits = and_parts _ (not (is_bound b.va before)) parts.0 in
    let entry = and_parts (entry_within b.va) (bound_fits ram_pages b.va b.gpa) fits.0 in
    let rest = bound_fit ram_pages (before ++ b ∷ []) bs parts.1 in
    both_true (both_true entry.1 (ap not (bound_among b.va before) ∙ fits.1))
    (subst (λ (met : List ℕ). all_bound ram_pages met (entries_in bs) (bound_in bs) ≡ true) (map-append (λ (x : Binding). x.va) before (b ∷ [])) rest)

pub bindings_read : (ram_pages : ℕ) (items : Items) (bs : List Binding) → each_binding ram_pages [] items ≡ Ok bs →
    (length (entries_in bs) ≡ items_length items) × (entries_within (entries_in bs) ≡ true) × (all_bound ram_pages [] (entries_in bs) (bound_in bs) ≡ true)
bindings_read ram_pages items bs read =
    let all = each_within_read (binding_of ram_pages) (binding_within ram_pages) (binding_read ram_pages) items bs read in
    (length-map bs (λ (x : Binding). x.va) ∙ all.0, entries_fit ram_pages [] [] bs all.1, bound_fit ram_pages [] bs all.1)
