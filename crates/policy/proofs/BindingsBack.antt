-- Bound entries that are printed read back.
use Rattle.std.proofs.Common.{◌≡◌, ℕ, ◌^◌, ◌<◌, ◌≤◌, ◌==◌, Bool, true, false, not, List, [], ◌∷◌, ◌++◌, length, map, Ok, refl, sym, ◌∙◌, ap, zero, suc, get_or, subst, arith, if◌then◌else◌}
use Rattle.std.proofs.lemmas.Bool.{and_parts, ne_eqb, not-true}
use Rattle.std.proofs.lemmas.Bool.Decides.{nat_tests}
use Rattle.std.proofs.lemmas.List.{append_assoc, append-nil, map-append}
use Rattle.std.proofs.lemmas.List.Elements.{All-head, All-tail}
use Rattle.std.specs.List.{All, list_any}
use Rattle.toml.specs.View.{items_of}
use Rattle.spec_processor.specs.Regions.{max_ram_pages}
use Rattle.sv_types.specs.Policies.{Rules, each_within, entry_within, bound_fits, all_bound, bound_within, numbers_within, lists_within}
use Rattle.sv_types.specs.Policies.{init_within, modules_count_within, modules_within, rules_within}
use Rattle.policy.specs.Bindings.{binding, bindings_of, entries_in, bound_in, is_bound, binding_of_two, binding_of, each_binding}
use Rattle.policy.specs.declared.binding.Binding.{Binding}
use Rattle.policy.specs.Printed.{binding_data}
use Rattle.policy.specs.Ranges.{IsAddress}
use Rattle.policy.proofs.Judging.{then_ok}
use Rattle.policy.proofs.WrittenValues.{address_back}
use Rattle.policy.proofs.BindingsRead.{bound_among}

fits_address : (ram_pages va gpa : ℕ) → bound_fits ram_pages va gpa ≡ true → ram_pages ≤ max_ram_pages → gpa < 2 ^ 64
fits_address ram_pages va gpa fits few = grind (arith, nat_tests)

binding_back : (ram_pages : ℕ) (before : List Binding) (va gpa : ℕ) → ram_pages ≤ max_ram_pages → IsAddress va → entry_within va ≡ true →
    bound_fits ram_pages va gpa ≡ true → is_bound va before ≡ false → binding_of ram_pages before (binding_data (binding va gpa)) ≡ Ok (binding va gpa)
unfolding binding_data binding_of_two
binding_back ram_pages before va gpa few small instruction fits fresh =
    rw (address_back va small, instruction, address_back gpa (fits_address ram_pages va gpa fits few), fits, fresh) refl

pub bindings_back : (ram_pages : ℕ) (before : List Binding) (met entries bound : List ℕ) → ram_pages ≤ max_ram_pages → All IsAddress entries →
    each_within (λ met entry. entry_within entry) met entries ≡ true → all_bound ram_pages (entries_in before) entries bound ≡ true →
    each_binding ram_pages before (items_of (map binding_data (bindings_of entries bound))) ≡ Ok (before ++ bindings_of entries bound)
bindings_back ram_pages before met [] [] few ranges instructions bounds = ap Ok (sym (append-nil before))
bindings_back ram_pages before met [] (gpa ∷ bound) few ranges instructions bounds = cc bounds
bindings_back ram_pages before met (va ∷ entries) [] few ranges instructions bounds = cc bounds
bindings_back ram_pages before met (va ∷ entries) (gpa ∷ bound) few ranges instructions bounds =
    let more = and_parts (entry_within va) _ instructions in
    let parts = and_parts _ (all_bound ram_pages (entries_in before ++ va ∷ []) entries bound) bounds in
    let here = and_parts (bound_fits ram_pages va gpa) (not (list_any (λ e. e == va) (entries_in before))) parts.0 in
    let fresh : is_bound va before ≡ false = sym (bound_among va before) ∙ not-true (list_any (λ e. e == va) (entries_in before)) here.1 in
    let one : Binding = binding va gpa in
    let rest = bindings_back ram_pages (before ++ one ∷ []) (met ++ va ∷ []) entries bound few (All-tail IsAddress va entries ranges) more.1
    (subst (λ (ms : List ℕ). all_bound ram_pages ms entries bound ≡ true) (sym (map-append (λ (x : Binding). x.va) before (one ∷ []))) parts.1) in
    then_ok (binding_of ram_pages before (binding_data one)) (λ b. each_binding ram_pages (before ++ b ∷ []) (items_of (map binding_data (bindings_of entries bound)))) one _
    (binding_back ram_pages before va gpa few (All-head IsAddress va entries ranges) more.0 here.0 fresh) rest
    ∙ ap Ok (append_assoc before (one ∷ []) (bindings_of entries bound))

-- ---- the two lists of the pairs

pub bound_length : (ram_pages : ℕ) (before entries bound : List ℕ) → all_bound ram_pages before entries bound ≡ true → length bound ≡ length entries
bound_length ram_pages before [] [] bounds = refl
bound_length ram_pages before [] (gpa ∷ bound) bounds = cc bounds
bound_length ram_pages before (va ∷ entries) [] bounds = cc bounds
bound_length ram_pages before (va ∷ entries) (gpa ∷ bound) bounds =
    let parts = and_parts _ (all_bound ram_pages (before ++ va ∷ []) entries bound) bounds in
    ap suc (bound_length ram_pages (before ++ va ∷ []) entries bound parts.1)

pub entries_of_pairs : (entries bound : List ℕ) → length bound ≡ length entries → entries_in (bindings_of entries bound) ≡ entries
entries_of_pairs [] bound same = refl
entries_of_pairs (va ∷ entries) [] same = absurd (cc same)
entries_of_pairs (va ∷ entries) (gpa ∷ bound) same = ap (λ (rest : List ℕ). va ∷ rest) (entries_of_pairs entries bound (cc same))

pub bound_of_pairs : (entries bound : List ℕ) → length bound ≡ length entries → bound_in (bindings_of entries bound) ≡ bound
bound_of_pairs [] [] same = refl
bound_of_pairs [] (gpa ∷ bound) same = absurd (cc same)
bound_of_pairs (va ∷ entries) [] same = refl
bound_of_pairs (va ∷ entries) (gpa ∷ bound) same = ap (λ (rest : List ℕ). gpa ∷ rest) (bound_of_pairs entries bound (cc same))

pub pairs_length : (entries bound : List ℕ) → length bound ≡ length entries → length (bindings_of entries bound) ≡ length entries
pairs_length [] bound same = refl
pairs_length (va ∷ entries) [] same = absurd (cc same)
pairs_length (va ∷ entries) (gpa ∷ bound) same = ap suc (pairs_length entries bound (cc same))

-- in a format other than 1 each entry has its address
pub bound_beside : (r : Rules) → bound_within r ≡ true → ¬ (r.format ≡ 1) → length r.bound ≡ length r.entries
bound_beside r bounds other = by_format (r.format == 1) bounds (ne_eqb r.format 1 other) where
  by_format : (is_plain : Bool) → (if is_plain then length r.bound == 0 else all_bound r.ram_pages [] r.entries r.bound) ≡ true → is_plain ≡ false → length r.bound ≡ length r.entries
  by_format true bounds plain = absurd (cc plain)
  by_format false bounds plain = bound_length r.ram_pages [] r.entries r.bound bounds

pub binds_of_rules : (r : Rules) → rules_within r ≡ true → bound_within r ≡ true
binds_of_rules r within =
    let modules = and_parts _ (modules_within (length r.exports) r.modules) within in
    let modules_count = and_parts _ (modules_count_within (length r.modules)) modules.0 in
    let init = and_parts _ (init_within r.ram_pages r.init) modules_count.0 in
    let lists = and_parts (numbers_within r) (lists_within r) init.0 in
    (and_parts _ (bound_within r) lists.1).1

-- the pair at a place
pub pair_at : (entries bound : List ℕ) (i d e : ℕ) (b : Binding) → i < length entries → length bound ≡ length entries →
    binding (get_or entries i d) (get_or bound i e) ≡ get_or (bindings_of entries bound) i b
pair_at [] bound i d e b within same = absurd (omega (arith, within))
pair_at (x ∷ entries) [] i d e b within same = absurd (cc same)
pair_at (x ∷ entries) (y ∷ bound) zero d e b within same = refl
pair_at (x ∷ entries) (y ∷ bound) (suc i) d e b within same = pair_at entries bound i d e b (omega (arith, within)) (cc same)
