-- Exports of wanted names are within the limits of a policy.
use Rattle.std.proofs.Common.{◌≡◌, ℕ, ◌≤◌, Bool, true, false, not, ◌&&◌, ◌||◌, List, [], ◌∷◌, ◌++◌, length, map, Ok, refl, ap, sym, ◌∙◌, Less, subst, arith}
use Rattle.sv_types.specs.Limits.{max_exports}
use Rattle.std.specs.Prelude.{nat_le}
use Rattle.std.specs.Cmp.Lexicographic.{slice_cmp}
use Rattle.std.specs.List.{AllByRecursion}
use Rattle.std.specs.List.Sorted.{IsStrictlySortedBy}
use Rattle.std.specs.Ordering.{nat_cmp, is_eq}
use Rattle.std.specs.Str.{bytes_eq}
use Rattle.std.proofs.lemmas.Bool.{and_parts, and_from}
use Rattle.std.proofs.lemmas.Bool.Decides.{nat_tests}
use Rattle.std.proofs.lemmas.Map.Text.{is_eq-slice_cmp}
use Rattle.sv_types.specs.Policies.{Rules, ModuleRule, rules_within, numbers_within, lists_within, bound_within, init_within}
use Rattle.sv_types.specs.Policies.{modules_count_within, modules_within, exports_within, export_within, exports_count_within, is_exported}
use Rattle.sv_types.specs.Policies.{each_within, harts_within, ram_pages_within, entries_count_within, entries_within}
use Rattle.sv_types.specs.declared.policy.Export.{Export}
use Rattle.policy_making.specs.Making.{Terms, each_once, exports_wanted, rules_with}
use Rattle.policy_making.specs.Ranges.{terms_within}
use Rattle.policy_making.proofs.ExportNames.{export_names}
use Rattle.policy_making.proofs.FewExports.{few_exports}
use Rattle.policy_making.proofs.NamesOnce.{once_sorted}

abbrev IsBelow : Export → Export → Type 0
IsBelow e x = slice_cmp nat_cmp e.name x.name ≡ Less

abbrev AreAllBelow : List Export → List Export → Type 0
AreAllBelow before xs = AllByRecursion (λ e. AllByRecursion (IsBelow e) xs) before

different : (e x : Export) → IsBelow e x → bytes_eq e.name x.name ≡ false
different e x below = sym (is_eq-slice_cmp e.name x.name) ∙ ap is_eq below

none_of : (before : List Export) (x : Export) (xs : List Export) → AreAllBelow before (x ∷ xs) → is_exported x.name before ≡ false
none_of [] x xs below = refl
none_of (e ∷ before) x xs below =
    ap (λ (b : Bool). b || is_exported x.name before) (different e x below.0.0) ∙ none_of before x xs below.1

-- one export more stands in front
behind : (before : List Export) (x : Export) (xs : List Export) → AreAllBelow before (x ∷ xs) → AllByRecursion (IsBelow x) xs → AreAllBelow (before ++ x ∷ []) xs
behind [] x xs below next = (next, tt)
behind (e ∷ before) x xs below next = (below.0.1, behind before x xs below.1 next)

next_below : (x : Export) (xs : List Export) → AllByRecursion (λ name. slice_cmp nat_cmp x.name name ≡ Less) (map (λ (e : Export). e.name) xs) → AllByRecursion (IsBelow x) xs
next_below x [] below = tt
next_below x (y ∷ ys) below = (below.0, next_below x ys below.1)

each_within_from : (before xs : List Export) → AreAllBelow before xs → IsStrictlySortedBy (slice_cmp nat_cmp) (map (λ (e : Export). e.name) xs) → each_within export_within before xs ≡ true
unfolding IsStrictlySortedBy
each_within_from before [] below sorted = refl
each_within_from before (x ∷ xs) below sorted =
    ap (λ (b : Bool). not b && each_within export_within (before ++ x ∷ []) xs) (none_of before x xs below)
    ∙ each_within_from (before ++ x ∷ []) xs (behind before x xs below (next_below x xs sorted.0)) sorted.1

wanted_within : (kernel : List ℕ) (names : List (List ℕ)) (exports : List Export) → exports_wanted kernel names ≡ Ok exports → exports_within exports ≡ true
wanted_within kernel names exports is =
    each_within_from [] exports tt (subst (IsStrictlySortedBy (slice_cmp nat_cmp)) (sym (export_names kernel (each_once names) exports is)) (once_sorted names))

few_wanted : (kernel : List ℕ) (names : List (List ℕ)) (exports : List Export) → exports_wanted kernel names ≡ Ok exports → nat_le (length exports) max_exports ≡ true
few_wanted kernel names exports is =
    let few : length exports ≤ max_exports = few_exports kernel (each_once names) exports is in grind (arith, nat_tests)

all_but : (a b c d e : Bool) → a ≡ true → b ≡ true → c ≡ true → d ≡ true → (a && b && c && d && e) ≡ e
all_but a b c d e p q r s = rw (p, q, r, s) refl

pub limits_of_modules : (s : Terms) (digest kernel : List ℕ) (names : List (List ℕ)) (exports : List Export) (modules : List ModuleRule)
    → terms_within s ≡ true → exports_wanted kernel names ≡ Ok exports → length modules ≤ 64
    → rules_within (rules_with s digest exports modules) ≡ modules_within (length exports) modules
limits_of_modules s digest kernel names exports modules good is few =
    let rules : Rules = rules_with s digest exports modules in
    let a = and_parts (harts_within s.harts && ram_pages_within s.ram_pages && entries_count_within (length s.entries) && entries_within s.entries) (init_within s.ram_pages s.init) good in
    let b = and_parts (harts_within s.harts && ram_pages_within s.ram_pages && entries_count_within (length s.entries)) (entries_within s.entries) a.0 in
    let c = and_parts (harts_within s.harts && ram_pages_within s.ram_pages) (entries_count_within (length s.entries)) b.0 in
    let d = and_parts (harts_within s.harts) (ram_pages_within s.ram_pages) c.0 in
    let numbers : numbers_within rules ≡ true = and_from (harts_within s.harts) (ram_pages_within s.ram_pages) d.0 d.1 in
    let counted = and_from (entries_count_within (length s.entries)) (entries_within s.entries) c.1 b.1 in
    let entries = and_from (entries_count_within (length s.entries) && entries_within s.entries) (exports_count_within (length exports)) counted (few_wanted kernel names exports is) in
    let each = and_from (entries_count_within (length s.entries) && entries_within s.entries && exports_count_within (length exports)) (exports_within exports) entries
    (wanted_within kernel names exports is) in
    let lists : lists_within rules ≡
    true = and_from (entries_count_within (length s.entries) && entries_within s.entries && exports_count_within (length exports) && exports_within exports) (bound_within rules) each refl in
    let count : modules_count_within (length modules) ≡ true = grind (arith, nat_tests) in
    all_but (numbers_within rules) (lists_within rules) (init_within s.ram_pages s.init) (modules_count_within (length modules)) (modules_within (length exports) modules) numbers lists a.1 count
