-- What the limits of a policy say of its numbers, of its lists, and of one of its modules.
use Rattle.std.proofs.Common.{◌≡◌, ℕ, zero, suc, ◌≤◌, List, [], ◌∷◌, ◌++◌, ◌+◌, length, map, ◌∙◌, ap, subst, arith, Bool, true, false, not, ◌&&◌, slice_get}
use Rattle.std.specs.Prelude.{Some, IsTrue, ◌==◌, if◌then◌else◌}
use Rattle.std.specs.List.{list_any, sum}
use Rattle.std.proofs.lemmas.Bool.{and_parts, eqb-true}
use Rattle.std.proofs.lemmas.Bool.Decides.{nat_tests}
use Rattle.spec_processor.specs.Regions.{max_ram_pages}
use Rattle.sv_types.specs.Policies.{Rules, ModuleRule, rules_within, numbers_within, lists_within, init_within, bound_within, bound_fits}
use Rattle.sv_types.specs.Policies.{all_bound, modules_count_within, modules_within, module_within, module_pages_within, sites_count_within}
use Rattle.sv_types.specs.Policies.{sites_within, sites_of, is_module, each_within}
use Rattle.sv_types.specs.Limits.{plain_format, max_entries, max_modules}
use Rattle.std.proofs.lemmas.List.{map-append}
use Rattle.std.proofs.lemmas.List.Sums.{sum_by_push}

-- ---- numbers

pub few_harts : (rules : Rules) → IsTrue (rules_within rules) → rules.harts ≤ 4
few_harts rules within = grind (arith, nat_tests)

pub some_hart : (rules : Rules) → IsTrue (rules_within rules) → 1 ≤ rules.harts
some_hart rules within = grind (arith, nat_tests)

pub few_pages : (rules : Rules) → IsTrue (rules_within rules) → rules.ram_pages ≤ max_ram_pages
few_pages rules within = grind (arith, nat_tests)

-- ---- entries

pub few_entries : (rules : Rules) → IsTrue (rules_within rules) → length rules.entries ≤ max_entries
few_entries rules within = grind (arith, nat_tests)

pub bound_rules : (rules : Rules) → IsTrue (rules_within rules) → IsTrue (bound_within rules)
bound_rules rules within = grind (arith, nat_tests)

-- an entry and its address fit, and so do the others
pub first_bound : (ram_pages : ℕ) (before : List ℕ) (va gpa : ℕ) (entries bound : List ℕ) → all_bound ram_pages before (va ∷ entries) (gpa ∷ bound) ≡ true
    → (bound_fits ram_pages va gpa ≡ true) × (all_bound ram_pages (before ++ va ∷ []) entries bound ≡ true)
first_bound ram_pages before va gpa entries bound within =
    let both = and_parts (bound_fits ram_pages va gpa && not (list_any (λ e. e == va) before)) (all_bound ram_pages (before ++ va ∷ []) entries bound) within in
    ((and_parts (bound_fits ram_pages va gpa) (not (list_any (λ e. e == va) before)) both.0).0, both.1)

-- no more are bound than there are
within_entries : (ram_pages : ℕ) (before entries bound : List ℕ) → all_bound ram_pages before entries bound ≡ true → length bound ≤ length entries
within_entries ram_pages before [] [] within = omega arith
within_entries ram_pages before [] (gpa ∷ bound) within = absurd cc
within_entries ram_pages before (va ∷ entries) [] within = absurd cc
within_entries ram_pages before (va ∷ entries) (gpa ∷ bound) within =
    let rest = within_entries ram_pages (before ++ va ∷ []) entries bound (first_bound ram_pages before va gpa entries bound within).1 in
    omega (arith, rest)

along_by : (rules : Rules) (b : Bool) → IsTrue (if b then length rules.bound == 0 else all_bound rules.ram_pages [] rules.entries rules.bound)
    → length rules.bound ≤ length rules.entries
along_by rules true none = let empty : length rules.bound ≡ 0 = eqb-true (length rules.bound) 0 none in omega (arith, empty)
along_by rules false each = within_entries rules.ram_pages [] rules.entries rules.bound each

pub bound_along : (rules : Rules) → IsTrue (rules_within rules) → length rules.bound ≤ length rules.entries
bound_along rules within = along_by rules (rules.format == plain_format) (bound_rules rules within)

pub bound_few : (rules : Rules) → IsTrue (rules_within rules) → length rules.bound ≤ max_entries
bound_few rules within =
    let along = bound_along rules within in
    let entries = few_entries rules within in
    omega (arith, along, entries)

-- ---- modules

pub few_modules : (rules : Rules) → IsTrue (rules_within rules) → length rules.modules ≤ max_modules
few_modules rules within = grind (arith, nat_tests)

pub modules_part : (rules : Rules) → IsTrue (rules_within rules) → (modules_count_within (length rules.modules) ≡ true) × (modules_within (length rules.exports) rules.modules ≡ true)
modules_part rules within =
    let parts = and_parts (numbers_within rules && lists_within rules && init_within rules.ram_pages rules.init && modules_count_within (length rules.modules))
    (modules_within (length rules.exports) rules.modules) within in
    ((and_parts (numbers_within rules && lists_within rules && init_within rules.ram_pages rules.init) (modules_count_within (length rules.modules)) parts.0).1, parts.1)

one_within : (exports : ℕ) (before xs : List ModuleRule) (i : ℕ) (rule : ModuleRule) → each_within (module_within exports) before xs ≡ true → slice_get xs i ≡ Some rule
    → (b : List ModuleRule) × (module_within exports b rule ≡ true)
one_within exports before [] i rule e found = absurd (cc)
one_within exports before (x ∷ xs) zero rule e found =
    let same : x ≡ rule = cc in
    (before, subst (λ (y : ModuleRule). module_within exports before y ≡ true) same (and_parts (module_within exports before x) (each_within (module_within exports) (before ++ x ∷ []) xs) e).0)
one_within exports before (x ∷ xs) (suc i) rule e found =
    one_within exports (before ++ x ∷ []) xs i rule (and_parts (module_within exports before x) (each_within (module_within exports) (before ++ x ∷ []) xs) e).1 found

-- the pages and the sites of one are within their limits
pub rule_within : (rules : Rules) (id : ℕ) (rule : ModuleRule) → IsTrue (rules_within rules) → slice_get rules.modules id ≡ Some rule
    → (module_pages_within rule.pages ≡ true) × (sites_within rule.pages (length rules.exports) rule.sites ≡ true)
rule_within rules id rule within found =
    let one = one_within (length rules.exports) [] rules.modules id rule (modules_part rules within).1 found in
    let named = and_parts (module_pages_within rule.pages && sites_count_within (sites_of one.0) (length rule.sites) && sites_within rule.pages (length rules.exports) rule.sites)
    (not (is_module rule.name one.0)) one.1 in
    let sites = and_parts (module_pages_within rule.pages && sites_count_within (sites_of one.0) (length rule.sites)) (sites_within rule.pages (length rules.exports) rule.sites) named.0 in
    ((and_parts (module_pages_within rule.pages) (sites_count_within (sites_of one.0) (length rule.sites)) sites.0).0, sites.1)

-- ---- the sites of modules

pub sites_of_more : (modules : List ModuleRule) (m : ModuleRule) → sites_of (modules ++ m ∷ []) ≡ sites_of modules + length m.sites
sites_of_more modules m =
    let count : ModuleRule → ℕ = λ x. length x.sites in
    ap sum (map-append count modules (m ∷ [])) ∙ sum_by_push (λ n. n) (map count modules) (count m)
