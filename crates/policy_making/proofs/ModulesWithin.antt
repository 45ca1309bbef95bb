-- Modules that are within their limits each, whose names are new and whose fields are few.
use Rattle.std.proofs.Common.{◌≡◌, ℕ, ◌+◌, ◌≤◌, Bool, true, not, ◌&&◌, List, [], ◌∷◌, ◌++◌, length, map, refl, sym, subst, arith}
use Rattle.std.specs.Prelude.{nat_le}
use Rattle.std.specs.List.{list_all}
use Rattle.std.proofs.lemmas.Bool.{and_parts, and_from}
use Rattle.std.proofs.lemmas.Bool.Decides.{nat_tests}
use Rattle.std.proofs.lemmas.List.Sums.{sum_by-cons}
use Rattle.sv_types.specs.Policies.{ModuleRule, modules_within, module_within, module_pages_within, sites_count_within, sites_within, sites_of, is_module, each_within}
use Rattle.sv_types.proofs.PolicyLimits.{sites_of_more}

-- a module's own values, alongside so many exports
abbrev pub is_within : ℕ → ModuleRule → Bool
is_within exports m = module_pages_within m.pages && sites_count_within 0 (length m.sites) && sites_within m.pages exports m.sites

-- no module before it has its name
abbrev pub is_new : List ModuleRule → ModuleRule → Bool
is_new before m = not (is_module m.name before)

abbrev counts : List ModuleRule → List ℕ
counts ms = map (λ (m : ModuleRule). length m.sites) ms

first_sites : (m : ModuleRule) (ms : List ModuleRule) → sites_of (m ∷ ms) ≡ length m.sites + sites_of ms
first_sites m ms = sum_by-cons (λ (n : ℕ). n) (length m.sites) (counts ms)

one_within : (exports : ℕ) (before : List ModuleRule) (m : ModuleRule) → is_new before m ≡ true → is_within exports m ≡ true → sites_of before + length m.sites ≤ 131072
    → module_within exports before m ≡ true
one_within exports before m new own few =
    let a = and_parts (module_pages_within m.pages && sites_count_within 0 (length m.sites)) (sites_within m.pages exports m.sites) own in
    let b = and_parts (module_pages_within m.pages) (sites_count_within 0 (length m.sites)) a.0 in
    let few_own = (and_parts (nat_le (length m.sites) 65536) (nat_le (0 + length m.sites) 131072) b.1).0 in
    let all : nat_le (sites_of before + length m.sites) 131072 ≡ true = grind (arith, nat_tests) in
    let counted : sites_count_within (sites_of before) (length m.sites) ≡ true = and_from (nat_le (length m.sites) 65536) (nat_le (sites_of before + length m.sites) 131072) few_own all in
    let sized = and_from (module_pages_within m.pages) (sites_count_within (sites_of before) (length m.sites)) b.0 counted in
    let fielded = and_from (module_pages_within m.pages && sites_count_within (sites_of before) (length m.sites)) (sites_within m.pages exports m.sites) sized a.1 in
    and_from (module_pages_within m.pages && sites_count_within (sites_of before) (length m.sites) && sites_within m.pages exports m.sites) (not (is_module m.name before)) fielded new

all_within : (exports : ℕ) (before ms : List ModuleRule) → each_within is_new before ms ≡ true → list_all (is_within exports) ms ≡ true → sites_of before + sites_of ms ≤ 131072
    → each_within (module_within exports) before ms ≡ true
all_within exports before [] new own few = refl
all_within exports before (m ∷ ms) new own few =
    let name = and_parts (is_new before m) (each_within is_new (before ++ m ∷ []) ms) new in
    let values = and_parts (is_within exports m) (list_all (is_within exports) ms) own in
    let sites = sites_of_more before m in
    let all : sites_of before + (length m.sites + sites_of ms) ≤ 131072 = subst (λ (n : ℕ). sites_of before + n ≤ 131072) (first_sites m ms) few in
    let here : sites_of before + length m.sites ≤ 131072 = omega (arith, all) in
    let rest : sites_of (before ++ m ∷ []) + sites_of ms ≤ 131072 = subst (λ (n : ℕ). n + sites_of ms ≤ 131072) (sym sites) (omega (arith, all)) in
    and_from (module_within exports before m) (each_within (module_within exports) (before ++ m ∷ []) ms) (one_within exports before m name.0 values.0 here)
    (all_within exports (before ++ m ∷ []) ms name.1 values.1 rest)

pub modules_are_within : (exports : ℕ) (ms : List ModuleRule) → each_within is_new [] ms ≡ true → list_all (is_within exports) ms ≡ true → sites_of ms ≤ 131072
    → modules_within exports ms ≡ true
modules_are_within exports ms new own few =
    let all : sites_of [] + sites_of ms ≤ 131072 = omega (arith, few) in all_within exports [] ms new own all
