-- A policy that is made is within its limits.
use Rattle.std.proofs.Common.{◌≡◌, ℕ, ◌≤◌, Bool, true, false, not, List, [], ◌∷◌, ◌++◌, length, map, All, Ok, Err, refl, ap, sym, subst, ◌∙◌, arith}
use Rattle.std.specs.Prelude.{Result, IfOk, if◌then◌else◌}
use Rattle.std.specs.List.{list_all}
use Rattle.std.specs.Str.{bytes_eq}
use Rattle.std.proofs.lemmas.Bool.{and_parts}
use Rattle.std.proofs.lemmas.Bool.Decides.{nat_tests}
use Rattle.std.proofs.lemmas.List.{append_assoc, append-nil, length-map, map-append}
use Rattle.std.proofs.lemmas.List.Elements.{All-nil, All-cons, All-head, All-tail}
use Rattle.sv_types.specs.Policies.{Rules, ModuleRule, each_within, is_module, modules_count_within, rules_of, rules_within, sites_of}
use Rattle.sv_types.specs.declared.policy.Export.{Export}
use Rattle.sv_types.specs.declared.policy.Policy.{Policy}
use Rattle.sv_types.specs.Steps.{◌>>=◌}
use Rattle.elf64_load.specs.Judged.{each}
use Rattle.elf64_load.proofs.Steps.{ok_same}
use Rattle.elf64_reloc.specs.Modules.{Module, module_judged}
use Rattle.elf64_reloc.specs.declared.fault.ObjectFault.{ObjectFault}
use Rattle.elf64_reloc.proofs.ModuleLimits.{module_within}
use Rattle.policy_making.specs.Making.{ModuleFile, Terms, exports_wanted, file_names, file_of, few_sites, if_few_sites, module_made, modules_made, policy_after, rule_of, rules_with}
use Rattle.policy_making.specs.Ranges.{IsShort, terms_within}
use Rattle.policy_making.specs.Refusals.{Judged, in_module}
use Rattle.policy_making.specs.WordRanges.{all_new_names, are_module_names, is_among, is_new_name}
use Rattle.policy_making.specs.declared.object_file.ObjectFile.{ObjectFile}
use Rattle.policy_making.specs.declared.refusal.MakingFault.TheVariants.{TooManySites}
use Rattle.policy_making.specs.declared.refusal.MakingRefusal.{MakingRefusal}
use Rattle.policy_making.proofs.ExportsWithin.{limits_of_modules}
use Rattle.policy_making.proofs.ModulesWithin.{is_new, is_within, modules_are_within}
use Rattle.policy_making.proofs.WordLemmas.{list_any_map}
use Rattle.sv_types.specs.Names.{name_within}

abbrev rule_names : List ModuleRule → List (List ℕ)
rule_names modules = map (λ (m : ModuleRule). m.name) modules

-- ---- modules that are made

record IsMade (exports : ℕ) (o : ModuleFile) (rule : ModuleRule) : Type 0 where
  name : rule.name ≡ o.name
  within : is_within exports rule ≡ true

one_by : (exports : List Export) (o : ModuleFile) (rule : ModuleRule) (judged : Result Module ObjectFault) → module_judged o.bytes exports ≡ judged
    → (in_module judged >>= λ m. Ok (rule_of o.name m)) ≡ Ok rule → IsShort o → IsMade (length exports) o rule
one_by exports o rule (Ok m) is e short =
    subst (IsMade (length exports) o) (ok_same (rule_of o.name m) rule e) (record { name = refl; within = module_within o.bytes exports m is short })
one_by exports o rule (Err fault) is e short = absurd (cc e)

one_made : (exports : List Export) (o : ModuleFile) (rule : ModuleRule) → module_made exports o ≡ Ok rule → IsShort o → IsMade (length exports) o rule
unfolding module_made
one_made exports o rule e short = one_by exports o rule (module_judged o.bytes exports) refl e short

record AreMade (exports : ℕ) (names : List (List ℕ)) (rules : List ModuleRule) : Type 0 where
  names_are : rule_names rules ≡ names
  within : list_all (is_within exports) rules ≡ true

all_after : {A : Type 0} (p : A → Bool) (before : List A) (x : A) → list_all p before ≡ true → p x ≡ true → list_all p (before ++ x ∷ []) ≡ true
all_after p [] x all one = rw one refl
all_after p (y ∷ ys) x all one =
    let parts = and_parts (p y) (list_all p ys) all in
    rw (parts.0, all_after p ys x parts.1 one) refl

one_more : (exports : ℕ) (names : List (List ℕ)) (before : List ModuleRule) (o : ModuleFile) (rule : ModuleRule) → AreMade exports names before → IsMade exports o rule
    → AreMade exports (names ++ o.name ∷ []) (before ++ rule ∷ [])
one_more exports names before o rule made one = record {
  names_are =
      map-append (λ (m : ModuleRule). m.name) before (rule ∷ []) ∙ ap (λ (n : List ℕ). rule_names before ++ (n ∷ [])) one.name
      ∙ ap (λ (ns : List (List ℕ)). ns ++ (o.name ∷ [])) made.names_are;
  within = all_after (is_within exports) before rule made.within one.within;
}

all_by : (exports : List Export) (names : List (List ℕ)) (before rules : List ModuleRule) (o : ModuleFile) (objects : List ModuleFile) (judged : Judged ModuleRule) → module_made exports o ≡ judged
    → (judged >>= λ rule. each (module_made exports) (before ++ rule ∷ []) objects) ≡ Ok rules → IsShort o → AreMade (length exports) names before
    → ((now : List ModuleRule) → each (module_made exports) now objects ≡ Ok rules → AreMade (length exports) (names ++ o.name ∷ []) now →
    AreMade (length exports) ((names ++ o.name ∷ []) ++ file_names objects) rules)
    → AreMade (length exports) (names ++ (o.name ∷ file_names objects)) rules
all_by exports names before rules o objects (Ok rule) is e short made rest =
    subst (λ (ns : List (List ℕ)). AreMade (length exports) ns rules) (append_assoc names (o.name ∷ []) (file_names objects))
    (rest (before ++ rule ∷ []) e (one_more (length exports) names before o rule made (one_made exports o rule is short)))
all_by exports names before rules o objects (Err fault) is e short made rest = absurd (cc e)

all_from : (exports : List Export) (names : List (List ℕ)) (before rules : List ModuleRule) (objects : List ModuleFile) → each (module_made exports) before objects ≡ Ok rules
    → All IsShort objects → AreMade (length exports) names before → AreMade (length exports) (names ++ file_names objects) rules
all_from exports names before rules [] e short made =
    subst (λ (ns : List (List ℕ)). AreMade (length exports) ns rules) (sym (append-nil names)) (subst (AreMade (length exports) names) (ok_same before rules e) made)
all_from exports names before rules (o ∷ objects) e short made =
    all_by exports names before rules o objects (module_made exports o) refl e (All-head IsShort o objects short) made
    (λ now more still. all_from exports (names ++ o.name ∷ []) now rules objects more (All-tail IsShort o objects short) still)

all_made : (exports : List Export) (objects : List ModuleFile) (rules : List ModuleRule) → modules_made exports objects ≡ Ok rules → All IsShort objects
    → AreMade (length exports) (file_names objects) rules
all_made exports objects rules e short = all_from exports [] [] rules objects e short (record { names_are = refl; within = refl })

-- ---- their names

new_from : (before rules : List ModuleRule) → each_within is_new_name (rule_names before) (rule_names rules) ≡ true → each_within is_new before rules ≡ true
new_from before [] new = refl
new_from before (m ∷ ms) new =
    let parts = and_parts (is_new_name (rule_names before) m.name) (each_within is_new_name (rule_names before ++ m.name ∷ []) (rule_names ms)) new in
    let other = (and_parts (name_within m.name) (not (is_among (rule_names before) m.name)) parts.0).1 in
    let among : is_among (rule_names before) m.name ≡ is_module m.name before = list_any_map (λ (word : List ℕ). bytes_eq word m.name) (λ (x : ModuleRule). x.name) before in
    let one : is_new before m ≡ true = subst (λ (b : Bool). not b ≡ true) among other in
    let more : rule_names before ++ m.name ∷ [] ≡ rule_names (before ++ m ∷ []) = sym (map-append (λ (x : ModuleRule). x.name) before (m ∷ [])) in
    let rest : each_within is_new_name (rule_names (before ++ m ∷ [])) (rule_names ms) ≡ true = subst (λ (ns : List (List ℕ)). each_within is_new_name ns (rule_names ms) ≡ true) more parts.1 in
    rw (one, new_from (before ++ m ∷ []) ms rest) refl

few_of : (n : ℕ) → modules_count_within n ≡ true → n ≤ 64
few_of n few = grind (arith, nat_tests)

-- ---- the policy

few_together : (modules : List ModuleRule) → few_sites modules ≡ true → sites_of modules ≤ 131072
few_together modules few = grind (arith, nat_tests)

modules_limited : (s : Terms) (digest kernel : List ℕ) (names : List (List ℕ)) (objects : List ModuleFile) (exports : List Export) (modules : List ModuleRule) → terms_within s ≡ true
    → are_module_names (file_names objects) ≡ true → exports_wanted kernel names ≡ Ok exports → AreMade (length exports) (file_names objects) modules → few_sites modules ≡ true
    → rules_within (rules_with s digest exports modules) ≡ true
modules_limited s digest kernel names objects exports modules good named wanted made few =
    let own_names : are_module_names (rule_names modules) ≡ true = subst (λ (ns : List (List ℕ)). are_module_names ns ≡ true) (sym made.names_are) named in
    let parts = and_parts (modules_count_within (length (rule_names modules))) (all_new_names (rule_names modules)) own_names in
    let count : length modules ≤ 64 = subst (λ (n : ℕ). n ≤ 64) (length-map modules (λ (m : ModuleRule). m.name)) (few_of (length (rule_names modules)) parts.0) in
    limits_of_modules s digest kernel names exports modules good wanted count
    ∙ modules_are_within (length exports) modules (new_from [] modules parts.1) made.within (few_together modules few)

by_sites : (s : Terms) (digest kernel : List ℕ) (names : List (List ℕ)) (objects : List ModuleFile) (exports : List Export) (modules : List ModuleRule) (rules : Rules)
    (few : Bool) → few_sites modules ≡ few
    → (if few then Ok (rules_with s digest exports modules) else Err TooManySites) ≡ Ok rules → terms_within s ≡ true → are_module_names (file_names objects) ≡ true
    → exports_wanted kernel names ≡ Ok exports → AreMade (length exports) (file_names objects) modules → rules_within rules ≡ true
by_sites s digest kernel names objects exports modules rules true few e good named wanted made =
    subst (λ (r : Rules). rules_within r ≡ true) (ok_same (rules_with s digest exports modules) rules e) (modules_limited s digest kernel names objects exports modules good named wanted made few)
by_sites s digest kernel names objects exports modules rules false few e good named wanted made = absurd (cc e)

by_modules : (s : Terms) (digest kernel : List ℕ) (names : List (List ℕ)) (objects : List ModuleFile) (exports : List Export) (rules : Rules) (judged : Judged (List ModuleRule)) →
    modules_made exports objects ≡ judged
    → (judged >>= λ modules. if_few_sites (rules_with s digest exports modules)) ≡ Ok rules → terms_within s ≡ true → are_module_names (file_names objects) ≡ true → All IsShort objects
    → exports_wanted kernel names ≡ Ok exports → rules_within rules ≡ true
by_modules s digest kernel names objects exports rules (Ok modules) is e good named short wanted =
    by_sites s digest kernel names objects exports modules rules (few_sites modules) refl e good named wanted (all_made exports objects modules is short)
by_modules s digest kernel names objects exports rules (Err fault) is e good named short wanted = absurd (cc e)

by_exports : (s : Terms) (digest kernel : List ℕ) (names : List (List ℕ)) (objects : List ModuleFile) (rules : Rules) (judged : Judged (List Export)) → exports_wanted kernel names ≡ judged
    → (judged >>= λ exports. modules_made exports objects >>= λ modules. if_few_sites (rules_with s digest exports modules)) ≡ Ok rules → terms_within s ≡ true
    → are_module_names (file_names objects) ≡ true → All IsShort objects → rules_within rules ≡ true
by_exports s digest kernel names objects rules (Ok exports) is e good named short = by_modules s digest kernel names objects exports rules (modules_made exports objects) refl e good named short is
by_exports s digest kernel names objects rules (Err fault) is e good named short = absurd (cc e)

pub policy_within : (s : Terms) (digest kernel : List ℕ) (names : List (List ℕ)) (objects : List ModuleFile) (rules : Rules) → terms_within s ≡ true → are_module_names (file_names objects) ≡ true
    → All IsShort objects → policy_after s kernel digest names objects ≡ Ok rules → rules_within rules ≡ true
unfolding policy_after
policy_within s digest kernel names objects rules good named short e = by_exports s digest kernel names objects rules (exports_wanted kernel names) refl e good named short

-- ---- the same of what the program makes

files_short : (objects : List ObjectFile) → All IsShort (map file_of objects)
files_short [] = All-nil IsShort
files_short (o ∷ objects) = All-cons IsShort (file_of o) (map file_of objects) o.short (files_short objects)

pub made_within : (s : Terms) (digest kernel : List ℕ) (names : List (List ℕ)) (objects : List ObjectFile) (exports : List Export) (modules : List ModuleRule) →
    exports_wanted kernel names ≡ Ok exports
    → modules_made exports (map file_of objects) ≡ Ok modules → (result : Result Policy MakingRefusal) → IfOk result (λ made. if_few_sites (rules_with s digest exports modules) ≡ Ok (rules_of made))
    → terms_within s ≡ true → are_module_names (file_names (map file_of objects)) ≡ true → IfOk result (λ made. rules_within (rules_of made) ≡ true)
made_within s digest kernel names objects exports modules wanted is (Ok made) e good named =
    by_sites s digest kernel names (map file_of objects) exports modules (rules_of made) (few_sites modules) refl e good named wanted
    (all_made exports (map file_of objects) modules is (files_short objects))
made_within s digest kernel names objects exports modules wanted is (Err refusal) e good named = tt
