-- The names of modules.
use Rattle.std.proofs.Common.{◌≡◌, ℕ, map, List, [], ◌∷◌, Bool, ◌||◌, refl, ap}
use Rattle.std.specs.List.{list_any}
use Rattle.std.specs.Str.{bytes_eq}
use Rattle.sv_types.specs.Policies.{is_module, module_rule}
use Rattle.sv_types.specs.declared.policy.ModulePolicy.{ModulePolicy}

pub is_module_of_rules : (name : List ℕ) (ms : List ModulePolicy) → is_module name (map module_rule ms) ≡ list_any (λ (m : ModulePolicy). bytes_eq m.name name) ms
is_module_of_rules name [] = refl
is_module_of_rules name (m ∷ ms) = ap (λ (b : Bool). bytes_eq m.name name || b) (is_module_of_rules name ms)
