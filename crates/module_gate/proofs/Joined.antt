-- What holds of the load under way, from what each answer keeps.
use Rattle.std.proofs.Common.{◌≡◌, List, refl, ap, subst, false}
use Rattle.std.specs.Prelude.{Option, Some, None, IfSome, is_some, option_map}
use Rattle.sv_types.specs.Policies.{Rules}
use Rattle.sv_types.specs.declared.module.Span.{Span}
use Rattle.sv_types.specs.declared.protection.Protection.{Protection}
use Rattle.sv_types.specs.declared.protection.Protection.TheVariants.{Held}
use Rattle.page_guard.specs.Guarded.{AllAre, IsInRam}
use Rattle.module_gate.specs.Gates.{Records, load_span, module_span, pages_at}
use Rattle.module_gate.specs.Conditions.{AreJoined, AreGuarded, IsHeld, MayEnd, TakesItsPages}
use Rattle.module_gate.specs.Parts.{load_of, loading_of}
use Rattle.module_gate.specs.declared.modules.Modules.{Modules}
use Rattle.module_gate.specs.declared.modules.PendingLoad.{PendingLoad}

pub takes_its_pages : (rules : Rules) (modules : Modules) (u : PendingLoad) → AreJoined rules modules → modules.loading ≡ Some u → TakesItsPages rules u
takes_its_pages rules modules u joined there = subst (λ (o : Option PendingLoad). IfSome o (TakesItsPages rules)) there joined.pages

pub is_held : (rules : Rules) (guard : List Protection) (modules : Modules) (u : PendingLoad) → AreGuarded rules guard modules.gate.loaded (loading_of modules) → modules.loading ≡ Some u
    → IsHeld rules guard modules.gate.loaded (load_of modules.gate u)
is_held rules guard modules u guarded there = subst (λ (o : Option PendingLoad). IfSome (option_map (load_of modules.gate) o) (IsHeld rules guard modules.gate.loaded)) there guarded.load

same_span : (rules : Rules) (u : PendingLoad) → TakesItsPages rules u → module_span rules u.load.about ≡ load_span u.load
same_span rules u pages = ap (pages_at u.load.about.gpa) pages

pub may_end : (rules : Rules) (guard : List Protection) (modules : Modules) (u : PendingLoad) → AreJoined rules modules → AreGuarded rules guard modules.gate.loaded (loading_of modules)
    → modules.loading ≡ Some u → MayEnd guard modules.gate.loaded u
may_end rules guard modules u joined guarded there =
    let held = is_held rules guard modules u guarded there in
    let same = same_span rules u (takes_its_pages rules modules u joined there) in
    record {
      inside = subst (IsInRam guard) same held.inside;
      held = subst (λ (s : Span). AllAre guard s Held) same held.held;
      other = held.other;
    }

any_may_end : (rules : Rules) (guard : List Protection) (modules : Modules) (x : Option PendingLoad) → modules.loading ≡ x → AreJoined rules modules
    → AreGuarded rules guard modules.gate.loaded (loading_of modules) → IfSome x (MayEnd guard modules.gate.loaded)
any_may_end rules guard modules None none joined guarded = record {}
any_may_end rules guard modules (Some u) there joined guarded = may_end rules guard modules u joined guarded there

-- where a load is under way
pub ends : (rules : Rules) (guard : List Protection) (modules : Modules) → AreJoined rules modules → AreGuarded rules guard modules.gate.loaded (loading_of modules)
    → IfSome modules.loading (MayEnd guard modules.gate.loaded)
ends rules guard modules joined guarded = any_may_end rules guard modules modules.loading refl joined guarded

none_by : (gate : Records) (o : Option PendingLoad) → is_some (option_map (load_of gate) o) ≡ false → o ≡ None
none_by gate None e = refl
none_by gate (Some u) e = cc

pub none_under_way : (modules : Modules) → is_some (loading_of modules) ≡ false → modules.loading ≡ None
none_under_way modules idle = none_by modules.gate modules.loading idle
