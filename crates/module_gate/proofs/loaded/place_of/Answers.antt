use Rattle.std.proofs.Common.{rules, ◌≡◌, ◌∙◌, sym, ℕ, ap, subst, ◌≤◌, length}
use Rattle.std.specs.Prelude.{unwrap_or, position, nat_lt}
use Rattle.std.specs.List.{insert}
use Rattle.sv_types.specs.declared.saved.ModulePlacement.{ModulePlacement}
use Rattle.module_gate.proofs.Lists.{place_is, place_inside, inserted_is}
use Rattle.module_gate.proofs.loaded.place_of.Goals as goal

pub returns : goal.returns
returns c =
    let about = c.args.about.now in
    let modules = c.args.modules.now in
    let test = λ (m : ModulePlacement). nat_lt about.id m.id in
    let there : c.unwrap_or.result ≡ unwrap_or (position test modules) (length modules) = search rules in
    let place = there ∙ place_is test modules in record {
      inside = subst (λ (n : ℕ). n ≤ length modules) (sym place) (place_inside test modules);
      place = ap (λ (n : ℕ). insert modules n about) place ∙ inserted_is modules about;
    }
