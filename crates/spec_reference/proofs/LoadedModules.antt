-- A module that was found has the id that was asked for.
use Rattle.std.proofs.Common.{◌≡◌, ℕ, List, [], ◌∷◌, refl, sym, ◌∙◌, ap, Bool, true, false}
use Rattle.std.specs.Prelude.{Option, Some, if◌then◌else◌, ◌==◌}
use Rattle.std.proofs.lemmas.Bool.{eqb-true}
use Rattle.sv_types.specs.declared.saved.ModulePlacement.{ModulePlacement}
use Rattle.spec_reference.specs.States.{find_module}

found_by : (m n : ModulePlacement) (id : ℕ) (b : Bool) (rest : Option ModulePlacement) → (n.id == id) ≡ b → (rest ≡ Some m → m.id ≡ id) → (if b then Some n else rest) ≡ Some m → m.id ≡ id
found_by m n id true rest at more e = let same : n ≡ m = cc in ap (λ (x : ModulePlacement). x.id) (sym same) ∙ eqb-true n.id id at
found_by m n id false rest at more e = more e

pub found_id : (modules : List ModulePlacement) (id : ℕ) (m : ModulePlacement) → find_module modules id ≡ Some m → m.id ≡ id
unfolding find_module
found_id [] id m e = cc
found_id (n ∷ modules) id m e = found_by m n id (n.id == id) (find_module modules id) refl (found_id modules id m) e
