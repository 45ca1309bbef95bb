-- A page's protection set in the list is one set in the function of pages.
use Rattle.std.proofs.Common.{◌≡◌, ℕ, zero, suc, ◌*◌, ◌<◌, List, [], ◌∷◌, length, refl, sym, ◌∙◌, ap, subst, Bool, true, false, slice_get, slice_set, arith}
use Rattle.std.specs.Prelude.{Some, ◌==◌, if◌then◌else◌}
use Rattle.std.proofs.lemmas.Bool.{eqb-true, eq-eqb}
use Rattle.std.proofs.lemmas.List.{length-set}
use Rattle.spec_processor.specs.Regions.{Region}
use Rattle.sv_types.specs.Views.{protect, AreViews}
use Rattle.spec_processor.specs.Bytes.{page_size}
use Rattle.sv_types.specs.declared.protection.Protection.{Protection}
use Rattle.gstage_tables.specs.Blocks.{CountsTaken}
use Rattle.gstage_tables.specs.Layout.{Shape, HoldsTrees, AreDrawn}
use Rattle.spec_reference.specs.Protections.{protection_at, or_free}
use Rattle.page_guard.specs.Guarded.{TablesMatchGuard}
use Rattle.sv_types.proofs.SetElements.{set_other}

pub get_same : (g : List Protection) (page : ℕ) (x : Protection) → page < length g → slice_get (slice_set g page x) page ≡ Some x
get_same [] page x below = absurd (omega arith)
get_same (y ∷ g) zero x below = refl
get_same (y ∷ g) (suc page) x below = get_same g page x (omega arith)

by_test : (g : List Protection) (page k : ℕ) (x : Protection) (b : Bool) → (k == page) ≡ b → page < length g
    → or_free (slice_get (slice_set g page x) k) ≡ (if b then x else or_free (slice_get g k))
by_test g page k x true e below = let same : k ≡ page = eqb-true k page e in ap or_free (subst (λ (n : ℕ). slice_get (slice_set g page x) n ≡ Some x) (sym same) (get_same g page x below))
by_test g page k x false e below = ap or_free (set_other g page k x (λ same. let t : (page == page) ≡ false = subst (λ (n : ℕ). (n == page) ≡ false) same e in apart page t))
  where
    apart : (n : ℕ) → (n == n) ≡ false → ⊥
    apart n t = let r : (n == n) ≡ true = eq-eqb n n refl in cc

-- functions of pages that agree everywhere are the same
pub set_is_protect : (g : List Protection) (page : ℕ) (x : Protection) → page < length g → protect (protection_at g) page x ≡ protection_at (slice_set g page x)
set_is_protect g page x below = λ i k. sym (by_test g page k x (k == page) refl below) i

pub set_tables_match : (r : Region) (g : List Protection) (bound : List ℕ) (page : ℕ) (x : Protection) → page < length g
    → HoldsTrees r.tables (length g) bound (protect (protection_at g) page x)
    → AreViews r.tables (length g) bound (protect (protection_at g) page x)
    → length r.ram ≡ page_size * length g → TablesMatchGuard r (record { pages = slice_set g page x; bound = bound })
set_tables_match r g bound page x below trees views ram =
    let same = set_is_protect g page x below in
    let size = sym (length-set g page x) in record {
      ram = ram ∙ ap (λ (n : ℕ). page_size * n) size;
      views = subst (λ (n : ℕ). AreViews r.tables n bound (protection_at (slice_set g page x))) size (subst (AreViews r.tables (length g) bound) same views);
      trees = subst (λ (n : ℕ). HoldsTrees r.tables n bound (protection_at (slice_set g page x))) size (subst (HoldsTrees r.tables (length g) bound) same trees);
    }

-- the guard's trees are drawn for its list
pub drawn_by : (tables : List ℕ) (trees : Shape) (g : List Protection) → trees.ram_pages ≡ length g
    → HoldsTrees tables (length g) trees.bound (protection_at g) → CountsTaken trees.counts (length g) (protection_at g) → AreDrawn tables trees (protection_at g)
drawn_by tables trees g pages holds counts = record {
  holds = subst (λ (n : ℕ). HoldsTrees tables n trees.bound (protection_at g)) (sym pages) holds;
  counts = subst (λ (n : ℕ). CountsTaken trees.counts n (protection_at g)) (sym pages) counts;
}

-- what drawn trees give, by the pages and the bound entries that they are drawn for
pub drawn_for : (tables : List ℕ) (trees : Shape) (n : ℕ) (bound : List ℕ) (ps : ℕ → Protection) → trees.ram_pages ≡ n → trees.bound ≡ bound → AreDrawn tables trees ps
    → HoldsTrees tables n bound ps × CountsTaken trees.counts n ps
drawn_for tables trees n bound ps pages same drawn = (
  subst (λ (b : List ℕ). HoldsTrees tables n b ps) same (subst (λ (m : ℕ). HoldsTrees tables m trees.bound ps) pages drawn.holds),
  subst (λ (m : ℕ). CountsTaken trees.counts m ps) pages drawn.counts,
)
