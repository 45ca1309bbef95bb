-- One name more in the table of wanted names.
use Rattle.std.proofs.Common.{◌≡◌, ℕ, List, [], ◌∷◌, map, refl, ap, sym, ◌∙◌, Less, Equal, Greater, Ok, Some, Option, if◌then◌else◌, ◌==◌}
use Rattle.std.specs.Prelude.{All}
use Rattle.std.specs.BTreeMap.{insert_entry}
use Rattle.std.specs.BTreeSet.{replace_key}
use Rattle.std.specs.Borrow.{Bor}
use Rattle.std.specs.Cmp.Lexicographic.{slice_cmp}
use Rattle.std.specs.Ordering.{nat_cmp}
use Rattle.std.specs.declared.cmp.Ordering.{Ordering}
use Rattle.std.proofs.lemmas.Map.Lookups.{exact_bytes}
use Rattle.elf64_reloc.specs.Modules.{name_joined}
use Rattle.std.proofs.lemmas.List.Elements.{All-nil, All-cons, All-head, All-tail}

abbrev Entry : Type 0
Entry = Bor (List ℕ) × List ℕ

abbrev by_text : Bor (List ℕ) → Bor (List ℕ) → Ordering
by_text x y = slice_cmp nat_cmp x.now y.now

abbrev IsNamed : Entry → Type 0
IsNamed e = e.1 ≡ e.0.now

abbrev value : Entry → List ℕ
value e = e.1

-- the values after a name that is put at its place, and that each stands alongside its own bytes
pub record Put (k : Bor (List ℕ)) (es : List Entry) (v : List ℕ) : Type 0 where
  pub values_are : map value (insert_entry by_text es k v) ≡ replace_key (slice_cmp nat_cmp) (map value es) v
  pub named : All IsNamed (insert_entry by_text es k v)

put_by : (k : Bor (List ℕ)) (e : Entry) (es : List Entry) (v : List ℕ) (o : Ordering) → by_text k e.0 ≡ o → slice_cmp nat_cmp v e.1 ≡ o
    → v ≡ k.now → All IsNamed (e ∷ es) → Put k es v → Put k (e ∷ es) v
put_by k e es v Less first second is named rest = record {
  values_are = rw (first, second) refl;
  named = rw first (All-cons IsNamed (k, v) (e ∷ es) is named);
}
put_by k e es v Equal first second is named rest = record {
  values_are = rw (first, second) refl;
  named = rw first (All-cons IsNamed (e.0, v) es (exact_bytes v e.1 second ∙ All-head IsNamed e es named) (All-tail IsNamed e es named));
}
put_by k e es v Greater first second is named rest = record {
  values_are = rw (first, second) (ap (λ (vs : List (List ℕ)). e.1 ∷ vs) rest.values_are);
  named = rw first (All-cons IsNamed e (insert_entry by_text es k v) (All-head IsNamed e es named) rest.named);
}

pub put : (k : Bor (List ℕ)) (es : List Entry) (v : List ℕ) → v ≡ k.now → All IsNamed es → Put k es v
put k [] v is named = record { values_are = refl; named = All-cons IsNamed (k, v) [] is (All-nil IsNamed) }
put k (e ∷ es) v is named =
    let own : e.1 ≡ e.0.now = All-head IsNamed e es named in
    put_by k e es v (by_text k e.0) refl (ap (λ (x : List ℕ). slice_cmp nat_cmp x e.1) is ∙ ap (λ (x : List ℕ). slice_cmp nat_cmp k.now x) own)
    is named (put k es v is (All-tail IsNamed e es named))

pub named_put : (k : Bor (List ℕ)) (old new : List Entry) (v : List ℕ) → v ≡ k.now → All IsNamed old → new ≡ insert_entry by_text old k v → All IsNamed new
named_put k old new v is named now = rw now (put k old v is named).named

-- the name of a wanted symbol joins
pub name_put : (k : Bor (List ℕ)) (old new : List Entry) (v : List ℕ) (section : ℕ) (name : Option (List ℕ)) → v ≡ k.now → All IsNamed old → new ≡ insert_entry by_text old k v
    → section ≡ 0 → name ≡ Some k.now
    → (if section == 0 then name_joined (map value old) name else Ok (map value old)) ≡ Ok (map value new)
name_put k old new v section name is named now none found =
    rw (none, found, now) (ap (λ (ns : List (List ℕ)). Ok ns) (ap (λ (x : List ℕ). replace_key (slice_cmp nat_cmp) (map value old) x) (sym is) ∙ sym (put k old v is named).values_are))
