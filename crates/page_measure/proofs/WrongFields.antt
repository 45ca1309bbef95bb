-- The first wrong field, one site after another.
use Rattle.std.proofs.Common.{◌≡◌, ℕ, ◌+◌, ◌<◌, ◌≤◌, Bool, true, false, List, length, drop, get_or, ap, sym, ◌∙◌}
use Rattle.std.specs.Prelude.{Some, None, if◌then◌else◌}
use Rattle.std.proofs.Math.ListN.{drop_of_length-le}
use Rattle.sv_types.specs.declared.module.Bases.{Bases}
use Rattle.sv_types.specs.declared.module.Site.{Site}
use Rattle.sv_types.specs.declared.policy.Export.{Export}
use Rattle.spec_reference.specs.Relocations.{field_right}
use Rattle.page_measure.specs.Wrong.{first_wrong, wrong_field}
use Rattle.page_measure.proofs.Sites.{front}

one_tried : (exports : List Export) (bases : Bases) (text : List ℕ) (sites : List Site) (i : ℕ) (d : Site) → i < length sites
    → first_wrong exports bases text (drop i sites)
    ≡ (if field_right exports bases text (get_or sites i d) then first_wrong exports bases text (drop (i + 1) sites)
    else Some (wrong_field exports bases text (get_or sites i d)))
unfolding first_wrong
one_tried exports bases text sites i d within = ap (λ (l : List Site). first_wrong exports bases text l) (front sites i d within)

pub one_wrong : (exports : List Export) (bases : Bases) (text : List ℕ) (sites : List Site) (i : ℕ) (d : Site) → i < length sites
    → field_right exports bases text (get_or sites i d) ≡ false
    → first_wrong exports bases text (drop i sites) ≡ Some (wrong_field exports bases text (get_or sites i d))
one_wrong exports bases text sites i d within is =
    one_tried exports bases text sites i d within
    ∙ ap (λ (b : Bool). if b then first_wrong exports bases text (drop (i + 1) sites) else Some (wrong_field exports bases text (get_or sites i d))) is

pub one_right : (exports : List Export) (bases : Bases) (text : List ℕ) (sites : List Site) (i : ℕ) (d : Site) → i < length sites
    → field_right exports bases text (get_or sites i d) ≡ true
    → first_wrong exports bases text (drop (i + 1) sites) ≡ first_wrong exports bases text (drop i sites)
one_right exports bases text sites i d within is =
    sym (one_tried exports bases text sites i d within
    ∙ ap (λ (b : Bool). if b then first_wrong exports bases text (drop (i + 1) sites) else Some (wrong_field exports bases text (get_or sites i d))) is)

pub none_wrong : (exports : List Export) (bases : Bases) (text : List ℕ) (sites : List Site) (n : ℕ) → length sites ≤ n
    → None ≡ first_wrong exports bases text (drop n sites)
unfolding first_wrong
none_wrong exports bases text sites n past = sym (ap (λ (l : List Site). first_wrong exports bases text l) (drop_of_length-le sites past))
