-- A member that is put into a table.
use Rattle.std.proofs.Common.{◌≡◌, ◌≢◌, List, [], ◌∷◌, length, codes, String, Global, string_bytes, Ordering, Less, Equal, Greater, refl, ap, ◌∙◌}
use Rattle.std.specs.Ordering.{match_ordering}
use Rattle.std.specs.BTreeMap.{insert_entry}
use Rattle.std.specs.String.{string_cmp}
use Rattle.toml.proofs.Views.{Entry}
use Rattle.toml.specs.Data.{Members, member}
use Rattle.toml.specs.View.{view, members_view}
use Rattle.toml.specs.declared.value.Value.{Value}
use Rattle.sv_types.specs.Policies.{ModuleRule}
use Rattle.sv_types.specs.declared.policy.Export.{Export}
use Rattle.policy.specs.Printed.{with_member, with_exports, exports_data, with_modules, modules_data}

members_of_either : (o : Ordering) (a b c : List Entry) → members_view (match_ordering o a b c) ≡ match_ordering o (members_view a) (members_view b) (members_view c)
members_of_either Less a b c = refl
members_of_either Equal a b c = refl
members_of_either Greater a b c = refl

pub members_view_insert : (es : List Entry) (k : String Global) (v : Value) → members_view (insert_entry string_cmp es k v) ≡ with_member (string_bytes k) (view v) (members_view es)
members_view_insert [] k v = refl
members_view_insert (e ∷ es) k v =
    members_of_either (string_cmp k e.0) ((k, v) ∷ e ∷ es) ((e.0, v) ∷ es) (e ∷ insert_entry string_cmp es k v)
    ∙ ap (λ (rest : Members). match_ordering (string_cmp k e.0) (members_view ((k, v) ∷ e ∷ es)) (members_view ((e.0, v) ∷ es)) (member (string_bytes e.0) (view e.1) rest))
    (members_view_insert es k v)

-- ---- keys of lists

pub no_exports : (es : List Export) (ms : Members) → length es ≡ 0 → ms ≡ with_exports es ms
no_exports [] ms none = refl
no_exports (e ∷ es) ms none = absurd (cc none)

pub some_exports : (es : List Export) (ms : Members) → length es ≢ 0 → with_member (codes "exports") (exports_data es) ms ≡ with_exports es ms
some_exports [] ms some = absurd (some refl)
some_exports (e ∷ es) ms some = refl

pub no_modules : (rules : List ModuleRule) (ms : Members) → length rules ≡ 0 → ms ≡ with_modules rules ms
no_modules [] ms none = refl
no_modules (m ∷ more) ms none = absurd (cc none)

pub some_modules : (rules : List ModuleRule) (ms : Members) → length rules ≢ 0 → with_member (codes "module") (modules_data rules) ms ≡ with_modules rules ms
some_modules [] ms some = absurd (some refl)
some_modules (m ∷ more) ms some = refl
