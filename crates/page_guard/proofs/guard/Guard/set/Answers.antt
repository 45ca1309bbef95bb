use Rattle.std.proofs.Common.{rules, ◌≡◌, length, ap, ◌∙◌, sym, subst, ℕ, List, slice_set, ◌<◌}
use Rattle.std.proofs.lemmas.List.{map-set, length-set}
use Rattle.sv_types.specs.Views.{protect, AreViews}
use Rattle.gstage_tables.specs.Blocks.{CountsTaken}
use Rattle.gstage_tables.specs.Layout.{Shape}
use Rattle.sv_types.specs.Protections.{is_free}
use Rattle.spec_reference.specs.Protections.{protection_at}
use Rattle.page_guard.specs.Guarded.{Guarded, TablesMatchGuard}
use Rattle.page_guard.proofs.Sets.{drawn_by, drawn_for, set_is_protect, set_tables_match}
use Rattle.page_guard.proofs.guard.Guard.set.Goals as goal

-- src/guard.rt
pub returns-clause-tables_match : goal.returns-clause-tables_match
returns-clause-tables_match c =
    let guard = c.self.inside.protections.items in
    let trees = c.self.inside.trees in
    let view : c.args.self.now ≡ record { pages = guard; bound = trees.bound } = sym c.self.view_is in
    let tables_match : TablesMatchGuard c.args.mem.now (record { pages = guard; bound = trees.bound }) = subst (TablesMatchGuard c.args.mem.now) view c.requires.tables_match in
    let inside : c.args.page < length guard = subst (λ (g : Guarded). c.args.page < length g.pages) view c.requires.inside in
    let pages : trees.ram_pages ≡ length guard = c.self.invariant.0 in
    let bound : c.set.new.self.bound ≡ trees.bound = ap (λ (t : Shape). t.bound) c.set.ensures.protects.same in
    let drawn = drawn_by c.args.mem.now.tables trees guard pages tables_match.trees c.self.invariant.1.0 in
    let after = drawn_for c.set.new.mem.tables c.set.new.self (length guard) trees.bound (protect (protection_at guard) c.args.page c.args.protection)
    (ap (λ (t : Shape). t.ram_pages) c.set.ensures.protects.same ∙ pages) bound (c.set.ensures.protects.drawn (protection_at guard) drawn) in
    let views : AreViews c.set.new.mem.tables (length guard) trees.bound (protect (protection_at guard) c.args.page c.args.protection) =
    subst (λ (n : ℕ). AreViews c.set.new.mem.tables n trees.bound (protect (protection_at guard) c.args.page c.args.protection)) pages
    (c.set.ensures.protects.views (protection_at guard) drawn) in
    record {
      size = length-set guard c.args.page c.args.protection ∙ ap (λ (g : Guarded). length g.pages) (sym view);
      bound = bound ∙ ap (λ (g : Guarded). g.bound) (sym view);
      tables_match = subst (λ (b : List ℕ). TablesMatchGuard c.set.new.mem (record { pages = slice_set guard c.args.page c.args.protection; bound = b })) (sym bound)
          (set_tables_match c.set.new.mem guard trees.bound c.args.page c.args.protection inside after.0 views
          (ap (λ (xs : List ℕ). length xs) c.set.ensures.protects.ram ∙ tables_match.ram));
      ram = c.set.ensures.protects.ram;
    }

pub invariant_of-self : goal.invariant_of-self
invariant_of-self c =
    let guard = c.self.inside.protections.items in
    let trees = c.self.inside.trees in
    let view : c.args.self.now ≡ record { pages = guard; bound = trees.bound } = sym c.self.view_is in
    let tables_match : TablesMatchGuard c.args.mem.now (record { pages = guard; bound = trees.bound }) = subst (TablesMatchGuard c.args.mem.now) view c.requires.tables_match in
    let inside : c.args.page < length guard = subst (λ (g : Guarded). c.args.page < length g.pages) view c.requires.inside in
    let pages : trees.ram_pages ≡ length guard = c.self.invariant.0 in
    let drawn = drawn_by c.args.mem.now.tables trees guard pages tables_match.trees c.self.invariant.1.0 in
    let after = drawn_for c.set.new.mem.tables c.set.new.self (length guard) trees.bound (protect (protection_at guard) c.args.page c.args.protection)
    (ap (λ (t : Shape). t.ram_pages) c.set.ensures.protects.same ∙ pages) (ap (λ (t : Shape). t.bound) c.set.ensures.protects.same) (c.set.ensures.protects.drawn (protection_at guard) drawn) in
    let counts : CountsTaken c.set.new.self.counts (length guard) (protection_at (slice_set guard c.args.page c.args.protection)) =
    subst (CountsTaken c.set.new.self.counts (length guard)) (set_is_protect guard c.args.page c.args.protection inside) after.1 in (
      search rules,
      (
        subst (λ (n : ℕ). CountsTaken c.set.new.self.counts n (protection_at (slice_set guard c.args.page c.args.protection))) (sym (length-set guard c.args.page c.args.protection)) counts,
        (
          (search rules ∙ sym (map-set is_free guard c.args.page c.args.protection)),
          search rules,
        ),
      ),
    )
