use Rattle.std.proofs.Common.{◌≡◌, ℕ, ◌*◌, List, length, ◌∙◌, ap, subst, arith}
use Rattle.spec_processor.specs.Bytes.{page_size}
use Rattle.sv_types.specs.Views.{AreViews, protect, all_free}
use Rattle.sv_types.specs.declared.protection.Protection.TheVariants.{Approved}
use Rattle.test_parts.proofs.attempts.draw_views.Goals as goal

pub returns-clause-views : goal.returns-clause-views
returns-clause-views c =
    let size = c.new-trees.ensures.pages in
    let ram : length c.new-trees.new.mem.ram ≡ page_size * 16 = ap (λ (bytes : List ℕ). length bytes) c.new-trees.ensures.ram ∙ c.requires.ram in
    let sixteen : c.new-trees.result.ram_pages ≡ 16 = omega (arith, size, ram) in
    subst (λ (bound : List ℕ). AreViews c.set.new.mem.tables 16 bound (protect all_free 0 Approved)) c.new-trees.ensures.bound
    (subst (λ (n : ℕ). AreViews c.set.new.mem.tables n c.new-trees.result.bound (protect all_free 0 Approved)) sixteen
    (c.set.ensures.protects.views all_free c.new-trees.ensures.drawn))
