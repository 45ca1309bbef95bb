use Rattle.std.proofs.Common.{rules, ◌≡◌, ◌≤◌, ◌∙◌, sym, ap, arith, ℕ, List, length, map, replicate, subst}
use Rattle.spec_processor.specs.Regions.{max_ram_pages}
use Rattle.sv_types.specs.Views.{AreViews, all_free}
use Rattle.sv_types.specs.declared.protection.Protection.TheVariants.{Free}
use Rattle.sv_types.specs.declared.protection.Protection.{Protection}
use Rattle.gstage_tables.specs.Blocks.{CountsTaken}
use Rattle.gstage_tables.specs.Layout.{HoldsTrees}
use Rattle.sv_types.specs.Protections.{is_free}
use Rattle.spec_reference.specs.Protections.{protection_at}
use Rattle.page_guard.specs.Guarded.{TablesMatchGuard}
use Rattle.page_guard.proofs.Spans.{free_bits, new_tables_match, none_held}
use Rattle.page_guard.proofs.guard.Guard.new.Goals as goal

pub invariant_of-result : goal.invariant_of-result
invariant_of-result c =
    let items : c.in_ok-protections.protections.items ≡ replicate c.ram_pages-pages.result Free = search rules in
    let size : length c.in_ok-protections.protections.items ≡ c.ram_pages-pages.result = search rules in
    let ram = ap (λ (ram : List ℕ). length ram) c.new-trees.ensures.ram in
    let pages : c.new-trees.result.ram_pages ≡ c.ram_pages-pages.result = omega (arith, c.new-trees.ensures.pages, c.ram_pages-pages.ensures.value, ram) in
    let most : c.ram_pages-pages.result ≤ max_ram_pages = omega (arith, c.ram_pages-pages.ensures.value, c.ram_pages-pages.ensures.region.most) in
    let bits : c.in_ok-dma.dma ≡ map is_free (replicate c.ram_pages-pages.result Free) = c.in_ok-dma.ensures ∙ sym (free_bits c.ram_pages-pages.result) in
    let counts : CountsTaken c.new-trees.result.counts c.ram_pages-pages.result (protection_at (replicate c.ram_pages-pages.result Free)) =
    subst (λ (n : ℕ). CountsTaken c.new-trees.result.counts n (protection_at (replicate c.ram_pages-pages.result Free))) pages
    (subst (CountsTaken c.new-trees.result.counts c.new-trees.result.ram_pages) (none_held c.ram_pages-pages.result) c.new-trees.ensures.drawn.counts) in
    let counted : CountsTaken c.new-trees.result.counts (length c.in_ok-protections.protections.items) (protection_at c.in_ok-protections.protections.items) =
    subst (λ (n : ℕ). CountsTaken c.new-trees.result.counts n (protection_at c.in_ok-protections.protections.items)) (sym size)
    (subst (λ (list : List Protection). CountsTaken c.new-trees.result.counts c.ram_pages-pages.result (protection_at list)) (sym items) counts) in
    (pages ∙ sym size, (counted, (bits ∙ ap (map is_free) (sym items), rw size most)))

pub returns-clause-guards : goal.returns-clause-guards
returns-clause-guards c =
    let items : c.in_ok-protections.protections.items ≡ replicate c.ram_pages-pages.result Free = search rules in
    let ram = ap (λ (ram : List ℕ). length ram) c.new-trees.ensures.ram in
    let pages : c.new-trees.result.ram_pages ≡ c.ram_pages-pages.result = omega (arith, c.new-trees.ensures.pages, c.ram_pages-pages.ensures.value, ram) in
    let bound = c.new-trees.result.bound in
    let tables_match = subst (λ (list : List Protection). TablesMatchGuard c.new-trees.new.mem (record { pages = list; bound = bound })) (sym items)
    (new_tables_match c.new-trees.new.mem c.ram_pages-pages.result bound
    (omega (arith, c.new-trees.ensures.pages, pages))
    (subst (λ (n : ℕ). AreViews c.new-trees.new.mem.tables n bound all_free) pages c.new-trees.ensures.views)
    (subst (λ (n : ℕ). HoldsTrees c.new-trees.new.mem.tables n bound all_free) pages c.new-trees.ensures.drawn.holds)) in
    record { bound = search rules; tables_match = tables_match }
