use Rattle.std.proofs.Common.{◌∙◌}
use Rattle.elf64_reloc.proofs.Lists.{order_more}
use Rattle.elf64_reloc.proofs.order.ordered_sites.Goals as goal

pub sites-preserved : goal.sites-preserved
sites-preserved c =
    order_more c.sites.entries.entries c.insert.new.self.entries c.args.sites.now c.sites.site-index _ c.sites-test.true c.in_ok-insert.ensures.entries
    ∙ c.sites.invariant
