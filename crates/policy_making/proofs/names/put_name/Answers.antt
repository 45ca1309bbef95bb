use Rattle.std.proofs.Common.{ℕ, List, sym, ap, ◌∙◌}
use Rattle.std.specs.Prelude.{map}
use Rattle.std.specs.Borrow.{Bor}
use Rattle.elf64_reloc.proofs.NamesJoined.{put, named_put}
use Rattle.policy_making.proofs.names.put_name.Goals as goal

pub returns-in-Ok-clause-named : goal.returns-in-Ok-clause-named
returns-in-Ok-clause-named c =
    named_put c.text-text.result c.args.once.now.entries c.insert.new.self.entries c.args.name.now (sym c.text-text.ensures.text) c.requires c.in-Ok.ensures.entries

pub returns-in-Ok-clause-put : goal.returns-in-Ok-clause-put
returns-in-Ok-clause-put c =
    ap (map (λ (e : Bor (List ℕ) × List ℕ). e.1)) c.in-Ok.ensures.entries
    ∙ (put c.text-text.result c.args.once.now.entries c.args.name.now (sym c.text-text.ensures.text) c.requires).values_are
