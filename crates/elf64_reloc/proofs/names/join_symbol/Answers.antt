use Rattle.std.proofs.Common.{ℕ, List, sym, ◌∙◌, ap}
use Rattle.std.specs.Prelude.{option_map}
use Rattle.std.specs.Borrow.{Bor}
use Rattle.elf64_reloc.specs.Modules.{symbol_joined}
use Rattle.elf64_reloc.proofs.NamesJoined.{name_put, named_put}
use Rattle.elf64_reloc.proofs.names.join_symbol.Goals as goal

pub returns-in-Ok-clause-named : goal.returns-in-Ok-clause-named
returns-in-Ok-clause-named c =
    named_put c.in-Some.text c.args.names.now.entries c.insert.new.self.entries c.in-Some-new.name c.in-Some-new.ensures.name c.requires c.in-Ok.ensures.entries

pub returns-in-Ok-clause-ok : goal.returns-in-Ok-clause-ok
unfolding symbol_joined
returns-in-Ok-clause-ok c =
    name_put c.in-Some.text c.args.names.now.entries c.insert.new.self.entries c.in-Some-new.name c.args.symbol.now.section _ c.in-Some-new.ensures.name c.requires c.in-Ok.ensures.entries
    c.if-symbol-ne0.false (sym c.name_at.ensures.name ∙ ap (option_map (λ (n : Bor (List ℕ)). n.now)) c.in-Some.is)
