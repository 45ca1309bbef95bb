use Rattle.std.proofs.Common.{List, ℕ, refl, ◌∙◌, ap}
use Rattle.elf64_load.specs.Symbols.{max_symbol_bytes, name_at, name_in}
use Rattle.elf64_load.proofs.Windows.{window}
use Rattle.elf64_load.proofs.symbols.symbols.name_at.Goals as goal

pub returns : goal.returns
unfolding name_at
returns c =
    c.name_in.ensures
    ∙ ap (λ (bytes : List ℕ). name_in bytes) (window max_symbol_bytes c.args.at c.min.result c.min-2.result c.args.strings.now _ c.min.ensures refl c.min-2.ensures)
