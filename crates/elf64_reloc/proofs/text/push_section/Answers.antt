use Rattle.std.proofs.Common.{ℕ, ◌≤◌, subst, sym}
use Rattle.spec_processor.specs.Bytes.{page_size}
use Rattle.elf64_reloc.proofs.Lists.{padding_small}
use Rattle.elf64_reloc.proofs.text.push_section.Goals as goal

pub push_zeros-requires : goal.push_zeros-requires
push_zeros-requires c =
    let P : ℕ → Type 0 = λ n. n ≤ page_size in
    subst P (sym c.padding.ensures) (padding_small _ c.args.section.now.alignment c.requires.alignment)
