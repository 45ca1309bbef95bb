use Rattle.std.proofs.Common.{◌∙◌, arith}
use Rattle.elf64_reloc.specs.Relocations.{relocations_in}
use Rattle.elf64_reloc.proofs.Lists.{relocation_pushed, none_left}
use Rattle.elf64_reloc.proofs.relocations.push_relocations.Goals as goal

pub relocations-preserved : goal.relocations-preserved
relocations-preserved c =
    let below = c.relocations-test.true in
    relocation_pushed c.args.home.now c.args.bytes.now c.relocations.i _ _ c.relocation_at.result c.relocations.relocations.items c.push_kept.new.relocations.items (omega arith)
    c.relocation_at.ensures c.in_ok-push_kept.ensures
    ∙ c.relocations.invariant

pub returns : goal.returns
unfolding relocations_in
returns c =
    let past = c.relocations-test.false in
    none_left c.args.home.now c.args.bytes.now c.relocations.i _ c.relocations.relocations.items (omega arith)
    ∙ c.relocations.invariant
