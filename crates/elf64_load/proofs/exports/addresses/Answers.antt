use Rattle.std.proofs.Common.{◌∙◌, arith}
use Rattle.elf64_load.specs.Sections.{symbol_count}
use Rattle.elf64_load.specs.Exports.{address_of}
use Rattle.elf64_load.proofs.ExportsFound.{address_before, none_found, all_found}
use Rattle.elf64_load.proofs.exports.addresses.Goals as goal

pub symbols-init : goal.symbols-init
symbols-init c = λ name.
    let count = c.symbol_count-i.ensures in
    none_found c.new-addresses.result c.args.tables.now.strings.now c.args.tables.now.symbols.now name c.symbol_count-i.result _ c.new-addresses.ensures.empty (omega arith)

pub symbols-preserved : goal.symbols-preserved
symbols-preserved c = λ name.
    let count = c.symbol_count-i.ensures in
    let some = c.symbols-test.true in
    let most = c.symbols.auto.i in
    address_before c.args.tables.now.strings.now c.args.tables.now.symbols.now name _ c.symbols.i _ _ c.symbol_at.result _ _ (omega arith) (omega arith)
    c.symbol_at.ensures (c.symbols.invariant name) (c.in_ok-define.ensures name)

pub returns : goal.returns
unfolding address_of
returns c = λ name.
    c.symbols.invariant name
    ∙ all_found c.args.tables.now.strings.now c.args.tables.now.symbols.now name c.symbols.i (symbol_count c.args.tables.now.symbols.now) c.symbols-test.false
