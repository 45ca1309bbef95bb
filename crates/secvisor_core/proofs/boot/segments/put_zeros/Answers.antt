use Rattle.std.proofs.Common.{◌≡◌, ◌+◌, ◌∙◌, List, ℕ, length, ap, sym, arith, length-append}
use Rattle.std.proofs.lemmas.List.{length-replicate}
use Rattle.spec_processor.specs.Regions.{Region}
use Rattle.secvisor_core.proofs.Written.{nothing_written, zeros_fit, zeros_put}
use Rattle.secvisor_core.proofs.boot.segments.put_zeros.Goals as goal

pub zeros-init : goal.zeros-init
zeros-init c =
    let same = nothing_written c.args.mem.now.ram c.args.place in
    (ap {B = Region} (λ (ram : List ℕ). record { tables = c.args.mem.now.tables; ram = ram }) (sym same), omega arith)

pub copy_in-requires : goal.copy_in-requires
copy_in-requires c =
    let same = c.zeros.invariant.0 in
    let tables : length c.zeros.mem.tables ≡ length c.args.mem.now.tables = ap (λ (r : Region). length r.tables) same in
    let ram : length c.zeros.mem.ram ≡ length c.args.mem.now.ram =
    ap (λ (r : Region). length r.ram) same ∙ zeros_fit c.args.mem.now.ram c.args.place c.zeros.done c.args.count c.requires.inside c.zeros.invariant.1 in
    let base = c.table_bytes.ensures.value in
    let part = ap length c.first.ensures ∙ length-replicate {A = ℕ} c.min-next.result 0 in
    let next = c.min-next.ensures in
    let inside = c.requires.inside in
    let some = c.zeros.invariant.1 in
    rw length-append (omega arith)

pub zeros-preserved : goal.zeros-preserved
zeros-preserved c =
    let base = c.table_bytes.ensures.value in
    let inside = c.requires.inside in
    let next = c.min-next.ensures in
    let some = c.zeros.invariant.1 in (
      zeros_put c.args.mem.now c.zeros.mem c.copy_in.new.self c.args.place c.zeros.done c.min-next.result
          (c.table_bytes.result + c.args.place + c.zeros.done) c.first.result.now (omega arith) (omega arith) c.first.ensures c.zeros.invariant.0 c.copy_in.ensures.ram,
      omega arith,
    )
