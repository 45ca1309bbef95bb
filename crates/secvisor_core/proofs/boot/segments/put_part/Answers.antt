use Rattle.std.proofs.Common.{◌≡◌, ◌+◌, ◌-◌, ◌≤◌, length, take, drop, arith, length-take, length-drop}
use Rattle.spec_processor.specs.Bytes.{part}
use Rattle.elf64_load.proofs.Pages.{part_within}
use Rattle.secvisor_core.proofs.Written.{part_put, part_size}
use Rattle.secvisor_core.proofs.boot.segments.put_part.Goals as goal

pub put_zeros-requires : goal.put_zeros-requires
put_zeros-requires c =
    let base = c.table_bytes-base.ensures.value in
    let from = c.min-start.ensures in
    let to = c.min-end.ensures in
    let inside = c.requires.inside in
    let bytes = c.args.bytes.now in
    let piece = take (c.min-end.result - c.min-start.result) (drop c.min-start.result bytes) in
    let size : length piece ≤ c.min-end.result - c.min-start.result = let most = length-take (c.min-end.result - c.min-start.result) (drop c.min-start.result bytes) in omega arith in
    let kept = part_size c.args.mem.now c.copy_in.new.self c.args.place (c.table_bytes-base.result + c.args.place) piece (omega arith) (omega arith) c.copy_in.ensures.ram in
    omega arith

pub returns : goal.returns
returns c =
    let base = c.table_bytes-base.ensures.value in
    let from = c.min-start.ensures in
    let to = c.min-end.ensures in
    let bytes = c.args.bytes.now in
    let piece = take (c.min-end.result - c.min-start.result) (drop c.min-start.result bytes) in
    let is : piece ≡ part bytes c.args.from c.args.count = rw (c.min-end.ensures, c.min-start.ensures) (part_within bytes c.args.from c.args.count) in
    let size : length piece ≡ c.min-end.result - c.min-start.result =
    let most = length-take (c.min-end.result - c.min-start.result) (drop c.min-start.result bytes) in
    let rest = length-drop c.min-start.result bytes in omega arith in
    part_put c.args.mem.now c.copy_in.new.self c.put_zeros.new.mem c.args.place (c.table_bytes-base.result + c.args.place) c.args.from c.args.count (c.min-end.result - c.min-start.result)
    bytes piece size c.requires.inside (omega arith) is c.copy_in.ensures.ram c.put_zeros.ensures
