use Rattle.std.proofs.Common.{◌<◌, ◌/◌, ◌∙◌, length, map, get_or, ap}
use Rattle.std.specs.Prelude.{nat_le, ◌&&◌, if◌then◌else◌}
use Rattle.std.proofs.lemmas.List.{length-map}
use Rattle.spec_processor.specs.Bytes.{page_size}
use Rattle.sv_types.specs.Kernel.{LoadedSegment}
use Rattle.elf64_load.specs.Images.{segment_of}
use Rattle.secvisor_core.specs.Whole.{byte_of, covers, has_byte}
use Rattle.secvisor_core.proofs.LastWhole.{item_at, placed_item}
use Rattle.secvisor_core.proofs.Loaded.{next_edge}
use Rattle.secvisor_core.proofs.boot.segments.put_edges.Goals as goal

pub put_edge-requires-clause-placed : goal.put_edge-requires-clause-placed
put_edge-requires-clause-placed c = rw c.segments.invariant.0.size (placed_item _ c.args.segments.now c.segments.i _ c.segments-test.true c.requires.placed)

pub put_edge-requires-clause-whole : goal.put_edge-requires-clause-whole
put_edge-requires-clause-whole c = λ page below due.
    ap (covers page) (item_at c.args.segments.now c.segments.i _ c.segments-test.true) ∙ (c.requires.owners page below).behind c.segments.i due c.segments-test.true

pub segments-preserved : goal.segments-preserved
segments-preserved c =
    let size = length c.args.mem.now.ram in
    let segments = c.args.segments.now in
    let ss = map segment_of segments in
    let i = c.segments.i in
    let before = c.segments.invariant in
    let ensures = c.put_edge.ensures in
    let more : i < length ss = rw (length-map segments segment_of) c.segments-test.true in (
      record { tables = ensures.shape.tables ∙ before.0.tables; size = ensures.shape.size ∙ before.0.size },
      λ at below.
          let owner = get_or c.args.owners.now (at / page_size) 0 in
          let old = get_or c.segments.mem.ram at 0 in
          next_edge size ss i owner at old (get_or c.put_edge.new.mem.ram at 0) c.requires.placed more (before.1 at below)
          (ensures.bytes at ∙ ap (λ (s : LoadedSegment). if nat_le owner i && has_byte s at then byte_of s at else old) (item_at segments i _ c.segments-test.true)),
    )
