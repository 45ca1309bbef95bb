use Rattle.std.proofs.Common.{◌≡◌, ℕ, ◌+◌, ◌-◌, ◌*◌, ◌/◌, ◌∙◌, length, ap, arith}
use Rattle.std.specs.Prelude.{max, min, ◌&&◌, ◌==◌, if◌then◌else◌}
use Rattle.std.specs.List.{slice_index_or}
use Rattle.spec_processor.specs.Bytes.{ram_offset, page_size}
use Rattle.spec_processor.specs.Regions.{Region}
use Rattle.elf64_load.specs.Images.{segment_of}
use Rattle.secvisor_core.specs.Whole.{has_byte}
use Rattle.secvisor_core.proofs.Written.{in_piece, part_byte, padded_fits}
use Rattle.secvisor_core.proofs.boot.segments.put_piece.Goals as goal

pub returns-then-start-end-clause-bytes : goal.returns-then-start-end-clause-bytes
returns-then-start-end-clause-bytes c = λ at.
    let ram = c.args.mem.now.ram in
    let bytes = c.args.segment.now.bytes.now in
    let memory = c.args.segment.now.memory in
    let page = c.args.page in
    let start = c.max-start.result in
    let end = c.min-end.result in
    let place = c.ram_offset-place.result in
    let place_is : place ≡ ram_offset c.args.segment.now.gpa = c.ram_offset-place.ensures in
    let start_is : start ≡ max (ram_offset c.args.segment.now.gpa) (page_size * page) = c.max-start.ensures ∙ ap (λ n. max n (page_size * page)) place_is in
    let end_is : end ≡ min (ram_offset c.args.segment.now.gpa + memory) (page_size * page + page_size) =
    c.min-end.ensures ∙ ap (λ n. min (n + memory) (page_size * page + page_size)) place_is in
    let some = c.if-start-end.true in
    let inside = c.requires.page in
    let b = at / page_size == page && has_byte (segment_of c.args.segment.now) at in
    ap (λ (r : Region). slice_index_or r.ram at 0) c.put_part.ensures
    ∙ part_byte ram bytes place start (end - start) at (omega arith) (omega arith) b (in_piece (ram_offset c.args.segment.now.gpa) memory page start end at start_is end_is some)
    ∙ ap (λ (n : ℕ). if b then slice_index_or bytes (at - n) 0 else slice_index_or ram at 0) place_is

pub returns-then-start-end-clause-shape : goal.returns-then-start-end-clause-shape
returns-then-start-end-clause-shape c =
    let some = c.if-start-end.true in
    let inside = c.requires.page in
    let end = c.min-end.ensures in
    record {
      tables = ap (λ (r : Region). r.tables) c.put_part.ensures;
      size = ap (λ (r : Region). length r.ram) c.put_part.ensures
          ∙ padded_fits c.args.mem.now.ram c.args.segment.now.bytes.now c.max-start.result (c.max-start.result - c.ram_offset-place.result) (c.min-end.result - c.max-start.result) (omega arith);
    }
