use Rattle.std.proofs.Common.{◌≡◌, ◌*◌, ◌∙◌, ℕ, List, length, map, ap, sym, arith}
use Rattle.std.proofs.lemmas.List.{length-map, length-replicate}
use Rattle.spec_processor.specs.Bytes.{page_size}
use Rattle.sv_types.specs.Kernel.{LoadedSegment, segments_ram}
use Rattle.spec_processor.specs.Regions.{Region}
use Rattle.elf64_load.specs.Images.{segment_of, segments_of}
use Rattle.elf64_load.specs.declared.image.Segment.{Segment}
use Rattle.secvisor_core.specs.Whole.{loaded_byte}
use Rattle.secvisor_core.proofs.Loaded.{all_loaded}
use Rattle.secvisor_core.proofs.boot.segments.fill_ram.Goals as goal

pub returns-clause-ram : goal.returns-clause-ram
unfolding segments_ram
returns-clause-ram c =
    let segments = c.as_slice-segments.result.now in
    let ss = segments_of c.args.image.now in
    let same : map segment_of segments ≡ ss = ap (λ (xs : List Segment). map segment_of xs) c.as_slice-segments.ensures.value in
    let size = page_size * c.args.ram_pages in
    let all : length segments ≡ length ss = sym (length-map segments segment_of) ∙ ap length same in
    let before : length c.args.mem.now.ram ≡ size = ap length c.requires.zeros ∙ length-replicate {A = ℕ} size 0 in
    let between : length c.put_owned.new.mem.ram ≡ size = c.put_owned.ensures.shape.size ∙ before in
    let ram = all_loaded size ss (length segments) c.put_edges.new.mem.ram all c.requires.placed (c.put_edges.ensures.shape.size ∙ between)
    (λ at below. c.put_edges.ensures.bytes at (omega arith)
    ∙ ap (λ (n : ℕ). loaded_byte n (map segment_of segments) (length segments) at) between
    ∙ ap (λ (xs : List LoadedSegment). loaded_byte size xs (length segments) at) same) in
    let tables = c.put_edges.ensures.shape.tables ∙ c.put_owned.ensures.shape.tables in
    ap {B = Region} (λ (xs : List ℕ). record { tables = c.put_edges.new.mem.tables; ram = xs }) ram
    ∙ ap {B = Region} (λ (xs : List ℕ). record { tables = xs; ram = segments_ram ss c.args.ram_pages }) tables
