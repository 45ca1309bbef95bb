use Rattle.std.proofs.Common.{◌≡◌, ◌∙◌, ◌+◌, ◌<◌, ℕ, List, [], ◌∷◌, ◌++◌, length, map, take, get_or, ap, ap₂, sym}
use Rattle.std.proofs.lemmas.List.{map_push, map_more}
use Rattle.sv_types.specs.Kernel.{LoadedSegment, loaded_segment, segment_checks}
use Rattle.sv_types.specs.declared.kernel.ProgramHeader.{ProgramHeader}
use Rattle.sv_types.proofs.FileChecks.{segment_passed}
use Rattle.elf64_load.specs.Images.{segment_of}
use Rattle.elf64_load.specs.declared.image.Segment.{Segment}
use Rattle.elf64_load.proofs.FirstRefusals.{each_passed}
use Rattle.elf64_load.proofs.read.loaded_segments.Goals as goal

-- one segment more
segment_more : (file : List ℕ) (headers : List ProgramHeader) (i : ℕ) (d : ProgramHeader) (before after : List Segment) (segment : Segment) → i < length headers
    → segment_of segment ≡ loaded_segment file (get_or headers i d) → after ≡ before ++ segment ∷ [] → map segment_of before ≡ map (loaded_segment file) (take i headers)
    → map segment_of after ≡ map (loaded_segment file) (take (i + 1) headers)
segment_more file headers i d before after segment within is more so_far =
    ap (map segment_of) more
    ∙ map_push segment_of before segment
    ∙ ap₂ (λ (ss : List LoadedSegment) (s : LoadedSegment). ss ++ s ∷ []) so_far is
    ∙ sym (map_more (loaded_segment file) headers i d within)

pub loaded_segment-requires : goal.loaded_segment-requires
loaded_segment-requires c =
    let passes = each_passed (segment_checks (length c.args.file.now) c.args.ram_pages) c.args.headers.now c.headers.header-index _ c.headers-test.true c.requires in
    (segment_passed (length c.args.file.now) c.args.ram_pages _ passes).in_file

pub headers-preserved : goal.headers-preserved
headers-preserved c =
    let l = c.headers in
    segment_more c.args.file.now c.args.headers.now l.header-index _ l.segments.items c.push.new.self.items c.loaded_segment.result c.headers-test.true
    c.loaded_segment.ensures c.in_ok-push.ensures.items l.invariant
