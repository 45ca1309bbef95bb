use Rattle.std.proofs.Common.{List, filter, map, ap, sym, ◌∙◌}
use Rattle.elf64_load.specs.Images.{is_text, segment_of, segments_of}
use Rattle.elf64_load.specs.declared.image.Segment.{Segment}
use Rattle.elf64_load.proofs.WholeText.{whole_text}
use Rattle.elf64_load.proofs.image.KernelImage.text_in_file.Goals as goal

pub returns-then-is_whole : goal.returns-then-is_whole
returns-then-is_whole c = whole_text (segments_of c.args.self.now) (segment_of c.in_ok-text.text) (ap (λ (ss : List Segment). filter is_text (map segment_of ss))
    (sym c.deref.ensures.value) ∙ c.in_ok-text.ensures) (c.is_whole.ensures c.if-is_whole.true)
