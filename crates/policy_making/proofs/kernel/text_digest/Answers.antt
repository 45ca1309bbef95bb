use Rattle.std.proofs.Common.{◌∙◌}
use Rattle.elf64_load.specs.Images.{segments_of}
use Rattle.policy_making.proofs.WholePages.{text_is_whole}
use Rattle.policy_making.proofs.kernel.text_digest.Goals as goal

pub measure-requires-clause-whole_pages : goal.measure-requires-clause-whole_pages
measure-requires-clause-whole_pages g c κs within =
    text_is_whole c.in-Some.text.now (segments_of c.args.image.now) c.in-Some.ensures

pub measure-requires-2-clause-whole_pages : goal.measure-requires-2-clause-whole_pages
measure-requires-2-clause-whole_pages g c κs within =
    text_is_whole c.deref.result.now (segments_of c.args.image.now) (c.deref.ensures.value ∙ c.in_ok-text.ensures)
