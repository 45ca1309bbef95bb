use Rattle.std.proofs.Common.{◌∙◌}
use Rattle.machine.proofs.ImageStarting.{text_whole}
use Rattle.machine.proofs.image_start.judge_text.Goals as goal

pub judge_measure-requires-after_bounds : goal.judge_measure-requires-after_bounds
judge_measure-requires-after_bounds g c κs within = text_whole c.args.image.now c.in-Some.text.now c.in-Some.ensures

pub judge_measure-requires-2-after_bounds : goal.judge_measure-requires-2-after_bounds
judge_measure-requires-2-after_bounds g c κs within = text_whole c.args.image.now c.deref.result.now (c.deref.ensures.value ∙ c.in_ok-text.ensures)
