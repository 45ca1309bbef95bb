use Rattle.std.proofs.Common.{rules}
use Rattle.sv_types.specs.Measure.{measure}
use Rattle.page_measure.proofs.measure.Goals as goal

pub returns : goal.returns
unfolding measure
returns g c = search rules
