use Rattle.std.proofs.Common.{◌≡◌, ◌-◌}
use Rattle.monitor_exits.specs.Masks.{all_exist}
use Rattle.monitor_exits.proofs.calls.masks.each_exists.Given as goal

-- what is left decides
abbrev pub invariant-bits : goal.invariant-bits
invariant-bits l = all_exist l.harts l.mask l.base 0 64 ≡ all_exist l.harts l.mask l.base l.i (64 - l.i)
