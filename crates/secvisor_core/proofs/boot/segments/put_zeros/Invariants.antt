use Rattle.std.proofs.Common.{◌≡◌, ◌≤◌, ◌-◌, replicate}
use Rattle.spec_processor.specs.Bytes.{overwrite}
use Rattle.secvisor_core.proofs.boot.segments.put_zeros.Given as goal

-- so many zeros are there
abbrev pub invariant-zeros : goal.invariant-zeros
invariant-zeros l = (l.mem ≡ record l.fn.mem { ram = overwrite l.fn.mem.ram l.place (replicate l.done 0) }) × (l.done ≤ l.count)

abbrev pub decreases-zeros : goal.decreases-zeros
decreases-zeros l = l.count - l.done
