use Rattle.std.proofs.Common.{◌≡◌, ◌+◌}
use Rattle.sv_types.specs.Policies.{rules_of}
use Rattle.module_gate.specs.Gates.{with_digests}
use Rattle.machine.specs.Counting.{IsCounted}
use Rattle.machine.proofs.resumed.load.count_pages.Given as goal

-- so many pages are counted
abbrev pub invariant-counted : goal.invariant-counted
invariant-counted l =
    IsCounted (rules_of l.policy) l.mem.ram (with_digests l.gate.digests l.load) × (
    (l.gate ≡ record l.fn.gate { digests = l.gate.digests }) × (
    (l.load.left + l.counter ≡ l.fn.load.left) × ((l.load.about ≡ l.fn.load.about) × (l.load.pages ≡ l.fn.load.pages))))
