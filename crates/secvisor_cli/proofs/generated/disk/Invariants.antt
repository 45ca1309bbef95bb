use Rattle.std.proofs.Common.{◌≡◌, ◌-◌, ◌++◌}
use Rattle.cli_plans.specs.Plans.{gen_disk}
use Rattle.secvisor_cli.proofs.ReadyLemmas.{bytes_from}
use Rattle.secvisor_cli.proofs.generated.disk.Given as goal

-- the bytes so far, and those of the places that are left
abbrev pub invariant-places : goal.invariant-places
invariant-places l = l.disk.items ++ bytes_from l.place (1024 - l.place) ≡ gen_disk
