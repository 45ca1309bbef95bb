use Rattle.std.proofs.Common.{◌≤◌, ◌-◌}
use Rattle.std.specs.Prelude.{vec_len}
use Rattle.host_io.specs.Held.{HaveRoom}
use Rattle.host_io.proofs.memory_files.spare_rooms.Given as goal

abbrev pub invariant-spares : goal.invariant-spares
invariant-spares l = record {
  few : vec_len l.rooms ≤ l.saves;
  rooms : HaveRoom l.room l.rooms.items;
}

abbrev pub decreases-spares : goal.decreases-spares
decreases-spares l = l.saves - vec_len l.rooms
