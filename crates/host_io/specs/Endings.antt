-- How an answer ends that may end early. This project's own.
use Rattle.std.specs.Prelude.{Result, Ok, Err}
use Rattle.sv_types.specs.declared.status.Status.{Status}
use Rattle.host_io.specs.declared.trouble.Trouble.{Trouble}
use Rattle.host_io.specs.declared.trouble.Trouble.TheVariants.{Write, Memory}

-- the status at the end
abbrev pub status_of_end : Result Status Trouble → Status
status_of_end (Ok status) = status
status_of_end (Err Write) = Status.WriteFault
status_of_end (Err Memory) = Status.Memory
