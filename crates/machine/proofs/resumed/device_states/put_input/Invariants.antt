use Rattle.std.proofs.Common.{◌≡◌, ◌++◌, drop}
use Rattle.machine.proofs.resumed.device_states.put_input.Given as goal

-- the bytes so far wait, and the rest is left
abbrev pub invariant-keys : goal.invariant-keys
invariant-keys l =
    (l.devices ≡ record l.fn.devices { console = l.devices.console }) × (l.devices.console ++ drop l.byte-index l.input ≡ l.fn.devices.console ++ l.input)
