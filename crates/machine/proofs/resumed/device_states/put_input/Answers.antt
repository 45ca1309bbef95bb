use Rattle.std.proofs.Common.{◌≡◌, ◌+◌, ◌++◌, ◌∙◌, ◌≤◌, List, ℕ, ap, arith, drop, length, length-append}
use Rattle.sv_types.specs.Console.{max_queued}
use Rattle.spec_reference.specs.States.{Devices}
use Rattle.machine.proofs.DeviceParts.{input_alone, key_next, keys_end}
use Rattle.machine.proofs.resumed.device_states.put_input.Goals as goal

pub keys-preserved : goal.keys-preserved
keys-preserved c =
    let all = c.args.devices.now.console ++ c.args.input.now in
    let size : length all ≡ length c.args.devices.now.console + length c.args.input.now = length-append c.args.devices.now.console c.args.input.now in
    let few : length all ≤ max_queued = omega (arith, size, c.requires.room) in
    let console = ap (λ (d : Devices). d.console) c.key-taken.ensures.devices in (
      input_alone c.args.devices.now c.keys.devices c.key-taken.new.self _ c.keys.invariant.0 c.key-taken.ensures.devices,
      ap (λ (queue : List ℕ). queue ++ drop (c.keys.byte-index + 1) c.args.input.now) console
          ∙ key_next c.keys.devices.console c.args.input.now all c.keys.byte-index _ c.keys-test.true few c.keys.invariant.1,
    )

pub returns : goal.returns
returns c =
    c.keys.invariant.0
    ∙ ap (λ (queue : List ℕ). record c.args.devices.now { console = queue })
    (keys_end c.keys.devices.console c.args.input.now (c.args.devices.now.console ++ c.args.input.now) c.keys.byte-index c.keys-test.false c.keys.invariant.1)
