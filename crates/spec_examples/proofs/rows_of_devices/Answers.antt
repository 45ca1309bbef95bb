use Rattle.spec_examples.proofs.DeviceRowsHold.{device_rows}
use Rattle.spec_examples.proofs.rows_of_devices.Goals as goal

pub returns : goal.returns
returns c = device_rows
