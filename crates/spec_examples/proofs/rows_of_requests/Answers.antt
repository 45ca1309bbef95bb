use Rattle.spec_examples.proofs.VirtioRowsHold.{virtio_rows, request_rows, last_rows, attack_rows}
use Rattle.spec_examples.proofs.rows_of_requests.Goals as goal

pub returns : goal.returns
returns c = record { registers = virtio_rows; requests = request_rows; last = last_rows; attacks = attack_rows }
