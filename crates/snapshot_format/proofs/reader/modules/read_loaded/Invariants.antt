use Rattle.std.proofs.Common.{◌≡◌, ◌-◌, []}
use Rattle.snapshot_format.specs.Forms.{all_taken}
use Rattle.snapshot_format.specs.PageForms.{next_module}
use Rattle.snapshot_format.proofs.ReadLists.{with_front}
use Rattle.snapshot_format.proofs.reader.modules.read_loaded.Given as goal

abbrev pub invariant-modules : goal.invariant-modules
invariant-modules l = with_front l.read.items (all_taken next_module l.read.items (l.count - l.counter) l.rest) ≡ all_taken next_module [] l.count l.bytes
