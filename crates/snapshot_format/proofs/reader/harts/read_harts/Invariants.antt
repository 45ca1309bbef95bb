use Rattle.std.proofs.Common.{◌≡◌, ◌-◌, [], length}
use Rattle.snapshot_format.specs.Forms.{all_taken}
use Rattle.snapshot_format.specs.HartForms.{hart}
use Rattle.snapshot_format.proofs.ReadLists.{with_front}
use Rattle.snapshot_format.proofs.reader.harts.read_harts.Given as goal

abbrev pub invariant-harts : goal.invariant-harts
invariant-harts l = record {
  so_far : with_front l.read.items (all_taken (λ before. hart l.ram_pages) l.read.items (l.count - l.counter) l.rest) ≡ all_taken (λ before. hart l.ram_pages) [] l.count l.bytes;
  number : length l.read.items ≡ l.counter;
}
