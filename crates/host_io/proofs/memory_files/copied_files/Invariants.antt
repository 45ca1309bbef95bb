use Rattle.std.proofs.Common.{◌≡◌, ◌≤◌, take}
use Rattle.std.specs.Prelude.{vec_len, vec_capacity}
use Rattle.host_io.specs.Held.{contents}
use Rattle.host_io.proofs.memory_files.copied_files.Given as goal

abbrev pub invariant-loop-file : goal.invariant-loop-file
invariant-loop-file l = record {
  copied : contents l.files.items ≡ contents (take l.file-index l.held);
  count : vec_len l.files ≡ l.file-index;
  places : l.places ≤ vec_capacity l.files;
}
