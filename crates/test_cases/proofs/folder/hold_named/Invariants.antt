use Rattle.std.proofs.Common.{◌≡◌}
use Rattle.test_cases.proofs.folder.hold_named.Given as goal

-- neither a read nor a save failed
abbrev pub invariant-loop-word : goal.invariant-loop-word
invariant-loop-word g l = record {
  reads : l.files.read_faults ≡ l.initial.files.read_faults;
  saves : l.files.save_faults ≡ l.initial.files.save_faults;
}
