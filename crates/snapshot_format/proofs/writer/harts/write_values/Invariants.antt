use Rattle.std.proofs.Common.{◌≡◌, ◌++◌, [], take}
use Rattle.snapshot_format.specs.Forms.{encode_all, number}
use Rattle.snapshot_format.proofs.writer.harts.write_values.Given as goal

abbrev pub invariant-values : goal.invariant-values
invariant-values l = l.out.items ≡ l.fn.out.items ++ encode_all (λ before. number) [] (take l.value-index l.values)
