use Rattle.std.proofs.Common.{◌≡◌, ◌++◌, [], take, length, true}
use Rattle.std.specs.List.{list_all}
use Rattle.snapshot_format.specs.Forms.{encode_all, encode_number}
use Rattle.snapshot_format.specs.PageForms.{next_module}
use Rattle.snapshot_format.specs.Typed.{is_typed_module}
use Rattle.snapshot_format.proofs.writer.modules.write_modules.Given as goal

abbrev pub invariant-modules : goal.invariant-modules
invariant-modules l =
    (l.out.items ≡ (l.fn.out.items ++ encode_number (length l.loaded)) ++ encode_all next_module [] (take l.m-index l.loaded))
    × (list_all is_typed_module (take l.m-index l.loaded) ≡ true)
