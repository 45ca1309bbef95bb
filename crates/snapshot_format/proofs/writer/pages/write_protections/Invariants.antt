use Rattle.std.proofs.Common.{◌≡◌, ◌++◌, [], take}
use Rattle.snapshot_format.specs.Forms.{encode_all}
use Rattle.snapshot_format.specs.PageForms.{protection_form}
use Rattle.snapshot_format.proofs.writer.pages.write_protections.Given as goal

abbrev pub invariant-pages : goal.invariant-pages
invariant-pages l = l.out.items ≡ l.fn.out.items ++ encode_all (λ before. protection_form) [] (take l.page-index l.protection)
