use Rattle.std.proofs.Common.{◌≡◌, ℕ, ◌++◌, [], take, true}
use Rattle.std.specs.List.{list_all}
use Rattle.snapshot_format.specs.Forms.{encode_all}
use Rattle.snapshot_format.specs.HartForms.{hart}
use Rattle.snapshot_format.specs.Typed.{is_typed_hart}
use Rattle.snapshot_format.proofs.writer.harts.write_harts.Given as goal

abbrev pub invariant-harts : goal.invariant-harts
invariant-harts l =
    ((ram_pages : ℕ) → l.out.items ≡ l.fn.out.items ++ encode_all (λ before. hart ram_pages) [] (take l.h-index l.saved))
    × (list_all is_typed_hart (take l.h-index l.saved) ≡ true)
