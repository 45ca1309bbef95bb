use Rattle.std.proofs.Common.{◌≡◌, ◌*◌, ◌∙◌, true, length, refl, arith}
use Rattle.std.specs.Prelude.{nat_lt}
use borrow.Author.Tests.{lt-ltb}
use Rattle.spec_processor.specs.Regions.{host_word}
use Rattle.gstage_tables.proofs.fill.entry_at.Goals as goal

pub returns : goal.returns
unfolding host_word
returns c =
    let fits = c.requires in
    let test : nat_lt (8 * c.args.k) (length c.args.mem.now.tables) ≡ true = lt-ltb (8 * c.args.k) (length c.args.mem.now.tables) (omega arith) in
    c.read.ensures.value ∙ rw test refl
