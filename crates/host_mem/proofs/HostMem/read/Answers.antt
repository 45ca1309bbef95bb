use Rattle.std.proofs.Common.{◌∙◌, ap, arith, List, ℕ}
use Rattle.spec_processor.specs.Bytes.{word}
use Rattle.host_mem.proofs.ViewFacts.{Seen, word_seen}
use Rattle.host_mem.proofs.HostMem.read.Goals as goal

pub returns-clause-value : goal.returns-clause-value
returns-clause-value c =
    let seen : Seen c.self.inside.table_bytes c.self.inside.bytes c.args.self.now = record { same = c.self.view_is; within = omega arith; whole = c.self.invariant.1.0 } in
    c.word_at.ensures.value ∙ ap (λ (list : List ℕ). word list c.args.at c.args.width) c.as_slice.ensures
    ∙ word_seen _ _ _ _ _ seen c.requires
