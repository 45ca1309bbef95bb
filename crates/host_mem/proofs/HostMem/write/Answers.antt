use Rattle.std.proofs.Common.{◌≡◌, ◌∙◌, ap, arith, rules, List, ℕ, length}
use Rattle.spec_processor.specs.Bytes.{write_word}
use Rattle.spec_processor.specs.Regions.{region_of}
use Rattle.host_mem.proofs.ViewFacts.{Seen, write_seen}
use Rattle.host_mem.proofs.HostMem.write.Goals as goal

pub returns : goal.returns
returns c =
    let seen : Seen c.self.inside.table_bytes c.self.inside.bytes c.args.self.now = record { same = c.self.view_is; within = omega arith; whole = c.self.invariant.1.0 } in
    let written : c.put_word.new.bytes ≡ write_word c.self.inside.bytes c.args.at c.args.width c.args.value =
    c.put_word.ensures ∙ ap (λ (list : List ℕ). write_word list c.args.at c.args.width c.args.value) c.as_mut_slice.ensures.value in
    let kept : length c.put_word.new.bytes ≡ length c.self.inside.bytes = search rules in
    ap (region_of c.self.inside.table_bytes) (written)
    ∙ write_seen _ _ _ _ _ c.args.value seen c.requires
