use Rattle.std.proofs.Common.{◌≡◌, ◌+◌, ◌-◌, ◌/◌, ◌∙◌, inl, inr, ℕ, true, false, length, get_or, ap, sym, arith}
use Rattle.std.specs.Prelude.{nat_le, ◌&&◌, ◌==◌, if◌then◌else◌}
use Rattle.std.proofs.lemmas.Bool.{eqb-true}
use Rattle.std.proofs.lemmas.Bool.Decides.{nat_tests}
use Rattle.spec_processor.specs.Bytes.{page_size, ram_offset}
use Rattle.laws_processor.proofs.ByteLemmas.{lt_or_le}
use Rattle.elf64_load.specs.Images.{segment_of}
use Rattle.secvisor_core.specs.Whole.{byte_of, covers, has_byte}
use Rattle.secvisor_core.proofs.Loaded.{between_edges, edges_byte, page_below}
use Rattle.secvisor_core.proofs.boot.segments.put_edge.Goals as goal

pub returns-clause-bytes : goal.returns-clause-bytes
returns-clause-bytes c = λ at.
    let s = segment_of c.args.segment.now in
    let owners = c.args.owners.now in
    let number = c.args.number in
    let place = c.ram_offset-place.result in
    let first = place / page_size in
    let last = (place + c.args.segment.now.memory - 1) / page_size in
    let page = at / page_size in
    let due = λ (p : ℕ). nat_le (get_or owners p 0) number in
    let old = get_or c.args.mem.now.ram at 0 in
    let place_is : place ≡ ram_offset s.gpa = c.ram_offset-place.ensures in
    c.put_due-2.ensures.bytes at
    ∙ ap (λ (n : ℕ). if due last && (page == last && has_byte s at) then byte_of s at else n) (c.put_due.ensures.bytes at)
    ∙ edges_byte (due page) (due first) (due last) (page == first) (page == last) (has_byte s at) (byte_of s at) old
    (λ same. ap due (sym (eqb-true page first same))) (λ same. ap due (sym (eqb-true page last same)))
    (λ inside not_first not_last. elim (lt_or_le number (get_or owners page 0)) [
      | inl less ↦ grind (arith, nat_tests)
      | inr from ↦
          let none : covers page s ≡ false = c.requires.whole page (page_below s at (length c.args.mem.now.ram) (length owners) inside c.requires.placed c.requires.ram) from in
          let all : covers page s ≡ true = between_edges s at inside (rw place_is at not_first) (rw place_is at not_last) in
          absurd (cc)
    ])
