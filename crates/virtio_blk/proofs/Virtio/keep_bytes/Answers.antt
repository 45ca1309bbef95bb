use Rattle.std.proofs.Common.{rules, ◌≡◌, ◌+◌, ◌-◌, ◌∙◌, sym, List, ℕ, ap, arith, length}
use borrow.Rule.Slice.PartMut.{put_mid}
use Rattle.host_mem.proofs.WordFacts.{part_put, written_over}
use Rattle.virtio_blk.proofs.Virtio.keep_bytes.Goals as goal

pub returns-clause-value : goal.returns-clause-value
returns-clause-value c =
    let place = c.args.place in
    let size = length c.args.bytes.now in
    let items = c.self.inside.bytes.items in
    let put = part_put items c.args.bytes.now place (place + size) (omega arith) in
    let whole : length (put_mid place (place + size - place) items c.args.bytes.now) ≡ c.self.inside.bytes.len = search rules in
    let over = written_over c.self.inside.bytes.len (put_mid place (place + size - place) items c.args.bytes.now) items whole (search rules) in
    rw (c.copy_from_slice.ensures.after, c.deref_mut.ensures.value, sym c.self.view_is)
    (ap (λ (bytes : List ℕ). record { state = c.self.inside.state; bytes = bytes })
    (over ∙ put))
