use Rattle.std.proofs.Common.{rules, ◌≡◌, ◌+◌, ◌-◌, ◌∙◌, sym, List, ℕ, ap, arith, length}
use borrow.Rule.Slice.PartMut.{put_mid}
use Rattle.host_mem.proofs.WordFacts.{part_put, written_over}
use Rattle.spec_processor.specs.Bytes.{overwrite}
use Rattle.spec_reference.specs.BlockDisk.{beat_place}
use Rattle.hw_devices.proofs.block.Block.keep.Goals as goal

pub returns : goal.returns
returns c =
    let place = c.beat_place-place.result in
    let items = c.self.inside.bytes.items in
    let size : length c.args.bytes.now ≡ 64 = search rules in
    let there : place ≡ beat_place c.self.inside.block = search rules in
    let put = part_put items c.args.bytes.now place (place + 64) (omega (arith, size)) in
    let whole : length (put_mid place (place + 64 - place) items c.args.bytes.now) ≡ c.self.inside.bytes.len = search rules in
    let over = written_over c.self.inside.bytes.len (put_mid place (place + 64 - place) items c.args.bytes.now) items whole (search rules) in
    rw (c.copy_from_slice.ensures.after, c.deref_mut.ensures.value, sym c.self.view_is)
    (ap (λ (bytes : List ℕ). record { block = c.self.inside.block; bytes = bytes })
    (over ∙ put ∙ ap (λ (at : ℕ). overwrite items at c.args.bytes.now) there))
