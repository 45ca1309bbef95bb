use Rattle.std.proofs.Common.{◌≡◌, sym, subst}
use Rattle.spec_reference.specs.VirtioStores.{kept_status}
use Rattle.virtio_blk.specs.Held.{Held, device_of}
use Rattle.virtio_blk.proofs.Whole.{still_whole}
use Rattle.virtio_blk.proofs.Virtio.put_status.Goals as goal

pub invariant_of-self-else-value-eq0 : goal.invariant_of-self-else-value-eq0
invariant_of-self-else-value-eq0 c =
    let kept = c.self.invariant in
    let inside : Held = record { state = c.self.inside.state; bytes = c.self.inside.bytes.items } in
    let same : c.kept_status-self-inside.result ≡ kept_status (device_of inside) c.args.value =
    subst (λ (h : Held). c.kept_status-self-inside.result ≡ kept_status (device_of h) c.args.value) (sym c.self.view_is) c.kept_status-self-inside.ensures in
    record {
      accepted = kept.accepted;
      size = kept.size;
      descriptors = kept.descriptors;
      available = kept.available;
      used = kept.used;
      placed = kept.placed;
      on_disk = kept.on_disk;
      whole = still_whole c.self.inside.state.request (device_of inside) c.kept_status-self-inside.result c.args.value same kept.whole;
    }
