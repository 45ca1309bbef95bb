use Rattle.std.proofs.Common.{◌≡◌, ◌+◌, ◌-◌, ◌∙◌, refl, ap, arith, rules, List, ℕ, length}
use borrow.Rule.Slice.PartMut.{put_mid}
use Rattle.spec_processor.specs.Regions.{region_of, host_bytes}
use Rattle.host_mem.proofs.ViewFacts.{Seen, copy_seen, copy_after}
use Rattle.host_mem.proofs.HostMem.copy_in.Goals as goal

pub returns-clause-bytes : goal.returns-clause-bytes
returns-clause-bytes c =
    let seen : Seen c.self.inside.table_bytes c.self.inside.bytes c.args.self.now = record { same = c.self.view_is; within = omega arith; whole = c.self.invariant.1.0 } in
    let stop : ℕ = c.args.at + length c.args.bytes.now in
    let copied : put_mid c.args.at (stop - c.args.at) c.as_mut_slice.result.now c.copy_from_slice.new.self ≡
    put_mid c.args.at (stop - c.args.at) c.self.inside.bytes c.args.bytes.now = rw (c.copy_from_slice.ensures.after, c.as_mut_slice.ensures.value) refl in
    let kept : length (put_mid c.args.at (stop - c.args.at) c.as_mut_slice.result.now c.copy_from_slice.new.self) ≡ length c.self.inside.bytes = search rules in
    ap (λ (list : List ℕ). host_bytes (region_of c.self.inside.table_bytes list)) (copied)
    ∙ copy_seen c.self.inside.table_bytes c.self.inside.bytes c.args.bytes.now _ c.args.at stop seen refl

pub returns-clause-ram : goal.returns-clause-ram
returns-clause-ram c behind =
    let seen : Seen c.self.inside.table_bytes c.self.inside.bytes c.args.self.now = record { same = c.self.view_is; within = omega arith; whole = c.self.invariant.1.0 } in
    let stop : ℕ = c.args.at + length c.args.bytes.now in
    let copied : put_mid c.args.at (stop - c.args.at) c.as_mut_slice.result.now c.copy_from_slice.new.self ≡
    put_mid c.args.at (stop - c.args.at) c.self.inside.bytes c.args.bytes.now = rw (c.copy_from_slice.ensures.after, c.as_mut_slice.ensures.value) refl in
    let kept : length (put_mid c.args.at (stop - c.args.at) c.as_mut_slice.result.now c.copy_from_slice.new.self) ≡ length c.self.inside.bytes = search rules in
    ap (λ (list : List ℕ). region_of c.self.inside.table_bytes list) copied
    ∙ copy_after c.self.inside.table_bytes c.self.inside.bytes c.args.bytes.now c.args.self.now c.args.at stop seen refl behind
