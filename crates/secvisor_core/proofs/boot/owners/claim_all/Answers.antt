use Rattle.std.proofs.Common.{◌≡◌, ◌+◌, ◌-◌, ◌<◌, ◌∙◌, ℕ, length, map, get_or, refl, sym, subst, ap, arith}
use Rattle.std.specs.Prelude.{◌==◌, ◌&&◌, if◌then◌else◌}
use Rattle.sv_types.specs.Kernel.{LoadedSegment}
use Rattle.elf64_load.specs.Images.{segment_of}
use Rattle.secvisor_core.specs.Whole.{covers, segment_at}
use Rattle.secvisor_core.proofs.LastWhole.{IsLastFrom, item_at, next_owner}
use Rattle.secvisor_core.proofs.boot.owners.claim_all.Goals as goal

pub segments-preserved : goal.segments-preserved
segments-preserved c =
    let i = c.segments.i - 1 in
    let segments = c.args.segments.now in
    let ss = map segment_of segments in
    let before = c.segments.invariant in
    let ensures = c.claim_pages.ensures in
    let size = before.0 in
    let some = c.segments-test.true in
    let turn : i + 1 ≡ c.segments.i = omega arith in
    let inside : i < length segments = omega (arith, c.segments.auto.i) in (
      ensures.size ∙ before.0,
      (
        ensures.skips ∙ before.1.0,
        (
          ensures.owned,
          λ page below.
              let owner = get_or c.segments.owners page 0 in
              let is : get_or c.claim_pages.new.owners page 0 ≡ (if owner == 0 && covers page (segment_at ss i) then i + 1 else owner) =
              ensures.owners page (omega arith)
              ∙ ap (λ (s : LoadedSegment). if owner == 0 && covers page s then i + 1 else owner) (item_at segments i _ inside) in
              let last : IsLastFrom ss (i + 1) (length segments) page owner = rw turn (before.1.1.1 page below) in
              subst (λ (o : ℕ). IsLastFrom ss i (length segments) page o) (sym is)
              (next_owner ss i (length segments) page owner (covers page (segment_at ss i)) inside refl last),
        ),
      ),
    )
