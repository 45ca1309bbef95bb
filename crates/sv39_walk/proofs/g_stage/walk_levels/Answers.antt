use Rattle.std.proofs.Common.{◌≡◌, ◌+◌, ◌-◌, ◌*◌, ◌∙◌, suc, sym, ap, arith, rules}
use Rattle.std.specs.Prelude.{Some}
use Rattle.spec_processor.specs.GStage.{entry_in_region, permits_guest, address_at}
use Rattle.sv39_walk.proofs.Steps.{first_at, walk_pointer, walk_over, guest_found}
use Rattle.sv39_walk.proofs.g_stage.walk_levels.Goals as goal

pub levels-preserved : goal.levels-preserved
levels-preserved g c =
    let more : c.levels.below ≡ suc (c.levels.below - 1) = omega arith in
    record {
      table = search rules;
      same = λ access. c.levels.invariant.same access
          ∙ walk_pointer (entry_in_region c.args.mem.now) (permits_guest access) c.levels.below (c.levels.below - 1) c.levels.table c.args.gpa
          (c.levels.table + 8 * c.index.result) c.host_entry-entry.result.0 c.entry_page-table.result
          (first_at c.levels.below (c.levels.below - 1) c.levels.table c.args.gpa c.index.result more c.index.ensures.value)
          (ap Some (sym c.host_entry-entry.ensures.value)) (sym c.is_pointer.ensures ∙ c.if-not-is_pointer.false) c.entry_page-table.ensures.value;
      steps = omega (arith, c.levels.invariant.steps, c.host_entry-entry.ensures.steps);
    }

pub returns-then-not-is_pointer-clause-value : goal.returns-then-not-is_pointer-clause-value
returns-then-not-is_pointer-clause-value g c =
    let more : c.levels.below ≡ suc (c.levels.below - 1) = omega arith in
    λ access. rw c.at_leaf.ensures
    (ap address_at (c.levels.invariant.same access)
    ∙ guest_found (entry_in_region c.args.mem.now) c.levels.below (c.levels.below - 1) c.levels.table c.args.gpa (c.levels.table + 8 * c.index.result) c.host_entry-entry.result access
    (first_at c.levels.below (c.levels.below - 1) c.levels.table c.args.gpa c.index.result more c.index.ensures.value) (ap Some (sym c.host_entry-entry.ensures.value))
    (sym c.is_pointer.ensures ∙ c.if-not-is_pointer.true))

pub returns-clause-value : goal.returns-clause-value
returns-clause-value g c = λ access.
    ap address_at (c.levels.invariant.same access
    ∙ walk_over (entry_in_region c.args.mem.now) (permits_guest access) c.levels.below c.levels.table c.args.gpa (omega arith))
