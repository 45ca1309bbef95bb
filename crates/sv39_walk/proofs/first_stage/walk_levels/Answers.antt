use Rattle.std.proofs.Common.{◌≡◌, ◌+◌, ◌-◌, ◌*◌, ◌∙◌, suc, sym, ap, arith, rules}
use Rattle.spec_processor.specs.Translation.{permits_access}
use Rattle.spec_processor.specs.GStage.{entry_through}
use Rattle.sv39_walk.specs.Levels.{guest_address}
use Rattle.sv39_walk.specs.Regimes.{settings_of}
use Rattle.sv39_walk.proofs.Steps.{first_at, walk_pointer, walk_ends, walk_unreadable, walk_over}
use Rattle.sv39_walk.proofs.first_stage.walk_levels.Goals as goal

pub levels-preserved : goal.levels-preserved
levels-preserved g c =
    let more : c.levels.below ≡ suc (c.levels.below - 1) = omega arith in
    record {
      table = search rules;
      same = c.levels.invariant.same
          ∙ walk_pointer (entry_through c.args.mem.now c.args.regime.now.hgatp) (permits_access (settings_of c.args.regime.now) c.args.regime.now.mode c.args.access)
          c.levels.below (c.levels.below - 1) c.levels.table c.args.va
          (c.levels.table + 8 * c.index.result) c.in-Some.word c.entry_page-table.result
          (first_at c.levels.below (c.levels.below - 1) c.levels.table c.args.va c.index.result more c.index.ensures.value)
          (sym c.entry_through.ensures.value ∙ c.in-Some.is) (sym c.is_pointer.ensures ∙ c.if-not-is_pointer.false) c.entry_page-table.ensures.value;
      passed = search rules;
    }

pub returns-then-not-is_pointer-clause-value : goal.returns-then-not-is_pointer-clause-value
returns-then-not-is_pointer-clause-value g c =
    let more : c.levels.below ≡ suc (c.levels.below - 1) = omega arith in
    c.at_leaf.ensures ∙ sym (ap guest_address (c.levels.invariant.same
    ∙ walk_ends (entry_through c.args.mem.now c.args.regime.now.hgatp) (permits_access (settings_of c.args.regime.now) c.args.regime.now.mode c.args.access) c.levels.below
    (c.levels.below - 1) c.levels.table c.args.va
    (c.levels.table + 8 * c.index.result) c.in-Some.word
    (first_at c.levels.below (c.levels.below - 1) c.levels.table c.args.va c.index.result more c.index.ensures.value)
    (sym c.entry_through.ensures.value ∙ c.in-Some.is) (sym c.is_pointer.ensures ∙ c.if-not-is_pointer.true)))

pub returns-in_default-clause-value : goal.returns-in_default-clause-value
returns-in_default-clause-value g c =
    let more : c.levels.below ≡ suc (c.levels.below - 1) = omega arith in
    sym (ap guest_address (c.levels.invariant.same
    ∙ walk_unreadable (entry_through c.args.mem.now c.args.regime.now.hgatp) (permits_access (settings_of c.args.regime.now) c.args.regime.now.mode c.args.access) c.levels.below
    (c.levels.below - 1) c.levels.table c.args.va
    (c.levels.table + 8 * c.index.result) (first_at c.levels.below (c.levels.below - 1) c.levels.table c.args.va c.index.result more c.index.ensures.value)
    (sym c.entry_through.ensures.value ∙ c.in_default.is)))

pub returns-clause-value : goal.returns-clause-value
returns-clause-value g c =
    sym (ap guest_address (c.levels.invariant.same
    ∙ walk_over (entry_through c.args.mem.now c.args.regime.now.hgatp) (permits_access (settings_of c.args.regime.now) c.args.regime.now.mode c.args.access) c.levels.below
    c.levels.table c.args.va (omega arith)))
