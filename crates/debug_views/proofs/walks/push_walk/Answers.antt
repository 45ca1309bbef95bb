use Rattle.std.proofs.Common.{rules, ◌≡◌, ◌+◌, ◌-◌, ◌*◌, ◌++◌, suc, sym, ◌∙◌, ap, arith}
use Rattle.std.specs.Prelude.{string_bytes}
use Rattle.spec_processor.specs.Translation.{sv39_indices}
use Rattle.sv39_walk.proofs.Steps.{first_at}
use Rattle.debug_views.specs.Walks.{level_line, settings_of_hart, walk_lines}
use Rattle.debug_views.proofs.WalkLines.{walk_ends, walk_goes_on, walk_over}
use Rattle.debug_views.proofs.walks.push_walk.Goals as goal

pub levels-init : goal.levels-init
levels-init c = record {
  table = c.root_table-table.ensures.table.small;
  lines = ap (λ t. string_bytes c.args.text.now ++ walk_lines c.args.ram.now (settings_of_hart c.args.hart.now) (sv39_indices c.args.va) t) c.root_table-table.ensures.value;
}

pub levels-preserved : goal.levels-preserved
levels-preserved c =
    let more : c.levels.below ≡ suc (c.levels.below - 1) = omega arith in
    let at = c.levels.table + 8 * c.index.result in
    let line : string_bytes c.push_str.new.self ≡ string_bytes c.levels.text ++ level_line (settings_of_hart c.args.hart.now) (c.levels.below - 1) at c.entry_at-word.result = search rules in
    record {
      table = search rules;
      lines =
          walk_goes_on c.args.ram.now (settings_of_hart c.args.hart.now) c.levels.below (c.levels.below - 1) c.levels.table c.args.va at c.in-Some.next c.entry_at-word.result
          (string_bytes c.levels.text) (string_bytes c.push_str.new.self) _
          (first_at c.levels.below (c.levels.below - 1) c.levels.table c.args.va c.index.result more c.index.ensures.value)
          c.entry_at-word.ensures (sym c.next_table.ensures.value ∙ c.in-Some.is) c.levels.invariant.lines line;
    }

pub returns-in_default : goal.returns-in_default
returns-in_default c =
    let more : c.levels.below ≡ suc (c.levels.below - 1) = omega arith in
    let at = c.levels.table + 8 * c.index.result in
    let line : string_bytes c.push_str.new.self ≡ string_bytes c.levels.text ++ level_line (settings_of_hart c.args.hart.now) (c.levels.below - 1) at c.entry_at-word.result = search rules in
    walk_ends c.args.ram.now (settings_of_hart c.args.hart.now) c.levels.below (c.levels.below - 1) c.levels.table c.args.va at c.entry_at-word.result
    (string_bytes c.levels.text) (string_bytes c.push_str.new.self) _
    (first_at c.levels.below (c.levels.below - 1) c.levels.table c.args.va c.index.result more c.index.ensures.value)
    c.entry_at-word.ensures (sym c.next_table.ensures.value ∙ c.in_default.is) c.levels.invariant.lines line

pub returns : goal.returns
returns c = walk_over c.args.ram.now (settings_of_hart c.args.hart.now) c.levels.below c.levels.table c.args.va (string_bytes c.levels.text) _ (search rules) c.levels.invariant.lines
