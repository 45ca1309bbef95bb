use Rattle.std.proofs.Common.{List, ℕ, sym, ◌∙◌, ap}
use Rattle.std.specs.Prelude.{option_map}
use Rattle.std.specs.Borrow.{Bor}
use Rattle.std.proofs.lemmas.Map.Text.{btree_map_updates_str}
use Rattle.elf64_load.proofs.ExportsFound.{name_tested}
use Rattle.elf64_load.proofs.exports.define.Goals as goal

pub returns-in_ok-insert : goal.returns-in_ok-insert
returns-in_ok-insert c = λ name.
    btree_map_updates_str c.in-Some.name.now c.args.addresses.now c.insert.new.self _ c.in_ok-insert.ensures.updates name
    ∙ name_tested _ _ c.in-Some.name.now name _ _ (sym c.is_defined_global.ensures ∙ c.if-not-is_defined_global.false)
    (sym c.name_at.ensures.name ∙ ap (option_map (λ (n : Bor (List ℕ)). n.now)) c.in-Some.is)
