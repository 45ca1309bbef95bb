-- What holds of a module of a policy whose values are within their limits.
use Rattle.std.proofs.Common.{◌≡◌, ℕ, ◌<◌, ◌≤◌, [], length, slice_get, arith}
use Rattle.std.specs.Prelude.{All, Some, IsTrue, nat_le}
use Rattle.std.proofs.lemmas.Bool.{and_parts}
use Rattle.std.proofs.lemmas.Bool.Decides.{nat_tests}
use Rattle.std.proofs.lemmas.Option.{slice_get_within}
use Rattle.sv_types.specs.Policies.{Rules, ModuleRule, rules_within}
use Rattle.page_measure.specs.Pieces.{IsAligned}
use Rattle.page_measure.proofs.RulesWithin.{sites_aligned}
use Rattle.sv_types.proofs.PolicyLimits.{modules_part, rule_within}

pub few_pages : (rules : Rules) (id : ℕ) (rule : ModuleRule) → IsTrue (rules_within rules) → slice_get rules.modules id ≡ Some rule → rule.pages ≤ 1024
few_pages rules id rule within found =
    let most = (and_parts (nat_le 1 rule.pages) (nat_le rule.pages 1024) (rule_within rules id rule within found).0).1 in grind (arith, nat_tests)

pub low_id : (rules : Rules) (id : ℕ) (rule : ModuleRule) → IsTrue (rules_within rules) → slice_get rules.modules id ≡ Some rule → id < 64
low_id rules id rule within found =
    let most = (modules_part rules within).0 in
    let inside = slice_get_within rules.modules id rule found in grind (arith, nat_tests)

pub aligned_sites : (rules : Rules) (id : ℕ) (rule : ModuleRule) → IsTrue (rules_within rules) → slice_get rules.modules id ≡ Some rule → All IsAligned rule.sites
aligned_sites rules id rule within found = sites_aligned rule.pages (length rules.exports) [] rule.sites (rule_within rules id rule within found).1
