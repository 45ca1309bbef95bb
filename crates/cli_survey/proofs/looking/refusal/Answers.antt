use Rattle.std.proofs.Common.{Bor, ◌≡◌, ◌<◌, ◌≤◌, ℕ, List, [], ◌∷◌, false, true, length, sym, ◌∙◌, ap, subst, slice_get}
use Rattle.std.specs.Prelude.{Some, None, option_map, slice_index_or}
use Rattle.sv_types.specs.Policies.{Rules, field_end, module_rule, rules_of}
use Rattle.sv_types.specs.declared.module.Site.{Site}
use Rattle.sv_types.specs.declared.policy.ModulePolicy.{ModulePolicy}
use Rattle.spec_reference.specs.Loads.{is_as_measured, module_bases, module_text}
use Rattle.machine.proofs.Loadings.{rules_seen}
use Rattle.page_measure.specs.Wrong.{first_wrong}
use Rattle.report.specs.declared.findings.loads.RefusedLoad.{RefusedLoad}
use Rattle.cli_survey.proofs.LookLemmas.{known_at, refused_none, refused_unknown, refused_unmeasured, refused_wrong, sites_lie, told_now, wrong_there}
use Rattle.cli_survey.proofs.looking.refusal.Goals as goal

pub returns-in_default : goal.returns-in_default
returns-in_default c = λ r stands.
    let none : None ≡ slice_get (rules_of c.policy-policy.result.now).modules c.args.load.now.«module».id =
    sym (ap (option_map (λ (m : Bor ModulePolicy). module_rule m.now)) c.in_default.is) ∙ c.rule_of.ensures in
    let there : slice_get r.rules.modules c.args.load.now.«module».id ≡ None =
    sym (none ∙ ap (λ (k : Rules). slice_get k.modules c.args.load.now.«module».id) (c.policy-policy.ensures ∙ rules_seen c.args.machine.now r stands)) in
    ap (λ (l : RefusedLoad). l ∷ []) (c.refused.ensures ∙ told_now c.args.machine.now r c.args.hart c.args.load.now.«module» None stands)
    ∙ refused_unknown r c.args.hart c.args.load.now.«module» there

pub text_of-text-requires-clause-rule : goal.text_of-text-requires-clause-rule
text_of-text-requires-clause-rule c =
    let found : slice_get (rules_of c.policy-policy.result.now).modules c.args.load.now.«module».id ≡ Some (module_rule c.in-Some.rule.now) =
    sym c.rule_of.ensures ∙ ap (option_map (λ (m : Bor ModulePolicy). module_rule m.now)) c.in-Some.is in
    ap (λ (k : Rules). slice_get k.modules c.args.load.now.«module».id) (sym c.policy-policy.ensures) ∙ found

pub returns-then-not-is_measured : goal.returns-then-not-is_measured
returns-then-not-is_measured c = λ r stands.
    let found : slice_get (rules_of c.policy-policy.result.now).modules c.args.load.now.«module».id ≡ Some (module_rule c.in-Some.rule.now) =
    sym c.rule_of.ensures ∙ ap (option_map (λ (m : Bor ModulePolicy). module_rule m.now)) c.in-Some.is in
    let known : slice_get c.args.machine.now.rules.modules c.args.load.now.«module».id ≡ Some (module_rule c.in-Some.rule.now) =
    ap (λ (k : Rules). slice_get k.modules c.args.load.now.«module».id) (sym c.policy-policy.ensures) ∙ found in
    let k = known_at c.args.machine.now c.args.load.now (module_rule c.in-Some.rule.now) r c.requires.under stands known in
    let left = ap (λ s. s.left) k.same in
    let other : is_as_measured (module_rule c.in-Some.rule.now) (module_text r.ram k.about.about c.in-Some.rule.now.pages) ≡ false =
    sym (c.is_measured.ensures r k.about (module_rule c.in-Some.rule.now) stands k.counted.under_way (left ∙ c.requires.due) k.counted.known) ∙ c.if-not-is_measured.true in
    ap (λ (l : RefusedLoad). l ∷ []) (c.refused-then-not-is_measured.ensures ∙ told_now c.args.machine.now r c.args.hart c.args.load.now.«module» None stands)
    ∙ refused_unmeasured r c.args.hart c.args.load.now.«module» (module_rule c.in-Some.rule.now) k.known
    (subst (λ m. is_as_measured (module_rule c.in-Some.rule.now) (module_text r.ram m c.in-Some.rule.now.pages) ≡ false) (ap (λ s. s.«module») k.same) other)

pub first_wrong-requires : goal.first_wrong-requires
first_wrong-requires c =
    let has = c.requires.under.has in
    let found : slice_get (rules_of c.policy-policy.result.now).modules c.args.load.now.«module».id ≡ Some (module_rule c.in-Some.rule.now) =
    sym c.rule_of.ensures ∙ ap (option_map (λ (m : Bor ModulePolicy). module_rule m.now)) c.in-Some.is in
    let known : slice_get c.args.machine.now.rules.modules c.args.load.now.«module».id ≡ Some (module_rule c.in-Some.rule.now) =
    ap (λ (k : Rules). slice_get k.modules c.args.load.now.«module».id) (sym c.policy-policy.ensures) ∙ found in
    let k = known_at c.args.machine.now c.args.load.now (module_rule c.in-Some.rule.now) has.state c.requires.under has.stands known in
    record {
      inside = subst (λ (sites : List Site). (i : ℕ) (d : Site) → i < length sites → field_end (slice_index_or sites i d) ≤ length c.text_of-text.result.now)
          (sym c.deref.ensures.value)
          (λ i d below. subst (λ (n : ℕ). field_end (slice_index_or c.in-Some.rule.now.sites.items i d) ≤ n) (sym c.text_of-text.ensures.size)
          (sites_lie c.args.machine.now c.args.load.now (module_rule c.in-Some.rule.now) has.state k i d below));
    }

pub returns-in-Some-first_wrong : goal.returns-in-Some-first_wrong
returns-in-Some-first_wrong c = λ r stands.
    let found : slice_get (rules_of c.policy-policy.result.now).modules c.args.load.now.«module».id ≡ Some (module_rule c.in-Some.rule.now) =
    sym c.rule_of.ensures ∙ ap (option_map (λ (m : Bor ModulePolicy). module_rule m.now)) c.in-Some.is in
    let known : slice_get c.args.machine.now.rules.modules c.args.load.now.«module».id ≡ Some (module_rule c.in-Some.rule.now) =
    ap (λ (k : Rules). slice_get k.modules c.args.load.now.«module».id) (sym c.policy-policy.ensures) ∙ found in
    let k = known_at c.args.machine.now c.args.load.now (module_rule c.in-Some.rule.now) r c.requires.under stands known in
    let left = ap (λ s. s.left) k.same in
    let measured : is_as_measured (module_rule c.in-Some.rule.now) (module_text r.ram k.about.about c.in-Some.rule.now.pages) ≡ true =
    sym (c.is_measured.ensures r k.about (module_rule c.in-Some.rule.now) stands k.counted.under_way (left ∙ c.requires.due) k.counted.known) ∙ c.if-not-is_measured.false in
    let wrong : first_wrong r.rules.exports (module_bases c.args.load.now.«module») (module_text r.ram c.args.load.now.«module» c.in-Some.rule.now.pages) c.in-Some.rule.now.sites.items
    ≡ Some c.in-Some-first_wrong.wrong =
    sym (wrong_there c.deref-2.ensures.value c.bases_of-bases.ensures c.deref.ensures.value (c.text_of-text.ensures.text r stands)
    (ap (λ (x : Rules). x.exports) (c.policy-policy.ensures ∙ rules_seen c.args.machine.now r stands)) c.first_wrong.ensures) ∙ c.in-Some-first_wrong.is in
    ap (λ (l : RefusedLoad). l ∷ []) (c.refused-in-Some-first_wrong.ensures ∙ told_now c.args.machine.now r c.args.hart c.args.load.now.«module» (Some c.in-Some-first_wrong.wrong) stands)
    ∙ refused_wrong r c.args.hart c.args.load.now.«module» (module_rule c.in-Some.rule.now) c.in-Some-first_wrong.wrong k.known
    (subst (λ m. is_as_measured (module_rule c.in-Some.rule.now) (module_text r.ram m c.in-Some.rule.now.pages) ≡ true) (ap (λ s. s.«module») k.same) measured) wrong

pub returns-in-None : goal.returns-in-None
returns-in-None c = λ r stands.
    let found : slice_get (rules_of c.policy-policy.result.now).modules c.args.load.now.«module».id ≡ Some (module_rule c.in-Some.rule.now) =
    sym c.rule_of.ensures ∙ ap (option_map (λ (m : Bor ModulePolicy). module_rule m.now)) c.in-Some.is in
    let known : slice_get c.args.machine.now.rules.modules c.args.load.now.«module».id ≡ Some (module_rule c.in-Some.rule.now) =
    ap (λ (k : Rules). slice_get k.modules c.args.load.now.«module».id) (sym c.policy-policy.ensures) ∙ found in
    let k = known_at c.args.machine.now c.args.load.now (module_rule c.in-Some.rule.now) r c.requires.under stands known in
    let left = ap (λ s. s.left) k.same in
    let measured : is_as_measured (module_rule c.in-Some.rule.now) (module_text r.ram k.about.about c.in-Some.rule.now.pages) ≡ true =
    sym (c.is_measured.ensures r k.about (module_rule c.in-Some.rule.now) stands k.counted.under_way (left ∙ c.requires.due) k.counted.known) ∙ c.if-not-is_measured.false in
    let none : first_wrong r.rules.exports (module_bases c.args.load.now.«module») (module_text r.ram c.args.load.now.«module» c.in-Some.rule.now.pages) c.in-Some.rule.now.sites.items
    ≡ None =
    sym (wrong_there c.deref-2.ensures.value c.bases_of-bases.ensures c.deref.ensures.value (c.text_of-text.ensures.text r stands)
    (ap (λ (x : Rules). x.exports) (c.policy-policy.ensures ∙ rules_seen c.args.machine.now r stands)) c.first_wrong.ensures) ∙ c.in-None.is in
    refused_none r c.args.hart c.args.load.now.«module» (module_rule c.in-Some.rule.now) k.known
    (subst (λ m. is_as_measured (module_rule c.in-Some.rule.now) (module_text r.ram m c.in-Some.rule.now.pages) ≡ true) (ap (λ s. s.«module») k.same) measured) none
