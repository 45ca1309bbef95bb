use Rattle.std.proofs.Common.{◌≡◌, ◌*◌, ◌-◌, ℕ, List, length, take, drop, ◌∙◌, ap, arith}
use Rattle.sv_types.specs.Policies.{module_rule}
use Rattle.cli_survey.proofs.LookLemmas.{known_at, text_base, text_in_ram}
use Rattle.cli_survey.proofs.looking.text_of.Goals as goal

pub overflow_sub-first : goal.overflow_sub-first
overflow_sub-first c =
    let has = c.requires.under.has in
    text_base c.args.machine.now c.args.load.now (module_rule c.args.rule.now) has.state
    (known_at c.args.machine.now c.args.load.now (module_rule c.args.rule.now) has.state c.requires.under has.stands c.requires.rule)

pub split_at-requires : goal.split_at-requires
split_at-requires c =
    let has = c.requires.under.has in
    let inside = text_in_ram c.args.machine.now c.args.load.now (module_rule c.args.rule.now) has.state
    (known_at c.args.machine.now c.args.load.now (module_rule c.args.rule.now) has.state c.requires.under has.stands c.requires.rule) in
    let same : length c.ram.result.now ≡ length has.state.ram = ap length (c.ram.ensures has.state has.stands) in
    omega (arith, inside, same)

pub split_at-requires-2 : goal.split_at-requires-2
split_at-requires-2 c =
    let has = c.requires.under.has in
    let inside = text_in_ram c.args.machine.now c.args.load.now (module_rule c.args.rule.now) has.state
    (known_at c.args.machine.now c.args.load.now (module_rule c.args.rule.now) has.state c.requires.under has.stands c.requires.rule) in
    let same : length c.ram.result.now ≡ length has.state.ram = ap length (c.ram.ensures has.state has.stands) in
    let rest = c.split_at.ensures.back_len in
    omega (arith, inside, same, rest)

pub returns-clause-text : goal.returns-clause-text
returns-clause-text c = λ r stands.
    c.split_at-2.ensures.front
    ∙ ap (λ (bytes : List ℕ). take (4096 * c.args.rule.now.pages) bytes) c.split_at.ensures.back
    ∙ ap (λ (ram : List ℕ). take (4096 * c.args.rule.now.pages) (drop (c.args.load.now.«module».gpa - 2147483648) ram)) (c.ram.ensures r stands)
