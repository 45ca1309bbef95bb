use Rattle.std.proofs.Common.{rules, ◌≡◌, suc, ◌-◌, arith}
use Rattle.sv_types.specs.Policies.{rules_of}
use Rattle.module_gate.proofs.Joined.{takes_its_pages}
use Rattle.module_gate.proofs.LoadTurns.{turn_stays, turn_counts, turn_decides, goes_on_joined}
use Rattle.module_gate.proofs.turns.load_turn.Goals as goal

pub returns-in-None-clause-counted : goal.returns-in-None-clause-counted
returns-in-None-clause-counted c = λ none m h guard. turn_stays m (rules_of c.args.policy.now) c.args.mem.now h guard c.args.modules.now c.in-None.is

pub returns-in-Some-clause-decided : goal.returns-in-Some-clause-decided
returns-in-Some-clause-decided c = λ m h guard.
    let u = c.in-Some.pending in
    let none : u.load.left ≡ 0 = search rules in
    rw (c.load_decision.ensures, c.is_good-good.ensures u.hart, c.about.ensures)
    (turn_decides m (rules_of c.args.policy.now) c.args.mem.now h guard c.args.modules.now u c.in-Some.is none)

pub returns-in-Some-2-clause-counted : goal.returns-in-Some-2-clause-counted
returns-in-Some-2-clause-counted c = λ none m h guard.
    let u = c.in-Some.pending in
    let some : u.load.left ≡ suc (u.load.left - 1) = omega (arith, c.left.ensures, c.if-left-eq0.false) in
    turn_counts m (rules_of c.args.policy.now) c.args.mem.now h guard c.args.modules.now u (u.load.left - 1) c.count_page.new.gate c.count_page.new.load c.in-Some.is some c.count_page.ensures.gate
    (c.count_page.ensures.counted u.hart (u.load.left - 1) some)

pub returns-in-Some-2-clause-joined : goal.returns-in-Some-2-clause-joined
returns-in-Some-2-clause-joined c =
    let law = rules_of c.args.policy.now in
    let u = c.in-Some.pending in
    let some : u.load.left ≡ suc (u.load.left - 1) = omega (arith, c.left.ensures, c.if-left-eq0.false) in
    goes_on_joined law c.args.mem.now.ram c.args.modules.now.gate c.count_page.new.gate u (u.load.left - 1) c.count_page.new.load
    (takes_its_pages law c.args.modules.now u c.requires.joined c.in-Some.is) (c.count_page.ensures.counted u.hart (u.load.left - 1) some) c.count_page.ensures.pages c.count_page.ensures.tallied
