use Rattle.std.proofs.Common.{◌<◌, ℕ, length, rules, subst, sym, ◌∙◌}
use Rattle.spec_hardware.specs.Machine.{Machine}
use Rattle.machine.proofs.Turns.{exit_counts_nothing, exit_there, finished_exit, finished_quiet, second_may, second_served}
use Rattle.secvisor_core.specs.Serving.{MayServe, MayTrap, left_entry}
use Rattle.machine.specs.Turns.{IsReadyAt}
use Rattle.machine.proofs.events.system.System.attempt_again.Goals as goal

pub attempt-outcome-requires-clause-there : goal.attempt-outcome-requires-clause-there
attempt-outcome-requires-clause-there c = subst (λ (n : ℕ). c.args.hart < n) (sym c.leave_entry.ensures.number) c.requires.there

pub attempt-outcome-requires-clause-count : goal.attempt-outcome-requires-clause-count
attempt-outcome-requires-clause-count c = subst (λ (m : Machine). m.attempts < 18446744073709551615) (sym c.leave_entry.ensures.left) c.requires.count

pub attempt-outcome-requires-clause-ready : goal.attempt-outcome-requires-clause-ready
attempt-outcome-requires-clause-ready c = subst (λ (m : Machine). IsReadyAt m c.args.hart) (sym c.leave_entry.ensures.left) c.requires.ready

pub count_quiet-requires : goal.count_quiet-requires
count_quiet-requires c =
    (second_may c.args.self.now c.leave_entry.new.self c.attempt-outcome.new.self c.args.hart c.leave_entry.ensures.left c.attempt-outcome.ensures.machine c.requires.may).counts

pub serve_exit-requires-clause-hart : goal.serve_exit-requires-clause-hart
serve_exit-requires-clause-hart c =
    let is = exit_there c.attempt-outcome.result c.count_quiet.result c.in-Some.exit c.count_quiet.ensures.exit c.in-Some.is in
    subst (λ (m : Machine). MayTrap m.harts c.args.hart)
    (sym (exit_counts_nothing c.attempt-outcome.result c.in-Some.exit c.attempt-outcome.new.self c.count_quiet.new.self is c.count_quiet.ensures.counted))
    (record {
      there = subst (λ (n : ℕ). c.args.hart < n) (sym (c.attempt-outcome.ensures.number ∙ c.leave_entry.ensures.number)) c.requires.there;
      aligned = c.attempt-outcome.ensures.aligned;
    })

pub serve_exit-requires-clause-may : goal.serve_exit-requires-clause-may
serve_exit-requires-clause-may c =
    let is = exit_there c.attempt-outcome.result c.count_quiet.result c.in-Some.exit c.count_quiet.ensures.exit c.in-Some.is in
    subst MayServe
    (sym (exit_counts_nothing c.attempt-outcome.result c.in-Some.exit c.attempt-outcome.new.self c.count_quiet.new.self is c.count_quiet.ensures.counted))
    (second_may c.args.self.now c.leave_entry.new.self c.attempt-outcome.new.self c.args.hart c.leave_entry.ensures.left c.attempt-outcome.ensures.machine c.requires.may)

pub returns-in-Some : goal.returns-in-Some
returns-in-Some c =
    let is = exit_there c.attempt-outcome.result c.count_quiet.result c.in-Some.exit c.count_quiet.ensures.exit c.in-Some.is in
    let same = exit_counts_nothing c.attempt-outcome.result c.in-Some.exit c.attempt-outcome.new.self c.count_quiet.new.self is c.count_quiet.ensures.counted in
    let there = subst (λ (m : Machine). c.args.hart < length m.harts) (sym same)
    (subst (λ (n : ℕ). c.args.hart < n) (sym (c.attempt-outcome.ensures.number ∙ c.leave_entry.ensures.number)) c.requires.there) in
    second_served c.leave_entry.new.self (left_entry c.args.self.now c.args.hart) c.attempt-outcome.new.self c.serve_exit.new.self c.args.hart c.attempt-outcome.result
    c.leave_entry.ensures.left c.attempt-outcome.ensures.outcome c.attempt-outcome.ensures.machine
    (finished_exit c.attempt-outcome.result c.in-Some.exit c.attempt-outcome.new.self c.count_quiet.new.self c.serve_exit.new.self c.args.hart is same there c.serve_exit.ensures)

pub returns-in_default : goal.returns-in_default
returns-in_default c =
    second_served c.leave_entry.new.self (left_entry c.args.self.now c.args.hart) c.attempt-outcome.new.self c.count_quiet.new.self c.args.hart c.attempt-outcome.result
    c.leave_entry.ensures.left c.attempt-outcome.ensures.outcome c.attempt-outcome.ensures.machine
    (finished_quiet c.attempt-outcome.result c.count_quiet.result c.attempt-outcome.new.self c.count_quiet.new.self c.args.hart c.count_quiet.ensures.exit (search rules) c.count_quiet.ensures.counted)
