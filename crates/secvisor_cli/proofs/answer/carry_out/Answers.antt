use Rattle.std.proofs.Common.{subst, Ok}
use Rattle.secvisor_cli.specs.declared.ready.Ready.{Ready}
use Rattle.secvisor_cli.specs.Ready.{IsReady, MayCarryOut}
use Rattle.secvisor_cli.proofs.TopLemmas.{is_runnable, may_save_run, may_save_made, booted_answers, made_answers}
use Rattle.secvisor_cli.proofs.answer.carry_out.Goals as goal

pub run_on_bench-requires-clause-runnable : goal.run_on_bench-requires-clause-runnable
run_on_bench-requires-clause-runnable g c =
    let it = subst (λ (ready : Ready). MayCarryOut ready (g.F.Files.state c.args.files.now)) c.in-Run.is c.requires.permitted in
    is_runnable it.due c.in-Run.booted it.ready_is

pub run_on_bench-requires-clause-permitted : goal.run_on_bench-requires-clause-permitted
run_on_bench-requires-clause-permitted g c =
    let it = subst (λ (ready : Ready). MayCarryOut ready (g.F.Files.state c.args.files.now)) c.in-Run.is c.requires.permitted in
    may_save_run it.due c.in-Run.booted _ it.ready_is it.may

pub returns-in-Run : goal.returns-in-Run
returns-in-Run g c = λ due ready.
    booted_answers due c.in-Run.booted _ _ _ (subst (λ (r : Ready). IsReady due (Ok r)) c.in-Run.is ready) c.run_on_bench.ensures

pub save_policy-requires-clause-permitted : goal.save_policy-requires-clause-permitted
save_policy-requires-clause-permitted g c =
    let it = subst (λ (ready : Ready). MayCarryOut ready (g.F.Files.state c.args.files.now)) c.in-Save.is c.requires.permitted in
    may_save_made it.due c.in-Save.made _ it.ready_is it.may

pub returns-in-Save : goal.returns-in-Save
returns-in-Save g c = λ due ready.
    made_answers due c.in-Save.made _ _ _ _ _ _ (subst (λ (r : Ready). IsReady due (Ok r)) c.in-Save.is ready) c.save_policy.ensures
