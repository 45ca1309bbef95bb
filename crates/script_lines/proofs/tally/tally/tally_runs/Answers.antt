use Rattle.std.proofs.Common.{◌≡◌, ◌≤◌, ◌+◌, length, take, slice_index_or, sym, ◌∙◌, ap, subst, arith}
use Rattle.std.proofs.lemmas.List.{take_more, length-take}
use Rattle.indexmap.specs.IndexMap.{insert_entry}
use Rattle.script_lines.specs.declared.tally.outcome.Outcome.TheVariants.{ShutDown}
use Rattle.script_lines.specs.Tallies.{tallies_of, tally_in, with_run, same}
use Rattle.script_lines.proofs.Counting.{runs_few, one_run_more}
use Rattle.script_lines.proofs.tally.tally.tally_runs.Goals as goal

pub count_run-requires : goal.count_run-requires
count_run-requires c =
    let last = slice_index_or c.args.outcomes.now c.runs.i ShutDown in
    let few : (tally_in last (tallies_of c.args.first (take c.runs.i c.args.outcomes.now))).runs ≤ length (take c.runs.i c.args.outcomes.now) =
    runs_few last c.args.first (take c.runs.i c.args.outcomes.now) in
    let some : (tally_in last c.runs.tallies.entries).runs ≤ length (take c.runs.i c.args.outcomes.now) =
    subst (λ entries. (tally_in last entries).runs ≤ length (take c.runs.i c.args.outcomes.now)) (sym c.runs.invariant) few in
    record { few = omega (arith, some, length-take c.runs.i c.args.outcomes.now, c.runs-test.true, c.runs.auto.i-end) }

pub runs-preserved : goal.runs-preserved
runs-preserved c =
    let i = c.runs.i in
    let outcomes = c.args.outcomes.now in
    let last = slice_index_or outcomes i ShutDown in
    let place : c.args.first + i ≡ c.args.first + length (take i outcomes) = omega (arith, length-take i outcomes, c.runs-test.true, c.runs.auto.i-end) in
    c.in_ok-count_run.ensures
    ∙ ap (λ entries. insert_entry same entries last (with_run (c.args.first + i) (tally_in last entries))) c.runs.invariant
    ∙ ap (λ n. insert_entry same (tallies_of c.args.first (take i outcomes)) last (with_run n (tally_in last (tallies_of c.args.first (take i outcomes))))) place
    ∙ one_run_more c.args.first (take i outcomes) last
    ∙ ap (λ all. tallies_of c.args.first all) (sym (take_more outcomes i ShutDown c.runs-test.true))
