use Rattle.std.proofs.Common.{sym, ◌∙◌, ◌++◌, ap, if◌then◌else◌}
use Rattle.std.specs.Prelude.{is_ok}
use Rattle.machine.proofs.Standing.{cleared_none}
use Rattle.cli_debug.proofs.EventRows.{none_printed, none_taken}
use Rattle.cli_debug.proofs.target.stepping.take_printed.Goals as goal

pub returns-then-is_empty-clause-cleared : goal.returns-then-is_empty-clause-cleared
returns-then-is_empty-clause-cleared c = cleared_none c.args.machine.now

pub returns-then-is_empty-clause-none : goal.returns-then-is_empty-clause-none
returns-then-is_empty-clause-none c = none_printed c.printed-printed.result.now c.args.machine.now.journal.printed c.printed-printed.ensures (sym c.is_empty.ensures ∙ c.if-is_empty.true)

pub returns-then-is_empty-clause-taken : goal.returns-then-is_empty-clause-taken
returns-then-is_empty-clause-taken c =
    none_taken c.args.console.now.items c.args.machine.now.journal.printed
    (none_printed c.printed-printed.result.now c.args.machine.now.journal.printed c.printed-printed.ensures (sym c.is_empty.ensures ∙ c.if-is_empty.true))

pub returns-clause-taken : goal.returns-clause-taken
returns-clause-taken c =
    c.extend_from_slice-told.ensures.items
    ∙ ap (λ xs. if is_ok c.extend_from_slice-told.result then c.args.console.now.items ++ xs else c.args.console.now.items) c.printed-printed.ensures
