use Rattle.std.proofs.Common.{sym, ◌∙◌, ap}
use Rattle.std.specs.Prelude.{option_map}
use Rattle.spec_reference.specs.States.{Binding}
use Rattle.spec_reference.specs.Turn.{bound_entry}
use Rattle.monitor_exits.proofs.Entered.{address_of, no_entry}
use Rattle.monitor_exits.proofs.exits.entry_address.Goals as goal

pub returns-in-Some : goal.returns-in-Some
returns-in-Some c = λ rules same bound.
    c.address.ensures
    ∙ ap (option_map (λ (entry : Binding). entry.va)) (address_of rules c.args.entries.now c.in-Some.place same bound ∙ ap (bound_entry rules) (sym (sym c.entry.ensures ∙ c.in-Some.is)))

pub returns-in-None : goal.returns-in-None
returns-in-None c = λ rules same bound.
    ap (option_map (λ (entry : Binding). entry.va)) (sym (no_entry rules) ∙ ap (bound_entry rules) (sym (sym c.entry.ensures ∙ c.in-None.is)))
