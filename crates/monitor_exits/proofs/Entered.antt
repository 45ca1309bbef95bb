-- The entry that a hart is in, as the list of entries has it, and the answer by that entry's address.
use Rattle.std.proofs.Common.{◌≡◌, ℕ, List, slice_get, refl, sym, ◌∙◌, ap}
use Rattle.std.specs.Prelude.{Option, Some, None, option_map}
use Rattle.sv_types.specs.Policies.{Rules}
use Rattle.spec_processor.specs.declared.exit.Exit.{Exit}
use Rattle.spec_reference.specs.States.{Binding, binding_at, binding_of}
use Rattle.spec_reference.specs.Turn.{bound_entry}
use Rattle.spec_hardware.specs.Served.{Seen, answer_in}
use Rattle.page_guard.specs.Permitted.{Permitted}
use Rattle.monitor_exits.specs.Seen.{answer_at}

pub by_address : (seen : Seen) (exit : Exit) (entry : Option Binding) → answer_in seen exit entry ≡ answer_at seen exit (option_map (λ (entry : Binding). entry.va) entry)
unfolding answer_in answer_at
by_address seen exit None = refl
by_address seen exit (Some entry) = refl

pub no_entry : (rules : Rules) → bound_entry rules None ≡ None
unfolding bound_entry
no_entry rules = refl

pub address_of : (rules : Rules) (permitted : Permitted) (place : ℕ) → rules.entries ≡ permitted.entries → rules.bound ≡ permitted.bound
    → binding_of (slice_get permitted.entries place) (slice_get permitted.bound place) ≡ bound_entry rules (Some place)
unfolding bound_entry binding_at
address_of rules permitted place same bound =
    ap (λ (entries : List ℕ). binding_of (slice_get entries place) (slice_get permitted.bound place)) (sym same)
    ∙ ap (λ (bound : List ℕ). binding_of (slice_get rules.entries place) (slice_get bound place)) (sym bound)
