-- The run of a number.
use Rattle.std.proofs.Common.{◌≡◌, ℕ, List, refl, sym, ◌∙◌, ap, Option, Some, Ok, Err}
use Rattle.sv_types.specs.Policies.{Rules}
use Rattle.sv_types.specs.Schedule.{Schedule}
use Rattle.spec_reference.specs.Start.{boot_start, start as begin}
use Rattle.policy.specs.Refusals.{Judged}
use Rattle.policy.specs.Text.{rules_of_text}
use Rattle.script_lines.specs.declared.tally.outcome.Outcome.{Outcome}
use Rattle.cli_trials.specs.declared.trial.order.Order.{Order}
use Rattle.cli_trials.specs.Trials.{end_from, end_under, outcome_in, schedule_of}
use Rattle.cli_trials.specs.declared.sweep.sweeping.Sweep.{Sweep}
use Rattle.cli_trials.specs.Sweeps.{end_by, outcome_at, outcome_under, schedule_at}

start_rules : (rules : Rules) (file disk : List ℕ) → (boot_start rules file disk).rules ≡ rules
unfolding boot_start begin
start_rules rules file disk = refl

under_same : (judged : Judged Rules) (sweep : Sweep) (number : ℕ) (order : Order) → ((harts : ℕ) → schedule_of order harts ≡ Some (schedule_at sweep.order harts number)) →
    end_under judged sweep.files.image.now sweep.files.disk.now sweep.events (schedule_of order) ≡ outcome_under judged sweep number
under_same (Err fault) sweep number order draws = refl
under_same (Ok rules) sweep number order draws =
    let start = boot_start rules sweep.files.image.now sweep.files.disk.now in
    ap (λ (s : Option Schedule). end_from start sweep.events s) (draws rules.harts)
    ∙ ap (λ (r : Rules). Some (end_by sweep.events sweep.order start r.harts number)) (sym (start_rules rules sweep.files.image.now sweep.files.disk.now))

-- under the order that it draws
pub number_ends : (sweep : Sweep) (number : ℕ) (order : Order) (outcome : Outcome) → ((harts : ℕ) → schedule_of order harts ≡ Some (schedule_at sweep.order harts number)) →
    outcome_in sweep.files sweep.events order ≡ Some outcome → outcome_at sweep number ≡ Some outcome
number_ends sweep number order outcome draws is = sym (under_same (rules_of_text sweep.files.policy.now) sweep number order draws) ∙ is
