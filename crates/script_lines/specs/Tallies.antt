-- How the runs of numbers that follow one another ended. This project's own.
use Rattle.std.specs.Prelude.{ℕ, suc, ◌==◌, Bool, true, false, ◌&&◌, not, if◌then◌else◌, List, [], ◌∷◌, length, map, filter, unwrap_or}
use Rattle.std.specs.Map.{lookup}
use Rattle.sv_types.specs.declared.event.Verdict.{Verdict}
use Rattle.sv_types.specs.declared.event.Verdict.TheVariants.{Running, Shutdown, Stopped}
use Rattle.sv_types.specs.declared.event.Rule.{Rule}
use Rattle.sv_types.specs.declared.event.Rule.TheVariants as rule
use Rattle.script_lines.specs.declared.tally.outcome.Outcome.{Outcome}
use Rattle.script_lines.specs.declared.tally.outcome.Outcome.TheVariants.{ShutDown, Entry, Write, Ended}
use Rattle.script_lines.specs.declared.tally.tally.Tally.{Tally}

-- ---- one way to end

abbrev pub stop_of : Rule → Outcome
stop_of (rule.Entry target) = Entry target
stop_of (rule.Write pc gpa) = Write pc gpa

-- how a run ends that stands so after its last event
abbrev pub outcome_of : Verdict → Outcome
outcome_of Running = Ended
outcome_of Shutdown = ShutDown
outcome_of (Stopped rule hart turn) = stop_of rule

-- the hart and the turn of a stop don't count
abbrev pub same : Outcome → Outcome → Bool
same ShutDown ShutDown = true
same (Entry target) (Entry other) = target == other
same (Write pc gpa) (Write other place) = (pc == other) && (gpa == place)
same Ended Ended = true
same _ _ = false

-- of runs whose numbers follow one another, the numbers of those that ended so, ascending
abbrev pub numbers_of : Outcome → (number : ℕ) → List Outcome → List ℕ
numbers_of outcome number [] = []
numbers_of outcome number (other ∷ more) =
    if same outcome other then number ∷ numbers_of outcome (suc number) more else numbers_of outcome (suc number) more

-- the least of ascending numbers, 0 where there is none
abbrev pub least : List ℕ → ℕ
least [] = 0
least (number ∷ more) = number

abbrev pub tally_of : Outcome → (first : ℕ) → List Outcome → Tally
tally_of outcome first outcomes = record { runs = length (numbers_of outcome first outcomes); first = least (numbers_of outcome first outcomes) }

-- ---- all ways to end

-- each that comes, once, where it comes first
abbrev pub distinct : List Outcome → List Outcome
distinct [] = []
distinct (outcome ∷ more) = outcome ∷ filter (λ other. not (same outcome other)) (distinct more)

abbrev pub tallies_of : (first : ℕ) → List Outcome → List (Outcome × Tally)
tallies_of first outcomes = map (λ outcome. (outcome, tally_of outcome first outcomes)) (distinct outcomes)

-- ---- one run more

abbrev pub no_runs : Tally
no_runs = record { runs = 0; first = 0 }

-- the runs that ended so far in this way
abbrev pub tally_in : Outcome → List (Outcome × Tally) → Tally
tally_in outcome entries = unwrap_or (lookup (same outcome) entries) no_runs

abbrev pub with_run : (number : ℕ) → Tally → Tally
with_run number tally = if tally.runs == 0 then record { runs = 1; first = number } else record { runs = suc tally.runs; first = tally.first }
