-- What follows of what was written in one piece.
use Rattle.std.proofs.Common.{◌≡◌, ◌≢◌, ◌≤◌, ℕ, List, sym, ◌∙◌, ap, arith, Some, Result, Ok, Err}
use Rattle.sv_types.specs.declared.status.Status.{Status}
use Rattle.host_io.specs.Endings.{status_of_end}
use Rattle.host_io.specs.Outside.{FilesState, SinkState}
use Rattle.host_io.specs.declared.trouble.Trouble.{Trouble}
use Rattle.host_io.specs.declared.trouble.Trouble.TheVariants.{Write, Memory}
use Rattle.cli_plans.specs.declared.refusal.Refusal.{Refusal}
use Rattle.cli_plans.specs.Plans.{Plan, Refuse}
use Rattle.cli_plans.specs.Reading.{Follows}
use Rattle.cli_plans.specs.Refusals.{refusal_line, refusal_status}
use Rattle.cli_plans.proofs.PlanLemmas.{HasFault, HasFoundFaults, read_fault}
use Rattle.cli_trials.specs.Writing.{WritesAll}

-- ---- the count of the sink's faults doesn't fall

pub same_rises : (old new : SinkState) → new ≡ old → old.faults ≤ new.faults
same_rises old new is = let same : new.faults ≡ old.faults = ap (λ (s : SinkState). s.faults) is in omega (arith, same)

pub written_rises : (due : Status) (bytes : List ℕ) (old new : SinkState) (result : Result Status Trouble) → WritesAll due bytes old new result → old.faults ≤ new.faults
written_rises due bytes old new (Ok status) it = let same : new.faults ≡ old.faults = ap (λ (s : SinkState). s.faults) it.1 in omega (arith, same)
written_rises due bytes old new (Err Write) it = omega (arith, it.faults)
written_rises due bytes old new (Err Memory) it = same_rises old new it

-- ---- a read fault

pub written_no_fault : (due : Status) (bytes : List ℕ) (old new : SinkState) (result : Result Status Trouble) → due ≢ Status.ReadFault → WritesAll due bytes old new result →
    status_of_end result ≢ Status.ReadFault
written_no_fault due bytes old new (Ok status) never it = λ is. never (sym it.0 ∙ is)
written_no_fault due bytes old new (Err Write) never it = λ is. cc is
written_no_fault due bytes old new (Err Memory) never it = λ is. cc is

pub refused_fault : (plan : Plan) (refusal : Refusal) (files read : FilesState) (old new : SinkState) (result : Result Status Trouble) → HasFoundFaults plan →
    Follows plan files read (Some (Refuse refusal)) →
    WritesAll (refusal_status refusal) (refusal_line refusal) old new result → status_of_end result ≡ Status.ReadFault → HasFault plan files read
refused_fault plan refusal files read old new (Ok status) never follows it is = read_fault plan files read (Refuse refusal) never follows (sym it.0 ∙ is)
refused_fault plan refusal files read old new (Err Write) never follows it is = absurd (cc is)
refused_fault plan refusal files read old new (Err Memory) never follows it is = absurd (cc is)
