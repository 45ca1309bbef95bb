-- A run that is broken off and goes on from what was saved. This project's own.
use Rattle.std.specs.Prelude.{◌≡◌, ℕ, suc, List, [], ◌∷◌, ◌++◌, take, drop}
use Rattle.sv_types.specs.ApprovedPages.{approved_bytes}
use Rattle.sv_types.specs.declared.event.Event.{Event}
use Rattle.sv_types.specs.declared.event.Verdict.{Verdict}
use Rattle.sv_types.specs.declared.event.Verdict.TheVariants.{Running, Shutdown, Stopped}
use Rattle.spec_reference.specs.Disk.{disk_bytes}
use Rattle.spec_reference.specs.States.{State}
use Rattle.spec_reference.specs.Report.{output}
use Rattle.spec_reference.specs.Run.{step, run}

-- Two states that nothing tells apart but for bytes that were printed before: what is approved is asked by page, so the order
-- of the list is free.
pub record Alike (front : List ℕ) (r next : State) : Type 0 where
  pub approved : (page : ℕ) → approved_bytes next.approved page ≡ approved_bytes r.approved page
  pub printed : r.journal.printed ≡ front ++ next.journal.printed
  pub rest : next ≡ record r { approved = next.approved; journal = record r.journal { printed = next.journal.printed } }

-- no event tells them apart
abbrev pub AlikeLaw : Type 0
AlikeLaw = (front : List ℕ) (r next : State) (e : Event) → Alike front r next → Alike front (step r e) (step next e)

-- how many of the events are made while the machine runs
unfoldable pub drawn_under : Verdict → (ℕ → ℕ) → ℕ → ℕ
drawn_under Running next rest = next rest
drawn_under Shutdown next rest = 0
drawn_under (Stopped rule h at) next rest = 0

unfoldable pub draw_count : State → List Event → ℕ
draw_count r [] = 0
draw_count r (e ∷ events) = drawn_under r.journal.verdict suc (draw_count (step r e) events)

-- After the first k events, or those up to the verdict, a state that is alike but has nothing printed goes on with the events
-- that are left: the bytes that were printed then, and what it gives, are what the whole run gives. Status and disk are the same.
pub record Continues (s : State) (k : ℕ) (events : List Event) (resumed : State) : Type 0 where
  pub output : (run s (take k events)).journal.printed ++ output (run resumed (drop (draw_count s (take k events)) events)) ≡ output (run s events)
  pub verdict : (run resumed (drop (draw_count s (take k events)) events)).journal.verdict ≡ (run s events).journal.verdict
  pub disk : disk_bytes (run resumed (drop (draw_count s (take k events)) events)).devices.disk ≡ disk_bytes (run s events).devices.disk

abbrev pub ContinuesLaw : Type 0
ContinuesLaw = (s : State) (k : ℕ) (events : List Event) (resumed : State) → resumed.journal.printed ≡ []
    → Alike (run s (take k events)).journal.printed (run s (take k events)) resumed → Continues s k events resumed
