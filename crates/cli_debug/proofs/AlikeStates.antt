-- States that nothing tells apart but bytes that were printed before.
use Rattle.std.proofs.Common.{◌≡◌, ℕ, List, [], ◌∷◌, ◌++◌, map, refl, sym, ◌∙◌, ap}
use Rattle.std.specs.Prelude.{option_map, is_some}
use Rattle.std.proofs.lemmas.List.{append-nil}
use Rattle.sv_types.specs.ApprovedPages.{approved_bytes, numbers_from}
use Rattle.sv_types.specs.Policies.{Rules}
use Rattle.sv_types.specs.declared.event.Event.{Event}
use Rattle.sv_types.specs.declared.event.Verdict.TheVariants.{Running}
use Rattle.sv_types.specs.declared.protection.Protection.{Protection}
use Rattle.spec_reference.specs.Run.{run, step}
use Rattle.spec_reference.specs.SavedStates.{IsSaved, saved_harts, saved_load}
use Rattle.spec_reference.specs.States.{State, has_number, protection, protection_by, protection_in, protections_of}
use Rattle.spec_reference.specs.declared.saved_machine.whole.Saved.{Saved}
use Rattle.laws_resume.specs.Continues.{Alike}
use Rattle.laws_resume.proofs.AlikeSteps.{alike_law}
use Rattle.spec_hardware.specs.Machine.{Machine}
use Rattle.spec_hardware.specs.Reaches.{IsNew}
use Rattle.machine.proofs.Standing.{stands_new, stands_printed}
use Rattle.cli_debug.specs.Debugged.{StandsIn}

pub alike_same : (r : State) → Alike [] r r
alike_same r = record { approved = λ page. refl; printed = refl; rest = refl }

pub alike_run : (front : List ℕ) (r like : State) (events : List Event) → Alike front r like → Alike front (run r events) (run like events)
alike_run front r like [] a = a
alike_run front r like (e ∷ events) a = alike_run front (step r e) (step like e) events (alike_law front r like e a)

-- one goes on where the other does
pub alike_running : (front : List ℕ) (r like : State) (events : List Event) → Alike front r like → (run like events).journal.verdict ≡ Running → (run r events).journal.verdict ≡ Running
alike_running front r like events a running = sym (ap (λ (s : State). s.journal.verdict) (alike_run front r like events a).rest) ∙ running

-- ---- protections

protection_same : (front : List ℕ) (r like : State) (page : ℕ) → Alike front r like → protection like page ≡ protection r page
unfolding protection_in
protection_same front r like page a =
    ap (λ bytes. protection_by (is_some bytes) (has_number like.held page)) (a.approved page)
    ∙ ap (λ held. protection_by (is_some (approved_bytes r.approved page)) (has_number held page)) (ap (λ (s : State). s.held) a.rest)

each_page : (f g : ℕ → Protection) → ((page : ℕ) → f page ≡ g page) → (pages : List ℕ) → map f pages ≡ map g pages
each_page f g same [] = refl
each_page f g same (page ∷ pages) = ap (λ (p : Protection). p ∷ map f pages) (same page) ∙ ap (λ (ps : List Protection). g page ∷ ps) (each_page f g same pages)

pub protections_alike : (front : List ℕ) (r like : State) → Alike front r like → protections_of like ≡ protections_of r
protections_alike front r like a =
    each_page (protection like) (protection r) (λ page. protection_same front r like page a) (numbers_from 0 like.rules.ram_pages)
    ∙ ap (λ (rules : Rules). map (protection r) (numbers_from 0 rules.ram_pages)) (ap (λ (s : State). s.rules) a.rest)

-- ---- what is saved

pub saved_alike : (front : List ℕ) (r like : State) (s : Saved) → Alike front r like → IsSaved like s → IsSaved r s
saved_alike front r like s a k = record {
  harts = k.harts ∙ ap (λ (x : State). saved_harts x.devices.clock 0 x.harts) a.rest;
  ram = k.ram ∙ ap (λ (x : State). x.ram) a.rest;
  protection = k.protection ∙ protections_alike front r like a;
  modules = k.modules ∙ ap (λ (x : State). x.loaded) a.rest;
  retired = k.retired ∙ ap (λ (x : State). x.retired) a.rest;
  loading = k.loading ∙ ap (λ (x : State). option_map saved_load x.loading) a.rest;
  console = k.console ∙ ap (λ (x : State). x.devices.console) a.rest;
  disk = k.disk ∙ ap (λ (x : State). x.devices.disk) a.rest;
  time = k.time ∙ ap (λ (x : State). x.devices.clock.time) a.rest;
  counts = k.counts ∙ ap (λ (x : State). x.journal.counts) a.rest;
  notes = k.notes ∙ ap (λ (x : State). x.journal.notes) a.rest;
  verdict = k.verdict ∙ ap (λ (x : State). x.journal.verdict) a.rest;
}

-- ---- a machine that stands in a state

pub stands_first : (m : Machine) (start : State) → IsNew m start → StandsIn m [] start
stands_first m start new = record { front = []; rest = []; like = start; alike = alike_same start; here = stands_new m start new; console_is = refl }

-- all that was printed is taken from it
pub console_printed : (m : Machine) (console : List ℕ) (r : State) → StandsIn m console r → m.journal.printed ≡ [] → console ≡ r.journal.printed
console_printed m console r s none =
    s.console_is
    ∙ ap (λ (xs : List ℕ). s.front ++ xs)
    (sym (append-nil s.rest) ∙ ap (λ (xs : List ℕ). s.rest ++ xs) (sym none) ∙ stands_printed m s.like s.rest s.here)
    ∙ sym s.alike.printed
