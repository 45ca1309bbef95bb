-- The parts put together.
use Rattle.std.proofs.Common.{◌≡◌, ℕ, List, [], length, replicate, sym, ◌∙◌, ap}
use Rattle.spec_processor.specs.Regions.{Region}
use Rattle.sv_types.specs.Policies.{Rules}
use Rattle.sv_types.specs.declared.protection.Protection.{Protection}
use Rattle.sv_types.specs.declared.protection.Protection.TheVariants.{Free, Approved}
use Rattle.gstage_tables.specs.Layout.{table_size}
use Rattle.page_guard.specs.Guarded.{Guarded, TablesMatchGuard, TablesStayMatched}
use Rattle.page_guard.specs.Permitted.{Permitted}
use Rattle.spec_reference.specs.declared.saved_machine.harts.SavedHart.{SavedHart}
use Rattle.snapshot_format.specs.Snapshots.{Contents}
use Rattle.sv_types.specs.declared.event.Note.{Note}
use Rattle.sv_types.specs.declared.saved.ModulePlacement.{ModulePlacement}
use Rattle.spec_reference.specs.declared.saved_machine.whole.Saved.{Saved}
use Rattle.module_gate.specs.Gates.{Records}
use Rattle.spec_reference.specs.States.{Devices, Journal}
use Rattle.spec_reference.specs.SavedStates.{disk_of}
use Rattle.snapshot_format.specs.ResumedStates.{timers_of}
use Rattle.snapshot_format.specs.Judgements.{approved_of}
use Rattle.laws_resume.proofs.TakenPages.{length_taken}
use Rattle.machine.specs.Approving.{Approves}
use Rattle.machine.proofs.Approved.{length_free}

-- the tables are as long as before
pub tables_stay : (before after : Region) (old new : Guarded) → TablesMatchGuard before old → TablesStayMatched before after old new → length after.tables ≡ length before.tables
tables_stay before after old new tables_match stays =
    stays.tables_match.trees.size
    ∙ ap (λ (n : ℕ). table_size n (length new.bound)) stays.size
    ∙ ap (λ (bound : List ℕ). table_size (length old.pages) (length bound)) stays.bound
    ∙ sym tables_match.trees.size

-- as many pages are guarded as the policy says
pub pages_guarded : (rules : Rules) (s : Contents) (guard : List Protection) → Approves (replicate rules.ram_pages Free) guard (approved_of rules s) → length guard ≡ rules.ram_pages
pages_guarded rules s guard is = length_taken Approved (replicate rules.ram_pages Free) guard (approved_of rules s) is ∙ length_free rules.ram_pages

-- ---- values as they are made

abbrev pub permitted_of : (entries bound : List ℕ) → Permitted
permitted_of entries bound = record { entries = entries; bound = bound }

abbrev pub devices_by : Contents → List ℕ → List SavedHart → Devices
devices_by s input hs = record { console = input; disk = disk_of s.port s.disk; clock = record { time = s.time; timers = timers_of hs } }

abbrev pub journal_by : Saved → List Note → Journal
journal_by m notes = record { printed = []; notes = notes; counts = m.counts; verdict = m.verdict }

abbrev pub gate_by : Saved → List ModulePlacement → Records
gate_by m modules = record { loaded = modules; digests = []; retired = m.retired }
