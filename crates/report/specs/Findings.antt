-- What a survey found, counted by a key, in the order in which each was first seen: the writes that it passed over by the pc of
-- the instruction, and the demotions and the denied moves of devices by the page; and the loads that were refused, one by one. This project's own.
use Rattle.std.specs.Prelude.{ℕ, zero, suc, ◌+◌, ◌-◌, ◌%◌, ◌^◌, List, [], ◌∷◌, ◌++◌, length, ◌==◌, ◌||◌, if◌then◌else◌, nat_lt, min, max, Bool, Option}
use Rattle.std.specs.List.{list_any, position}
use Rattle.spec_processor.specs.Bytes.{page_size}
use Rattle.sv_types.specs.declared.event.Note.{Note}
use Rattle.sv_types.specs.declared.event.Note.TheVariants.{Demote, Denied, Load, Unload, Retire}
use Rattle.report.specs.declared.findings.findings.Occurrence.{Occurrence}
use Rattle.report.specs.declared.findings.findings.Finding.{Finding}
use Rattle.report.specs.declared.findings.loads.RefusedLoad.{RefusedLoad}

-- so many findings of a kind are kept
abbrev pub max_findings : ℕ
max_findings = 4096

-- what is seen for the first time
abbrev pub first_finding : Occurrence → Finding
first_finding o = record { key = o.key; times = 1; hart = o.hart; turn = o.turn; first = o.address; low = o.address; high = o.address }

-- one more, as far as a number of 64 bits goes
abbrev pub raised : ℕ → ℕ
raised n = min (n + 1) (2 ^ 64 - 1)

-- what is seen again
abbrev pub joined : Finding → Occurrence → Finding
joined f o = record f { times = raised f.times; low = min f.low o.address; high = max f.high o.address }

-- the place of the finding of its key
unfoldable pub place_of : List Finding → Occurrence → Option ℕ
place_of fs p = position (λ f. f.key == p.key) fs

abbrev pub joined_at : List Finding → (place : ℕ) → Occurrence → List Finding
joined_at [] place p = []
joined_at (f ∷ fs) zero p = joined f p ∷ fs
joined_at (f ∷ fs) (suc place) p = f ∷ joined_at fs place p

-- an occurrence joins the finding of its key, or begins one after the others
abbrev pub with_occurrence : List Finding → Occurrence → List Finding
with_occurrence [] p = first_finding p ∷ []
with_occurrence (f ∷ fs) p = if f.key == p.key then joined f p ∷ fs else f ∷ with_occurrence fs p

abbrev pub is_found : List Finding → ℕ → Bool
is_found fs key = list_any (λ f. f.key == key) fs

-- where there is no room for a new one the findings stay as they are
unfoldable pub after_occurrence : List Finding → Occurrence → List Finding
after_occurrence fs p = if is_found fs p.key || nat_lt (length fs) max_findings then with_occurrence fs p else fs

-- ---- the writes that a survey passes over

-- those of each pc, and how many they are in all, whether their findings are kept or not
pub record PassedWrites : Type 0 where
  pub findings : List Finding
  pub total : ℕ

abbrev pub no_writes : PassedWrites
no_writes = record { findings = []; total = 0 }

abbrev pub with_write : PassedWrites → Occurrence → PassedWrites
with_write w o = record { findings = after_occurrence w.findings o; total = raised w.total }

-- ---- the loads that were refused

-- the first of them, and how many they are in all
pub record RefusedLoads : Type 0 where
  pub kept : List RefusedLoad
  pub total : ℕ

abbrev pub no_loads : RefusedLoads
no_loads = record { kept = []; total = 0 }

abbrev pub with_load : RefusedLoads → RefusedLoad → RefusedLoads
with_load l load = record { kept = if nat_lt (length l.kept) max_findings then l.kept ++ load ∷ [] else l.kept; total = raised l.total }

-- ---- from notes

-- the address of the page of RAM in which an address lies
abbrev pub page_address : ℕ → ℕ
page_address gpa = gpa - gpa % page_size

-- the page at which a hart was demoted, with the pc
unfoldable pub after_demotion : List Finding → Note → List Finding
after_demotion fs (Demote h turn pc gpa) = after_occurrence fs (record { key = page_address gpa; address = pc; hart = h; turn = turn })
after_demotion fs (Denied gpa) = fs
after_demotion fs (Load h turn id code) = fs
after_demotion fs (Unload h turn id code) = fs
after_demotion fs (Retire h turn code) = fs

-- the page that a device was kept from
unfoldable pub after_denied : List Finding → Note → List Finding
after_denied fs (Demote h turn pc gpa) = fs
after_denied fs (Denied gpa) = after_occurrence fs (record { key = page_address gpa; address = gpa; hart = 0; turn = 0 })
after_denied fs (Load h turn id code) = fs
after_denied fs (Unload h turn id code) = fs
after_denied fs (Retire h turn code) = fs

abbrev pub demotions : List Finding → List Note → List Finding
demotions fs [] = fs
demotions fs (note ∷ notes) = demotions (after_demotion fs note) notes

abbrev pub denied_moves : List Finding → List Note → List Finding
denied_moves fs [] = fs
denied_moves fs (note ∷ notes) = denied_moves (after_denied fs note) notes

-- both
pub record FoundByNotes : Type 0 where
  pub demotions : List Finding
  pub denied : List Finding

abbrev pub with_notes : FoundByNotes → List Note → FoundByNotes
with_notes f notes = record { demotions = demotions f.demotions notes; denied = denied_moves f.denied notes }

abbrev pub found_by : List Note → FoundByNotes
found_by notes = record { demotions = demotions [] notes; denied = denied_moves [] notes }
