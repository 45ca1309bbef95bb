-- Files that are asked as a plan says: each part once, up to its limit, in the plan's order, and no other one; and what is
-- saved at its end, once.
use Rattle.std.specs.Prelude.{◌≡◌, ◌≢◌, ◌<◌, ◌≤◌, ◌⊎◌, ℕ, List, [], ◌∷◌, length, IsTrue, Option, Some, None, Ok}
use Rattle.policy.specs.Text.{rules_of_text}
use Rattle.host_io.specs.Outside.{FilesState, after_asking, after_saving}
use Rattle.cli_plans.specs.Plans.{Due, Content, Exactly, PolicyOf, Saving, saves_due, Plan, End, Read, Judge, Found, Faulty, Missing, Longer, Held}

-- exactly these bytes may be saved, or each text that reads as the policy
abbrev pub MayHold : (name : List ℕ) → Content → FilesState → Type 0
MayHold name (Exactly bytes) files = IsTrue (files.permits_save ((name, bytes) ∷ []))
MayHold name (PolicyOf rules) files = (text : List ℕ) → rules_of_text text ≡ Ok rules → IsTrue (files.permits_save ((name, text) ∷ []))

abbrev pub MaySave : Option Saving → FilesState → Type 0
MaySave None files = Unit {0}
MaySave (Some saving) files = MayHold saving.name saving.content files

-- the plan's names may be asked for, each with its limit, one after another, whatever is found, and what is due at its end
-- may be saved
abbrev pub MayFollow : Plan → FilesState → Type 0
MayFollow (End due) files = MaySave (saves_due due) files
MayFollow (Read name limit next) files =
    IsTrue (files.permits ((name, limit) ∷ [])) × ((found : Found) → MayFollow (next found) (after_asking name limit files))
MayFollow (Judge next) files = MayFollow next files

-- what was found under a name. It is what the files hold, where they tell it; a failure comes only where the count rose
abbrev pub FoundAs : FilesState → FilesState → List ℕ → ℕ → Found → Type 0
FoundAs old new name limit Faulty =
    (old.read_faults < new.read_faults) × (new ≡ record (after_asking name limit old) { read_faults = new.read_faults })
FoundAs old new name limit Missing = IsTrue old.tells × (old.held name ≡ None) × (new ≡ after_asking name limit old)
FoundAs old new name limit Longer =
    ((bytes : List ℕ) × (limit < length bytes) × (IsTrue old.tells → old.held name ≡ Some bytes)) × (new ≡ after_asking name limit old)
FoundAs old new name limit (Held bytes) =
    (length bytes ≤ limit) × (IsTrue old.tells → old.held name ≡ Some bytes) × (new ≡ after_asking name limit old)

-- The files were asked as the plan says, up to what is due at its end. It is none where memory ran out for a read,
-- or for judging what was read.
abbrev pub Follows : Plan → FilesState → FilesState → Option Due → Type 0
Follows (End due) old new reached = (reached ≡ Some due) × (new ≡ old)
Follows (Read name limit next) old new reached =
    ((reached ≡ None) × (new ≡ after_asking name limit old))
    ⊎ ((found : Found) × (now : FilesState) × FoundAs old now name limit found × Follows (next found) now new reached)
Follows (Judge next) old new reached = ((reached ≡ None) × (new ≡ old)) ⊎ Follows next old new reached

-- the files were asked as the plan says, and what was reached was answered
pub record CarriesOut (plan : Plan) (old : FilesState) (answered : (read : FilesState) → (reached : Option Due) → Type 0) : Type 0 where
  pub reached : Option Due
  -- the files once they were read
  pub read : FilesState
  pub follows : Follows plan old read reached
  pub answers : answered read reached

-- the plan may ask for this name
abbrev pub IsNamed : Plan → List ℕ → Type 0
IsNamed (End due) name = ⊥
IsNamed (Read asked limit next) name = (asked ≡ name) ⊎ ((found : Found) × IsNamed (next found) name)
IsNamed (Judge next) name = IsNamed next name

-- ---- saving

abbrev pub IsUnder : Option Saving → List ℕ → Type 0
IsUnder None name = ⊥
IsUnder (Some saving) name = saving.name ≡ name

-- the plan may save under this name
abbrev pub SavesUnder : Plan → List ℕ → Type 0
SavesUnder (End due) name = IsUnder (saves_due due) name
SavesUnder (Read asked limit next) name = (found : Found) × SavesUnder (next found) name
SavesUnder (Judge next) name = SavesUnder next name

-- exactly these bytes, or a text that reads as the policy
abbrev pub IsContent : Content → List ℕ → Type 0
IsContent (Exactly bytes) text = text ≡ bytes
IsContent (PolicyOf rules) text = rules_of_text text ≡ Ok rules

-- the content was saved under its name, once, and stands there; no other name changed
pub record Saved (saving : Saving) (old new : FilesState) : Type 0 where
  -- the bytes that were saved
  pub bytes : List ℕ
  pub content : IsContent saving.content bytes
  pub held : IsTrue old.tells → new.held saving.name ≡ Some bytes
  pub others : (other : List ℕ) → other ≢ saving.name → new.held other ≡ old.held other
  pub leaves : new ≡ record (after_saving saving.name bytes old) { held = new.held }

-- the one save of the content failed: its name may hold anything
pub record SaveBroke (saving : Saving) (old new : FilesState) : Type 0 where
  -- the bytes that were to be saved
  pub bytes : List ℕ
  pub content : IsContent saving.content bytes
  pub faults : old.save_faults < new.save_faults
  pub others : (other : List ℕ) → other ≢ saving.name → new.held other ≡ old.held other
  pub leaves : new ≡ record (after_saving saving.name bytes old) { held = new.held; save_faults = new.save_faults }
