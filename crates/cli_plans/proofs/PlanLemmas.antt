-- Files that are asked as a plan says, whatever the plan.
use Rattle.std.proofs.Common.{◌≡◌, ◌≢◌, ℕ, ◌<◌, ◌≤◌, List, [], ◌∷◌, Bool, IsTrue, false, refl, sym, ◌∙◌, ap, subst, arith, inl, inr, ◌⊎◌, Option, Some, None}
use Rattle.std.proofs.Common.{Result, Ok, Err}
use Rattle.std.specs.Result.{is_ok}
use Rattle.std.proofs.lemmas.Option.{same_Some}
use Rattle.sv_types.specs.declared.status.Status.{Status}
use Rattle.host_io.specs.Outside.{FilesState, after_asking}
use Rattle.cli_plans.specs.declared.refusal.Refusal.{Refusal}
use Rattle.cli_plans.specs.Plans.{Due, Refuse, Content, Exactly, PolicyOf, Saving, asked_plan, saves_due, Plan, End, Read, Judge, Found, Faulty, Missing, Longer, Held, status_due}
use Rattle.cli_plans.specs.Reading.{CarriesOut, MayFollow, MayHold, MaySave, FoundAs, Follows, IsNamed, IsUnder, SavesUnder}

-- ---- one read

-- what a read leaves alone
pub record Keeps (old new : FilesState) : Type 0 where
  pub tells : new.tells ≡ old.tells
  pub held : new.held ≡ old.held
  pub reads : old.read_faults ≤ new.read_faults
  pub saves : new.save_faults ≡ old.save_faults

keeps_asked : (old new : FilesState) (name : List ℕ) (limit : ℕ) → new ≡ after_asking name limit old → Keeps old new
keeps_asked old new name limit is =
    let same : new.read_faults ≡ old.read_faults = ap (λ (f : FilesState). f.read_faults) is in
    record {
      tells = ap (λ (f : FilesState). f.tells) is;
      held = ap (λ (f : FilesState). f.held) is;
      reads = omega arith;
      saves = ap (λ (f : FilesState). f.save_faults) is;
    }

pub keeps_found : (old new : FilesState) (name : List ℕ) (limit : ℕ) (found : Found) → FoundAs old new name limit found → Keeps old new
keeps_found old new name limit Faulty it =
    let rose = it.0 in
    record {
      tells = ap (λ (f : FilesState). f.tells) it.1;
      held = ap (λ (f : FilesState). f.held) it.1;
      reads = omega arith;
      saves = ap (λ (f : FilesState). f.save_faults) it.1;
    }
keeps_found old new name limit Missing it = keeps_asked old new name limit it.2
keeps_found old new name limit Longer it = keeps_asked old new name limit it.1
keeps_found old new name limit (Held bytes) it = keeps_asked old new name limit it.2

keeps_both : (old mid new : FilesState) → Keeps old mid → Keeps mid new → Keeps old new
keeps_both old mid new a b =
    let first = a.reads in
    let second = b.reads in
    record {
      tells = b.tells ∙ a.tells;
      held = b.held ∙ a.held;
      reads = omega arith;
      saves = b.saves ∙ a.saves;
    }

pub keeps_same : (old new : FilesState) → new ≡ old → Keeps old new
keeps_same old new is =
    let same : new.read_faults ≡ old.read_faults = ap (λ (f : FilesState). f.read_faults) is in
    record {
      tells = ap (λ (f : FilesState). f.tells) is;
      held = ap (λ (f : FilesState). f.held) is;
      reads = omega arith;
      saves = ap (λ (f : FilesState). f.save_faults) is;
    }

-- ---- a whole plan

-- no name changes, nothing is saved, and the count of reads no falls
pub follows_keeps : (plan : Plan) (old new : FilesState) (reached : Option Due) → Follows plan old new reached → Keeps old new
follows_keeps (End due) old new reached it = keeps_same old new it.1
follows_keeps (Read name limit next) old new reached (inl wanting) = keeps_asked old new name limit wanting.1
follows_keeps (Read name limit next) old new reached (inr it) =
    keeps_both old it.1 new (keeps_found old it.1 name limit it.0 it.2) (follows_keeps (next it.0) it.1 new reached it.3)
follows_keeps (Judge next) old new reached (inl wanting) = keeps_same old new wanting.1
follows_keeps (Judge next) old new reached (inr it) = follows_keeps next old new reached it

found_permits : (old now : FilesState) (name : List ℕ) (limit : ℕ) (found : Found) → FoundAs old now name limit found → now.permits_save ≡ old.permits_save
found_permits old now name limit Faulty it = ap (λ (f : FilesState). f.permits_save) it.1
found_permits old now name limit Missing it = ap (λ (f : FilesState). f.permits_save) it.2
found_permits old now name limit Longer it = ap (λ (f : FilesState). f.permits_save) it.1
found_permits old now name limit (Held bytes) it = ap (λ (f : FilesState). f.permits_save) it.2

-- what may be saved stays
pub follows_permits : (plan : Plan) (old new : FilesState) (reached : Option Due) → Follows plan old new reached → new.permits_save ≡ old.permits_save
follows_permits (End due) old new reached follows = ap (λ (f : FilesState). f.permits_save) follows.1
follows_permits (Read name limit next) old new reached (inl it) = ap (λ (f : FilesState). f.permits_save) it.1
follows_permits (Read name limit next) old new reached (inr it) =
    follows_permits (next it.0) it.1 new reached it.3 ∙ found_permits old it.1 name limit it.0 it.2
follows_permits (Judge next) old new reached (inl it) = ap (λ (f : FilesState). f.permits_save) it.1
follows_permits (Judge next) old new reached (inr it) = follows_permits next old new reached it

-- the plan says read fault only where a read found no file
abbrev pub HasFoundFaults : Plan → Type 0
HasFoundFaults (End due) = status_due due ≢ Status.ReadFault
HasFoundFaults (Read name limit next) = HasFoundFaults (next Longer) × ((bytes : List ℕ) → HasFoundFaults (next (Held bytes)))
HasFoundFaults (Judge next) = HasFoundFaults next

-- a name of the plan isn't held, and the files tell it; or the count of reads rose
abbrev pub HasFault : Plan → FilesState → FilesState → Type 0
HasFault plan old new =
    (IsTrue old.tells × ((name : List ℕ) × IsNamed plan name × (old.held name ≡ None))) ⊎ (old.read_faults < new.read_faults)

fault_after : (name : List ℕ) (limit : ℕ) (next : Found → Plan) (old now new : FilesState) (found : Found) → Keeps old now → HasFault (next found) now new → HasFault (Read name limit next) old new
fault_after name limit next old now new found k (inl missing) =
    inl (subst (λ (b : Bool). IsTrue b) k.tells missing.0, (missing.1.0, inr (found, missing.1.1), ap (λ (f : List ℕ → Option (List ℕ)). f missing.1.0) (sym k.held) ∙ missing.1.2))
fault_after name limit next old now new found k (inr rose) = let before = k.reads in inr (omega arith)

fault_by : (name : List ℕ) (limit : ℕ) (next : Found → Plan) (old now new : FilesState) (due : Due) (found : Found) → FoundAs old now name limit found → HasFoundFaults (Read name limit next) →
    Keeps now new → (HasFoundFaults (next found) → HasFault (next found) now new) → HasFault (Read name limit next) old new
fault_by name limit next old now new due Faulty fact never k more = let rose = fact.0 in let after = k.reads in inr (omega arith)
fault_by name limit next old now new due Missing fact never k more = inl (fact.0, (name, inl refl, fact.1))
fault_by name limit next old now new due Longer fact never k more = fault_after name limit next old now new Longer (keeps_found old now name limit Longer fact) (more never.0)
fault_by name limit next old now new due (Held bytes) fact never k more =
    fault_after name limit next old now new (Held bytes) (keeps_found old now name limit (Held bytes) fact) (more (never.1 bytes))

pub read_fault : (plan : Plan) (old new : FilesState) (due : Due) → HasFoundFaults plan → Follows plan old new (Some due) → status_due due ≡ Status.ReadFault → HasFault plan old new
read_fault (End it) old new due never follows is = absurd (never (ap status_due (sym (same_Some due it follows.0)) ∙ is))
read_fault (Read name limit next) old new due never (inl wanting) is = absurd (cc wanting.0)
read_fault (Read name limit next) old new due never (inr it) is =
    fault_by name limit next old it.1 new due it.0 it.2 never (follows_keeps (next it.0) it.1 new (Some due) it.3) (λ h. read_fault (next it.0) it.1 new due h it.3 is)
read_fault (Judge next) old new due never (inl wanting) is = absurd (cc wanting.0)
read_fault (Judge next) old new due never (inr it) is = read_fault next old new due never it is

-- ---- what may be saved at the end

hold_at_count : (name : List ℕ) (content : Content) (files : FilesState) (n : ℕ) → MayHold name content files → MayHold name content (record files { read_faults = n })
hold_at_count name (Exactly bytes) files n may = may
hold_at_count name (PolicyOf rules) files n may = may

-- the count of reads says nothing of what may be asked for
save_at_count : (asked : Option Saving) (files : FilesState) (n : ℕ) → MaySave asked files → MaySave asked (record files { read_faults = n })
save_at_count None files n may = tt
save_at_count (Some saving) files n may = hold_at_count saving.name saving.content files n may

follow_at_count : (plan : Plan) (files : FilesState) (n : ℕ) → MayFollow plan files → MayFollow plan (record files { read_faults = n })
follow_at_count (End due) files n may = save_at_count (saves_due due) files n may
follow_at_count (Read name limit next) files n may = (may.0, λ found. follow_at_count (next found) (after_asking name limit files) n (may.1 found))
follow_at_count (Judge next) files n may = follow_at_count next files n may

follow_found : (plan : Plan) (old now : FilesState) (name : List ℕ) (limit : ℕ) (found : Found) → FoundAs old now name limit found → MayFollow plan (after_asking name limit old) → MayFollow plan now
follow_found plan old now name limit Faulty it may = subst (λ (f : FilesState). MayFollow plan f) (sym it.1) (follow_at_count plan (after_asking name limit old) now.read_faults may)
follow_found plan old now name limit Missing it may = subst (λ (f : FilesState). MayFollow plan f) (sym it.2) may
follow_found plan old now name limit Longer it may = subst (λ (f : FilesState). MayFollow plan f) (sym it.1) may
follow_found plan old now name limit (Held bytes) it may = subst (λ (f : FilesState). MayFollow plan f) (sym it.2) may

pub may_save : (plan : Plan) (old read : FilesState) (due : Due) → MayFollow plan old → Follows plan old read (Some due) → MaySave (saves_due due) read
may_save (End it) old read due may follows =
    subst (λ (d : Due). MaySave (saves_due d) read) (sym (same_Some due it follows.0))
    (subst (λ (f : FilesState). MaySave (saves_due it) f) (sym follows.1) may)
may_save (Read name limit next) old read due may (inl wanting) = absurd (cc wanting.0)
may_save (Read name limit next) old read due may (inr it) =
    may_save (next it.0) it.1 read due (follow_found (next it.0) old it.1 name limit it.0 it.2 (may.1 it.0)) it.3
may_save (Judge next) old read due may (inl wanting) = absurd (cc wanting.0)
may_save (Judge next) old read due may (inr it) = may_save next old read due may it

-- what is due at the end is saved under a name of the plan
pub saves_under : (plan : Plan) (old read : FilesState) (due : Due) (name : List ℕ) → Follows plan old read (Some due) → IsUnder (saves_due due) name → SavesUnder plan name
saves_under (End it) old read due name follows under = subst (λ (d : Due). IsUnder (saves_due d) name) (same_Some due it follows.0) under
saves_under (Read asked limit next) old read due name (inl wanting) under = absurd (cc wanting.0)
saves_under (Read asked limit next) old read due name (inr it) under = (it.0, saves_under (next it.0) it.1 read due name it.3 under)
saves_under (Judge next) old read due name (inl wanting) under = absurd (cc wanting.0)
saves_under (Judge next) old read due name (inr it) under = saves_under next old read due name it under

-- ---- files of which any name may be asked for

hold_any : (name : List ℕ) (content : Content) (files : FilesState) → ((saves : List (List ℕ × List ℕ)) → IsTrue (files.permits_save saves)) → MayHold name content files
hold_any name (Exactly bytes) files saves = saves ((name, bytes) ∷ [])
hold_any name (PolicyOf rules) files saves = λ text reads. saves ((name, text) ∷ [])

may_save_any : (asked : Option Saving) (files : FilesState) → ((saves : List (List ℕ × List ℕ)) → IsTrue (files.permits_save saves)) → MaySave asked files
may_save_any None files saves = tt
may_save_any (Some saving) files saves = hold_any saving.name saving.content files saves

pub may_follow : (plan : Plan) (files : FilesState) → ((asked : List (List ℕ × ℕ)) → IsTrue (files.permits asked)) →
    ((saves : List (List ℕ × List ℕ)) → IsTrue (files.permits_save saves)) → MayFollow plan files
may_follow (End due) files all saves = may_save_any (saves_due due) files saves
may_follow (Read name limit next) files all saves =
    (all ((name, limit) ∷ []), λ found. may_follow (next found) (after_asking name limit files) (λ asked. all ((name, limit) ∷ asked)) saves)
may_follow (Judge next) files all saves = may_follow next files all saves

-- ---- words, and then a plan

pub asked_refuses : {A : Type 0} (next : A → Plan) (asked : Result A Refusal) (refusal : Refusal) (files : FilesState) → asked ≡ Err refusal →
    Follows (asked_plan next asked) files files (Some (Refuse refusal))
asked_refuses next asked refusal files is = subst (λ (j : Result _ Refusal). Follows (asked_plan next j) files files (Some (Refuse refusal))) (sym is) (refl, refl)

pub asked_wants : {A : Type 0} (next : A → Plan) (asked : Result A Refusal) (files : FilesState) → IsTrue (is_ok asked) → Follows (asked_plan next asked) files files None
asked_wants next (Ok words) files good = inl (refl, refl)
asked_wants next (Err refusal) files good = absurd (cc good)

pub asked_goes : {A : Type 0} (next : A → Plan) (asked : Result A Refusal) (words : A) (old new : FilesState) (reached : Option Due) → asked ≡ Ok words →
    Follows (next words) old new reached → Follows (asked_plan next asked) old new reached
asked_goes next asked words old new reached is follows = subst (λ (j : Result _ Refusal). Follows (asked_plan next j) old new reached) (sym is) (inr follows)

pub asked_may : {A : Type 0} (next : A → Plan) (asked : Result A Refusal) (words : A) (files : FilesState) → asked ≡ Ok words → MayFollow (asked_plan next asked) files →
    MayFollow (next words) files
asked_may next asked words files is may = subst (λ (j : Result _ Refusal). MayFollow (asked_plan next j) files) is may

-- words that are refused read no file, where a refusal leaves the files as they are
pub asked_unread : {A : Type 0} (next : A → Plan) (asked : Result A Refusal) (old new : FilesState) (answered : FilesState → Option Due → Type 0) → is_ok asked ≡ false →
    ((refusal : Refusal) → answered old (Some (Refuse refusal)) → new ≡ old) → CarriesOut (asked_plan next asked) old answered → new ≡ old
asked_unread next (Err refusal) old new answered bad same p =
    same refusal (subst (λ (r : Option Due). answered old r) p.follows.0 (subst (λ (f : FilesState). answered f p.reached) p.follows.1 p.answers))
asked_unread next (Ok words) old new answered bad same p = absurd (cc bad)
