-- The stages of a plan that makes a policy.
use Rattle.std.proofs.Common.{◌≡◌, ℕ, List, [], ◌∷◌, ◌++◌, map, length, true, refl, sym, ap, subst, inr, Option, Ok, Err, ◌&&◌, Bool, IsTrue, ◌∙◌}
use Rattle.std.specs.Prelude.{not}
use Rattle.std.specs.List.{list_all}
use Rattle.std.proofs.lemmas.Bool.{and_parts}
use Rattle.sv_types.specs.Policies.{Rules, each_within, modules_count_within}
use Rattle.policy_making.specs.WordRanges.{is_among, is_new_name, all_new_names, are_module_names}
use Rattle.policy_making.specs.declared.object_file.ObjectFile.{ObjectFile}
use Rattle.policy_making.specs.declared.refusal.MakingFault.{MakingFault}
use Rattle.policy_making.specs.declared.refusal.MakingRefusal.{MakingRefusal}
use Rattle.policy_making.specs.declared.refusal.MakingRefusal.TheVariants as making
use Rattle.policy_making.specs.Refusals.{Judged, Refuses, as_answer}
use Rattle.policy_making.specs.Making.{ModuleFile, Terms, file_of, kernel_digest, names_with, policy_after}
use Rattle.host_io.specs.Outside.{FilesState}
use Rattle.cli_plans.specs.declared.refusal.Refusal.TheVariants.{File}
use Rattle.cli_plans.specs.declared.file_fault.Part.{Part}
use Rattle.secvisor_cli.specs.declared.ready.Ready.TheVariants.{Save}
use Rattle.secvisor_cli.specs.declared.ready.Made.{Made}
use Rattle.secvisor_cli.specs.declared.ready.Stop.{Stop}
use Rattle.secvisor_cli.specs.declared.ready.Stop.TheVariants.{Memory}
use Rattle.cli_plans.specs.CommandLine.{PolicyWords}
use Rattle.cli_plans.specs.Plans.{Due, Refuse, due_of_measure, measured_line, Plan, End, Judge, Held, max_image_bytes, max_object_bytes}
use Rattle.cli_plans.specs.Plans.{making_fault, made_judged, made_part, Kernel, digest_part, Modules, with_module, module_part}
use Rattle.cli_plans.specs.Plans.{modules_part, making_plan}
use Rattle.cli_plans.specs.Reading.{FoundAs, Follows, MayFollow}
use Rattle.secvisor_cli.specs.Ready.{PartRead, stop_of_making, IsMade, Prepares, Passes, MayStage}
use Rattle.secvisor_cli.proofs.ReadyLemmas.{end_ready, judge_ready, judge_wants, read_ready, stopped_ready}
use Rattle.secvisor_cli.proofs.StageLemmas.{read_follows, read_may, read_faults}
use Rattle.sv_types.specs.Names.{name_within}

-- ---- a part, and what is made of it

abbrev made_next : {A : Type 0} → (List ℕ → Judged A) → (List ℕ → A → Plan) → List ℕ → Plan
made_next judge next bytes = Judge (made_judged (next bytes) (judge bytes))

made_follows : {A : Type 0} (part : Part) (name : List ℕ) (limit : ℕ) (judge : List ℕ → Judged A) (next : List ℕ → A → Plan) (old now last : FilesState) (bytes : List ℕ) (value : A)
    (reached : Option Due) → FoundAs old now name limit (Held bytes) → judge bytes ≡ Ok value → Follows (next bytes value) now last reached →
    Follows (made_part part name limit judge next) old last reached
unfolding made_part
made_follows {A} part name limit judge next old now last bytes value reached fact is follows =
    read_follows part name limit (made_next judge next) old now last bytes reached fact
    (inr (subst (λ (j : Judged A). Follows (made_judged (next bytes) j) now last reached) (sym is) follows))

made_may : {A : Type 0} (part : Part) (name : List ℕ) (limit : ℕ) (judge : List ℕ → Judged A) (next : List ℕ → A → Plan) (old now : FilesState) (bytes : List ℕ) (value : A) →
    FoundAs old now name limit (Held bytes) → judge bytes ≡ Ok value → MayFollow (made_part part name limit judge next) old → MayFollow (next bytes value) now
unfolding made_part
made_may {A} part name limit judge next old now bytes value fact is may =
    subst (λ (j : Judged A). MayFollow (made_judged (next bytes) j) now) is (read_may part name limit (made_next judge next) old now bytes fact may)

-- a fault that is answered was judged
fault_judged : {A : Type 0} (judged : Judged A) (fault : MakingFault) → as_answer judged ≡ Err (making.Fault fault) → judged ≡ Err fault
fault_judged (Ok value) fault is = absurd (cc is)
fault_judged (Err found) fault is =
    let same : found ≡ fault = cc is in ap (λ (f : MakingFault). Err f) same

-- what is made of the bytes is refused
judged_stops : {A : Type 0} (next : A → Plan) (judged : Judged A) (refused : MakingRefusal) (files : FilesState) → Refuses judged refused →
    Prepares (Judge (made_judged next judged)) files files (Err (stop_of_making refused))
judged_stops {A} next judged (making.Fault fault) files why =
    judge_ready _ files files _ (subst (λ (j : Judged A). Prepares (made_judged next j) files files (Err (stop_of_making (making.Fault fault)))) (sym (fault_judged judged fault (why (λ e. cc e))))
    (end_ready (Refuse (File (making_fault fault))) files _ refl))
judged_stops next judged making.Memory files why = judge_wants _ files

made_stops : {A : Type 0} (part : Part) (name : List ℕ) (limit : ℕ) (judge : List ℕ → Judged A) (next : List ℕ → A → Plan) (old now : FilesState) (bytes : List ℕ) (refused : MakingRefusal) →
    FoundAs old now name limit (Held bytes) → Refuses (judge bytes) refused → Prepares (made_part part name limit judge next) old now (Err (stop_of_making refused))
unfolding made_part
made_stops part name limit judge next old now bytes refused fact why =
    read_ready part name limit (made_next judge next) old now now bytes _ fact (judged_stops (next bytes) (judge bytes) refused now why)

made_wants : {A : Type 0} (part : Part) (name : List ℕ) (limit : ℕ) (judge : List ℕ → Judged A) (next : List ℕ → A → Plan) (old now : FilesState) (bytes : List ℕ) →
    FoundAs old now name limit (Held bytes) → Prepares (made_part part name limit judge next) old now (Err Memory)
unfolding made_part
made_wants part name limit judge next old now bytes fact =
    read_ready part name limit (made_next judge next) old now now bytes _ fact (judge_wants _ now)

made_unread : {A : Type 0} (part : Part) (name : List ℕ) (limit : ℕ) (judge : List ℕ → Judged A) (next : List ℕ → A → Plan) (old now : FilesState) (stop : Stop) →
    PartRead part name limit old now (Err stop) → Prepares (made_part part name limit judge next) old now (Err stop)
unfolding made_part
made_unread part name limit judge next old now stop it = stopped_ready part name limit (made_next judge next) old now stop it

-- ---- the kernel

abbrev kernel_with : (file digest : List ℕ) → Kernel
kernel_with file digest = record { file = file; digest = digest }

pub kernel_asked : (name : List ℕ) (ram_pages : ℕ) (files : FilesState) → MayStage (digest_part name ram_pages) files → IsTrue (files.permits ((name, max_image_bytes) ∷ []))
unfolding digest_part made_part
kernel_asked name ram_pages files may = may.may.0

pub kernel_passes : (name : List ℕ) (ram_pages : ℕ) (file digest : List ℕ) (old now : FilesState) → FoundAs old now name max_image_bytes (Held file) → kernel_digest file ram_pages ≡ Ok digest →
    Passes (digest_part name ram_pages) (kernel_with file digest) old now
unfolding digest_part
kernel_passes name ram_pages file digest old now fact is = record {
  follows = λ next last reached.
      made_follows Part.Image name max_image_bytes (λ f. kernel_digest f ram_pages) (λ f d. next (kernel_with f d)) old now last file digest reached fact is;
  may = λ next. made_may Part.Image name max_image_bytes (λ f. kernel_digest f ram_pages) (λ f d. next (kernel_with f d)) old now file digest fact is;
  faults = read_faults name max_image_bytes old now file fact;
}

pub kernel_stops : (name : List ℕ) (ram_pages : ℕ) (file : List ℕ) (old now : FilesState) (refused : MakingRefusal) → FoundAs old now name max_image_bytes (Held file) →
    Refuses (kernel_digest file ram_pages) refused → (next : Kernel → Plan) → Prepares (digest_part name ram_pages next) old now (Err (stop_of_making refused))
unfolding digest_part
kernel_stops name ram_pages file old now refused fact why = λ next.
    made_stops Part.Image name max_image_bytes (λ f. kernel_digest f ram_pages) (λ f d. next (kernel_with f d)) old now file refused fact why

pub kernel_unread : (name : List ℕ) (ram_pages : ℕ) (old now : FilesState) (stop : Stop) → PartRead Part.Image name max_image_bytes old now (Err stop) →
    (next : Kernel → Plan) → Prepares (digest_part name ram_pages next) old now (Err stop)
unfolding digest_part
kernel_unread name ram_pages old now stop it = λ next.
    made_unread Part.Image name max_image_bytes (λ f. kernel_digest f ram_pages) (λ f d. next (kernel_with f d)) old now stop it

-- ---- a module

pub module_asked : (name : List ℕ) (before : Modules) (files : FilesState) → MayStage (module_part name before) files → IsTrue (files.permits ((name, max_object_bytes) ∷ []))
unfolding module_part made_part
module_asked name before files may = may.may.0

pub module_passes : (name : List ℕ) (before : Modules) (file : List ℕ) (names : List (List ℕ)) (old now : FilesState) → FoundAs old now name max_object_bytes (Held file) →
    names_with before.names file ≡ Ok names → Passes (module_part name before) (with_module before name file names) old now
unfolding module_part
module_passes name before file names old now fact is = record {
  follows = λ next last reached.
      made_follows Part.Module name max_object_bytes (names_with before.names) (λ f n. next (with_module before name f n)) old now last file names reached fact is;
  may = λ next. made_may Part.Module name max_object_bytes (names_with before.names) (λ f n. next (with_module before name f n)) old now file names fact is;
  faults = read_faults name max_object_bytes old now file fact;
}

pub module_stops : (name : List ℕ) (before : Modules) (file : List ℕ) (old now : FilesState) (refused : MakingRefusal) → FoundAs old now name max_object_bytes (Held file) →
    Refuses (names_with before.names file) refused → (next : Modules → Plan) → Prepares (module_part name before next) old now (Err (stop_of_making refused))
unfolding module_part
module_stops name before file old now refused fact why = λ next.
    made_stops Part.Module name max_object_bytes (names_with before.names) (λ f n. next (with_module before name f n)) old now file refused fact why

pub module_wants : (name : List ℕ) (before : Modules) (file : List ℕ) (old now : FilesState) → FoundAs old now name max_object_bytes (Held file) →
    (next : Modules → Plan) → Prepares (module_part name before next) old now (Err Memory)
unfolding module_part
module_wants name before file old now fact = λ next.
    made_wants Part.Module name max_object_bytes (names_with before.names) (λ f n. next (with_module before name f n)) old now file fact

pub module_unread : (name : List ℕ) (before : Modules) (old now : FilesState) (stop : Stop) → PartRead Part.Module name max_object_bytes old now (Err stop) →
    (next : Modules → Plan) → Prepares (module_part name before next) old now (Err stop)
unfolding module_part
module_unread name before old now stop it = λ next.
    made_unread Part.Module name max_object_bytes (names_with before.names) (λ f n. next (with_module before name f n)) old now stop it

-- the module's object after those before it
pub files_with : (objects : List ObjectFile) (o : ObjectFile) → map file_of (objects ++ o ∷ []) ≡ map file_of objects ++ file_of o ∷ []
files_with [] o = refl
files_with (x ∷ xs) o = ap (λ (fs : List ModuleFile). file_of x ∷ fs) (files_with xs o)

-- ---- the modules

-- from one stage the plan goes on at another, whatever stands after both
pub record GoesOn {A : Type 0} (from to : (A → Plan) → Plan) (old now : FilesState) : Type 0 where
  pub follows : (next : A → Plan) (last : FilesState) (reached : Option Due) → Follows (to next) now last reached → Follows (from next) old last reached
  pub may : (next : A → Plan) → MayFollow (from next) old → MayFollow (to next) now
  pub faults : now.read_faults ≡ old.read_faults

pub module_more : (from : (Modules → Plan) → Plan) (name : List ℕ) (names : List (List ℕ)) (before after : Modules) (old now new : FilesState) →
    GoesOn from (modules_part (name ∷ names) before) old now → Passes (module_part name before) after now new → GoesOn from (modules_part names after) old new
module_more from name names before after old now new on pass = record {
  follows = λ next last reached f. on.follows next last reached (pass.follows (λ m. modules_part names m next) last reached f);
  may = λ next m. pass.may (λ m. modules_part names m next) (on.may next m);
  faults = pass.faults ∙ on.faults;
}

pub module_ends : (from : (Modules → Plan) → Plan) (name : List ℕ) (names : List (List ℕ)) (before : Modules) (old now new : FilesState) (stop : Stop) →
    GoesOn from (modules_part (name ∷ names) before) old now → ((next : Modules → Plan) → Prepares (module_part name before next) now new (Err stop)) →
    (next : Modules → Plan) → Prepares (from next) old new (Err stop)
module_ends from name names before old now new stop on it = λ next.
    let p = it (λ m. modules_part names m next) in
    record { reached = p.reached; follows = on.follows next new p.reached p.follows; ready = p.ready }

-- ---- the policy

pub making_stops : (words : PolicyWords) (kernel : Kernel) (modules : Modules) (files : FilesState) (refused : MakingRefusal) →
    Refuses (policy_after words.terms kernel.file kernel.digest modules.names modules.objects) refused → Prepares (making_plan words kernel modules) files files (Err (stop_of_making refused))
unfolding making_plan
making_stops words kernel modules files refused why =
    judged_stops (λ rules. End (due_of_measure words.out rules)) (policy_after words.terms kernel.file kernel.digest modules.names modules.objects) refused files why

pub making_wants : (words : PolicyWords) (kernel : Kernel) (modules : Modules) (files : FilesState) → Prepares (making_plan words kernel modules) files files (Err Memory)
unfolding making_plan
making_wants words kernel modules files = judge_wants _ files

pub making_ready : (words : PolicyWords) (kernel : Kernel) (modules : Modules) (files : FilesState) (rules : Rules) (made : Made) →
    policy_after words.terms kernel.file kernel.digest modules.names modules.objects ≡ Ok rules → IsMade words.out rules (measured_line rules.kernel) made →
    Prepares (making_plan words kernel modules) files files (Ok (Save made))
unfolding making_plan
making_ready words kernel modules files rules made is it =
    judge_ready _ files files _
    (subst (λ (j : Judged Rules). Prepares (made_judged (λ r. End (due_of_measure words.out r)) j) files files (Ok (Save made))) (sym is) (end_ready (due_of_measure words.out rules) files _ it))

-- the same files under the words' terms
pub after_same : (terms wanted : Terms) (file kernel digest : List ℕ) (names given : List (List ℕ)) (objects held : List ObjectFile) → terms ≡ wanted → file ≡ kernel → names ≡ given → objects ≡ held →
    policy_after terms file digest names (map file_of objects) ≡ policy_after wanted kernel digest given (map file_of held)
after_same terms wanted file kernel digest names given objects held t f n o =
    ap (λ (s : Terms). policy_after s file digest names (map file_of objects)) t
    ∙ ap (λ (k : List ℕ). policy_after wanted k digest names (map file_of objects)) f
    ∙ ap (λ (ns : List (List ℕ)). policy_after wanted kernel digest ns (map file_of objects)) n
    ∙ ap (λ (os : List ObjectFile). policy_after wanted kernel digest given (map file_of os)) o

-- ---- the words

each_named : {A : Type 0} (bytes : A → List ℕ) (before : List (List ℕ)) (words : List A) → each_within is_new_name before (map bytes words) ≡ true → list_all (λ w. name_within (bytes w)) words ≡ true
each_named bytes before [] new = refl
each_named bytes before (w ∷ ws) new =
    let parts = and_parts (is_new_name before (bytes w)) (each_within is_new_name (before ++ bytes w ∷ []) (map bytes ws)) new in
    let name = (and_parts (name_within (bytes w)) (not (is_among before (bytes w))) parts.0).0 in
    ap (λ (b : Bool). b && list_all (λ v. name_within (bytes v)) ws) name ∙ each_named bytes (before ++ bytes w ∷ []) ws parts.1

-- names of modules are names
pub modules_named : {A : Type 0} (bytes : A → List ℕ) (words : List A) → IsTrue (are_module_names (map bytes words)) → IsTrue (list_all (λ w. name_within (bytes w)) words)
modules_named bytes words good =
    each_named bytes [] words (and_parts (modules_count_within (length (map bytes words))) (all_new_names (map bytes words)) good).1
