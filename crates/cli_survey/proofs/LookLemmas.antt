-- What is looked at in a machine is what the state says that it stands for; and the loads that the events of a row refuse.
use Rattle.std.proofs.Common.{◌≡◌, ℕ, zero, suc, ◌+◌, ◌*◌, ◌<◌, ◌≤◌, ◌⊎◌, inl, inr, List, [], ◌∷◌, ◌++◌, length, replicate, refl, sym, ◌∙◌, ap, subst, append-nil, append_assoc, arith}
use Rattle.std.proofs.Common.{Bool, true, false, ◌&&◌, not, OnOk}
use Rattle.std.specs.Prelude.{Option, Some, None, Result, Ok, Err, option_map, slice_get, slice_index_or, is_some, ◌==◌, if◌then◌else◌}
use Rattle.std.proofs.lemmas.Bool.{eqb-true}
use Rattle.spec_processor.specs.Bytes.{page_size, ram_base, ram_offset}
use Rattle.sv_types.proofs.TruthValues.{and_second}
use Rattle.sv_types.specs.Clock.{Clock}
use Rattle.sv_types.specs.declared.module.Bases.{Bases}
use Rattle.sv_types.specs.declared.module.Site.{Site}
use Rattle.sv_types.specs.declared.policy.Export.{Export}
use Rattle.sv_types.specs.declared.saved.ModulePlacement.{ModulePlacement}
use Rattle.sv_types.specs.Policies.{ModuleRule, Rules, field_end}
use Rattle.sv_types.specs.declared.event.Event.{Event}
use Rattle.sv_types.specs.declared.event.Event.TheVariants.{Turn}
use Rattle.sv_types.specs.declared.event.Verdict.{Verdict}
use Rattle.sv_types.specs.declared.event.Verdict.TheVariants.{Running}
use Rattle.spec_reference.specs.Run.{HasEnded, run, step}
use Rattle.spec_reference.specs.Loads.{is_as_measured, is_good_load, module_bases, module_text}
use Rattle.spec_reference.specs.Relocations.{field_right, fields_right}
use Rattle.spec_reference.specs.SavedStates.{saved_hart, saved_load}
use Rattle.spec_reference.specs.Soundness.{IsSoundLoad}
use Rattle.spec_reference.specs.declared.saved_machine.harts.SavedHart.{SavedHart}
use Rattle.spec_reference.specs.States.{State, Hart, Loading}
use Rattle.spec_reference.specs.declared.saved_machine.whole.SavedLoad.{SavedLoad}
use Rattle.spec_reference.proofs.Runs.{ended_stays}
use Rattle.spec_hardware.specs.Machine.{Machine}
use Rattle.spec_hardware.specs.StandsFor.{StandsFor}
use Rattle.laws_simulation.specs.Passing.{passed_over, survey_step, survey}
use Rattle.laws_simulation.proofs.SitesInPages.{AllLieIn}
use Rattle.laws_simulation.specs.SurveyLaws.{IsNoWrite}
use Rattle.laws_simulation.proofs.SurveysHold.{same_run_law, unpassed}
use Rattle.machine.specs.Repeats.{Rows}
use Rattle.machine.proofs.Loadings.{IsCounted, none_seen, rules_seen, text_inside, text_lies}
use Rattle.page_measure.specs.Wrong.{first_wrong, wrong_field}
use Rattle.page_measure.specs.declared.fields.wrong.WrongField.{WrongField}
use Rattle.sv_types.specs.declared.event.Counts.{Counts}
use Rattle.machine.proofs.Repeated.{counts_are as machine_counts, one_more, repeats_stand, rows_repeat}
use Rattle.machine.proofs.Standing.{verdict_is}
use Rattle.report.specs.Findings.{RefusedLoads, no_loads, with_load}
use Rattle.report.specs.declared.findings.loads.RefusedLoad.{RefusedLoad}
use Rattle.cli_survey.specs.Looking.{IsUnderWay, is_due_to}
use Rattle.cli_survey.specs.Refusals.{loads_in, refusal, refusal_in, refusal_in_turn, refusal_of, refusals, refusals_under, refused, with_loads, wrong_in}

-- ---- events after others

pub survey_on : (r : State) (front back : List Event) → survey r (front ++ back) ≡ survey (survey r front) back
survey_on r [] back = refl
survey_on r (e ∷ front) back = survey_on (survey_step r e) front back

refused_on : (r : State) (front back : List Event) → refused r (front ++ back) ≡ refused r front ++ refused (survey r front) back
refused_on r [] back = refl
refused_on r (e ∷ front) back =
    ap (λ (rest : List RefusedLoad). refusals r e ++ rest) (refused_on (survey_step r e) front back)
    ∙ sym (append_assoc (refusals r e) (refused (survey_step r e) front) (refused (survey r (e ∷ front)) back))

added_on : (l : RefusedLoads) (xs ys : List RefusedLoad) → with_loads l (xs ++ ys) ≡ with_loads (with_loads l xs) ys
added_on l [] ys = refl
added_on l (x ∷ xs) ys = added_on (with_load l x) xs ys

pub loads_on : (r : State) (front back : List Event) → loads_in r (front ++ back) ≡ with_loads (loads_in r front) (refused (survey r front) back)
loads_on r front back =
    ap (λ (xs : List RefusedLoad). with_loads no_loads xs) (refused_on r front back) ∙ added_on no_loads (refused r front) (refused (survey r front) back)

-- ---- where no load is under way none is refused

pub none_of : (r : State) (h : ℕ) (x : Option Hart) → r.loading ≡ None → refusal_in_turn r h x ≡ []
unfolding refusal_in_turn refusal_of
none_of r h None none = refl
none_of r h (Some hart) none = ap (λ (x : Option Loading). refusal_of r h hart x) none

none_in : (r : State) (e : Event) → r.loading ≡ None → refusal_in r e ≡ []
unfolding refusal_in
none_in r (Turn h) none = none_of r h (slice_get r.harts h) none
none_in r _ none = refl

none_under : (v : Verdict) (r : State) (e : Event) → r.loading ≡ None → refusals_under v r e ≡ []
unfolding refusals_under
none_under Running r e none = none_in r e none
none_under _ r e none = refl

pub none_refused : (r : State) (e : Event) → r.loading ≡ None → refusals r e ≡ []
none_refused r e none = none_under r.journal.verdict r e none

-- and none by a machine that has ended
ended_under : (v : Verdict) (r : State) (e : Event) → HasEnded v → refusals_under v r e ≡ []
unfolding refusals_under
ended_under Running r e ended = absurd ended
ended_under _ r e ended = refl

pub none_after : (r : State) (left : List Event) → HasEnded r.journal.verdict → IsNoWrite r.journal.verdict → refused r left ≡ []
none_after r [] ended none = refl
none_after r (e ∷ left) ended none =
    let same : step r e ≡ r = ended_stays r (e ∷ []) ended in
    ap (λ (x : State). refusals r e ++ refused (passed_over x) left) same
    ∙ ap (λ (xs : List RefusedLoad). xs ++ refused (passed_over r) left) (ended_under r.journal.verdict r e ended)
    ∙ ap (λ (x : State). refused x left) (unpassed r none)
    ∙ none_after r left ended none

-- ---- the events of a row

none_running : (v : Verdict) → v ≡ Running → IsNoWrite v
none_running v is = subst IsNoWrite (sym is) tt

unloaded_row : (n : ℕ) (m next : Machine) (e : Event) (r : State) → StandsFor m r → m.journal.verdict ≡ Running → m.loading ≡ None → Rows n m e next
    → refused r (replicate n e) ≡ []
unloaded_row zero m next e r s running none same = refl
unloaded_row (suc k) m next e r s running none (before, (those, (on, makes))) =
    let mid : State = run r (replicate k e) in
    let here : StandsFor before mid = repeats_stand k m before e (rows_repeat k m before e those) r s in
    let calm : IsNoWrite mid.journal.verdict = none_running mid.journal.verdict (sym (verdict_is before mid here) ∙ on.on.running running) in
    let reached : survey r (replicate k e) ≡ mid = same_run_law r (replicate k e) calm in
    let last : refusals mid e ≡ [] = none_refused mid e (none_seen before mid here (on.loading none)) in
    ap (λ (events : List Event). refused r events) (sym (one_more k e))
    ∙ refused_on r (replicate k e) (e ∷ [])
    ∙ ap (λ (xs : List RefusedLoad). xs ++ refused (survey r (replicate k e)) (e ∷ [])) (unloaded_row k m before e r s running none those)
    ∙ ap (λ (x : State). refused x (e ∷ [])) reached
    ∙ append-nil (refusals mid e) ∙ last

-- what the events of a row refuse is what its first one does
pub row_refuses : (n most : ℕ) (m next : Machine) (e : Event) (r : State) → StandsFor m r → m.journal.verdict ≡ Running → 0 < n → n ≤ most → (most ≡ 1) ⊎ (m.loading ≡ None)
    → Rows n m e next → refused r (replicate n e) ≡ refusals r e
row_refuses n most m next e r s running some within (inl one) rows =
    let once : n ≡ 1 = omega (arith, some, within, one) in
    ap (λ (k : ℕ). refused r (replicate k e)) once ∙ append-nil (refusals r e)
row_refuses n most m next e r s running some within (inr none) rows =
    unloaded_row n m next e r s running none rows ∙ sym (none_refused r e (none_seen m r s none))

pub one_refuses : (n : ℕ) (e : Event) (r : State) → n ≡ 1 → refused r (replicate n e) ≡ refusals r e
one_refuses n e r once = ap (λ (k : ℕ). refused r (replicate k e)) once ∙ append-nil (refusals r e)

-- ---- the load under way

some_saved : (load : SavedLoad) (x : Option Loading) → Some load ≡ option_map saved_load x → (l : Loading) × ((x ≡ Some l) × (saved_load l ≡ load))
some_saved load None is = absurd (cc)
some_saved load (Some l) is = (l, (refl, cc))

pub under_way : (m : Machine) (load : SavedLoad) (r : State) → IsUnderWay m load → StandsFor m r → (l : Loading) × ((r.loading ≡ Some l) × (saved_load l ≡ load))
under_way m load r under stands = some_saved load r.loading (under.under r stands)

-- with the policy's rule
pub record IsKnown (m : Machine) (load : SavedLoad) (rule : ModuleRule) (r : State) : Type 0 where
  pub about : Loading
  pub counted : IsCounted r about rule
  pub same : saved_load about ≡ load
  pub known : slice_get r.rules.modules load.«module».id ≡ Some rule

pub known_at : (m : Machine) (load : SavedLoad) (rule : ModuleRule) (r : State) → IsUnderWay m load → StandsFor m r → slice_get m.rules.modules load.«module».id ≡ Some rule
    → IsKnown m load rule r
known_at m load rule r under stands known =
    let it = under_way m load r under stands in
    let there : slice_get r.rules.modules load.«module».id ≡ Some rule =
    ap (λ (rules : Rules). slice_get rules.modules load.«module».id) (sym (rules_seen m r stands)) ∙ known in
    record {
      about = it.0;
      counted = record {
        sound = stands.sound;
        under_way = it.1.0;
        known = ap (λ (s : SavedLoad). slice_get r.rules.modules s.«module».id) it.1.1 ∙ there;
      };
      same = it.1.1;
      known = there;
    }

pub text_base : (m : Machine) (load : SavedLoad) (rule : ModuleRule) (r : State) → IsKnown m load rule r → ram_base ≤ load.«module».gpa
text_base m load rule r k =
    subst (λ (s : SavedLoad). ram_base ≤ s.«module».gpa) k.same (subst (IsSoundLoad r.rules r.approved r.loaded r.held) k.counted.under_way k.counted.sound.load).base

pub text_in_ram : (m : Machine) (load : SavedLoad) (rule : ModuleRule) (r : State) → IsKnown m load rule r
    → ram_offset load.«module».gpa + page_size * rule.pages ≤ length r.ram
text_in_ram m load rule r k =
    subst (λ (s : SavedLoad). ram_offset s.«module».gpa + page_size * rule.pages ≤ length r.ram) k.same (text_inside r k.about rule k.counted)

lies_at : (bytes : ℕ) (sites : List Site) (i : ℕ) (d : Site) → AllLieIn bytes sites → i < length sites → field_end (slice_index_or sites i d) ≤ bytes
lies_at bytes [] i d lies below = absurd (omega arith)
lies_at bytes (site ∷ sites) zero d lies below = lies.0.inside
lies_at bytes (site ∷ sites) (suc i) d lies below = lies_at bytes sites i d lies.1 (omega arith)

pub sites_lie : (m : Machine) (load : SavedLoad) (rule : ModuleRule) (r : State) → IsKnown m load rule r → (i : ℕ) (d : Site) → i < length rule.sites
    → field_end (slice_index_or rule.sites i d) ≤ page_size * rule.pages
sites_lie m load rule r k i d below = lies_at (page_size * rule.pages) rule.sites i d (text_lies r k.about rule k.counted) below

-- ---- fields

wrong_by : (right rest : Bool) (x : Option WrongField) (f : WrongField) → rest ≡ not (is_some x) → (right && rest) ≡ not (is_some (if right then x else Some f))
wrong_by true rest x f same = same
wrong_by false rest x f same = refl

-- all fields are right exactly where none is wrong
right_where : (exports : List Export) (bases : Bases) (text : List ℕ) (sites : List Site) → fields_right exports bases sites text ≡ not (is_some (first_wrong exports bases text sites))
unfolding fields_right first_wrong
right_where exports bases text [] = refl
right_where exports bases text (site ∷ sites) =
    wrong_by (field_right exports bases text site) (fields_right exports bases sites text) (first_wrong exports bases text sites) (wrong_field exports bases text site)
    (right_where exports bases text sites)

-- ---- a load that is decided

abbrev pub told : State → ℕ → ModulePlacement → Option WrongField → RefusedLoad
told r h m wrong = record { id = m.id; wrong = wrong; hart = h; turn = r.journal.counts.turns + 1 }

counts_are : (m : Machine) (r : State) → StandsFor m r → m.journal.counts.turns ≡ r.journal.counts.turns
counts_are m r stands = ap (λ (c : Counts). c.turns) (machine_counts m r stands)

-- what is told by the machine is what the state tells
pub told_now : (m : Machine) (r : State) (h : ℕ) (p : ModulePlacement) (wrong : Option WrongField) → StandsFor m r
    → (let l : RefusedLoad = record { id = p.id; wrong = wrong; hart = h; turn = m.journal.counts.turns + 1 } in l) ≡ told r h p wrong
told_now m r h p wrong stands =
    ap (λ (n : ℕ). let l : RefusedLoad = record { id = p.id; wrong = wrong; hart = h; turn = n + 1 } in l) (counts_are m r stands)

-- the first wrong field of what was read
pub wrong_there : {exports others given : List Export} {bases asked : Bases} {sites listed_sites : List Site} {text seen : List ℕ} {x : Option WrongField} →
    exports ≡ others → bases ≡ asked → sites ≡ listed_sites → text ≡ seen → others ≡ given → x ≡ first_wrong exports bases text sites →
    x ≡ first_wrong given asked seen listed_sites
wrong_there e b s t g is = is ∙ rw (e, b, s, t, g) refl

pub refused_unknown : (r : State) (h : ℕ) (m : ModulePlacement) → slice_get r.rules.modules m.id ≡ None → told r h m None ∷ [] ≡ refusal r h m
unfolding refusal is_good_load wrong_in
refused_unknown r h m none = rw none refl

pub refused_unmeasured : (r : State) (h : ℕ) (m : ModulePlacement) (rule : ModuleRule) → slice_get r.rules.modules m.id ≡ Some rule
    → is_as_measured rule (module_text r.ram m rule.pages) ≡ false → told r h m None ∷ [] ≡ refusal r h m
unfolding refusal is_good_load wrong_in
refused_unmeasured r h m rule known other = rw (known, other) refl

pub refused_wrong : (r : State) (h : ℕ) (m : ModulePlacement) (rule : ModuleRule) (f : WrongField) → slice_get r.rules.modules m.id ≡ Some rule
    → is_as_measured rule (module_text r.ram m rule.pages) ≡ true
    → first_wrong r.rules.exports (module_bases m) (module_text r.ram m rule.pages) rule.sites ≡ Some f → told r h m (Some f) ∷ [] ≡ refusal r h m
unfolding refusal is_good_load wrong_in
refused_wrong r h m rule f known measured wrong =
    let right : fields_right r.rules.exports (module_bases m) rule.sites (module_text r.ram m rule.pages) ≡ false =
    right_where r.rules.exports (module_bases m) (module_text r.ram m rule.pages) rule.sites ∙ ap (λ (x : Option WrongField). not (is_some x)) wrong in
    rw (known, measured, right, wrong) refl

pub refused_none : (r : State) (h : ℕ) (m : ModulePlacement) (rule : ModuleRule) → slice_get r.rules.modules m.id ≡ Some rule
    → is_as_measured rule (module_text r.ram m rule.pages) ≡ true
    → first_wrong r.rules.exports (module_bases m) (module_text r.ram m rule.pages) rule.sites ≡ None → [] ≡ refusal r h m
unfolding refusal is_good_load
refused_none r h m rule known measured none =
    let right : fields_right r.rules.exports (module_bases m) rule.sites (module_text r.ram m rule.pages) ≡ true =
    right_where r.rules.exports (module_bases m) (module_text r.ram m rule.pages) rule.sites ∙ ap (λ (x : Option WrongField). not (is_some x)) none in
    rw (known, measured, right) refl

-- ---- whose turn decides

pub due_some : (clock : Clock) (h : ℕ) (x : Option Hart) (saved : SavedHart) (load : SavedLoad) → Some saved ≡ option_map (saved_hart clock h) x
    → (saved.started && load.hart == h && load.left == 0) ≡ is_due_to h x load
unfolding is_due_to
due_some clock h None saved load is = absurd (cc)
due_some clock h (Some hart) saved load is =
    let same : saved ≡ saved_hart clock h hart = cc in ap (λ (s : SavedHart). s.started && load.hart == h && load.left == 0) same

pub due_none : (clock : Clock) (h : ℕ) (x : Option Hart) (load : SavedLoad) → None ≡ option_map (saved_hart clock h) x → false ≡ is_due_to h x load
unfolding is_due_to
due_none clock h None load is = refl
due_none clock h (Some hart) load is = absurd (cc)

pub due_left : (h : ℕ) (x : Option Hart) (load : SavedLoad) → is_due_to h x load ≡ true → load.left ≡ 0
unfolding is_due_to
due_left h None load due = absurd (cc)
due_left h (Some hart) load due = eqb-true load.left 0 (and_second (hart.started && load.hart == h) (load.left == 0) due)

pub turn_by : (r : State) (h : ℕ) (load : SavedLoad) (x : Option Hart) → Some load ≡ option_map saved_load r.loading
    → refusal_in_turn r h x ≡ (if is_due_to h x load then refusal r h load.«module» else [])
unfolding refusal_in_turn refusal_of is_due_to
turn_by r h load None is = refl
turn_by r h load (Some hart) is =
    let it = some_saved load r.loading is in
    ap (λ (y : Option Loading). refusal_of r h hart y) it.1.0
    ∙ ap (λ (s : SavedLoad). if hart.started && s.hart == h && s.left == 0 then refusal r h s.«module» else []) it.1.1

none_saved : (x : Option Loading) → None ≡ option_map saved_load x → x ≡ None
none_saved None is = refl
none_saved (Some l) is = absurd (cc)

pub no_load : (r : State) (h : ℕ) (x : Option Hart) → None ≡ option_map saved_load r.loading → [] ≡ refusal_in_turn r h x
no_load r h x is = sym (none_of r h x (none_saved r.loading is))

-- ---- what is kept

pub running_refuses : (r : State) (e : Event) → r.journal.verdict ≡ Running → refusals r e ≡ refusal_in r e
unfolding refusals_under
running_refuses r e running = ap (λ (v : Verdict). refusals_under v r e) running

pub on_ok : {A E P Q : Type 0} (result : Result A E) → OnOk result P → (P → Q) → OnOk result Q
on_ok (Ok x) p f = f p
on_ok (Err e) p f = tt

pub on_any : {A E P : Type 0} (result : Result A E) → P → OnOk result P
on_any (Ok x) p = p
on_any (Err e) p = tt
