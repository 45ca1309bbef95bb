-- The turns of a load under way: the next page is counted, or the decision is made, as the reference machine's text says.
use Rattle.std.proofs.Common.{◌≡◌, ℕ, zero, suc, ◌+◌, ◌-◌, ◌*◌, ◌/◌, ◌%◌, ◌<◌, ◌≤◌, List, [], ◌∷◌, ◌++◌, length, refl, sym, ◌∙◌, ap, subst, Bool, true, ◌&&◌, arith, slice_get}
use Rattle.std.specs.Prelude.{Option, Some, None, IsTrue, option_map, if◌then◌else◌, ◌==◌, filter}
use Rattle.spec_processor.specs.Bytes.{page_size, page_of, page_bytes, part, ram_offset}
use Rattle.spec_processor.specs.HypervisorRegisters.{HypervisorRegisters}
use Rattle.sv_types.specs.Measure.{measure, page_digest, page_digests, joined_digests}
use Rattle.sv_types.specs.Policies.{Rules, ModuleRule, rules_within}
use Rattle.laws_processor.proofs.ByteLemmas.{part_of_part, length_part}
use Rattle.sv_types.specs.declared.saved.ModulePlacement.{ModulePlacement}
use Rattle.laws_simulation.specs.Agree.{IsAt}
use Rattle.spec_hardware.specs.Steps.{AreTables}
use Rattle.spec_reference.specs.Answers.{state_after_answer}
use Rattle.spec_reference.specs.declared.answers.Answer.{Answer}
use Rattle.spec_hardware.specs.HwExits.{hw_is_good, hw_decide, page_sites, page_counted, load_counted, hw_load_step, load_served, served_load_turn, with_tables}
use Rattle.spec_hardware.specs.HwCalls.{hw_given}
use Rattle.spec_reference.specs.Loads.{module_text, module_bases, is_as_measured, is_good_load, decide, load_step_of}
use Rattle.spec_hardware.specs.Machine.{Machine, HwLoad}
use Rattle.spec_reference.specs.ModuleCalls.{load_decision}
use Rattle.spec_reference.specs.States.{State, Hart, Loading, pages_in_rule}
use Rattle.spec_reference.specs.Relocations.{masked_text, fields_right}
use Rattle.spec_hardware.specs.StandsFor.{StandsFor, Unseen, IsRightFor, machine_of, load_kept, load_kept_by, kept_digests, kept_answer}
use Rattle.spec_reference.specs.Soundness.{IsSound, IsSoundLoad, HoldsModule}
use Rattle.spec_reference.specs.Turn.{turn, turn_of, turn_of_started}
use Rattle.laws_simulation.proofs.CallsMirrored.{given_mirrors}
use Rattle.laws_simulation.proofs.ExitsMirrored.{Answered, stands_after}
use Rattle.laws_simulation.proofs.HwOfSlots.{hw_harts_get}
use Rattle.laws_simulation.proofs.Mirrored.{Mirrors, no_hart, prints_none}
use Rattle.laws_simulation.proofs.AnswersMay.{decision_may}
use Rattle.laws_simulation.proofs.SitesInPages.{AllLieIn, rule_lies, digest_more, length_masked, page_masked, right_more, all_below, below}
use Rattle.laws_simulation.proofs.StepsSound.{turn_goes}

-- ---- the text of a load

text_inside : (r : State) (load : Loading) (rule : ModuleRule) → IsSound r → HoldsModule r.rules r.approved r.loaded r.held load → slice_get r.rules.modules load.about.id ≡ Some rule
    → ram_offset load.about.gpa + page_size * rule.pages ≤ length r.ram
text_inside r load rule s k known =
    let inside : ram_offset load.about.gpa + page_size * rule.pages ≤ page_size * r.rules.ram_pages =
    subst (λ (n : ℕ). ram_offset load.about.gpa + page_size * n ≤ page_size * r.rules.ram_pages) (ap pages_in_rule known) k.inside in
    rw s.size inside

text_size : (r : State) (load : Loading) (rule : ModuleRule) → IsSound r → HoldsModule r.rules r.approved r.loaded r.held load → slice_get r.rules.modules load.about.id ≡ Some rule
    → length (module_text r.ram load.about rule.pages) ≡ page_size * rule.pages
text_size r load rule s k known = length_part r.ram (ram_offset load.about.gpa) (page_size * rule.pages) (text_inside r load rule s k known)

text_lies : (r : State) (load : Loading) (rule : ModuleRule) → IsSound r → HoldsModule r.rules r.approved r.loaded r.held load → slice_get r.rules.modules load.about.id ≡ Some rule
    → AllLieIn (length (module_text r.ram load.about rule.pages)) rule.sites
text_lies r load rule s k known =
    subst (λ (n : ℕ). AllLieIn n rule.sites) (sym (text_size r load rule s k known)) (rule_lies r.rules load.about.id rule s.within known)

-- ---- the decision

measured_same : (text : List ℕ) (pages : ℕ) (rule : ModuleRule) → length (masked_text text rule.sites) ≡ page_size * pages → measure (masked_text text rule.sites) ≡
    joined_digests (page_digests pages (masked_text text rule.sites))
unfolding measure
measured_same text pages rule size =
    let n : length (masked_text text rule.sites) / page_size ≡ pages = omega arith in
    ap (λ (k : ℕ). joined_digests (page_digests k (masked_text text rule.sites))) n

all_counted : (pages : ℕ) (load : Loading) → load.left ≡ 0 → pages - load.left ≡ pages
all_counted pages load e = omega arith

good_is : (r : State) (load : Loading) (x : Option ModuleRule) → IsSound r → HoldsModule r.rules r.approved r.loaded r.held load → load.left ≡ 0 → slice_get r.rules.modules load.about.id ≡ x
    → hw_is_good (load_kept_by r.rules r.ram load x) x ≡ is_good_load r.rules r.ram load.about x
unfolding hw_is_good load_kept_by is_good_load is_as_measured kept_digests kept_answer
good_is r load None s k none known = refl
good_is r load (Some rule) s k none known =
    let text : List ℕ = module_text r.ram load.about rule.pages in
    let all = text_lies r load rule s k known in
    let size = length_masked text rule.sites all ∙ text_size r load rule s k known in
    rw (all_counted rule.pages load none, measured_same text rule.pages rule size, all_below rule.pages rule.sites (rule_lies r.rules load.about.id rule s.within known)) refl

pub about_is : (rules : Rules) (ram : List ℕ) (load : Loading) (x : Option ModuleRule) → (load_kept_by rules ram load x).about ≡ load.about
unfolding load_kept_by
about_is rules ram load None = refl
about_is rules ram load (Some rule) = refl

pub left_is : (rules : Rules) (ram : List ℕ) (load : Loading) (x : Option ModuleRule) → (load_kept_by rules ram load x).left ≡ load.left
unfolding load_kept_by
left_is rules ram load None = refl
left_is rules ram load (Some rule) = refl

rules_are : (o : Unseen) (r : State) → (machine_of o r).rules ≡ r.rules
unfolding machine_of
rules_are o r = refl

decision_mirrors : (o : Unseen) (r : State) (h : ℕ) (hart : Hart) (c : HypervisorRegisters) (load : Loading) → IsAt o r h hart c → HoldsModule r.rules r.approved r.loaded r.held load → load.left ≡ 0
    → Mirrors o r h (hw_decide (machine_of o r) h (load_kept r.rules r.ram load)) (decide r h hart load.about)
unfolding hw_decide decide
decision_mirrors o r h hart c load at k none =
    let kept : HwLoad = load_kept r.rules r.ram load in
    let good : Bool = is_good_load r.rules r.ram load.about (slice_get r.rules.modules load.about.id) in
    subst (λ (a : Answer). Mirrors o r h (hw_given (machine_of o r) h a) (state_after_answer r h hart (load_decision good load.about)))
    (sym (ap (λ (m : ModulePlacement). load_decision (hw_is_good kept (slice_get (machine_of o r).rules.modules m.id)) m) (about_is r.rules r.ram load (slice_get r.rules.modules load.about.id))
    ∙ ap (λ (b : Bool). load_decision b load.about) (ap (λ (rules : Rules). hw_is_good kept (slice_get rules.modules load.about.id)) (rules_are o r) ∙
    good_is r load (slice_get r.rules.modules load.about.id) at.sound k none refl)))
    (given_mirrors o r h hart c (load_decision good load.about) at (decision_may r load good k refl))

-- ---- a page turn

-- a page of the text is the page of RAM
page_there : (ram : List ℕ) (from n pages : ℕ) → from % page_size ≡ 0 → n < pages → page_bytes (part ram from (page_size * pages)) n ≡ page_bytes ram (from / page_size + n)
page_there ram from n pages aligned less =
    let place : from + page_size * n ≡ page_size * (from / page_size + n) = omega arith in
    part_of_part ram from (page_size * pages) (page_size * n) page_size (omega arith) ∙ ap (λ (at : ℕ). part ram at page_size) place

counted_left : (pages left : ℕ) → suc left ≤ pages → pages - left ≡ suc (pages - suc left)
counted_left pages left least = omega arith

page_room : (pages left : ℕ) → suc left ≤ pages → page_size * (pages - suc left) + page_size ≤ page_size * pages
page_room pages left least = omega arith

page_less : (pages left : ℕ) → suc left ≤ pages → pages - suc left < pages
page_less pages left least = omega arith

-- what is kept of a load, with one page more
pub kept_next : (rules : Rules) (ram : List ℕ) (load : Loading) (left : ℕ) (rule : ModuleRule) → IsTrue (rules_within rules) → slice_get rules.modules load.about.id ≡ Some rule
    → ram_offset load.about.gpa % page_size ≡ 0 → ram_offset load.about.gpa + page_size * rule.pages ≤ length ram → load.left ≡ suc left → load.left ≤ rule.pages
    → load_kept_by rules ram (record load { left = left }) (Some rule) ≡ load_counted rules ram (load_kept_by rules ram load (Some rule)) left (Some rule)
unfolding load_kept_by load_counted page_counted kept_digests kept_answer
kept_next rules ram load left rule within known aligned inside more few =
    let text : List ℕ = module_text ram load.about rule.pages in
    let n : ℕ = rule.pages - suc left in
    let least : suc left ≤ rule.pages = subst (λ (m : ℕ). m ≤ rule.pages) more few in
    let size : length text ≡ page_size * rule.pages = length_part ram (ram_offset load.about.gpa) (page_size * rule.pages) inside in
    let all : AllLieIn (length text) rule.sites = subst (λ (m : ℕ). AllLieIn m rule.sites) (sym size) (rule_lies rules load.about.id rule within known) in
    let room : page_size * n + page_size ≤ length text = rw size (page_room rule.pages left least) in
    let page : page_bytes text n ≡ page_bytes ram (page_of load.about.gpa + n) = page_there ram (ram_offset load.about.gpa) n rule.pages aligned (page_less rule.pages left least) in
    let old : rule.pages - load.left ≡ n = ap (λ (m : ℕ). rule.pages - m) more in
    let digests : page_digests (rule.pages - left) (masked_text text rule.sites) ≡
    page_digests (rule.pages - load.left) (masked_text text rule.sites) ++ page_digest (masked_text (page_bytes ram (page_of load.about.gpa + n)) (page_sites n rule.sites)) ∷ [] =
    ap (λ (m : ℕ). page_digests m (masked_text text rule.sites)) (counted_left rule.pages left least) ∙ digest_more n (masked_text text rule.sites)
    ∙ ap (λ (bytes : List ℕ). page_digests n (masked_text text rule.sites) ++ page_digest bytes ∷ []) (page_masked text n rule.sites room all ∙
    ap (λ (bytes : List ℕ). masked_text bytes (page_sites n rule.sites)) page)
    ∙ ap (λ (m : ℕ). page_digests m (masked_text text rule.sites) ++ page_digest (masked_text (page_bytes ram (page_of load.about.gpa + n)) (page_sites n rule.sites)) ∷ []) (sym old) in
    let right : fields_right rules.exports (module_bases load.about) (filter (below (rule.pages - left)) rule.sites) text
    ≡ (fields_right rules.exports (module_bases load.about) (filter (below (rule.pages - load.left)) rule.sites) text
    && fields_right rules.exports (module_bases load.about) (page_sites n rule.sites) (page_bytes ram (page_of load.about.gpa + n))) =
    ap (λ (m : ℕ). fields_right rules.exports (module_bases load.about) (filter (below m) rule.sites) text) (counted_left rule.pages left least)
    ∙ right_more rules.exports (module_bases load.about) text n rule.sites all
    ∙ ap (λ (bytes : List ℕ). fields_right rules.exports (module_bases load.about) (filter (below n) rule.sites) text &&
    fields_right rules.exports (module_bases load.about) (page_sites n rule.sites) bytes) page
    ∙ ap (λ (m : ℕ). fields_right rules.exports (module_bases load.about) (filter (below m) rule.sites) text &&
    fields_right rules.exports (module_bases load.about) (page_sites n rule.sites) (page_bytes ram (page_of load.about.gpa + n))) (sym old) in
    rw (digests, right) refl

counted_is : (r : State) (load : Loading) (left : ℕ) (rule : ModuleRule) → IsSound r → HoldsModule r.rules r.approved r.loaded r.held load → load.left ≡ suc left →
    slice_get r.rules.modules load.about.id ≡ Some rule
    → load_kept_by r.rules r.ram (record load { left = left }) (Some rule) ≡ load_counted r.rules r.ram (load_kept_by r.rules r.ram load (Some rule)) left (Some rule)
counted_is r load left rule s k more known =
    kept_next r.rules r.ram load left rule s.within known k.aligned (text_inside r load rule s k known) more (subst (λ (m : ℕ). load.left ≤ m) (ap pages_in_rule known) k.left)

no_rule : (r : State) (load : Loading) (left : ℕ) → load_kept_by r.rules r.ram (record load { left = left }) None ≡ load_counted r.rules r.ram (load_kept_by r.rules r.ram load None) left None
unfolding load_kept_by load_counted
no_rule r load left = refl

counted_by : (r : State) (load : Loading) (left : ℕ) (x : Option ModuleRule) → IsSound r → HoldsModule r.rules r.approved r.loaded r.held load → load.left ≡ suc left →
    slice_get r.rules.modules load.about.id ≡ x
    → load_kept_by r.rules r.ram (record load { left = left }) x ≡ load_counted r.rules r.ram (load_kept_by r.rules r.ram load x) left x
counted_by r load left None s k more known = no_rule r load left
counted_by r load left (Some rule) s k more known = counted_is r load left rule s k more known

page_mirrors : (o : Unseen) (r : State) (h : ℕ) (hart : Hart) (c : HypervisorRegisters) (load : Loading) (left : ℕ) → IsAt o r h hart c →
    HoldsModule r.rules r.approved r.loaded r.held load → load.left ≡ suc left
    → Mirrors o r h (record (machine_of o r) { loading = Some (load_counted r.rules r.ram (load_kept r.rules r.ram load) left (slice_get r.rules.modules (load_kept r.rules r.ram load).about.id)) })
    (record r { loading = Some (record load { left = left }) })
unfolding machine_of
page_mirrors o r h hart c load left at k more =
    no_hart o r h hart c (Some (record load { left = left })) _ r.journal at
    (ap Some (counted_by r load left (slice_get r.rules.modules load.about.id) at.sound k more refl
    ∙ ap (λ (m : ModulePlacement). load_counted r.rules r.ram (load_kept r.rules r.ram load) left (slice_get r.rules.modules m.id))
    (sym (about_is r.rules r.ram load (slice_get r.rules.modules load.about.id)))))
    (prints_none r.journal.printed)

-- ---- the next step

step_by : (o : Unseen) (r : State) (h : ℕ) (hart : Hart) (c : HypervisorRegisters) (load : Loading) (left : ℕ) → IsAt o r h hart c →
    HoldsModule r.rules r.approved r.loaded r.held load → load.left ≡ left
    → Mirrors o r h (hw_load_step (machine_of o r) h (load_kept r.rules r.ram load) left) (load_step_of r h hart load left)
unfolding machine_of hw_load_step load_step_of
step_by o r h hart c load zero at k e = decision_mirrors o r h hart c load at k e
step_by o r h hart c load (suc left) at k e = page_mirrors o r h hart c load left at k e

loading_is : (o : Unseen) (r : State) (load : Loading) → r.loading ≡ Some load → (machine_of o r).loading ≡ Some (load_kept r.rules r.ram load)
unfolding machine_of
loading_is o r load e = ap (option_map (load_kept r.rules r.ram)) e

pub load_turn_mirrors : (o : Unseen) (r : State) (h : ℕ) (hart : Hart) (c : HypervisorRegisters) (load : Loading) → IsAt o r h hart c → r.loading ≡ Some load
    → Mirrors o r h (served_load_turn (machine_of o r) h) (load_step_of r h hart load load.left)
unfolding served_load_turn load_served
load_turn_mirrors o r h hart c load at under =
    let k : HoldsModule r.rules r.approved r.loaded r.held load = subst (IsSoundLoad r.rules r.approved r.loaded r.held) under at.sound.load in
    subst (λ (x : Option HwLoad). Mirrors o r h (load_served (machine_of o r) h x) (load_step_of r h hart load load.left)) (sym (loading_is o r load under))
    (subst (λ (n : ℕ). Mirrors o r h (hw_load_step (machine_of o r) h (load_kept r.rules r.ram load) n) (load_step_of r h hart load load.left))
    (sym (left_is r.rules r.ram load (slice_get r.rules.modules load.about.id))) (step_by o r h hart c load load.left at k refl))

-- ---- the law

turn_is : (r : State) (h : ℕ) (hart : Hart) (load : Loading) → slice_get r.harts h ≡ Some hart → hart.started ≡ true → r.loading ≡ Some load → (load.hart == h) ≡ true
    → turn r h ≡ load_step_of r h hart load load.left
unfolding turn turn_of turn_of_started
turn_is r h hart load found started under its =
    ap (turn_of r h) found ∙ ap (λ (b : Bool). if b then turn_of_started r h hart r.loading else r) started ∙ ap (turn_of_started r h hart) under ∙ rw its refl

loads_at : (o : Unseen) (r : State) (h : ℕ) (hart : Hart) (load : Loading) (tables : List ℕ) → IsRightFor o r → IsSound r → slice_get r.harts h ≡ Some hart → hart.started ≡ true
    → r.loading ≡ Some load → (load.hart == h) ≡ true → AreTables (machine_of o r) (served_load_turn (machine_of o r) h) tables
    → Answered (machine_of o r) h (with_tables (served_load_turn (machine_of o r) h) tables) (turn r h)
loads_at o r h hart load tables p s found started under its t =
    let c = hw_harts_get (length o.tables) o.exits r.harts h hart p.exits found in
    let at : IsAt o r h hart c.0 = record { right = p; sound = s; found = found; exits = c.1.0; started = started } in
    stands_after o r h (served_load_turn (machine_of o r) h) (turn r h) tables p
    (subst (Mirrors o r h (served_load_turn (machine_of o r) h)) (sym (turn_is r h hart load found started under its)) (load_turn_mirrors o r h hart c.0 load at under))
    (turn_goes r h s).sound t

-- hart h is started, and a load of it is under way
pub record LoadsOn (m : Machine) (r : State) (h : ℕ) (hart : Hart) (load : Loading) : Type 0 where
  pub stands : StandsFor m r
  pub hart_is : slice_get r.harts h ≡ Some hart
  pub started : hart.started ≡ true
  pub under_way : r.loading ≡ Some load
  pub its : (load.hart == h) ≡ true

-- a turn of a load, its count raised already
pub load_turn : (m : Machine) (r : State) (h : ℕ) (hart : Hart) (load : Loading) (tables : List ℕ) → LoadsOn m r h hart load
    → AreTables m (served_load_turn m h) tables → Answered m h (with_tables (served_load_turn m h) tables) (turn r h)
load_turn m r h hart load tables on t =
    subst (λ (x : Machine). AreTables x (served_load_turn x h) tables → Answered x h (with_tables (served_load_turn x h) tables) (turn r h)) (sym on.stands.same)
    (loads_at on.stands.unseen r h hart load tables on.stands.unseen_is_right on.stands.sound on.hart_is on.started on.under_way on.its) t
