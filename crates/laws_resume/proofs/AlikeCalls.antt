-- Two states that are alike, after calls from kernel mode and after each step of a load.
use Rattle.std.proofs.Common.{◌≡◌, ℕ, zero, suc, List, ◌++◌, Bool, ap, subst, sym, refl, ◌∙◌, ◌%◌, slice_get}
use Rattle.std.specs.Prelude.{Option, Some, None, if◌then◌else◌}
use Rattle.spec_processor.specs.Bytes.{page_bytes}
use Rattle.sv_types.specs.ApprovedPages.{approved_bytes, approved_pages}
use Rattle.spec_reference.specs.States.{Hart, Loading, has_number, module_pages, without_pages}
use Rattle.spec_reference.specs.Answers.{pages_side_effect, journal_side_effect, devices_side_effect, harts_side_effect, state_after_answer, call, init_text}
use Rattle.spec_reference.specs.Calls.{Facts, asked_by, facts_of}
use Rattle.spec_reference.specs.Loads.{is_good_load, decide, load_step_of}
use Rattle.spec_reference.specs.ModuleCalls.{answer_of, load_decision}
use Rattle.spec_reference.specs.declared.answers.Answer.{Answer}
use Rattle.spec_reference.specs.declared.answers.SideEffect.{SideEffect}
use Rattle.spec_reference.specs.declared.answers.SideEffect.TheVariants.{Nothing, SetsTimer, Prints, TakesInput, ShutsDown, SendsInterrupts}
use Rattle.spec_reference.specs.declared.answers.SideEffect.TheVariants.{StartsHart, BeginsLoad, RefusesLoad, ApprovesModule}
use Rattle.spec_reference.specs.declared.answers.SideEffect.TheVariants.{ReleasesModule, UnloadsModule, RefusesUnload, RetiresInit}
use Rattle.spec_reference.specs.declared.answers.SideEffect.TheVariants.{RefusesRetire}
use Rattle.spec_reference.specs.declared.answers.Reply.{Reply}
use Rattle.laws_simulation.proofs.Lookups.{approved_front, approved_without}
use Rattle.laws_resume.specs.Continues.{Alike}
use Rattle.laws_resume.proofs.AlikeRequests.{Twins, second, AlikeAfter, printed_one, protected_same}

-- ---- approved pages

more_same : (x : Twins) (pages : List ℕ) (page : ℕ)
    → approved_bytes (approved_pages x.r.ram pages ++ x.approved) page ≡ approved_bytes (approved_pages x.r.ram pages ++ x.r.approved) page
more_same x pages page =
    approved_front x.r.ram pages x.approved page
    ∙ ap (λ (rest : Option (List ℕ)). if has_number pages page then Some (page_bytes x.r.ram page) else rest) (x.same page)
    ∙ sym (approved_front x.r.ram pages x.r.approved page)

fewer_same : (x : Twins) (pages : List ℕ) (page : ℕ) → approved_bytes (without_pages x.approved pages) page ≡ approved_bytes (without_pages x.r.approved pages) page
fewer_same x pages page =
    approved_without x.approved pages page
    ∙ ap (λ (rest : Option (List ℕ)). if has_number pages page then None else rest) (x.same page)
    ∙ sym (approved_without x.r.approved pages page)

-- ---- answers

abbrev answer_with : Reply → SideEffect → Answer
answer_with reply side_effect = record { reply = reply; side_effect = side_effect }

beside_alike : (x : Twins) (h : ℕ) (hart : Hart) (reply : Reply) (b : SideEffect) → AlikeAfter x (λ r. state_after_answer r h hart (answer_with reply b))
unfolding state_after_answer pages_side_effect journal_side_effect devices_side_effect harts_side_effect
beside_alike x h hart reply Nothing = record { approved = x.same; printed = x.before; rest = refl }
beside_alike x h hart reply (SetsTimer at) = record { approved = x.same; printed = x.before; rest = refl }
beside_alike x h hart reply (Prints byte) = record { approved = x.same; printed = printed_one x (byte % 256); rest = refl }
beside_alike x h hart reply TakesInput = record { approved = x.same; printed = x.before; rest = refl }
beside_alike x h hart reply ShutsDown = record { approved = x.same; printed = x.before; rest = refl }
beside_alike x h hart reply (SendsInterrupts mask base) = record { approved = x.same; printed = x.before; rest = refl }
beside_alike x h hart reply (StartsHart other pc opaque) = record { approved = x.same; printed = x.before; rest = refl }
beside_alike x h hart reply (BeginsLoad m pages) = record { approved = x.same; printed = x.before; rest = refl }
beside_alike x h hart reply (RefusesLoad id how) = record { approved = x.same; printed = x.before; rest = refl }
beside_alike x h hart reply (ApprovesModule m) = record { approved = more_same x (module_pages x.r.rules m); printed = x.before; rest = refl }
beside_alike x h hart reply (ReleasesModule m) = record { approved = x.same; printed = x.before; rest = refl }
beside_alike x h hart reply (UnloadsModule m) = record { approved = fewer_same x (module_pages x.r.rules m); printed = x.before; rest = refl }
beside_alike x h hart reply (RefusesUnload id how) = record { approved = x.same; printed = x.before; rest = refl }
beside_alike x h hart reply (RetiresInit span) = record { approved = fewer_same x (init_text x.r span); printed = x.before; rest = refl }
beside_alike x h hart reply (RefusesRetire how) = record { approved = x.same; printed = x.before; rest = refl }

answered_alike : (x : Twins) (h : ℕ) (hart : Hart) (answer : Answer) → AlikeAfter x (λ r. state_after_answer r h hart answer)
answered_alike x h hart answer = beside_alike x h hart answer.reply answer.side_effect

-- ---- calls

facts_same : (x : Twins) → facts_of (second x) ≡ facts_of x.r
facts_same x = ap (λ (protected : ℕ → Bool). record (facts_of x.r) { protected = protected }) (protected_same x)

pub call_alike : (x : Twins) (h : ℕ) (hart : Hart) → AlikeAfter x (λ r. call r h hart)
call_alike x h hart =
    subst
    (λ (facts : Facts). Alike x.front (call x.r h hart) (state_after_answer (second x) h hart (answer_of facts (asked_by hart.registers))))
    (sym (facts_same x)) (answered_alike x h hart (answer_of (facts_of x.r) (asked_by hart.registers)))

-- ---- a load under way

pub load_step_alike : (x : Twins) (h : ℕ) (hart : Hart) (load : Loading) (left : ℕ) → AlikeAfter x (λ r. load_step_of r h hart load left)
unfolding load_step_of decide
load_step_alike x h hart load zero =
    answered_alike x h hart (load_decision (is_good_load x.r.rules x.r.ram load.about (slice_get x.r.rules.modules load.about.id)) load.about)
load_step_alike x h hart load (suc left) = record { approved = x.same; printed = x.before; rest = refl }
