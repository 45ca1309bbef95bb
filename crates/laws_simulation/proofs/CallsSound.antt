-- Soundness after calls from kernel mode and after each step of a load: after each answer, by what it does.
use Rattle.std.proofs.Common.{◌≡◌, ◌∙◌, ℕ, zero, suc, List, length, refl, sym, ap, subst, Bool, true, false, slice_get, slice_set}
use Rattle.std.specs.Prelude.{Some, None}
use Rattle.spec_processor.specs.Effects.{set_register}
use Rattle.sv_types.specs.Policies.{Rules}
use Rattle.sv_types.specs.declared.saved.ModulePlacement.{ModulePlacement}
use Rattle.spec_processor.specs.declared.mode.Mode.TheVariants.{Kernel}
use Rattle.spec_reference.specs.States.{State, Hart, Devices, Loading, has_number, module_pages}
use Rattle.spec_reference.specs.Answers.{with_reply, devices_side_effect, journal_side_effect, pages_side_effect, harts_side_effect, state_after_answer, call}
use Rattle.spec_reference.specs.Calls.{asked_by, facts_of, started_hart, mask_names, extension_of}
use Rattle.spec_reference.specs.Loads.{is_good_load, decide, load_step_of}
use Rattle.spec_reference.specs.ModuleCalls.{answer_of, load_decision}
use Rattle.spec_reference.specs.Soundness.{IsSound, IsSoundHart, IsSoundDisk, IsSoundLoad, HoldsModule}
use Rattle.spec_reference.specs.declared.answers.Answer.{Answer}
use Rattle.spec_reference.specs.declared.answers.SideEffect.{SideEffect}
use Rattle.spec_reference.specs.declared.answers.SideEffect.TheVariants.{SetsTimer, SendsInterrupts, StartsHart, BeginsLoad, ApprovesModule, ReleasesModule, UnloadsModule, RetiresInit}
use Rattle.spec_reference.specs.declared.answers.Reply.{Reply}
use Rattle.spec_reference.specs.declared.answers.Reply.TheVariants.{Gives, Replies, Stays, Stops}
use Rattle.laws_simulation.proofs.Stays.{length_set}
use Rattle.laws_simulation.proofs.AnswersMay.{MayBegin, MayEnd, MayHaveSideEffect, MayReply, reply_may, decision_may, answer_may}
use Rattle.laws_simulation.proofs.HartsSound.{goes_after, stays_there, stop_sound, begin_sound, entry_aligned, all_interrupted, length_interrupted}
use Rattle.laws_simulation.proofs.ModulesSound.{loads, load_begins, load_goes_on, load_ends, CanApprove, approves, goes_approve, goes_unload, goes_retire}
use Rattle.laws_simulation.proofs.Sounds.{Goes, AreSound, are_set, goes_harts, goes_on, goes_beside}

-- ---- the hart that called

replied_sound : {rules : Rules} (reply : Reply) (hart : Hart) → MayReply hart reply → IsSoundHart rules hart → IsSoundHart rules (with_reply reply hart)
unfolding with_reply
replied_sound (Gives a0) hart may k = goes_after hart (set_register hart.registers 10 a0) None k
replied_sound (Replies a0 a1) hart may k = goes_after hart (set_register (set_register hart.registers 10 a0) 11 a1) None k
replied_sound Stays hart may k = stays_there hart None k
replied_sound Stops hart kernel k = stop_sound hart kernel k

-- ---- other harts, and devices

harts_sound : (r : State) (b : SideEffect) (harts : List Hart) → IsSound r → AreSound r.rules harts → MayHaveSideEffect r b → AreSound r.rules (harts_side_effect b harts)
unfolding harts_side_effect
harts_sound r (SendsInterrupts mask base) harts s all may = all_interrupted (mask_names mask base) 0 harts all
harts_sound r (StartsHart other pc opaque) harts s all may =
    are_set r.rules harts other (started_hart other pc opaque) all (begin_sound pc _ (entry_aligned r.rules pc s.within may.1) (s.words pc may.1))
harts_sound r _ harts s all may = all

pub harts_number : (b : SideEffect) (harts : List Hart) → length (harts_side_effect b harts) ≡ length harts
unfolding harts_side_effect
harts_number (SendsInterrupts mask base) harts = length_interrupted (mask_names mask base) 0 harts
harts_number (StartsHart other pc opaque) harts = length_set harts other (started_hart other pc opaque)
harts_number _ harts = refl

disk_stays : (b : SideEffect) (h : ℕ) (d : Devices) → IsSoundDisk d.disk → IsSoundDisk (devices_side_effect b h d).disk
unfolding devices_side_effect
disk_stays (SetsTimer at) h d k = k
disk_stays _ h d k = k

-- ---- pages and modules

can_approve : (r : State) (load : Loading) → HoldsModule r.rules r.approved r.loaded r.held load
    → is_good_load r.rules r.ram load.about (slice_get r.rules.modules load.about.id) ≡ true → CanApprove r load.about
can_approve r load k good = record {
  good = good;
  base = k.base;
  aligned = k.aligned;
  inside = k.inside;
  free = λ page there. k.free page (subst (λ (list : List ℕ). has_number list page ≡ true) (sym k.pages) there);
  other = k.other;
}

begins_goes : (r : State) (h : ℕ) (m : ModulePlacement) (pages : ℕ) → IsSound r → MayBegin r m pages
    → Goes r (loads r (module_pages r.rules m) (Some (record { hart = h; about = m; left = pages })))
begins_goes r h m pages s may =
    subst (λ (n : ℕ). Goes r (loads r (module_pages r.rules m) (Some (record { hart = h; about = m; left = n })))) may.number
    (load_begins r h m may.rule s may.known may.other (may.good s))

approves_goes : (r : State) (m : ModulePlacement) → IsSound r → (may : MayEnd r m) → is_good_load r.rules r.ram m (slice_get r.rules.modules m.id) ≡ true → Goes r (approves r m)
approves_goes r m s may =
    subst (λ (x : ModulePlacement). is_good_load r.rules r.ram x (slice_get r.rules.modules x.id) ≡ true → Goes r (approves r x)) may.about
    (λ good. goes_approve r may.load.about s (can_approve r may.load may.holds good))

pages_goes : (r : State) (h : ℕ) (b : SideEffect) → IsSound r → MayHaveSideEffect r b → Goes r (pages_side_effect b h r)
unfolding pages_side_effect
pages_goes r h (BeginsLoad m pages) s may = begins_goes r h m pages s may
pages_goes r h (ApprovesModule m) s may = approves_goes r m s may.0 may.1
pages_goes r h (ReleasesModule m) s may = load_ends r s
pages_goes r h (UnloadsModule m) s may = goes_unload r m s may
pages_goes r h (RetiresInit span) s may = goes_retire r span s may.0 may.1
pages_goes r h _ s may = goes_beside r r.devices r.journal s s.disk

harts_stay : (r : State) (h : ℕ) (b : SideEffect) → (pages_side_effect b h r).harts ≡ r.harts
unfolding pages_side_effect
harts_stay r h (BeginsLoad m pages) = refl
harts_stay r h _ = refl

rules_stay : (r : State) (h : ℕ) (b : SideEffect) → (pages_side_effect b h r).rules ≡ r.rules
unfolding pages_side_effect
rules_stay r h (BeginsLoad m pages) = refl
rules_stay r h _ = refl

-- ---- each answer

answered_goes : (r : State) (h : ℕ) (hart : Hart) (a : Answer) → IsSound r → IsSoundHart r.rules hart → MayReply hart a.reply → MayHaveSideEffect r a.side_effect
    → Goes r (state_after_answer r h hart a)
unfolding state_after_answer
answered_goes r h hart a s k reply may =
    let next : Hart = with_reply a.reply hart in
    let harts : List Hart = slice_set r.harts h next in
    let mid : State = pages_side_effect a.side_effect h r in
    let first : Goes r mid = pages_goes r h a.side_effect s may in
    goes_on r mid (state_after_answer r h hart a) first
    (goes_harts mid (harts_side_effect a.side_effect harts) (devices_side_effect a.side_effect h r.devices) (journal_side_effect a.side_effect h r.journal) first.sound
    (subst (λ (rules : Rules). AreSound rules (harts_side_effect a.side_effect harts)) (sym (rules_stay r h a.side_effect))
    (harts_sound r a.side_effect harts s (are_set r.rules r.harts h next s.harts (replied_sound a.reply hart reply k)) may))
    (harts_number a.side_effect harts ∙ length_set r.harts h next ∙ ap length (sym (harts_stay r h a.side_effect))) (disk_stays a.side_effect h r.devices s.disk))

pub call_goes : (r : State) (h : ℕ) (hart : Hart) → IsSound r → IsSoundHart r.rules hart → hart.mode ≡ Kernel → Goes r (call r h hart)
call_goes r h hart s k kernel =
    answered_goes r h hart (answer_of (facts_of r) (asked_by hart.registers)) s k (reply_may hart _ kernel)
    (answer_may r (asked_by hart.registers) (extension_of (asked_by hart.registers).extension))

-- ---- a load under way

decision_by : (r : State) (h : ℕ) (hart : Hart) (load : Loading) (good : Bool) → IsSound r → IsSoundHart r.rules hart → HoldsModule r.rules r.approved r.loaded r.held load
    → is_good_load r.rules r.ram load.about (slice_get r.rules.modules load.about.id) ≡ good → Goes r (state_after_answer r h hart (load_decision good load.about))
decision_by r h hart load true s k holds e = answered_goes r h hart (load_decision true load.about) s k tt (decision_may r load true holds e)
decision_by r h hart load false s k holds e = answered_goes r h hart (load_decision false load.about) s k tt (decision_may r load false holds e)

decision_goes : (r : State) (h : ℕ) (hart : Hart) (load : Loading) → IsSound r → IsSoundHart r.rules hart → r.loading ≡ Some load → Goes r (decide r h hart load.about)
unfolding decide
decision_goes r h hart load s k under =
    decision_by r h hart load (is_good_load r.rules r.ram load.about (slice_get r.rules.modules load.about.id)) s k
    (subst (IsSoundLoad r.rules r.approved r.loaded r.held) under s.load) refl

pub load_step_goes : (r : State) (h : ℕ) (hart : Hart) (load : Loading) (left : ℕ) → IsSound r → IsSoundHart r.rules hart → r.loading ≡ Some load → load.left ≡ left
    → Goes r (load_step_of r h hart load left)
unfolding load_step_of
load_step_goes r h hart load zero s k under at = decision_goes r h hart load s k under
load_step_goes r h hart load (suc left) s k under at = load_goes_on r load left s under at
