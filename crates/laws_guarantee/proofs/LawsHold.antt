-- The laws of the guarantee.
use Rattle.std.proofs.Common.{◌≡◌, ℕ, ◌+◌, ◌⊎◌, inl, inr, List, [], ◌∷◌, map, length, refl, sym, ◌∙◌, ap, subst, Bool, true, false, ◌&&◌, not, slice_get}
use Rattle.laws_simulation.proofs.OthersRest.{same_one}
use Rattle.std.specs.Prelude.{Option, Some, None, option_map, if◌then◌else◌, is_some, ◌==◌}
use Rattle.std.proofs.lemmas.Bool.{eqb-true, eq-eqb, cases_Bool}
use Rattle.std.proofs.lemmas.Option.{slice_get-map}
use Rattle.sv_types.specs.ApprovedPages.{approved_bytes}
use Rattle.spec_processor.specs.Bytes.{low_bytes, page_bytes, page_of, ram_offset, in_ram}
use Rattle.spec_processor.specs.Causes.{cause_number}
use Rattle.spec_processor.specs.Translation.{Destination, At, PageFault, Unreadable}
use Rattle.spec_processor.specs.Traps.{is_kernel, trap_target, interrupt_number}
use Rattle.spec_processor.specs.declared.cause.Cause.{Cause}
use Rattle.sv_types.specs.declared.event.Event.{Event}
use Rattle.sv_types.specs.declared.event.Event.TheVariants.{Turn, Beat, Key, Tick, Poke}
use Rattle.sv_types.specs.declared.event.Verdict.{Verdict}
use Rattle.sv_types.specs.declared.event.Verdict.TheVariants.{Running, Shutdown, Stopped}
use Rattle.spec_processor.specs.declared.mode.Mode.{Mode}
use Rattle.spec_processor.specs.declared.mode.Mode.TheVariants.{Kernel, User}
use Rattle.spec_reference.specs.Calls.{hart_at, started_hart}
use Rattle.spec_reference.specs.Counting.{count, count_turn, count_beat}
use Rattle.spec_reference.specs.Devices.{may_move_to, beat, poke, key, tick, with_disk, with_bytes, after_move, hart_after_write}
use Rattle.spec_reference.specs.Attacker.{poke_move}
use Rattle.sv_types.specs.Schedule.{poke_size, is_poke_address}
use Rattle.sv_types.specs.declared.virtio.VirtioMove.{VirtioMove}
use Rattle.spec_reference.specs.BlockDisk.{BlockBeat, block_beat, block_to_memory, beat_gpa, beat_size, is_busy, is_to_memory}
use Rattle.spec_reference.specs.VirtioDevice.{VirtioDevice, Request}
use Rattle.spec_reference.specs.VirtioBeats.{VirtioBeat, nothing, broken_beat, with_request, to_memory, to_disk, put_last, finish_request, make, make_first, go_on, is_live, virtio_beat}
use Rattle.spec_reference.specs.Disk.{DmaStep, disk_beat}
use Rattle.spec_reference.specs.Move.{Move, Idle, FromRam, IntoRam, DeniedAt, OutsideRam}
use Rattle.spec_reference.specs.Run.{step, happen, happen_under}
use Rattle.spec_reference.specs.Soundness.{IsSound}
use Rattle.spec_reference.specs.States.{State, Hart, Disk, BlockDevice, BlockDisk, VirtioDisk, Loading, has_number, in_kernel, is_approved_in, is_protected}
use Rattle.spec_reference.specs.Trapping.{trap_from, hart_at_trap, hart_at_return}
use Rattle.spec_reference.specs.Turn.{noted_gpa, going_hart, after_going, Fetched, NoWord, Stray, Word, fetched_in, fetched_at, fetch, fetch_of, place_of_pc, act, turn_of_started, turn_of, turn}
use Rattle.laws_simulation.proofs.Lookups.{both}
use Rattle.laws_simulation.proofs.BeatsSound.{FreeMove, beat_page, beat_sound, free_with_disk, poke_sound}
use Rattle.laws_simulation.proofs.StepsSound.{counted_sound}
use Rattle.laws_simulation.proofs.EntriesHold.{runs_on}
use Rattle.laws_guarantee.specs.Guarantee.{move_gpa, first_gpa, request_gpa, disk_gpa, device_gpa, IsMeasuredPage, IsMeasuredWord}
use Rattle.laws_guarantee.specs.Guarantee.{KernelTurn, Loads, Interrupts, Traps, Demotes, DemotesAtEntry, Executes, KernelWordsLaw, Enters}
use Rattle.laws_guarantee.specs.Guarantee.{ByTrap, ByStart, EntriesLaw, Leaves, ByReturn, ByDemotion, ByStop, ExitsLaw, ProtectedBytesLaw}
use Rattle.laws_guarantee.proofs.Does.{IsMoving, Own, Same, Entered, Returned, Demoted, Halted, Other, Rests, Begins, page_kept}
use Rattle.laws_guarantee.proofs.TurnCases.{Attempts, ByInterrupt, ByFault, ByStray, ByPlace, ByWord, act_is}
use Rattle.laws_simulation.specs.StateLaws.{HasOrigin, HasOrigins}
use Rattle.laws_guarantee.specs.Reached.{HasDigests}
use Rattle.laws_guarantee.proofs.StraysAt.{strays}
use Rattle.laws_guarantee.proofs.Digests.{its_digest}
use Rattle.laws_simulation.specs.Agree.{IsNotLoading}
use Rattle.laws_guarantee.proofs.ReachedHolds.{user_unloading}
use Rattle.laws_guarantee.proofs.Turns.{FetchedLeaves, turn_does}
use Rattle.laws_processor.proofs.GuestViews.{and_false}
use Rattle.laws_simulation.proofs.AttemptsAgree.{turn_none, turn_stopped}
use Rattle.sv_types.specs.VirtioResults.{result_number}

-- ---- a turn, while the machine runs

-- nothing is done, or a started hart moves
abbrev pub Moves : State → ℕ → Type 0
Moves q h = (turn q h ≡ q) ⊎ ((hart : Hart) × IsMoving q h hart)

moves_by : (q : State) (h : ℕ) (x : Option Hart) → IsSound q → q.journal.verdict ≡ Running → slice_get q.harts h ≡ x → Moves q h
moves_by q h None s on found = inl (turn_none q h found)
moves_by q h (Some hart) s on found = elim (cases_Bool hart.started) [
  | inl started ↦ inr (hart, record { sound = s; found = found; started = started; running = on })
  | inr off ↦ inl (turn_stopped q h hart found off)
]

pub moves : (q : State) (h : ℕ) → IsSound q → q.journal.verdict ≡ Running → Moves q h
moves q h s on = moves_by q h (slice_get q.harts h) s on refl

-- ---- protected bytes

turn_bytes : (q : State) (h page : ℕ) → IsSound q → q.journal.verdict ≡ Running → is_protected q page ≡ true → page_bytes (turn q h).ram page ≡ page_bytes q.ram page
turn_bytes q h page s on e = elim (moves q h s on) [
  | inl same ↦ ap (λ (x : State). page_bytes x.ram page) same
  | inr m ↦ (turn_does q h m.0 m.1).bytes page e
]

move_bytes : (q : State) (x : Move) (page : ℕ) → FreeMove q x → is_protected q page ≡ true → page_bytes (after_move q x).ram page ≡ page_bytes q.ram page
unfolding after_move with_bytes
move_bytes q Idle page free e = refl
move_bytes q (FromRam gpa) page free e = refl
move_bytes q (IntoRam gpa bytes) page free e = page_kept q (ram_offset gpa) bytes page (beat_page q gpa bytes free) e
move_bytes q (DeniedAt gpa) page free e = refl
move_bytes q OutsideRam page free e = refl

-- another disk changes no protection
disk_guard : (q : State) (disk : Disk) (page : ℕ) → is_protected q page ≡ true → is_protected (with_disk q disk) page ≡ true
unfolding is_protected
disk_guard q disk page e = e

beat_bytes : (q : State) (page : ℕ) → IsSound q → is_protected q page ≡ true → page_bytes (beat q).ram page ≡ page_bytes q.ram page
unfolding beat
beat_bytes q page s e =
    let b : DmaStep = disk_beat q.devices.disk q.ram (λ page. not (is_protected q page)) in
    move_bytes (with_disk q b.disk) b.move page (free_with_disk q b.disk b.move (beat_sound q s).move) (disk_guard q b.disk page e)

poke_bytes : (q : State) (gpa value page : ℕ) → is_protected q page ≡ true → page_bytes (poke q gpa value).ram page ≡ page_bytes q.ram page
unfolding poke
poke_bytes q gpa value page e = move_bytes q (poke_move q.ram (λ page. may_move_to q page) gpa value) page (poke_sound q gpa value) e

counted_guard : (r : State) (page : ℕ) → is_protected r page ≡ true → is_protected (count r count_turn) page ≡ true
unfolding is_protected
counted_guard r page e = e

beat_guard : (r : State) (page : ℕ) → is_protected r page ≡ true → is_protected (count r count_beat) page ≡ true
unfolding is_protected
beat_guard r page e = e

happens_bytes : (r : State) (e : Event) (page : ℕ) → IsSound r → r.journal.verdict ≡ Running → is_protected r page ≡ true → page_bytes (happen r e).ram page ≡ page_bytes r.ram page
unfolding happen key tick
happens_bytes r (Turn h) page s on e = turn_bytes (count r count_turn) h page (counted_sound r count_turn s).sound on (counted_guard r page e)
happens_bytes r Beat page s on e = beat_bytes (count r count_beat) page (counted_sound r count_beat s).sound (beat_guard r page e)
happens_bytes r (Key byte) page s on e = refl
happens_bytes r (Tick n) page s on e = refl
happens_bytes r (Poke gpa value) page s on e = poke_bytes (count r count_beat) gpa value page (beat_guard r page e)

under_bytes : (v : Verdict) (r : State) (e : Event) (page : ℕ) → IsSound r → r.journal.verdict ≡ v → is_protected r page ≡ true
    → page_bytes (happen_under v r e).ram page ≡ page_bytes r.ram page
unfolding happen_under
under_bytes Running r e page s on guarded = happens_bytes r e page s on guarded
under_bytes Shutdown r e page s on guarded = refl
under_bytes (Stopped rule h at) r e page s on guarded = refl

-- a move that the device is denied
abbrev IsNoWrite : Move → Type 0
IsNoWrite (IntoRam gpa bytes) = ⊥
IsNoWrite _ = Unit {0}

choose_no_write : (b : Bool) (x y : BlockBeat) → IsNoWrite x.move → IsNoWrite y.move → IsNoWrite (if b then x else y).move
choose_no_write true x y s t = s
choose_no_write false x y s t = t

denied_to_memory : (d : BlockDevice) (may_write : ℕ → Bool) → may_write (page_of (beat_gpa d.block)) ≡ false → IsNoWrite (block_to_memory d may_write).move
denied_to_memory d may_write e = rw e tt

denied_block : (d : BlockDevice) (ram : List ℕ) (may_write : ℕ → Bool) → may_write (page_of (beat_gpa d.block)) ≡ false → IsNoWrite (block_beat d ram may_write).move
unfolding block_beat
denied_block d ram may_write e =
    choose_no_write (not (is_busy d.block)) _ _ tt
    (choose_no_write (not (in_ram ram (beat_gpa d.block) beat_size)) _ _ tt
    (choose_no_write (is_to_memory d.block.status) _ _ (denied_to_memory d may_write e) tt))

choose_no_put : (b : Bool) (x y : VirtioBeat) → IsNoWrite x.move → IsNoWrite y.move → IsNoWrite (if b then x else y).move
choose_no_put true x y s t = s
choose_no_put false x y s t = t

never_put : (b : Bool) (x y : VirtioBeat) → b ≡ false → IsNoWrite y.move → IsNoWrite (if b then x else y).move
never_put true x y e t = cc
never_put false x y e t = t

denied_data : (d : VirtioDevice) (q : Request) (gpa place size : ℕ) (ram : List ℕ) (may_write : ℕ → Bool) → may_write (page_of gpa) ≡ false
    → IsNoWrite (to_memory d q gpa place size ram may_write).move
unfolding to_memory
denied_data d q gpa place size ram may_write e =
    choose_no_put (not (in_ram ram gpa size)) (broken_beat d OutsideRam) _ tt (never_put (may_write (page_of gpa)) _ _ e tt)

denied_last : (d next : VirtioDevice) (gpa : ℕ) (bytes ram : List ℕ) (may_write : ℕ → Bool) → may_write (page_of gpa) ≡ false
    → IsNoWrite (put_last d next gpa bytes ram may_write).move
unfolding put_last
denied_last d next gpa bytes ram may_write e =
    choose_no_put (not (in_ram ram gpa (length bytes))) (broken_beat d OutsideRam) _ tt (never_put (may_write (page_of gpa)) _ _ e tt)

denied_move : (d : VirtioDevice) (q : Request) (x : VirtioMove) (ram : List ℕ) (may_write : ℕ → Bool) → may_write (page_of (move_gpa x)) ≡ false
    → IsNoWrite (make d q x ram may_write).move
unfolding make to_disk
denied_move d q (VirtioMove.ToMemory gpa place size) ram may_write e = denied_data d q gpa place size ram may_write e
denied_move d q (VirtioMove.ToDisk gpa place size) ram may_write e = choose_no_put (not (in_ram ram gpa size)) (broken_beat d OutsideRam) _ tt tt
denied_move d q (VirtioMove.PutResult gpa) ram may_write e = denied_last d (with_request d q) gpa (low_bytes 1 (result_number q.result)) ram may_write e
denied_move d q (VirtioMove.PutHead gpa head) ram may_write e = denied_last d (with_request d q) gpa (low_bytes 4 head) ram may_write e
denied_move d q (VirtioMove.PutLength gpa) ram may_write e = denied_last d (with_request d q) gpa (low_bytes 4 (q.written + 1)) ram may_write e
denied_move d q (VirtioMove.PutIndex gpa index) ram may_write e = denied_last d (finish_request d) gpa (low_bytes 2 index) ram may_write e

denied_first : (d : VirtioDevice) (q : Request) (moves : List VirtioMove) (ram : List ℕ) (may_write : ℕ → Bool) (gpa : ℕ) → first_gpa moves ≡ Some gpa
    → may_write (page_of gpa) ≡ false → IsNoWrite (make_first d q moves ram may_write).move
denied_first d q [] ram may_write gpa there e = tt
denied_first d q (move ∷ moves) ram may_write gpa there e =
    let same : gpa ≡ move_gpa move = cc in
    denied_move d (record q { moves = moves }) move ram may_write (ap (λ (p : ℕ). may_write (page_of p)) (sym same) ∙ e)

denied_going : (d : VirtioDevice) (q : Option Request) (ram : List ℕ) (may_write : ℕ → Bool) (gpa : ℕ) → request_gpa q ≡ Some gpa
    → may_write (page_of gpa) ≡ false → IsNoWrite (go_on d q ram may_write).move
denied_going d None ram may_write gpa there e = cc
denied_going d (Some q) ram may_write gpa there e = denied_first d q q.moves ram may_write gpa there e

denied_beat : (d : Disk) (ram : List ℕ) (may_write : ℕ → Bool) (gpa : ℕ) → disk_gpa d ≡ Some gpa → may_write (page_of gpa) ≡ false → IsNoWrite (disk_beat d ram may_write).move
unfolding disk_beat virtio_beat
denied_beat (BlockDisk d) ram may_write gpa there e =
    let same : gpa ≡ beat_gpa d.block = cc in denied_block d ram may_write (ap (λ (p : ℕ). may_write (page_of p)) (sym same) ∙ e)
denied_beat (VirtioDisk d) ram may_write gpa there e =
    choose_no_put (is_live d) (go_on d d.request ram may_write) (nothing d) (denied_going d d.request ram may_write gpa there e) tt

abbrev NothingMoves : State → State → Type 0
NothingMoves q next = (next.ram ≡ q.ram) × (next.harts ≡ q.harts)

nothing_moves : (q : State) (x : Move) → IsNoWrite x → NothingMoves q (after_move q x)
unfolding after_move
nothing_moves q Idle no_write = (refl, refl)
nothing_moves q (FromRam gpa) no_write = (refl, refl)
nothing_moves q (IntoRam gpa bytes) no_write = absurd no_write
nothing_moves q (DeniedAt gpa) no_write = (refl, refl)
nothing_moves q OutsideRam no_write = (refl, refl)

beat_denied : (q : State) (gpa : ℕ) → disk_gpa q.devices.disk ≡ Some gpa → is_protected q (page_of gpa) ≡ true → NothingMoves q (beat q)
unfolding beat
beat_denied q gpa there e =
    let b : DmaStep = disk_beat q.devices.disk q.ram (λ page. not (is_protected q page)) in
    nothing_moves (with_disk q b.disk) b.move (denied_beat q.devices.disk q.ram (λ page. not (is_protected q page)) gpa there (ap not e))

-- an attacker's
choose_no_move : (b : Bool) (x y : Move) → IsNoWrite x → IsNoWrite y → IsNoWrite (if b then x else y)
choose_no_move true x y s t = s
choose_no_move false x y s t = t

never_move : (b : Bool) (x y : Move) → b ≡ false → IsNoWrite y → IsNoWrite (if b then x else y)
never_move true x y e t = cc
never_move false x y e t = t

denied_poke : (ram : List ℕ) (may_write : ℕ → Bool) (gpa value : ℕ) → may_write (page_of gpa) ≡ false → IsNoWrite (poke_move ram may_write gpa value)
unfolding poke_move
denied_poke ram may_write gpa value e =
    choose_no_move (not (is_poke_address gpa && in_ram ram gpa poke_size)) OutsideRam _ tt (never_move (may_write (page_of gpa)) _ _ e tt)

poke_denied : (q : State) (gpa value : ℕ) → is_protected q (page_of gpa) ≡ true → NothingMoves q (poke q gpa value)
unfolding poke
poke_denied q gpa value e =
    nothing_moves q (poke_move q.ram (λ page. may_move_to q page) gpa value)
    (denied_poke q.ram (λ page. may_move_to q page) gpa value (ap not e))

happens_denied : (r : State) (e : Event) (gpa : ℕ) → device_gpa r.devices.disk e ≡ Some gpa → is_protected r (page_of gpa) ≡ true → NothingMoves r (happen r e)
unfolding happen
happens_denied r (Turn h) gpa there guarded = absurd (cc)
happens_denied r Beat gpa there guarded = beat_denied (count r count_beat) gpa there (beat_guard r (page_of gpa) guarded)
happens_denied r (Key byte) gpa there guarded = absurd (cc)
happens_denied r (Tick n) gpa there guarded = absurd (cc)
happens_denied r (Poke at value) gpa there guarded =
    let same : at ≡ gpa = cc in
    poke_denied (count r count_beat) at value (beat_guard r (page_of at) (subst (λ (x : ℕ). is_protected r (page_of x) ≡ true) (sym same) guarded))

under_denied : (v : Verdict) (r : State) (e : Event) (gpa : ℕ) → device_gpa r.devices.disk e ≡ Some gpa → is_protected r (page_of gpa) ≡ true
    → NothingMoves r (happen_under v r e)
unfolding happen_under
under_denied Running r e gpa there guarded = happens_denied r e gpa there guarded
under_denied Shutdown r e gpa there guarded = (refl, refl)
under_denied (Stopped rule h at) r e gpa there guarded = (refl, refl)

pub protected_bytes_law : ProtectedBytesLaw
unfolding step
protected_bytes_law r e sound = record {
  bytes = λ page guarded. under_bytes r.journal.verdict r e page sound refl guarded;
  moves = λ gpa there guarded. under_denied r.journal.verdict r e gpa there guarded;
}

-- ---- what becomes of a hart

data Becomes (r : State) (e : Event) (h : ℕ) (before : Hart) (next : State) (after : Hart) : Type 0 where
  Rested : (mode : after.mode ≡ before.mode) → (started : after.started ≡ before.started) → Becomes r e h before next after
  Moved : (turn : e ≡ Turn h) → (at : IsMoving (count r count_turn) h before)
      → (own : Own (FetchedLeaves (count r count_turn) before) (count r count_turn) h before next after) → Becomes r e h before next after
  Began : (other pc opaque : ℕ) → (turn : e ≡ Turn other) → (apart : (h == other) ≡ false) → (stopped : before.started ≡ false)
      → (permitted : has_number r.rules.entries pc ≡ true) → (same : after ≡ started_hart h pc opaque) → Becomes r e h before next after

rested : (r : State) (e : Event) (h : ℕ) (before : Hart) (next : State) (after : Hart) → before ≡ after → Becomes r e h before next after
rested r e h before next after same = subst (Becomes r e h before next) same (Rested refl refl)

by_other : (r : State) (k h : ℕ) (before : Hart) (next : State) (after : Hart) → (h == k) ≡ false → Other (count r count_turn) h before after → Becomes r (Turn k) h before next after
by_other r k h before next after apart (Rests mode started) = Rested mode started
by_other r k h before next after apart (Begins pc opaque stopped permitted same) = Began k pc opaque refl apart stopped permitted same

turn_becomes : (r : State) (k h : ℕ) (before after : Hart) → IsSound r → r.journal.verdict ≡ Running → slice_get r.harts h ≡ Some before
    → slice_get (turn (count r count_turn) k).harts h ≡ Some after → Becomes r (Turn k) h before (turn (count r count_turn) k) after
turn_becomes r k h before after s on was is = elim (moves (count r count_turn) k (counted_sound r count_turn s).sound on) [
  | inl same ↦ rested r (Turn k) h before (turn (count r count_turn) k) after
      (same_one (slice_get r.harts h) before after was (sym (ap (λ (x : State). slice_get x.harts h) same) ∙ is))
  | inr m ↦ mover_becomes m.0 m.1 (h == k) refl
]
  where
    own_becomes : (hart : Hart) → IsMoving (count r count_turn) k hart → h ≡ k → Becomes r (Turn k) h before (turn (count r count_turn) k) after
    own_becomes hart at same =
        let its : hart ≡ before = same_one (slice_get r.harts k) hart before at.found (subst (λ (n : ℕ). slice_get r.harts n ≡ Some before) same was) in
        let moving : IsMoving (count r count_turn) k before = subst (IsMoving (count r count_turn) k) its at in
        let own = (turn_does (count r count_turn) k before moving).own after (subst (λ (n : ℕ). slice_get (turn (count r count_turn) k).harts n ≡ Some after) same is) in
        subst (λ (n : ℕ). Becomes r (Turn k) n before (turn (count r count_turn) k) after) (sym same) (Moved refl moving own)

    mover_becomes : (hart : Hart) → IsMoving (count r count_turn) k hart → (b : Bool) → (h == k) ≡ b → Becomes r (Turn k) h before (turn (count r count_turn) k) after
    mover_becomes hart at true e = own_becomes hart at (eqb-true h k e)
    mover_becomes hart at false e = by_other r k h before (turn (count r count_turn) k) after e
        ((turn_does (count r count_turn) k hart at).others h before after (λ same. both (h == k) (eq-eqb h k same) e) was is)

-- ---- other events

mapped_rests : (r : State) (e : Event) (h : ℕ) (before : Hart) (next : State) (after : Hart) (place width : ℕ) → slice_get r.harts h ≡ Some before
    → slice_get (map (hart_after_write place width) r.harts) h ≡ Some after → Becomes r e h before next after
mapped_rests r e h before next after place width was is =
    let same : hart_after_write place width before ≡ after = same_one (slice_get (map (hart_after_write place width) r.harts) h) _ after
    (slice_get-map (hart_after_write place width) r.harts h ∙ ap (option_map (hart_after_write place width)) was) is in
    subst (Becomes r e h before next) same (Rested refl refl)

still_rests : (r : State) (e : Event) (q : State) (h : ℕ) (before : Hart) (next : State) (after : Hart) → q.harts ≡ r.harts → slice_get r.harts h ≡ Some before
    → slice_get q.harts h ≡ Some after → Becomes r e h before next after
still_rests r e q h before next after harts was is =
    rested r e h before next after (same_one (slice_get r.harts h) before after was (ap (λ (l : List Hart). slice_get l h) (sym harts) ∙ is))

move_becomes : (r : State) (e : Event) (q : State) (x : Move) (h : ℕ) (before : Hart) (next : State) (after : Hart) → q.harts ≡ r.harts → slice_get r.harts h ≡ Some before
    → slice_get (after_move q x).harts h ≡ Some after → Becomes r e h before next after
unfolding after_move with_bytes
move_becomes r e q (IntoRam gpa bytes) h before next after harts was is =
    mapped_rests r e h before next after (ram_offset gpa) (length bytes) was
    (subst (λ (l : List Hart). slice_get (map (hart_after_write (ram_offset gpa) (length bytes)) l) h ≡ Some after) harts is)
move_becomes r e q Idle h before next after harts was is = still_rests r e q h before next after harts was is
move_becomes r e q (FromRam gpa) h before next after harts was is = still_rests r e q h before next after harts was is
move_becomes r e q (DeniedAt gpa) h before next after harts was is = still_rests r e q h before next after harts was is
move_becomes r e q OutsideRam h before next after harts was is = still_rests r e q h before next after harts was is

beat_becomes : (r : State) (h : ℕ) (before : Hart) (next : State) (after : Hart) → slice_get r.harts h ≡ Some before
    → slice_get (beat (count r count_beat)).harts h ≡ Some after → Becomes r Beat h before next after
unfolding beat
beat_becomes r h before next after was is =
    let q : State = count r count_beat in
    let b : DmaStep = disk_beat q.devices.disk q.ram (λ page. not (is_protected q page)) in
    move_becomes r Beat (with_disk q b.disk) b.move h before next after refl was is

poke_becomes : (r : State) (gpa value h : ℕ) (before : Hart) (next : State) (after : Hart) → slice_get r.harts h ≡ Some before
    → slice_get (poke (count r count_beat) gpa value).harts h ≡ Some after → Becomes r (Poke gpa value) h before next after
unfolding poke
poke_becomes r gpa value h before next after was is =
    let q : State = count r count_beat in
    move_becomes r (Poke gpa value) q (poke_move q.ram (λ page. may_move_to q page) gpa value) h before next after refl was is

happens_becomes : (r : State) (e : Event) (h : ℕ) (before after : Hart) → IsSound r → r.journal.verdict ≡ Running → slice_get r.harts h ≡ Some before
    → slice_get (happen r e).harts h ≡ Some after → Becomes r e h before (happen r e) after
unfolding happen key tick
happens_becomes r (Turn k) h before after s on was is = turn_becomes r k h before after s on was is
happens_becomes r Beat h before after s on was is = beat_becomes r h before (beat (count r count_beat)) after was is
happens_becomes r (Key byte) h before after s on was is = rested r (Key byte) h before _ after (same_one (slice_get r.harts h) before after was is)
happens_becomes r (Tick n) h before after s on was is = rested r (Tick n) h before _ after (same_one (slice_get r.harts h) before after was is)
happens_becomes r (Poke gpa value) h before after s on was is = poke_becomes r gpa value h before (poke (count r count_beat) gpa value) after was is

under_becomes : (v : Verdict) (r : State) (e : Event) (h : ℕ) (before after : Hart) → IsSound r → r.journal.verdict ≡ v → slice_get r.harts h ≡ Some before
    → slice_get (happen_under v r e).harts h ≡ Some after → Becomes r e h before (happen_under v r e) after
unfolding happen_under
under_becomes Running r e h before after s on was is = happens_becomes r e h before after s on was is
under_becomes Shutdown r e h before after s on was is = rested r e h before r after (same_one (slice_get r.harts h) before after was is)
under_becomes (Stopped rule k at) r e h before after s on was is = rested r e h before r after (same_one (slice_get r.harts h) before after was is)

becomes : (r : State) (e : Event) (h : ℕ) (before after : Hart) → IsSound r → slice_get r.harts h ≡ Some before
    → slice_get (step r e).harts h ≡ Some after → Becomes r e h before (step r e) after
unfolding step
becomes r e h before after sound was is = under_becomes r.journal.verdict r e h before after sound refl was is

-- ---- entries and exits

kernel_by : (x y : Hart) (b : Bool) → x.mode ≡ y.mode → x.started ≡ y.started → in_kernel y ≡ b → in_kernel x ≡ b
kernel_by x y b mode started e =
    ap (λ (m : Mode). x.started && is_kernel m) mode ∙ ap (λ (on : Bool). on && is_kernel y.mode) started ∙ e

user_no_kernel : (x : Hart) → x.mode ≡ User → in_kernel x ≡ false
user_no_kernel x user = ap (λ (m : Mode). x.started && is_kernel m) user ∙ and_false x.started

off_no_kernel : (x : Hart) → x.started ≡ false → in_kernel x ≡ false
off_no_kernel x off = ap (λ (on : Bool). on && is_kernel x.mode) off

abbrev EntersThere : State → Event → ℕ → Hart → Hart → Type 0
EntersThere r e h before after = Enters r e h before after × (has_number r.rules.entries after.pc ≡ true)

trap_enters : (r : State) (h : ℕ) (before after : Hart) (interrupt : Bool) (cause tval : ℕ) → IsMoving (count r count_turn) h before → (before.mode ≡ User → IsNotLoading h r.loading)
    → before.mode ≡ User → has_number r.rules.entries (trap_target before.supervisor.stvec interrupt cause) ≡ true
    → after ≡ hart_at_trap r.rules before User interrupt cause tval → step r (Turn h) ≡ trap_from (count r count_turn) h before User interrupt cause tval
    → Enters r (Turn h) h before after
trap_enters r h before after interrupt cause tval at free user permitted same all =
    ByTrap (record {
      hart = before;
      found = at.found;
      started = at.started;
      free = free user;
      interrupt = interrupt;
      cause = cause;
      tval = tval;
      same = all;
      permitted = permitted;
    }) refl refl user same

own_enters : (r : State) (e : Event) (h : ℕ) (before after : Hart) → e ≡ Turn h → in_kernel before ≡ false → in_kernel after ≡ true
    → IsMoving (count r count_turn) h before → (before.mode ≡ User → IsNotLoading h r.loading)
    → Own (FetchedLeaves (count r count_turn) before) (count r count_turn) h before (step r e) after → EntersThere r e h before after
unfolding hart_at_trap hart_at_return
own_enters r e h before after turn out within at free (Same mode started) = absurd (both (in_kernel after) within (kernel_by after before false mode started out))
own_enters r e h before after turn out within at free (Entered interrupt cause tval user permitted same all) = (
  subst (λ (x : Event). Enters r x h before after) (sym turn)
      (trap_enters r h before after interrupt cause tval at free user permitted same (ap (step r) (sym turn) ∙ all)),
  subst (λ (x : Hart). has_number r.rules.entries x.pc ≡ true) (sym same) permitted,
)
own_enters r e h before after turn out within at free (Returned why user same) =
    absurd (both (in_kernel after) within (user_no_kernel after (ap (λ (x : Hart). x.mode) same ∙ user)))
own_enters r e h before after turn out within at free (Demoted gpa why same all) =
    absurd (both (in_kernel after) within (user_no_kernel after (ap (λ (x : Hart). x.mode) same)))
own_enters r e h before after turn out within at free (Halted stopped) = absurd (both (in_kernel after) within (off_no_kernel after stopped))

enters : (r : State) (e : Event) (h : ℕ) (before after : Hart) → in_kernel before ≡ false → in_kernel after ≡ true
    → (before.mode ≡ User → IsNotLoading h r.loading) → Becomes r e h before (step r e) after → EntersThere r e h before after
unfolding hart_at
enters r e h before after out within free (Rested mode started) = absurd (both (in_kernel after) within (kernel_by after before false mode started out))
enters r e h before after out within free (Moved turn at own) = own_enters r e h before after turn out within at free own
enters r e h before after out within free (Began other pc opaque turn apart stopped permitted same) =
    let its : after.pc ≡ pc = ap (λ (x : Hart). x.pc) same in
    (ByStart other opaque turn apart stopped (same ∙ ap (λ (n : ℕ). started_hart h n opaque) (sym its)), ap (has_number r.rules.entries) its ∙ permitted)

pub entries_law : EntriesLaw
entries_law s r reached e h before after was is out within =
    enters r e h before after out within (λ user. user_unloading r h before r.loading reached.load was user) (becomes r e h before after reached.sound was is)

own_leaves : (r : State) (h : ℕ) (before : Hart) (next : State) (after : Hart) → in_kernel before ≡ true → in_kernel after ≡ false
    → Own (FetchedLeaves (count r count_turn) before) (count r count_turn) h before next after → Leaves r next h before after
own_leaves r h before next after within out (Same mode started) =
    absurd (both (in_kernel before) within (kernel_by before after false (sym mode) (sym started) out))
own_leaves r h before next after within out (Entered interrupt cause tval user permitted same all) = absurd (both (in_kernel before) within (user_no_kernel before user))
own_leaves r h before next after within out (Returned why user same) = ByReturn why.0 why.1.0 why.1.1 user same
own_leaves r h before next after within out (Demoted gpa why same all) = ByDemotion gpa why all
own_leaves r h before next after within out (Halted stopped) = ByStop stopped

leaves : (r : State) (e : Event) (h : ℕ) (before : Hart) (next : State) (after : Hart) → in_kernel before ≡ true → in_kernel after ≡ false
    → Becomes r e h before next after → Leaves r next h before after × (e ≡ Turn h)
leaves r e h before next after within out (Rested mode started) =
    absurd (both (in_kernel before) within (kernel_by before after false (sym mode) (sym started) out))
leaves r e h before next after within out (Moved turn at own) = (own_leaves r h before next after within out own, turn)
leaves r e h before next after within out (Began other pc opaque turn apart stopped permitted same) = absurd (both (in_kernel before) within (off_no_kernel before stopped))

pub exits_law : ExitsLaw
exits_law r sound e h before after was is within out = leaves r e h before (step r e) after within out (becomes r e h before after sound was is)

-- ---- words

some_there : (x : Option (List ℕ)) (bytes : List ℕ) → x ≡ Some bytes → is_some x ≡ true
some_there None bytes e = absurd (cc)
some_there (Some other) bytes e = refl

abbrev is_word : Fetched → Bool
is_word (NoWord cause) = false
is_word (Stray gpa) = false
is_word (Word w) = true

abbrev word_in : Fetched → ℕ
word_in (NoWord cause) = 0
word_in (Stray gpa) = 0
word_in (Word w) = w

no_word : (x : Fetched) (w : ℕ) → is_word x ≡ false → x ≡ Word w → ⊥
no_word x w none e = both (is_word x) (ap is_word e) none

measured_page : (s r : State) (page : ℕ) → HasDigests r → HasOrigin s r page → IsMeasuredPage s r page
measured_page s r page digests (inl text) = inl (record { text = text; measured = its_digest r page digests text.unretired })
measured_page s r page digests (inr k) = inr k

measured_at : (s r : State) (hart : Hart) (w gpa : ℕ) (inside : Bool) (x : Option (List ℕ)) → IsSound r → HasOrigins s r → HasDigests r → place_of_pc r hart ≡ At gpa
    → approved_bytes r.approved (page_of gpa) ≡ x
    → (if inside then fetched_in r.ram Kernel gpa x else NoWord Cause.InstrAccess) ≡ Word w → IsMeasuredWord s r hart w
unfolding fetched_in
measured_at s r hart w gpa true (Some bytes) sound origins digests place found e =
    let approved : is_approved_in r.approved (page_of gpa) ≡ true = some_there (approved_bytes r.approved (page_of gpa)) bytes found in
    record {
      gpa = gpa;
      bytes = bytes;
      place = place;
      approved = found;
      kept = sound.text.same (page_of gpa) bytes found;
      origin = measured_page s r (page_of gpa) digests (origins.origin (page_of gpa) approved);
      word = sym (ap word_in e);
    }
measured_at s r hart w gpa true None sound origins digests place found e = absurd (no_word (Stray gpa) w refl e)
measured_at s r hart w gpa false x sound origins digests place found e = absurd (no_word (NoWord Cause.InstrAccess) w refl e)

measured_by : (s r : State) (hart : Hart) (w : ℕ) (d : Destination) → IsSound r → HasOrigins s r → HasDigests r → place_of_pc r hart ≡ d
    → fetched_at r.ram r.approved Kernel d ≡ Word w → IsMeasuredWord s r hart w
unfolding fetched_at
measured_by s r hart w PageFault sound origins digests place e = absurd (no_word (NoWord Cause.InstrPage) w refl e)
measured_by s r hart w (Unreadable entry) sound origins digests place e = absurd (no_word (NoWord Cause.InstrAccess) w refl e)
measured_by s r hart w (At gpa) sound origins digests place e =
    measured_at s r hart w gpa (in_ram r.ram gpa 4) (approved_bytes r.approved (page_of gpa)) sound origins digests place refl e

fetched_measured : (s r : State) (hart : Hart) (w : ℕ) → IsSound r → HasOrigins s r → HasDigests r → hart.mode ≡ Kernel → fetch_of r hart ≡ Word w
    → IsMeasuredWord s r hart w
unfolding fetch
fetched_measured s r hart w sound origins digests mode e =
    measured_by s r hart w (place_of_pc r hart) sound origins digests refl
    (subst (λ (m : Mode). fetched_at r.ram r.approved m (place_of_pc r hart) ≡ Word w) mode e)

-- ---- turns in kernel mode

as_kernel : (s r : State) (h : ℕ) (hart : Hart) (next : State) → IsSound r → HasOrigins s r → HasDigests r → hart.mode ≡ Kernel → Attempts (count r count_turn) h hart next
    → KernelTurn s r (count r count_turn) h hart next
as_kernel s r h hart next sound origins digests mode (ByInterrupt interrupt pending same) =
    Interrupts interrupt pending (same ∙ ap (λ (m : Mode). trap_from (count r count_turn) h hart m true (interrupt_number interrupt) 0) mode)
as_kernel s r h hart next sound origins digests mode (ByFault left cause at fetched same) =
    Traps left cause at fetched
    (same ∙ ap (λ (m : Mode). trap_from (after_going left (count r count_turn) h hart) h (going_hart left hart) m false (cause_number cause) hart.pc) mode)
as_kernel s r h hart next sound origins digests mode (ByStray left gpa at fetched same) =
    Demotes left gpa at (strays (count r count_turn) hart gpa fetched) same
as_kernel s r h hart next sound origins digests mode (ByPlace entry quiet bound away there same) =
    DemotesAtEntry (noted_gpa r.ram (place_of_pc r hart)) quiet (record { entry = entry; bound = bound; there = there; away = away; noted = refl }) same
as_kernel s r h hart next sound origins digests mode (ByWord left w at fetched same) = Executes left w at (fetched_measured s r hart w sound origins digests mode fetched) same

decide_turn : (s r : State) (h : ℕ) (hart : Hart) (b : Bool) (x y : State) → (b ≡ true → KernelTurn s r (count r count_turn) h hart x)
    → KernelTurn s r (count r count_turn) h hart y → KernelTurn s r (count r count_turn) h hart (if b then x else y)
decide_turn s r h hart true x y k l = k refl
decide_turn s r h hart false x y k l = l

started_turn : (s r : State) (h : ℕ) (hart : Hart) (x : Option Loading) → IsSound r → HasOrigins s r → HasDigests r → hart.mode ≡ Kernel → r.loading ≡ x
    → KernelTurn s r (count r count_turn) h hart (turn_of_started (count r count_turn) h hart x)
unfolding turn_of_started
started_turn s r h hart None sound origins digests mode under =
    as_kernel s r h hart (act (count r count_turn) h hart) sound origins digests mode (act_is (count r count_turn) h hart)
started_turn s r h hart (Some load) sound origins digests mode under =
    decide_turn s r h hart (load.hart == h) _ _ (λ its. Loads load under (eqb-true load.hart h its) refl)
    (as_kernel s r h hart (act (count r count_turn) h hart) sound origins digests mode (act_is (count r count_turn) h hart))

kernel_is : (hart : Hart) (on : Bool) (mode : Mode) → hart.started ≡ on → hart.mode ≡ mode → (on && is_kernel mode) ≡ true → (hart.started ≡ true) × (hart.mode ≡ Kernel)
kernel_is hart true Kernel on mode e = (on, mode)
kernel_is hart true User on mode e = absurd (cc)
kernel_is hart false mode_is on mode e = absurd (cc)

pub turn_started : (q : State) (h : ℕ) (hart : Hart) → slice_get q.harts h ≡ Some hart → hart.started ≡ true → turn q h ≡ turn_of_started q h hart q.loading
unfolding turn turn_of
turn_started q h hart found on = ap (turn_of q h) found ∙ ap (λ (b : Bool). if b then turn_of_started q h hart q.loading else q) on

pub kernel_words_law : KernelWordsLaw
unfolding happen
kernel_words_law s r sound origins digests h hart running found within =
    let k = kernel_is hart hart.started hart.mode refl refl within in
    subst (KernelTurn s r (count r count_turn) h hart)
    (sym (runs_on r (Turn h) running ∙ turn_started (count r count_turn) h hart found k.0))
    (started_turn s r h hart r.loading sound origins digests k.1 refl)
