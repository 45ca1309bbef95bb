-- What is made ready, by the plan's shape.
use Rattle.std.proofs.Common.{◌≡◌, ◌≢◌, ◌+◌, ◌%◌, ℕ, suc, List, ◌∷◌, ◌++◌, map, length, append_assoc, [], true, false, refl, sym, ◌∙◌, ap, Option}
use Rattle.std.proofs.Common.{subst, arith, rules, inl, inr, Some, None, Result, Ok, Err, IsErrAnd, if◌then◌else◌}
use Rattle.std.specs.Option.{option_copied}
use Rattle.std.specs.Str.{bytes_eq}
use Rattle.std.proofs.lemmas.List.{append-nil}
use Rattle.std.proofs.lemmas.Slice.Eq.{bytes_eq-Decides}
use Rattle.sv_types.specs.declared.event.Event.{Event}
use Rattle.sv_types.specs.Policies.{Rules}
use Rattle.spec_reference.specs.Counting.{CountsAtMost}
use Rattle.spec_reference.specs.States.{State}
use Rattle.spec_hardware.specs.Machine.{Machine}
use Rattle.spec_hardware.specs.Reaches.{IsNew}
use Rattle.spec_hardware.specs.StandsFor.{machine_of}
use Rattle.sv_types.specs.ApprovedPages.{numbers_from}
use Rattle.sv_types.specs.Schedule.{Schedule, first_events}
use Rattle.guest_gen.specs.Generated.{generated_image, generated_policy}
use Rattle.sv_types.specs.Measure.{measure}
use Rattle.sv_types.specs.Boot.{no_counts}
use Rattle.sv_types.specs.Limits.{max_events}
use Rattle.spec_reference.specs.Start.{start, flat_start, boot_start, virtio_start}
use Rattle.cli_plans.specs.declared.command_words.command.DiskKind.{DiskKind}
use Rattle.host_io.specs.Outside.{FilesState}
use Rattle.machine.specs.declared.boot.BootRefusal.{BootRefusal}
use Rattle.machine.specs.Boot.{RefusesFlat}
use Rattle.cli_plans.specs.declared.file_fault.FileFault.{FileFault}
use Rattle.cli_plans.specs.declared.file_fault.Part.{Part}
use Rattle.cli_plans.specs.declared.refusal.Refusal.{Refusal}
use Rattle.cli_plans.specs.declared.refusal.Refusal.TheVariants.{ReadFault, File, Measure}
use Rattle.secvisor_cli.specs.declared.ready.PreparedRun.{PreparedRun}
use Rattle.secvisor_cli.specs.declared.ready.Ready.{Ready}
use Rattle.secvisor_cli.specs.declared.ready.Ready.TheVariants.{Run}
use Rattle.secvisor_cli.specs.declared.ready.Stop.{Stop}
use Rattle.secvisor_cli.specs.declared.ready.Stop.TheVariants.{Refused, Memory}
use Rattle.cli_plans.specs.Plans.{Due, Refuse, RunFrom, Plan, End, Judge, Found, Faulty, Missing, Longer, Held, found_plan, read_part}
use Rattle.cli_plans.specs.Plans.{measure_judged, pages_judged, is_whole_pages, gen_disk, gen_due, start_with}
use Rattle.cli_plans.specs.Reading.{FoundAs, Follows}
use Rattle.machine.proofs.Standing.{printed_few}
use Rattle.machine.proofs.Repeated.{counts_are, none_counted}
use Rattle.secvisor_cli.specs.Ready.{read_refusal, PartRead, stop_of, IsFresh, IsReady, IsReadyWhere, Prepares}

-- ---- any plan

-- an error that is handed on
pub err_by : {T E : Type 0} (result : Result T E) (e : E) (P : Result T E → Type 0) → IsErrAnd result (λ x. x ≡ e) → P (Err e) → P result
err_by (Ok x) e P is p = absurd is
err_by (Err x) e P is p = subst (λ y. P (Err y)) (sym is) p

pub end_ready : (due : Due) (files : FilesState) (result : Result Ready Stop) → IsReadyWhere (Some due) result → Prepares (End due) files files result
end_ready due files result ready = record { reached = Some due; follows = (refl, refl); ready = ready }

pub judge_ready : (plan : Plan) (old new : FilesState) (result : Result Ready Stop) → Prepares plan old new result → Prepares (Judge plan) old new result
judge_ready plan old new result p = record { reached = p.reached; follows = inr p.follows; ready = p.ready }

pub judge_wants : (plan : Plan) (files : FilesState) → Prepares (Judge plan) files files (Err Memory)
judge_wants plan files = record { reached = None; follows = inl (refl, refl); ready = refl }

-- what is due is made ready, for which memory may run out
pub judge_end : (due : Due) (files : FilesState) (result : Result Ready Stop) → IsReady due result → Prepares (Judge (End due)) files files result
judge_end due files (Ok ready) it = judge_ready (End due) files files (Ok ready) (end_ready due files (Ok ready) it)
judge_end due files (Err (Refused refusal)) it = judge_ready (End due) files files (Err (Refused refusal)) (end_ready due files (Err (Refused refusal)) it)
judge_end due files (Err Memory) it = judge_wants (End due) files

pub read_ready : (part : Part) (name : List ℕ) (limit : ℕ) (next : List ℕ → Plan) (old now new : FilesState) (bytes : List ℕ) (result : Result Ready Stop) →
    FoundAs old now name limit (Held bytes) → Prepares (next bytes) now new result → Prepares (read_part part name limit next) old new result
unfolding found_plan
read_ready part name limit next old now new bytes result fact p = record { reached = p.reached; follows = inr (Held bytes, now, fact, p.follows); ready = p.ready }

refusal_same : (a b : Refusal) → Some a ≡ Some b → b ≡ a
refusal_same a b is = cc is

not_refused : (r : Refusal) → None ≡ Some r → ⊥
not_refused r is = cc is

unread_ready : (part : Part) (name : List ℕ) (limit : ℕ) (next : List ℕ → Plan) (old new : FilesState) (refusal : Refusal) (found : Found) →
    FoundAs old new name limit found → read_refusal part found ≡ Some refusal → Prepares (read_part part name limit next) old new (Err (Refused refusal))
unfolding found_plan
unread_ready part name limit next old new refusal Faulty fact is = record {
  reached = Some (Refuse (ReadFault part));
  follows = inr (Faulty, new, fact, (refl, refl));
  ready = refusal_same _ _ is;
}
unread_ready part name limit next old new refusal Missing fact is = record {
  reached = Some (Refuse (ReadFault part));
  follows = inr (Missing, new, fact, (refl, refl));
  ready = refusal_same _ _ is;
}
unread_ready part name limit next old new refusal Longer fact is = record {
  reached = Some (Refuse (File (FileFault.Longer part)));
  follows = inr (Longer, new, fact, (refl, refl));
  ready = refusal_same _ _ is;
}
unread_ready part name limit next old new refusal (Held bytes) fact is = absurd (not_refused refusal is)

pub stopped_ready : (part : Part) (name : List ℕ) (limit : ℕ) (next : List ℕ → Plan) (old new : FilesState) (stop : Stop) →
    PartRead part name limit old new (Err stop) → Prepares (read_part part name limit next) old new (Err stop)
stopped_ready part name limit next old new (Refused refusal) it = unread_ready part name limit next old new refusal it.0 it.1 it.2
stopped_ready part name limit next old new Memory it = record { reached = None; follows = inl (refl, it); ready = refl }

-- ---- flat

pub bytes_eq-same : (xs : List ℕ) → bytes_eq xs xs ≡ true
bytes_eq-same xs = search (rules, bytes_eq-Decides)

pub bytes_eq-other : (xs ys : List ℕ) → xs ≢ ys → bytes_eq xs ys ≡ false
bytes_eq-other xs ys other = search (rules, bytes_eq-Decides)

measured_run : (pages wanted : List ℕ) (events : List Event) → measure pages ≡ wanted → measure_judged pages wanted events ≡ RunFrom (flat_start pages wanted) events None
unfolding measure_judged
measured_run pages wanted events same =
    ap (λ b. if b then RunFrom (flat_start pages wanted) events None else Refuse (Measure (measure pages) wanted))
    (ap (λ (w : List ℕ). bytes_eq (measure pages) w) (sym same) ∙ bytes_eq-same (measure pages))

measured_other : (pages wanted : List ℕ) (events : List Event) → measure pages ≢ wanted → measure_judged pages wanted events ≡ Refuse (Measure (measure pages) wanted)
unfolding measure_judged
measured_other pages wanted events other =
    ap (λ b. if b then RunFrom (flat_start pages wanted) events None else Refuse (Measure (measure pages) wanted)) (bytes_eq-other (measure pages) wanted other)

-- a booted machine that has made no event
fresh_state : (s : State) (m : Machine) → s.journal.counts ≡ no_counts → s.journal.printed ≡ [] → IsNew m s → CountsAtMost 0 m.journal.counts × (m.journal.printed ≡ [])
fresh_state s m counts printed new =
    (subst (λ c. CountsAtMost 0 c) (sym (counts_are m s new.stands ∙ counts)) none_counted, printed_few m s new.stands printed)

pub fresh_flat : (pages wanted : List ℕ) (m : Machine) → IsNew m (flat_start pages wanted) → CountsAtMost 0 m.journal.counts × (m.journal.printed ≡ [])
unfolding flat_start start
fresh_flat pages wanted m new = fresh_state (flat_start pages wanted) m refl refl new

pub fresh_boot : (rules : Rules) (file disk : List ℕ) (m : Machine) → IsNew m (boot_start rules file disk) → CountsAtMost 0 m.journal.counts × (m.journal.printed ≡ [])
unfolding boot_start start
fresh_boot rules file disk m new = fresh_state (boot_start rules file disk) m refl refl new

fresh_virtio : (rules : Rules) (file disk : List ℕ) (m : Machine) → IsNew m (virtio_start rules file disk) → CountsAtMost 0 m.journal.counts × (m.journal.printed ≡ [])
unfolding virtio_start start
fresh_virtio rules file disk m new = fresh_state (virtio_start rules file disk) m refl refl new

pub fresh_with : (kind : DiskKind) (rules : Rules) (file disk : List ℕ) (m : Machine) → IsNew m (start_with kind rules file disk) → CountsAtMost 0 m.journal.counts × (m.journal.printed ≡ [])
fresh_with DiskKind.Block rules file disk m new = fresh_boot rules file disk m new
fresh_with DiskKind.Virtio rules file disk m new = fresh_virtio rules file disk m new

-- the machine that boots has the policy's rules
block_rules : (rules : Rules) (file disk : List ℕ) (m : Machine) → IsNew m (boot_start rules file disk) → m.rules ≡ rules
unfolding boot_start start machine_of
block_rules rules file disk m new = ap (λ (x : Machine). x.rules) new.stands.same

virtio_rules : (rules : Rules) (file disk : List ℕ) (m : Machine) → IsNew m (virtio_start rules file disk) → m.rules ≡ rules
unfolding virtio_start start machine_of
virtio_rules rules file disk m new = ap (λ (x : Machine). x.rules) new.stands.same

pub boot_rules : (kind : DiskKind) (rules : Rules) (file disk : List ℕ) (m : Machine) → IsNew m (start_with kind rules file disk) → m.rules ≡ rules
boot_rules DiskKind.Block rules file disk m new = block_rules rules file disk m new
boot_rules DiskKind.Virtio rules file disk m new = virtio_rules rules file disk m new

pub booted_ready : (pages wanted : List ℕ) (events : List Event) (result : Result Ready Stop) → measure pages ≡ wanted → IsReady (RunFrom (flat_start pages wanted) events None) result →
    IsReady (measure_judged pages wanted events) result
booted_ready pages wanted events result same ready = subst (λ (d : Due). IsReady d result) (sym (measured_run pages wanted events same)) ready

-- the boot is refused, or memory ran out
boot_wants : (pages wanted : List ℕ) (events : List Event) → IsReady (measure_judged pages wanted events) (Err Memory)
unfolding measure_judged
boot_wants pages wanted events =
    elim (bytes_eq (measure pages) wanted) as (λ b. IsReady (if b then RunFrom (flat_start pages wanted) events None else Refuse (Measure (measure pages) wanted)) (Err Memory)) [
      | true ↦ tt
      | false ↦ tt
    ]

pub stopped_boot : (pages wanted : List ℕ) (events : List Event) (boot : BootRefusal) → RefusesFlat pages wanted boot → IsReady (measure_judged pages wanted events) (Err (stop_of boot))
stopped_boot pages wanted events (BootRefusal.Measure found asked) it =
    let other : measure pages ≢ wanted = λ is. it.2 (it.0 ∙ is) in
    subst (λ (d : Due). IsReady d (Err (Refused (Refusal.Measure found asked)))) (sym (measured_other pages wanted events other))
    (ap (λ (f : List ℕ). Refusal.Measure f asked) it.0 ∙ ap (λ (w : List ℕ). Refusal.Measure (measure pages) w) it.1)
stopped_boot pages wanted events (BootRefusal.Entry entry) it = absurd it
stopped_boot pages wanted events BootRefusal.Memory it = boot_wants pages wanted events

pub pages_ready : (bytes wanted : List ℕ) (events : List Event) (result : Result Ready Stop) → is_whole_pages bytes ≡ true → IsReady (measure_judged bytes wanted events) result →
    IsReady (pages_judged bytes wanted events) result
unfolding pages_judged
pages_ready bytes wanted events result whole ready =
    subst (λ b. IsReady (if b then measure_judged bytes wanted events else Refuse (File FileFault.FlatPages)) result) (sym whole) ready

pub part_of_pages : (bytes wanted : List ℕ) (events : List Event) → is_whole_pages bytes ≡ false → IsReady (pages_judged bytes wanted events) (Err (Refused (File FileFault.FlatPages)))
unfolding pages_judged
part_of_pages bytes wanted events part =
    subst (λ b. IsReady (if b then measure_judged bytes wanted events else Refuse (File FileFault.FlatPages)) (Err (Refused (File FileFault.FlatPages)))) (sym part) refl

-- ---- gen

pub gen_ready : (calls : ℕ) (ready : PreparedRun) → IsNew ready.machine (boot_start (generated_policy calls) (generated_image calls) gen_disk) →
    ready.events ≡ max_events → ready.script ≡ Schedule.Weave 0 → ready.save ≡ None → IsReady (gen_due calls) (Ok (Run ready))
unfolding gen_due
gen_ready calls ready new events script save =
    let fresh = fresh_boot (generated_policy calls) (generated_image calls) gen_disk ready.machine new in (
      new,
      ap (λ (n : ℕ). first_events n ready.script) events ∙ ap (λ (s : Schedule). first_events max_events s) script,
      ap option_copied save,
      record {
        events = omega arith;
        state = record { state = _; stands = new.stands };
        counts = fresh.0;
        console = fresh.1;
      },
    )

pub gen_wants : (calls : ℕ) → IsReady (gen_due calls) (Err Memory)
unfolding gen_due
gen_wants calls = tt

-- ---- the disk of the generated guest

-- the bytes of so many places from one on
unfoldable pub bytes_from : ℕ → ℕ → List ℕ
bytes_from place count = map (λ p. p % 256) (numbers_from place count)

pub disk_begun : bytes_from 0 1024 ≡ gen_disk
unfolding bytes_from gen_disk
disk_begun = refl

pub disk_more : (items : List ℕ) (place left : ℕ) → items ++ bytes_from place (suc left) ≡ gen_disk → (items ++ (place % 256) ∷ []) ++ bytes_from (place + 1) left ≡ gen_disk
unfolding bytes_from
disk_more items place left whole = append_assoc items ((place % 256) ∷ []) (bytes_from (place + 1) left) ∙ whole

pub disk_all : (items : List ℕ) (place : ℕ) → items ++ bytes_from place 0 ≡ gen_disk → items ≡ gen_disk
unfolding bytes_from
disk_all items place whole = sym (append-nil items) ∙ whole

pub disk_sectors : length gen_disk % 512 ≡ 0
unfolding gen_disk
disk_sectors = refl

-- ---- where a plan ends

refused_is : (reached : Option Due) (given : Refusal) → IsReadyWhere reached (Err (Refused given)) → reached ≡ Some (Refuse given)
refused_is None given it = absurd (cc it)
refused_is (Some (Refuse refusal)) given it = ap (λ (r : Refusal). Some (Refuse r)) (sym it)
refused_is _ given it = absurd it

pub refused_follows : (plan : Plan) (old new : FilesState) (given : Refusal) → Prepares plan old new (Err (Refused given)) → Follows plan old new (Some (Refuse given))
refused_follows plan old new given p = subst (λ (r : Option Due). Follows plan old new r) (refused_is p.reached given p.ready) p.follows

wanting_is : (reached : Option Due) → IsReadyWhere reached (Err Memory) → reached ≡ None
wanting_is None it = refl
wanting_is (Some due) it = absurd it

pub wanting_follows : (plan : Plan) (old new : FilesState) → Prepares plan old new (Err Memory) → Follows plan old new None
wanting_follows plan old new p = subst (λ (r : Option Due). Follows plan old new r) (wanting_is p.reached p.ready) p.follows

-- a machine that is ready, and its run, which is due
pub record Begins (plan : Plan) (old new : FilesState) (booted : PreparedRun) : Type 0 where
  pub start : State
  pub follows : Follows plan old new (Some (RunFrom start (first_events booted.events booted.script) (option_copied booted.save)))
  pub is_new : IsNew booted.machine start
  pub fresh : IsFresh booted

begins_where : (plan : Plan) (old new : FilesState) (booted : PreparedRun) (reached : Option Due) → Follows plan old new reached → IsReadyWhere reached (Ok (Run booted)) → Begins plan old new booted
begins_where plan old new booted (Some (RunFrom start events save)) follows it = record {
  start = start;
  follows =
      subst (λ (es : List Event). Follows plan old new (Some (RunFrom start es (option_copied booted.save)))) (sym it.1)
      (subst (λ (name : Option (List ℕ)). Follows plan old new (Some (RunFrom start events name))) (sym it.2) follows);
  is_new = it.0;
  fresh = it.3;
}
begins_where plan old new booted None follows it = absurd (cc it)
begins_where plan old new booted _ follows it = absurd it

pub begins : (plan : Plan) (old new : FilesState) (booted : PreparedRun) → Prepares plan old new (Ok (Run booted)) → Begins plan old new booted
begins plan old new booted p = begins_where plan old new booted p.reached p.follows p.ready
