use Rattle.std.proofs.Common.{◌≡◌, ◌≢◌, ◌⊎◌, ◌<◌, ℕ, List, [], length, ◌∙◌, ap, sym, inl, inr, rules, arith}
use Rattle.sv_types.specs.Limits.{max_printed}
use Rattle.sv_types.specs.declared.event.Verdict.{Verdict}
use Rattle.sv_types.specs.declared.event.Verdict.TheVariants.{Running}
use Rattle.cli_live.specs.LiveRuns.{events_made}
use Rattle.cli_live.proofs.MadeEvents.{breaks_shown, shown_last, on_breaks, may_write, on_ok, on_then, ok_both, err_map, cleared_way, cleared_verdict, may_drive, driven_then, stays_then, drives_off}
use Rattle.cli_live.proofs.live_run.LiveRun.drive.Goals as goal

none_printed : {bytes : List ℕ} → bytes ≡ [] → length bytes < max_printed
none_printed {bytes = bytes} none = let none_of : length bytes ≡ 0 = ap (λ (b : List ℕ). length b) none in omega arith

pub make_keys-requires-clause-may : goal.make_keys-requires-clause-may
make_keys-requires-clause-may g c = may_drive c.requires.may c.in_ok-make_autos.ensures.drives.on c.in_ok-make_autos.ensures.drives.stays

pub returns-in_err-make_autos-clause-drives : goal.returns-in_err-make_autos-clause-drives
returns-in_err-make_autos-clause-drives g c =
    drives_off c.from_residual.result (search rules) c.in_err-make_autos.ensures.drives.broke c.in_err-make_autos.ensures.drives.stays

pub returns-in_err-make_keys-clause-drives : goal.returns-in_err-make_keys-clause-drives
returns-in_err-make_keys-clause-drives g c =
    drives_off c.from_residual-in_err-make_keys.result (search rules) (on_breaks c.in_ok-make_autos.ensures.drives.on.went c.in_err-make_keys.ensures.drives.broke)
    (stays_then c.in_ok-make_autos.ensures.drives.stays c.in_err-make_keys.ensures.drives.stays)

pub show_console-requires : goal.show_console-requires
show_console-requires g c = record {
  sink = may_write (driven_then c.in_ok-make_autos.ensures.drives.on c.in_ok-make_keys.ensures.drives.on).went c.requires.may.sink;
}

end_then : (autos events now : ℕ) (old mid new : Verdict) → (autos ≡ events) ⊎ (old ≢ Running) → now ≡ autos → (old ≢ Running → mid ≢ Running) → new ≡ mid → (now ≡ events) ⊎ (new ≢ Running)
end_then autos events now old mid new (inl is) same keeps verdict = inl (same ∙ is)
end_then autos events now old mid new (inr ended) same keeps verdict = inr (λ is. keeps ended (sym verdict ∙ is))

of_new : (now old new : ℕ) (P : Type 0) → (now ≡ old) ⊎ P → new ≡ old → (now ≡ new) ⊎ P
of_new now old new P (inl is) same = inl (is ∙ sym same)
of_new now old new P (inr over) same = inr over

pub returns-clause-drives : goal.returns-clause-drives
returns-clause-drives g c =
    let autos = c.in_ok-make_autos.ensures.drives in
    let keys = c.in_ok-make_keys.ensures.drives in
    let driven = driven_then autos.on keys.on in
    let last = of_new _ _ _ _ (end_then _ _ _ _ _ _ c.in_ok-make_autos.ensures.end c.make_keys.ensures.autos (λ ended is. ended (sym c.make_keys.ensures.verdict ∙ is))
    (cleared_verdict _ _ c.show_console.ensures.cleared))
    (keys.stays.events ∙ autos.stays.events) in
    record {
      on = ok_both c.show_console.result _ _ _ (λ on none. record { went = on_then driven.went (on (events_made c.make_keys.new.live)); room = none_printed none })
          c.show_console.ensures.on c.show_console.ensures.none;
      broke = err_map c.show_console.result _ _
          (λ off. on_breaks driven.went (breaks_shown (shown_last (record c.make_keys.new.live { machine = c.show_console.new.machine }) last)
          (off (events_made c.make_keys.new.live)))) c.show_console.ensures.broke;
      stays = stays_then (stays_then autos.stays keys.stays) (cleared_way c.make_keys.new.live c.show_console.new.machine keys.stays.way c.show_console.ensures.cleared);
    }

pub returns-clause-end : goal.returns-clause-end
returns-clause-end g c =
    on_ok c.show_console.result _
    (end_then _ _ _ _ _ _ c.in_ok-make_autos.ensures.end c.make_keys.ensures.autos (λ ended is. ended (sym c.make_keys.ensures.verdict ∙ is)) (cleared_verdict _ _ c.show_console.ensures.cleared))
