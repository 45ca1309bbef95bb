use Rattle.std.proofs.Common.{◌≤◌, ℕ, List, [], ◌∷◌, ◌++◌, refl, sym, ◌∙◌, ap, subst, rules}
use Rattle.sv_types.specs.Limits.{max_events}
use Rattle.cli_live.specs.LiveRuns.{harts_of}
use Rattle.cli_live.proofs.DrawnEvents.{drawn_same}
use Rattle.cli_live.proofs.MadeEvents.{on_none, on_then, breaks_due, on_breaks, may_write, may_step, key_counted, drives_off}
use Rattle.cli_live.proofs.making.make_keys.Goals as goal

pub keys-init : goal.keys-init
keys-init g c = record {
  on = record { went = on_none _ _ _; room = c.requires.may.on.room };
  stays = record { way = c.requires.may.on.way; line = refl; all = refl; harts = refl; events = refl };
  script = refl;
  autos = refl;
  verdict = refl;
}

pub make_key-requires-clause-sink : goal.make_key-requires-clause-sink
make_key-requires-clause-sink g c = may_write c.keys.invariant.on.went c.requires.may.sink

pub make_key-requires-clause-may : goal.make_key-requires-clause-may
make_key-requires-clause-may g c =
    let autos : c.keys.live.journal.autos ≤ max_events = subst (λ (n : ℕ). n ≤ max_events) (sym c.keys.invariant.autos) c.requires.autos in
    may_step c.keys.live c.keys.invariant.stays.way c.keys.invariant.on.room autos

pub make_key-requires-clause-places : goal.make_key-requires-clause-places
make_key-requires-clause-places g c = c.keys.invariant.stays.way.places

pub keys-preserved : goal.keys-preserved
keys-preserved g c =
    let stays = c.keys.invariant.stays in
    let way = stays.way in
    record {
      on = record { went = on_then c.keys.invariant.on.went (c.in_ok-make_key.ensures.on (harts_of c.keys.live.script)); room = c.in_ok-make_key.ensures.room };
      stays = record {
        way = record {
          keys = c.make_key.ensures.keys ∙ ap (λ (bytes : List ℕ). bytes ++ c.in-Some.byte ∷ []) way.keys ∙ sym c.in-Some.ensures.given;
          few = c.take.ensures.few;
          places = c.make_key.ensures.places;
          drawn = drawn_same _ _ c.keys.live.script way.drawn c.make_key.ensures.autos;
          state = c.make_key.ensures.state;
          counts = key_counted c.keys.live.journal c.make_key.new.journal c.in-Some.byte _ c.make_key.ensures.keys c.make_key.ensures.autos (c.make_key.ensures.counts _ way.counts);
        };
        line = c.take.ensures.line ∙ sym c.requires.may.line;
        all = c.take.ensures.all ∙ stays.all;
        harts = stays.harts;
        events = stays.events;
      };
      script = c.keys.invariant.script;
      autos = c.make_key.ensures.autos ∙ c.keys.invariant.autos;
      verdict = c.make_key.ensures.verdict ∙ c.keys.invariant.verdict;
    }

pub returns-in_err-make_key-clause-drives : goal.returns-in_err-make_key-clause-drives
returns-in_err-make_key-clause-drives g c =
    let stays = c.keys.invariant.stays in
    let way = stays.way in
    drives_off c.from_residual.result (search rules) (on_breaks c.keys.invariant.on.went (breaks_due (c.in_err-make_key.ensures.broke (harts_of c.keys.live.script)))) (record {
      way = record {
        keys = c.make_key.ensures.keys ∙ ap (λ (bytes : List ℕ). bytes ++ c.in-Some.byte ∷ []) way.keys ∙ sym c.in-Some.ensures.given;
        few = c.take.ensures.few;
        places = c.make_key.ensures.places;
        drawn = drawn_same _ _ c.keys.live.script way.drawn c.make_key.ensures.autos;
        state = c.make_key.ensures.state;
        counts = key_counted c.keys.live.journal c.make_key.new.journal c.in-Some.byte _ c.make_key.ensures.keys c.make_key.ensures.autos (c.make_key.ensures.counts _ way.counts);
      };
      line = c.take.ensures.line ∙ sym c.requires.may.line;
      all = c.take.ensures.all ∙ stays.all;
      harts = stays.harts;
      events = stays.events;
    })

pub returns-clause-drives : goal.returns-clause-drives
returns-clause-drives g c =
    let stays = c.keys.invariant.stays in
    let way = stays.way in
    record {
      on = record { went = c.keys.invariant.on.went; room = c.keys.invariant.on.room };
      broke = tt;
      stays = record {
        way = record {
          keys = way.keys ∙ sym c.in_default.ensures.none;
          few = c.take.ensures.few;
          places = way.places;
          drawn = way.drawn;
          state = way.state;
          counts = way.counts;
        };
        line = c.take.ensures.line ∙ sym c.requires.may.line;
        all = c.take.ensures.all ∙ stays.all;
        harts = stays.harts;
        events = stays.events;
      };
    }
