use Rattle.std.proofs.Common.{refl, sym, ◌∙◌, arith, subst}
use Rattle.sv_types.specs.declared.event.Verdict.{Verdict}
use Rattle.cli_live.specs.Coming.{MayCome}
use Rattle.cli_live.specs.LiveRuns.{harts_of, events_made}
use Rattle.cli_live.proofs.DrawnEvents.{drawn_is, drawn_more, drawn_no_key, same_harts}
use Rattle.cli_live.proofs.MadeEvents.{on_to, breaks_due, breaks_to, ok_both, err_map, may_step, auto_counted, auto_made}
use Rattle.cli_live.proofs.making.make_auto.Goals as goal

pub make-requires-clause-may : goal.make-requires-clause-may
make-requires-clause-may g c = may_step c.args.live.now c.requires.on.way c.requires.on.room (omega arith)

pub make-requires-clause-came : goal.make-requires-clause-came
make-requires-clause-came g c = subst (λ (v : Verdict). MayCome v c.in-Some.event) (sym c.requires.running) tt

pub returns-clause-drawn : goal.returns-clause-drawn
returns-clause-drawn g c =
    let drawn = drawn_is _ c.args.live.now.script c.in-Some.event c.requires.on.way.drawn (sym c.in-Some.is ∙ c.next.ensures.event) in
    record {
      front = events_made c.args.live.now;
      last = c.in-Some.event;
      split =
          auto_made c.args.live.now.script c.next.new.self c.args.live.now.journal c.add_auto.new.self c.in-Some.event drawn c.next.ensures.rest
          (c.add_auto.ensures.events (harts_of c.args.live.now.script));
      drawn = drawn_no_key _ _ c.in-Some.event drawn;
    }

pub returns-clause-drives : goal.returns-clause-drives
returns-clause-drives g c =
    let way = c.requires.on.way in
    let drawn = drawn_is _ c.args.live.now.script c.in-Some.event way.drawn (sym c.in-Some.is ∙ c.next.ensures.event) in
    let all = auto_made c.args.live.now.script c.next.new.self c.args.live.now.journal c.add_auto.new.self c.in-Some.event drawn c.next.ensures.rest
    (c.add_auto.ensures.events (harts_of c.args.live.now.script)) in
    record {
      on = ok_both c.make.result _ _ _ (λ on room. record { went = on_to (on (events_made c.args.live.now)) all; room = room }) c.make.ensures.on c.make.ensures.room;
      broke = err_map c.make.result _ _ (λ off. breaks_due (breaks_to (off (events_made c.args.live.now)) all)) c.make.ensures.broke;
      stays = record {
        way = record {
          keys = c.add_auto.ensures.bytes ∙ way.keys;
          few = way.few;
          places = c.add_auto.ensures.room way.places;
          drawn = drawn_more _ _ _ _ way.drawn c.next.ensures.rest c.add_auto.ensures.autos;
          state = c.make.ensures.state;
          counts = auto_counted c.args.live.now.journal c.add_auto.new.self _ c.add_auto.ensures.bytes c.add_auto.ensures.autos (c.make.ensures.counts _ way.counts);
        };
        line = refl;
        all = refl;
        harts = same_harts _ _ c.next.ensures.rest;
        events = refl;
      };
    }
