use Rattle.std.proofs.Common.{List, drop, refl, sym, ◌∙◌, ap, arith}
use Rattle.sv_types.specs.declared.event.Event.{Event}
use Rattle.cli_snap.specs.ResumePlans.{events_after}
use Rattle.cli_debug.proofs.target.debugged.DebuggedMachine.go_to.Goals as goal

pub invariant_of-self : goal.invariant_of-self
invariant_of-self g c =
    let early = c.requires.early in
    let fewer = c.draw_after-script.ensures.fewer in
    record {
      none = c.requires.none;
      some = c.draw_after-script.ensures.some;
      counts = c.requires.counts;
      few = omega (arith, early, fewer);
      limit = c.args.self.now.limit;
    }

pub returns : goal.returns
returns g c = λ run at within here. record {
  kernel_is = at.kernel_is;
  starts = at.starts;
  events_are = at.events_are;
  made_are = refl;
  within = within;
  here = here;
  left_are = c.draw_after-script.ensures.same ∙ ap (events_after c.args.made c.args.self.now.events) c.in_ok-script.ensures
      ∙ ap (λ (es : List Event). drop c.args.made es) (sym at.events_are);
  measured = at.measured;
  text_is = at.text_is;
  kept = at.kept;
}
