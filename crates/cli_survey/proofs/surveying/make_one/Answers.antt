use Rattle.std.proofs.Common.{◌≡◌, ◌<◌, length, refl, subst, sym, arith}
use Rattle.sv_types.specs.Limits.{max_printed}
use Rattle.spec_hardware.specs.Machine.{Machine}
use Rattle.host_io.proofs.SinkLemmas.{on_err}
use Rattle.machine.specs.Standing.{HasState}
use Rattle.machine.proofs.ConsoleLemmas.{room_again}
use Rattle.cli_survey.specs.Advances.{BreaksAtOne}
use Rattle.machine.proofs.Repeated.{rows_repeat}
use Rattle.machine.proofs.Standing.{flushed_none}
use Rattle.cli_survey.proofs.LookLemmas.{one_refuses}
use Rattle.cli_survey.proofs.RowLemmas.{once_from, once_made}
use Rattle.cli_survey.proofs.surveying.make_one.Goals as goal

pub returns-then-idles-clause-made : goal.returns-then-idles-clause-made
returns-then-idles-clause-made g c =
    let made = c.idles.ensures.made c.if-idles.true in
    let stays = c.idles.ensures.quiet c.if-idles.true in
    let room = c.requires.room in
    let quiet = stays.on.quiet in
    record {
      next = c.idles.new.self;
      made = record {
        some = made.some;
        chain = rows_repeat 1 c.args.machine.now c.idles.new.self c.args.event made.chain;
        refuses = λ r stands. one_refuses 1 c.args.event r refl;
        counts = made.counts;
      };
      flushed = flushed_none c.idles.new.self (g.O.Sink.state c.args.out.now);
      room = omega (arith, room, quiet);
    }

pub flush_or_pass-requires-clause-room : goal.flush_or_pass-requires-clause-room
flush_or_pass-requires-clause-room g c =
    let same : c.idles.new.self ≡ c.args.machine.now = c.idles.ensures.same c.if-idles.false in
    room_again c.repeat.result c.idles.new.self c.repeat.new.self c.args.event (subst HasState (sym same) c.requires.has) c.repeat.ensures.chain
    (subst (λ (m : Machine). length m.journal.printed < max_printed) (sym same) c.requires.room)

pub returns-in_err-flush_or_pass-clause-broke : goal.returns-in_err-flush_or_pass-clause-broke
returns-in_err-flush_or_pass-clause-broke g c =
    let same : c.idles.new.self ≡ c.args.machine.now = c.idles.ensures.same c.if-idles.false in
    let made = once_from c.repeat.result c.args.machine.now c.idles.new.self c.repeat.new.self c.args.event same c.repeat.ensures.most
    (once_made c.repeat.result c.idles.new.self c.repeat.new.self c.args.event c.repeat.ensures.some c.repeat.ensures.most c.repeat.ensures.chain c.repeat.ensures.counts) in
    let broke : BreaksAtOne c.args.machine.now c.args.event c.flush_or_pass.new.machine (g.O.Sink.state c.args.out.now) (g.O.Sink.state c.flush_or_pass.new.out) = record {
      next = c.repeat.new.self;
      made = made;
      is_passed = c.in_err-flush_or_pass.ensures.passed;
      broke = c.in_err-flush_or_pass.ensures.failed;
    } in
    on_err _ _ broke

pub returns-clause-made : goal.returns-clause-made
returns-clause-made g c =
    let same : c.idles.new.self ≡ c.args.machine.now = c.idles.ensures.same c.if-idles.false in
    let made = once_from c.repeat.result c.args.machine.now c.idles.new.self c.repeat.new.self c.args.event same c.repeat.ensures.most
    (once_made c.repeat.result c.idles.new.self c.repeat.new.self c.args.event c.repeat.ensures.some c.repeat.ensures.most c.repeat.ensures.chain c.repeat.ensures.counts) in
    record { next = c.repeat.new.self; made = made; flushed = c.in_ok-flush_or_pass.ensures.flushed; room = c.in_ok-flush_or_pass.ensures.room }
