use Rattle.std.proofs.Common.{◌+◌, sym, ◌∙◌, subst, refl, arith}
use Rattle.hart.specs.Cores.{core_of}
use Rattle.hw_fast_path.specs.Quick.{Leads}
use Rattle.hw_fast_path.specs.declared.window.Window.{Window}
use Rattle.hw_fast_path.proofs.Exits.{ends_left, ends_there, goes_left, leaving_within, stopped_course}
use Rattle.hw_fast_path.proofs.Going.{course_further, course_kept, course_stays, goes_further, goes_nowhere, batch_more, batch_starts, batch_stays}
use Rattle.hw_fast_path.proofs.Windows.{no_window}
use Rattle.hw_fast_path.proofs.batch.batch_of_turns.Goals as goal

pub turns-init : goal.turns-init
turns-init c = record {
  batch = batch_starts c.args.mem.now (core_of c.args.core.now c.args.regs.now);
  course = course_stays c.args.core.now.csrs;
  on = goes_nowhere c.args.mem.now c.args.core.now c.args.regs.now c.args.caches.now.second c.requires.may.ready c.requires.may.free;
  leads = subst (λ (w : Window). Leads c.args.mem.now (core_of c.args.core.now c.args.regs.now) w.page w.host) (sym c.none-window.ensures)
      (no_window c.args.mem.now (core_of c.args.core.now c.args.regs.now) 0);
  few = omega arith;
  reach = c.requires.may.reach;
}

pub returns-then-not-is_made-clause-ends : goal.returns-then-not-is_made-clause-ends
returns-then-not-is_made-clause-ends c =
    let stopped = sym c.is_made.ensures ∙ c.if-not-is_made.true in
    ends_left c.leave-left.result c.turns.made c.args.mem.now c.turn-tried.new.mem (core_of c.args.core.now c.args.regs.now)
    (core_of c.turn-tried.new.core c.args.regs.now) (core_of c.leave-left.new.core c.args.regs.now)
    (batch_stays c.turn-tried.result c.turns.made c.args.mem.now c.turns.mem c.turn-tried.new.mem (core_of c.args.core.now c.args.regs.now) (core_of c.turns.core c.args.regs.now)
    (core_of c.turn-tried.new.core c.args.regs.now) c.turns.invariant.course refl c.turns.invariant.batch stopped c.turn-tried.ensures.comes)
    (course_further c.args.core.now.csrs c.turns.core.csrs c.turn-tried.new.core.csrs c.turns.invariant.course
    (stopped_course c.turn-tried.result c.turns.core.csrs c.turn-tried.new.core.csrs stopped c.turn-tried.ensures.turned.course))
    refl c.leave-left.ensures.comes

pub returns-then-not-is_made-clause-most : goal.returns-then-not-is_made-clause-most
returns-then-not-is_made-clause-most c = leaving_within c.leave-left.result c.turns.made c.args.most (omega (arith, c.turns-test.true))

pub returns-then-not-is_made-clause-on : goal.returns-then-not-is_made-clause-on
returns-then-not-is_made-clause-on c =
    goes_left c.args.mem.now c.turn-tried.new.mem c.args.core.now c.turn-tried.new.core c.leave-left.new.core c.args.regs.now c.args.caches.now.second c.turn-tried.new.caches.second
    (goes_further c.args.mem.now c.turns.mem c.turn-tried.new.mem c.args.core.now c.turns.core c.turn-tried.new.core c.args.regs.now
    c.args.caches.now.second c.turns.caches.second c.turn-tried.new.caches.second
    c.turns.invariant.on c.turn-tried.ensures.turned.on)
    c.leave-left.ensures.pc c.leave-left.ensures.reservation

pub returns-then-not-keeps_course-clause-ends : goal.returns-then-not-keeps_course-clause-ends
returns-then-not-keeps_course-clause-ends c =
    ends_there (c.turns.made + 1) c.args.mem.now c.turn-tried.new.mem (core_of c.args.core.now c.args.regs.now) (core_of c.turn-tried.new.core c.args.regs.now)
    (batch_more c.turn-tried.result c.turns.made c.args.mem.now c.turns.mem c.turn-tried.new.mem (core_of c.args.core.now c.args.regs.now) (core_of c.turns.core c.args.regs.now)
    (core_of c.turn-tried.new.core c.args.regs.now) c.turns.invariant.course refl c.turns.invariant.batch (sym c.is_made.ensures ∙ c.if-not-is_made.false) c.turn-tried.ensures.comes)

pub returns-then-not-keeps_course-clause-on : goal.returns-then-not-keeps_course-clause-on
returns-then-not-keeps_course-clause-on c =
    goes_further c.args.mem.now c.turns.mem c.turn-tried.new.mem c.args.core.now c.turns.core c.turn-tried.new.core c.args.regs.now
    c.args.caches.now.second c.turns.caches.second c.turn-tried.new.caches.second
    c.turns.invariant.on c.turn-tried.ensures.turned.on

pub turns-preserved : goal.turns-preserved
turns-preserved c = record {
  batch = batch_more c.turn-tried.result c.turns.made c.args.mem.now c.turns.mem c.turn-tried.new.mem (core_of c.args.core.now c.args.regs.now) (core_of c.turns.core c.args.regs.now)
      (core_of c.turn-tried.new.core c.args.regs.now) c.turns.invariant.course refl c.turns.invariant.batch (sym c.is_made.ensures ∙ c.if-not-is_made.false) c.turn-tried.ensures.comes;
  course = course_further c.args.core.now.csrs c.turns.core.csrs c.turn-tried.new.core.csrs c.turns.invariant.course
      (course_kept c.turn-tried.result c.turns.core.csrs c.turn-tried.new.core.csrs (sym c.keeps_course.ensures ∙ c.if-not-keeps_course.false) c.turn-tried.ensures.turned.course);
  on = goes_further c.args.mem.now c.turns.mem c.turn-tried.new.mem c.args.core.now c.turns.core c.turn-tried.new.core c.args.regs.now
      c.args.caches.now.second c.turns.caches.second c.turn-tried.new.caches.second
      c.turns.invariant.on c.turn-tried.ensures.turned.on;
  leads = c.turn-tried.ensures.leads;
  few = omega (arith, c.turns-test.true);
  reach = c.turn-tried.ensures.turned.reach;
}

pub returns-clause-ends : goal.returns-clause-ends
returns-clause-ends c =
    ends_there c.turns.made c.args.mem.now c.turns.mem (core_of c.args.core.now c.args.regs.now) (core_of c.turns.core c.args.regs.now) c.turns.invariant.batch

pub returns-clause-on : goal.returns-clause-on
returns-clause-on c = c.turns.invariant.on
