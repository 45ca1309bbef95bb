use Rattle.std.proofs.Common.{sym, ◌∙◌, ap, subst, arith}
use Rattle.spec_processor.specs.Hardware.{Attempted}
use Rattle.spec_processor.specs.HardwareAttempt.{after_word}
use Rattle.hart.specs.Cores.{core_of}
use Rattle.hw_fast_path.specs.Quick.{Comes, Leads}
use Rattle.hw_fast_path.specs.declared.tried.Tried.TheVariants.{Stopped, Retired, Stored, ContextChanged}
use Rattle.hw_fast_path.specs.declared.window.Window.{Window}
use Rattle.hw_fast_path.proofs.Going.{attempt_at, low, stayed_leads, stored_leads, turned_after}
use Rattle.hw_fast_path.proofs.Windows.{no_window}
use Rattle.hw_fast_path.proofs.batch.turn.Goals as goal

pub returns-in-Stopped-clause-comes : goal.returns-in-Stopped-clause-comes
returns-in-Stopped-clause-comes c = λ lines none. c.in-Stopped.ensures.comes lines

pub returns-in-Stopped-clause-leads : goal.returns-in-Stopped-clause-leads
returns-in-Stopped-clause-leads c =
    stayed_leads c.args.mem.now c.carry_out.new.mem c.args.core.now c.carry_out.new.core c.args.regs.now c.in-Some.here.page c.in-Some.here.host
    (c.in-Stopped.ensures.comes low).0 c.in-Stopped.ensures.turned.course c.in-Some.ensures.leads

pub returns-in-Retired-clause-leads : goal.returns-in-Retired-clause-leads
returns-in-Retired-clause-leads c =
    stayed_leads c.args.mem.now c.carry_out.new.mem c.args.core.now c.carry_out.new.core c.args.regs.now c.in-Some.here.page c.in-Some.here.host
    (c.in-Retired.ensures.comes low).0 c.in-Retired.ensures.turned.course c.in-Some.ensures.leads

pub returns-in-Stored-clause-leads : goal.returns-in-Stored-clause-leads
returns-in-Stored-clause-leads c =
    stored_leads c.args.mem.now c.carry_out.new.mem c.args.core.now c.carry_out.new.core c.args.regs.now c.at_pc.new.caches.second c.carry_out.new.caches.second c.in-Some.here c.behind_store.result
    c.carry_out.ensures.turned.on c.in-Stored.ensures.turned.course c.requires.may.ready.walk.apart c.in-Some.ensures.leads c.behind_store.ensures.bare c.behind_store.ensures.paged

pub returns-in-ContextChanged-clause-leads : goal.returns-in-ContextChanged-clause-leads
returns-in-ContextChanged-clause-leads c =
    subst (λ (w : Window). Leads c.carry_out.new.mem (core_of c.carry_out.new.core c.args.regs.now) w.page w.host) (sym c.none.ensures)
    (no_window c.carry_out.new.mem (core_of c.carry_out.new.core c.args.regs.now) 0)

pub returns-in-Retired-clause-comes : goal.returns-in-Retired-clause-comes
returns-in-Retired-clause-comes c = λ lines none.
    subst (λ (a : Attempted). Comes Retired a c.args.mem.now c.carry_out.new.mem (core_of c.args.core.now c.args.regs.now) (core_of c.carry_out.new.core c.args.regs.now))
    (ap (after_word c.args.mem.now (core_of c.args.core.now c.args.regs.now) lines) (c.micro_op.ensures ∙ c.word-word.ensures)
    ∙ sym (attempt_at c.args.mem.now (core_of c.args.core.now c.args.regs.now) lines c.in-Some.here.page c.in-Some.here.host none (omega arith) c.in-Some.ensures.page c.in-Some.ensures.leads))
    (c.in-Retired.ensures.comes lines)

pub returns-in-Stored-clause-comes : goal.returns-in-Stored-clause-comes
returns-in-Stored-clause-comes c = λ lines none.
    subst (λ (a : Attempted). Comes Stored a c.args.mem.now c.carry_out.new.mem (core_of c.args.core.now c.args.regs.now) (core_of c.carry_out.new.core c.args.regs.now))
    (ap (after_word c.args.mem.now (core_of c.args.core.now c.args.regs.now) lines) (c.micro_op.ensures ∙ c.word-word.ensures)
    ∙ sym (attempt_at c.args.mem.now (core_of c.args.core.now c.args.regs.now) lines c.in-Some.here.page c.in-Some.here.host none (omega arith) c.in-Some.ensures.page c.in-Some.ensures.leads))
    (c.in-Stored.ensures.comes lines)

pub returns-in-ContextChanged-clause-comes : goal.returns-in-ContextChanged-clause-comes
returns-in-ContextChanged-clause-comes c = λ lines none.
    subst (λ (a : Attempted). Comes ContextChanged a c.args.mem.now c.carry_out.new.mem (core_of c.args.core.now c.args.regs.now) (core_of c.carry_out.new.core c.args.regs.now))
    (ap (after_word c.args.mem.now (core_of c.args.core.now c.args.regs.now) lines) (c.micro_op.ensures ∙ c.word-word.ensures)
    ∙ sym (attempt_at c.args.mem.now (core_of c.args.core.now c.args.regs.now) lines c.in-Some.here.page c.in-Some.here.host none (omega arith) c.in-Some.ensures.page c.in-Some.ensures.leads))
    (c.in-ContextChanged.ensures.comes lines)

pub returns-in-Stopped-clause-turned : goal.returns-in-Stopped-clause-turned
returns-in-Stopped-clause-turned c =
    turned_after Stopped c.args.mem.now c.carry_out.new.mem c.args.core.now c.carry_out.new.core c.args.regs.now c.args.caches.now.second c.at_pc.new.caches.second c.carry_out.new.caches.second
    c.at_pc.new.caches.both c.carry_out.new.caches.both c.at_pc.ensures.translated c.in-Stopped.ensures.turned

pub returns-in-Retired-clause-turned : goal.returns-in-Retired-clause-turned
returns-in-Retired-clause-turned c =
    turned_after Retired c.args.mem.now c.carry_out.new.mem c.args.core.now c.carry_out.new.core c.args.regs.now c.args.caches.now.second c.at_pc.new.caches.second c.carry_out.new.caches.second
    c.at_pc.new.caches.both c.carry_out.new.caches.both c.at_pc.ensures.translated c.in-Retired.ensures.turned

pub returns-in-Stored-clause-turned : goal.returns-in-Stored-clause-turned
returns-in-Stored-clause-turned c =
    turned_after Stored c.args.mem.now c.carry_out.new.mem c.args.core.now c.carry_out.new.core c.args.regs.now c.args.caches.now.second c.at_pc.new.caches.second c.carry_out.new.caches.second
    c.at_pc.new.caches.both c.carry_out.new.caches.both c.at_pc.ensures.translated c.in-Stored.ensures.turned

pub returns-in-ContextChanged-clause-turned : goal.returns-in-ContextChanged-clause-turned
returns-in-ContextChanged-clause-turned c =
    turned_after ContextChanged c.args.mem.now c.carry_out.new.mem c.args.core.now c.carry_out.new.core c.args.regs.now c.args.caches.now.second c.at_pc.new.caches.second c.carry_out.new.caches.second
    c.at_pc.new.caches.both c.carry_out.new.caches.both c.at_pc.ensures.translated c.in-ContextChanged.ensures.turned
