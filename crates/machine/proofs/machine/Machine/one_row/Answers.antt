use Rattle.std.proofs.Common.{◌-◌, subst, sym, arith}
use Rattle.sv_types.specs.declared.event.Event.TheVariants.{Turn}
use Rattle.spec_reference.specs.Counting.{CountsAtMost}
use Rattle.spec_hardware.specs.Machine.{Machine}
use Rattle.hw_fast_path.specs.Ends.{turns_of}
use Rattle.machine.proofs.Behind.{Begins, after_counts, ends_rowed, ends_running, in_kernel, may_count, may_trap, stays_unloaded}
use Rattle.machine.proofs.Ready.{ready_at}
use Rattle.machine.proofs.Reservations.{free_where, leaving_free}
use Rattle.machine.proofs.Batches.{Rowed}
use Rattle.machine.specs.Limits.{max_counts}
use Rattle.machine.specs.Repeats.{MadeInBatch}
use Rattle.machine.specs.Batches.{MayBatch}
use Rattle.machine.proofs.machine.Machine.one_row.Goals as goal

pub batch-batch-requires-clause-may : goal.batch-batch-requires-clause-may
batch-batch-requires-clause-may g c = subst (λ (m : Machine). MayBatch m c.args.hart) (sym c.self.view_is) c.requires.may

pub batch-batch-requires-clause-ready : goal.batch-batch-requires-clause-ready
batch-batch-requires-clause-ready g c =
    let may : MayBatch c.self.inside.system c.args.hart = subst (λ (m : Machine). MayBatch m c.args.hart) (sym c.self.view_is) c.requires.may in
    ready_at c.self.inside.system c.self.invariant.state c.args.hart c.self.invariant.stands may.running may.attempts

pub answer_leaving-requires-clause-hart : goal.answer_leaving-requires-clause-hart
answer_leaving-requires-clause-hart g c =
    let may : MayBatch c.self.inside.system c.args.hart = subst (λ (m : Machine). MayBatch m c.args.hart) (sym c.self.view_is) c.requires.may in
    may_trap c.batch-batch.result.left c.batch-batch.result.made c.self.inside.system c.batch-batch.new.self c.args.hart may c.batch-batch.ensures.ends c.batch-batch.ensures.aligned

pub answer_leaving-requires-clause-mode : goal.answer_leaving-requires-clause-mode
answer_leaving-requires-clause-mode g c =
    let may : MayBatch c.self.inside.system c.args.hart = subst (λ (m : Machine). MayBatch m c.args.hart) (sym c.self.view_is) c.requires.may in
    in_kernel c.batch-batch.result.left c.batch-batch.result.made c.self.inside.system c.batch-batch.new.self c.args.hart may c.batch-batch.ensures.ends

pub answer_leaving-requires-clause-counts : goal.answer_leaving-requires-clause-counts
answer_leaving-requires-clause-counts g c =
    let may : MayBatch c.self.inside.system c.args.hart = subst (λ (m : Machine). MayBatch m c.args.hart) (sym c.self.view_is) c.requires.may in
    let begins : Begins c.self.inside.system c.args.hart = record {
      state = c.self.invariant.state;
      may = may;
      stands = c.self.invariant.stands;
      addresses = c.self.invariant.addresses;
      bounded = record { attempts = c.self.invariant.attempts; printed = c.self.invariant.printed };
    } in
    let counts : CountsAtMost (max_counts - c.args.most) c.self.inside.system.journal.counts =
    subst (λ (m : Machine). CountsAtMost (max_counts - c.args.most) m.journal.counts) (sym c.self.view_is) c.requires.counts in
    let behind : CountsAtMost max_counts c.batch-batch.new.self.journal.counts =
    after_counts c.batch-batch.result.left c.batch-batch.result.made c.args.most c.self.inside.system c.batch-batch.new.self c.args.hart begins c.batch-batch.ensures.ends c.requires.few
    c.batch-batch.ensures.most counts in
    may_count c.batch-batch.new.self behind

pub answer_leaving-requires-clause-turns : goal.answer_leaving-requires-clause-turns
answer_leaving-requires-clause-turns g c =
    let may : MayBatch c.self.inside.system c.args.hart = subst (λ (m : Machine). MayBatch m c.args.hart) (sym c.self.view_is) c.requires.may in
    let begins : Begins c.self.inside.system c.args.hart = record {
      state = c.self.invariant.state;
      may = may;
      stands = c.self.invariant.stands;
      addresses = c.self.invariant.addresses;
      bounded = record { attempts = c.self.invariant.attempts; printed = c.self.invariant.printed };
    } in
    let counts : CountsAtMost (max_counts - c.args.most) c.self.inside.system.journal.counts =
    subst (λ (m : Machine). CountsAtMost (max_counts - c.args.most) m.journal.counts) (sym c.self.view_is) c.requires.counts in
    let behind : CountsAtMost max_counts c.batch-batch.new.self.journal.counts =
    after_counts c.batch-batch.result.left c.batch-batch.result.made c.args.most c.self.inside.system c.batch-batch.new.self c.args.hart begins c.batch-batch.ensures.ends c.requires.few
    c.batch-batch.ensures.most counts in
    let turns = behind.turns in omega (arith, turns)

pub invariant_of-self : goal.invariant_of-self
invariant_of-self g c =
    let may : MayBatch c.self.inside.system c.args.hart = subst (λ (m : Machine). MayBatch m c.args.hart) (sym c.self.view_is) c.requires.may in
    let begins : Begins c.self.inside.system c.args.hart = record {
      state = c.self.invariant.state;
      may = may;
      stands = c.self.invariant.stands;
      addresses = c.self.invariant.addresses;
      bounded = record { attempts = c.self.invariant.attempts; printed = c.self.invariant.printed };
    } in
    let counts : CountsAtMost (max_counts - c.args.most) c.self.inside.system.journal.counts =
    subst (λ (m : Machine). CountsAtMost (max_counts - c.args.most) m.journal.counts) (sym c.self.view_is) c.requires.counts in
    let rowed : Rowed (turns_of c.batch-batch.result) c.self.inside.system c.args.hart c.answer_leaving.new.self =
    ends_rowed c.batch-batch.result.left c.batch-batch.result.made c.self.inside.system c.batch-batch.new.self c.answer_leaving.new.self c.args.hart begins c.batch-batch.ensures.ends
    c.answer_leaving.ensures in
    let after = rowed.counts (max_counts - c.args.most) counts in
    record {
      state = rowed.state;
      stands = rowed.stands;
      addresses = rowed.addresses;
      attempts = rowed.bounded.attempts;
      few = let two = rowed.bounded.attempts in let turns = after.turns in omega (arith, two, turns, c.batch-batch.ensures.most, c.requires.few);
      free = free_where c.self.inside.none_reserved c.answer_leaving.new.self.harts
          (leaving_free c.batch-batch.result.left c.batch-batch.new.self c.args.hart c.answer_leaving.new.self c.batch-batch.ensures.free c.answer_leaving.ensures);
      printed = rowed.bounded.printed;
    }

pub returns : goal.returns
returns g c =
    let may : MayBatch c.self.inside.system c.args.hart = subst (λ (m : Machine). MayBatch m c.args.hart) (sym c.self.view_is) c.requires.may in
    let begins : Begins c.self.inside.system c.args.hart = record {
      state = c.self.invariant.state;
      may = may;
      stands = c.self.invariant.stands;
      addresses = c.self.invariant.addresses;
      bounded = record { attempts = c.self.invariant.attempts; printed = c.self.invariant.printed };
    } in
    let rowed : Rowed (turns_of c.batch-batch.result) c.self.inside.system c.args.hart c.answer_leaving.new.self =
    ends_rowed c.batch-batch.result.left c.batch-batch.result.made c.self.inside.system c.batch-batch.new.self c.answer_leaving.new.self c.args.hart begins c.batch-batch.ensures.ends
    c.answer_leaving.ensures in
    let made : MadeInBatch c.batch-batch.result.left (turns_of c.batch-batch.result) c.args.most c.self.inside.system (Turn c.args.hart) c.answer_leaving.new.self = record {
      chain = rowed.chain;
      quiet = rowed.quiet;
      running = ends_running c.batch-batch.result.left c.batch-batch.result.made c.self.inside.system c.batch-batch.new.self c.answer_leaving.new.self c.args.hart c.batch-batch.ensures.ends
          c.answer_leaving.ensures;
      loading = stays_unloaded c.batch-batch.result.left c.batch-batch.result.made c.self.inside.system c.batch-batch.new.self c.answer_leaving.new.self c.args.hart c.batch-batch.ensures.ends
          c.answer_leaving.ensures;
      counts = rowed.counts;
      most = c.batch-batch.ensures.most;
    } in
    subst (λ (m : Machine). MadeInBatch c.batch-batch.result.left (turns_of c.batch-batch.result) c.args.most m (Turn c.args.hart) c.answer_leaving.new.self) c.self.view_is made
