use Rattle.std.proofs.Common.{◌+◌, ◌∙◌, ap, arith, sym}
use Rattle.sv_types.proofs.PolicyLimits.{few_harts}
use Rattle.sv_types.specs.Policies.{rules_of}
use Rattle.page_guard.specs.Permitted.{Permitted}
use Rattle.snapshot_format.specs.Snapshots.{contents}
use Rattle.machine.proofs.Resuming.{parts_resumed}
use Rattle.machine.proofs.Starting.{empty_usable, length_empty}
use Rattle.machine.proofs.resume.resume.Goals as goal

pub invariant_of-result : goal.invariant_of-result
invariant_of-result c =
    let k = c.in_ok-mem.ensures in
    let most = few_harts (rules_of c.args.policy) c.requires.within in
    let number = k.number in
    record {
      entries = sym (ap (λ (e : Permitted). e.entries) k.entries);
      bound = sym (ap (λ (e : Permitted). e.bound) k.entries);
      places = k.bound;
      tables_match = k.tables_match;
      pages = k.pages;
      modules = k.joined;
      whole = record {
        few = omega (arith, number, most);
        caches = length_empty c.args.policy.harts c.in_ok-caches.field-0.caches.items c.in_ok-caches.ensures.caches ∙ sym k.number;
        usable = empty_usable c.in_ok-mem.field-0.mem.tables c.args.policy.harts c.in_ok-caches.field-0.caches.items c.in_ok-caches.ensures.caches;
      };
    }

pub returns-clause-made : goal.returns-clause-made
returns-clause-made c =
    parts_resumed (rules_of c.args.policy) (contents c.args.snapshot) c.in_ok-mem.field-0 (c.in_ok-caches.field-0.words + c.in_ok-caches.field-0.cpu) c.in_ok-mem.ensures
    c.in_ok-caches.ensures.attempts
