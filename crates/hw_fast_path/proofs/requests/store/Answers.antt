use Rattle.std.proofs.Common.{ℕ, List, refl, sym, subst, rules}
use Rattle.hw_tlb.specs.Kept.{ReachAgrees}
use Rattle.hw_fast_path.specs.Quick.{GoesOn}
use Rattle.hw_fast_path.proofs.Going.{write_goes}
use Rattle.hw_fast_path.proofs.requests.store.Goals as goal

pub returns-in-Some-clause-turned : goal.returns-in-Some-clause-turned
returns-in-Some-clause-turned g c =
    let on : GoesOn c.args.mem.now c.write.new.self c.args.core.now _ c.args.regs.now c.args.caches.now.second c.aligned_place.new.caches.second =
    write_goes c.args.mem.now c.write.new.self c.args.core.now _ c.args.regs.now c.args.caches.now.second c.aligned_place.new.caches.second c.in-Some.hpa c.args.store.width c.args.store.value
    c.requires.may.ready c.requires.may.free c.aligned_place.ensures.translated.walked c.in-Some.ensures.ram c.in-Some.ensures.place c.write.ensures refl refl refl in
    record {
      on = on;
      course = search rules;
      reach = subst (λ (t : List ℕ). ReachAgrees t c.aligned_place.new.caches.both) (sym on.tables) c.aligned_place.ensures.translated.reach;
    }
