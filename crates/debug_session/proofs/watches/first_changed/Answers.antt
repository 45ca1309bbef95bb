use Rattle.std.proofs.Common.{rules, ◌≡◌, ◌==◌, ◌+◌, ◌<◌, ◌≤◌, length, drop, if◌then◌else◌, true, false, Some, sym, ◌∙◌, ap}
use Rattle.std.specs.Prelude.{get_or}
use Rattle.std.proofs.lemmas.Bool.{eq-eqb}
use Rattle.std.proofs.lemmas.List.{drop_all}
use Rattle.debug_session.specs.Watches.{first_changed, watched}
use Rattle.debug_session.specs.declared.watches.Watch.{Watch}
use Rattle.debug_session.specs.declared.watches.Width.TheVariants.{One}
use Rattle.debug_session.proofs.Watching.{all_same, none_before, one_further, unlike}
use Rattle.debug_session.proofs.watches.first_changed.Goals as goal

abbrev no_watch : Watch
no_watch = record { address = 0; place = 0; width = One }

pub returns-then-i-before : goal.returns-then-i-before
returns-then-i-before c =
    let none : length c.args.before.now ≤ c.watches.i = search rules in
    sym (none_before c.args.watches.now c.args.before.now c.args.ram.now c.watches.i none) ∙ c.watches.invariant

pub returns-then-watched-was : goal.returns-then-watched-was
returns-then-watched-was c =
    let some : c.watches.i < length c.args.watches.now = search rules in
    let more : c.watches.i < length c.args.before.now = search rules in
    let w = get_or c.args.watches.now c.watches.i no_watch in
    let was = get_or c.args.before.now c.watches.i 0 in
    let other : (watched c.args.ram.now w == was) ≡ false = unlike _ _ (λ is. c.if-watched-was.true (c.watched.ensures ∙ is)) in
    let rest = first_changed (drop (c.watches.i + 1) c.args.watches.now) (drop (c.watches.i + 1) c.args.before.now) c.args.ram.now in
    sym (one_further c.args.watches.now c.args.before.now c.args.ram.now c.watches.i no_watch some more ∙ ap (λ b. if b then rest else Some w.address) other) ∙ c.watches.invariant

pub watches-preserved : goal.watches-preserved
watches-preserved c =
    let some : c.watches.i < length c.args.watches.now = search rules in
    let more : c.watches.i < length c.args.before.now = search rules in
    let w = get_or c.args.watches.now c.watches.i no_watch in
    let was = get_or c.args.before.now c.watches.i 0 in
    let same : (watched c.args.ram.now w == was) ≡ true = eq-eqb _ _ (sym c.watched.ensures ∙ c.if-watched-was.false) in
    let rest = first_changed (drop (c.watches.i + 1) c.args.watches.now) (drop (c.watches.i + 1) c.args.before.now) c.args.ram.now in
    sym (one_further c.args.watches.now c.args.before.now c.args.ram.now c.watches.i no_watch some more ∙ ap (λ b. if b then rest else Some w.address) same) ∙ c.watches.invariant

pub returns : goal.returns
returns c =
    let over : length c.args.watches.now ≤ c.watches.i = search rules in
    sym (all_same (drop c.watches.i c.args.watches.now) (drop c.watches.i c.args.before.now) c.args.ram.now (drop_all c.watches.i c.args.watches.now over)) ∙ c.watches.invariant
