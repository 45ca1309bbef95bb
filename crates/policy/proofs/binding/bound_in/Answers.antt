use Rattle.std.proofs.Common.{sym, ap, ◌∙◌}
use Rattle.std.proofs.lemmas.List.{map_more, take_all}
use Rattle.policy.specs.Bindings.{bound_in}
use Rattle.policy.specs.declared.binding.Binding.{Binding}
use Rattle.policy.proofs.binding.bound_in.Goals as goal

pub loop-binding-preserved : goal.loop-binding-preserved
loop-binding-preserved c =
    let l = c.loop-binding in
    rw (c.in_ok-push.ensures.items, l.invariant) (sym (map_more (λ (x : Binding). x.gpa) c.args.bindings.now l.binding-index _ c.loop-binding-test.true))

pub returns : goal.returns
returns c =
    let l = c.loop-binding in
    l.invariant ∙ ap bound_in (take_all l.binding-index c.args.bindings.now c.loop-binding-test.false)
