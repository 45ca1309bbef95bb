use Rattle.std.proofs.Common.{rules, ◌≡◌, ◌+◌, ◌-◌, ◌<◌, ◌++◌, codes, ◌∙◌, ap, arith}
use Rattle.debug_session.specs.Sessions.{more_threads, thread_digits}
use Rattle.debug_session.proofs.Threads.{no_more_threads, one_thread_more}
use Rattle.debug_session.proofs.replies.push_more_threads.Goals as goal

pub harts-preserved : goal.harts-preserved
harts-preserved c =
    let pushed : c.push_thread.new.out.items ≡ c.harts.out.items ++ codes "," ++ thread_digits c.harts.hart = search rules in
    let some : c.harts.hart < c.args.harts = search rules in
    let more : c.args.harts - c.harts.hart ≡ c.args.harts - (c.harts.hart + 1) + 1 = omega (arith, some) in
    ap (λ xs. xs ++ more_threads (c.harts.hart + 1) (c.args.harts - (c.harts.hart + 1))) pushed
    ∙ one_thread_more c.harts.out.items _ c.harts.hart (c.args.harts - c.harts.hart) (c.args.harts - (c.harts.hart + 1)) more c.harts.invariant

pub returns : goal.returns
returns c =
    let none : c.args.harts - c.harts.hart ≡ 0 = search rules in
    no_more_threads c.harts.out.items _ c.harts.hart (c.args.harts - c.harts.hart) none c.harts.invariant
