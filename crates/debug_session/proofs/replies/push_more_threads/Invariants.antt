use Rattle.std.proofs.Common.{◌≡◌, ◌-◌, ◌++◌}
use Rattle.debug_session.specs.Sessions.{more_threads}
use Rattle.debug_session.proofs.replies.push_more_threads.Given as goal

-- what is put so far and the threads that are left
abbrev pub invariant-harts : goal.invariant-harts
invariant-harts l = l.out.items ++ more_threads l.hart (l.harts - l.hart) ≡ l.fn.out.items ++ more_threads 1 (l.harts - 1)
