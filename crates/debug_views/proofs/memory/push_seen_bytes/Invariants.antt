use Rattle.std.proofs.Common.{◌≡◌, ◌+◌, ◌-◌, ◌++◌}
use Rattle.debug_views.specs.Memory.{seen_bytes}
use Rattle.debug_views.proofs.memory.push_seen_bytes.Given as goal

-- what is put so far, and the bytes that are seen from here on
abbrev pub invariant-bytes : goal.invariant-bytes
invariant-bytes l = l.out.items ++ seen_bytes l.ram l.satp (l.va + l.i) (l.count - l.i) ≡ l.fn.out.items ++ seen_bytes l.ram l.satp l.va l.count
