use Rattle.std.proofs.Common.{◌≡◌, ◌*◌, take}
use Rattle.sv_types.specs.Measure.{digests_of}
use Rattle.page_measure.proofs.digest_chunks.Given as goal

-- the digests of the chunks so far
abbrev pub invariant-loop-chunk : goal.invariant-loop-chunk
invariant-loop-chunk g l = l.digests.items ≡ digests_of (take (l.chunk-index * 262144) l.pages)
