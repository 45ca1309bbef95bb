use Rattle.std.proofs.Common.{rules, arith, ◌≡◌, ℕ, ◌+◌, ◌*◌, ◌/◌, ◌%◌, ◌<◌, ◌++◌, List, take, drop, length, min, sym, ◌∙◌, ap}
use Rattle.std.proofs.lemmas.List.{take_all}
use Rattle.sv_types.specs.Measure.{digests_of}
use Rattle.page_measure.proofs.PageDigests.{chunk_more}
use Rattle.page_measure.proofs.digest_chunks.Goals as goal

pub loop-chunk-preserved : goal.loop-chunk-preserved
loop-chunk-preserved g c =
    let i = c.loop-chunk.chunk-index in
    let pages = c.args.pages.now in
    let given = (c.in_ok-chunks.ensures.each i c.chunk-item.result (search rules)).1 in
    let found : c.in-Ok.chunk.items ≡ digests_of given.argument.now = search rules in
    let there : i * 262144 < length pages = omega (arith, given.argument_is.nonempty, given.argument_is.in_bounds) in
    let more : digests_of given.argument.now ≡ digests_of (take 262144 (drop (i * 262144) pages)) = ap digests_of given.argument_is.value in
    let shown : c.deref.result.now ≡ c.in-Ok.chunk.items = search rules in
    c.in_ok-extend_from_slice.ensures.items
    ∙ ap (λ (ds : List (List ℕ)). ds ++ c.deref.result.now) c.loop-chunk.invariant
    ∙ ap (λ (ds : List (List ℕ)). digests_of (take (i * 262144) pages) ++ ds) (shown ∙ found ∙ more)
    ∙ chunk_more i pages there

pub returns : goal.returns
returns g c =
    let chunks : length c.in_ok-chunks.chunks.items ≡ length c.args.pages.now / 262144 + min 1 (length c.args.pages.now % 262144) = search rules in
    let all : c.args.pages.now ≡ take (c.loop-chunk.chunk-index * 262144) c.args.pages.now = sym (take_all (c.loop-chunk.chunk-index * 262144) c.args.pages.now (search rules)) in
    c.loop-chunk.invariant ∙ sym (ap digests_of all)
