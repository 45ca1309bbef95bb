use Rattle.std.proofs.Common.{◌≡◌, ◌*◌, ◌∙◌, ap, rules, ℕ, replicate}
use Rattle.spec_processor.specs.Bytes.{page_size}
use Rattle.spec_processor.specs.Regions.{region_of}
use Rattle.host_mem.proofs.ViewFacts.{zeros_seen}
use Rattle.host_mem.proofs.HostMem.new.Goals as goal

pub returns : goal.returns
returns c =
    let zeros : c.in_ok-bytes.bytes ≡ replicate {A = ℕ} c.in-Some.size 0 = search rules in
    ap (region_of c.args.table_bytes) zeros ∙ zeros_seen c.args.table_bytes (page_size * c.args.ram_pages) c.in-Some.size (search rules)
