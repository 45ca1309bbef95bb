use Rattle.std.proofs.Common.{◌/◌, ◌%◌, ◌∙◌, sym}
use Rattle.spec_processor.specs.Bytes.{page_size}
use Rattle.spec_processor.specs.GStage.{walk_guest}
use Rattle.hw_tlb.proofs.GstageCacheLines.{found_is, leads_there}
use Rattle.hw_tlb.proofs.gstage_cache.cache.Cache.held_place.Goals as goal

pub place_by-requires-clause-page : goal.place_by-requires-clause-page
place_by-requires-clause-page c =
    (found_is c.args.self.now c.args.hgatp (c.args.gpa / page_size) c.in-Some.line (sym c.line.ensures ∙ c.in-Some.is)).1.0

pub place_by-requires-clause-agrees : goal.place_by-requires-clause-agrees
place_by-requires-clause-agrees c =
    c.requires.agrees.held (c.args.gpa / page_size % 256) c.in-Some.line
    (found_is c.args.self.now c.args.hgatp (c.args.gpa / page_size) c.in-Some.line (sym c.line.ensures ∙ c.in-Some.is)).1.1

pub returns-in-Some-clause-walk : goal.returns-in-Some-clause-walk
returns-in-Some-clause-walk c =
    let tag = (found_is c.args.self.now c.args.hgatp (c.args.gpa / page_size) c.in-Some.line (sym c.line.ensures ∙ c.in-Some.is)).0 in
    rw (c.place_by.ensures.walk, tag) (leads_there (walk_guest c.args.mem.now c.args.hgatp c.args.gpa c.args.access))
