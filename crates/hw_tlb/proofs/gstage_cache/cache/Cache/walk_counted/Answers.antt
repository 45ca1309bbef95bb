use Rattle.std.proofs.Common.{◌/◌, ◌%◌, ◌∙◌, sym, refl, rules}
use Rattle.spec_processor.specs.Bytes.{page_size}
use Rattle.hw_tlb.specs.Fills.{nothing_filled}
use Rattle.hw_tlb.proofs.GstageCacheLines.{found_is}
use Rattle.hw_tlb.proofs.gstage_cache.cache.Cache.walk_counted.Goals as goal

pub hit-requires-clause-page : goal.hit-requires-clause-page
hit-requires-clause-page g c =
    (found_is c.args.self.now c.args.hgatp (c.args.gpa / page_size) c.in-Some.line (sym c.line.ensures ∙ c.in-Some.is)).1.0

pub hit-requires-clause-agrees : goal.hit-requires-clause-agrees
hit-requires-clause-agrees g c =
    c.requires.may.agrees.held (c.args.gpa / page_size % 256) c.in-Some.line
    (found_is c.args.self.now c.args.hgatp (c.args.gpa / page_size) c.in-Some.line (sym c.line.ensures ∙ c.in-Some.is)).1.1

pub returns-in-Some-clause-led : goal.returns-in-Some-clause-led
returns-in-Some-clause-led g c =
    let tag = (found_is c.args.self.now c.args.hgatp (c.args.gpa / page_size) c.in-Some.line (sym c.line.ensures ∙ c.in-Some.is)).0 in
    record {
      value = c.hit.ensures ∙ rw tag refl;
      walked = record { agrees = c.requires.may.agrees; filled = nothing_filled c.args.mem.now.tables c.args.hgatp c.args.self.now };
      held = search rules;
    }
