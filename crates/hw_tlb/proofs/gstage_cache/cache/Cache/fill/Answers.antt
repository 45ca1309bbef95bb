use Rattle.std.proofs.Common.{◌∙◌, sym, ap, rules}
use Rattle.std.specs.Prelude.{Option}
use Rattle.spec_processor.specs.CachedWalks.{LineAgrees}
use Rattle.spec_processor.specs.declared.cached.CacheLine.{CacheLine}
use Rattle.sv39_walk.specs.Mappings.{mapping_answer}
use Rattle.sv39_walk.specs.declared.g_stage.Mapping.{Mapping}
use Rattle.hw_tlb.proofs.GstageCacheLines.{fill_agrees, kept_agrees, kept_filled, kept_held}
use Rattle.hw_tlb.proofs.gstage_cache.cache.Cache.fill.Goals as goal

pub returns-then-permits-clause-led : goal.returns-then-permits-clause-led
returns-then-permits-clause-led g c =
    let line = c.line_of_mapping.result in
    let agrees : LineAgrees c.args.mem.now.tables line = rw c.line_of_mapping.ensures
    (fill_agrees c.args.mem.now c.args.hgatp c.args.gpa c.args.access c.in-Some.mapping c.requires.apart
    (λ other. c.find_mapping.ensures.value other ∙ ap (λ (o : Option Mapping). mapping_answer o other) c.in-Some.is) (sym c.permits.ensures ∙ c.if-permits.true)) in
    let tag = ap (λ (l : CacheLine). l.hgatp) c.line_of_mapping.ensures in
    record {
      value = search rules;
      walked = record {
        agrees = kept_agrees c.args.mem.now.tables c.args.self.now c.keep.new.self line c.keep.ensures agrees c.requires.agrees;
        filled = kept_filled c.args.mem.now.tables c.args.hgatp c.args.self.now c.keep.new.self line c.keep.ensures agrees tag;
      };
      held = kept_held c.args.self.now c.keep.new.self line c.args.hgatp (_) c.keep.ensures tag (ap (λ (l : CacheLine). l.page) c.line_of_mapping.ensures);
    }
