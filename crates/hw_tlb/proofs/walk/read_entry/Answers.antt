use Rattle.std.proofs.Common.{◌∙◌, sym}
use Rattle.spec_processor.specs.declared.access.Access.TheVariants as Access
use Rattle.sv39_walk.proofs.Steps.{entry_place}
use Rattle.hw_tlb.proofs.Stages.{second_same}
use Rattle.hw_tlb.proofs.walk.read_entry.Goals as goal
use Rattle.laws_processor.proofs.Walks.{apart_inside}

pub read-requires : goal.read-requires
read-requires c =
    entry_place c.args.mem.now c.args.hgatp c.args.gpa c.in-Some.at c.table_bytes-table_bytes.ensures.region (apart_inside c.args.mem.now c.args.hgatp c.requires.may.apart)
    c.requires.aligned (sym c.lead.ensures.value ∙ c.in-Some.is)

pub returns-clause-leads : goal.returns-clause-leads
returns-clause-leads c = λ r same.
    second_same c.args.mem.now r c.args.hgatp c.args.gpa c.in-Some.at Access.Load same c.requires.may.apart (sym c.lead.ensures.value ∙ c.in-Some.is)
