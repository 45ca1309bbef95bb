use Rattle.std.proofs.Common.{◌∙◌, Some, ap, sym}
use Rattle.policy_making.proofs.SegmentPlaces.{mapped_from, mapped_before, mapped_end, place_mapped, place_own, no_place}
use Rattle.policy_making.proofs.places.place_of.Goals as goal

pub place_in-requires-clause-from : goal.place_in-requires-clause-from
place_in-requires-clause-from c = mapped_from c.args.segments.now c.args.entry c.in-Some.segment (sym c.mapping.ensures ∙ c.in-Some.is)

pub place_in-requires-clause-before : goal.place_in-requires-clause-before
place_in-requires-clause-before c = mapped_before c.args.segments.now c.args.entry c.in-Some.segment (sym c.mapping.ensures ∙ c.in-Some.is)

pub place_in-requires-clause-end : goal.place_in-requires-clause-end
place_in-requires-clause-end c = mapped_end c.args.segments.now c.args.entry c.in-Some.segment (sym c.mapping.ensures ∙ c.in-Some.is) c.requires.end

pub returns-in-Some : goal.returns-in-Some
returns-in-Some c = ap Some c.place_in.ensures ∙ place_mapped c.args.segments.now c.args.entry c.in-Some.segment (sym c.mapping.ensures ∙ c.in-Some.is)

pub returns-in-None : goal.returns-in-None
returns-in-None c = place_own c.args.segments.now c.args.entry (sym c.mapping.ensures ∙ c.in-None.is) (sym c.is_held.ensures ∙ c.if-is_held.true)

pub returns-in-None-2 : goal.returns-in-None-2
returns-in-None-2 c = no_place c.args.segments.now c.args.entry (sym c.mapping.ensures ∙ c.in-None.is) (sym c.is_held.ensures ∙ c.if-is_held.false)
