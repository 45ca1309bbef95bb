use Rattle.std.proofs.Common.{◌∙◌, sym, ap, ◌++◌, ◌∷◌, [], List, arith}
use Rattle.report.specs.declared.findings.findings.Finding.{Finding}
use Rattle.report.specs.Findings.{place_of}
use Rattle.report.proofs.Places.{joined_there, place_below, begun, full}
use Rattle.report.proofs.findings.findings.add_reserved.Goals as goal

pub join-requires : goal.join-requires
join-requires c = place_below c.args.findings.now.items c.args.occurrence.now c.in-Some.place (ap (λ (fs : List Finding). place_of fs c.args.occurrence.now)
    (sym c.deref.ensures.value) ∙ sym c.place_of.ensures ∙ c.in-Some.is)

pub returns-in-Some-clause-found : goal.returns-in-Some-clause-found
returns-in-Some-clause-found c =
    c.join.ensures.joined ∙
    joined_there c.args.findings.now.items c.args.occurrence.now c.in-Some.place (ap (λ (fs : List Finding). place_of fs c.args.occurrence.now) (sym c.deref.ensures.value) ∙
    sym c.place_of.ensures ∙ c.in-Some.is)

pub returns-then-len-lt-MAX_FINDINGS-clause-found : goal.returns-then-len-lt-MAX_FINDINGS-clause-found
returns-then-len-lt-MAX_FINDINGS-clause-found c =
    c.push_reserved.ensures.items
    ∙ ap (λ (f : Finding). c.args.findings.now.items ++ f ∷ []) c.first_finding.ensures
    ∙ begun c.args.findings.now.items c.args.occurrence.now (ap (λ (fs : List Finding). place_of fs c.args.occurrence.now) (sym c.deref.ensures.value) ∙ sym c.place_of.ensures ∙
    c.in_default.is) (let same = c.len.ensures in let below = c.if-len-lt-MAX_FINDINGS.true in omega (arith, same, below))

pub returns-else-len-lt-MAX_FINDINGS-clause-found : goal.returns-else-len-lt-MAX_FINDINGS-clause-found
returns-else-len-lt-MAX_FINDINGS-clause-found c =
    full c.args.findings.now.items c.args.occurrence.now (ap (λ (fs : List Finding). place_of fs c.args.occurrence.now) (sym c.deref.ensures.value) ∙ sym c.place_of.ensures ∙
    c.in_default.is) (let same = c.len.ensures in let above = c.if-len-lt-MAX_FINDINGS.false in omega (arith, same, above))
