use Rattle.std.proofs.Common.{◌≡◌, ◌∙◌, sym, ap, rules, Err}
use Rattle.spec_processor.specs.Translation.{first_stage}
use Rattle.spec_processor.specs.GStage.{two_stages, entry_through, place_through}
use Rattle.sv39_walk.specs.Regimes.{settings_of}
use Rattle.sv39_walk.proofs.Steps.{after_address, after_fault}
use Rattle.sv39_walk.proofs.first_stage.translate_through.Goals as goal

pub returns-in_err-gpa-clause-value : goal.returns-in_err-gpa-clause-value
unfolding two_stages
returns-in_err-gpa-clause-value g c =
    let passed : c.from_residual.result ≡ Err c.in_err-gpa.field-0.0 = search rules in
    passed ∙ sym (after_fault c.args.mem.now c.args.regime.now.hgatp c.in_err-gpa.field-0.0 c.args.access
    (first_stage (entry_through c.args.mem.now c.args.regime.now.hgatp) (settings_of c.args.regime.now) c.args.regime.now.mode c.args.va c.args.access)
    c.first_stage.result c.first_stage.ensures.value c.in_err-gpa.was)

pub returns-in-Some-clause-value : goal.returns-in-Some-clause-value
unfolding two_stages
returns-in-Some-clause-value g c =
    sym (after_address c.args.mem.now c.args.regime.now.hgatp c.in_ok-gpa.gpa c.args.access
    (first_stage (entry_through c.args.mem.now c.args.regime.now.hgatp) (settings_of c.args.regime.now) c.args.regime.now.mode c.args.va c.args.access)
    c.first_stage.result c.first_stage.ensures.value c.in_ok-gpa.was
    ∙ ap (place_through c.in_ok-gpa.gpa) (sym c.lead.ensures.value ∙ c.in-Some.is))

pub returns-in-None-clause-value : goal.returns-in-None-clause-value
unfolding two_stages
returns-in-None-clause-value g c =
    sym (after_address c.args.mem.now c.args.regime.now.hgatp c.in_ok-gpa.gpa c.args.access
    (first_stage (entry_through c.args.mem.now c.args.regime.now.hgatp) (settings_of c.args.regime.now) c.args.regime.now.mode c.args.va c.args.access)
    c.first_stage.result c.first_stage.ensures.value c.in_ok-gpa.was
    ∙ ap (place_through c.in_ok-gpa.gpa) (sym c.lead.ensures.value ∙ c.in-None.is))
