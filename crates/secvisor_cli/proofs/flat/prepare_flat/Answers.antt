use Rattle.std.proofs.Common.{◌≡◌, ℕ, subst, sym, ◌∙◌, List, true, false}
use Rattle.cli_plans.specs.Plans.{flat_plan, flat_events, is_whole_pages, measure_judged}
use Rattle.secvisor_cli.specs.Ready.{IsReady, Prepares}
use Rattle.secvisor_cli.proofs.ReadyLemmas.{err_by, stopped_ready, read_ready, judge_end, pages_ready, part_of_pages}
use Rattle.secvisor_cli.proofs.flat.prepare_flat.Goals as goal

pub read_part-requires-clause-permitted : goal.read_part-requires-clause-permitted
unfolding flat_plan
read_part-requires-clause-permitted g c = c.requires.permitted.0

pub returns-in_err-bytes : goal.returns-in_err-bytes
unfolding flat_plan
returns-in_err-bytes g c =
    err_by _ c.in_err-bytes.field-0.0 (λ r. Prepares (flat_plan c.args.flat.now.file.now c.args.flat.now.wanted c.args.flat.now.events) (g.F.Files.state c.args.files.now)
    (g.F.Files.state c.read_part.new.files) r)
    c.from_residual.ensures.1 (stopped_ready _ _ _ _ _ _ c.in_err-bytes.field-0.0 c.in_err-bytes.ensures)

pub returns-then-not-is_whole_pages : goal.returns-then-not-is_whole_pages
unfolding flat_plan
returns-then-not-is_whole_pages g c =
    let part : is_whole_pages c.deref.result.now ≡ false = sym c.is_whole_pages.ensures.value ∙ c.if-not-is_whole_pages.true in
    read_ready _ _ _ _ _ _ _ c.in_ok-bytes.bytes.items _ c.in_ok-bytes.ensures
    (judge_end _ _ _ (part_of_pages c.in_ok-bytes.bytes.items _ _ (subst (λ (b : List ℕ). is_whole_pages b ≡ false) c.deref.ensures.value part)))

pub returns : goal.returns
unfolding flat_plan
returns g c =
    let whole : is_whole_pages c.deref.result.now ≡ true = sym c.is_whole_pages.ensures.value ∙ c.if-not-is_whole_pages.false in
    let ready : IsReady (measure_judged c.in_ok-bytes.bytes.items c.args.flat.now.wanted (flat_events c.args.flat.now.events)) c.boot.result =
    subst (λ (b : List ℕ). IsReady (measure_judged b c.args.flat.now.wanted (flat_events c.args.flat.now.events)) c.boot.result) c.deref-2.ensures.value c.boot.ensures in
    read_ready _ _ _ _ _ _ _ c.in_ok-bytes.bytes.items _ c.in_ok-bytes.ensures
    (judge_end _ _ _ (pages_ready c.in_ok-bytes.bytes.items c.args.flat.now.wanted (flat_events c.args.flat.now.events) c.boot.result
    (subst (λ (b : List ℕ). is_whole_pages b ≡ true) c.deref.ensures.value whole) ready))
