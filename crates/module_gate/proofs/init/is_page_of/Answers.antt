use Rattle.std.proofs.Common.{rules, ◌≡◌, ◌∙◌, sym, ◌-◌, ◌&&◌, slice_get}
use Rattle.std.specs.Prelude.{nat_le, nat_lt}
use Rattle.spec_processor.specs.Bytes.{page_of}
use Rattle.sv_types.specs.Policies.{rules_of}
use Rattle.spec_reference.specs.States.{pages_in_rule}
use Rattle.spec_reference.proofs.PageSpans.{in_numbers}
use Rattle.module_gate.proofs.init.is_page_of.Goals as goal

pub returns : goal.returns
returns c =
    let first = page_of c.args.about.now.gpa in
    let count = pages_in_rule (slice_get (rules_of c.args.policy.now).modules c.args.about.now.id) in
    let between : c.is_between.result ≡ (nat_le first c.args.page && nat_lt (c.args.page - first) count) = search rules in
    between ∙ sym (in_numbers first count c.args.page)
