use Rattle.std.proofs.Common.{◌+◌, [], ap, ◌∙◌}
use Rattle.std.proofs.lemmas.List.{length-append}
use Rattle.snapshot_format.specs.Forms.{all_taken}
use Rattle.snapshot_format.specs.HartForms.{hart, harts}
use Rattle.snapshot_format.proofs.ReadLists.{goes_on, ends, is_done, reads_refusal}
use Rattle.snapshot_format.proofs.reader.harts.read_harts.Goals as goal

pub harts-preserved : goal.harts-preserved
harts-preserved c = record {
  so_far = rw c.in_ok-push.ensures.items (goes_on (λ before. hart c.args.ram_pages) c.harts.read.items c.args.count c.harts.counter c.harts.rest.now _ _
      (all_taken (λ before. hart c.args.ram_pages) [] c.args.count c.args.bytes.now) c.harts-test.true c.in_ok-hart.ensures c.harts.invariant.so_far);
  number = rw c.in_ok-push.ensures.items (length-append c.harts.read.items _ ∙ ap (λ n. n + 1) c.harts.invariant.number);
}

pub returns-in_err-hart-clause-harts : goal.returns-in_err-hart-clause-harts
unfolding harts
returns-in_err-hart-clause-harts c =
    reads_refusal _ c.from_residual.result c.in_err-hart.field-0.0 _ c.from_residual.ensures.1
    (ends (λ before. hart c.args.ram_pages) c.in_err-hart.field-0.0 c.harts.read.items c.args.count c.harts.counter c.harts.rest.now
    (all_taken (λ before. hart c.args.ram_pages) [] c.args.count c.args.bytes.now) c.harts-test.true c.in_err-hart.ensures c.harts.invariant.so_far)

pub returns-clause-harts : goal.returns-clause-harts
unfolding harts
returns-clause-harts c = is_done (λ before. hart c.args.ram_pages) c.harts.read.items c.args.count c.harts.counter c.harts.rest.now
    (all_taken (λ before. hart c.args.ram_pages) [] c.args.count c.args.bytes.now) c.harts-test.false c.harts.invariant.so_far
