use Rattle.std.proofs.Common.{List, length, subst, sym}
use Rattle.sv_types.specs.Policies.{rules_of}
use Rattle.sv_types.specs.declared.saved.ModulePlacement.{ModulePlacement}
use Rattle.snapshot_format.specs.Snapshots.{contents}
use Rattle.snapshot_format.specs.declared.whole.TextPage.{TextPage}
use Rattle.snapshot_format.specs.Judgements.{loaded_pages}
use Rattle.snapshot_format.specs.Taking.{left_of}
use Rattle.machine.specs.Approving.{Approves, CanApprove}
use Rattle.machine.proofs.Approved.{all_approved, fresh_pages, modules_then, text_first}
use Rattle.machine.proofs.resumed.guard.approved_guard.Goals as goal

pub approve_text-requires-clause-free : goal.approve_text-requires-clause-free
approve_text-requires-clause-free c =
    let rules = rules_of c.args.policy.now in
    let s = contents c.args.snapshot.now in
    let guard = c.in_ok-guard.guard.pages in
    let fresh = fresh_pages c.args.policy.now.ram_pages (length c.args.mem.now.ram) guard c.requires.ram c.in_ok-guard.ensures.guard in
    subst (λ (text : List TextPage). CanApprove guard (left_of rules s.retired text)) (sym c.deref.ensures.value) (text_first rules s guard fresh c.requires.right)

pub approve_modules-requires-clause-free : goal.approve_modules-requires-clause-free
approve_modules-requires-clause-free c =
    let rules = rules_of c.args.policy.now in
    let s = contents c.args.snapshot.now in
    let guard = c.in_ok-guard.guard.pages in
    let mid = c.approve_text.new.guard.pages in
    let fresh = fresh_pages c.args.policy.now.ram_pages (length c.args.mem.now.ram) guard c.requires.ram c.in_ok-guard.ensures.guard in
    let first = subst (λ (text : List TextPage). Approves guard mid (left_of rules s.retired text)) c.deref.ensures.value c.approve_text.ensures.guard in
    subst (λ (modules : List ModulePlacement). CanApprove mid (loaded_pages rules modules)) (sym c.deref-2.ensures.value) (modules_then rules s guard mid fresh c.requires.right first)

pub returns-clause-guard : goal.returns-clause-guard
returns-clause-guard c =
    let rules = rules_of c.args.policy.now in
    let s = contents c.args.snapshot.now in
    let guard = c.in_ok-guard.guard.pages in
    let mid = c.approve_text.new.guard.pages in
    let after = c.approve_modules.new.guard.pages in
    let fresh = fresh_pages c.args.policy.now.ram_pages (length c.args.mem.now.ram) guard c.requires.ram c.in_ok-guard.ensures.guard in
    let first = subst (λ (text : List TextPage). Approves guard mid (left_of rules s.retired text)) c.deref.ensures.value c.approve_text.ensures.guard in
    let second = subst (λ (modules : List ModulePlacement). Approves mid after (loaded_pages rules modules)) c.deref-2.ensures.value c.approve_modules.ensures.guard in
    all_approved rules s guard mid after fresh first second
