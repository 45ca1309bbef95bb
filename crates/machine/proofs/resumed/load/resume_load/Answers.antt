use Rattle.std.proofs.Common.{◌≡◌, ℕ, [], ◌∙◌, ◌≤◌, ap, length, subst, sym}
use Rattle.module_gate.specs.Gates.{Progress, Records, with_digests}
use Rattle.sv_types.specs.Policies.{rules_of}
use Rattle.machine.proofs.Counted.{begun_where, good_place, has_rule, load_taken, ram_sized, resumed_is}
use Rattle.machine.proofs.resumed.load.resume_load.Goals as goal

pub begin-load-requires-clause-known : goal.begin-load-requires-clause-known
begin-load-requires-clause-known c = has_rule (rules_of c.args.policy.now) c.args.saved.now.«module» c.requires.place.fits

pub begin-load-requires-clause-place : goal.begin-load-requires-clause-place
begin-load-requires-clause-place c =
    good_place (rules_of c.args.policy.now) c.args.mem.now.ram c.args.guard.now.pages c.args.saved.now c.requires.place
    (ram_sized (length c.args.mem.now.ram) (length c.args.guard.now.pages) c.args.policy.now.ram_pages c.requires.tables_match.ram c.requires.pages) c.requires.free

pub count_pages-requires-clause-counted : goal.count_pages-requires-clause-counted
count_pages-requires-clause-counted c =
    begun_where (rules_of c.args.policy.now) c.args.mem.now.ram c.begin-load.new.mem.ram c.args.saved.now (with_digests c.begin-load.new.self.digests c.begin-load.result)
    c.requires.place c.begin-load.ensures.tables_match.ram
    (ram_sized (length c.args.mem.now.ram) (length c.args.guard.now.pages) c.args.policy.now.ram_pages c.requires.tables_match.ram c.requires.pages)
    (ap (λ (g : Records). with_digests g.digests c.begin-load.result) c.begin-load.ensures.gate ∙ ap (with_digests []) c.begin-load.ensures.load)

pub returns-clause-load : goal.returns-clause-load
returns-clause-load c =
    let pages = c.pages_of.result in
    let all : c.begin-load.result.left ≡ pages = ap (λ (l : Progress). l.left) c.begin-load.ensures.load ∙ sym c.pages_of.ensures in
    resumed_is (rules_of c.args.policy.now) c.args.mem.now.ram c.begin-load.new.mem.ram c.args.saved.now (with_digests c.count_pages.new.gate.digests c.count_pages.new.load)
    pages c.count_pages.ensures.counted c.begin-load.ensures.tables_match.ram
    (c.count_pages.ensures.about ∙ ap (λ (l : Progress). l.about) c.begin-load.ensures.load) (c.count_pages.ensures.left ∙ all)
    (subst (λ (n : ℕ). c.args.saved.now.left ≤ n) (sym c.pages_of.ensures) c.requires.place.left)

pub returns-clause-digests : goal.returns-clause-digests
returns-clause-digests c = c.count_pages.ensures.counted.tallied

pub returns-clause-gate : goal.returns-clause-gate
returns-clause-gate c = c.count_pages.ensures.gate ∙ ap (λ (g : Records). record g { digests = c.count_pages.new.gate.digests }) c.begin-load.ensures.gate

pub returns-clause-guard : goal.returns-clause-guard
returns-clause-guard c =
    load_taken (rules_of c.args.policy.now) c.args.guard.now.pages c.begin-load.new.guard.pages c.args.saved.now.«module» c.begin-load.result c.requires.free c.begin-load.ensures.load
    c.begin-load.ensures.guard
