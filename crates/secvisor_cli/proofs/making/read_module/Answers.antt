use Rattle.std.proofs.Common.{◌≡◌, List, [], ◌∷◌, ◌++◌, ℕ, map, ap, sym, subst, ◌∙◌, Ok, Err, Result, IfErr}
use Rattle.std.proofs.lemmas.List.{map-append}
use Rattle.policy_making.specs.Making.{ModuleFile, file_names, file_of, names_with}
use Rattle.policy_making.specs.Refusals.{Refuses}
use Rattle.secvisor_cli.specs.declared.ready.Stop.{Stop}
use Rattle.secvisor_cli.specs.declared.ready.Stop.TheVariants.{Memory}
use Rattle.cli_plans.specs.Plans.{Plan, Modules, module_part}
use Rattle.secvisor_cli.specs.Ready.{Prepares, Passes, stop_of_making, modules_value}
use Rattle.secvisor_cli.proofs.ReadyLemmas.{err_by}
use Rattle.secvisor_cli.proofs.MakingLemmas.{module_asked, module_passes, module_stops, module_wants, module_unread, files_with}
use Rattle.secvisor_cli.proofs.making.read_module.Goals as goal

pub read_part-requires-clause-permitted : goal.read_part-requires-clause-permitted
read_part-requires-clause-permitted g c = module_asked c.args.word.now (modules_value c.args.modules.now) _ c.requires.permitted

pub returns-in_err-bytes-clause-stopped : goal.returns-in_err-bytes-clause-stopped
returns-in_err-bytes-clause-stopped g c =
    err_by _ c.in_err-bytes.field-0.0
    (λ (r : Result (Unit {0}) Stop). IfErr r (λ stop. (next : Modules → Plan) →
    Prepares (module_part c.args.word.now (modules_value c.args.modules.now) next) (g.F.Files.state c.args.files.now) (g.F.Files.state c.read_part.new.files) (Err stop)))
    c.from_residual.ensures.1 (module_unread c.args.word.now (modules_value c.args.modules.now) _ _ c.in_err-bytes.field-0.0 c.in_err-bytes.ensures)

pub returns-in_err-want_names-clause-stopped : goal.returns-in_err-want_names-clause-stopped
returns-in_err-want_names-clause-stopped g c =
    err_by _ (stop_of_making c.in_err-want_names.field-0.0)
    (λ (r : Result (Unit {0}) Stop). IfErr r (λ stop. (next : Modules → Plan) →
    Prepares (module_part c.args.word.now (modules_value c.args.modules.now) next) (g.F.Files.state c.args.files.now) (g.F.Files.state c.read_part.new.files) (Err stop)))
    c.from_residual-in_err-want_names.ensures.1
    (module_stops c.args.word.now (modules_value c.args.modules.now) c.in_ok-bytes.bytes.items _ _ c.in_err-want_names.field-0.0 c.in_ok-bytes.ensures
    (subst (λ (b : List ℕ). Refuses (names_with c.args.modules.now.names.items b) c.in_err-want_names.field-0.0) c.deref.ensures.value c.in_err-want_names.ensures.refused))

pub returns-in_err-push-clause-stopped : goal.returns-in_err-push-clause-stopped
returns-in_err-push-clause-stopped g c =
    err_by _ Memory
    (λ (r : Result (Unit {0}) Stop). IfErr r (λ stop. (next : Modules → Plan) →
    Prepares (module_part c.args.word.now (modules_value c.args.modules.now) next) (g.F.Files.state c.args.files.now) (g.F.Files.state c.read_part.new.files) (Err stop)))
    c.from_residual-in_err-push.ensures.1 (module_wants c.args.word.now (modules_value c.args.modules.now) c.in_ok-bytes.bytes.items _ _ c.in_ok-bytes.ensures)

pub returns-clause-passes : goal.returns-clause-passes
returns-clause-passes g c =
    let before : List ModuleFile = map file_of c.args.modules.now.objects.items in
    let objects : map file_of c.push.new.self.items ≡ before ++ record { name = c.args.word.now; bytes = c.in_ok-bytes.bytes.items } ∷ [] =
    ap (map file_of) c.in_ok-push.ensures.items ∙ files_with c.args.modules.now.objects.items _
    ∙ ap (λ (n : List ℕ). before ++ record { name = n; bytes = c.in_ok-bytes.bytes.items } ∷ []) c.in-Some.ensures.name in
    subst (λ (os : List ModuleFile). Passes (module_part c.args.word.now (modules_value c.args.modules.now)) (record { names = c.want_names.new.names.items; objects = os })
    (g.F.Files.state c.args.files.now) (g.F.Files.state c.read_part.new.files))
    (sym objects)
    (module_passes c.args.word.now (modules_value c.args.modules.now) c.in_ok-bytes.bytes.items c.want_names.new.names.items _ _ c.in_ok-bytes.ensures
    (subst (λ (b : List ℕ). names_with c.args.modules.now.names.items b ≡ Ok c.want_names.new.names.items) c.deref.ensures.value c.in_ok-want_names.ensures.names))

pub returns-clause-named : goal.returns-clause-named
returns-clause-named g c =
    let before : List ModuleFile = map file_of c.args.modules.now.objects.items in
    let objects : map file_of c.push.new.self.items ≡ before ++ record { name = c.args.word.now; bytes = c.in_ok-bytes.bytes.items } ∷ [] =
    ap (map file_of) c.in_ok-push.ensures.items ∙ files_with c.args.modules.now.objects.items _
    ∙ ap (λ (n : List ℕ). before ++ record { name = n; bytes = c.in_ok-bytes.bytes.items } ∷ []) c.in-Some.ensures.name in
    ap file_names objects ∙ map-append (λ (o : ModuleFile). o.name) before (record { name = c.args.word.now; bytes = c.in_ok-bytes.bytes.items } ∷ [])
