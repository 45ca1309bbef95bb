use Rattle.std.proofs.Common.{◌≡◌, ◌+◌, ◌++◌, List, [], ◌∷◌, ℕ, Bor, map, drop, get_or, ap, subst, ◌∙◌, arith, append_assoc, sym}
use Rattle.std.proofs.lemmas.Grind.{common_steps}
use Rattle.std.proofs.lemmas.List.{append-nil, at_drop_all}
use Rattle.policy_making.specs.Making.{file_names}
use Rattle.secvisor_cli.specs.declared.making.WantingModules.{WantingModules}
use Rattle.cli_plans.specs.Plans.{modules_part, no_modules}
use Rattle.secvisor_cli.specs.Ready.{Staged, modules_value}
use Rattle.secvisor_cli.proofs.ReadyLemmas.{err_by}
use Rattle.secvisor_cli.proofs.MakingLemmas.{GoesOn, module_ends, module_more}
use Rattle.secvisor_cli.proofs.making.read_modules.Goals as goal

abbrev values : List (Bor (List ℕ)) → List (List ℕ)
values words = map (λ (w : Bor (List ℕ)). w.now) words

pub words-preserved : goal.words-preserved
words-preserved g c =
    let empty : Bor (List ℕ) = record { ref_ptr = (0, 0); now = [] } in
    let word : Bor (List ℕ) = get_or c.args.words.now c.words.word-index empty in
    let behind : List (Bor (List ℕ)) = drop (c.words.word-index + 1) c.args.words.now in
    let test = c.words-test.true in
    let at : drop c.words.word-index c.args.words.now ≡ word ∷ behind = grind (arith, common_steps) in
    let before : List (List ℕ) = file_names (modules_value c.words.modules).objects in
    let here : before ++ values (word ∷ behind) ≡ values c.args.words.now =
    subst (λ (ws : List (Bor (List ℕ))). before ++ values ws ≡ values c.args.words.now) at c.words.invariant.1 in (
      module_more (modules_part (values c.args.words.now) no_modules) word.now (values behind) (modules_value c.words.modules) (modules_value c.read_module.new.modules) _ _ _
          (subst
          (λ (ws : List (Bor (List ℕ))). GoesOn (modules_part (values c.args.words.now) no_modules) (modules_part (values ws) (modules_value c.words.modules))
          (g.F.Files.state c.args.files.now) (g.F.Files.state c.words.files)) at c.words.invariant.0)
          c.in_ok-read_module.ensures.passes,
      ap (λ (names : List (List ℕ)). names ++ values behind) c.in_ok-read_module.ensures.named ∙ append_assoc before (word.now ∷ []) (values behind) ∙ here,
    )

pub returns-in_err-read_module-clause-staged : goal.returns-in_err-read_module-clause-staged
returns-in_err-read_module-clause-staged g c =
    let empty : Bor (List ℕ) = record { ref_ptr = (0, 0); now = [] } in
    let word : Bor (List ℕ) = get_or c.args.words.now c.words.word-index empty in
    let behind : List (Bor (List ℕ)) = drop (c.words.word-index + 1) c.args.words.now in
    let test = c.words-test.true in
    let at : drop c.words.word-index c.args.words.now ≡ word ∷ behind = grind (arith, common_steps) in
    err_by _ c.in_err-read_module.field-0.0
    (λ r. Staged {T = WantingModules} (modules_part (values c.args.words.now) no_modules) modules_value (g.F.Files.state c.args.files.now) (g.F.Files.state c.read_module.new.files) r)
    c.from_residual.ensures.1
    (module_ends (modules_part (values c.args.words.now) no_modules) word.now (values behind) (modules_value c.words.modules) _ _ _ c.in_err-read_module.field-0.0
    (subst
    (λ (ws : List (Bor (List ℕ))). GoesOn (modules_part (values c.args.words.now) no_modules) (modules_part (values ws) (modules_value c.words.modules))
    (g.F.Files.state c.args.files.now) (g.F.Files.state c.words.files)) at c.words.invariant.0)
    c.in_err-read_module.ensures.stopped)

pub returns-clause-staged : goal.returns-clause-staged
returns-clause-staged g c =
    let none = at_drop_all (λ (ws : List (Bor (List ℕ))). ws) c.args.words.now c.words.word-index c.words-test.false in
    let on =
    subst
    (λ (ws : List (Bor (List ℕ))). GoesOn (modules_part (values c.args.words.now) no_modules) (modules_part (values ws) (modules_value c.words.modules))
    (g.F.Files.state c.args.files.now) (g.F.Files.state c.words.files)) none c.words.invariant.0 in
    record { follows = on.follows; may = on.may; faults = on.faults }

pub returns-clause-named : goal.returns-clause-named
returns-clause-named g c =
    let none = at_drop_all (λ (ws : List (Bor (List ℕ))). ws) c.args.words.now c.words.word-index c.words-test.false in
    let before : List (List ℕ) = file_names (modules_value c.words.modules).objects in
    sym (append-nil before) ∙ subst (λ (ws : List (Bor (List ℕ))). before ++ values ws ≡ values c.args.words.now) none c.words.invariant.1
