use Rattle.std.proofs.Common.{◌≡◌, ◌++◌, List, ℕ, Bor, drop, map}
use Rattle.policy_making.specs.Making.{file_names}
use Rattle.cli_plans.specs.Plans.{modules_part, no_modules}
use Rattle.secvisor_cli.specs.Ready.{modules_value}
use Rattle.secvisor_cli.proofs.MakingLemmas.{GoesOn}
use Rattle.secvisor_cli.proofs.making.read_modules.Given as goal

abbrev pub invariant-words : goal.invariant-words
invariant-words g l =
    GoesOn (modules_part (map (λ (w : Bor (List ℕ)). w.now) l.words) no_modules) (modules_part (map (λ (w : Bor (List ℕ)). w.now) (drop l.word-index l.words))
    (modules_value l.modules)) (g.F.Files.state l.initial.files)
    (g.F.Files.state l.files)
    × (file_names (modules_value l.modules).objects ++ map (λ (w : Bor (List ℕ)). w.now) (drop l.word-index l.words) ≡ map (λ (w : Bor (List ℕ)). w.now) l.words)
