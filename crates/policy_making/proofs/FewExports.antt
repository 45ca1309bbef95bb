-- The exports that are judged good are few.
use Rattle.std.proofs.Common.{◌≡◌, ℕ, ◌≤◌, Bool, true, false, List, [], length, Ok, Err, Some, None, Option, refl, ap, subst, ◌∙◌, arith}
use Rattle.sv_types.specs.Limits.{max_exports}
use Rattle.std.specs.Prelude.{◌==◌, nat_lt, if◌then◌else◌}
use Rattle.std.proofs.lemmas.Bool.Decides.{nat_tests}
use Rattle.sv_types.specs.Kernel.{first_refusal, file_checks}
use Rattle.sv_types.specs.declared.image_fault.HeaderFault.{HeaderFault}
use Rattle.sv_types.specs.declared.image_fault.ImageFault.{ImageFault}
use Rattle.sv_types.specs.declared.policy.Export.{Export}
use Rattle.sv_types.specs.Steps.{◌>>=◌}
use Rattle.elf64_load.specs.Judged.{each}
use Rattle.elf64_load.specs.Sections.{Tables}
use Rattle.elf64_load.specs.Exports as images
use Rattle.elf64_load.specs.Refusals as refusals
use Rattle.policy_making.specs.Making.{exports_for}
use Rattle.policy_making.specs.Refusals.{in_image}

few : (b : Bool) (exports found : List Export) → nat_lt max_exports (length exports) ≡ b →
    ◌≡◌ {A = refusals.Judged (List Export)} (if b then Err ImageFault.TooManyNames else Ok exports) (Ok found) → length found ≤ max_exports
few true exports found e same = absurd (cc same)
few false exports found e same =
    let is : exports ≡ found = cc same in
    let small : length exports ≤ max_exports = grind (arith, nat_tests) in
    subst (λ (l : List Export). length l ≤ max_exports) is small

few_of : (judged : refusals.Judged (List Export)) (found : List Export) → (judged >>= images.if_few) ≡ Ok found → length found ≤ max_exports
few_of (Ok exports) found e = few (nat_lt max_exports (length exports)) exports found refl e
few_of (Err x) found e = absurd (cc e)

few_in : (o : Option Tables) (names : List (List ℕ)) (found : List Export) → images.exports_in o names ≡ Ok found → length found ≤ max_exports
few_in None names found e = absurd (cc e)
few_in (Some tables) names found e = few_of (each (images.export_of tables) [] names) found e

few_judged : (fault : Option HeaderFault) (file : List ℕ) (names : List (List ℕ)) (found : List Export) → images.exports_of_file fault file names ≡ Ok found → length found ≤ max_exports
few_judged (Some number) file names found e = absurd (cc e)
few_judged None file names found e = few_in (images.kernel_tables file) names found e

judged_few : (file : List ℕ) (names : List (List ℕ)) (found : List Export) → images.exports_judged file names ≡ Ok found → length found ≤ max_exports
unfolding images.exports_judged
judged_few file names found e = few_judged (first_refusal (file_checks 2 file)) file names found e

passed : (file : List ℕ) (names : List (List ℕ)) (judged : refusals.Judged (List Export)) (found : List Export) → images.exports_judged file names ≡ judged → in_image judged ≡
    Ok found → length found ≤ max_exports
passed file names (Ok exports) found e same =
    let is : exports ≡ found = cc same in
    judged_few file names found (e ∙ ap (λ (l : List Export). Ok l) is)
passed file names (Err x) found e same = absurd (cc same)

wanted : (none : Bool) (file : List ℕ) (names : List (List ℕ)) (found : List Export) → (if none then Ok [] else in_image (images.exports_judged file names)) ≡ Ok found → length found ≤ max_exports
wanted true file names found e =
    let is : [] ≡ found = cc e in subst (λ (l : List Export). length l ≤ max_exports) is (omega arith)
wanted false file names found e = passed file names (images.exports_judged file names) found refl e

pub few_exports : (file : List ℕ) (names : List (List ℕ)) (found : List Export) → exports_for file names ≡ Ok found → length found ≤ max_exports
unfolding exports_for
few_exports file names found e = wanted (length names == 0) file names found e
