-- Exports have the names that are wanted.
use Rattle.std.proofs.Common.{◌≡◌, ℕ, Bool, true, false, List, [], ◌∷◌, ◌++◌, length, map, Ok, Err, Some, None, Option, refl, ap, sym, subst, ◌∙◌, arith}
use Rattle.sv_types.specs.Limits.{max_exports}
use Rattle.std.specs.Prelude.{◌==◌, nat_lt, if◌then◌else◌}
use Rattle.std.proofs.lemmas.Bool.{eqb-true}
use Rattle.std.proofs.lemmas.List.{append_assoc, append-nil, map-append}
use Rattle.sv_types.specs.Kernel.{first_refusal, file_checks}
use Rattle.sv_types.specs.declared.image_fault.HeaderFault.{HeaderFault}
use Rattle.sv_types.specs.declared.image_fault.ImageFault.{ImageFault}
use Rattle.sv_types.specs.declared.policy.Export.{Export}
use Rattle.sv_types.specs.Steps.{◌>>=◌}
use Rattle.elf64_load.specs.Judged.{each}
use Rattle.elf64_load.specs.Sections.{Tables}
use Rattle.elf64_load.specs.Exports as images
use Rattle.elf64_load.specs.Refusals as refusals
use Rattle.policy_making.specs.Making.{exports_for}
use Rattle.policy_making.specs.Refusals.{in_image}

abbrev names_of : List Export → List (List ℕ)
names_of exports = map (λ e. e.name) exports

one_name : (name : List ℕ) (o : Option ℕ) (export : Export) → images.export_at name o ≡ Ok export → export.name ≡ name
one_name name None export e = absurd (cc e)
one_name name (Some addr) export e =
    let same : record { name = name; addr = addr } ≡ export = cc e in sym (ap (λ (x : Export). x.name) same)

each_name_by : (tables : Tables) (before exports : List Export) (name : List ℕ) (names : List (List ℕ)) (judged : refusals.Judged Export) → images.export_of tables name ≡ judged
    → ((b : Export) → each (images.export_of tables) (before ++ b ∷ []) names ≡ Ok exports → names_of exports ≡ names_of (before ++ b ∷ []) ++ names)
    → (judged >>= λ b. each (images.export_of tables) (before ++ b ∷ []) names) ≡ Ok exports → names_of exports ≡ names_of before ++ (name ∷ names)
each_name_by tables before exports name names (Ok b) is rest e =
    rest b e
    ∙ ap (λ (l : List (List ℕ)). l ++ names) (map-append (λ (x : Export). x.name) before (b ∷ [])
    ∙ ap (λ (n : List ℕ). names_of before ++ (n ∷ [])) (one_name name (images.address_of tables name) b is))
    ∙ append_assoc (names_of before) (name ∷ []) names
each_name_by tables before exports name names (Err x) is rest e = absurd (cc e)

each_name : (tables : Tables) (before exports : List Export) (names : List (List ℕ)) → each (images.export_of tables) before names ≡ Ok exports → names_of exports ≡ names_of before ++ names
each_name tables before exports [] e =
    let same : before ≡ exports = cc e in sym (ap names_of same) ∙ sym (append-nil (names_of before))
each_name tables before exports (name ∷ names) e =
    each_name_by tables before exports name names (images.export_of tables name) refl (λ b. each_name tables (before ++ b ∷ []) exports names) e

few : (b : Bool) (exports found : List Export) → ◌≡◌ {A = refusals.Judged (List Export)} (if b then Err ImageFault.TooManyNames else Ok exports) (Ok found) → exports ≡ found
few true exports found e = absurd (cc e)
few false exports found e = cc e

few_of : (tables : Tables) (names : List (List ℕ)) (judged : refusals.Judged (List Export)) (found : List Export) → each (images.export_of tables) [] names ≡ judged
    → (judged >>= images.if_few) ≡ Ok found → names_of found ≡ names
few_of tables names (Ok exports) found is e =
    subst (λ (l : List Export). names_of l ≡ names) (few (nat_lt max_exports (length exports)) exports found e) (each_name tables [] exports names is)
few_of tables names (Err x) found is e = absurd (cc e)

names_in : (o : Option Tables) (names : List (List ℕ)) (found : List Export) → images.exports_in o names ≡ Ok found → names_of found ≡ names
names_in None names found e = absurd (cc e)
names_in (Some tables) names found e = few_of tables names (each (images.export_of tables) [] names) found refl e

names_judged : (fault : Option HeaderFault) (file : List ℕ) (names : List (List ℕ)) (found : List Export) → images.exports_of_file fault file names ≡ Ok found → names_of found ≡ names
names_judged (Some number) file names found e = absurd (cc e)
names_judged None file names found e = names_in (images.kernel_tables file) names found e

judged_names : (file : List ℕ) (names : List (List ℕ)) (found : List Export) → images.exports_judged file names ≡ Ok found → names_of found ≡ names
unfolding images.exports_judged
judged_names file names found e = names_judged (first_refusal (file_checks 2 file)) file names found e

passed : (file : List ℕ) (names : List (List ℕ)) (judged : refusals.Judged (List Export)) (found : List Export) → images.exports_judged file names ≡ judged → in_image judged ≡
    Ok found → names_of found ≡ names
passed file names (Ok exports) found e same =
    let is : exports ≡ found = cc same in
    judged_names file names found (e ∙ ap (λ (l : List Export). Ok l) is)
passed file names (Err x) found e same = absurd (cc same)

no_names : (names : List (List ℕ)) → length names ≡ 0 → [] ≡ names
no_names [] e = refl
no_names (name ∷ names) e = absurd (omega (arith, e))

wanted : (none : Bool) (file : List ℕ) (names : List (List ℕ)) (found : List Export) → (length names == 0) ≡ none → (if none then Ok [] else in_image (images.exports_judged file names)) ≡ Ok found
    → names_of found ≡ names
wanted true file names found none e =
    let is : [] ≡ found = cc e in sym (ap names_of is) ∙ no_names names (eqb-true (length names) 0 none)
wanted false file names found none e = passed file names (images.exports_judged file names) found refl e

pub export_names : (file : List ℕ) (names : List (List ℕ)) (found : List Export) → exports_for file names ≡ Ok found → map (λ e. e.name) found ≡ names
unfolding exports_for
export_names file names found e = wanted (length names == 0) file names found refl e
