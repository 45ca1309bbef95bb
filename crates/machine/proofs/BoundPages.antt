-- The pages that a policy within its limits binds its entries to.
use Rattle.std.proofs.Common.{◌≡◌, ℕ, zero, suc, ◌^◌, ◌<◌, ◌≤◌, IsTrue, List, [], ◌∷◌, ◌++◌, length, arith, get_or}
use Rattle.std.specs.Prelude.{Bool, true, false, ◌==◌, if◌then◌else◌}
use Rattle.std.proofs.lemmas.Bool.{eqb-true}
use Rattle.std.proofs.lemmas.Bool.Decides.{nat_tests}
use Rattle.spec_processor.specs.Bytes.{page_of}
use Rattle.spec_processor.specs.Regions.{max_ram_pages}
use Rattle.sv_types.specs.Limits.{plain_format}
use Rattle.sv_types.specs.Policies.{Rules, rules_within, bound_fits, all_bound}
use Rattle.sv_types.proofs.PolicyLimits.{bound_rules, few_pages, first_bound}

small_page : (n va gpa : ℕ) → bound_fits n va gpa ≡ true → n ≤ max_ram_pages → page_of gpa < 2 ^ 32
small_page n va gpa fits most = grind (arith, nat_tests)

page_within : (n : ℕ) (before entries bound : List ℕ) (i d : ℕ) → all_bound n before entries bound ≡ true → n ≤ max_ram_pages → i < length bound
    → page_of (get_or bound i d) < 2 ^ 32
page_within n before [] [] i d within most below = absurd (omega (arith, below))
page_within n before [] (gpa ∷ bound) i d within most below = absurd (cc)
page_within n before (va ∷ entries) [] i d within most below = absurd (omega (arith, below))
page_within n before (va ∷ entries) (gpa ∷ bound) zero d within most below = small_page n va gpa (first_bound n before va gpa entries bound within).0 most
page_within n before (va ∷ entries) (gpa ∷ bound) (suc i) d within most below =
    page_within n (before ++ va ∷ []) entries bound i d (first_bound n before va gpa entries bound within).1 most (omega (arith, below))

page_by : (rules : Rules) (i d : ℕ) (b : Bool) → IsTrue (if b then length rules.bound == 0 else all_bound rules.ram_pages [] rules.entries rules.bound)
    → rules.ram_pages ≤ max_ram_pages → i < length rules.bound → page_of (get_or rules.bound i d) < 2 ^ 32
page_by rules i d true none most below =
    let empty : length rules.bound ≡ 0 = eqb-true (length rules.bound) 0 none in absurd (omega (arith, empty, below))
page_by rules i d false each most below = page_within rules.ram_pages [] rules.entries rules.bound i d each most below

-- the number of each page is one of 32 bits
pub page_fits : (rules : Rules) (i d : ℕ) → IsTrue (rules_within rules) → i < length rules.bound → page_of (get_or rules.bound i d) < 2 ^ 32
page_fits rules i d within below =
    page_by rules i d (rules.format == plain_format) (bound_rules rules within) (few_pages rules within) below
