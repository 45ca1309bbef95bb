-- What stands where `convert` is done.
use Rattle.std.proofs.Common.{◌≡◌, ◌∙◌, ℕ, true, List, Option, Some, None, Ok, Err, refl, sym, ap, subst, inl, inr}
use Rattle.cli_plans.specs.Commands.{ConvertSplit}
use Rattle.std.proofs.lemmas.Option.{same_Some}
use Rattle.sv_types.specs.declared.image_fault.ImageFault.{ImageFault}
use Rattle.sv_types.specs.declared.status.Status.{Status}
use Rattle.sv_types.specs.Kernel.{kernel_refusal, kernel_segments}
use Rattle.sv_types.specs.Policies.{Rules, rules_within}
use Rattle.sv_types.specs.Steps.{◌>>=◌}
use Rattle.policy.specs.Refusals.{Judged}
use Rattle.policy.specs.Text.{rules_of_members, rules_of_text, table_of_text}
use Rattle.policy.proofs.ReadWithin.{rules_read}
use Rattle.policy_making.specs.Binding.{bound_rules}
use Rattle.policy_making.specs.Faults.{Judged as Bound}
use Rattle.policy_making.specs.declared.bind_fault.BindFault.{BindFault}
use Rattle.policy_making.specs.declared.bind_fault.BindFault.TheVariants as binding
use Rattle.policy_making.proofs.BoundWithin.{law_in_text}
use Rattle.host_io.specs.Outside.{FilesState, after_asking}
use Rattle.cli_plans.specs.declared.file_fault.FileFault.{FileFault}
use Rattle.secvisor_cli.specs.Answers.{Headline, Meets, MeetsReached, Outside, outside}
use Rattle.cli_plans.specs.CommandLine.{Convert}
use Rattle.secvisor_cli.specs.Converted.{Holds, IsBoundOf, IsConverted}
use Rattle.cli_plans.specs.Plans.{Due, Refuse, Plan, End, Read, Judge, Found, Held, binding_plan, binding_refusal}
use Rattle.cli_plans.specs.Plans.{bound_plan, command_plan, convert_plan, due_of_convert, converted_judged, found_plan, kernel_part}
use Rattle.cli_plans.specs.Plans.{part_judged, plan_of, policy_judged, policy_part, status_due}
use Rattle.cli_plans.specs.Reading.{Follows, FoundAs}

-- this holds of what is due at each end of a plan that these files are asked by, where that is done
abbrev DoneAs : (Due → Type 0) → FilesState → Plan → Type 0
DoneAs P files (End due) = status_due due ≡ Status.Done → P due
DoneAs P files (Read name limit next) = (found : Found) (now : FilesState) → FoundAs files now name limit found → DoneAs P now (next found)
DoneAs P files (Judge next) = DoneAs P files next

done_at_end : (P : Due → Type 0) (plan : Plan) (old new : FilesState) (due : Due) → DoneAs P old plan → Follows plan old new (Some due) → status_due due ≡ Status.Done → P due
done_at_end P (End it) old new due all follows is =
    let same = same_Some due it follows.0 in
    subst P (sym same) (all (sym (ap status_due same) ∙ is))
done_at_end P (Read name limit next) old new due all (inl wanting) is = absurd (cc wanting.0)
done_at_end P (Read name limit next) old new due all (inr it) is = done_at_end P (next it.0) it.1 new due (all it.0 it.1 it.2) it.3 is
done_at_end P (Judge next) old new due all (inl wanting) is = absurd (cc wanting.0)
done_at_end P (Judge next) old new due all (inr it) is = done_at_end P next old new due all it is

-- ---- the plan of `convert`

-- what is due is a policy bound to the kernel that was read
record IsBoundDue (words : ConvertSplit) (files : FilesState) (due : Due) : Type 0 where
  rules : Rules
  is : due ≡ due_of_convert words.out rules
  bound : IsBoundOf words files rules

-- what holds of each answer of the second step holds of that of both
behind : {A : Type 0} (P : Rules → Type 0) (f : A → Judged Rules) → ((a : A) (rules : Rules) → f a ≡ Ok rules → P rules)
    → (first : Judged A) (rules : Rules) → (first >>= f) ≡ Ok rules → P rules
behind P f all (Ok a) rules e = all a rules e
behind P f all (Err fault) rules e = absurd (cc e)

text_within : (bytes : List ℕ) (rules : Rules) → rules_of_text bytes ≡ Ok rules → rules_within rules ≡ true
text_within bytes rules e = behind (λ (r : Rules). rules_within r ≡ true) rules_of_members rules_read (table_of_text bytes) rules e

refused_undone : (P : Due → Type 0) (fault : BindFault) → status_due (Refuse (binding_refusal fault)) ≡ Status.Done → P (Refuse (binding_refusal fault))
refused_undone P (binding.Convert fault) e = absurd (cc e)
refused_undone P (binding.Measure found wanted) e = absurd (cc e)

-- files hold the same once they were asked
still_holds : (old now : FilesState) (asked : List ℕ) (limit : ℕ) (name bytes : List ℕ) → now ≡ after_asking asked limit old → Holds now name bytes → Holds old name bytes
still_holds old now asked limit name bytes is held = subst (λ (f : FilesState). Holds f name bytes) is held

module _ (words : ConvertSplit) (files : FilesState) where
  -- the policy was read
  record HasPolicy (text : List ℕ) (given : Rules) : Type 0 where
    policy : Holds files words.given text
    read : rules_of_text text ≡ Ok given

  bound_by : (text : List ℕ) (given : Rules) (file : List ℕ) (bound : Bound Rules) → HasPolicy text given → Holds files words.kernel file
      → bound_rules given (kernel_segments file) ≡ bound → kernel_refusal file given.ram_pages ≡ None
      → status_due (converted_judged words.out bound) ≡ Status.Done → IsBoundDue words files (converted_judged words.out bound)
  bound_by text given file (Ok made) has kernel is accepted e = record {
    rules = made;
    is = refl;
    bound = record {
      text = text;
      given = given;
      file = file;
      policy = has.policy;
      kernel = kernel;
      read = has.read;
      bound = is;
      within = law_in_text file given made accepted (text_within text given has.read) is;
    };
  }
  bound_by text given file (Err fault) has kernel is accepted e = refused_undone (IsBoundDue words files) fault e

  bound_done : (now : FilesState) (text : List ℕ) (given : Rules) (file : List ℕ) → HasPolicy text given → Holds files words.kernel file
      → kernel_refusal file given.ram_pages ≡ None → DoneAs (IsBoundDue words files) now (bound_plan words given file)
  unfolding bound_plan
  bound_done now text given file has kernel accepted = bound_by text given file (bound_rules given (kernel_segments file)) has kernel refl accepted

  kernel_by : (now : FilesState) (text : List ℕ) (given : Rules) (file : List ℕ) (fault : Option ImageFault) → HasPolicy text given → Holds files words.kernel file
      → kernel_refusal file given.ram_pages ≡ fault → DoneAs (IsBoundDue words files) now (part_judged FileFault.Image (bound_plan words given file) fault)
  kernel_by now text given file None has kernel is = bound_done now text given file has kernel is
  kernel_by now text given file (Some fault) has kernel is = λ e. absurd (cc e)

  kernel_done : (before : FilesState) (asked : List ℕ) (limit : ℕ) → before ≡ after_asking asked limit files → (text : List ℕ) (given : Rules)
      → HasPolicy text given → DoneAs (IsBoundDue words files) before (binding_plan words given)
  unfolding binding_plan kernel_part found_plan
  kernel_done before asked limit was text given has (Held file) now found =
      kernel_by now text given file (kernel_refusal file given.ram_pages) has (still_holds files before asked limit words.kernel file was found.1) refl
  kernel_done before asked limit was text given has _ now found = λ e. absurd (cc e)

  policy_by : (before : FilesState) (asked : List ℕ) (limit : ℕ) → before ≡ after_asking asked limit files → (text : List ℕ) (judged : Judged Rules)
      → Holds files words.given text → rules_of_text text ≡ judged → DoneAs (IsBoundDue words files) before (policy_judged (binding_plan words) judged)
  policy_by before asked limit was text (Ok given) policy is = kernel_done before asked limit was text given (record { policy = policy; read = is })
  policy_by before asked limit was text (Err fault) policy is = λ e. absurd (cc e)

  convert_done : DoneAs (IsBoundDue words files) files (convert_plan words)
  unfolding convert_plan policy_part found_plan
  convert_done (Held text) now found = policy_by now _ _ found.2 text (rules_of_text text) found.1 refl
  convert_done _ now found = λ e. absurd (cc e)

  words_done : DoneAs (IsBoundDue words files) files (plan_of (Ok (Convert words)))
  unfolding command_plan
  words_done = convert_done

converted_by : (words : ConvertSplit) (due : Due) (old new : Outside) (files : FilesState) → IsBoundDue words old.files due
    → Meets due (outside files old.sink old.bench) new Status.Done → IsConverted words old new
converted_by words due old new files bound meets =
    let now = subst (λ (d : Due). Meets d (outside files old.sink old.bench) new Status.Done) bound.is meets in
    record {
      rules = bound.rules;
      read = files;
      is = bound.bound;
      saved = now.saves.saved refl;
      line = now.whole refl;
    }

reached_by : (words : ConvertSplit) (reached : Option Due) (old new : Outside) (files : FilesState) → Follows (plan_of (Ok (Convert words))) old.files files reached
    → MeetsReached reached (outside files old.sink old.bench) new Status.Done → IsConverted words old new
reached_by words None old new files follows meets = absurd (cc meets.0)
reached_by words (Some due) old new files follows (inr meets) = absurd (cc meets.1)
reached_by words (Some due) old new files follows (inl meets) =
    converted_by words due old new files
    (done_at_end (IsBoundDue words old.files) (plan_of (Ok (Convert words))) old.files files due (words_done words old.files) follows (sym (meets.1.status refl))) meets.1

pub converted_done : (words : ConvertSplit) (old new : Outside) → Headline (plan_of (Ok (Convert words))) old new Status.Done → IsConverted words old new
converted_done words old new headline = reached_by words headline.reached old new headline.read headline.follows headline.meets
