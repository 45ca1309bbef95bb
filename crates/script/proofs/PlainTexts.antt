-- Texts without lines `auto N` say what they said without these.
use Rattle.std.proofs.Common.{◌≡◌, ℕ, ◌+◌, Bool, true, false, not, ◌==◌, cond, if◌then◌else◌, List, [], ◌∷◌, ◌++◌, map, flat_map, Option}
use Rattle.std.proofs.Common.{Some, None, is_none, option_map, unwrap_or, codes, refl, sym, ◌∙◌, ap, subst}
use Rattle.std.specs.List.{list_all, position_from}
use Rattle.std.specs.Str.{bytes_eq}
use Rattle.std.proofs.lemmas.List.{map-append}
use Rattle.std.proofs.lemmas.Slice.Eq.{bytes_eq-Decides}
use Rattle.std.specs.Cmp.{first_so, second_so}
use Rattle.std.proofs.lemmas.Bool.{not-true}
use Rattle.sv_types.specs.declared.event.Event.{Event}
use Rattle.sv_types.specs.Schedule.{Schedule, Auto, lines, fields, fields_events, line_events, events_of_line, two_fields_events, repeats, script_events, is_of_no_form, first_of_no_form}
use Rattle.script.specs.declared.said.Said.{Said}
use Rattle.script.specs.declared.said.Said.TheVariants.{This}
use Rattle.script.specs.AutoScripts.{all_said, drawn_times, two_fields_said, fields_said, line_said, said_of_line, text_said, is_refused}
use Rattle.script.specs.AutoScripts.{first_refused, events_drawn, events_of_text, is_auto, has_no_autos}

-- ---- a line

-- the line says what it said
abbrev IsPlain : List ℕ → Type 0
IsPlain line = line_said line ≡ all_said (line_events line)

-- these fields say what they said
abbrev ArePlain : List (List ℕ) → Type 0
ArePlain fields = fields_said fields ≡ all_said (fields_events fields)

line_plain : (first : ℕ) (rest : List ℕ) → ((first == 35) ≡ false → ArePlain (fields (first ∷ rest))) → IsPlain (first ∷ rest)
unfolding line_said line_events
line_plain first rest are =
    elim (first == 35) as (λ b. ((b ≡ false) → ArePlain (fields (first ∷ rest))) →
    (if b then Some [] else fields_said (fields (first ∷ rest))) ≡ all_said (if b then Some [] else fields_events (fields (first ∷ rest)))) [
      | true ↦ λ g. refl
      | false ↦ λ g. g refl
    ] are

no_auto_plain : (all : List (List ℕ)) → is_auto all ≡ false → ArePlain all
unfolding two_fields_said
no_auto_plain [] isnt = refl
no_auto_plain (word ∷ []) isnt = refl
no_auto_plain (word ∷ number ∷ []) isnt =
    ap (λ (b : Bool). if b then option_map drawn_times (repeats number) else all_said (two_fields_events word number)) isnt
no_auto_plain (word ∷ hart ∷ times ∷ []) isnt = refl
no_auto_plain (word ∷ hart ∷ times ∷ more ∷ rest) isnt = refl

no_line_of_autos : (line : List ℕ) → is_auto (fields line) ≡ false → IsPlain line
unfolding line_said line_events
no_line_of_autos [] isnt = refl
no_line_of_autos (first ∷ rest) isnt = line_plain first rest (λ other. no_auto_plain (fields (first ∷ rest)) isnt)

-- `auto` and a field more had no form
formed_two : (word number : List ℕ) → is_none (two_fields_events word number) ≡ false → bytes_eq word (codes "auto") ≡ false
unfolding two_fields_events
formed_two word number formed =
    let none : (w : List ℕ) → w ≡ codes "auto" → is_none (two_fields_events w number) ≡ true = λ w is. subst (λ (v : List ℕ). is_none (two_fields_events v number) ≡ true) (sym is) refl in
    elim (bytes_eq word (codes "auto")) as (λ b. bytes_eq word (codes "auto") ≡ b → b ≡ false) [
      | true ↦ λ same. sym (none word ((bytes_eq-Decides word (codes "auto")).0 same)) ∙ formed
      | false ↦ λ other. refl
    ] refl

formed_plain : (all : List (List ℕ)) → is_none (fields_events all) ≡ false → ArePlain all
formed_plain [] formed = refl
formed_plain (word ∷ []) formed = refl
formed_plain (word ∷ number ∷ []) formed = no_auto_plain (word ∷ number ∷ []) (formed_two word number formed)
formed_plain (word ∷ hart ∷ times ∷ []) formed = refl
formed_plain (word ∷ hart ∷ times ∷ more ∷ rest) formed = refl

formed_line : (line : List ℕ) → is_of_no_form line ≡ false → IsPlain line
unfolding line_said line_events
formed_line [] formed = refl
formed_line (first ∷ rest) formed =
    line_plain first rest (λ other. formed_plain (fields (first ∷ rest)) (subst (λ (b : Bool). is_none (if b then Some [] else fields_events (fields (first ∷ rest))) ≡ false) other formed))

-- ---- a text

abbrev EachIsPlain : List (List ℕ) → Type 0
EachIsPlain [] = Unit {0}
EachIsPlain (line ∷ all) = IsPlain line × EachIsPlain all

each_without : (all : List (List ℕ)) → list_all (λ line. not (is_auto (fields line))) all ≡ true → EachIsPlain all
each_without [] is = tt
each_without (line ∷ all) is = (
  no_line_of_autos line (not-true _ (first_so (not (is_auto (fields line))) (list_all (λ l. not (is_auto (fields l))) all) is)),
  each_without all (second_so (not (is_auto (fields line))) (list_all (λ l. not (is_auto (fields l))) all) is),
)

found_none : (b : Bool) (k : ℕ) (behind : Option ℕ) → cond b (Some k) behind ≡ None → (b ≡ false) × (behind ≡ None)
found_none true k behind is = absurd (cc)
found_none false k behind is = (refl, is)

each_formed : (k : ℕ) (all : List (List ℕ)) → position_from is_of_no_form k all ≡ None → EachIsPlain all
each_formed k [] is = tt
each_formed k (line ∷ all) is =
    let parts = found_none (is_of_no_form line) k (position_from is_of_no_form (k + 1) all) is in
    (formed_line line parts.0, each_formed (k + 1) all parts.1)

unwrapped : (events : Option (List Event)) → unwrap_or (all_said events) [] ≡ map This (unwrap_or events [])
unwrapped None = refl
unwrapped (Some events) = refl

plain_said : (all : List (List ℕ)) → EachIsPlain all → flat_map said_of_line all ≡ map This (flat_map events_of_line all)
plain_said [] each = refl
plain_said (line ∷ all) each =
    ap (λ (said : Option (List Said)). unwrap_or said [] ++ flat_map said_of_line all) each.0
    ∙ ap (λ (said : List Said). said ++ flat_map said_of_line all) (unwrapped (line_events line))
    ∙ ap (λ (said : List Said). map This (events_of_line line) ++ said) (plain_said all each.1)
    ∙ sym (map-append This (events_of_line line) (flat_map events_of_line all))

none_said : (events : Option (List Event)) → is_none (all_said events) ≡ is_none events
none_said None = refl
none_said (Some events) = refl

plain_refused : (k : ℕ) (all : List (List ℕ)) → EachIsPlain all → position_from is_refused k all ≡ position_from is_of_no_form k all
plain_refused k [] each = refl
plain_refused k (line ∷ all) each =
    ap (λ (said : Option (List Said)). cond (is_none said) (Some k) (position_from is_refused (k + 1) all)) each.0
    ∙ ap (λ (b : Bool). cond b (Some k) (position_from is_refused (k + 1) all)) (none_said (line_events line))
    ∙ ap (λ (behind : Option ℕ). cond (is_of_no_form line) (Some k) behind) (plain_refused (k + 1) all each.1)

drawn_these : (autos : Schedule) (events : List Event) → events_drawn autos (map This events) ≡ events
drawn_these autos [] = refl
drawn_these autos (event ∷ events) = ap (λ (more : List Event). event ∷ more) (drawn_these autos events)

plain_text : (harts : ℕ) (text : List ℕ) → EachIsPlain (lines text) → (events_of_text harts text ≡ script_events text) × (first_refused text ≡ first_of_no_form text)
unfolding text_said script_events first_refused first_of_no_form
plain_text harts text each = (
  ap (λ (said : List Said). events_drawn (Auto harts 0) said) (plain_said (lines text) each) ∙ drawn_these (Auto harts 0) (flat_map events_of_line (lines text)),
  plain_refused 1 (lines text) each,
)

pub without_autos : (harts : ℕ) (text : List ℕ) → has_no_autos text ≡ true → (events_of_text harts text ≡ script_events text) × (first_refused text ≡ first_of_no_form text)
without_autos harts text is = plain_text harts text (each_without (lines text) is)

pub accepted_before : (harts : ℕ) (text : List ℕ) → first_of_no_form text ≡ None → (events_of_text harts text ≡ script_events text) × (first_refused text ≡ None)
unfolding first_of_no_form
accepted_before harts text is =
    let both = plain_text harts text (each_formed 1 (lines text) is) in
    (both.0, both.1 ∙ is)
