-- The permitted entries of a policy that was read are words of 64 bits, and the policy is within its limits.
use Rattle.std.proofs.Common.{◌≡◌, ℕ, ◌<◌, ◌≤◌, ◌^◌, Bool, true, false, ◌&&◌, ◌||◌, ◌==◌, nat_le, leb-true, List, [], ◌∷◌, ◌++◌, length}
use Rattle.std.proofs.Common.{Option, Some, None, Ok, Err, refl, ap, subst, arith, if◌then◌else◌}
use Rattle.std.proofs.lemmas.Bool.{and_parts, eqb-true}
use Rattle.std.proofs.lemmas.Int.Digits.{digits_value-lt}
use Rattle.std.proofs.lemmas.Bool.Decides.{nat_tests}
use Rattle.std.proofs.Math.Nat.{pow-le-pow_right}
use Rattle.std.specs.Prelude.{ok_or, codes, take, drop}
use Rattle.std.specs.List.{list_all}
use Rattle.std.specs.Str.{bytes_eq}
use Rattle.std.specs.Char.{is_ascii_hexdigit, digit_value}
use Rattle.std.specs.Str.Parse.{AllDigits, digits_value}
use Rattle.toml.specs.Data.{Data, Items, no_items, item, Members, get_member}
use Rattle.sv_types.specs.Policies.{Rules, entry_within, entries_count_within, rules_within, bound_fits}
use Rattle.sv_types.specs.Addresses as addresses
use Rattle.sv_types.specs.Addresses.{is_hexadecimal, hexadecimal_number}
use Rattle.spec_reference.specs.Start.{AreWords}
use Rattle.spec_reference.specs.States.{has_number}
use Rattle.policy.specs.Refusals.{Judged}
use Rattle.policy.specs.Values.{required_member, text_of, address_of, entry_of, if_within_limit, items_in, items_length, each_item}
use Rattle.policy.specs.Bindings.{entries_in, bound_in, is_bound, binding, binding_of_two, binding_of_items, binding_of, each_binding}
use Rattle.policy.specs.declared.binding.Binding.{Binding}
use Rattle.policy.specs.Text.{format_of, known_keys, key_harts, key_ram_pages, key_entries, exports_of, kernel_rule, modules_of, each_entry}
use Rattle.policy.specs.Text.{plain_entries, bound_entries, entries_by, entries_of, rules_after, rules_of_members, table_of_text}
use Rattle.policy.specs.Text.{rules_of_text}
use Rattle.policy.proofs.Judging.{bind_ok, after, ok_same, limited_ok}
use Rattle.policy.proofs.ReadWithin.{rules_read}
use Rattle.policy_limits.specs.declared.policy_fault.PolicyFault.{PolicyFault}

-- ---- one address

below : (c : ℕ) → is_ascii_hexdigit c ≡ true → digit_value c < 16
below c is = grind (arith, nat_tests, is)

all_below : (ds : List ℕ) → list_all is_ascii_hexdigit ds ≡ true → AllDigits 16 ds
all_below [] is = tt
all_below (c ∷ cs) is = let parts = and_parts (is_ascii_hexdigit c) (list_all is_ascii_hexdigit cs) is in (below c parts.0, all_below cs parts.1)

value_small : (ds : List ℕ) → is_hexadecimal ds ≡ true → digits_value 16 ds < 2 ^ 64
value_small ds is =
    let sized = and_parts (nat_le 1 (length ds)) (nat_le (length ds) 16) (and_parts (nat_le 1 (length ds) && nat_le (length ds) 16) (list_all is_ascii_hexdigit ds) is).0 in
    let alone = (and_parts (nat_le 1 (length ds) && nat_le (length ds) 16) (list_all is_ascii_hexdigit ds) is).1 in
    let short : length ds ≤ 16 = leb-true _ _ sized.1 in
    let power : 16 ^ length ds ≤ 16 ^ 16 = pow-le-pow_right {n = 16} (omega arith) {i = length ds} {j = 16} short in
    omega (arith, digits_value-lt 16 ds (all_below ds alone))

hexadecimal_small : (ds : List ℕ) (a : ℕ) (b : Bool) → is_hexadecimal ds ≡ b → (if b then Some (digits_value 16 ds) else None) ≡ Some a → a < 2 ^ 64
hexadecimal_small ds a true is e = let same : digits_value 16 ds ≡ a = cc in subst (λ (n : ℕ). n < 2 ^ 64) same (value_small ds is)
hexadecimal_small ds a false is e = absurd (cc)

text_small_by : (text : List ℕ) (ds : List ℕ) (a : ℕ) (b : Bool) → (if b then hexadecimal_number ds else None) ≡ Some a → a < 2 ^ 64
text_small_by text ds a true e = hexadecimal_small ds a (is_hexadecimal ds) refl e
text_small_by text ds a false e = absurd (cc)

text_small : (text : List ℕ) (a : ℕ) → addresses.address_of text ≡ Some a → a < 2 ^ 64
unfolding addresses.address_of
text_small text a e = text_small_by text (drop 2 text) a (bytes_eq (take 2 text) (codes "0x")) e

some_of : (x : Option ℕ) (fault : PolicyFault) (a : ℕ) → ◌≡◌ {A = Judged ℕ} (ok_or x fault) (Ok a) → x ≡ Some a
some_of None fault a e = absurd (cc)
some_of (Some b) fault a e = ap Some (ok_same b a e)

entry_small : (d : Data) (a : ℕ) → entry_of d ≡ Ok a → a < 2 ^ 64
entry_small d a read =
    let address = bind_ok (address_of d) (λ address. if_within_limit (entry_within address) address) a read in
    let fit = limited_ok (entry_within address.0) address.0 a address.2 in
    let text = bind_ok (text_of d) (λ text. ok_or (addresses.address_of text) PolicyFault.BadHexadecimal) address.0 address.1 in
    subst (λ (n : ℕ). n < 2 ^ 64) fit.1 (text_small text.0 address.0 (some_of (addresses.address_of text.0) PolicyFault.BadHexadecimal address.0 text.2))

-- ---- lists

abbrev pub AllOf : {A : Type 0} → (A → Type 0) → List A → Type 0
AllOf P [] = Unit {0}
AllOf P (x ∷ xs) = P x × AllOf P xs

one_more : {A : Type 0} (P : A → Type 0) (xs : List A) (a : A) → AllOf P xs → P a → AllOf P (xs ++ a ∷ [])
one_more P [] a all p = (p, tt)
one_more P (x ∷ xs) a all p = (all.0, one_more P xs a all.1 p)

each_read : {A : Type 0} (judged : List A → Data → Judged A) (P : A → Type 0) → ((before : List A) (d : Data) (a : A) → judged before d ≡ Ok a → P a)
    → (before : List A) (items : Items) (xs : List A) → AllOf P before → each_item judged before items ≡ Ok xs → AllOf P xs
each_read judged P one before no_items xs all read = subst (AllOf P) (ok_same before xs read) all
each_read judged P one before (item d items) xs all read =
    let first = bind_ok (judged before d) (λ a. each_item judged (before ++ a ∷ []) items) xs read in
    each_read judged P one (before ++ first.0 ∷ []) items xs (one_more P before first.0 all (one before d first.0 first.1)) first.2

abbrev pub IsSmall : ℕ → Type 0
IsSmall n = n < 2 ^ 64

abbrev BindsSmall : Binding → Type 0
BindsSmall b = b.va < 2 ^ 64

unrepeated_small : (before : List Binding) (b c : Binding) (met : Bool) → (if met then Err PolicyFault.RepeatedEntry else Ok b) ≡ Ok c → BindsSmall b → BindsSmall c
unrepeated_small before b c true e small = absurd (cc)
unrepeated_small before b c false e small = subst BindsSmall (ok_same b c e) small

two_small : (ram_pages : ℕ) (before : List Binding) (va gpa : Data) (b : Binding) → binding_of_two ram_pages before va gpa ≡ Ok b → BindsSmall b
unfolding binding_of_two
two_small ram_pages before va gpa b read =
    after (entry_of va) _ b read λ v va_is read.
    after (address_of gpa) _ b read λ g gpa_is read.
    after (if_within_limit (bound_fits ram_pages v g) (binding v g)) _ b read λ pair pair_is read.
    let fit = limited_ok (bound_fits ram_pages v g) (binding v g) pair pair_is in
    unrepeated_small before pair b (is_bound pair.va before) read (subst BindsSmall fit.1 (entry_small va v va_is))

items_small : (ram_pages : ℕ) (before : List Binding) (items : Items) (b : Binding) → binding_of_items ram_pages before items ≡ Ok b → BindsSmall b
items_small ram_pages before no_items b read = cc read
items_small ram_pages before (item va no_items) b read = cc read
items_small ram_pages before (item va (item gpa no_items)) b read = two_small ram_pages before va gpa b read
items_small ram_pages before (item va (item gpa (item d items))) b read = cc read

binding_small : (ram_pages : ℕ) (before : List Binding) (d : Data) (b : Binding) → binding_of ram_pages before d ≡ Ok b → BindsSmall b
binding_small ram_pages before d b read =
    let items = bind_ok (items_in d) (binding_of_items ram_pages before) b read in items_small ram_pages before items.0 b items.2

entries_small : (bindings : List Binding) → AllOf BindsSmall bindings → AllOf IsSmall (entries_in bindings)
entries_small [] all = tt
entries_small (b ∷ bindings) all = (all.0, entries_small bindings all.1)

by_format_small : (is_plain : Bool) (ram_pages : ℕ) (items : Items) (r : List ℕ × List ℕ)
    → (if is_plain then plain_entries items else bound_entries ram_pages items) ≡ Ok r → AllOf IsSmall r.0
by_format_small true ram_pages items r read =
    let list = bind_ok (each_entry [] items) (λ entries. Ok (entries, [])) r read in
    subst (λ (x : List ℕ × List ℕ). AllOf IsSmall x.0) (ok_same (list.0, []) r list.2)
    (each_read (λ before. entry_of) IsSmall (λ before d a. entry_small d a) [] items list.0 tt list.1)
by_format_small false ram_pages items r read =
    let list = bind_ok (each_binding ram_pages [] items) (λ bindings. Ok (entries_in bindings, bound_in bindings)) r read in
    subst (λ (x : List ℕ × List ℕ). AllOf IsSmall x.0) (ok_same (entries_in list.0, bound_in list.0) r list.2)
    (entries_small list.0 (each_read (binding_of ram_pages) BindsSmall (binding_small ram_pages) [] items list.0 tt list.1))

listed_small : (format ram_pages : ℕ) (d : Data) (r : List ℕ × List ℕ) → entries_of format ram_pages d ≡ Ok r → AllOf IsSmall r.0
listed_small format ram_pages d r read =
    let items = bind_ok (items_in d) _ r read in
    let few = bind_ok (if_within_limit (entries_count_within (items_length items.0)) items.0) (entries_by format ram_pages) r items.2 in
    by_format_small (format == 1) ram_pages few.0 r few.2

members_small : (ms : Members) (r : Rules) → rules_of_members ms ≡ Ok r → AllOf IsSmall r.entries
unfolding rules_of_members rules_after
members_small ms r read =
    after (format_of ms) _ r read λ format format_is read.
    after (known_keys ms) _ r read λ known known_is read.
    after (key_harts known) _ r read λ harts harts_is read.
    after (key_ram_pages known) _ r read λ ram_pages ram_pages_is read.
    after (key_entries format ram_pages known) _ r read λ entries entries_is read.
    after (exports_of (get_member (codes "exports") known)) _ r read λ exports exports_is read.
    after (kernel_rule ram_pages known) _ r read λ kernel kernel_is read.
    after (modules_of (length exports) (get_member (codes "module") known)) _ r read λ modules modules_is read.
    let entries_data = bind_ok (required_member (codes "entries") known) (entries_of format ram_pages) entries entries_is in
    let rules : Rules = record {
      format = format;
      harts = harts;
      ram_pages = ram_pages;
      entries = entries.0;
      bound = entries.1;
      exports = exports;
      kernel = kernel.0;
      init = kernel.1;
      modules = modules;
    } in
    subst (λ (x : Rules). AllOf IsSmall x.entries) (ok_same rules r read) (listed_small format ram_pages entries_data.0 entries entries_data.2)

word_by : (x entry : ℕ) (xs : List ℕ) (b : Bool) → (x == entry) ≡ b → (b || has_number xs entry) ≡ true → IsSmall x
    → (has_number xs entry ≡ true → IsSmall entry) → IsSmall entry
word_by x entry xs true e there small rest = subst IsSmall (eqb-true x entry e) small
word_by x entry xs false e there small rest = rest there

pub are_words : (xs : List ℕ) → AllOf IsSmall xs → AreWords xs
are_words [] all entry there = absurd (cc)
are_words (x ∷ xs) all entry there = word_by x entry xs (x == entry) refl there all.0 (are_words xs all.1 entry)

-- ---- the policy

pub record GoodRules (r : Rules) : Type 0 where
  pub within : rules_within r ≡ true
  pub words : AreWords r.entries

pub text_good : (bytes : List ℕ) (r : Rules) → rules_of_text bytes ≡ Ok r → GoodRules r
text_good bytes r read =
    let table = bind_ok (table_of_text bytes) rules_of_members r read in
    record { within = rules_read table.0 r table.2; words = are_words r.entries (members_small table.0 r table.2) }
