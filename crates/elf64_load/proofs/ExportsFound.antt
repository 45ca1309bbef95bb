-- The table of the addresses that symbols define.
use Rattle.std.proofs.Common.{◌≡◌, ℕ, suc, ◌+◌, ◌-◌, ◌≤◌, Bool, true, false, cond, List, [], Option, Some, refl, ap, sym, ◌∙◌, arith}
use Rattle.std.specs.Prelude.{◌&&◌, if◌then◌else◌, option_map, find}
use Rattle.std.specs.BTreeMap.{BTreeMap}
use Rattle.std.specs.Borrow.{Bor}
use Rattle.std.specs.Str.{bytes_eq}
use Rattle.elf64_load.specs.Sections.{symbols_from, symbol_at}
use Rattle.elf64_load.specs.declared.sections.tables.Symbol.{Symbol}
use Rattle.elf64_load.specs.NameTables.{number_by_name}
use Rattle.elf64_load.specs.Exports.{is_name_of, defines, address_among}

pub name_tested : (global : Bool) (name : Option (List ℕ)) (key wanted : List ℕ) (one other : Option ℕ) → global ≡ true → name ≡ Some key
    → cond (bytes_eq key wanted) one other ≡ (if global && is_name_of wanted name then one else other)
name_tested global name key wanted one other is same = rw (is, same) refl

first_of : (b : Bool) (s : Symbol) (rest : Option Symbol) → option_map (λ (t : Symbol). t.value) (cond b (Some s) rest) ≡ (if b then Some s.value else option_map (λ (t : Symbol). t.value) rest)
first_of true s rest = refl
first_of false s rest = refl

-- one symbol more in front
address_more : (strings symbols wanted : List ℕ) (i n m : ℕ) → n ≡ suc m
    → address_among strings (symbols_from symbols i n) wanted
    ≡ (if defines strings wanted (symbol_at symbols i) then Some (symbol_at symbols i).value else address_among strings (symbols_from symbols (i + 1) m) wanted)
address_more strings symbols wanted i n m more = rw more (first_of (defines strings wanted (symbol_at symbols i)) (symbol_at symbols i)
    (find (defines strings wanted) (symbols_from symbols (i + 1) m)))

pub address_before : (strings symbols wanted : List ℕ) (i j n m : ℕ) (s : Symbol) (before after : Option ℕ) → n ≡ suc m → j ≡ i + 1 → s ≡ symbol_at symbols i
    → before ≡ address_among strings (symbols_from symbols j m) wanted → after ≡ (if defines strings wanted s then Some s.value else before)
    → after ≡ address_among strings (symbols_from symbols i n) wanted
address_before strings symbols wanted i j n m s before after more next is so_far now =
    now
    ∙ ap (λ (t : Symbol). if defines strings wanted t then Some t.value else before) is
    ∙ ap (λ (o : Option ℕ). if defines strings wanted (symbol_at symbols i) then Some (symbol_at symbols i).value else o)
    (so_far ∙ ap (λ (k : ℕ). address_among strings (symbols_from symbols k m) wanted) next)
    ∙ sym (address_more strings symbols wanted i n m more)

-- before the first, and after the last
pub none_found : (addresses : BTreeMap (Bor (List ℕ)) ℕ) (strings symbols wanted : List ℕ) (i n : ℕ) → addresses.entries ≡ [] → n ≡ 0
    → number_by_name addresses wanted ≡ address_among strings (symbols_from symbols i n) wanted
none_found addresses strings symbols wanted i n empty none = rw (empty, none) refl

pub all_found : (strings symbols wanted : List ℕ) (i n : ℕ) → i ≤ 0
    → address_among strings (symbols_from symbols i (n - i)) wanted ≡ address_among strings (symbols_from symbols 0 n) wanted
all_found strings symbols wanted i n none =
    let first : i ≡ 0 = omega arith in
    let all : n - 0 ≡ n = omega arith in
    rw (first, all) refl
