-- Segments in the order of their first pages: which of them clash is seen by the furthest page that is touched so far.
use Rattle.std.proofs.Common.{◌≡◌, ℕ, ◌+◌, ◌<◌, ◌≤◌, max, Bool, true, false, List, [], ◌∷◌, ◌++◌, length, get_or, take, drop, take-append-drop, refl, ap, sym, ◌∙◌, arith, All, inl, inr, length-take}
use Rattle.std.specs.Prelude.{nat_lt, nat_le, ◌||◌, ◌&&◌, if◌then◌else◌}
use Rattle.std.specs.List.{list_any}
use Rattle.std.specs.List.Sorted.{IsPermutation, IsNonDecreasingBy}
use Rattle.std.proofs.lemmas.Bool.Decides.{nat_tests}
use Rattle.std.proofs.lemmas.List.{take_more, get_or-take}
use Rattle.std.proofs.lemmas.List.Elements.{All-head, All-tail, All-get_or, All-from_get_or}
use Rattle.std.proofs.Math.Bool.{or_comm, and_comm, or-false}
use Rattle.std.proofs.lemmas.Bool.{or_cases, lt-ltb, le-ltb, or_left, or_right, and_left}
use Rattle.std.proofs.lemmas.List.Folds.{list_any-append}
use Rattle.sv_types.specs.Kernel.{first_page, last_page, is_executable, may_clash, text_is_shared}
use Rattle.sv_types.specs.declared.kernel.ProgramHeader.{ProgramHeader}
use Rattle.elf64_load.specs.Headers.{HasMemory}
use Rattle.elf64_load.proofs.Pairs.{some_pair, some_pair-IsPermutation}

-- ---- in any order

pub may_clash-symmetric : (h k : ProgramHeader) → may_clash h k ≡ may_clash k h
may_clash-symmetric h k =
    let e = or_comm (is_executable h) (is_executable k) in
    let f = and_comm (nat_le (first_page h) (last_page k)) (nat_le (first_page k) (last_page h)) in
    λ i. e i && f i

same_test : (hs : List ProgramHeader) → text_is_shared hs ≡ some_pair may_clash hs
same_test [] = refl
same_test (h ∷ hs) = ap (λ (b : Bool). list_any (may_clash h) hs || b) (same_test hs)

pub shared-IsPermutation : (hs ks : List ProgramHeader) → IsPermutation hs ks → text_is_shared ks ≡ text_is_shared hs
shared-IsPermutation hs ks h = same_test ks ∙ some_pair-IsPermutation may_clash may_clash-symmetric hs ks h ∙ sym (same_test hs)

-- ---- one more segment

mixed : (a b c d : Bool) → ((a || (b || false)) || (c || d)) ≡ ((a || c) || (b || d))
mixed true b c d = refl
mixed false true true d = refl
mixed false true false d = refl
mixed false false c d = refl

pub shared_push : (hs : List ProgramHeader) (k : ProgramHeader) → text_is_shared (hs ++ k ∷ []) ≡ (text_is_shared hs || list_any (may_clash k) hs)
shared_push [] k = refl
shared_push (h ∷ hs) k =
    let any : list_any (may_clash h) (hs ++ k ∷ []) ≡ (list_any (may_clash h) hs || (may_clash k h || false)) =
    list_any-append (may_clash h) hs (k ∷ []) ∙ ap (λ (b : Bool). list_any (may_clash h) hs || (b || false)) (may_clash-symmetric h k) in
    ap (λ (b : Bool). b || text_is_shared (hs ++ k ∷ [])) any
    ∙ ap (λ (b : Bool). (list_any (may_clash h) hs || (may_clash k h || false)) || b) (shared_push hs k)
    ∙ mixed (list_any (may_clash h) hs) (may_clash k h) (text_is_shared hs) (list_any (may_clash k) hs)

-- those in front decide, where they clash
pub shared_front : (hs ks : List ProgramHeader) → text_is_shared hs ≡ true → text_is_shared (hs ++ ks) ≡ true
shared_front [] ks shared = cc
shared_front (h ∷ hs) ks shared = elim (or_cases (list_any (may_clash h) hs) (text_is_shared hs) shared) [
  | inl first ↦
      or_left (list_any (may_clash h) (hs ++ ks)) (text_is_shared (hs ++ ks))
      (list_any-append (may_clash h) hs ks ∙ or_left (list_any (may_clash h) hs) (list_any (may_clash h) ks) first)
  | inr behind ↦ or_right (list_any (may_clash h) (hs ++ ks)) (text_is_shared (hs ++ ks)) (shared_front hs ks behind)
]

-- ---- a segment that begins on no page before the others' first

-- a segment touches the page or one after it
abbrev pub reaches : ℕ → ProgramHeader → Bool
reaches page h = nat_le page (last_page h)

abbrev pub text_reaches : ℕ → ProgramHeader → Bool
text_reaches page h = is_executable h && nat_le page (last_page h)

-- the test is left without the part that holds
decided : (e f r o : Bool) → o ≡ true → ((e || f) && (r && o)) ≡ (if e then r else (f && r))
decided true f true o h = h
decided true f false o h = refl
decided false true true o h = h
decided false true false o h = refl
decided false false r o h = refl

nothing : (e : Bool) → false ≡ (if e then false else false)
nothing true = refl
nothing false = refl

joined : (e r a f b : Bool) → ((if e then r else f) || (if e then a else b)) ≡ (if e then (r || a) else (f || b))
joined true r a f b = refl
joined false r a f b = refl

ends_after : (k h : ProgramHeader) → HasMemory k → first_page h ≤ first_page k → nat_le (first_page h) (last_page k) ≡ true
ends_after k h memory order = grind (arith, nat_tests)

pub clash_after : (k : ProgramHeader) (hs : List ProgramHeader) → HasMemory k → All (λ h. first_page h ≤ first_page k) hs
    → list_any (may_clash k) hs ≡ (if is_executable k then list_any (reaches (first_page k)) hs else list_any (text_reaches (first_page k)) hs)
clash_after k [] memory order = nothing (is_executable k)
clash_after k (h ∷ hs) memory order =
    let ends = ends_after k h memory (All-head (λ g. first_page g ≤ first_page k) h hs order) in
    let here = decided (is_executable k) (is_executable h) (reaches (first_page k) h) (nat_le (first_page h) (last_page k)) ends in
    let rest = clash_after k hs memory (All-tail (λ g. first_page g ≤ first_page k) h hs order) in
    (λ i. here i || rest i)
    ∙ joined (is_executable k) (reaches (first_page k) h) (list_any (reaches (first_page k)) hs)
    (text_reaches (first_page k) h) (list_any (text_reaches (first_page k)) hs)

-- in that order, the segments in front of one begin on no page after its first
pub in_front : (hs : List ProgramHeader) (i : ℕ) (d : ProgramHeader) → IsNonDecreasingBy first_page hs → i < length hs
    → All (λ h. first_page h ≤ first_page (get_or hs i d)) (take i hs)
in_front hs i d order below =
    All-from_get_or (λ h. first_page h ≤ first_page (get_or hs i d)) (take i hs) d
    (λ j h.
    let len = length-take i hs in
    let here : j < i = omega arith in
    let e : get_or (take i hs) j d ≡ get_or hs j d = get_or-take i hs j d here in
    rw e (order j i d (omega arith) below))

-- ---- the segments so far, with the page after them all, and the one after those of text

pub record Swept (done : List ProgramHeader) (end text_end : ℕ) : Type 0 where
  pub apart : text_is_shared done ≡ false
  pub all : (page : ℕ) → list_any (reaches page) done ≡ nat_lt page end
  pub text : (page : ℕ) → list_any (text_reaches page) done ≡ nat_lt page text_end
  pub order : text_end ≤ end

chosen : (e : Bool) (page end text_end : ℕ) → (if e then nat_lt page end else nat_lt page text_end) ≡ nat_lt page (if e then end else text_end)
chosen true page end text_end = refl
chosen false page end text_end = refl

-- a segment clashes with one of them where it begins before their end
pub clash_seen : (done : List ProgramHeader) (end text_end : ℕ) (k : ProgramHeader) → Swept done end text_end → HasMemory k
    → All (λ h. first_page h ≤ first_page k) done
    → list_any (may_clash k) done ≡ nat_lt (first_page k) (if is_executable k then end else text_end)
clash_seen done end text_end k swept memory order =
    let all = swept.all (first_page k) in
    let text = swept.text (first_page k) in
    clash_after k done memory order ∙ (λ i. if is_executable k then all i else text i) ∙ chosen (is_executable k) (first_page k) end text_end

pub shared_now : (done : List ProgramHeader) (end text_end : ℕ) (k : ProgramHeader) → Swept done end text_end → HasMemory k
    → All (λ h. first_page h ≤ first_page k) done
    → text_is_shared (done ++ k ∷ []) ≡ nat_lt (first_page k) (if is_executable k then end else text_end)
shared_now done end text_end k swept memory order =
    shared_push done k ∙ ap (λ (b : Bool). b || list_any (may_clash k) done) swept.apart ∙ clash_seen done end text_end k swept memory order

longer : (page end last : ℕ) → (nat_lt page end || nat_le page last) ≡ nat_lt page (max end (last + 1))
longer page end last = grind (arith, nat_tests)

reaches_push : (done : List ProgramHeader) (k : ProgramHeader) (page end : ℕ) → list_any (reaches page) done ≡ nat_lt page end
    → list_any (reaches page) (done ++ k ∷ []) ≡ nat_lt page (max end (last_page k + 1))
reaches_push done k page end e =
    list_any-append (reaches page) done (k ∷ []) ∙ ap (λ (b : Bool). b || (reaches page k || false)) e
    ∙ ap (λ (b : Bool). nat_lt page end || b) (or-false (reaches page k))
    ∙ longer page end (last_page k)

text_push : (done : List ProgramHeader) (k : ProgramHeader) (page end : ℕ) → list_any (text_reaches page) done ≡ nat_lt page end
    → list_any (text_reaches page) (done ++ k ∷ []) ≡ (nat_lt page end || text_reaches page k)
text_push done k page end e =
    list_any-append (text_reaches page) done (k ∷ []) ∙ ap (λ (b : Bool). b || (text_reaches page k || false)) e
    ∙ ap (λ (b : Bool). nat_lt page end || b) (or-false (text_reaches page k))

ends_later : (k : ProgramHeader) → HasMemory k → first_page k ≤ last_page k
ends_later k memory = grind arith

text_longer : (page end text_end first last : ℕ) → text_end ≤ end → end ≤ first → first ≤ last
    → (nat_lt page text_end || nat_le page last) ≡ nat_lt page (max end (last + 1))
text_longer page end text_end first last a b c = grind (arith, nat_tests)

-- a segment more, of text or not
pub swept_text : (done : List ProgramHeader) (end text_end : ℕ) (k : ProgramHeader) → Swept done end text_end → HasMemory k
    → is_executable k ≡ true → end ≤ first_page k → text_is_shared (done ++ k ∷ []) ≡ false
    → Swept (done ++ k ∷ []) (max end (last_page k + 1)) (max end (last_page k + 1))
swept_text done end text_end k swept memory executable behind apart = record {
  apart = apart;
  all = λ page. reaches_push done k page end (swept.all page);
  text = λ page.
      text_push done k page text_end (swept.text page)
      ∙ ap (λ (b : Bool). nat_lt page text_end || (b && nat_le page (last_page k))) executable
      ∙ text_longer page end text_end (first_page k) (last_page k) swept.order behind (ends_later k memory);
  order = omega arith;
}

pub swept_data : (done : List ProgramHeader) (end text_end : ℕ) (k : ProgramHeader) → Swept done end text_end
    → is_executable k ≡ false → text_is_shared (done ++ k ∷ []) ≡ false
    → Swept (done ++ k ∷ []) (max end (last_page k + 1)) text_end
swept_data done end text_end k swept data_only apart = record {
  apart = apart;
  all = λ page. reaches_push done k page end (swept.all page);
  text = λ page.
      text_push done k page text_end (swept.text page)
      ∙ ap (λ (b : Bool). nat_lt page text_end || b) (and_left (is_executable k) (nat_le page (last_page k)) data_only)
      ∙ or-false (nat_lt page text_end);
  order = let e = swept.order in omega arith;
}

-- ---- at a place of the list

pub shared_at : (hs : List ProgramHeader) (i : ℕ) (d : ProgramHeader) (end text_end : ℕ) → IsNonDecreasingBy first_page hs → All HasMemory hs
    → i < length hs → Swept (take i hs) end text_end
    → text_is_shared (take (i + 1) hs) ≡ nat_lt (first_page (get_or hs i d)) (if is_executable (get_or hs i d) then end else text_end)
shared_at hs i d end text_end order memory below swept =
    ap text_is_shared (take_more hs i d below)
    ∙ shared_now (take i hs) end text_end (get_or hs i d) swept (All-get_or HasMemory hs i d below memory) (in_front hs i d order below)

-- what the code sees of the segment there
pub record Seen (h : ProgramHeader) (end text_end first reached : ℕ) (is_text : Bool) : Type 0 where
  pub first_is : first ≡ first_page h
  pub text_is : is_text ≡ is_executable h
  pub reached_is : reached ≡ (if is_text then end else text_end)

seen_test : (h : ProgramHeader) (end text_end first reached : ℕ) (is_text : Bool) → Seen h end text_end first reached is_text
    → nat_lt (first_page h) (if is_executable h then end else text_end) ≡ nat_lt first reached
seen_test h end text_end first reached is_text seen =
    let reached_is : reached ≡ (if is_executable h then end else text_end) =
    seen.reached_is ∙ ap (λ (b : Bool). if b then end else text_end) seen.text_is in
    λ i. nat_lt (sym seen.first_is i) (sym reached_is i)

pub shared_there : (hs : List ProgramHeader) (i : ℕ) (d : ProgramHeader) (end text_end first reached : ℕ) (is_text : Bool)
    → IsNonDecreasingBy first_page hs → All HasMemory hs → i < length hs → Swept (take i hs) end text_end
    → Seen (get_or hs i d) end text_end first reached is_text → first < reached → text_is_shared hs ≡ true
shared_there hs i d end text_end first reached is_text order memory below swept seen inside =
    let front : text_is_shared (take (i + 1) hs) ≡ true =
    shared_at hs i d end text_end order memory below swept ∙ seen_test (get_or hs i d) end text_end first reached is_text seen ∙ lt-ltb first reached inside in
    ap text_is_shared (sym (take-append-drop (i + 1) hs)) ∙ shared_front (take (i + 1) hs) (drop (i + 1) hs) front

apart_there : (hs : List ProgramHeader) (i : ℕ) (d : ProgramHeader) (end text_end first reached : ℕ) (is_text : Bool)
    → IsNonDecreasingBy first_page hs → All HasMemory hs → i < length hs → Swept (take i hs) end text_end
    → Seen (get_or hs i d) end text_end first reached is_text → reached ≤ first → text_is_shared (take i hs ++ get_or hs i d ∷ []) ≡ false
apart_there hs i d end text_end first reached is_text order memory below swept seen behind =
    ap text_is_shared (sym (take_more hs i d below)) ∙ shared_at hs i d end text_end order memory below swept
    ∙ seen_test (get_or hs i d) end text_end first reached is_text seen
    ∙ le-ltb first reached behind

pub text_there : (hs : List ProgramHeader) (i : ℕ) (d : ProgramHeader) (end text_end first reached : ℕ) (is_text : Bool)
    → IsNonDecreasingBy first_page hs → All HasMemory hs → i < length hs → Swept (take i hs) end text_end
    → Seen (get_or hs i d) end text_end first reached is_text → reached ≤ first → is_text ≡ true
    → Swept (take (i + 1) hs) (max end (last_page (get_or hs i d) + 1)) (max end (last_page (get_or hs i d) + 1))
text_there hs i d end text_end first reached is_text order memory below swept seen behind text =
    let first_is = seen.first_is in
    let reached_is : reached ≡ end = seen.reached_is ∙ ap (λ (b : Bool). if b then end else text_end) text in
    rw (take_more hs i d below)
    (swept_text (take i hs) end text_end (get_or hs i d) swept (All-get_or HasMemory hs i d below memory) (sym seen.text_is ∙ text) (omega arith)
    (apart_there hs i d end text_end first reached is_text order memory below swept seen behind))

pub data_there : (hs : List ProgramHeader) (i : ℕ) (d : ProgramHeader) (end text_end first reached : ℕ) (is_text : Bool)
    → IsNonDecreasingBy first_page hs → All HasMemory hs → i < length hs → Swept (take i hs) end text_end
    → Seen (get_or hs i d) end text_end first reached is_text → reached ≤ first → is_text ≡ false
    → Swept (take (i + 1) hs) (max end (last_page (get_or hs i d) + 1)) text_end
data_there hs i d end text_end first reached is_text order memory below swept seen behind text =
    rw (take_more hs i d below)
    (swept_data (take i hs) end text_end (get_or hs i d) swept (sym seen.text_is ∙ text)
    (apart_there hs i d end text_end first reached is_text order memory below swept seen behind))
