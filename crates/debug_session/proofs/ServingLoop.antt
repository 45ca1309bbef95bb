-- A session under way, and its ends.
use Rattle.std.proofs.Common.{◌≡◌, ℕ, ◌<◌, List, [], ◌∷◌, ◌++◌, refl, sym, ◌∙◌, ap, subst, Option, Some, None, Ok}
use Rattle.std.proofs.lemmas.List.{append-nil, append_assoc}
use Rattle.spec_processor.specs.Counters.{CanCount}
use Rattle.host_io.specs.Outside.{SinkState, MayWrite, after_taking, append_bytes, BreaksOff}
use Rattle.live_keys.specs.Keys.{KeysState, NextGives, ReadFails, before_taking, with_front}
use Rattle.gdb_protocol.specs.Reading.{Reading, at_start, arrivals}
use Rattle.gdb_protocol.specs.declared.place.Place.TheVariants.{Outside}
use Rattle.debug_session.specs.Runs.{Run}
use Rattle.debug_session.specs.Serving.{ServesAll, ServesUpToRead, ServesUpToWrite, ServesSome, StandsAt, Steps, answered}
use Rattle.debug_session.specs.Sessions.{Desk, first_desk, written}

-- these bytes came in, and those were written
pub record Underway {T : Type 0} (stands : T → Run → Type 0) (first target : T) (keys left : KeysState) (old new : SinkState) (desk : Desk) (reading : Reading) : Type 0 where
  pub input : List ℕ
  pub bytes : List ℕ
  pub took : keys ≡ before_taking input left
  pub wrote : new ≡ after_taking old bytes
  pub goes : (run : Run) → stands first run → StandsAt stands run target desk reading input bytes
  pub count : CanCount left.faults
  pub may : MayWrite new

-- ---- the outside

no_front : (left : Option (List ℕ)) → left ≡ with_front [] left
no_front None = refl
no_front (Some left) = refl

two_fronts : (xs ys : List ℕ) (left : Option (List ℕ)) → with_front xs (with_front ys left) ≡ with_front (xs ++ ys) left
two_fronts xs ys None = refl
two_fronts xs ys (Some left) = ap Some (sym (append_assoc xs ys left))

no_bytes : (taken : Option (List ℕ)) → taken ≡ append_bytes taken []
no_bytes None = refl
no_bytes (Some taken) = ap Some (sym (append-nil taken))

two_pieces : (taken : Option (List ℕ)) (xs ys : List ℕ) → append_bytes (append_bytes taken xs) ys ≡ append_bytes taken (xs ++ ys)
two_pieces None xs ys = refl
two_pieces (Some taken) xs ys = ap Some (append_assoc taken xs ys)

took_one_more : (keys left next : KeysState) (input : List ℕ) (byte : ℕ) → keys ≡ before_taking input left → left ≡ before_taking (byte ∷ []) next →
    keys ≡ before_taking (input ++ byte ∷ []) next
took_one_more keys left next input byte took one =
    took ∙ ap (before_taking input) one ∙ ap (λ l. record next { left = l }) (two_fronts input (byte ∷ []) next.left)

wrote_more : (old new later : SinkState) (xs ys : List ℕ) → new ≡ after_taking old xs → later ≡ after_taking new ys → later ≡ after_taking old (xs ++ ys)
wrote_more old new later xs ys wrote more =
    more ∙ ap (λ s. after_taking s ys) wrote ∙ ap (λ t. record old { taken = t }) (two_pieces old.taken xs ys)

-- ---- the beginning

pub begins : {T : Type 0} (stands : T → Run → Type 0) (first : T) (keys : KeysState) (old : SinkState) → CanCount keys.faults → MayWrite old →
    Underway stands first first keys keys old old first_desk (at_start Outside)
begins stands first keys old count may = record {
  input = [];
  bytes = [];
  took = ap (λ l. record keys { left = l }) (no_front keys.left);
  wrote = ap (λ t. record old { taken = t }) (no_bytes old.taken);
  goes = λ run here. record { now = run; stands_there = here; still = λ rest. refl };
  count = count;
  may = may;
}

pub begins_without_memory : {T : Type 0} (stands : T → Run → Type 0) (first : T) (keys : KeysState) (old : SinkState) → ServesSome stands first keys keys old old
begins_without_memory stands first keys old = record {
  input = [];
  took = ap (λ l. record keys { left = l }) (no_front keys.left);
  some = λ run here. record { written = []; left = answered run []; whole = refl; taken = no_bytes old.taken };
  faults = refl;
}

-- ---- the ends

all_written : {T : Type 0} (stands : T → Run → Type 0) (run : Run) (target : T) (desk : Desk) (reading : Reading) (input bytes : List ℕ) →
    StandsAt stands run target desk reading input bytes → bytes ≡ answered run input
unfolding written arrivals
all_written stands run target desk reading input bytes at =
    sym (append-nil bytes) ∙ sym (at.still []) ∙ ap (answered run) (append-nil input)

pub serves_all : {T : Type 0} (stands : T → Run → Type 0) (first target : T) (keys left : KeysState) (old new : SinkState) (desk : Desk) (reading : Reading) →
    Underway stands first target keys left old new desk reading → ServesAll stands first keys left old new
serves_all stands first target keys left old new desk reading u = record {
  input = u.input;
  took = u.took;
  wrote = λ run here. u.wrote ∙ ap (after_taking old) (all_written stands run target desk reading u.input u.bytes (u.goes run here));
}

pub serves_up_to_read : {T : Type 0} (stands : T → Run → Type 0) (first target : T) (keys left next : KeysState) (old new : SinkState) (desk : Desk) (reading : Reading) →
    Underway stands first target keys left old new desk reading → ReadFails left next → ServesUpToRead stands first keys next old new
serves_up_to_read stands first target keys left next old new desk reading u fails = record {
  input = u.input;
  took = ap (λ (k : KeysState). k.left) u.took ∙ ap (with_front u.input) (sym fails.left);
  faults = subst (λ (k : KeysState). k.faults < next.faults) (sym u.took) fails.faults;
  wrote = λ run here. u.wrote ∙ ap (after_taking old) (all_written stands run target desk reading u.input u.bytes (u.goes run here));
}

-- ---- one byte more

next_at : {T : Type 0} (stands : T → Run → Type 0) (run : Run) (target after : T) (desk kept : Desk) (reading read : Reading) (input bytes more : List ℕ) (byte : ℕ) →
    (at : StandsAt stands run target desk reading input bytes) → Steps stands at.now desk reading byte [] after kept read more →
    StandsAt stands run after kept read (input ++ byte ∷ []) (bytes ++ more)
next_at stands run target after desk kept reading read input bytes more byte at steps = record {
  now = steps.now;
  stands_there = steps.stands_there;
  still = λ rest.
      ap (answered run) (append_assoc input (byte ∷ []) rest) ∙ at.still (byte ∷ rest) ∙ ap (λ xs. bytes ++ xs) (steps.still rest)
      ∙ ap (λ xs. bytes ++ (xs ++ written steps.now kept (arrivals read rest))) (sym steps.bytes_are)
      ∙ sym (append_assoc bytes more (written steps.now kept (arrivals read rest)));
}

pub goes_on : {T : Type 0} (stands : T → Run → Type 0)
    (first target after : T) (keys left next : KeysState) (old new later : SinkState) (desk kept : Desk) (reading read : Reading) (byte : ℕ) (more : List ℕ) →
    Underway stands first target keys left old new desk reading → left ≡ before_taking (byte ∷ []) next → later ≡ after_taking new more →
    ((run : Run) → stands target run → Steps stands run desk reading byte [] after kept read more) →
    Underway stands first after keys next old later kept read
goes_on stands first target after keys left next old new later desk kept reading read byte more u one wrote steps = record {
  input = u.input ++ byte ∷ [];
  bytes = u.bytes ++ more;
  took = took_one_more keys left next u.input byte u.took one;
  wrote = wrote_more old new later u.bytes more u.wrote wrote;
  goes = λ run here.
      let at = u.goes run here in
      next_at stands run target after desk kept reading read u.input u.bytes more byte at (steps at.now at.stands_there);
  count = subst (λ (k : KeysState). CanCount k.faults) one u.count;
  may = subst MayWrite (sym wrote) (record { is_open = u.may.is_open; count = u.may.count });
}

-- memory ran out on a byte
pub serves_some : {T : Type 0} (stands : T → Run → Type 0) (first target : T) (keys left next : KeysState) (old new : SinkState) (desk : Desk) (reading : Reading) (byte : ℕ) →
    Underway stands first target keys left old new desk reading → left ≡ before_taking (byte ∷ []) next → ServesSome stands first keys next old new
serves_some stands first target keys left next old new desk reading byte u one = record {
  input = u.input ++ byte ∷ [];
  took = took_one_more keys left next u.input byte u.took one;
  some = λ run here.
      let at = u.goes run here in
      record {
        written = u.bytes;
        left = written at.now desk (arrivals reading (byte ∷ []));
        whole = sym (at.still (byte ∷ []));
        taken = ap (λ (s : SinkState). s.taken) u.wrote;
      };
  faults = ap (λ (s : SinkState). s.faults) u.wrote;
}

-- a write failed on a byte
pub serves_up_to_write : {T : Type 0} (stands : T → Run → Type 0)
    (first target after : T) (keys left next : KeysState) (old new later : SinkState) (desk kept : Desk) (reading read : Reading) (byte : ℕ) (more : List ℕ) →
    Underway stands first target keys left old new desk reading → left ≡ before_taking (byte ∷ []) next → BreaksOff new later more →
    ((run : Run) → stands target run → Steps stands run desk reading byte [] after kept read more) →
    ServesUpToWrite stands first keys next old later
serves_up_to_write stands first target after keys left next old new later desk kept reading read byte more u one broke steps = record {
  input = u.input ++ byte ∷ [];
  took = took_one_more keys left next u.input byte u.took one;
  broke = λ run here.
      let at = u.goes run here in
      let there = next_at stands run target after desk kept reading read u.input u.bytes more byte at (steps at.now at.stands_there) in
      record {
        prefix = record {
          written = u.bytes ++ broke.prefix.written;
          left = broke.prefix.left;
          whole = append_assoc u.bytes broke.prefix.written broke.prefix.left ∙ ap (λ xs. u.bytes ++ xs) broke.prefix.whole
              ∙ all_written stands run after kept read (u.input ++ byte ∷ []) (u.bytes ++ more) there;
          taken = broke.prefix.taken ∙ ap (λ (s : SinkState). append_bytes s.taken broke.prefix.written) u.wrote ∙ two_pieces old.taken u.bytes broke.prefix.written;
        };
        some_left = broke.some_left;
        faults = subst (λ (s : SinkState). s.faults < later.faults) u.wrote broke.faults;
      };
}

-- ---- what a read gives

pub ended : (left next : KeysState) (given : Option ℕ) → NextGives left next (Ok given) → given ≡ None → next ≡ left
ended left next None gives is = gives.0
ended left next (Some byte) gives is = absurd (cc)

pub taken_byte : (left next : KeysState) (given : Option ℕ) (byte : ℕ) → NextGives left next (Ok given) → given ≡ Some byte → left ≡ before_taking (byte ∷ []) next
taken_byte left next None byte gives is = absurd (cc)
taken_byte left next (Some other) byte gives is = gives ∙ ap (λ b. before_taking (b ∷ []) next) (cc)

-- a byte's steps, where nothing was put before, and what was put is seen as a slice
pub from_nothing : {T : Type 0} (stands : T → Run → Type 0) (target after : T) (desk kept : Desk) (reading read : Reading) (byte : ℕ) (before more seen : List ℕ) → before ≡ [] → seen ≡ more →
    ((run : Run) → stands target run → Steps stands run desk reading byte before after kept read more) →
    (run : Run) → stands target run → Steps stands run desk reading byte [] after kept read seen
from_nothing stands target after desk kept reading read byte before more seen none is steps run here =
    subst (λ m. Steps stands run desk reading byte [] after kept read m) (sym is)
    (subst (λ b. Steps stands run desk reading byte b after kept read more) none (steps run here))
