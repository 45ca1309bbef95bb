-- One byte of a session.
use Rattle.std.proofs.Common.{◌≡◌, ℕ, true, if◌then◌else◌, List, [], ◌∷◌, ◌++◌, refl, sym, ◌∙◌, ap, Some, None}
use Rattle.std.proofs.lemmas.List.{append-nil, append_assoc}
use Rattle.gdb_protocol.specs.Reading.{Reading, arrival, arrivals, next, payload_of, with_arrival}
use Rattle.gdb_protocol.specs.declared.arrival.Arrival.{Arrival}
use Rattle.gdb_protocol.specs.declared.arrival.Arrival.TheVariants as kind
use Rattle.debug_session.specs.Performing.{Performs}
use Rattle.debug_session.specs.Runs.{Run}
use Rattle.debug_session.specs.Serving.{Steps}
use Rattle.debug_session.specs.Sessions.{Desk, Outcome, acknowledged, by_arrival, frames, remembered, written}

arrivals_step : (r : Reading) (byte : ℕ) (rest : List ℕ) → arrivals r (byte ∷ rest) ≡ with_arrival (arrival byte r) r (arrivals (next byte r) rest)
unfolding arrivals
arrivals_step r byte rest = refl

pub nothing_arrives : {T : Type 0} (stands : T → Run → Type 0) (run : Run) (desk : Desk) (r : Reading) (byte : ℕ) (bytes : List ℕ) (target : T) →
    stands target run → arrival byte r ≡ None → Steps stands run desk r byte bytes target desk (next byte r) bytes
nothing_arrives stands run desk r byte bytes target here none = record {
  now = run;
  stands_there = here;
  more = [];
  bytes_are = sym (append-nil bytes);
  still = λ rest. ap (written run desk) (arrivals_step r byte rest ∙ ap (λ a. with_arrival a r (arrivals (next byte r) rest)) none);
}

payload_there : (some : Arrival) (r after : Reading) → payload_of some after ≡ payload_of some r → (run : Run) (desk : Desk) →
    by_arrival some (payload_of some r) run desk ≡ by_arrival some after.payload run desk
payload_there kind.Packet r after is run desk = ap (λ p. by_arrival kind.Packet p run desk) (sym is)
payload_there kind.Broken r after is run desk = refl
payload_there kind.TooLong r after is run desk = refl
payload_there kind.Interrupt r after is run desk = refl
payload_there kind.Received r after is run desk = refl
payload_there kind.Again r after is run desk = refl

written_step : (run : Run) (desk : Desk) (some : Arrival) (r after : Reading) (rest : List ℕ) → desk.goes_on ≡ true → payload_of some after ≡ payload_of some r →
    (o : Outcome) → by_arrival some after.payload run desk ≡ o →
    written run desk (with_arrival (Some some) r (arrivals after rest)) ≡ acknowledged some desk ++ frames o.answers ++ written o.run (remembered o) (arrivals after rest)
unfolding written
written_step run desk some r after rest goes same o is =
    ap (λ b. if b then acknowledged some desk ++ frames (by_arrival some (payload_of some r) run desk).answers
    ++ written (by_arrival some (payload_of some r) run desk).run (remembered (by_arrival some (payload_of some r) run desk)) (arrivals after rest) else []) goes
    ∙ ap (λ (p : Outcome). acknowledged some desk ++ frames p.answers ++ written p.run (remembered p) (arrivals after rest)) (payload_there some r after same run desk ∙ is)

pub something_arrives : {T : Type 0} (stands : T → Run → Type 0) (run : Run) (desk : Desk) (r : Reading) (byte : ℕ) (some : Arrival) (before : List ℕ) (target : T) (kept : Desk) (bytes : List ℕ) →
    desk.goes_on ≡ true → arrival byte r ≡ Some some → payload_of some (next byte r) ≡ payload_of some r →
    Performs stands (by_arrival some (next byte r).payload run desk) (before ++ acknowledged some desk) target kept bytes →
    Steps stands run desk r byte before target kept (next byte r) bytes
something_arrives stands run desk r byte some before target kept bytes goes is same performs =
    let o = by_arrival some (next byte r).payload run desk in
    record {
      now = o.run;
      stands_there = performs.stands_there;
      more = acknowledged some desk ++ frames o.answers;
      bytes_are = performs.bytes_are ∙ append_assoc before (acknowledged some desk) (frames o.answers);
      still = λ rest.
          ap (written run desk) (arrivals_step r byte rest ∙ ap (λ a. with_arrival a r (arrivals (next byte r) rest)) is)
          ∙ written_step run desk some r (next byte r) rest goes same o refl
          ∙ ap (λ d. acknowledged some desk ++ frames o.answers ++ written o.run d (arrivals (next byte r) rest)) (sym performs.desk_is);
    }
