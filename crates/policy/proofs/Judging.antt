-- Steps that may refuse, and limits.
use Rattle.std.proofs.Common.{◌≡◌, ◌≢◌, Bool, true, false, Result, Ok, Err, IfErr, IsErrAnd, if◌then◌else◌, refl, sym, ◌∙◌, ap}
use Rattle.policy_limits.specs.declared.policy_fault.PolicyFault.{PolicyFault}
use Rattle.policy.specs.declared.refusal.PolicyRefusal.{PolicyRefusal}
use Rattle.policy.specs.declared.refusal.PolicyRefusal.TheVariants.{Fault}
use Rattle.sv_types.specs.Steps.{◌>>=◌}
use Rattle.policy.specs.Refusals.{Judged, as_answer, Refuses}
use Rattle.policy.specs.Values.{if_within_limit}

pub then_ok : {A B : Type 0} (r : Judged A) (f : A → Judged B) (a : A) (b : Judged B) → r ≡ Ok a → f a ≡ b → (r >>= f) ≡ b
then_ok r f a b first second = rw first second

pub then_err : {A B : Type 0} (r : Judged A) (f : A → Judged B) (fault : PolicyFault) → r ≡ Err fault → (r >>= f) ≡ Err fault
then_err r f fault is = rw is

pub bind_ok : {A B : Type 0} (r : Judged A) (f : A → Judged B) (b : B) → (r >>= f) ≡ Ok b → (a : A) × (r ≡ Ok a) × (f a ≡ Ok b)
bind_ok (Ok a) f b h = (a, refl, h)
bind_ok (Err e) f b h = cc h

-- the same, for a proof that names what each of many steps gave
pub after : {A B P : Type 0} (r : Judged A) (f : A → Judged B) (b : B) → (r >>= f) ≡ Ok b → ((a : A) → r ≡ Ok a → f a ≡ Ok b → P) → P
after (Ok a) f b h next = next a refl h
after (Err e) f b h next = cc h

-- why the first step refused is why the two do
pub refused_on : {A B : Type 0} (judged : Judged A) (f : A → Judged B) (e : PolicyRefusal) → as_answer judged ≡ Err e → as_answer (judged >>= f) ≡ Err e
refused_on (Ok a) f e is = cc is
refused_on (Err fault) f e is =
    let same : Fault fault ≡ e = cc is in ap (λ (x : PolicyRefusal). Err x) same

-- a fault is why, where it's the answer
pub refuses_fault : {A B : Type 0} (result : Result A PolicyRefusal) (judged : Judged B) (fault : PolicyFault) → IsErrAnd result (λ e. e ≡ Fault fault) → judged ≡ Err fault →
    IfErr result (Refuses judged)
refuses_fault (Ok a) judged fault is bad = tt
refuses_fault (Err e) judged fault is bad = λ _. ap as_answer bad ∙ ap (λ (x : PolicyRefusal). Err x) (sym is)

-- why the first step refused is why the whole does, where its fault is the whole's
answer_on : {B C : Type 0} (first : Judged B) (whole : Judged C) (e : PolicyRefusal) → as_answer first ≡ Err e → ((fault : PolicyFault) → first ≡ Err fault → whole ≡ Err fault) →
    as_answer whole ≡ Err e
answer_on (Ok b) whole e answered on = absurd (cc answered)
answer_on (Err fault) whole e answered on =
    let same : Fault fault ≡ e = cc answered in ap as_answer (on fault refl) ∙ ap (λ (x : PolicyRefusal). Err x) same

pub refuses_on : {A B C : Type 0} (result : Result A PolicyRefusal) (first : Judged B) (whole : Judged C) (e : PolicyRefusal) → IsErrAnd result (λ x. x ≡ e) → Refuses first e →
    ((fault : PolicyFault) → first ≡ Err fault → whole ≡ Err fault) → IfErr result (Refuses whole)
refuses_on (Ok a) first whole e is why on = tt
refuses_on (Err x) first whole e is why on = λ other. answer_on first whole e (why (λ same. other (is ∙ same))) on ∙ ap (λ (y : PolicyRefusal). Err y) (sym is)

pub ok_same : {A : Type 0} (a b : A) → ◌≡◌ {A = Judged A} (Ok a) (Ok b) → a ≡ b
ok_same a b h = cc h

pub limited_true : {A : Type 0} (fits : Bool) (a : A) → fits ≡ true → if_within_limit fits a ≡ Ok a
limited_true fits a h = rw h

pub limited_ok : {A : Type 0} (fits : Bool) (a b : A) → if_within_limit fits a ≡ Ok b → (fits ≡ true) × (a ≡ b)
limited_ok true a b h = (refl, ok_same a b h)
limited_ok false a b h = cc h

pub if_ok : {A : Type 0} (b : Bool) (a c : A) (e : PolicyFault) → ◌≡◌ {A = Judged A} (if b then Ok a else Err e) (Ok c) → (b ≡ true) × (a ≡ c)
if_ok true a c e h = (refl, ok_same a c h)
if_ok false a c e h = cc h
