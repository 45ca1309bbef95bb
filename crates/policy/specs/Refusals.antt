-- Why a policy is refused: its first fault, or out of memory.
use Rattle.std.specs.Prelude.{◌≡◌, ◌≢◌, Result, Ok, Err}
use Rattle.policy_limits.specs.declared.policy_fault.PolicyFault.{PolicyFault}
use Rattle.policy.specs.declared.refusal.PolicyRefusal.{PolicyRefusal}
use Rattle.policy.specs.declared.refusal.PolicyRefusal.TheVariants.{Fault, Memory}

-- a value, or the fault of a policy
abbrev pub Judged : Type 0 → Type 0
Judged A = Result A PolicyFault

-- what was judged, as it is answered
abbrev pub as_answer : {A : Type 0} → Judged A → Result A PolicyRefusal
as_answer (Ok a) = Ok a
as_answer (Err fault) = Err (Fault fault)

-- this is why, unless it is out of memory
abbrev pub Refuses : {A : Type 0} → Judged A → PolicyRefusal → Type 0
Refuses judged refusal = refusal ≢ Memory → as_answer judged ≡ Err refusal

abbrev pub judged_map : {A B : Type 0} → (A → B) → Judged A → Judged B
judged_map f (Ok x) = Ok (f x)
judged_map f (Err e) = Err e
