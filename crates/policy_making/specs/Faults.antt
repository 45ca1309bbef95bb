-- Why a policy's entries aren't bound: the first fault, or out of memory.
use Rattle.std.specs.Prelude.{◌≡◌, ◌≢◌, ℕ, Result, Ok, Err}
use Rattle.policy_making.specs.declared.bind_fault.ConvertFault.{ConvertFault}
use Rattle.policy_making.specs.declared.bind_fault.ConvertFault.TheVariants.{OtherFormat, NoPlace, OtherByte}
use Rattle.policy_making.specs.declared.bind_fault.BindFault.{BindFault}
use Rattle.policy_making.specs.declared.bind_fault.BindRefusal.{BindRefusal}
use Rattle.policy_making.specs.declared.bind_fault.BindRefusal.TheVariants.{Fault, Memory}

-- the number in the line that refuses
abbrev pub convert_fault_number : ConvertFault → ℕ
convert_fault_number OtherFormat = 1
convert_fault_number NoPlace = 2
convert_fault_number OtherByte = 3

-- a value, or the fault for which no entry is bound
abbrev pub Judged : Type 0 → Type 0
Judged A = Result A BindFault

-- what was judged, as it is answered
abbrev pub as_answer : {A : Type 0} → Judged A → Result A BindRefusal
as_answer (Ok a) = Ok a
as_answer (Err fault) = Err (Fault fault)

-- this is why, unless it is out of memory
abbrev pub Refuses : {A : Type 0} → Judged A → BindRefusal → Type 0
Refuses judged refusal = refusal ≢ Memory → as_answer judged ≡ Err refusal
