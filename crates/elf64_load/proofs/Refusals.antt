-- What is known of a refusal that is handed on.
use Rattle.std.proofs.Common.{◌≡◌, Result, Ok, Err, IfErr, IsErrAnd, sym, subst}

-- what holds of a refusal holds of the error that it became
pub refusal_known : {T E : Type 0} (P : E → Type 0) (result : Result T E) (refusal : E) → IsErrAnd result (λ e. e ≡ refusal) → P refusal → IfErr result P
refusal_known P (Ok found) refusal is known = absurd is
refusal_known P (Err e) refusal is known = subst P (sym is) known
