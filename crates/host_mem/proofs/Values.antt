-- The machine values of the structs: a pointer alongside a count, and the mark that owns no memory of its own.
use Rattle.std.proofs.Common.{◌≡◌, ℕ, ◌^◌, ◌<◌, List, [], ◌∷◌, ◌++◌, refl, ◌∙◌, w64}
use seplogic.Ra.Ura.{Ura}
use mir.Syntax.{Body}
use mir.Val.{Val, vint, vstruct, vcons, vnil, of_list}
use base.Logic.{ent, emp}
use base.Fml.{Fml}
use prog.Wp.{Env, Calls, Loops, Wp, after_seq, after_block}
use types.Kit.{Post, any_q, post}
use types.Logic.{Logic, sem}
use denote.RattleType.{RattleType}
use denote.Builtin.{usize}
use denote.RawPtr.{Ptr, RawPtr, ptr_val}
use denote.Shadow.{shadow, makes_shadow}
use denote.Struct.Struct.{Struct}

-- the fields of a struct, without its name
abbrev pub bare : List RattleType → RattleType
bare Rs = Struct (record { name = []; args = []; types = []; fields = Rs })

abbrev pub run_val : Ptr → ℕ → Val
run_val p n = vstruct (vcons (ptr_val p) (vcons (vint w64 n) vnil))

abbrev pub run_own : Ptr → ℕ → List Val → Fml
run_own p n = (bare (RawPtr ∷ usize ∷ [])).own_val (p, (n, tt))

pub run_told : (p : Ptr) (n : ℕ) (vs : List Val) → shadow (run_own p n vs) → (vs ≡ run_val p n ∷ []) × (n < 2 ^ 64)
run_told p n vs s = (s.1.0 ∙ (λ i. vstruct (of_list (s.1.1.0 i ++ (s.1.1.1.0.0 i ++ []))) ∷ []), s.1.1.1.0.1)

abbrev pub mark_val : Val
mark_val = vstruct (vcons (vstruct vnil) vnil)

abbrev pub mark_own : List Val → Fml
mark_own = (bare (bare [] ∷ [])).own_val (tt, tt)

pub mark_told : (vs : List Val) → shadow (mark_own vs) → vs ≡ mark_val ∷ []
mark_told vs s = s.1.0 ∙ (λ i. vstruct (of_list (s.1.1.0.1.0 i ++ [])) ∷ [])

module _ {M : Type 1} {𝓤 : Ura M} (𝓛 : Logic 𝓤) where
  pub run_made : (p : Ptr) (n : ℕ) → n < 2 ^ 64 → ent 𝓤 (emp 𝓤) (sem 𝓛 (run_own p n (run_val p n ∷ [])))
  run_made p n fits = makes_shadow 𝓛 (run_own p n (run_val p n ∷ [])) (λ _. (tt, (tt, ((tt, tt), tt)))) ((ptr_val p ∷ [], (vint w64 n ∷ [], tt)), (refl, (refl, ((refl, fits), tt))))

  pub mark_made : ent 𝓤 (emp 𝓤) (sem 𝓛 (mark_own (mark_val ∷ [])))
  mark_made = makes_shadow 𝓛 (mark_own (mark_val ∷ [])) (λ _. (tt, ((λ _. (tt, tt)), tt))) ((vstruct vnil ∷ [], tt), (refl, ((tt, (refl, tt)), tt)))

  open 𝓛 use {H}

  -- what runs after the arm of a `match`
  abbrev pub goes_on : Calls 𝓤 H → Loops 𝓤 H → Env 𝓤 H → Body → Post 𝓤 H → Post 𝓤 H
  goes_on C Λ E b q = any_q (after_seq 𝓤 H (Wp 𝓤 H C Λ E b (post 𝓤 H q)) (post 𝓤 H q))

  abbrev pub leaves_block : Post 𝓤 H → Post 𝓤 H
  leaves_block q = any_q (after_block 𝓤 H (post 𝓤 H q))
