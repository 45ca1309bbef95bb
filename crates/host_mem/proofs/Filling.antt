-- Room for n bytes of which the first are zeros: one more is taken out as room, and put back as a zero.
use Rattle.std.proofs.Common.{◌≡◌, ℕ, zero, suc, ◌+◌, ◌-◌, ◌<◌, List, [], ◌∷◌, ◌++◌, length, replicate, refl, ap, arith, w8}
use seplogic.Ra.Ura.{Ura}
use base.Fml.{Fml, fsep, fat, froom}
use base.Fraction.{full_share}
use base.Logic.{ent, sep}
use lib.ListN.{length-replicate}
use mir.Syntax.{ty_int}
use mir.Val.{vint}
use types.Kit.{‵, ◌⊛◌, ◌$◌, ◌∵◌, !, qed, move, use1, use2, split, rewrite, fsplit, fjoin, done}
use types.Logic.{Logic, sem}
use denote.Builtin.{u8}
use denote.Memory.{part_at}
use denote.Plain.{uint_in}
use denote.RawPtr.Bytes.{bytes, bytes_glue}
use denote.Steps.{nothing}
use Rattle.host_mem.specs.Ownership.{bytes_type}

abbrev none : ℕ → List ℕ
none i = replicate i 0

abbrev one : List ℕ
one = 0 ∷ []

one_more : (i : ℕ) → none i ++ one ≡ none (suc i)
one_more zero = refl
one_more (suc i) = ap (λ (t : List ℕ). 0 ∷ t) (one_more i)

module _ (b o n : ℕ) where
  -- the first i are zeros
  abbrev pub zeros : ℕ → Fml
  zeros i = fsep (bytes full_share (none i) b o) (froom (bytes_type (n - i)) b (i + o))

  -- the same without the room of the next
  abbrev pub around : ℕ → Fml
  around i = fsep (bytes full_share (none i) b o) (froom (bytes_type (n - suc i)) b (i + o + 1))

  module _ {M : Type 1} {𝓤 : Ura M} (𝓛 : Logic 𝓤) (i : ℕ) (inside : i < n) where
    pub next_out : ent 𝓤 (sem 𝓛 (zeros i)) (sep 𝓤 (sem 𝓛 (froom (ty_int w8) b (i + o))) (sem 𝓛 (around i)))
    next_out =
        let counts : n - i ≡ suc (n - suc i) = omega (arith, inside) in
        qed 𝓛 (‵ (zeros i) ∷ []) ∵ fsplit ! $ move ! (1 ∷ []) $ rewrite ! 0 (λ (k : ℕ). ‵ (froom (bytes_type k) b (i + o))) counts refl $
        use1 𝓛 (‵ (froom (ty_int w8) b (i + o)) ⊛ ‵ (froom (bytes_type (n - suc i)) b (i + o + 1))) (𝓛.laws.room_uncons (ty_int w8) (n - suc i) b (i + o)) $ split ! $
        move ! (2 ∷ 1 ∷ []) $ fjoin ! $ move ! (1 ∷ 0 ∷ []) $ done !

    pub next_in : ent 𝓤 (sep 𝓤 (sem 𝓛 (fat full_share (ty_int w8) b (i + o) (vint w8 0))) (sem 𝓛 (around i))) (sem 𝓛 (zeros (suc i)))
    next_in =
        let place : i + o ≡ o + length (none i) = omega (arith, length-replicate {A = ℕ} i 0) in let past : i + o + 1 ≡ suc i + o = omega arith in
        qed 𝓛 (‵ (fat full_share (ty_int w8) b (i + o) (vint w8 0)) ∷ ‵ (around i) ∷ []) ∵
        use1 𝓛 (‵ (part_at u8 full_share 0 b (i + o))) (uint_in 𝓛 full_share w8 0 b (i + o)) $ nothing ! $ move ! (1 ∷ 0 ∷ []) $ fjoin ! $
        rewrite ! 0 (λ (k : ℕ). ‵ (bytes full_share one b k)) place refl $ move ! (1 ∷ []) $ fsplit ! $ move ! (0 ∷ 2 ∷ []) $
        use2 𝓛 (‵ (bytes full_share (none i ++ one) b o)) (bytes_glue 𝓛 full_share (none i) one b o) $
        rewrite ! 0 (λ (l : List ℕ). ‵ (bytes full_share l b o)) (one_more i) refl $ move ! (1 ∷ []) $
        rewrite ! 0 (λ (k : ℕ). ‵ (froom (bytes_type (n - suc i)) b k)) past refl $ move ! (1 ∷ 0 ∷ []) $ fjoin ! $ done !
