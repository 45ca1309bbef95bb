-- `as_slice` reads the two fields through the `&`, and lends the bytes for as long.
use Rattle.std.proofs.Common.{ℕ, ◌+◌, ◌*◌, ◌^◌, List, [], ◌∷◌, length, refl, sym, ap, arith}
use Rattle.std.proofs.raw_atomic.Walks.{proved}
use mir.Syntax.{named}
use mir.Val.{Val, vptr}
use base.Fml.{ftrue, fhide, flft}
use types.Kit.{‵, raw, ◌⊛◌, at_ret, ◌$◌, ◌∵◌, !, qed, move, keep, drop, use1, split, join, fsplit, fjoin, feq_i, feq_l, flt_i, suffices, frame, done}
use types.Part.{agg}
use types.Run.{enter, of_opd, load, look, stop, fld, no_more, and_then, first, blocks, exec, returns}
use types.ByLocal.{alloc_all, pass_all, free_all, look_at, get, through, sets, sets_last, env}
use contract.Monad.{fact}
use contract.Running.{tables}
use denote.Exit.{yes}
use denote.RattleType.{owns}
use denote.Opens.{shr_dup, unhide, hide}
use denote.RawPtr.{InBlock, block_of, count_of}
use denote.Ref.{ShrRef, shr_vals, shr_Tells}
use denote.Slice.{slice_val}
use denote.Signature.{plain}
use denote.Steps.{heard, nothing}
use denote.Struct.Lending.{in_block_says, lent_out}
use denote.Triple.Walked.{says, Stays, stay_none_ref, walk_of, ends_at, Goes-none_ref}
use Rattle.core.proofs.alloc.Shapes.{after}
use Rattle.std_alloc.proofs.Words.{pointer_in, pointer_out, word_in, word_out}
use Rattle.host_mem.proofs.Fields.{Owner, words_shared, shows_at, shows_size}
use Rattle.host_mem.specs.contracts.raw_bytes.memory.Bytes as Bytes
use Rattle.host_mem.proofs.raw_bytes.memory.Bytes.TheLaws as laws
use Rattle.host_mem.specs.contracts.raw_bytes.memory.Bytes.as_slice as f
use Rattle.host_mem.proofs.raw_bytes.memory.Bytes.as_slice.Statement.{statement}
use Rattle.host_mem.proofs.raw_bytes.memory.Bytes.as_slice.Code as code

abbrev stayed : Stays f.ended.signature.params f.ended.kept
stayed = (stay_none_ref (0 ∷ []) tt (plain (λ _. Owner)) yes, tt)

pub as_slice_spec : {M : Type 1} → statement M
as_slice_spec 𝓤 𝓛 𝓜 𝓡 wired =
    let c = f.clauses 𝓛 𝓜.mem 𝓡.returns in let W = walk_of 𝓛 f.ended stayed c in let 𝓣 = tables 𝓤 𝓛.H 𝓜 𝓡 𝓡.env in
    proved 𝓛 f.ended stayed c 𝓜 𝓡 (Goes-none_ref 𝓛 1 (0 ∷ []) tt (plain (λ _. Owner)) yes, tt) f.Key.name code.function (code.unfolded 𝓤 𝓛.H 𝓜 𝓡 wired)
    (λ κs. (shr_vals, tt)) (λ κs. (shr_Tells (named 0) κs.0 Owner, tt)) (λ κs qs bounds a _ are.
    let κ = κs.0 in let q = qs.0 in let b = a.0.ref_ptr.0 in let o = a.0.ref_ptr.1 in let d = a.0.now in let n = d.size in let xs = d.items in
    let at : ℕ × ℕ = (block_of d.at, count_of d.at) in
    let y : W.Ghost = ((κs, qs, bounds, a, (vptr b o ∷ [], tt)), tt) in
    qed 𝓛 (((‵ (flft κ q) ⊛ ‵ ftrue) ⊛ ‵ (owns (ShrRef (named 0) κ Owner ∷ []) a (vptr b o ∷ [], tt))) ∷ ‵ ftrue ∷ []) ∵
    split ! $ split ! $ move ! (2 ∷ []) $ fsplit ! $ fsplit ! $ drop ! $ keep ! (0 ∷ 2 ∷ []) $
    enter ! 𝓣.C 𝓣.Λ code.function (vptr b o ∷ []) _ $ alloc_all ! (λ l. pass_all ! refl ((tt, tt), tt) $
    shr_dup ! Owner laws.the_row_laws.shr_laws d b o κ $
    use1 𝓛 (‵ (words_shared 𝓛 κ b o d) ⊛ ‵ (fhide (Bytes.the_lent d d.at κ))) (lent_out 𝓛 Bytes.struct Bytes.the_codes Bytes.the_heap Bytes.the_lent κ d b o) $ split ! $
    move ! (1 ∷ []) $ unhide ! $ fsplit ! $ use1 𝓛 (raw (fact 𝓤 (InBlock d.at))) (in_block_says 𝓛 d.at) $ heard ! (InBlock d.at) (λ inside. fsplit ! $ feq_l ! (λ count. hide ! $
    -- [the bytes; the fields; the `&`; the token; the locals]
    move ! (1 ∷ 3 ∷ []) $ first ! $ blocks ! $
    pointer_in ! tt d.at inside b (o + 0) (shows_at 𝓛 κ b o d) (λ q₀.
    sets ! (of_opd ! (load ! (through ! refl (fld ! refl (stop !))) (look ! 1 refl))) refl (tt, tt) $
    pointer_out ! tt d.at inside b (o + 0) $ move ! (1 ∷ 0 ∷ []) $
    word_in ! tt n b (o + 8) (shows_size 𝓛 κ b o d) (λ q₁ fits.
    sets ! (of_opd ! (load ! (through ! refl (fld ! refl (stop !))) (look ! 1 refl))) refl (tt, record { fits = fits }) $
    word_out ! tt n b (o + 8) fits $
    sets_last ! (agg ! (and_then ! (get ! refl) (and_then ! (get ! refl) (no_more !)))) refl (tt, (tt, (record { fits = fits }, tt))) $
    exec ! 𝓣.C 𝓣.Λ (env code.function.locals l) (after 1 code.function.body) (at_ret _ (W.post y)) $
    sets ! (of_opd ! (get ! refl)) refl (tt, (tt, (record { fits = fits }, tt))) $
    returns ! (look_at ! 0 refl) $ free_all ! refl $ keep ! (0 ∷ 3 ∷ 2 ∷ []) $
    -- [the token; the `&`; the bytes]
    suffices ! _ (ends_at 𝓛 f.ended stayed c y (slice_val at n) (record { ref_ptr = at; now = xs }) (tt, tt) (tt, tt)) $ says ! refl $
    nothing ! $ move ! (1 ∷ 0 ∷ []) $ join ! $ frame ! $ feq_i ! (List Val) (vptr b o ∷ []) (vptr b o ∷ []) refl $ fjoin ! $ nothing ! $ move ! (1 ∷ 0 ∷ []) $ fjoin ! $ frame ! $
    flt_i ! (length xs * 1) (2 ^ 63) (omega (arith, d.fits, count)) $ flt_i ! (length xs) (2 ^ 64) (omega (arith, d.fits, count)) $ fjoin ! $
    feq_i ! (List Val) (slice_val at n ∷ []) (slice_val at (length xs) ∷ []) (ap (λ (k : ℕ). slice_val at k ∷ []) (sym count)) $ fjoin ! $ fjoin ! $ done !))))))
