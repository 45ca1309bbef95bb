-- `as_mut_slice` lends the bytes, and their owner follows what is written to them.
use Rattle.std.proofs.Common.{◌≡◌, ℕ, ◌*◌, ◌^◌, ◌<◌, List, [], ◌∷◌, length, refl, sym, ap, ◌∙◌, arith, MutBor}
use Rattle.std.proofs.raw_atomic.Walks.{proved}
use seplogic.Ra.Ura.{Ura}
use base.Fraction.{full_share}
use base.Logic.{ent, sep, id⊢}
use base.Fml.{GName, Fml, ftrue, fsep, feq, flft}
use mir.Syntax.{named}
use mir.Val.{Val, vptr}
use types.Logic.{Logic, sem}
use types.Kit.{‵, raw, ◌⊛◌, some, later, at_ret, ◌$◌, ◌∵◌, !, qed, move, keep, use1, split, join, pick, await, group, rewrite, fsplit, fsplit3, fjoin, fpack, feq_i, feq_l, suffices, frame, done}
use types.Part.{whole, sub, look_in, agg}
use types.Run.{enter, of_opd, load, stop, fld, no_more, and_then, first, blocks, exec, returns}
use types.ByLocal.{alloc_all, pass_all, free_all, look_at, get, through, sets, sets_last, env}
use types.SemTy.{cells}
use contract.Running.{tables}
use denote.Array.{Array}
use denote.Builtin.{u8}
use denote.Exit.{no}
use denote.Follow.{follows}
use denote.FollowSlice.{Elements, lends_Elements}
use denote.Index.{row, whole_in, whole_out}
use denote.Laws.{shows}
use denote.Memory.{cell_at, mem, part_at, part_of}
use denote.RattleType.{owns}
use denote.RawPtr.{Ptr, block_ptr, in_a_block}
use denote.RawPtr.Bytes.{bytes, bytes_apart, bytes_whole}
use denote.Ref.{MutRef, mut_vals, mut_Tells}
use denote.Signature.{plain, mut_ref_to}
use denote.Slice.{MutSlice, slice_val}
use denote.Steps.{nothing, opens, peeks}
use denote.Triple.Walked.{says, Stays, stay_dropped, walk_of, ends_at, Goes-spent_ref}
use Rattle.core.proofs.alloc.Shapes.{after}
use Rattle.host_mem.specs.Lends.{with_items}
use Rattle.host_mem.specs.Ownership.{bytes_at}
use Rattle.host_mem.proofs.Fields.{Owner, Words, words}
use Rattle.host_mem.proofs.raw_bytes.memory.Bytes.TheLaws.{lowers}
use Rattle.host_mem.specs.contracts.raw_bytes.memory.Bytes.as_mut_slice as f
use Rattle.host_mem.proofs.raw_bytes.memory.Bytes.as_mut_slice.Statement.{statement}
use Rattle.host_mem.proofs.raw_bytes.memory.Bytes.as_mut_slice.Code as code

abbrev stayed : Stays f.ended.signature.params f.ended.kept
stayed = (stay_dropped (mut_ref_to (0 ∷ []) tt (plain (λ _. Owner))) no, tt)

module _ {M : Type 1} {𝓤 : Ura M} (𝓛 : Logic 𝓤) (b o : ℕ) (d : Owner.Denot) (us : List Val) where
  -- the owner but for its bytes
  abbrev Rest : Fml
  Rest = fsep (Words.own_val (words d) us) (cell_at full_share Owner.mir us b o)

  back : (b' o' : ℕ) → d.at ≡ block_ptr b' o' → length d.items ≡ d.size → (ws : List ℕ) → length ws ≡ length d.items
      → ent 𝓤 (sep 𝓤 (sem 𝓛 (cells (mem u8) ws b' o')) (sem 𝓛 Rest)) (sem 𝓛 ((mem Owner).own_at (with_items d ws) b o))
  unfolding part_of
  back b' o' e count ws same =
      qed 𝓛 (‵ (cells (mem u8) ws b' o') ∷ ‵ Rest ∷ []) ∵ use1 𝓛 (‵ (row u8 full_share ws b' o')) (whole_out 𝓛 u8 ws b' o') $
      feq_i ! ℕ (length ws) d.size (same ∙ count) $ fjoin ! $ use1 𝓛 (‵ (part_at (Array u8 d.size) full_share ws b' o')) (bytes_whole 𝓛 full_share d.size ws b' o') $
      rewrite ! 0 (λ (p : Ptr). ‵ (bytes_at p d.size ws)) (sym e) refl $ move ! (1 ∷ []) $ fsplit ! $ move ! (0 ∷ 2 ∷ []) $ fjoin ! $ move ! (1 ∷ 0 ∷ []) $ fjoin ! $
      fpack ! (List Val) (λ vs. fsep (cell_at full_share Owner.mir vs b o) (Owner.own_val (with_items d ws) vs)) us $ done !

pub as_mut_slice_spec : {M : Type 1} → statement M
as_mut_slice_spec 𝓤 𝓛 𝓜 𝓡 wired =
    let c = f.clauses 𝓛 𝓜.mem 𝓡.returns in let W = walk_of 𝓛 f.ended stayed c in let 𝓣 = tables 𝓤 𝓛.H 𝓜 𝓡 𝓡.env in
    proved 𝓛 f.ended stayed c 𝓜 𝓡 (Goes-spent_ref 𝓛 1 (0 ∷ []) tt (plain (λ _. Owner)), tt) f.Key.name code.function (code.unfolded 𝓤 𝓛.H 𝓜 𝓡 wired)
    (λ κs. (mut_vals, tt)) (λ κs. (mut_Tells (named 0) κs.0 Owner, tt)) (λ κs qs bounds a _ are.
    let κ = κs.0 in let q = qs.0 in let b = a.0.ref_ptr.0 in let o = a.0.ref_ptr.1 in let γ = a.0.ghost_name in let d = a.0.now in let n = d.size in let xs = d.items in
    let y : W.Ghost = ((κs, qs, bounds, a, (mut_vals a.0, tt)), tt) in let fits : n < 2 ^ 64 = omega (arith, d.fits) in
    qed 𝓛 (((‵ (flft κ q) ⊛ ‵ ftrue) ⊛ ‵ (owns (MutRef (named 0) κ Owner ∷ []) a (mut_vals a.0, tt))) ∷ ‵ ftrue ∷ []) ∵
    split ! $ split ! $ move ! (2 ∷ []) $ fsplit ! $ fsplit3 ! $ keep ! (1 ∷ 2 ∷ 4 ∷ []) $
    enter ! 𝓣.C 𝓣.Λ code.function (vptr b o ∷ []) _ $ alloc_all ! (λ l. pass_all ! refl ((tt, tt), tt) $
    opens ! tt Owner b o (λ us. move ! (1 ∷ []) $ peeks ! Owner _ (shows 𝓛 Owner) d us (λ is. fsplit ! $ move ! (1 ∷ []) $
    in_a_block ! d.at (λ p. bytes_at p n xs) (id⊢ 𝓤 _) (λ b' o' e.
    let word = lowers.val_is d us is ∙ ap (λ (p : Ptr). lowers.lowered (record d { at = p }) ∷ []) e in
    let Cell = λ (ws : List Val). ‵ (cell_at full_share Owner.mir ws b o) in
    rewrite ! 2 Cell word refl $
    -- [the bytes; the fields; the cell; the open borrow, in three entries; the locals]
    first ! $ blocks ! $
    sets ! (of_opd ! (load ! (through ! refl (fld ! refl (stop !))) (look_in ! 2 (sub ! 0 refl (whole !))))) refl (tt, tt) $
    sets ! (of_opd ! (load ! (through ! refl (fld ! refl (stop !))) (look_in ! 2 (sub ! 1 refl (whole !))))) refl (tt, record { fits = fits }) $
    sets_last ! (agg ! (and_then ! (get ! refl) (and_then ! (get ! refl) (no_more !)))) refl (tt, (tt, (record { fits = fits }, tt))) $
    exec ! 𝓣.C 𝓣.Λ (env code.function.locals l) (after 1 code.function.body) (at_ret _ (W.post y)) $
    sets ! (of_opd ! (get ! refl)) refl (tt, (tt, (record { fits = fits }, tt))) $
    rewrite ! 2 Cell (sym word) refl $
    use1 𝓛 (‵ (fsep (feq ℕ (length xs) n) (bytes full_share xs b' o'))) (bytes_apart 𝓛 full_share n xs b' o') $ fsplit ! $ feq_l ! (λ count.
    use1 𝓛 (‵ (cells (mem u8) xs b' o')) (whole_in 𝓛 u8 xs b' o') $ move ! (1 ∷ 2 ∷ []) $ fjoin ! $ move ! (2 ∷ 3 ∷ 4 ∷ 1 ∷ 0 ∷ []) $ group ! 5 $
    let roomy : length xs < 2 ^ 64 = omega (arith, d.fits, count) in let fitting : length xs * 1 < 2 ^ 63 = omega (arith, d.fits, count) in
    let way = back 𝓛 b o d us b' o' e count in
    use1 𝓛 (later (some (λ (δ : GName). raw (Elements 𝓛 Owner u8 (with_items d) (named 0) κ q b o b' o' γ xs (roomy, fitting) (sem 𝓛 (Rest 𝓛 b o d us)) way δ))))
    (lends_Elements 𝓛 Owner u8 (with_items d) (named 0) κ q b o b' o' γ xs (roomy, fitting) (sem 𝓛 (Rest 𝓛 b o d us)) way (Owner.coded.code d) (Owner.coded.code d)) $ await ! tt $ pick ! (λ δ.
    returns ! (look_at ! 0 refl) $ free_all ! refl $ keep ! (0 ∷ []) $
    let r : MutBor (List ℕ) = record { ref_ptr = (b', o'); ghost_name = δ; now = xs } in
    use1 𝓛 (‵ ((MutSlice (named 0) κ u8).own_val r (slice_val (b', o') (length xs) ∷ [])) ⊛ ‵ (flft κ q) ⊛ ‵ (follows Owner (Array u8 0) γ δ (with_items d))) (id⊢ 𝓤 _) $ split ! $
    move ! (1 ∷ []) $ split ! $ move ! (2 ∷ 0 ∷ 1 ∷ []) $
    rewrite ! 0 (λ (k : ℕ). ‵ ((MutSlice (named 0) κ u8).own_val r (slice_val (b', o') k ∷ []))) count refl $
    suffices ! _ (ends_at 𝓛 f.ended stayed c y (slice_val (b', o') n) r (tt, tt) (tt, tt)) $
    nothing ! $ nothing ! $ fjoin ! $ join ! $ nothing ! $ move ! (2 ∷ 0 ∷ []) $ join ! $ join ! $ frame ! $ says ! refl $ done !)))))))
