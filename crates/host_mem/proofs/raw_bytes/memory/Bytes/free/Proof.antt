-- `free` forgets the bytes, and gives their room and its right to the allocator.
use Rattle.std.proofs.Common.{◌≡◌, ℕ, ◌*◌, ◌^◌, ◌<◌, List, [], ◌∷◌, ◌++◌, length, refl, ap, ◌∙◌, arith, lit<}
use Rattle.std.proofs.raw_atomic.Walks.{proved_at, leaves}
use base.Fml.{ftrue, fsep, feq, froom, flft}
use base.Fraction.{full_share}
use base.Logic.{id⊢}
use mir.MapTy.{inst_fn}
use mir.Syntax.{Fn, Args, Ty, a_type, dcons, dnil, place}
use mir.Val.{Val, vptr, vunit}
use prog.Capped.{capped_is}
use prog.Wp.{Env, WpFn}
use types.Kit.{‵, raw, ◌⊛◌, given, later, prop, settles, at_ret, ◌$◌, ◌∵◌, !, qed, by, move, drop, use1, use3, split, join, learn, rewrite, regoal, fsplit, fsplit3, fjoin, feq_i, feq_l, await}
use types.Part.{whole, sub}
use types.Run.{stop, fld, lit, unit_lit, of_opd, no_more, and_then, first, blocks, exec, returns, enter}
use types.ByLocal.{alloc_all, pass_all, free_all, look_at, get, get_in, sets, lands_last, env}
use contract.BorrowLft.{◌⊑◌, ⊑_trans}
use contract.Monad.{fact}
use contract.Running.{tables}
use denote.Builtin.{RefOf}
use denote.Exit.{yes}
use denote.Param.{param, bounded}
use denote.RattleType.{RattleType, owns}
use denote.RawPtr.{Ptr, block_ptr, in_a_block}
use denote.RawPtr.Bytes.{bytes, bytes_apart, bytes-room}
use denote.Signature.{plain, types_at}
use denote.Steps.{nothing, heard}
use denote.Triple.Call.{calls_at_last}
use denote.Triple.Entry.{alive}
use denote.Triple.Walked.{Stays, stay_dropped, walk_of, Goes-dropped}
use Rattle.core.proofs.alloc.Calls.{Al, seen, Goes-blank, Gives, at_gives, Gives-goes, Gives-Gives}
use Rattle.core.proofs.alloc.Shapes.{after}
use Rattle.core.proofs.atomic.Steps.{fm}
use Rattle.host_mem.specs.Ownership.{bytes_type, bytes_at}
use Rattle.host_mem.proofs.Values.{run_val, run_told, mark_val, mark_told, goes_on, leaves_block}
use Rattle.host_mem.specs.contracts.raw_bytes.memory.Bytes as Bytes
use Rattle.host_mem.specs.contracts.raw_bytes.memory.Right as Right
use Rattle.host_mem.specs.contracts.raw_bytes.memory.Bytes.free as f
use Rattle.host_mem.proofs.raw_bytes.memory.Bytes.free.Statement.{statement}
use Rattle.host_mem.proofs.raw_bytes.memory.Bytes.free.Code as code

pub free_spec : {M : Type 1} → statement M
free_spec 𝓤 𝓛 𝓜 𝓡 wired A L g d dd met md =
    let T = f.ended A g d dd in let c = f.clauses A g d dd 𝓛 𝓜.mem 𝓡.returns in let 𝓣 = tables 𝓤 𝓛.H 𝓜 𝓡 𝓡.env in let C = 𝓣.C in let Λ = 𝓣.Λ in
    let args : Args = bounded (a_type ∷ []) (A, tt) (dcons d (dcons dd dnil)) in let fn : Fn = inst_fn args code.function in
    let Handle : RattleType = param 0 A in let handle = RefOf (0 ∷ []) tt (plain (λ _. Handle)) (λ _. tt) in
    let stayed : Stays T.signature.params T.kept = (
      stay_dropped (plain (λ _. Bytes.the_row)) T.kept.0,
      (
        stay_dropped (plain (λ _. Right.the_row Handle g)) T.kept.1.0,
        (stay_dropped handle yes, tt),
      ),
    ) in
    let W = walk_of 𝓛 T stayed c in
    proved_at 𝓛 T stayed c 𝓜 𝓡 (
      Goes-blank 𝓛 2 (plain (λ _. Bytes.the_row)) T.kept.0 (λ κs x w. tt),
      (Goes-blank 𝓛 2 (plain (λ _. Right.the_row Handle g)) T.kept.1.0 (λ κs x w. tt), (Goes-dropped 𝓛 2 handle yes (λ κs x w. refl), tt)),
    )
    (f.Key.name args) fn (code.unfolded 𝓤 𝓛.H 𝓜 𝓡 wired (A, tt) d dd) (λ z are.
    let Z : Al = record { row = A; laws = L; g = g; d = d; drops = dd } in let κs = z.0.0 in let qs = z.0.1 in let a = z.0.3 in let vss = z.0.4 in
    let κ = κs.0 in let q = qs.0 in let x = a.0 in let n = x.size in let xs = x.items in let k = a.1.0 in let h = a.1.1.0.now in let hp = a.1.1.0.ref_ptr in let τ : Ty = bytes_type n in
    let told = run_told x.at n vss.0 are.0.0 in let fits : n < 2 ^ 64 = told.1 in let Post = W.post z in
    let Asked : Type 0 = (k.alloc ≡ h) × (k.at ≡ x.at) × (k.size ≡ n) in
    qed 𝓛 ((raw (alive 𝓛 T.signature κs qs) ⊛ ‵ (owns (types_at T.signature.params κs) a vss)) ∷ (raw (fact 𝓤 (κs.1.0 ⊑ A.lives)) ⊛ raw (fact 𝓤 Asked)) ∷ []) ∵
    move ! (1 ∷ []) $ split ! $ heard ! (κs.1.0 ⊑ A.lives) (λ within. heard ! Asked (λ asked. split ! $ move ! (1 ∷ []) $
    fsplit3 ! $ fsplit ! $ drop ! $ in_a_block ! x.at (λ p. bytes_at p n xs) (id⊢ 𝓤 _) (λ b o at.
    use1 𝓛 (‵ (fsep (feq ℕ (length xs) n) (bytes full_share xs b o))) (bytes_apart 𝓛 full_share n xs b o) $ fsplit ! $ feq_l ! (λ count.
    use1 𝓛 (‵ (froom (bytes_type (length xs)) b o)) (bytes-room 𝓛 xs b o) $ rewrite ! 0 (λ (j : ℕ). ‵ (froom (bytes_type j) b o)) count refl $
    -- [the room; the right; the `&` to the handle; the tokens]
    move ! (1 ∷ []) $ fsplit ! $ drop ! $
    rewrite ! 0 (λ (u : A.Denot × ℕ × Ptr). ‵ (g.dealloc_token u.0 (bytes_type u.1) u.2)) (λ i. (asked.0 i, asked.2 i, (asked.1 ∙ at) i)) refl $
    move ! (2 ∷ []) $ fsplit ! $ fsplit ! $ drop ! $ move ! (1 ∷ []) $ drop ! $ use1 𝓛 (‵ (seen Z κ hp h)) (id⊢ 𝓤 _) $ move ! (3 ∷ []) $ use1 𝓛
    (‵ (flft κ q) ⊛ ‵ (flft κs.1.0 qs.1.0) ⊛ ‵ ftrue) (id⊢ 𝓤 _) $ split ! $
    move ! (2 ∷ 0 ∷ []) $ join ! $ move ! (3 ∷ 2 ∷ []) $
    -- [the room; the right; the `&` with its token; the other token]
    let t = at_gives Z 𝓛 𝓜.mem 𝓡.returns κ q hp h b o n 1 τ in
    regoal ! (λ (us : List Val). prop (WpFn 𝓤 𝓛.H C Λ fn us Post)) (λ i. (told.0 ∙ ap (λ (p : Ptr). run_val p n ∷ []) at) i ++ (mark_told vss.1.0 are.1.0.0 i ++ (are.1.1.0.0 i ++ []))) refl $
    enter ! C Λ fn (run_val (block_ptr b o) n ∷ mark_val ∷ vptr hp.0 hp.1 ∷ []) Post $
    alloc_all ! (λ l. pass_all ! refl ((tt, (tt, (record { fits = fits }, tt))), ((tt, (tt, tt)), ((tt, tt), tt))) $ let En : Env 𝓤 𝓛.H = env fn.locals l in
    sets ! (of_opd ! (get_in ! (fld ! refl (stop !)) (sub ! 0 refl (whole !)))) refl (tt, tt) $
    sets ! (of_opd ! (get_in ! (fld ! refl (stop !)) (sub ! 1 refl (whole !)))) refl (tt, record { fits = fits }) $
    first ! $ blocks ! $
    use3 𝓛 (raw ((Gives Z 𝓛 𝓜.mem 𝓡.returns).pre t)) (Gives-goes Z 𝓛 𝓜.mem 𝓡.returns κ q hp h (⊑_trans κ κs.1.0 A.lives z.0.2.0 within) b o n 1 τ
    (capped_is (n * 1) (omega (arith, fits)) ∙ omega arith) refl fits (lit< tt)) $
    calls_at_last ! (fm 𝓛 𝓜 𝓡) (Gives Z 𝓛 𝓜.mem 𝓡.returns) (met.deallocate dd) t (and_then ! (get ! refl) (and_then ! (get ! refl) (and_then ! (get ! refl) (and_then ! (lit ! tt) (no_more !))))) (λ v.
    use1 𝓛 (later (given (v ≡ vunit) (‵ (flft κ q)))) (Gives-Gives Z 𝓛 𝓜.mem 𝓡.returns κ q hp h b o n 1 τ v) $ await ! tt $ learn ! (λ e. join ! $
    regoal ! (λ (u : Val). settles En (place 6 []) u (leaves_block 𝓛 (goes_on 𝓛 C Λ En (after 3 fn.body) (at_ret En Post)))) e refl $ lands_last ! refl (tt, tt) $
    exec ! C Λ En (after 3 fn.body) (at_ret En Post) $ sets ! (of_opd ! (unit_lit !)) refl (tt, tt) $ returns ! (look_at ! 0 refl) $ free_all ! refl $
    feq_i ! (List Val) (vunit ∷ []) (vunit ∷ []) refl $ nothing ! $ nothing ! $ nothing ! $ fjoin ! $ nothing ! $ fjoin ! $ nothing ! $ fjoin ! $ move ! (3 ∷ 0 ∷ 2 ∷ 1 ∷ []) $
    by ! (leaves 𝓛 T stayed c z vunit tt (tt, (tt, (tt, tt))) (tt, (tt, (tt, tt))))))))))))
