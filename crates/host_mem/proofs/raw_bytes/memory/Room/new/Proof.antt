-- `new` asks the allocator for a block, and splits it into the room and the right to give it back.
use Rattle.std.proofs.Common.{◌≡◌, ◌*◌, ◌^◌, ◌<◌, List, [], ◌∷◌, refl, ◌∙◌, arith, lit<, w64, Some, None}
use Rattle.std.proofs.raw_atomic.Walks.{proved, leaves}
use mir.Syntax.{Fn, Args, Ty, a_type, dcons, dnil, named}
use mir.MapTy.{inst_fn}
use mir.Val.{Val, vint, vptr, vcons, vnil}
use base.Fml.{ftrue, flft}
use base.Logic.{emp, id⊢}
use prog.Capped.{capped_is}
use prog.Wp.{Env}
use types.Kit.{‵, raw, ◌⊛◌, later, at_ret, ◌$◌, ◌∵◌, !, qed, by, move, drop, use0, use1, use2, split, join, fsplit, fjoin, await}
use types.Match.{live, vrt, in_variant}
use types.Part.{whole, agg}
use types.Run.{stop, fld, lit, of_opd, no_more, and_then, first, switches_on, exec, returns, enter}
use types.ByLocal.{alloc_all, pass_all, free_all, look_at, get, get_in, get_tag, sets, sets_last, lands_as, env}
use contract.BorrowLft.{◌⊑◌, ⊑_trans}
use contract.Monad.{fact, fact_i}
use contract.Running.{tables}
use denote.Builtin.{RefOf, usize}
use denote.Exit.{yes}
use denote.Param.{param, bounded}
use denote.Plain.{uint_vals, uint_Tells}
use denote.RattleType.{RattleType, owns}
use denote.RawPtr.{Ptr, block_ptr}
use denote.Ref.{shr_vals, shr_Tells}
use denote.Signature.{plain, types_at, type_at}
use denote.Steps.{nothing, heard}
use denote.Struct.Tuple.{Tuple}
use denote.Triple.Call.{calls_at}
use denote.Triple.Entry.{alive}
use denote.Triple.Walked.{Stays, stay_dropped, walk_of, Goes-dropped}
use Rattle.core.proofs.alloc.Calls.{Al, seen, Takes, at_takes, Answered, Takes-goes, Takes-gives, answers}
use Rattle.core.proofs.alloc.Shapes.{after, head, arm_body}
use Rattle.core.proofs.atomic.Steps.{fm}
use Rattle.core.proofs.option.Made.{Some-of, none_of}
use Rattle.std_alloc.proofs.Pairs.{pair_of, pair_val}
use Rattle.host_mem.specs.Ownership.{bytes_type}
use Rattle.host_mem.proofs.Values.{run_val, run_own, run_made, mark_val, mark_own, mark_made, goes_on}
use Rattle.host_mem.specs.contracts.raw_bytes.memory.Room as Room
use Rattle.host_mem.specs.contracts.raw_bytes.memory.Right as Right
use Rattle.host_mem.specs.contracts.raw_bytes.memory.Room.new as f
use Rattle.host_mem.proofs.raw_bytes.memory.Room.new.Statement.{statement}
use Rattle.host_mem.proofs.raw_bytes.memory.Room.new.Code as code

pub new_spec : {M : Type 1} → statement M
new_spec 𝓤 𝓛 𝓜 𝓡 wired A L g d dd met md =
    let T = f.ended A g d dd in let c = f.clauses A g d dd 𝓛 𝓜.mem 𝓡.returns in let 𝓣 = tables 𝓤 𝓛.H 𝓜 𝓡 𝓡.env in let C = 𝓣.C in let Λ = 𝓣.Λ in
    let args : Args = bounded (a_type ∷ []) (A, tt) (dcons d (dcons dd dnil)) in let fn : Fn = inst_fn args code.function in
    let Handle : RattleType = param 0 A in let handle = RefOf (0 ∷ []) tt (plain (λ _. Handle)) (λ _. tt) in
    let stayed : Stays T.signature.params T.kept = (stay_dropped handle yes, (stay_dropped (plain (λ _. usize)) yes, tt)) in
    let W = walk_of 𝓛 T stayed c in
    proved 𝓛 T stayed c 𝓜 𝓡 (Goes-dropped 𝓛 2 handle yes (λ κs x w. refl), (Goes-dropped 𝓛 2 (plain (λ _. usize)) yes (λ κs x w. refl), tt)) (f.Key.name args)
    fn (code.unfolded 𝓤 𝓛.H 𝓜 𝓡 wired (A, tt) d dd)
    (λ κs. (shr_vals, (uint_vals w64, tt))) (λ κs. (shr_Tells (named 0) κs.0 Handle, (uint_Tells w64, tt))) (λ κs qs bounds a gh are.
    let Z : Al = record { row = A; laws = L; g = g; d = d; drops = dd } in
    let κ = κs.0 in let q = qs.0 in let h = a.0.now in let hp = a.0.ref_ptr in let n = a.1.0 in let τ : Ty = bytes_type n in
    let vss : List Val × (List Val × Unit {0}) = (vptr hp.0 hp.1 ∷ [], (vint w64 n ∷ [], tt)) in let y : W.Ghost = ((κs, qs, bounds, a, vss), gh) in let Post = W.post y in
    let t = at_takes Z 𝓛 𝓜.mem 𝓡.returns κ q hp h n 1 τ in
    let Both : RattleType = Tuple (Room.the_row ∷ Right.the_row Handle g ∷ []) in let Out : RattleType = type_at T.signature.result κs in
    qed 𝓛 ((raw (alive 𝓛 T.signature κs qs) ⊛ ‵ (owns (types_at T.signature.params κs) a vss)) ∷ (raw (fact 𝓤 (κs.1.0 ⊑ A.lives)) ⊛ raw (fact 𝓤 (n < 2 ^ 63))) ∷ []) ∵
    move ! (1 ∷ []) $ split ! $ heard ! (κs.1.0 ⊑ A.lives) (λ within. heard ! (n < 2 ^ 63) (λ small. split ! $ move ! (1 ∷ []) $
    fsplit ! $ fsplit ! $ drop ! $ move ! (1 ∷ []) $ drop ! $ use1 𝓛 (‵ (seen Z κ hp h)) (id⊢ 𝓤 _) $ move ! (1 ∷ []) $ use1 𝓛 (‵ (flft κ q) ⊛ ‵ (flft κs.1.0 qs.1.0) ⊛ ‵ ftrue)
    (id⊢ 𝓤 _) $ split ! $ move ! (2 ∷ 0 ∷ []) $
    -- [the `&` to the handle; its token; the other token]
    let fits : n < 2 ^ 64 = are.1.0.1 in
    enter ! C Λ fn (vptr hp.0 hp.1 ∷ vint w64 n ∷ []) Post $ alloc_all ! (λ l. pass_all ! refl ((tt, tt), ((tt, record { fits = fits }), tt)) $ let En : Env 𝓤 𝓛.H = env fn.locals l in
    use2 𝓛 (raw ((Takes Z 𝓛 𝓜.mem 𝓡.returns).pre t)) (Takes-goes Z 𝓛 𝓜.mem 𝓡.returns κ q hp h (⊑_trans κ κs.1.0 A.lives bounds.0 within) n 1 τ
    (capped_is (n * 1) (omega (arith, small)) ∙ omega arith) refl fits (lit< tt)) $
    calls_at ! (fm 𝓛 𝓜 𝓡) (Takes Z 𝓛 𝓜.mem 𝓡.returns) (met.allocate dd) t (and_then ! (get ! refl) (and_then ! (get ! refl) (and_then ! (lit ! tt) (no_more !)))) (λ v.
    use1 𝓛 (later (raw (Answered Z 𝓛 𝓜.mem 𝓡.returns h τ v) ⊛ ‵ (flft κ q))) (Takes-gives Z 𝓛 𝓜.mem 𝓡.returns κ q hp h n 1 τ v) $ await ! tt $ split ! $
    answers Z ! 𝓜.mem 𝓡.returns h τ v
    (λ b o e. let p : Ptr = block_ptr b o in
    let x : (Room.the_row).Denot = record { at = p; size = n; fits = small } in let k : (Right.the_row Handle g).Denot = record { by = record {}; alloc = h; at = p; size = n } in
    let u : Val = pair_val (run_val p n) mark_val in
    -- [the room; the right; the tokens; the locals]
    move ! (2 ∷ 3 ∷ []) $ join ! $ move ! (1 ∷ 2 ∷ []) $ lands_as ! e refl (tt, (record { fits = lit< tt }, (tt, tt))) $
    first ! $ switches_on ! (get_tag ! (vrt ! refl (fld ! refl (stop !))) (whole !)) $ exec ! C Λ En (arm_body 0 (head (after 1 fn.body))) (goes_on 𝓛 C Λ En (after 2 fn.body) (at_ret En Post)) $
    sets ! (of_opd ! (get_in ! (vrt ! refl (fld ! refl (stop !))) (in_variant ! 0 0 refl refl (whole !)))) refl (tt, tt) $
    sets ! (agg ! (no_more !)) refl (tt, tt) $
    sets ! (agg ! (and_then ! (get ! refl) (and_then ! (get ! refl) (no_more !)))) refl (tt, (tt, (record { fits = fits }, tt))) $
    sets ! (agg ! (and_then ! (get ! refl) (no_more !))) refl (tt, (tt, tt)) $
    sets ! (agg ! (and_then ! (get ! refl) (and_then ! (get ! refl) (no_more !)))) refl (tt, ((tt, (record { fits = fits }, tt)), ((tt, tt), tt))) $
    sets_last ! (agg ! (and_then ! (lit ! tt) (and_then ! (get ! refl) (no_more !)))) refl (tt, (record { fits = lit< tt }, (((tt, (record { fits = fits }, tt)), ((tt, tt), tt)), tt))) $
    exec ! C Λ En (after 2 fn.body) (at_ret En Post) $
    sets ! (of_opd ! (get ! refl)) refl (tt, (record { fits = lit< tt }, (((tt, (record { fits = fits }, tt)), ((tt, tt), tt)), tt))) $
    returns ! (look_at ! 0 refl) $ free_all ! refl $
    use0 𝓛 (‵ (run_own p n (run_val p n ∷ []))) (run_made 𝓛 p n fits) $ fjoin ! $ move ! (1 ∷ []) $ use0 𝓛 (‵ (mark_own (mark_val ∷ []))) (mark_made 𝓛) $ fjoin ! $ move ! (1 ∷ 0 ∷ []) $
    use2 𝓛 (‵ (Both.own_val (x, k) (u ∷ []))) (pair_of 𝓛 (Room.the_row) (Right.the_row Handle g) x k (run_val p n) mark_val) $
    use1 𝓛 (‵ (Out.own_val (Some (x, k)) (live 1 (vcons u vnil) ∷ []))) (Some-of 𝓛 Both (x, k) u) $
    use0 𝓛 (raw (fact 𝓤 ((n ≡ n) × (n ≡ n) × (p ≡ p) × (h ≡ h)))) (fact_i 𝓤 ((n ≡ n) × (n ≡ n) × (p ≡ p) × (h ≡ h)) (emp 𝓤) (refl, refl, refl, refl)) $ nothing ! $ nothing ! $
    fjoin ! $ nothing ! $ fjoin ! $ move ! (3 ∷ 0 ∷ 2 ∷ 1 ∷ []) $
    by ! (leaves 𝓛 T stayed c y (live 1 (vcons u vnil)) (Some (x, k)) (tt, (tt, tt)) (tt, (tt, tt))))
    (λ e. join ! $ lands_as ! e refl (tt, (record { fits = lit< tt }, (tt, tt))) $
    first ! $ switches_on ! (get_tag ! (vrt ! refl (fld ! refl (stop !))) (whole !)) $ exec ! C Λ En (arm_body 1 (head (after 1 fn.body))) (goes_on 𝓛 C Λ En (after 2 fn.body) (at_ret En Post)) $
    sets_last ! (agg ! (and_then ! (lit ! tt) (no_more !))) refl (tt, (record { fits = lit< tt }, tt)) $
    exec ! C Λ En (after 2 fn.body) (at_ret En Post) $
    sets ! (of_opd ! (get ! refl)) refl (tt, (record { fits = lit< tt }, tt)) $
    returns ! (look_at ! 0 refl) $ free_all ! refl $
    use0 𝓛 (‵ (Out.own_val None (live 0 vnil ∷ []))) (none_of 𝓛 Both) $ use0 𝓛 (raw (fact 𝓤 (Unit {0}))) (fact_i 𝓤 (Unit {0}) (emp 𝓤) tt) $ nothing ! $ nothing ! $ fjoin ! $
    nothing ! $ fjoin ! $ move ! (3 ∷ 0 ∷ 2 ∷ 1 ∷ []) $
    by ! (leaves 𝓛 T stayed c y (live 0 vnil) None (tt, (tt, tt)) (tt, (tt, tt)))))))))
