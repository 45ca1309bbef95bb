-- `zeroed` writes the bytes one by one, from the first on.
use Rattle.std.proofs.Common.{◌≡◌, ℕ, suc, ◌+◌, ◌-◌, ◌^◌, ◌<◌, ◌≤◌, List, [], ◌∷◌, ◌++◌, length, replicate, refl, sym, ap, subst, ◌∙◌, arith, lit<, ltb→lt, nltb→le, w8, w64}
use Rattle.std.proofs.raw_atomic.Walks.{proved_at}
use mathlib.Core.WellFounded.InvImage
use seplogic.Ra.Ura.{Ura}
use base.Fml.{ftrue, froom}
use base.Fraction.{full_share}
use base.Logic.{SProp, ent, id⊢}
use lib.ListN.{length-replicate}
use lib.WfN.{lt-wf_rel}
use mir.Syntax.{Fn, Body, ty_int}
use mir.Val.{Val, vint, vptr}
use prog.Memory.{Memory}
use prog.Routine.{Routine}
use prog.Wp.{Env, Out, Wp, WpFn, Tables, at_return, after_seq, after_block, after_turn}
use types.Kit.{Item, Sq, any_q, runs, ‵, ◌⊛◌, prop, at_ret, ◌$◌, ◌∵◌, !, qed, by, move, keep, drop, use0, use1, use2, split, rewrite, regoal, fsplit, fjoin, feq_i, suffices, done}
use types.Logic.{Logic, sem}
use types.Part.{whole, sub, agg}
use types.Run.{stop, fld, lit, bin, of_opd, no_more, and_then, init, assigns_last, first, blocks, skips, jumps, branches, exec, returns, enter, loops, again, Below}
use types.ByLocal.{alloc_all, pass_all, free_all, look_at, get, get_in, through, sets, sets_last, is, env, holding, forget_but}
use contract.Monad.{Fun}
use contract.Running.{tables, tables_of}
use denote.Array.{Array}
use denote.Builtin.{u8}
use denote.Memory.{part_at}
use denote.RattleType.{owns}
use denote.RawPtr.{Ptr, block_ptr, in_a_block}
use denote.RawPtr.Bytes.{bytes, bytes_whole}
use denote.Signature.{plain}
use denote.Steps.{nothing}
use denote.Triple.Clauses.{Clauses}
use denote.Triple.Walked.{Stays, stay_dropped, walk_of, ends_at}
use Rattle.core.proofs.alloc.Calls.{Goes-blank}
use Rattle.core.proofs.alloc.Shapes.{after, head}
use Rattle.core.proofs.mem.Facts.{says_two}
use Rattle.host_mem.specs.Ownership.{bytes_type, room_of}
use Rattle.host_mem.proofs.Filling.{zeros, around, next_out, next_in}
use Rattle.host_mem.proofs.Values.{run_val, run_own, run_told, run_made}
use Rattle.host_mem.specs.contracts.raw_bytes.memory.Bytes as Bytes
use Rattle.host_mem.specs.contracts.raw_bytes.memory.Room as Room
use Rattle.host_mem.specs.contracts.raw_bytes.memory.Room.zeroed as f
use Rattle.host_mem.proofs.raw_bytes.memory.Room.zeroed.Statement.{statement}
use Rattle.host_mem.proofs.raw_bytes.memory.Room.zeroed.Code as code

abbrev fn : Fn
fn = code.function

abbrev turn : Body
turn = head (head (head (after 3 fn.body)))

abbrev stayed : Stays f.ended.signature.params f.ended.kept
stayed = (stay_dropped (plain (λ _. Room.the_row)) f.ended.kept.0, tt)

module _ {M : Type 1} {𝓤 : Ura M} (𝓛 : Logic 𝓤) (at_mem : Memory → SProp 𝓤) (run : Routine → Fun 𝓤) (𝓣 : Tables 𝓤 𝓛.H) where
  open 𝓛 use {H}

  abbrev c : Clauses 𝓤 f.ended
  c = f.clauses 𝓛 at_mem run

  module _ (z : (walk_of 𝓛 f.ended stayed c).Ghost) (b o : ℕ) (at : z.0.3.0.at ≡ block_ptr b o) (fits : z.0.3.0.size < 2 ^ 64) where
    abbrev n : ℕ
    n = z.0.3.0.size

    abbrev Post : Val → SProp 𝓤
    Post = (walk_of 𝓛 f.ended stayed c).post z

    ends : ent 𝓤 (sem 𝓛 (bytes full_share (replicate n 0) b o)) (Post (run_val (block_ptr b o) n))
    ends =
        let p : Ptr = block_ptr b o in let filled : (Bytes.the_row).Denot = record { at = p; size = n; items = replicate n 0; fits = z.0.3.0.fits } in
        qed 𝓛 (‵ (bytes full_share (replicate n 0) b o) ∷ []) ∵ feq_i ! ℕ (length (replicate n 0)) n (length-replicate n 0) $ fjoin ! $
        use1 𝓛 (‵ (part_at (Array u8 n) full_share (replicate n 0) b o)) (bytes_whole 𝓛 full_share n (replicate n 0) b o) $
        use0 𝓛 (‵ (run_own p n (run_val p n ∷ []))) (run_made 𝓛 p n fits) $ fjoin ! $
        suffices ! _ (ends_at 𝓛 f.ended stayed c z (run_val p n) filled (tt, tt) (tt, tt)) $ says_two ! (refl, (sym at, refl)) $
        nothing ! $ nothing ! $ fjoin ! $ nothing ! $ done !

    -- how many are written
    abbrev Written : Type 0
    Written = (i : ℕ) × (i ≤ n)

    abbrev Nearer : Written → Written → Type 0
    Nearer t u = n - t.0 < n - u.0

    module _ (l : ℕ → ℕ) where
      abbrev En : Env 𝓤 H
      En = env fn.locals l

      abbrev Now : Written → List (Item 𝓤)
      Now t = ‵ (zeros b o n t.0) ∷ holding 𝓛 En ((1, run_val (block_ptr b o) n) ∷ (2, vptr b o) ∷ (3, vint w64 n) ∷ (4, vint w64 t.0) ∷ [])

      abbrev Turned : Written → Out → SProp 𝓤
      Turned t = after_turn 𝓤 H (Below 𝓛 Nearer Now t) (after_block 𝓤 H (after_seq 𝓤 H (Wp 𝓤 H 𝓣.C 𝓣.Λ En (after 4 fn.body) (at_return 𝓤 H En Post)) (at_return 𝓤 H En Post)))

      turns : (t : Written) → Sq 𝓛 (Now t) (runs 𝓣.C 𝓣.Λ En turn (any_q (Turned t)))
      unfolding after_turn
      turns t =
          let i : ℕ = t.0 in let le : i ≤ n = t.1 in
          sets ! (bin ! (get ! refl) (get ! refl) tt) refl (tt, tt) $ first ! $ branches ! (get ! refl)
          (λ less. let inside : i < n = ltb→lt i n less in let grows : i + 1 < 2 ^ 64 = omega (arith, inside, fits) in let next : i + 1 ≡ suc i = omega arith in
          skips ! $ exec ! 𝓣.C 𝓣.Λ En (after 2 turn) (any_q (Turned t)) $ first ! $ blocks ! $
          sets ! (bin ! (get ! refl) (get ! refl) tt) refl (tt, tt) $
          use1 𝓛 (‵ (froom (ty_int w8) b (i + o)) ⊛ ‵ (around b o n i)) (next_out b o n 𝓛 i inside) $ split ! $
          assigns_last ! (of_opd ! (lit ! tt)) (through ! refl (stop !)) (init ! 0 refl (tt, record { fits = lit< tt })) $
          exec ! 𝓣.C 𝓣.Λ En (after 3 turn) (any_q (Turned t)) $ sets_last ! (is ! (bin ! (get ! refl) (lit ! tt) (record { fits = grows })) (ap (vint w64) next)) refl (
            tt,
            record { fits = subst (λ (k : ℕ). k < 2 ^ 64) next grows },
          ) $
          use2 𝓛 (‵ (zeros b o n (suc i))) (next_in b o n 𝓛 i inside) $ forget_but ! En (1 ∷ 2 ∷ 3 ∷ 4 ∷ []) refl $
          again ! Nearer Now t (suc i, omega (arith, inside)) (omega (arith, inside)))
          (λ over. let past : n ≤ i = nltb→le i n over in let all : i ≡ n = omega (arith, past, le) in
          jumps ! $ exec ! 𝓣.C 𝓣.Λ En (after 4 fn.body) (at_ret En Post) $
          sets ! (agg ! (and_then ! (get ! refl) (and_then ! (get ! refl) (no_more !)))) refl (tt, (tt, (record { fits = fits }, tt))) $
          rewrite ! 0 (λ (k : ℕ). ‵ (zeros b o n k)) all refl $ fsplit ! $ move ! (1 ∷ []) $ drop ! $
          returns ! (look_at ! 0 refl) $ free_all ! refl $ by ! ends)

    fills : ent 𝓤 (sem 𝓛 (froom (bytes_type n) b o)) (WpFn 𝓤 H 𝓣.C 𝓣.Λ fn (run_val (block_ptr b o) n ∷ []) Post)
    fills =
        let count : n ≡ n - 0 = omega arith in let start : o ≡ 0 + o = omega arith in
        qed 𝓛 (‵ (froom (bytes_type n) b o) ∷ []) ∵ rewrite ! 0 (λ (k : ℕ). ‵ (froom (bytes_type k) b o)) count refl $
        rewrite ! 0 (λ (k : ℕ). ‵ (froom (bytes_type (n - 0)) b k)) start refl $ nothing ! $ fjoin ! $
        enter ! 𝓣.C 𝓣.Λ fn (run_val (block_ptr b o) n ∷ []) _ $ alloc_all ! (λ l. pass_all ! refl ((tt, (tt, (record { fits = fits }, tt))), tt) $
        sets ! (of_opd ! (get_in ! (fld ! refl (stop !)) (sub ! 0 refl (whole !)))) refl (tt, tt) $
        sets ! (of_opd ! (get_in ! (fld ! refl (stop !)) (sub ! 1 refl (whole !)))) refl (tt, record { fits = fits }) $
        sets ! (of_opd ! (lit ! tt)) refl (tt, record { fits = lit< tt }) $
        first ! $ blocks ! $ loops ! 𝓣 Nearer (InvImage.wf (λ (t : Written). n - t.0) lt-wf_rel.wf) (Now l) (turns l) (0, omega arith))

pub zeroed_spec : {M : Type 1} → statement M
unfolding tables_of
zeroed_spec 𝓤 𝓛 𝓜 𝓡 wired =
    let 𝓣 : Tables 𝓤 𝓛.H = tables_of 𝓤 𝓛.H 𝓜 (tables 𝓤 𝓛.H 𝓜 𝓡 𝓡.env) in let c = f.clauses 𝓛 𝓜.mem 𝓡.returns in
    proved_at 𝓛 f.ended stayed c 𝓜 𝓡 (Goes-blank 𝓛 0 (plain (λ _. Room.the_row)) f.ended.kept.0 (λ κs x w. tt), tt) f.Key.name fn (code.unfolded 𝓤 𝓛.H 𝓜 𝓡 wired) (λ z are.
    let x = z.0.3.0 in let told = run_told x.at x.size z.0.4.0 are.0.0 in let Post = (walk_of 𝓛 f.ended stayed c).post z in
    qed 𝓛 ((‵ ftrue ⊛ ‵ (owns (Room.the_row ∷ []) z.0.3 z.0.4)) ∷ ‵ ftrue ∷ []) ∵
    split ! $ move ! (1 ∷ []) $ fsplit ! $ fsplit ! $ drop ! $ keep ! (0 ∷ []) $
    in_a_block ! x.at (λ p. room_of p x.size) (id⊢ 𝓤 _) (λ b o at.
    regoal ! (λ (us : List Val). prop (WpFn 𝓤 𝓛.H 𝓣.C 𝓣.Λ fn us Post)) (λ i. (told.0 ∙ ap (λ (p : Ptr). run_val p x.size ∷ []) at) i ++ []) refl $
    by ! (fills 𝓛 𝓜.mem 𝓡.returns 𝓣 z b o at told.1)))
