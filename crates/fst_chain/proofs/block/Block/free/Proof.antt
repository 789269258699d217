-- `free` gives the block and the right to it back. Assumes `Logic`.
use Rattle.std.proofs.Common.{◌≡◌, List, [], ◌∷◌, ◌++◌, refl, ap, ◌∙◌, w64}
use mir.Syntax.{Ty, Fn, Args, a_type, dcons, dnil, named, place}
use mir.Val.{Val, vint, vptr, vunit}
use mir.MapTy.{inst_fn}
use base.Logic.{SProp, never, id⊢, fst∗}
use base.Fml.{Lft, Share, ftrue, flft}
use prog.Wp.{Env, WpFn, Wp, after_seq, after_block}
use contract.BorrowLft.{◌⊑◌, ⊑_trans}
use contract.Monad.{fact}
use contract.Running.{tables}
use types.Logic.{sem}
use types.Kit.{‵, raw, ◌⊛◌, given, later, prop, settles, at_ret, ◌$◌, ◌∵◌, !, qed, by, move, drop, use1, use3, split, split3, join, learn, rewrite, regoal, fsplit, fjoin, feq_i, await, any_q, post, Post as After}
use types.Part.{whole, sub}
use types.Run.{stop, fld, unit_lit, of_opd, no_more, and_then, first, blocks, exec, returns, enter}
use types.ByLocal.{alloc_all, pass_all, free_all, look_at, get, get_in, sets, lands_last, env}
use denote.RattleType.{RattleType, owns}
use denote.RawPtr.{Ptr, block_ptr, null_ptr, in_a_block}
use denote.Param.{param, bounded}
use denote.Signature.{plain}
use denote.Exit.{yes, no}
use denote.Ref.{ShrRef}
use denote.Builtin.{usize, RefOf}
use denote.Steps.{nothing, heard}
use denote.Triple.Call.{calls_at_last}
use denote.Triple.Walked.{Stays, stay_dropped, walk_of, Goes-dropped}
use Rattle.core.specs.Allocator.{HasLayout, owned_block}
use Rattle.core.proofs.alloc.Calls.{Al, seen, Goes-blank, Gives, at_gives, Gives-goes, Gives-Gives}
use Rattle.core.proofs.alloc.Shapes.{after}
use Rattle.core.proofs.atomic.Steps.{fm}
use Rattle.std.proofs.raw_atomic.Walks.{proved_at, leaves}
use Rattle.fst_chain.specs.Blocks.{node_type}
use Rattle.fst_chain.proofs.Values.{block_val, block_told}
use Rattle.fst_chain.specs.contracts.block.Block as B
use Rattle.fst_chain.specs.contracts.block.Block.free.{ended, clauses}
use Rattle.fst_chain.specs.contracts.block.Block.free.Key.{name as #self}
use Rattle.fst_chain.proofs.block.Block.free.Statement.{statement}
use Rattle.fst_chain.proofs.block.Block.free.Code as code

pub free_spec : {M : Type 1} → statement M
free_spec 𝓤 𝓛 𝓜 𝓡 wired X A L LA g d dd met md =
    let H = 𝓛.H in let 𝓣 = tables 𝓤 H 𝓜 𝓡 𝓡.env in let C = 𝓣.C in let Λ = 𝓣.Λ in let R : RattleType = param 0 X in let Z : RattleType = param 1 A in
    let En = ended X A g d dd in let c = clauses X A g d dd 𝓛 𝓜.mem 𝓡.returns in let Bl : RattleType = B.the_row R Z g in
    let inst : Args = bounded (a_type ∷ a_type ∷ []) (X, (A, tt)) (dcons d (dcons dd dnil)) in let fn : Fn = inst_fn inst code.function in
    let Handle = RefOf (0 ∷ []) tt (plain (λ _. Z)) (λ _. tt) in let word = stay_dropped (plain (λ _. usize)) yes in let goes = Goes-dropped 𝓛 3 (plain (λ _. usize)) yes (λ κs x f. refl) in
    let hs : Stays En.signature.params En.kept = (stay_dropped (plain (λ _. Bl)) no, (stay_dropped Handle yes, (word, (word, tt)))) in
    let Y : Al = record { row = A; laws = LA; g = g; d = d; drops = dd } in
    proved_at 𝓛 En hs c 𝓜 𝓡 (Goes-blank 𝓛 3 (plain (λ _. Bl)) no (λ κs x f. tt), (Goes-dropped 𝓛 3 Handle yes (λ κs x f. refl), (goes, (goes, tt)))) (#self inst) fn (code.unfolded 𝓤 H 𝓜 𝓡 wired (X, (A, tt)) d dd) (λ z are.
    let κs = z.0.0 in let qs = z.0.1 in let κ : Lft = κs.0 in let q : Share = qs.0 in let x = z.0.3.0 in let h = z.0.3.1.0.now in let at = z.0.3.1.0.ref_ptr in
    let size = z.0.3.1.1.0 in let align = z.0.3.1.1.1.0 in let n = x.len in let τ : Ty = node_type R n in
    let Post : Val → SProp 𝓤 = (walk_of 𝓛 En hs c).post z in let Asked : Type 0 = (x.alloc ≡ h) × HasLayout τ size align in
    let others = ‵ (flft κs.1.0 qs.1.0) ⊛ ‵ (flft κs.1.1.0 qs.1.1.0) ⊛ ‵ ftrue in let told = block_told x.ptr n z.0.4.0 are.0.0 in
    qed 𝓛 (((‵ (flft κ q) ⊛ others) ⊛ ‵ (owns (Bl ∷ ShrRef (named 0) κ Z ∷ usize ∷ usize ∷ []) z.0.3 z.0.4)) ∷ raw ((c κs z.0.3).requires z.1) ∷ []) ∵
    move ! (1 ∷ []) $ use1 𝓛 (raw (fact 𝓤 (κs.1.0 ⊑ X.lives)) ⊛ raw (fact 𝓤 (κs.1.1.0 ⊑ A.lives)) ⊛ raw (fact 𝓤 Asked)) (id⊢ 𝓤 _) $ split3 ! $ drop ! $ heard ! (κs.1.1.0 ⊑ A.lives) (λ le. heard ! Asked (λ asked.
    split ! $ split ! $ move ! (2 ∷ []) $ fsplit ! $ fsplit ! $ drop ! $ rewrite ! 0 (λ (a : A.Denot). ‵ (owned_block (g.dealloc_token a) τ x.ptr)) asked.0 refl $
    in_a_block ! x.ptr (λ r. owned_block (g.dealloc_token h) τ r) (fst∗ 𝓤 (never 𝓤) (sem 𝓛 (g.dealloc_token h τ null_ptr))) (λ b o placed.
    -- [the block; the other arguments; the token; the other tokens]
    move ! (1 ∷ []) $ fsplit ! $ fsplit ! $ drop ! $ move ! (1 ∷ []) $ drop ! $ use1 𝓛 (‵ (seen Y κ at h)) (id⊢ 𝓤 _) $
    -- [the handle; the block; the token; the other tokens]
    move ! (0 ∷ 2 ∷ []) $ join ! $ move ! (1 ∷ []) $ fsplit ! $
    let f2 = are.1.1.0.1 in let f3 = are.1.1.1.0.1 in let y = at_gives Y 𝓛 𝓜.mem 𝓡.returns κ q at h b o size align τ in
    regoal ! (λ (us : List Val). prop (WpFn 𝓤 H C Λ fn us Post)) (λ i. (told.0 ∙ ap (λ (r : Ptr). block_val r n ∷ []) placed) i ++ (are.1.0.0 i ++ (are.1.1.0.0 i ++ (are.1.1.1.0.0 i ++ [])))) refl $
    enter ! C Λ fn (block_val (block_ptr b o) n ∷ vptr at.0 at.1 ∷ vint w64 size ∷ vint w64 align ∷ []) Post $
    alloc_all ! (λ l. pass_all ! refl ((tt, (tt, (record { fits = told.1 }, (tt, tt)))), ((tt, tt), ((tt, record { fits = f2 }), ((tt, record { fits = f3 }), tt)))) $ let Ev : Env 𝓤 H = env fn.locals l in
    let Then : After 𝓤 H = any_q (after_block 𝓤 H (post 𝓤 H (any_q (after_seq 𝓤 H (Wp 𝓤 H C Λ Ev (after 2 fn.body) (post 𝓤 H (at_ret Ev Post))) (post 𝓤 H (at_ret Ev Post)))))) in
    sets ! (of_opd ! (get_in ! (fld ! refl (stop !)) (sub ! 0 refl (whole !)))) refl (tt, tt) $ first ! $ blocks ! $
    -- [the room; the right; the handle and the token; the other tokens]
    move ! (0 ∷ 1 ∷ 2 ∷ []) $
    use3 𝓛 (raw ((Gives Y 𝓛 𝓜.mem 𝓡.returns).pre y)) (Gives-goes Y 𝓛 𝓜.mem 𝓡.returns κ q at h (⊑_trans κ κs.1.1.0 A.lives z.0.2.0 le) b o size align τ asked.1.0 asked.1.1 f2 f3) $
    calls_at_last ! (fm 𝓛 𝓜 𝓡) (Gives Y 𝓛 𝓜.mem 𝓡.returns) (met.deallocate dd) y (and_then ! (get ! refl) (and_then ! (get ! refl) (and_then ! (get ! refl) (and_then ! (get ! refl) (no_more !))))) (λ v.
    use1 𝓛 (later (given (v ≡ vunit) (‵ (flft κ q)))) (Gives-Gives Y 𝓛 𝓜.mem 𝓡.returns κ q at h b o size align τ v) $ await ! tt $ learn ! (λ e. join ! $ regoal ! (λ (u : Val). settles Ev (place 6 []) u Then) e refl $ lands_last ! refl (tt, tt) $
    exec ! C Λ Ev (after 2 fn.body) (at_ret Ev Post) $ sets ! (of_opd ! (unit_lit !)) refl (tt, tt) $ returns ! (look_at ! 0 refl) $ free_all ! refl $
    feq_i ! (List Val) (vunit ∷ []) (vunit ∷ []) refl $ nothing ! $ nothing ! $ nothing ! $ fjoin ! $ nothing ! $ fjoin ! $ nothing ! $ fjoin ! $ nothing ! $ fjoin ! $ move ! (3 ∷ 0 ∷ 2 ∷ 1 ∷ []) $
    by ! (leaves 𝓛 En hs c z vunit tt (tt, (tt, (tt, (tt, tt)))) (tt, (tt, (tt, (tt, tt))))))))))))
