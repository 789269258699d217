-- `put` writes a node into its room. Assumes `Logic`.
use Rattle.std.proofs.Common.{◌≡◌, ℕ, List, [], ◌∷◌, ◌++◌, refl, ap, ◌∙◌}
use mir.Syntax.{a_type, dcons, dnil, named}
use mir.Val.{Val, vptr}
use mir.MapTy.{inst_fn}
use base.Fraction.{full_share}
use base.Logic.{SProp, never, id⊢, fst∗}
use base.Fml.{ftrue, flft}
use prog.Wp.{WpFn}
use contract.BorrowLft.{◌⊑◌}
use contract.Monad.{fact}
use contract.Running.{tables}
use types.Logic.{sem}
use types.Kit.{‵, raw, ◌⊛◌, prop, at_ret, ◌$◌, ◌∵◌, !, qed, by, move, keep, drop, use1, use2, split, split3, join, rewrite, regoal, fsplit, fsplit3, fjoin, fjoin3, feq_i, feq_l}
use types.Part.{whole, sub, agg}
use types.Run.{stop, fld, init, of_opd, no_more, and_then, assigns_last, first, blocks, exec, returns, enter}
use types.ByLocal.{alloc_all, pass_all, free_all, look_at, get, get_in, through, sets, env}
use denote.RattleType.{RattleType, owns}
use denote.Memory.{part_at}
use denote.RawPtr.{Ptr, block_ptr, null_ptr, in_a_block}
use denote.Param.{param, bounded, layout}
use denote.Param.Laws.{param_laws}
use denote.Signature.{plain}
use denote.Exit.{no}
use denote.Ref.{MutRef}
use denote.Steps.{nothing, heard, opens, closes}
use denote.Triple.Walked.{Stays, stay_dropped, stay_ref, walk_of, Goes-dropped, Goes-ref}
use borrow.Table.OneValue.{part_in}
use Rattle.core.proofs.alloc.Calls.{Goes-blank}
use Rattle.std.proofs.raw_atomic.Walks.{proved_at, leaves}
use Rattle.std.proofs.VecSteps.Shapes.{after}
use Rattle.std_alloc.proofs.RawLayout.{as_written}
use Rattle.std_collections.proofs.TreeMemory.Lodging.{tells}
use Rattle.fst_chain.specs.Blocks.{way_back, room_owns}
use Rattle.fst_chain.specs.Held.{nodes_own}
use Rattle.fst_chain.proofs.Values.{room_val, room_told}
use Rattle.fst_chain.proofs.Nodes.{node_new}
use Rattle.fst_chain.proofs.Places.{word, place_made, stated}
use Rattle.fst_chain.specs.contracts.heap.Heap as C
use Rattle.fst_chain.specs.contracts.room.Room as Rm
use Rattle.fst_chain.specs.contracts.heap.Heap.put.{ended, clauses}
use Rattle.fst_chain.specs.contracts.heap.Heap.put.Key.{name as #self}
use Rattle.fst_chain.proofs.heap.Heap.put.Statement.{statement}
use Rattle.fst_chain.proofs.heap.Heap.put.Code as code

pub put_spec : {M : Type 1} → statement M
put_spec 𝓤 𝓛 𝓜 𝓡 wired X A L LA g d dd allocator glue =
    let H = 𝓛.H in let 𝓣 = tables 𝓤 H 𝓜 𝓡 𝓡.env in let R : RattleType = param 0 X in let Z : RattleType = param 1 A in
    let En = ended X A g d dd in let c = clauses X A g d dd 𝓛 𝓜.mem 𝓡.returns in let Hp : RattleType = C.the_row R Z g in let Ro : RattleType = Rm.the_row R Z g in
    let inst = bounded (a_type ∷ a_type ∷ []) (X, (A, tt)) (dcons d (dcons dd dnil)) in let fn = inst_fn inst code.function in
    let hs : Stays En.signature.params En.kept = (stay_ref (0 ∷ []) tt (plain (λ _. Hp)), (stay_dropped (plain (λ _. Ro)) no, (stay_dropped (plain (λ _. R)) no, tt))) in
    proved_at 𝓛 En hs c 𝓜 𝓡 (Goes-ref 𝓛 3 0 tt (plain (λ _. Hp)), (Goes-blank 𝓛 3 (plain (λ _. Ro)) no (λ κs x f. tt), (Goes-dropped 𝓛 3 (plain (λ _. R)) no (λ κs x f. refl), tt)))
    (#self inst) fn (code.unfolded 𝓤 H 𝓜 𝓡 wired (X, (A, tt)) d dd) (λ z are.
    let κs = z.0.0 in let qs = z.0.1 in let κ = κs.0 in let q = qs.0 in let self = z.0.3.0 in let room = z.0.3.1.0 in let node = z.0.3.1.1.0 in let t : Ptr × ℕ = (room.tail, room.len) in
    let rb = self.ref_ptr.0 in let ro = self.ref_ptr.1 in let h = self.now in let token = g.dealloc_token h.alloc in
    let Post : Val → SProp 𝓤 = (walk_of 𝓛 En hs c).post z in let Asks : Type 0 = room.alloc ≡ h.alloc in
    let others = ‵ (flft κs.1.0 qs.1.0) ⊛ ‵ (flft κs.1.1.0 qs.1.1.0) ⊛ ‵ ftrue in let told = room_told room.ptr z.0.4.1.0 are.1.0.0 in
    qed 𝓛 (((‵ (flft κ q) ⊛ others) ⊛ ‵ (owns (MutRef (named 0) κ Hp ∷ Ro ∷ R ∷ []) z.0.3 z.0.4)) ∷ raw ((c κs z.0.3).requires z.1) ∷ []) ∵
    move ! (1 ∷ []) $ use1 𝓛 (raw (fact 𝓤 (κs.1.0 ⊑ X.lives)) ⊛ raw (fact 𝓤 (κs.1.1.0 ⊑ A.lives)) ⊛ raw (fact 𝓤 Asks)) (id⊢ 𝓤 _) $ split3 ! $ drop ! $ drop ! $ heard ! Asks (λ same.
    split ! $ split ! $ move ! (2 ∷ []) $ fsplit ! $ fsplit3 ! $ feq_l ! (λ e0. move ! (2 ∷ []) $ fsplit ! $ fsplit ! $ drop ! $
    rewrite ! 0 (λ (a : A.Denot). ‵ (room_owns (g.dealloc_token a) R room.ptr room.tail room.len)) same refl $
    in_a_block ! room.ptr (λ p. room_owns token R p room.tail room.len) (fst∗ 𝓤 (never 𝓤) (sem 𝓛 (way_back token R null_ptr room.tail room.len))) (λ b o placed. fsplit ! $ as_written ! (layout X) b o $
    move ! (2 ∷ []) $ fsplit ! $ tells ! R (param_laws 0 X L) node z.0.4.1.1.0 (λ u e1 gu.
    -- [the value; nothing; the room; the way back; obs; the borrow; the token; the other tokens]
    let p : Ptr = block_ptr b o in let new : Hp.Denot = record h { places = h.places ++ p ∷ []; tails = h.tails ++ t ∷ []; items = h.items ++ node ∷ [] } in
    move ! (2 ∷ []) $ regoal ! (λ (us : List Val). prop (WpFn 𝓤 H 𝓣.C 𝓣.Λ fn us Post)) (λ i. e0 i ++ ((told ∙ ap (λ (r : Ptr). room_val r ∷ []) placed) i ++ (e1 i ++ []))) refl $
    enter ! 𝓣.C 𝓣.Λ fn (vptr rb ro ∷ room_val p ∷ u ∷ []) Post $ alloc_all ! (λ l. pass_all ! refl ((tt, tt), ((tt, (tt, (tt, tt))), (gu, tt))) $ let Ev = env fn.locals l in
    sets ! (of_opd ! (get_in ! (fld ! refl (stop !)) (sub ! 0 refl (whole !)))) refl (tt, tt) $ first ! $ blocks ! $ sets ! (of_opd ! (get ! refl)) refl (tt, tt) $ sets ! (of_opd ! (get ! refl)) refl gu $
    assigns_last ! (of_opd ! (get ! refl)) (through ! refl (stop !)) (init ! 0 refl gu) $ exec ! 𝓣.C 𝓣.Λ Ev (after 2 fn.body) (at_ret Ev Post) $
    sets ! (agg ! (and_then ! (get ! refl) (no_more !))) refl (tt, (tt, tt)) $
    use2 𝓛 (‵ (part_at R full_share node b o)) (part_in 𝓛 R refl full_share node b o u) $ move ! (0 ∷ 2 ∷ []) $ fjoin ! $
    -- [the node; nothing; obs; the borrow; the token; the other tokens]
    move ! (2 ∷ 3 ∷ 4 ∷ []) $ opens ! tt Hp {h = h} rb ro (λ vs. move ! (1 ∷ []) $ fsplit ! $ move ! (6 ∷ 1 ∷ []) $
    use2 𝓛 (‵ (nodes_own token R new.places new.tails new.items)) (node_new token R 𝓛 h.places h.tails h.items p t node) $ move ! (1 ∷ 0 ∷ []) $ fjoin ! $ move ! (1 ∷ []) $ closes ! tt Hp new vs rb ro $
    returns ! (look_at ! 0 refl) $ free_all ! refl $
    feq_i ! (List Val) z.0.4.0 (vptr rb ro ∷ []) e0 $ fjoin3 ! $ move ! (1 ∷ 3 ∷ []) $ join ! $
    place_made ! p $ stated ! (new.items ≡ h.items ++ node ∷ []) refl $ stated ! (new.tails ≡ h.tails ++ t ∷ []) refl $ join ! $ stated ! (new.places ≡ h.places ++ p ∷ []) refl $ join ! $ stated ! (new.alloc ≡ h.alloc) refl $ join ! $
    nothing ! $ nothing ! $ fjoin ! $ nothing ! $ fjoin ! $ move ! (4 ∷ 0 ∷ []) $ fjoin ! $ keep ! (3 ∷ 0 ∷ 2 ∷ 1 ∷ []) $ by ! (leaves 𝓛 En hs c z (word p) (record { ptr = p }) (new, (tt, (tt, tt))) (tt, (tt, (tt, tt)))))))))))
