-- `take` reads a node out of its place, which is room again. Assumes `Logic`.
use Rattle.std.proofs.Common.{◌≡◌, ℕ, ◌<◌, List, [], ◌∷◌, ◌++◌, length, slice_index_or, refl, ap, ◌∙◌, w64}
use mir.Syntax.{a_type, dcons, dnil, named}
use mir.Val.{Val, vptr, vint, vstruct, vcons, vnil}
use mir.MapTy.{inst_fn}
use base.Fraction.{full_share}
use base.Logic.{SProp, never, id⊢, fst∗}
use base.Fml.{ftrue, flft, froom, fat}
use prog.Wp.{WpFn}
use contract.BorrowLft.{◌⊑◌}
use contract.Monad.{fact}
use contract.Running.{tables}
use types.Logic.{sem}
use types.Kit.{‵, raw, ◌⊛◌, some, prop, at_ret, ◌$◌, ◌∵◌, !, qed, by, move, keep, drop, use0, use1, split, split3, join, pick, rewrite, regoal, fsplit, fsplit3, fjoin, fjoin3, feq_i, feq_l, flt_l}
use types.Part.{whole, sub, agg}
use types.Run.{look, stop, fld, load, of_opd, no_more, and_then, first, blocks, exec, returns, enter}
use types.ByLocal.{alloc_all, pass_all, free_all, look_at, get, get_in, through, sets, sets_last, is, env}
use denote.RattleType.{RattleType, owns}
use denote.RawPtr.{Ptr, block_ptr, null_ptr, ptr_val, in_a_block}
use denote.Param.{param, bounded, layout}
use denote.Param.Laws.{param_laws}
use denote.Signature.{plain}
use denote.Exit.{yes}
use denote.Builtin.{usize}
use denote.Ref.{MutRef}
use denote.Struct.Struct.{as_fields}
use denote.Steps.{only, nothing, heard, opens, closes}
use denote.Triple.Walked.{Stays, stay_dropped, stay_ref, walk_of, Goes-dropped, Goes-ref}
use borrow.Table.OneValue.{part_out}
use Rattle.std.proofs.raw_atomic.Walks.{proved_at, leaves}
use Rattle.std.proofs.VecSteps.Shapes.{after}
use Rattle.std_alloc.proofs.RawLayout.{as_raw}
use Rattle.std_collections.proofs.TreeMemory.Lodging.{tells, two_made}
use Rattle.fst_chain.specs.Blocks.{way_back}
use Rattle.fst_chain.specs.Held.{node_owns, nodes_own, place_at, tail_at}
use Rattle.fst_chain.specs.Records.{without}
use Rattle.fst_chain.proofs.Values.{room_val, room_fields, room_made}
use Rattle.fst_chain.proofs.Nodes.{item_in, item_in-is, Besides, node_out, node_gone}
use Rattle.fst_chain.proofs.Places.{word, word-good, place_had, stated}
use Rattle.fst_chain.specs.contracts.heap.Heap as C
use Rattle.fst_chain.specs.contracts.heap.Place as Pl
use Rattle.fst_chain.specs.contracts.room.Room as Rm
use Rattle.fst_chain.specs.contracts.heap.Heap.take.{ended, clauses}
use Rattle.fst_chain.specs.contracts.heap.Heap.take.Key.{name as #self}
use Rattle.fst_chain.proofs.heap.Heap.take.Statement.{statement}
use Rattle.fst_chain.proofs.heap.Heap.take.Code as code

pub take_spec : {M : Type 1} → statement M
take_spec 𝓤 𝓛 𝓜 𝓡 wired X A L LA g d dd allocator glue =
    let H = 𝓛.H in let 𝓣 = tables 𝓤 H 𝓜 𝓡 𝓡.env in let R : RattleType = param 0 X in let Z : RattleType = param 1 A in
    let En = ended X A g d dd in let c = clauses X A g d dd 𝓛 𝓜.mem 𝓡.returns in let Hp : RattleType = C.the_row R Z g in let Ro : RattleType = Rm.the_row R Z g in
    let inst = bounded (a_type ∷ a_type ∷ []) (X, (A, tt)) (dcons d (dcons dd dnil)) in let fn = inst_fn inst code.function in
    let hs : Stays En.signature.params En.kept = (stay_ref (0 ∷ []) tt (plain (λ _. Hp)), (stay_dropped (plain (λ _. Pl.the_row)) yes, (stay_dropped (plain (λ _. usize)) yes, tt))) in
    proved_at 𝓛 En hs c 𝓜 𝓡 (Goes-ref 𝓛 3 0 tt (plain (λ _. Hp)), (Goes-dropped 𝓛 3 (plain (λ _. Pl.the_row)) yes (λ κs x f. refl), (Goes-dropped 𝓛 3 (plain (λ _. usize)) yes (λ κs x f. refl), tt)))
    (#self inst) fn (code.unfolded 𝓤 H 𝓜 𝓡 wired (X, (A, tt)) d dd) (λ z are.
    let κs = z.0.0 in let qs = z.0.1 in let κ = κs.0 in let q = qs.0 in let self = z.0.3.0 in let at = z.0.3.1.0 in let i = z.0.3.1.1.0 in
    let rb = self.ref_ptr.0 in let ro = self.ref_ptr.1 in let h = self.now in let token = g.dealloc_token h.alloc in let t : Ptr × ℕ = tail_at h.tails i in
    let Post : Val → SProp 𝓤 = (walk_of 𝓛 En hs c).post z in let Asks : Type 0 = (i < length h.items) × (at.ptr ≡ place_at h.places i) in
    let others = ‵ (flft κs.1.0 qs.1.0) ⊛ ‵ (flft κs.1.1.0 qs.1.1.0) ⊛ ‵ ftrue in
    qed 𝓛 (((‵ (flft κ q) ⊛ others) ⊛ ‵ (owns (MutRef (named 0) κ Hp ∷ Pl.the_row ∷ usize ∷ []) z.0.3 z.0.4)) ∷ raw ((c κs z.0.3).requires z.1) ∷ []) ∵
    move ! (1 ∷ []) $ use1 𝓛 (raw (fact 𝓤 (κs.1.0 ⊑ X.lives)) ⊛ raw (fact 𝓤 (κs.1.1.0 ⊑ A.lives)) ⊛ raw (fact 𝓤 Asks)) (id⊢ 𝓤 _) $ split3 ! $ drop ! $ drop ! $ heard ! Asks (λ asked.
    split ! $ split ! $ move ! (2 ∷ []) $ fsplit ! $ fsplit3 ! $ feq_l ! (λ e0. move ! (2 ∷ []) $ fsplit ! $ place_had ! at z.0.4.1.0 (λ e1. fsplit ! $ fsplit ! $ feq_l ! (λ e2. flt_l ! (λ fits. drop ! $
    -- [obs; the borrow; the token; the other tokens]
    regoal ! (λ (us : List Val). prop (WpFn 𝓤 H 𝓣.C 𝓣.Λ fn us Post)) (λ j. e0 j ++ (e1 j ++ (e2 j ++ []))) refl $
    enter ! 𝓣.C 𝓣.Λ fn (vptr rb ro ∷ word at.ptr ∷ vint w64 i ∷ []) Post $ alloc_all ! (λ l. pass_all ! refl ((tt, tt), (word-good at.ptr, ((tt, record { fits = fits }), tt))) $
    let Ev = env fn.locals l in let lt = asked.0 in let x : X.Denot = item_in h.items i lt in
    let new : Hp.Denot = record h { places = without h.places i; tails = without h.tails i; items = without h.items i } in
    opens ! tt Hp {h = h} rb ro (λ vs. move ! (1 ∷ []) $ fsplit ! $ move ! (1 ∷ []) $
    use1 𝓛 (‵ (node_owns token R (place_at h.places i) t x) ⊛ ‵ (Besides token R i h.places h.tails h.items)) (node_out token R 𝓛 i h.places h.tails h.items lt) $ split ! $
    move ! (1 ∷ []) $ use1 𝓛 (‵ (nodes_own token R new.places new.tails new.items)) (node_gone token R 𝓛 i h.places h.tails h.items) $
    move ! (2 ∷ 0 ∷ []) $ fjoin ! $ move ! (2 ∷ 0 ∷ 3 ∷ 4 ∷ 5 ∷ []) $ closes ! tt Hp new vs rb ro $ move ! (3 ∷ []) $
    in_a_block ! (place_at h.places i) (λ p. node_owns token R p t x) (fst∗ 𝓤 (never 𝓤) (sem 𝓛 (way_back token R null_ptr t.0 t.1))) (λ b o e. fsplit ! $
    use1 𝓛 (some (λ (v : Val). ‵ (fat full_share (layout X) b o v) ⊛ ‵ (R.own_val x (v ∷ [])))) (part_out 𝓛 R refl full_share x b o) $ pick ! (λ v₀. split ! $ move ! (1 ∷ []) $
    tells ! R (param_laws 0 X L) x (v₀ ∷ []) (λ v ev gv. rewrite ! 1 (λ (w : Val). ‵ (fat full_share (layout X) b o w)) (ap only ev) refl $
    -- [the value; its cell; the way back; obs; the borrow; the token; the other tokens]
    let p : Ptr = block_ptr b o in let rv : Val = room_val p in let room : Ro.Denot = record { ptr = p; mark = record {}; alloc = h.alloc; tail = t.0; len = t.1 } in
    let all : Val = vstruct (vcons v (vcons rv vnil)) in let good = as_fields (layout R ∷ layout Ro ∷ []) (v ∷ rv ∷ []) (gv, ((tt, (tt, (tt, tt))), tt)) in
    sets ! (is ! (of_opd ! (get_in ! (fld ! refl (stop !)) (sub ! 0 refl (whole !)))) (ap ptr_val (asked.1 ∙ e))) refl (tt, tt) $ sets ! (agg ! (no_more !)) refl (tt, tt) $ first ! $ blocks ! $
    sets ! (of_opd ! (get ! refl)) refl (tt, tt) $ sets ! (of_opd ! (load ! (through ! refl (stop !)) (look ! 1 refl))) refl gv $ sets ! (of_opd ! (get ! refl)) refl gv $
    sets ! (agg ! (and_then ! (get ! refl) (and_then ! (get ! refl) (no_more !)))) refl (tt, (tt, (tt, tt))) $ sets_last ! (agg ! (and_then ! (get ! refl) (and_then ! (get ! refl) (no_more !)))) refl good $
    exec ! 𝓣.C 𝓣.Λ Ev (after 3 fn.body) (at_ret Ev Post) $ sets ! (of_opd ! (get ! refl)) refl good $ returns ! (look_at ! 0 refl) $ free_all ! refl $
    move ! (1 ∷ []) $ use1 𝓛 (‵ (froom (layout X) b o)) (𝓛.laws.at_room (layout X) b o v) $ as_raw ! (layout X) b o $ move ! (0 ∷ 2 ∷ []) $ fjoin ! $
    use0 𝓛 (‵ (room_fields p (rv ∷ []))) (room_made 𝓛 p) $ fjoin ! $ move ! (1 ∷ 0 ∷ []) $ two_made ! R Ro x room v rv $
    -- [the pair; obs; the borrow; the token; the other tokens]
    move ! (1 ∷ 2 ∷ []) $ feq_i ! (List Val) z.0.4.0 (vptr rb ro ∷ []) e0 $ fjoin3 ! $ move ! (2 ∷ 3 ∷ []) $ join ! $
    stated ! (new.items ≡ without h.items i) refl $ stated ! (new.tails ≡ without h.tails i) refl $ join ! $ stated ! (new.places ≡ without h.places i) refl $ join ! $ stated ! (◌≡◌ {A = Ptr × ℕ} (t.0, t.1) t) refl $ join ! $
    stated ! (x ≡ slice_index_or h.items i x) (item_in-is h.items i lt x) $ join ! $ stated ! ((h.alloc ≡ h.alloc) × (h.alloc ≡ h.alloc)) (refl, refl) $ join ! $
    nothing ! $ nothing ! $ fjoin ! $ nothing ! $ fjoin ! $ move ! (3 ∷ 0 ∷ []) $ fjoin ! $ keep ! (2 ∷ 0 ∷ 3 ∷ 1 ∷ []) $ by ! (leaves 𝓛 En hs c z all (x, room) (new, (tt, (tt, tt))) (tt, (tt, (tt, tt)))))))))))))))
