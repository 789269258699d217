-- `at_mut` lends one node, and the heap follows it. Assumes `Logic`.
use Rattle.std.proofs.Common.{◌≡◌, ℕ, ◌<◌, List, [], ◌∷◌, ◌++◌, length, slice_index_or, slice_set, refl, sym, ap, ◌∙◌, subst, lit<, MutBor}
use base.Fraction.{full_share}
use mir.Syntax.{a_type, dcons, dnil, named, w64}
use mir.Val.{Val, vptr, vint, vstruct, of_list}
use mir.MapTy.{inst_fn}
use seplogic.Ra.Ura.{Ura}
use base.Logic.{SProp, ent, sep, emp, never, id⊢, fst∗}
use base.Fml.{Fml, GName, ftrue, fsep, flft}
use prog.Wp.{WpFn}
use types.Logic.{Logic, sem}
use types.Kit.{‵, raw, ◌⊛◌, some, later, at_ret, ◌$◌, ◌∵◌, !, qed, by, move, keep, drop, split, split3, join, group, fsplit, fsplit3, fjoin, fpick, fpack, pick, suffices, use0, use1, use2, await, rewrite, feq_l, flt_l, done}
use types.Run.{stop, fld, of_opd, addr, first, blocks, exec, returns, enter}
use types.ByLocal.{alloc_all, pass_all, free_all, look_at, get, get_in, through, sets, sets_last, is, env}
use types.Part.{sub, whole}
use contract.Monad.{fact, fact_i}
use contract.BorrowLft.{◌⊑◌}
use contract.Running.{tables}
use denote.Exit.{yes, no}
use denote.RattleType.{RattleType, owns}
use denote.Memory.{mem, cell_at, part_at, part_of}
use denote.Signature.{plain, mut_ref_to}
use denote.Builtin.{usize}
use denote.RawPtr.{Ptr, block_ptr, null_ptr, ptr_val, in_a_block}
use denote.Ref.{MutRef}
use denote.Follow.{follows, Part, lends_Part}
use denote.Steps.{nothing, heard, opens}
use denote.Param.{param, layout, bounded}
use denote.Triple.Walked.{Stays, stay_dropped, walk_of, Goes-dropped, Goes-spent_ref}
use Rattle.std.proofs.raw_atomic.Walks.{proved_at, leaves}
use Rattle.core.proofs.cell.Inside.{Good}
use Rattle.std.proofs.VecSteps.Shapes.{after}
use Rattle.core.specs.declared.alloc.Allocator.{Ghosts}
use denote.Struct.Struct.{Struct}
use denote.Struct.Owning.{shape}
use Rattle.fst_chain.specs.Held.{node_owns, nodes_own, place_at, tail_at}
use Rattle.fst_chain.specs.Blocks.{way_back}
use Rattle.fst_chain.specs.HeapLends.{with_items}
use Rattle.fst_chain.specs.contracts.heap.Heap as C
use Rattle.fst_chain.specs.contracts.heap.Place as Pl
use Rattle.fst_chain.proofs.Nodes.{item_in, item_in-is, Besides, node_out, node_in}
use Rattle.fst_chain.specs.contracts.heap.Heap.at_mut.{ended, clauses}
use Rattle.fst_chain.specs.contracts.heap.Heap.at_mut.Key.{name as #self}
use Rattle.fst_chain.proofs.heap.Heap.at_mut.Statement.{statement}
use Rattle.fst_chain.proofs.heap.Heap.at_mut.Code as code

Pl-good : (p : Ptr) → Good (layout Pl.the_row) (vstruct (of_list (ptr_val p ∷ [])))
Pl-good (block_ptr b o) = (tt, (tt, tt))
Pl-good null_ptr = (tt, (record { fits = lit< tt }, tt))

module _ (X A : RattleType) (g : Ghosts A.Denot) where
  abbrev Hp : RattleType
  Hp = C.the_row (param 0 X) (param 1 A) g

  abbrev set_node : Hp.Denot → ℕ → X.Denot → Hp.Denot
  set_node h i w = with_items h (slice_set h.items i w)

  module _ {M : Type 1} {𝓤 : Ura M} (𝓛 : Logic 𝓤) (h : Hp.Denot) (i : ℕ) (vs : List Val) (rb ro b o : ℕ) where
    abbrev token : mir.Syntax.Ty → Ptr → Fml
    token = g.dealloc_token h.alloc

    -- all but the node
    abbrev Rest : Fml
    Rest = fsep (way_back token (param 0 X) (block_ptr b o) (tail_at h.tails i).0 (tail_at h.tails i).1) (fsep (Besides token (param 0 X) i h.places h.tails h.items) (fsep ((Struct (shape (C.the_type (param 0 X) (param 1 A) g))).own_val (tt, tt) vs) (cell_at full_share Hp.mir vs rb ro)))

    back : place_at h.places i ≡ block_ptr b o → (w : X.Denot)
        → ent 𝓤 (sep 𝓤 (sem 𝓛 ((mem (param 0 X)).own_at w b o)) (sem 𝓛 Rest)) (sem 𝓛 ((mem Hp).own_at (set_node h i w) rb ro))
    unfolding part_of
    back e w =
        qed 𝓛 (‵ (part_at (param 0 X) full_share w b o) ∷ ‵ Rest ∷ []) ∵ move ! (1 ∷ []) $ fsplit3 ! $ move ! (3 ∷ 0 ∷ []) $ fjoin ! $
        rewrite ! 0 (λ (p : Ptr). ‵ (node_owns token (param 0 X) p (tail_at h.tails i) w)) (sym e) refl $ move ! (0 ∷ 1 ∷ []) $
        use2 𝓛 (‵ (nodes_own token (param 0 X) h.places h.tails (slice_set h.items i w))) (node_in token (param 0 X) 𝓛 i h.places h.tails h.items w) $
        move ! (1 ∷ []) $ fsplit ! $ move ! (0 ∷ 2 ∷ []) $ fjoin ! $ move ! (1 ∷ 0 ∷ []) $ fjoin ! $
        fpack ! (List Val) (λ us. fsep (cell_at full_share Hp.mir us rb ro) (Hp.own_val (set_node h i w) us)) vs $ done !

pub at_mut_spec : {M : Type 1} → statement M
at_mut_spec 𝓤 𝓛 𝓜 𝓡 wired X A L LA g d dd allocator glue =
    let H = 𝓛.H in let 𝓣 = tables 𝓤 H 𝓜 𝓡 𝓡.env in let R : RattleType = param 0 X in let Z : RattleType = param 1 A in
    let En = ended X A g d dd in let c = clauses X A g d dd 𝓛 𝓜.mem 𝓡.returns in let Hp : RattleType = C.the_row R Z g in
    let inst = bounded (a_type ∷ a_type ∷ []) (X, (A, tt)) (dcons d (dcons dd dnil)) in let fn = inst_fn inst code.function in
    let hs : Stays En.signature.params En.kept = (stay_dropped (mut_ref_to (0 ∷ []) tt (plain (λ _. Hp))) no, (stay_dropped (plain (λ _. Pl.the_row)) yes, (stay_dropped (plain (λ _. usize)) yes, tt))) in
    proved_at 𝓛 En hs c 𝓜 𝓡 (Goes-spent_ref 𝓛 3 (0 ∷ []) tt (plain (λ _. Hp)), (Goes-dropped 𝓛 3 (plain (λ _. Pl.the_row)) yes (λ κs x f. refl), (Goes-dropped 𝓛 3 (plain (λ _. usize)) yes (λ κs x f. refl), tt)))
    (#self inst) fn (code.unfolded 𝓤 H 𝓜 𝓡 wired (X, (A, tt)) d dd) (λ z are.
    let κs = z.0.0 in let qs = z.0.1 in let κ = κs.0 in let q = qs.0 in let self = z.0.3.0 in let at = z.0.3.1.0 in let i = z.0.3.1.1.0 in
    let rb = self.ref_ptr.0 in let ro = self.ref_ptr.1 in let γ = self.ghost_name in let h = self.now in
    let Post : Val → SProp 𝓤 = (walk_of 𝓛 En hs c).post z in let Run : List Val → SProp 𝓤 = λ ws. WpFn 𝓤 H 𝓣.C 𝓣.Λ fn ws Post in
    let others = ‵ (flft κs.1.0 qs.1.0) ⊛ ‵ (flft κs.1.1.0 qs.1.1.0) ⊛ ‵ ftrue in
    let Asks : Type 0 = (i < length h.items) × (at.ptr ≡ place_at h.places i) in
    let token = g.dealloc_token h.alloc in
    qed 𝓛 (((‵ (flft κ q) ⊛ others) ⊛ ‵ (owns (MutRef (named 0) κ Hp ∷ Pl.the_row ∷ usize ∷ []) z.0.3 z.0.4)) ∷ raw ((c κs z.0.3).requires z.1) ∷ []) ∵
    move ! (1 ∷ []) $ use1 𝓛 (raw (fact 𝓤 (κs.1.0 ⊑ X.lives)) ⊛ raw (fact 𝓤 (κs.1.1.0 ⊑ A.lives)) ⊛ raw (fact 𝓤 Asks)) (id⊢ 𝓤 _) $ split3 ! $ drop ! $ drop ! $ heard ! Asks (λ asked.
    split ! $ split ! $ move ! (2 ∷ []) $ fsplit ! $ fsplit3 ! $ feq_l ! (λ e0. move ! (2 ∷ []) $ fsplit ! $
    fpick ! (λ vss. fsplit ! $ feq_l ! (λ ev. fsplit ! $ feq_l ! (λ e1. drop ! $
    fsplit ! $ fsplit ! $ feq_l ! (λ e2. flt_l ! (λ fits.
    -- [nothing; obs; the borrow; the token; the other tokens]
    let word : Val = vstruct (of_list (ptr_val at.ptr ∷ [])) in
    let e3 : z.0.4.1.0 ≡ word ∷ [] = subst (λ (ws : List Val). z.0.4.1.0 ≡ vstruct (of_list (ws ++ [])) ∷ []) e1 ev in
    suffices ! (Run (vptr rb ro ∷ word ∷ vint w64 i ∷ [])) (subst (λ (ws : List Val × List Val × List Val). ent 𝓤 (Run (vptr rb ro ∷ word ∷ vint w64 i ∷ [])) (Run (ws.0 ++ (ws.1 ++ (ws.2 ++ []))))) (λ j. (sym e0 j, sym e3 j, sym e2 j)) (id⊢ 𝓤 _)) $
    drop ! $ enter ! 𝓣.C 𝓣.Λ fn (vptr rb ro ∷ word ∷ vint w64 i ∷ []) Post $ alloc_all ! (λ l. pass_all ! refl ((tt, tt), (Pl-good at.ptr, ((tt, record { fits = fits }), tt))) $
    let Ev = env fn.locals l in
    opens ! tt Hp {h = h} rb ro (λ vs. move ! (1 ∷ []) $ fsplit ! $ move ! (1 ∷ []) $
    let lt = asked.0 in let x : X.Denot = item_in h.items i lt in
    use1 𝓛 (‵ (node_owns token R (place_at h.places i) (tail_at h.tails i) x) ⊛ ‵ (Besides token R i h.places h.tails h.items)) (node_out token R 𝓛 i h.places h.tails h.items lt) $ split ! $
    in_a_block ! (place_at h.places i) (λ p. node_owns token R p (tail_at h.tails i) x) (fst∗ 𝓤 (never 𝓤) (sem 𝓛 (way_back token R null_ptr (tail_at h.tails i).0 (tail_at h.tails i).1))) (λ b o e. fsplit ! $
    -- [the node; its token; the other nodes; the mark; its cell; the open borrow; obs; auth; the other tokens]
    sets ! (is ! (of_opd ! (get_in ! (fld ! refl (stop !)) (sub ! 0 refl (whole !)))) (ap ptr_val (asked.1 ∙ e))) refl (tt, tt) $
    first ! $ blocks ! $ sets_last ! (addr ! (through ! refl (stop !))) refl (tt, tt) $ exec ! 𝓣.C 𝓣.Λ Ev (after 2 fn.body) (at_ret Ev Post) $ sets ! (of_opd ! (get ! refl)) refl (tt, tt) $
    move ! (3 ∷ 4 ∷ []) $ fjoin ! $ move ! (3 ∷ 0 ∷ []) $ fjoin ! $ move ! (2 ∷ 0 ∷ []) $ fjoin ! $ move ! (2 ∷ 3 ∷ 4 ∷ 1 ∷ 0 ∷ []) $ group ! 5 $
    let code = Hp.coded.code h in let rest = sem 𝓛 (Rest X A g 𝓛 h i vs rb ro b o) in let new : X.Denot → Hp.Denot = set_node X A g h i in let way = back X A g 𝓛 h i vs rb ro b o e in
    use1 𝓛 (later (some (λ (δ : GName). raw (Part 𝓛 Hp R new (named 0) κ q rb ro b o γ rest way x δ)))) (lends_Part 𝓛 Hp R new (named 0) κ q rb ro b o γ rest way code code x) $ await ! tt $ pick ! (λ δ.
    returns ! (look_at ! 0 refl) $ free_all ! refl $
    let r : MutBor X.Denot = record { ref_ptr = (b, o); ghost_name = δ; now = x } in
    let Lent : Fml = follows Hp R γ δ new in let Told : Type 0 = x ≡ slice_index_or h.items i x in
    use1 𝓛 (‵ ((MutRef (named 0) κ R).own_val r (vptr b o ∷ [])) ⊛ ‵ (flft κ q) ⊛ ‵ Lent) (id⊢ 𝓤 _) $ split3 ! $
    move ! (1 ∷ 3 ∷ []) $ join ! $ use0 𝓛 (raw (fact 𝓤 Told)) (fact_i 𝓤 Told (emp 𝓤) (item_in-is h.items i lt x)) $ move ! (3 ∷ 0 ∷ []) $ join ! $
    nothing ! $ nothing ! $ fjoin ! $ nothing ! $ fjoin ! $ nothing ! $ fjoin ! $ keep ! (2 ∷ 0 ∷ 3 ∷ 1 ∷ []) $ by ! (leaves 𝓛 En hs c z (vptr b o) r (tt, (tt, (tt, tt))) (tt, (tt, (tt, tt))))))))))))))))
