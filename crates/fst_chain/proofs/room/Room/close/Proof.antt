-- `close` takes the bytes' memory back, and the two parts are the block. Assumes `Logic`.
use Rattle.std.proofs.Common.{◌≡◌, ℕ, ◌*◌, ◌^◌, ◌<◌, List, [], ◌∷◌, ◌++◌, refl, sym, ◌∙◌, w64, subst}
use mir.Syntax.{Ty, Fn, Args, a_type, dcons, dnil}
use mir.Val.{Val, vint}
use mir.MapTy.{inst_fn}
use mir.Raw.{raw as bare}
use base.Logic.{SProp, never, id⊢, snd∗, apply∗}
use base.Fml.{Fml, Lft, Share, ftrue, fsep, fwand, flft, froom}
use prog.Wp.{Env, WpFn}
use contract.BorrowLft.{◌⊑◌}
use contract.Monad.{fact}
use contract.Running.{tables}
use types.Logic.{sem}
use types.Kit.{‵, raw, ◌⊛◌, given, later, prop, ◌$◌, ◌∵◌, !, qed, by, move, keep, drop, use0, use1, use2, split, split3, learn, rewrite, regoal, fsplit, fsplit3, fjoin, await}
use types.Part.{whole, sub, agg}
use types.Run.{stop, fld, of_opd, no_more, and_then, returns, enter}
use types.ByLocal.{alloc_all, pass_all, free_all, look_at, get, get_in, sets, lands_as, env}
use denote.RattleType.{RattleType, owns}
use denote.Memory.{lone}
use denote.RawPtr.{Ptr, block_ptr, room_for, in_a_block}
use denote.Param.{param, bounded}
use denote.Signature.{plain}
use denote.Exit.{yes, no}
use denote.Builtin.{u8, usize}
use denote.Steps.{nothing, heard}
use denote.Triple.Call.{calls_at}
use denote.Triple.Walked.{Stays, stay_dropped, walk_of, Goes-dropped}
use Rattle.core.proofs.alloc.Calls.{Goes-blank}
use Rattle.core.proofs.atomic.Steps.{fm}
use Rattle.core.proofs.mem.Timeless.{timeless, timeless_laws}
use Rattle.std.proofs.raw_atomic.Walks.{proved_at, leaves}
use Rattle.std_alloc.specs.Vec.Ownership.{lodged}
use Rattle.std_alloc.proofs.vec.lodged.Vec+T+Lodged.dislodge.Met as dislodge_met
use Rattle.std_collections.proofs.TreeMemory.Lodging.{Dislodges, at_dislodge, dislodge_goes, dislodge_gives, tells}
use Rattle.fst_chain.specs.Blocks.{node_type, bytes_type, room_owns}
use Rattle.fst_chain.proofs.Places.{stated}
use Rattle.fst_chain.proofs.Values.{ptr_good, block_val, block_fields, block_made, block_good, room_val, room_told, room_good}
use Rattle.fst_chain.proofs.Blocks.{room_lodged}
use Rattle.fst_chain.proofs.Lodged.{byte_laws, Bytes, Bytes-laws}
use Rattle.fst_chain.specs.contracts.block.Block as B
use Rattle.fst_chain.specs.contracts.room.Room as Rm
use Rattle.fst_chain.specs.contracts.room.Room.close.{ended, clauses}
use Rattle.fst_chain.specs.contracts.room.Room.close.Key.{name as #self}
use Rattle.fst_chain.proofs.room.Room.close.Statement.{statement}
use Rattle.fst_chain.proofs.room.Room.close.Code as code

pub close_spec : {M : Type 1} → statement M
close_spec 𝓤 𝓛 𝓜 𝓡 wired X A L LA g d dd met md =
    let H = 𝓛.H in let 𝓣 = tables 𝓤 H 𝓜 𝓡 𝓡.env in let C = 𝓣.C in let Λ = 𝓣.Λ in let R : RattleType = param 0 X in let Z : RattleType = param 1 A in
    let En = ended X A g d dd in let c = clauses X A g d dd 𝓛 𝓜.mem 𝓡.returns in let Bl : RattleType = B.the_row R Z g in let Ro : RattleType = Rm.the_row R Z g in
    let inst : Args = bounded (a_type ∷ a_type ∷ []) (X, (A, tt)) (dcons d (dcons dd dnil)) in let fn : Fn = inst_fn inst code.function in
    let hs : Stays En.signature.params En.kept = (stay_dropped (plain (λ _. Ro)) no, (stay_dropped (plain (λ _. Bytes)) yes, (stay_dropped (plain (λ _. usize)) yes, tt))) in
    proved_at 𝓛 En hs c 𝓜 𝓡 (Goes-blank 𝓛 2 (plain (λ _. Ro)) no (λ κs x f. tt), (Goes-blank 𝓛 2 (plain (λ _. Bytes)) yes (λ κs x f. tt), (Goes-dropped 𝓛 2 (plain (λ _. usize)) yes (λ κs x f. refl), tt))) (#self inst) fn (code.unfolded 𝓤 H 𝓜 𝓡 wired (X, (A, tt)) d dd) (λ z are.
    let κs = z.0.0 in let qs = z.0.1 in let x = z.0.3.0 in let r = z.0.3.1.0 in let k = z.0.3.1.1.0 in let n = x.len in let h = x.alloc in let p = x.ptr in let token = g.dealloc_token h in
    let Post : Val → SProp 𝓤 = (walk_of 𝓛 En hs c).post z in let Asked : Type 0 = (r.ptr ≡ x.tail) × (r.cap ≡ n) × (k ≡ n) in
    let toks = ‵ (flft κs.0 qs.0) ⊛ ‵ (flft κs.1.0 qs.1.0) ⊛ ‵ ftrue in let told = room_told p z.0.4.0 are.0.0 in let header : Ty = bare (lone R.mir) in
    qed 𝓛 ((toks ⊛ ‵ (owns (Ro ∷ Bytes ∷ usize ∷ []) z.0.3 z.0.4)) ∷ raw ((c κs z.0.3).requires z.1) ∷ []) ∵
    move ! (1 ∷ []) $ use1 𝓛 (raw (fact 𝓤 (κs.0 ⊑ X.lives)) ⊛ raw (fact 𝓤 (κs.1.0 ⊑ A.lives)) ⊛ raw (fact 𝓤 Asked)) (id⊢ 𝓤 _) $ split3 ! $ drop ! $ drop ! $ heard ! Asked (λ asked.
    split ! $ move ! (1 ∷ []) $ fsplit ! $ fsplit ! $ drop ! $ use1 𝓛 (‵ (room_owns token R p x.tail n)) (id⊢ 𝓤 _) $ move ! (1 ∷ []) $ fsplit ! $
    tells ! Bytes Bytes-laws r z.0.4.1.0 (λ v ev gv.
    -- [the Vec; the number; the room; the tokens]
    move ! (0 ∷ 2 ∷ 3 ∷ []) $
    regoal ! (λ (us : List Val). prop (WpFn 𝓤 H C Λ fn us Post)) (λ i. told i ++ (ev i ++ (are.1.1.0.0 i ++ []))) refl $
    enter ! C Λ fn (room_val p ∷ v ∷ vint w64 k ∷ []) Post $ alloc_all ! (λ l. pass_all ! refl (room_good p, (gv, ((tt, record { fits = are.1.1.0.1 }), tt))) $ let Ev : Env 𝓤 H = env fn.locals l in
    sets ! (of_opd ! (get_in ! (fld ! refl (stop !)) (sub ! 0 refl (whole !)))) refl (ptr_good p) $
    sets ! (of_opd ! (get_in ! (fld ! refl (stop !)) (sub ! 1 refl (whole !)))) refl (tt, tt) $ sets ! (of_opd ! (get ! refl)) refl gv $
    let y = at_dislodge u8 𝓛 𝓜.mem 𝓡.returns r v in
    use1 𝓛 (raw ((Dislodges u8 𝓛 𝓜.mem 𝓡.returns).pre y)) (dislodge_goes u8 𝓛 𝓜.mem 𝓡.returns r v) $
    calls_at ! (fm 𝓛 𝓜 𝓡) (Dislodges u8 𝓛 𝓜.mem 𝓡.returns) (dislodge_met.met 𝓤 𝓛 𝓜 𝓡 (code.calls-std_alloc::vec::lodged::Vec+T+Lodged::dislodge 𝓡.env wired) (timeless u8) (timeless_laws u8 byte_laws)) y (and_then ! (get ! refl) (no_more !)) (λ u.
    use1 𝓛 (later (given ((u ≡ vint w64 r.len) × (r.len < 2 ^ 64)) (‵ (lodged u8 r.ptr r.len r.cap r.items)))) (dislodge_gives u8 𝓛 𝓜.mem 𝓡.returns r v u) $ await ! tt $ learn ! (λ is.
    lands_as ! is.0 refl (tt, record { fits = is.1 }) $
    -- [the bytes; the room; the number; the tokens]
    let fits : n < 2 ^ 64 = subst (λ (j : ℕ). j < 2 ^ 64) asked.2 are.1.1.0.1 in
    sets ! (agg ! (and_then ! (get ! refl) (and_then ! (get ! refl) (and_then ! (get ! refl) (no_more !))))) refl (block_good p k are.1.1.0.1) $ returns ! (look_at ! 0 refl) $ free_all ! refl $
    in_a_block ! r.ptr (λ s. lodged u8 s r.len r.cap r.items) (snd∗ 𝓤 (sem 𝓛 (base.Fml.flt (r.cap * 1) (2 ^ 63))) (never 𝓤)) (λ b e at.
    use1 𝓛 (‵ (room_for (bytes_type r.cap) (block_ptr b e))) (room_lodged 𝓛 b e r.len r.cap r.items r.ok.1) $
    rewrite ! 0 (λ (s : Ptr × ℕ). ‵ (room_for (bytes_type s.1) s.0)) {x = (x.tail, n)} (λ i. ((sym at ∙ asked.0) i, asked.1 i)) refl $
    move ! (1 ∷ []) $ fsplit3 ! $
    -- [the header's room; the way back; the right; the bytes' room; the number; the tokens]
    let Parts : Fml = fsep (room_for header p) (room_for (bytes_type n) x.tail) in
    move ! (0 ∷ 3 ∷ []) $ fjoin ! $ move ! (0 ∷ 1 ∷ []) $ use2 𝓛 (‵ (room_for (node_type R n) p)) (apply∗ 𝓤 (sem 𝓛 Parts) (sem 𝓛 (room_for (node_type R n) p))) $ fjoin ! $
    let new : Bl.Denot = record { ptr = p; len = n; mark = record {}; alloc = h } in
    use0 𝓛 (‵ (block_fields p n (block_val p n ∷ []))) (block_made 𝓛 p n fits) $ fjoin ! $
    rewrite ! 0 (λ (j : ℕ). ‵ (Bl.own_val new (block_val p j ∷ []))) (sym asked.2) refl $
    stated ! ((h ≡ h) × (n ≡ n)) (refl, refl) $ nothing ! $ nothing ! $ fjoin ! $ nothing ! $ fjoin ! $ nothing ! $ fjoin ! $ keep ! (3 ∷ 0 ∷ 2 ∷ 1 ∷ []) $
    by ! (leaves 𝓛 En hs c z (block_val p k) new (tt, (tt, (tt, tt))) (tt, (tt, (tt, tt)))))))))))
