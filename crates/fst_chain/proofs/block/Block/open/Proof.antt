-- `open` cuts the block in two and lodges a Vec in the second part. Assumes `Logic`.
use Rattle.std.proofs.Common.{◌≡◌, ℕ, ◌+◌, ◌^◌, ◌<◌, List, [], ◌∷◌, ◌++◌, refl, sym, ap, ◌∙◌, w64}
use Rattle.std.specs.declared.vec.Vec.{Vec}
use mir.Syntax.{Ty, Fn, Args, a_type, dcons, dnil}
use mir.Val.{Val, vint, vstruct, vcons, vnil}
use mir.MapTy.{inst_fn}
use mir.Raw.{raw as bare}
use base.Logic.{SProp, never, id⊢, fst∗}
use base.Fml.{ftrue, fsep, fwand, flft, froom}
use prog.Wp.{Env, WpFn}
use contract.BorrowLft.{◌⊑◌}
use contract.Monad.{fact}
use contract.Running.{tables}
use types.Logic.{sem}
use types.Kit.{‵, raw, ◌⊛◌, some, given, later, prop, at_ret, ◌$◌, ◌∵◌, !, qed, by, move, keep, drop, use0, use1, split, split3, join, pick, learn, rewrite, regoal, fsplit, fjoin, await}
use types.Part.{whole, sub, agg}
use types.Run.{stop, fld, lit, bin, of_opd, no_more, and_then, first, blocks, exec, returns, enter}
use types.ByLocal.{alloc_all, pass_all, free_all, look_at, get, get_in, sets, sets_last, lands_as, env}
use denote.RattleType.{RattleType, owns}
use denote.Memory.{lone}
use denote.RawPtr.{Ptr, block_ptr, null_ptr, in_a_block}
use denote.Param.{param, bounded, layout}
use denote.Signature.{plain}
use denote.Exit.{yes, no}
use denote.Builtin.{u8, usize}
use denote.Struct.Struct.{as_fields}
use denote.Steps.{only, nothing, heard}
use denote.Triple.Call.{calls_at}
use denote.Triple.Walked.{Stays, stay_dropped, walk_of, Goes-dropped}
use Rattle.core.specs.Allocator.{owned_block}
use Rattle.core.specs.Mem.{type_size}
use Rattle.core.proofs.alloc.Calls.{Goes-blank}
use Rattle.core.proofs.alloc.Shapes.{after}
use Rattle.core.proofs.atomic.Steps.{fm}
use Rattle.core.proofs.mem.Timeless.{timeless, timeless_laws}
use Rattle.std.proofs.raw_atomic.Walks.{proved_at, leaves}
use Rattle.std_alloc.specs.declared.vec.lodged.Lodged.{Lodged}
use Rattle.std_alloc.specs.Vec.Ownership.{lodged}
use Rattle.std_alloc.proofs.vec.lodge.Met as lodge_met
use Rattle.std_collections.proofs.TreeMemory.Lodging.{Lodges, at_lodge, Lodged_as, lodge_gives, tells, two_made}
use Rattle.fst_chain.specs.Blocks.{node_type, bytes_type}
use Rattle.fst_chain.proofs.Values.{block_val, block_told, room_val, room_fields, room_made}
use Rattle.fst_chain.proofs.Places.{stated}
use Rattle.fst_chain.proofs.Blocks.{far, block_cut, lodge_room}
use Rattle.fst_chain.proofs.Lodged.{byte_laws, Bytes, Bytes-laws, lodge_starts}
use Rattle.fst_chain.specs.contracts.block.Block as B
use Rattle.fst_chain.specs.contracts.room.Room as Rm
use Rattle.fst_chain.specs.contracts.block.Block.«open».{ended, clauses}
use Rattle.fst_chain.specs.contracts.block.Block.«open».Key.{name as #self}
use Rattle.fst_chain.proofs.block.Block.«open».Statement.{statement}
use Rattle.fst_chain.proofs.block.Block.«open».Code as code

pub open_spec : {M : Type 1} → statement M
open_spec 𝓤 𝓛 𝓜 𝓡 wired X A L LA g d dd met md =
    let H = 𝓛.H in let 𝓣 = tables 𝓤 H 𝓜 𝓡 𝓡.env in let C = 𝓣.C in let Λ = 𝓣.Λ in let R : RattleType = param 0 X in let Z : RattleType = param 1 A in
    let En = ended X A g d dd in let c = clauses X A g d dd 𝓛 𝓜.mem 𝓡.returns in let Bl : RattleType = B.the_row R Z g in let Ro : RattleType = Rm.the_row R Z g in
    let inst : Args = bounded (a_type ∷ a_type ∷ []) (X, (A, tt)) (dcons d (dcons dd dnil)) in let fn : Fn = inst_fn inst code.function in
    let hs : Stays En.signature.params En.kept = (stay_dropped (plain (λ _. Bl)) no, (stay_dropped (plain (λ _. usize)) yes, tt)) in
    proved_at 𝓛 En hs c 𝓜 𝓡 (Goes-blank 𝓛 2 (plain (λ _. Bl)) no (λ κs x f. tt), (Goes-dropped 𝓛 2 (plain (λ _. usize)) yes (λ κs x f. refl), tt)) (#self inst) fn (code.unfolded 𝓤 H 𝓜 𝓡 wired (X, (A, tt)) d dd) (λ z are.
    let κs = z.0.0 in let qs = z.0.1 in let x = z.0.3.0 in let k = z.0.3.1.0 in let n = x.len in let h = x.alloc in let token = g.dealloc_token h in
    let Post : Val → SProp 𝓤 = (walk_of 𝓛 En hs c).post z in let Asked : Type 0 = (k ≡ type_size R) × (n < 2 ^ 63) in
    let toks = ‵ (flft κs.0 qs.0) ⊛ ‵ (flft κs.1.0 qs.1.0) ⊛ ‵ ftrue in let told = block_told x.ptr n z.0.4.0 are.0.0 in
    qed 𝓛 ((toks ⊛ ‵ (owns (Bl ∷ usize ∷ []) z.0.3 z.0.4)) ∷ raw ((c κs z.0.3).requires z.1) ∷ []) ∵
    move ! (1 ∷ []) $ use1 𝓛 (raw (fact 𝓤 (κs.0 ⊑ X.lives)) ⊛ raw (fact 𝓤 (κs.1.0 ⊑ A.lives)) ⊛ raw (fact 𝓤 Asked)) (id⊢ 𝓤 _) $ split3 ! $ drop ! $ drop ! $ heard ! Asked (λ asked.
    split ! $ move ! (1 ∷ []) $ fsplit ! $ fsplit ! $ drop ! $
    in_a_block ! x.ptr (λ r. owned_block token (node_type R n) r) (fst∗ 𝓤 (never 𝓤) (sem 𝓛 (token (node_type R n) null_ptr))) (λ b o placed. fsplit ! $
    let p : Ptr = block_ptr b o in let e : ℕ = far R n 𝓛 b o in let q : Ptr = block_ptr b e in let header : Ty = bare (lone R.mir) in
    use1 𝓛 (‵ (froom header b o) ⊛ ‵ (froom (bytes_type n) b e) ⊛ ‵ (fwand (fsep (froom header b o) (froom (bytes_type n) b e)) (froom (node_type R n) b o))) (block_cut R n 𝓛 b o) $ split3 ! $
    -- [the header's room; the bytes'; the way back; the right; the other argument; the tokens]
    move ! (0 ∷ 2 ∷ 3 ∷ 1 ∷ []) $
    regoal ! (λ (us : List Val). prop (WpFn 𝓤 H C Λ fn us Post)) (λ i. (told.0 ∙ ap (λ (r : Ptr). block_val r n ∷ []) placed) i ++ (are.1.0.0 i ++ [])) refl $
    enter ! C Λ fn (block_val p n ∷ vint w64 k ∷ []) Post $ alloc_all ! (λ l. pass_all ! refl ((tt, (tt, (record { fits = told.1 }, (tt, tt)))), ((tt, record { fits = are.1.0.1 }), tt)) $ let Ev : Env 𝓤 H = env fn.locals l in
    sets ! (of_opd ! (get_in ! (fld ! refl (stop !)) (sub ! 0 refl (whole !)))) refl (tt, tt) $
    sets ! (of_opd ! (get_in ! (fld ! refl (stop !)) (sub ! 1 refl (whole !)))) refl (tt, record { fits = told.1 }) $
    sets ! (of_opd ! (get_in ! (fld ! refl (stop !)) (sub ! 2 refl (whole !)))) refl (tt, tt) $ first ! $ blocks ! $
    sets ! (bin ! (get ! refl) (get ! refl) tt) refl (tt, tt) $
    move ! (3 ∷ []) $ use1 𝓛 (‵ (lodged u8 q 0 n [])) (lodge_room 𝓛 b e n asked.1) $
    let at : k + o ≡ e = ap (λ (j : ℕ). j + o) asked.0 in let y = at_lodge u8 𝓛 𝓜.mem 𝓡.returns b (k + o) 0 n [] in
    rewrite ! 0 (λ (j : ℕ). ‵ (lodged u8 (block_ptr b j) 0 n [])) (sym at) refl $
    use1 𝓛 (raw ((Lodges u8 𝓛 𝓜.mem 𝓡.returns).pre y)) (lodge_starts 𝓛 𝓜.mem 𝓡.returns b (k + o) n asked.1) $
    calls_at ! (fm 𝓛 𝓜 𝓡) (Lodges u8 𝓛 𝓜.mem 𝓡.returns) (lodge_met.met 𝓤 𝓛 𝓜 𝓡 (code.calls-std_alloc::vec::lodge 𝓡.env wired) (timeless u8) (timeless_laws u8 byte_laws)) y (and_then ! (get ! refl) (and_then ! (lit ! tt) (and_then ! (get ! refl) (no_more !)))) (λ u.
    use1 𝓛 (later (some (λ (r : Vec ℕ Lodged). given (Lodged_as u8 𝓛 𝓜.mem 𝓡.returns b (k + o) 0 n [] r) (‵ (Bytes.own_val r (u ∷ [])))))) (lodge_gives u8 𝓛 𝓜.mem 𝓡.returns b (k + o) 0 n [] u) $
    await ! tt $ pick ! (λ r. learn ! (λ is. tells ! Bytes Bytes-laws r (u ∷ []) (λ v ev gv. lands_as ! (ap only ev) refl gv $
    -- [the Vec; the header's room; the way back; the right; the other argument; the tokens]
    let rv : Val = room_val p in let room : Ro.Denot = record { ptr = p; mark = record {}; alloc = h; tail = q; len = n } in
    let all : Val = vstruct (vcons rv (vcons v vnil)) in let good = as_fields (layout Ro ∷ layout Bytes ∷ []) (rv ∷ v ∷ []) ((tt, (tt, (tt, tt))), (gv, tt)) in
    sets ! (agg ! (and_then ! (get ! refl) (and_then ! (get ! refl) (no_more !)))) refl (tt, (tt, (tt, tt))) $ sets ! (of_opd ! (get ! refl)) refl gv $
    sets_last ! (agg ! (and_then ! (get ! refl) (and_then ! (get ! refl) (no_more !)))) refl good $
    exec ! C Λ Ev (after 4 fn.body) (at_ret Ev Post) $ sets ! (of_opd ! (get ! refl)) refl good $ returns ! (look_at ! 0 refl) $ free_all ! refl $
    move ! (2 ∷ 3 ∷ []) $ fjoin ! $ move ! (2 ∷ 0 ∷ []) $ fjoin ! $ use0 𝓛 (‵ (room_fields p (rv ∷ []))) (room_made 𝓛 p) $ fjoin ! $
    two_made ! Ro Bytes room r rv v $
    stated ! ((r.items ≡ []) × (r.len ≡ 0)) (is.0, is.1) $ stated ! ((r.ptr ≡ q) × (r.cap ≡ n)) (is.3 ∙ ap (block_ptr b) at, is.2) $ join ! $ stated ! ((h ≡ h) × (n ≡ n)) (refl, refl) $ join ! $
    -- [what is ensured; the pair; the other argument; the tokens]
    nothing ! $ nothing ! $ fjoin ! $ nothing ! $ fjoin ! $ keep ! (4 ∷ 0 ∷ 2 ∷ 1 ∷ []) $ by ! (leaves 𝓛 En hs c z all (room, r) (tt, (tt, tt)) (tt, (tt, tt)))))))))))
