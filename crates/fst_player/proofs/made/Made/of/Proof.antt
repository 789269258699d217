-- `of` makes the value of no bytes, whose items are those that its bound's member reads off the argument.
use Rattle.std.proofs.{Common.{[], ◌∷◌, refl}, raw_atomic.Walks.proved}
use denote.Builtin.{RefOf}
use denote.Exit.{yes}
use denote.Param.{param, bounded}
use denote.RattleType.{owns}
use denote.Ref.{shr_vals, shr_Tells}
use denote.Shadow.{pure_i}
use denote.Signature.{plain, types_at}
use denote.Steps.{nothing}
use denote.Triple.Entry.{alive}
use denote.Triple.Walked.{walk_of, says, ends_at, Stays, stay_dropped, Goes-dropped}
use mir.MapTy.{inst_fn}
use mir.Syntax.{a_type, named, dcons, dnil}
use mir.Val.{Val, vstruct, vcons, vnil}
use types.ByLocal.{alloc_all, pass_all, free_all, look_at, get, sets}
use types.Kit.{‵, raw, ◌⊛◌, ◌$◌, ◌∵◌, !, qed, keep, move, split, join, suffices, done}
use types.Part.{agg}
use types.Run.{enter, no_more, and_then, returns}
use Rattle.fst_player.proofs.made.Made.of.Statement.{statement}
use Rattle.fst_player.specs.contracts.made.Made as rows
use Rattle.fst_player.specs.contracts.made.Made.of as f
use Rattle.fst_player.proofs.made.Made.of.Code as code

pub of_spec : {M : Type 1} → statement M
of_spec 𝓤 𝓛 𝓜 𝓡 wired X N _ _ g dict _ =
    let E = f.ended X N g dict in let c = f.clauses X N g dict 𝓛 𝓜.mem 𝓡.returns in
    let value = RefOf (0 ∷ []) tt (plain (λ _. param 0 X)) (λ _. tt) in
    let stayed : Stays E.signature.params E.kept = (stay_dropped value yes, tt) in let W = walk_of 𝓛 E stayed c in
    let types = bounded (a_type ∷ a_type ∷ []) (X, (N, tt)) (dcons dict dnil) in
    proved 𝓛 E stayed c 𝓜 𝓡 (Goes-dropped 𝓛 3 value yes (λ κs x w. refl), tt)
    (f.Key.name types) (inst_fn types code.function) (code.unfolded 𝓤 𝓛.H 𝓜 𝓡 wired (X, (N, tt)) dict)
    (λ κs. (shr_vals, tt)) (λ κs. (shr_Tells (named 0) κs.0 (param 0 X), tt)) (λ κs qs bounds a u are.
    let y : W.Ghost = ((κs, qs, bounds, a, (shr_vals a.0, tt)), u) in
    let v : Val = vstruct (vcons (vstruct vnil) vnil) in let made : (rows.the_row).Denot = record { marker = record {}; items = g.told a.0.now } in
    qed 𝓛 ((raw (alive 𝓛 E.signature κs qs) ⊛ ‵ (owns (types_at E.signature.params κs) a y.0.4)) ∷ raw ((c κs a).requires u) ∷ []) ∵
    split ! $ keep ! (0 ∷ []) $
    enter ! _ _ _ _ _ $ alloc_all ! (λ l. pass_all ! refl ((tt, tt), tt) $
    sets ! (agg ! (no_more !)) refl (tt, tt) $ sets ! (agg ! (and_then ! (get ! refl) (no_more !))) refl (tt, (tt, tt)) $
    returns ! (look_at ! 0 refl) $ free_all ! refl $
    suffices ! _ (ends_at 𝓛 E stayed c y v made (tt, tt) (tt, tt)) $ says ! refl $
    pure_i ! ((rows.the_row).own_val made (v ∷ [])) ((λ vss. (tt, ((λ uss. (tt, tt)), tt))), tt) (((vstruct vnil ∷ [], tt), (refl, ((tt, (refl, tt)), tt))), tt) $
    nothing ! $ nothing ! $ join ! $ move ! (2 ∷ []) $ done !))
