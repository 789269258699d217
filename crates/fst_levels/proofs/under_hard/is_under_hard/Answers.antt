use Rattle.std.proofs.Common.{◌≡◌, ◌∙◌, ◌&&◌, ℕ, Bool, List, get_or, refl, sym, subst, inl, inr, arith}
use Rattle.std.proofs.lemmas.Bool.{false≢true}
use Rattle.fst_types.specs.Tests.{is_change_at}
use Rattle.fst_heads.specs.{Grading.IsHardNumber, Heads.{kind_of, patch_of, patches_of}, Indices.HasIndex, Tests.is_hard_kind, declared.head.Head.Head}
use Rattle.fst_levels.specs.{Leveling.hard_over_of}
use Rattle.fst_levels.proofs.{NearRow.{hard_here, here_hard, no_patch}, Ranked.{no_rank, rank_kept}}
use Rattle.fst_types.specs.declared.place.Place.TheVariants as place
use Rattle.fst_levels.proofs.under_hard.is_under_hard.Goals.{After-hard_over-over}
use Rattle.fst_levels.proofs.under_hard.is_under_hard.Goals as goal

-- what was asked of a patch is so of the one at its index
said : (heads : List Head) (s b : ℕ) (h : Head) (told : Bool) → h ≡ get_or heads s h → told ≡ (is_change_at place.Memory b (patch_of h) && is_hard_kind (kind_of h.kind)) → told ≡ (is_change_at place.Memory b (patch_of (get_or heads s h)) && is_hard_kind (kind_of (get_or heads s h).kind))
said heads s b h told is tells = subst (λ (x : Head). told ≡ (is_change_at place.Memory b (patch_of x) && is_hard_kind (kind_of x.kind))) is tells

-- what is kept over it
over_is : (c : After-hard_over-over) (n : ℕ) → HasIndex c.args.heads.now.list.items n c.args.index → c.hard_over-over.result ≡ hard_over_of c.args.levels.now.ranks n
over_is c n index = c.hard_over-over.ensures no_rank ∙ rank_kept c.args.heads.now.list.items c.args.levels.now.ranks c.args.heads.now.rising c.requires.aligned n c.args.index index (λ r. r.hard_over) no_rank

not_hard : (c : After-hard_over-over) (n : ℕ) → HasIndex c.args.heads.now.list.items n c.args.index → IsHardNumber (patches_of c.args.heads.now.list.items) c.args.block n → ⊥
not_hard c n index hard = false≢true (sym c.if-is_hard_in.false ∙ (said c.args.heads.now.list.items c.args.index c.args.block c.index.result.now c.is_hard_in.result c.index.ensures c.is_hard_in.ensures ∙ here_hard c.args.heads.now.list.items c.args.heads.now.rising n c.args.index c.index.result.now index c.args.block hard))

pub returns-then-is_hard_in : goal.returns-then-is_hard_in
returns-then-is_hard_in c n index = (
  λ t. inl (hard_here c.args.heads.now.list.items c.args.heads.now.rising n c.args.index c.index.result.now index c.args.block (sym (said c.args.heads.now.list.items c.args.index c.args.block c.index.result.now c.is_hard_in.result c.index.ensures c.is_hard_in.ensures) ∙ c.if-is_hard_in.true)),
  λ k. refl,
)

pub returns-then-over-eq0 : goal.returns-then-over-eq0
returns-then-over-eq0 c n index =
    let at = (goal.at.returns-then-over-eq0 c).After-hard_over-over in (
      λ t. absurd (false≢true t),
      λ k. elim k [
        | inl hard ↦ absurd (not_hard at n index hard)
        | inr o ↦ absurd (o.0 (omega (arith, over_is at n index, c.if-over-eq0.true)))
      ],
    )

pub returns-in-Some : goal.returns-in-Some
returns-in-Some c n index =
    let at = (goal.at.returns-in-Some c).After-hard_over-over in
    let heads = c.args.heads.now.list.items in
    let b = c.args.block in
    let s = c.in-Some.at in
    let d = c.index-in-Some.result.now in
    let over = c.hard_over-over.result in
    let told = said heads s b d c.is_hard_in-in-Some.result c.index-in-Some.ensures c.is_hard_in-in-Some.ensures in (
      λ t. inr (λ none. c.if-over-eq0.false (omega (arith, over_is at n index, none)), subst (IsHardNumber (patches_of heads) b) (over_is at n index) (hard_here heads c.args.heads.now.rising over s d c.in-Some.ensures.found b (sym told ∙ t))),
      λ k. elim k [
        | inl hard ↦ absurd (not_hard at n index hard)
        | inr o ↦ told ∙ here_hard heads c.args.heads.now.rising over s d c.in-Some.ensures.found b (subst (IsHardNumber (patches_of heads) b) (sym (over_is at n index)) o.1)
      ],
    )

pub returns-in-None : goal.returns-in-None
returns-in-None c n index =
    let at = (goal.at.returns-in-None c).After-hard_over-over in (
      λ t. absurd (false≢true t),
      λ k. elim k [
        | inl hard ↦ absurd (not_hard at n index hard)
        | inr o ↦ absurd (no_patch c.args.heads.now.list.items c.hard_over-over.result c.in-None.ensures.none o.1.patch o.1.head (o.1.numbered ∙ sym (over_is at n index)))
      ],
    )
