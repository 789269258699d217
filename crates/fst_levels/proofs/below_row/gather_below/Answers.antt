use Rattle.std.proofs.Common.{Contains, inl, inr, subst}
use Rattle.std.proofs.lemmas.List.Elements.{Contains-get_or}
use Rattle.fst_types.specs.Closure.{one, join}
use Rattle.fst_levels.proofs.Trails.{none_in}
use Rattle.fst_levels.proofs.below_row.gather_below.Goals as goal

pub loop-number-init : goal.loop-number-init
loop-number-init c n k = elim k [
  | inl change ↦ absurd (none_in n (subst (λ ns. Contains ns n) c.clear.ensures.items change))
  | inr other ↦ absurd (none_in n (subst (λ ns. Contains ns n) c.clear-2.ensures.items other))
]

pub loop-number-preserved : goal.loop-number-preserved
loop-number-preserved c n k =
    let few = c.newest_few-number-items.result.now in
    elim (c.gather_under.ensures n k) [
      | inl was ↦ c.loop-number.invariant n was
      | inr direct ↦ inr (_, c.newest_few-number-items.ensures.only _ (Contains-get_or few c.loop-number.number-index 0 c.loop-number-test.true), one direct)
    ]

pub loop-init : goal.loop-init
loop-init c = c.loop-number.invariant

pub loop-preserved : goal.loop-preserved
loop-preserved c n k = elim (c.gather_under-in-loop.ensures n k) [
  | inl was ↦ c.loop.invariant n (c.next.ensures.only n was)
  | inr direct ↦ elim (c.loop.invariant _ c.in-Some.ensures.next) [
    | inl named ↦ inr (_, named, one direct)
    | inr t ↦ inr (t.0, t.1, join t.2 (one direct))
  ]
]

pub returns-in_default : goal.returns-in_default
returns-in_default c n k = c.loop.invariant n (c.next.ensures.only n k)
