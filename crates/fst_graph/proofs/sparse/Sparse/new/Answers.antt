use Rattle.std.proofs.Common.{◌∙◌, [], Contains, refl, subst, sym, arith, lit≤}
use Rattle.fst_heads.proofs.Making.{keeps_none}
use Rattle.fst_graph.proofs.{Kept.keeps_walked, Tallied.tallies_from}
use Rattle.fst_graph.proofs.sparse.Sparse.new.Goals as goal

pub invariant_of-result : goal.invariant_of-result
invariant_of-result c =
    let ends = c.in-Ok-new-3.ensures in
    let K = keeps_none c.args.numbers c.args.shape.blocks (omega (arith, c.ranges.numbers.fits)) in (
      record {
        keeps = rw c.new-5.ensures (keeps_walked ends.0.long K);
        beside = rw c.new-5.ensures (record { places = ends.0.crossed; counted = refl; few = lit≤ tt });
        tallies = rw (c.new-5.ensures, c.new-6.ensures.items) (tallies_from [] c.args.numbers c.args.numbers c.args.shape.blocks _ _ [] _ K.lawful
            (λ p q h. absurd (omega (arith, h.1)))
            (λ x n h. absurd (omega (arith, h.1)))
            (λ x h. absurd (omega (arith, h.1)))
            (record { summed = λ x h. absurd (omega (arith, h.1)); settled = λ x h. absurd (omega (arith, h.1)); placed = λ x h. absurd (omega (arith, h.1)); inside = λ x b h. absurd (omega (arith, h.1)) })
            c.in-Ok-empty_lists.ensures
            c.in-Ok.ensures
            refl
            (omega arith));
        covered = rw c.new-5.ensures c.in-Ok-empty_covers.ensures;
        along = record { marks = ends.1.long ∙ sym ends.0.long; places = ends.1.crossed ∙ sym ends.0.crossed };
        leveled = rw c.new-5.ensures c.in-Ok-new.ensures;
        needing = rw c.new-5.ensures c.in-Ok-new-2.ensures.needing;
        given = λ w k. let none = subst (λ ws. Contains ws w) c.in-Ok-new-2.ensures.ways k in absurd (omega (arith, none.1));
        prepared = tt;
      },
      record {
        counted = rw c.new-5.ensures refl;
        few = rw c.new-5.ensures (omega arith);
        told = rw (c.new-5.ensures, c.new-7.ensures.items) (record { gone = λ x h. absurd (omega (arith, h.1)); only = λ n h. absurd (omega (arith, h.1)); each = λ x h. absurd (omega (arith, h.1)); once = λ i j d lt inside. absurd (omega (arith, inside)) });
        shelf = rw c.new-5.ensures (omega arith);
        spare = tt;
      },
    )
