use Rattle.fst_heads.proofs.{Basics.{◌∙◌, [], length-map, map, arith, common_steps}, Indices.any_default, Words.entries_of}
use Rattle.fst_heads.proofs.lists.empty_lists.Goals as goal

pub loop-preserved : goal.loop-preserved
loop-preserved c = grind (arith, common_steps)

pub returns : goal.returns
returns c =
    let long = length-map c.loop.lists.items (λ v. entries_of v.items) in
    record {
      long = omega (arith, long, c.loop.invariant.long);
      each = λ b d lt. any_default (map (λ v. entries_of v.items) c.loop.lists.items) b d [] (omega (arith, lt, long, c.loop.invariant.long)) ∙ c.loop.invariant.empty b;
    }
