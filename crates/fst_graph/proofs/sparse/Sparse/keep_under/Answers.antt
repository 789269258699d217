use Rattle.std.proofs.Common.{arith, sym}
use Rattle.fst_graph.proofs.{Ranks.leveled_then, Sound.{as_many_marks, as_many_places, if_prepared, over_down, settled_sound, with_prepared}}
use Rattle.fst_graph.proofs.sparse.Sparse.keep_under.Goals as goal

pub keep_under-requires-clause-leveled : goal.keep_under-requires-clause-leveled
keep_under-requires-clause-leveled c = leveled_then (sym c.self.invariant.0.leveled.long) c.self.invariant.0.leveled

pub keep_under-requires-clause-long : goal.keep_under-requires-clause-long
keep_under-requires-clause-long c = as_many_marks c.self.invariant.0

pub invariant_of-self : goal.invariant_of-self
invariant_of-self c =
    let S = c.self.invariant.0 in
    let s = c.self.inside in
    let leveled = leveled_then S.leveled.long c.keep_under.ensures.leveled in
    let long = c.keep_under.ensures.long in (
      with_prepared (settled_sound S (record { long = long; crossed = as_many_places S }) (over_down S) leveled)
          (if_prepared S _ (λ p is k. record {
            ready = k.ready;
            places = record {
              heads_free = k.places.heads_free;
              marks_free = (let free = k.places.marks_free in omega (arith, free, long, as_many_marks S, c.keep_under.ensures.room));
              below_free = k.places.below_free;
              ranks_free = (let free = k.places.ranks_free in omega (arith, free, c.keep_under.ensures.levels.0, c.keep_under.ensures.levels.1));
            };
            waits = k.waits;
            around = k.around;
            runs = k.runs;
            in_list = k.in_list;
            needed = k.needed;
          })),
      c.self.invariant.1,
    )
