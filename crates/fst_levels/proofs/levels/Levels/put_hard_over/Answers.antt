use Rattle.std.proofs.Common.{length, sym, subst}
use Rattle.fst_heads.specs.Heads.{patches_of}
use Rattle.fst_levels.specs.{Leveling.{IsLeveled, Leveling}, Walks.number_at}
use Rattle.fst_levels.proofs.{KeptOver.told_is_leveled, MetNumbers.index_at}
use Rattle.fst_levels.proofs.levels.Levels.put_hard_over.Goals as goal

pub returns-clause-leveled : goal.returns-clause-leveled
returns-clause-leveled c =
    let heads = c.args.heads.now.list.items in
    let s = c.args.index in
    let at = index_at heads s c.requires.index in
    let old : Leveling = record { ranks = c.self.inside.ranks.list.items; floors = c.self.inside.floors.items; room = c.self.inside.room } in
    rw (← c.self.view_is)
    (told_is_leveled heads c.args.heads.now.rising (length old.floors) old (subst (λ (v : Leveling). IsLeveled (patches_of heads) (length v.floors) v) (sym c.self.view_is) c.requires.leveled)
    (number_at heads s) s c.args.over at (c.requires.under (number_at heads s) at) c.index_mut.result.now c.index_mut.ensures.value)
