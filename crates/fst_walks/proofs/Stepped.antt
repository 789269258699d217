-- What is next to a head, up or down, is what a step leads to.
use Rattle.std.proofs.Common.{◌≡◌, ℕ, List, get_or, Contains, sym, subst}
use Rattle.fst_heads.specs.{Heads.{IsRising, patches_of}, Indices.HasIndex, Nodes.{AreLinked, node_of, nodes_of, pending_in}, declared.head.Head.Head, declared.pending.Pending.Pending}
use Rattle.fst_heads.proofs.{AtNumber.patches_in_nodes, PendingAt.node_in, Indices.{any_default, direct_at, named_at}}
use Rattle.fst_walks.specs.{Searching.{IsNext, IsNextAbove, StandApart, row_on}, declared.cycle.Way.Way}
use Rattle.fst_levels.specs.Walks.{Trail}
use Rattle.fst_walks.proofs.SearchedAbove.{above_from, above_to}
use Rattle.fst_heads.specs.declared.pending.Pending.TheVariants as pending
use Rattle.fst_walks.specs.declared.cycle.Way.TheVariants as way

module _ (heads : List Head) (rising : IsRising heads) (linked : AreLinked (nodes_of heads)) (n s : ℕ) (d : Head) (index : HasIndex heads n s) where
  abbrev told : ℕ → Pending
  told = pending_in (nodes_of heads)

  abbrev x : Head
  x = get_or heads s d

  pub next_from : (w : Way) (q : ℕ) → Contains (row_on w x) q → told q ≡ pending.Held → IsNext w (patches_of heads) told n q
  next_from way.Up q named held =
      subst (λ m. IsNextAbove (patches_of heads) told m q) (index.1 d)
      (subst (λ p. IsNextAbove p told x.number q) (patches_in_nodes heads) (above_from (nodes_of heads) linked (node_of x) (node_in heads s x index.0 (any_default heads s d x index.0)) q named held))
  next_from way.Down q named held = (direct_at heads n q s d index named, held)

  pub next_to : (w : Way) (q : ℕ) → IsNext w (patches_of heads) told n q → Contains (row_on w x) q × (told q ≡ pending.Held)
  next_to way.Up q next =
      above_to (nodes_of heads) linked (node_of x) (node_in heads s x index.0 (any_default heads s d x index.0)) q
      (subst (λ p. IsNextAbove p told x.number q) (sym (patches_in_nodes heads)) (subst (λ m. IsNextAbove (patches_of heads) told m q) (sym (index.1 d)) next))
  next_to way.Down q next = (named_at heads n q s d rising index next.0, next.1)

-- where neither walk has met what the other has, it does not matter which is named first
pub turned : {heads : List Head} {walk other : Trail} → StandApart heads walk other → StandApart heads other walk
turned x = record { walk_live = x.other_live; other_live = x.walk_live; apart = λ n there here. x.apart n here there }
