-- A direct dependency is told from both sides: by the row of the one patch, and by the dependants of the other.
use Rattle.fst_heads.proofs.Basics.{◌≡◌, ◌<◌, ℕ, List, get_or, Contains, true, sym, subst}
use Rattle.fst_heads.proofs.Patches.{is_among, among_in, in_among, In, DirectlyOn}
use Rattle.fst_heads.proofs.Words.{Head, IsRising, patches_of, HasIndex, AreLinked, node_of, nodes_of}
use Rattle.fst_heads.proofs.{PendingAt.node_in, Rows.{direct_from, direct_to}, Indices.any_default, Waiting.{times_some, some_times}}

module _ (heads : List Head) (rising : IsRising heads) (linked : AreLinked (nodes_of heads)) (p q s t : ℕ) (d e : Head) (over : HasIndex heads p s) (under : HasIndex heads q t) where
  abbrev one : Head
  one = get_or heads s d

  abbrev other : Head
  other = get_or heads t e

  one_in : Contains (nodes_of heads) (node_of one)
  one_in = node_in heads s one over.0 (any_default heads s d one over.0)

  other_in : Contains (nodes_of heads) (node_of other)
  other_in = node_in heads t other under.0 (any_default heads t e other under.0)

  pub told_over : is_among other.dependants.items p ≡ true → DirectlyOn (patches_of heads) p q
  told_over m =
      let there = times_some other.dependants.items one.number (subst (In other.dependants.items) (sym (over.1 d)) (among_in other.dependants.items p m)) in
      let here = some_times one.dependencies.items other.number (subst (λ k. 0 < k) (linked (node_of one) (node_of other) one_in other_in) there) in
      direct_from heads rising p s d over q (in_among one.dependencies.items q (subst (In one.dependencies.items) (under.1 e) here))

  pub over_told : DirectlyOn (patches_of heads) p q → is_among other.dependants.items p ≡ true
  over_told on =
      let here = times_some one.dependencies.items other.number (subst (In one.dependencies.items) (sym (under.1 e)) (among_in one.dependencies.items q (direct_to heads rising p s d over q on))) in
      let there = some_times other.dependants.items one.number (subst (λ k. 0 < k) (sym (linked (node_of one) (node_of other) one_in other_in)) here) in
      in_among other.dependants.items p (subst (In other.dependants.items) (over.1 d) there)
