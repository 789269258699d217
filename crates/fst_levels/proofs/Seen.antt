-- The patches of heads, seen through their nodes.
use Rattle.std.proofs.Common.{◌≡◌, ◌≤◌, ◌∙◌, ℕ, List, map, sym, ap, subst, arith, cond, eqb, inl, inr}
use Rattle.std.proofs.lemmas.Bool.{cases_Bool}
use Rattle.fst_types.specs.Facts.{HasOnePlaceEach, SparseAreLawful}
use Rattle.fst_heads.specs.{Heads.patches_of, Keeps.Tallies, Lists.Entry, Nodes.{Node, nodes_of, patches_in, linked_to, at_number, gains_names}}
use Rattle.fst_heads.specs.{declared.head.Head.Head, declared.pending.Sums.Sums, declared.standing.Standing.Standing}
use Rattle.fst_heads.proofs.AtNumber.{patches_in_nodes}
use Rattle.fst_levels.proofs.Linked.{patches_linked}

pub seen : (heads : List Head) (nodes : List Node) → nodes_of heads ≡ nodes → patches_of heads ≡ patches_in nodes
seen heads nodes e = sym (patches_in_nodes heads) ∙ ap patches_in e

-- dependants are no part of a patch
pub linked_patches : (new old : List Head) (row : List ℕ) (n : ℕ) → nodes_of new ≡ map (linked_to row n) (nodes_of old) → patches_of new ≡ patches_of old
linked_patches new old row n e = seen new _ e ∙ (patches_linked (nodes_of old) row n ∙ patches_in_nodes old)

pub same_patches : (new old : List Head) → nodes_of new ≡ nodes_of old → patches_of new ≡ patches_of old
same_patches new old e = seen new _ e ∙ patches_in_nodes old

pub one_each : (heads : List Head) (numbers : ℕ) → HasOnePlaceEach (patches_of heads) numbers → HasOnePlaceEach (patches_in (nodes_of heads)) numbers
one_each heads numbers H = subst (λ ps. HasOnePlaceEach ps numbers) (sym (patches_in_nodes heads)) H

pub lawful_nodes : (heads : List Head) (numbers : ℕ) → SparseAreLawful (patches_of heads) numbers → SparseAreLawful (patches_in (nodes_of heads)) numbers
lawful_nodes heads numbers H = subst (λ ps. SparseAreLawful ps numbers) (sym (patches_in_nodes heads)) H

-- a queue with more room
pub tallies_wider : (nodes : List Node) (numbers blocks : ℕ) (lists : List (List Entry)) (standings : List Standing) (queue wider : List ℕ) (cap cap' : ℕ)
    → Tallies nodes numbers blocks lists standings queue cap → wider ≡ queue → cap ≤ cap' → Tallies nodes numbers blocks lists standings wider cap'
tallies_wider nodes numbers blocks lists standings queue wider cap cap' T same le = record {
  linked = T.linked;
  given = T.given;
  distinct = T.distinct;
  settled = T.settled;
  counted = T.counted;
  listed = T.listed;
  standing = T.standing;
  marked = T.marked;
  idle = same ∙ T.idle;
  room = omega (arith, T.room, le);
}

pub gained_number : (g : ℕ) (names : List ℕ) (sums : Sums) (x : Node) → (at_number g (gains_names names sums) x).patch.number ≡ x.patch.number
gained_number g names sums x =
    elim (cases_Bool (eqb x.patch.number g)) [
      | inl here ↦ ap (λ t. (cond t (gains_names names sums x) x).patch.number) here
      | inr away ↦ ap (λ t. (cond t (gains_names names sums x) x).patch.number) away
    ]
