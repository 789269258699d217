-- The payload of each node stays where the heap has room for it.
use Rattle.std.proofs.Common.{◌≡◌, ℕ, zero, suc, ◌<◌, List, [], ◌∷◌, length, slice_index_or, slice_set, Option, Some, None, ap, ◌∙◌, arith}
use Rattle.std.specs.Prelude.{MatchOption}
use Rattle.std.proofs.Math.Seq.{map-set_same}
use Rattle.fst_chain.specs.declared.heap.Place.{Place}
use Rattle.fst_chain.specs.declared.node.Node.{Node}
use Rattle.fst_chain.specs.Held.{tail_at}
use Rattle.fst_chain.specs.Records.{without}
use Rattle.fst_chain.specs.Chained.{tail_of, tails_of, NextSet, PrevSet}
use Rattle.fst_chain.proofs.Removed.{map-without}

module _ {X : Type 0} where
  pub tail_is : (xs : List (Node X)) (i : ℕ) (m : Node X) → m ≡ slice_index_or xs i m → i < length xs → tail_of m ≡ tail_at (tails_of xs) i
  tail_is [] i m is lt = absurd (omega (arith, lt))
  tail_is (x ∷ xs) zero m is lt = ap tail_of is
  tail_is (x ∷ xs) (suc i) m is lt = tail_is xs i m is (omega (arith, lt))

  pub same_tails : (xs : List (Node X)) (i : ℕ) (w m : Node X) → tail_of w ≡ tail_of m → m ≡ slice_index_or xs i m → tails_of (slice_set xs i w) ≡ tails_of xs
  same_tails xs i w m e is = map-set_same tail_of xs i w m (e ∙ ap tail_of is)

  next_tails : (o : Option Place) (xs ys : List (Node X)) (i : ℕ) (a : Option Place) → MatchOption o (ys ≡ xs) (λ _. NextSet xs ys i a) → tails_of ys ≡ tails_of xs
  next_tails None xs ys i a e = ap tails_of e
  next_tails (Some l) xs ys i a e = e.tails

  prev_tails : (o : Option Place) (xs ys : List (Node X)) (i : ℕ) (a : Option Place) → MatchOption o (ys ≡ xs) (λ _. PrevSet xs ys i a) → tails_of ys ≡ tails_of xs
  prev_tails None xs ys i a e = ap tails_of e
  prev_tails (Some l) xs ys i a e = e.tails

  pub tails_without : (prev next : Option Place) (xs ys zs : List (Node X)) (i j : ℕ) (a b : Option Place) → MatchOption prev (ys ≡ without xs i) (λ _. NextSet (without xs i) ys j a) → MatchOption next (zs ≡ ys) (λ _. PrevSet ys zs i b)
      → tails_of zs ≡ without (tails_of xs) i
  tails_without prev next xs ys zs i j a b e f = prev_tails next ys zs i b f ∙ next_tails prev (without xs i) ys j a e ∙ map-without tail_of xs i
