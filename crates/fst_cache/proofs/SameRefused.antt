-- Where a call of the graph is refused, the state is as it was: only what was prepared is gone.
use Rattle.std.proofs.Common.{◌≡◌, List, ◌∷◌, None, ap, inl, inr}
use Rattle.std.specs.Prelude.{Result, Ok, Err, OnOk, OnErr, IfErr, MatchResult}
use Rattle.fst_types.specs.declared.fault.Fault.{Fault}
use Rattle.fst_types.specs.Refusals.{Rule, ◌when◌}
use Rattle.fst_types.specs.Events.{Event, Refused}
use Rattle.fst_types.specs.Order.{IsRefusal}
use Rattle.fst_types.specs.Step.{Step, refused}
use Rattle.fst_graph.specs.Known.{Known, Refuses, unprepared}
use Rattle.fst_cache.specs.declared.cache.Cache.TheInside.{Inside}
use Rattle.fst_cache.specs.Kept.{IsKept, state_of, view_of}
use Rattle.fst_cache.proofs.Kept.{with_graph, kept_prepared}

-- a rule before the others does not hold
pub refuses_past : (f x : Fault) (P : Type 0) (rules : List Rule) → (P → ⊥) → Refuses rules f → Refuses (x when P ∷ rules) f
refuses_past f x P rules free (inl first) = inl (inr (free, first))
refuses_past f x P rules free (inr none) = inr ((free, none.0), none.1)

module _ {Slot : Type 0} (i : Inside Slot) {graph : Known} (same : graph ≡ unprepared i.graph) where
  state_unprepared : state_of (with_graph i graph) ≡ state_of i
  state_unprepared = ap (λ (k : Known). state_of (with_graph i k)) same

  pub view_unprepared : view_of (with_graph i graph) ≡ view_of i
  view_unprepared = ap (λ (k : Known). view_of (with_graph i k)) same

  pub kept_unprepared : IsKept i → IsKept (with_graph i graph)
  kept_unprepared K = kept_prepared i K graph None same

  pub step_unprepared : (event : Event) (fault : Fault) → IsRefusal (state_of i) event fault → Step (state_of i) event (Refused fault) (state_of (with_graph i graph))
  step_unprepared event fault r = rw state_unprepared (refused r)

-- two facts of the Ok end are one
pub both_ok : {T E : Type 0} (P Q : Type 0) (r : Result T E) → OnOk r P → OnOk r Q → OnOk r (P × Q)
both_ok P Q (Ok x) p q = (p, q)
both_ok P Q (Err e) p q = tt

-- what either end of a call gives, where each gives one fact
pub on_either : {T E P Q A : Type 0} (r : Result T E) → OnOk r P → OnErr r Q → (P → A) → (Q → A) → A
on_either (Ok x) p q f h = f p
on_either (Err e) p q f h = h q

pub match_either : {T E P Q A : Type 0} {R B : E → Type 0} (r : Result T E) → OnOk r P → OnErr r Q → IfErr r R → (P → A) → ((e : E) → Q → R e → B e) → MatchResult r (λ u. A) B
match_either (Ok x) p q why f h = f p
match_either (Err e) p q why f h = h e q why
