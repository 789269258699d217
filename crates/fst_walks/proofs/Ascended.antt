-- A walk whose steps are told by a relation: what it has met so far, and that in the end it has met all.
use Rattle.std.proofs.Common.{◌≡◌, ◌≤◌, ◌<◌, ◌+◌, ◌↔◌, ◌⊎◌, ℕ, Bool, List, [], ◌++◌, length, get_or, Contains, sym, ap, subst, ◌∙◌, inl, inr, arith}
use Rattle.std.proofs.{lemmas.Bool.{cases_lt}, lemmas.List.{append-nil, append_assoc, get_or_append_left}}
use Rattle.std.proofs.lemmas.List.Elements.{Contains-append_left, Contains-get_or}
use Rattle.fst_types.specs.Closure.{Closure, one, join}
use Rattle.fst_heads.specs.Reaching.{IsReached}
use Rattle.fst_heads.proofs.Indices.{any_default}
use Rattle.fst_walks.specs.{Descending.{GoesOn, IsLedFrom, Visits}, Searching.Advances}
use Rattle.fst_walks.proofs.Visiting.{visits_old}

-- all that steps lead to from the first `at` in the queue is there
pub record Climbing (Steps : ℕ → ℕ → Type 0) (start : List ℕ) (at : ℕ) (queue : List ℕ) : Type 0 where
  pub grown : (rest : List ℕ) × (queue ≡ start ++ rest)
  pub only : (n : ℕ) → Contains queue n → IsLedFrom Steps start n
  pub done : (i q : ℕ) → i < at → i < length queue → Steps (get_or queue i 0) q → Contains queue q

-- at first nothing is done
pub climbing_first : (Steps : ℕ → ℕ → Type 0) (start : List ℕ) → Climbing Steps start 0 start
climbing_first Steps start = record { grown = ([], sym (append-nil start)); only = λ n c. inl c; done = λ i q up lt s. absurd (omega (arith, up)) }

-- what the walk starts from stays in the queue
pub climbing_begun : (Steps : ℕ → ℕ → Type 0) (start : List ℕ) (at : ℕ) (queue : List ℕ) → Climbing Steps start at queue → (n : ℕ) → Contains start n → Contains queue n
climbing_begun Steps start at queue x n c = subst (λ q. Contains q n) (sym x.grown.1) (Contains-append_left start x.grown.0 n c)

pub led_on : (Steps : ℕ → ℕ → Type 0) (start : List ℕ) (n q : ℕ) → IsLedFrom Steps start n → Steps n q → IsLedFrom Steps start q
led_on Steps start n q m s = elim m [
  | inl c ↦ inr (n, c, one s)
  | inr r ↦ inr (r.0, r.1, join r.2 (one s))
]

-- one of the queue, at turn p: then all of the first `next` are done, if these were done or are that one
module _ (Steps : ℕ → ℕ → Type 0) (start : List ℕ) (at p next : ℕ) (queue new : List ℕ) (past : at ≤ length queue) (inside : p < length queue)
    (few : (i : ℕ) → i < next → (i < at) ⊎ (i ≡ p)) (x : Climbing Steps start at queue) (v : Visits (Steps (get_or queue p 0)) queue new) where
  same_at : (i : ℕ) → i < length queue → get_or new i 0 ≡ get_or queue i 0
  same_at i lt = ap (λ q. get_or q i 0) v.kept.1 ∙ get_or_append_left queue v.kept.0 0 i lt

  to_new : (q : ℕ) → Contains queue q → Contains new q
  to_new q c = visits_old (Steps (get_or queue p 0)) queue new v q c

  pub climbing_at : Climbing Steps start next new
  climbing_at = record {
    grown = (x.grown.0 ++ v.kept.0, v.kept.1 ∙ (ap (λ q. q ++ v.kept.0) x.grown.1 ∙ append_assoc start x.grown.0 v.kept.0));
    only = λ q c. elim (v.only q c) [
      | inl old ↦ x.only q old
      | inr s ↦ led_on Steps start (get_or queue p 0) q (x.only (get_or queue p 0) (Contains-get_or queue p 0 inside)) s
    ];
    done = λ i q up lt s. elim (few i up) [
      | inl before ↦ to_new q (x.done i q before (omega (arith, before, past)) (subst (λ m. Steps m q) (same_at i (omega (arith, before, past))) s))
      | inr here ↦ v.each q (subst (λ m. Steps m q) (same_at i (omega (arith, here, inside)) ∙ ap (λ j. get_or queue j 0) here) s)
    ];
  }

-- the next one
pub next_or_done : (at i : ℕ) → i < at + 1 → (i < at) ⊎ (i ≡ at)
next_or_done at i up = elim (cases_lt i at) [ inl before ↦ inl before | inr past ↦ inr (omega (arith, up, past)) ]

pub climbing_more : (Steps : ℕ → ℕ → Type 0) (start : List ℕ) (at : ℕ) (queue new : List ℕ) → at < length queue → Climbing Steps start at queue → Visits (Steps (get_or queue at 0)) queue new → Climbing Steps start (at + 1) new
climbing_more Steps start at queue new inside x v = climbing_at Steps start at at (at + 1) queue new (omega (arith, inside)) inside (next_or_done at) x v

-- what is visited by a step from any in the queue, steps lead to from there
pub visits_on : (Steps : ℕ → ℕ → Type 0) (turn : ℕ) (queue new : List ℕ) → turn < length queue → Visits (Steps (get_or queue turn 0)) queue new → GoesOn Steps queue new
visits_on Steps turn queue new inside v = record {
  kept = v.kept;
  only = λ n c. elim (v.only n c) [ inl old ↦ inl old | inr s ↦ inr (get_or queue turn 0, Contains-get_or queue turn 0 inside, one s) ];
}

-- what steps lead to from what they lead to
led_further : (Steps : ℕ → ℕ → Type 0) (start mid : List ℕ) → ((n : ℕ) → Contains mid n → IsLedFrom Steps start n) → (n : ℕ) → IsLedFrom Steps mid n → IsLedFrom Steps start n
led_further Steps start mid led n m = elim m [
  | inl c ↦ led n c
  | inr r ↦ elim (led r.0 r.1) [ inl begun ↦ inr (r.0, begun, r.2) | inr s ↦ inr (s.0, s.1, join s.2 r.2) ]
]

-- a step from that turn
pub advanced : (Steps : ℕ → ℕ → Type 0) (at : ℕ) (queue new : List ℕ) → at < length queue → Visits (Steps (get_or queue at 0)) queue new → Advances Steps at queue new
advanced Steps at queue new inside v = record { on = visits_on Steps at queue new inside v; each = v.each }

-- and then others
pub advanced_on : (Steps : ℕ → ℕ → Type 0) (at : ℕ) (queue mid new : List ℕ) → Advances Steps at queue mid → GoesOn Steps mid new → Advances Steps at queue new
advanced_on Steps at queue mid new a on = record {
  on = record {
    kept = (a.on.kept.0 ++ on.kept.0, on.kept.1 ∙ (ap (λ q. q ++ on.kept.0) a.on.kept.1 ∙ append_assoc queue a.on.kept.0 on.kept.0));
    only = λ n c. led_further Steps queue mid a.on.only n (on.only n c);
  };
  each = λ n s. subst (λ m. Contains m n) (sym on.kept.1) (Contains-append_left mid on.kept.0 n (a.each n s));
}

-- so it is done at that turn too
pub climbing_advanced : (Steps : ℕ → ℕ → Type 0) (start : List ℕ) (at : ℕ) (queue new : List ℕ) → at < length queue → Climbing Steps start at queue → Advances Steps at queue new → Climbing Steps start (at + 1) new
climbing_advanced Steps start at queue new inside x a = record {
  grown = (x.grown.0 ++ a.on.kept.0, a.on.kept.1 ∙ (ap (λ q. q ++ a.on.kept.0) x.grown.1 ∙ append_assoc start x.grown.0 a.on.kept.0));
  only = λ n c. led_further Steps start queue x.only n (a.on.only n c);
  done = λ i q up lt s.
      let within : i < length queue = omega (arith, up, inside) in
      let own = subst (λ m. Steps m q) (ap (λ m. get_or m i 0) a.on.kept.1 ∙ get_or_append_left queue a.on.kept.0 0 i within) s in
      elim (next_or_done at i up) [
        | inl before ↦ subst (λ m. Contains m q) (sym a.on.kept.1) (Contains-append_left queue a.on.kept.0 q (x.done i q before within own))
        | inr here ↦ a.each q (subst (λ j. Steps (get_or queue j 0) q) here own)
      ];
}

-- in the end all is met
pub climbing_all : (Steps : ℕ → ℕ → Type 0) (start : List ℕ) (at : ℕ) (queue : List ℕ) → length queue ≤ at → Climbing Steps start at queue → (n : ℕ) → Contains queue n ↔ IsLedFrom Steps start n
climbing_all Steps start at queue past x n = (x.only n, λ m. elim m [ inl c ↦ begun n c | inr r ↦ on r.0 n r.2 (begun r.0 r.1) ])
  where
    begun : (n : ℕ) → Contains start n → Contains queue n
    begun = climbing_begun Steps start at queue x

    on : (p q : ℕ) → Closure Steps p q → Contains queue p → Contains queue q
    on p q (one s) c = x.done c.0 q (omega (arith, c.1, past)) c.1 (subst (λ m. Steps m q) (sym (any_default queue c.0 0 p c.1 ∙ c.2)) s)
    on p q (join {q = r} d e) c = on r q e (on p r d c)

-- a walk that crosses blocks too: besides, all across each block that is crossed since it began is there
pub record Walking (Steps To : ℕ → ℕ → Type 0) (crossed : List Bool) (start : List ℕ) (at : ℕ) (now : List Bool) (queue : List ℕ) : Type 0 where
  pub climbing : Climbing Steps start at queue
  pub kept : (c : ℕ) → IsReached crossed c → IsReached now c
  pub shut : (c q : ℕ) → IsReached now c → (IsReached crossed c → ⊥) → To c q → Contains queue q
