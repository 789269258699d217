-- One of many lists is set: what is told of it, of each other, and of the room.
use Rattle.std.proofs.Common.{◌≡◌, ◌≢◌, ◌<◌, ◌≤◌, ◌+◌, ◌∙◌, ℕ, List, map, set, length, get_or, ap, sym, inl, inr, arith, vec_len, vec_capacity}
use Rattle.std.proofs.lemmas.{Bool.cases_eq, List.{get_or-set_same, get_or-set_other, get_or-map, length-map, map-set}}
use Rattle.std.specs.Global.{Vec}

module _ {X Y : Type 0} (f : X → Y) (xs : List X) (k : ℕ) (x : X) where
  pub told_here : (d : Y) → k < length xs → get_or (map f (set xs k x)) k d ≡ f x
  told_here d lt = ap (λ ys. get_or ys k d) (map-set f xs k x) ∙ get_or-set_same (map f xs) k (f x) d (omega (arith, lt, length-map xs f))

  pub told_beside : (c : ℕ) (d : Y) → c ≢ k → get_or (map f (set xs k x)) c d ≡ get_or (map f xs) c d
  told_beside c d other = ap (λ ys. get_or ys c d) (map-set f xs k x) ∙ get_or-set_other (map f xs) k c (f x) d other

module _ {X Y : Type 0} (f : X → Y) (xs : List X) (k : ℕ) (x : X) (d : Y) (lt : k < length xs) (was : x ≡ get_or xs k x) where
  pub told_was : get_or (map f xs) k d ≡ f x
  told_was = get_or-map f xs k x d lt ∙ ap f (sym was)

-- one list that is no longer and has no smaller capacity leaves the room
module _ {X : Type 0} (lists : List (Vec X)) (k : ℕ) (was now : Vec X) (lt : k < length lists) (is : was ≡ get_or lists k was)
    (len : vec_len now ≤ vec_len was) (cap : vec_capacity was ≤ vec_capacity now) (b room : ℕ)
    (fits : get_or (map (λ (l : Vec X). vec_len l) lists) b 0 + room ≤ get_or (map (λ (l : Vec X). vec_capacity l) lists) b 0) where
  pub room_left : get_or (map (λ (l : Vec X). vec_len l) (set lists k now)) b 0 + room ≤ get_or (map (λ (l : Vec X). vec_capacity l) (set lists k now)) b 0
  room_left = elim (cases_eq b k) [
    | inl e ↦
        let at_len = ap (λ c. get_or (map (λ (l : Vec X). vec_len l) (set lists k now)) c 0) e ∙ told_here (λ (l : Vec X). vec_len l) lists k now 0 lt in
        let at_cap = ap (λ c. get_or (map (λ (l : Vec X). vec_capacity l) (set lists k now)) c 0) e ∙ told_here (λ (l : Vec X). vec_capacity l) lists k now 0 lt in
        let was_len = ap (λ c. get_or (map (λ (l : Vec X). vec_len l) lists) c 0) e ∙ told_was (λ (l : Vec X). vec_len l) lists k was 0 lt is in
        let was_cap = ap (λ c. get_or (map (λ (l : Vec X). vec_capacity l) lists) c 0) e ∙ told_was (λ (l : Vec X). vec_capacity l) lists k was 0 lt is in
        omega (arith, at_len, at_cap, was_len, was_cap, len, cap, fits)
    | inr o ↦
        let at_len = told_beside (λ (l : Vec X). vec_len l) lists k now b 0 o in
        let at_cap = told_beside (λ (l : Vec X). vec_capacity l) lists k now b 0 o in
        omega (arith, at_len, at_cap, fits)
  ]
