-- A list read backwards has the same elements.
use Rattle.std.proofs.Common.{◌≡◌, ◌<◌, ◌-◌, ℕ, List, length, reverse, get_or, Contains, sym, ◌∙◌, arith}
use Rattle.std.proofs.lemmas.{List.{get_or-reverse, length-reverse}}

pub in_reversed : {X : Type 0} (xs : List X) (k : ℕ) (x : X) → k < length (reverse xs) → x ≡ get_or (reverse xs) k x → Contains xs x
in_reversed xs k x lt e =
    let long = length-reverse xs in
    let inside : k < length xs = omega (arith, lt, long) in
    (length xs - 1 - k, omega (arith, inside), sym (get_or-reverse xs k x inside) ∙ sym e)
