-- Lists whose numbers rise, for looks by halves.
use Rattle.fst_heads.proofs.Basics.{◌<◌, ◌+◌, ◌++◌, List, AllPairs, length, get_or, ap, arith, cases_eq, inl, inr, IsNonDecreasingBy, length-append}
use Rattle.std.proofs.lemmas.List.{get_or-append-add}
use Rattle.fst_heads.proofs.Words.{Listed}

pub not_falling : (list : List Listed) → AllPairs (λ x y. x.number < y.number) list → IsNonDecreasingBy (λ l. l.number) list
not_falling list rising i j d le lt = elim (cases_eq i j) [
  | inl same ↦ omega (arith, ap (λ k. (get_or list k d).number) same)
  | inr ne ↦ let less : i < j = omega (arith, le, ne) in omega (arith, rising i j d less lt)
]

-- what is left of such a list is such a list
pub rising_behind : (before rest : List Listed) → AllPairs (λ x y. x.number < y.number) (before ++ rest) → AllPairs (λ x y. x.number < y.number) rest
rising_behind before rest rising i j d less lt =
    let up = rising (length before + i) (length before + j) d (omega (arith, less)) (omega (arith, lt, length-append before rest)) in
    omega (arith, up, ap (λ l. l.number) (get_or-append-add before rest i d), ap (λ l. l.number) (get_or-append-add before rest j d))
