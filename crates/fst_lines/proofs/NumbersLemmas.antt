-- The numbers of a list, one after another.
use Rattle.std.proofs.Common.{◌≡◌, ℕ, suc, ◌+◌, ◌<◌, get_or, drop, length, drop-cons, add-one, List, [], ◌∷◌, ◌++◌, Option, Some, None, option_map, append_assoc, append-nil, refl, sym, ap, ◌∙◌}
use Rattle.fst_types.specs.declared.fault.Fault.{Fault}
use Rattle.serde_json.specs.Data.{Data, Items, item}
use Rattle.fst_lines.specs.Members.{number_in, numbers_of}
use Rattle.fst_lines.specs.Parsing.{Refuses}
use Rattle.json.specs.Token.{Token}
use Rattle.fst_lines.specs.Short.{list_of, small_number}
use Rattle.fst_lines.proofs.GivesLemmas.{Refuses-map, Refuses-then}

pub read-before : (o : Option (List ℕ)) → option_map (λ (ns : List ℕ). [] ++ ns) o ≡ o
read-before None = refl
read-before (Some ns) = refl

joined : (before : List ℕ) (n : ℕ) (o : Option (List ℕ)) → option_map (λ (ns : List ℕ). (before ++ (n ∷ [])) ++ ns) o ≡ option_map (λ (ns : List ℕ). before ++ ns) (option_map (λ (ns : List ℕ). n ∷ ns) o)
joined before n None = refl
joined before n (Some ns) = ap (λ ms. Some ms) (append_assoc before (n ∷ []) ns)

pub read-more : (before : List ℕ) (n : ℕ) (d : Data) (ds : Items) (all : Option (List ℕ)) → number_in d ≡ Some n → option_map (λ (ns : List ℕ). before ++ ns) (numbers_of (item d ds)) ≡ all → option_map (λ (ns : List ℕ). (before ++ (n ∷ [])) ++ ns) (numbers_of ds) ≡ all
read-more before n d ds all is h = joined before n (numbers_of ds) ∙ (rw is at h)

pub read-refused : (before : List ℕ) (e : Fault) (d : Data) (ds : Items) (all : Option (List ℕ)) → Refuses e (number_in d) → option_map (λ (ns : List ℕ). before ++ ns) (numbers_of (item d ds)) ≡ all → Refuses e all
read-refused before e d ds all h is = rw (← is) (Refuses-map _ e (numbers_of (item d ds)) (Refuses-then _ e (number_in d) h))

pub next-item : {A : Type 0} (xs : List A) (i : ℕ) (x : A) → i < length xs → x ≡ get_or xs i x → drop i xs ≡ x ∷ drop (i + 1) xs
next-item xs i x in-range is = rw (add-one, drop-cons xs i x) (ap (λ y. y ∷ drop (suc i) xs) (sym is))

pub read-all : (before : List ℕ) (all : Option (List ℕ)) → option_map (λ (ns : List ℕ). before ++ ns) (Some []) ≡ all → all ≡ Some before
read-all before all h = sym h ∙ ap (λ ns. Some ns) (append-nil before)

-- the same of the tokens of a list, with what comes after them
abbrev Taken : Type 0
Taken = List ℕ × List Token

abbrev behind : List ℕ → Taken → Taken
behind before p = (before ++ p.0, p.1)

abbrev beside : List Token → List ℕ → Taken
beside ts ns = (ns, ts)

pub taken-before : (o : Option Taken) → option_map (behind []) o ≡ o
taken-before None = refl
taken-before (Some p) = refl

taken-joined : (before : List ℕ) (n : ℕ) (o : Option Taken) → option_map (behind (before ++ (n ∷ []))) o ≡ option_map (behind before) (option_map (behind (n ∷ [])) o)
taken-joined before n None = refl
taken-joined before n (Some p) = ap (λ ns. Some (beside p.1 ns)) (append_assoc before (n ∷ []) p.0)

pub taken-more : (before : List ℕ) (n : ℕ) (text : List ℕ) (ts : List Token) (all : Option Taken) → small_number text ≡ Some n → option_map (behind before) (list_of (Token.number text ∷ ts)) ≡ all → option_map (behind (before ++ (n ∷ []))) (list_of ts) ≡ all
taken-more before n text ts all is h = taken-joined before n (list_of ts) ∙ (rw is at h)
