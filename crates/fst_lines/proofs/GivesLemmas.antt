-- What is refused of a part is refused of what is made of it.
use Rattle.std.proofs.Common.{◌≡◌, ℕ, List, Option, None, Some, option_map, option_and_then, Result, Ok, Err, sym, ap, subst}
use Rattle.std.specs.Prelude.{ok_or}
use Rattle.fst_types.specs.declared.fault.Fault.{Fault}
use Rattle.fst_types.specs.declared.fault.Fault.TheVariants as fault
use Rattle.fst_lines.specs.Parsing.{Refuses, Gives}

pub Refuses-map : {A B : Type 0} (f : A → B) (e : Fault) (o : Option A) → Refuses e o → Refuses e (option_map f o)
Refuses-map f fault.Memory o h = tt
Refuses-map f fault.BadField o h = ap (option_map f) h
Refuses-map f _ o h = absurd h

pub Refuses-then : {A B : Type 0} (f : A → Option B) (e : Fault) (o : Option A) → Refuses e o → Refuses e (option_and_then f o)
Refuses-then f fault.Memory o h = tt
Refuses-then f fault.BadField o h = ap (option_and_then f) h
Refuses-then f _ o h = absurd h

-- what a name reads, where it is a word
pub Gives-at : {X Y : Type 0} (v : X → Y) (F : List ℕ → Option Y) (r : Result X Fault) {word name : List ℕ} → name ≡ word → Gives v r (F word) → Gives v r (F name)
Gives-at v F r e h = subst (λ n. Gives v r (F n)) (sym e) h

-- what is not there is refused as that
pub Gives-ok_or : {X Y : Type 0} (v : X → Y) (o : Option X) (r : Result X Fault) (read : Option Y) → r ≡ ok_or o fault.BadField → option_map v o ≡ read → Gives v r read
Gives-ok_or v None r read is h = rw is (sym h)
Gives-ok_or v (Some x) r read is h = rw is (sym h)
