-- What stands beside the patches where some are launched or forgotten.
use Rattle.fst_heads.proofs.Basics.{or-false, ◌≡◌, ◌≢◌, ℕ, Bool, true, false, cond, List, [], ◌∷◌, map, filter, AllPairs, Contains, refl, sym, ap, subst, ◌∙◌, inl, inr, cases_Bool, rules, arith, ◌==◌, ◌||◌, ◌++◌, if◌then◌else◌, get_or, set, cases_eq, eq-eqb, ne_eqb}
use Rattle.fst_heads.proofs.Patches.{Patch, IsLiveNumber, HasOnePlaceEach, is_live, is_among, launched, same_number, In, In-from_Contains, Contains-from_In, In-unmap, among_in, unsettled, Settled, AllSettled, more, all_settled, In-map}
use Rattle.fst_heads.proofs.Words.{launches, entry, entries_on, is_live_on, Node, patches_in, times, AreLinked, AreGiven, AreDistinct, IsSpreadOf, unspread, Head, IsRising, HasIndex, HasNone, node_of, nodes_of, at_number}
use Rattle.fst_heads.proofs.{Forgetting.live_place_of, AtNumber.{at_none, at_index, at_same, at_other}, Linking.{map_twice}}
use Rattle.fst_heads.proofs.Patches.place

-- y has the number, the direct dependencies and the dependants of x
pub record SameLinks (x y : Node) : Type 0 where
  pub number : y.patch.number ≡ x.patch.number
  pub dependencies : y.patch.dependencies ≡ x.patch.dependencies
  pub dependants : y.dependants ≡ x.dependants

-- each new node has the links of an old one
abbrev pub KeepLinks : List Node → List Node → Type 0
KeepLinks old new = (y : Node) → Contains new y → (x : Node) × Contains old x × SameLinks x y

pub linked_kept : (old new : List Node) → KeepLinks old new → AreLinked old → AreLinked new
linked_kept old new kept L p q cp cq =
    let a = kept p cp in
    let b = kept q cq in
    (ap (λ row. times row p.patch.number) b.2.dependants ∙ ap (times b.0.dependants) a.2.number)
    ∙ (L a.0 b.0 a.1 b.1 ∙ sym (ap (λ row. times row q.patch.number) a.2.dependencies ∙ ap (times a.0.patch.dependencies) b.2.number))

pub given_kept : (old new : List Node) (numbers : ℕ) → KeepLinks old new → AreGiven old numbers → AreGiven new numbers
given_kept old new numbers kept G y n c d = let k = kept y c in G k.0 n k.1 (subst (λ ns. Contains ns n) k.2.dependants d)

pub distinct_kept : (old new : List Node) → KeepLinks old new → AreDistinct old → AreDistinct new
distinct_kept old new kept D y c =
    let k = kept y c in
    let d = D k.0 k.1 in
    (subst (λ ns. AllPairs (λ m n. m ≢ n) ns) (sym k.2.dependencies) d.0, subst (λ ns. AllPairs (λ m n. m ≢ n) ns) (sym k.2.dependants) d.1)

-- a node of a mapped list, and what it was
pub unmapped : {X Y : Type 0} (f : X → Y) (xs : List X) (y : Y) → Contains (map f xs) y → (x : X) × Contains xs x × (f x ≡ y)
unmapped f xs y c = let r = In-unmap f xs y (In-from_Contains (map f xs) y c) in (r.0, Contains-from_In xs r.0 r.1, r.2)

pub links_mapped : (f : Node → Node) (nodes : List Node) → ((x : Node) → SameLinks x (f x)) → KeepLinks nodes (map f nodes)
links_mapped f nodes same y c = let r = unmapped f nodes y c in (r.0, r.1, subst (SameLinks r.0) r.2 (same r.0))

-- q is live exactly where p is, and has its number and its kind
pub record StandsFor (p q : Patch) : Type 0 where
  pub live : is_live q ≡ is_live p
  pub number : q.number ≡ p.number
  pub kind : q.kind ≡ p.kind

in_patches : (nodes : List Node) (x : Node) → In nodes x → In (patches_in nodes) x.patch
in_patches [] x h = h
in_patches (y ∷ ys) x (inl e) = inl (ap (λ z. z.patch) e)
in_patches (y ∷ ys) x (inr h) = inr (in_patches ys x h)

pub patch_in : (nodes : List Node) (x : Node) → Contains nodes x → Contains (patches_in nodes) x.patch
patch_in nodes x c = Contains-from_In (patches_in nodes) x.patch (in_patches nodes x (In-from_Contains nodes x c))

-- the node of a patch
pub node_of_patch : (nodes : List Node) (p : Patch) → Contains (patches_in nodes) p → (x : Node) × Contains nodes x × (x.patch ≡ p)
node_of_patch nodes p c = let r = In-unmap (λ (x : Node). x.patch) nodes p (In-from_Contains (patches_in nodes) p c) in (r.0, Contains-from_In nodes r.0 r.1, r.2)

module _ (f : Patch → Patch) where
  pub entries_mapped : (b : ℕ) (ps : List Patch) → ((p : Patch) → In ps p → StandsFor p (f p)) → entries_on b (map f ps) ≡ entries_on b ps
  entries_mapped b [] same = refl
  entries_mapped b (p ∷ ps) same = grind (arith, cases_Bool, entries_mapped b ps (λ q h. same q (inr h)))

pub number_if : (t : Bool) (p q : Patch) → q.number ≡ p.number → (cond t q p).number ≡ p.number
number_if true p q e = e
number_if false p q e = refl

kind_if : (t : Bool) (p q : Patch) → q.kind ≡ p.kind → (cond t q p).kind ≡ p.kind
kind_if true p q e = e
kind_if false p q e = refl

pub dependencies_if : (t : Bool) (p q : Patch) → q.dependencies ≡ p.dependencies → (cond t q p).dependencies ≡ p.dependencies
dependencies_if true p q e = e
dependencies_if false p q e = refl

live_if : (t : Bool) (p q : Patch) → (t ≡ true → is_live q ≡ is_live p) → is_live (cond t q p) ≡ is_live p
live_if true p q e = e refl
live_if false p q e = refl

pub patches_launched : (nodes : List Node) (chosen : List ℕ) → patches_in (map (launches chosen) nodes) ≡ map (launched chosen) (patches_in nodes)
patches_launched [] chosen = refl
patches_launched (x ∷ xs) chosen = let r = patches_launched xs chosen in rw r refl

module _ (nodes : List Node) (numbers : ℕ) (chosen : List ℕ) (H : HasOnePlaceEach (patches_in nodes) numbers)
    (live : (n : ℕ) → Contains chosen n → IsLiveNumber (patches_in nodes) n) where
  -- what is launched was live, since its number is that of a live patch
  pub launched_stands : (p : Patch) → In (patches_in nodes) p → StandsFor p (launched chosen p)
  launched_stands p h = record {
    live = live_if (is_among chosen p.number) p _ (λ e.
        let l = live p.number (Contains-from_In chosen p.number (among_in chosen p.number e)) in
        let same = same_number (patches_in nodes) l.patch p H.rising l.head (Contains-from_In (patches_in nodes) p h) l.numbered in
        sym (live_place_of p.place (λ d. l.live (ap (λ q. q.place) same ∙ d))));
    number = number_if (is_among chosen p.number) p _ refl;
    kind = kind_if (is_among chosen p.number) p _ refl;
  }

pub launched_links : (chosen : List ℕ) (x : Node) → SameLinks x (launches chosen x)
launched_links chosen x = search (rules, number_if, dependencies_if)

pub patches_dropped : (nodes : List Node) → patches_in (filter (λ x. is_live x.patch) nodes) ≡ filter is_live (patches_in nodes)
patches_dropped [] = refl
patches_dropped (x ∷ xs) = grind (arith, cases_Bool, patches_dropped xs)

pub entries_dropped : (b : ℕ) (ps : List Patch) → entries_on b (filter is_live ps) ≡ entries_on b ps
entries_dropped b [] = refl
entries_dropped b (p ∷ ps) = grind (arith, cases_Bool, entries_dropped b ps)

-- what a spread keeps of nodes: all but sums, what is pending, and the places of empty patches and sealed gates

settled_one : (o p : Patch) → AllSettled (o ∷ []) (p ∷ []) → Settled o p
settled_one o p (more s a) = s

pub settled_node : (o x : Node) → unspread x ≡ unspread o → Settled o.patch x.patch
settled_node o x e = settled_one o.patch x.patch (all_settled (o.patch ∷ []) (x.patch ∷ []) (ap (λ (y : Node). y.patch ∷ []) e))

-- what a new node was
pub spread_back : (old new : List Node) → IsSpreadOf old new → (x : Node) → Contains new x → (o : Node) × Contains old o × (unspread x ≡ unspread o)
spread_back old new spread x c =
    let there = In-map unspread new x (unspread x) (In-from_Contains new x c) refl in
    let r = In-unmap unspread old (unspread x) (subst (λ ys. In ys (unspread x)) spread there) in
    (r.0, Contains-from_In old r.0 r.1, sym r.2)

pub links_spread : (old new : List Node) → IsSpreadOf old new → KeepLinks old new
links_spread old new spread x c =
    let r = spread_back old new spread x c in
    let s = settled_node r.0 x r.2 in
    (r.0, r.1, record { number = s.number; dependencies = s.dependencies; dependants = ap (λ (y : Node). y.dependants) r.2 })

pub unsettled_spread : (old new : List Node) → IsSpreadOf old new → map unsettled (patches_in new) ≡ map unsettled (patches_in old)
unsettled_spread old new spread = sym (go new) ∙ (ap (map (λ (x : Node). x.patch)) spread ∙ go old)
  where
    go : (nodes : List Node) → map (λ (x : Node). x.patch) (map unspread nodes) ≡ map unsettled (patches_in nodes)
    go [] = refl
    go (x ∷ xs) = let rest = go xs in cc

-- the entry of a new patch of block b is that of the old
pub record SameEntry (b : ℕ) (o p : Patch) : Type 0 where
  pub live : is_live_on b p ≡ is_live_on b o
  pub same : is_live_on b o ≡ true → entry p ≡ entry o

pub entries_more : (b : ℕ) (o p : Patch) (os ps : List Patch) → SameEntry b o p → entries_on b ps ≡ entries_on b os → entries_on b (p ∷ ps) ≡ entries_on b (o ∷ os)
entries_more b o p os ps l rest = grind (arith, cases_Bool)

entry_settled : (b : ℕ) (o p : Patch) → Settled o p → SameEntry b o p
entry_settled b o p s = search rules

pub entries_settled : (b : ℕ) (old new : List Patch) → AllSettled old new → entries_on b new ≡ entries_on b old
entries_settled b [] [] a = refl
entries_settled b (o ∷ os) (p ∷ ps) (more s a) = entries_more b o p os ps (entry_settled b o p s) (entries_settled b os ps a)
entries_settled b old new a = elim a [ ]

-- patches that go into flight one after another

abbrev pub flies : Node → Node
flies x = record x { patch = record x.patch { place = place.Flight } }

-- one number is that of one node
one_launched : (n : ℕ) (x : Node) → at_number n flies x ≡ launches (n ∷ []) x
one_launched n x = grind (arith, cases_eq, at_same, eq-eqb, at_other, ne_eqb)

pub map_alike : {X Y : Type 0} (f g : X → Y) (xs : List X) → ((x : X) → In xs x → f x ≡ g x) → map f xs ≡ map g xs
map_alike f g [] same = refl
map_alike f g (x ∷ xs) same = let first = same x (inl refl) in let rest = map_alike f g xs (λ y h. same y (inr h)) in cc

pub launched_none : (heads : List Head) (n : ℕ) → HasNone heads n → nodes_of heads ≡ map (launches (n ∷ [])) (nodes_of heads)
launched_none heads n none = at_none heads n flies none ∙ map_alike (at_number n flies) (launches (n ∷ [])) (nodes_of heads) (λ x _. one_launched n x)

pub launched_index : (heads : List Head) (n s : ℕ) (y d : Head) → IsRising heads → HasIndex heads n s → node_of y ≡ flies (node_of (get_or heads s d))
    → nodes_of (set heads s y) ≡ map (launches (n ∷ [])) (nodes_of heads)
launched_index heads n s y d rising index e = at_index heads n s flies y d rising index e ∙ map_alike (at_number n flies) (launches (n ∷ [])) (nodes_of heads) (λ x _. one_launched n x)

-- of no number none
pub launched_start : (nodes : List Node) → nodes ≡ map (launches []) nodes
launched_start [] = refl
launched_start (x ∷ xs) = ap (λ ys. x ∷ ys) (launched_start xs)

pub among_append : (ns : List ℕ) (n m : ℕ) → is_among (ns ++ n ∷ []) m ≡ (is_among ns m || (n == m))
among_append [] n m = elim (cases_Bool (n == m)) [ inl t ↦ rw t refl | inr t ↦ rw t refl ]
among_append (k ∷ ks) n m = elim (cases_Bool (k == m)) [ inl t ↦ rw t refl | inr t ↦ rw (t, among_append ks n m) refl ]

launched_either : (a b : Bool) (x : Node) → (if b || false then flies (if a then flies x else x) else (if a then flies x else x)) ≡ (if a || b then flies x else x)
launched_either true true x = refl
launched_either true false x = refl
launched_either false b x = rw (or-false b) refl

-- a launch as a choice between two nodes
chosen : (a : Bool) (x : Node) → record x { patch = if a then record x.patch { place = place.Flight } else x.patch } ≡ (if a then flies x else x)
chosen true x = refl
chosen false x = refl

pub launches_number : (ns : List ℕ) (x : Node) → (launches ns x).patch.number ≡ x.patch.number
launches_number ns x = number_if (is_among ns x.patch.number) x.patch _ refl

-- one number more
step : (ns : List ℕ) (n : ℕ) (x : Node) → launches (n ∷ []) (launches ns x) ≡ launches (ns ++ n ∷ []) x
step ns n x = grind (arith, chosen, launches_number, launched_either, among_append)

pub launched_more : (nodes : List Node) (ns : List ℕ) (n : ℕ) → map (launches (n ∷ [])) (map (launches ns) nodes) ≡ map (launches (ns ++ n ∷ [])) nodes
launched_more nodes ns n = map_twice (launches (n ∷ [])) (launches ns) (launches (ns ++ n ∷ [])) (step ns n) nodes
