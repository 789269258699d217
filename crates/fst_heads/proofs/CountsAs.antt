-- Nodes that count for a block as others do, and what that leaves of the counts of all blocks.
use Rattle.fst_heads.proofs.Basics.{◌≡◌, ◌≢◌, ℕ, ◌+◌, ◌<◌, ◌≤◌, Bool, true, false, cond, List, [], ◌∷◌, ◌++◌, map, filter, count_by, set, get_or, refl, sym, ap, subst, ◌∙◌, inl, inr, arith, get_or-set_same, get_or-set_other, length-set, cases_Bool, cases_eq, and_parts, and_right, eqb-true, false≢true, ne_eqb}
use Rattle.fst_heads.proofs.{Basics.{sum_by-cons, sum_by-append}, Patches.{Place, Kind, Change, is_at, is_on, is_change_at, In}}
use Rattle.fst_heads.proofs.Patches.place
use Rattle.fst_heads.proofs.Words.{Standing, Node, rested, AllStand, LieAsTold, LiesIn, is_ready_on, is_held_on, is_flying_on, standing_of}
use Rattle.fst_heads.proofs.Stretches.{numbers_map}

-- y counts for block b as x does
pub record CountsAs (b : ℕ) (y x : Node) : Type 0 where
  pub ready : is_ready_on b y ≡ is_ready_on b x
  pub held : is_held_on b y ≡ is_held_on b x
  pub flying : is_flying_on b y ≡ is_flying_on b x
  pub number : is_on b y.patch.kind ≡ true → y.patch.number ≡ x.patch.number

pub count_cons : {X : Type 0} (p : X → Bool) (x : X) (xs : List X) → count_by p (x ∷ xs) ≡ cond (p x) 1 0 + count_by p xs
count_cons p x xs = sum_by-cons (λ y. cond (p y) 1 0) x xs

pub count_append : {X : Type 0} (p : X → Bool) (xs ys : List X) → count_by p (xs ++ ys) ≡ count_by p xs + count_by p ys
count_append p xs ys = sum_by-append (λ y. cond (p y) 1 0) xs ys

-- a count after a map, where the one test says of what f makes what the other said before
pub count_map : {X : Type 0} (p q : X → Bool) (f : X → X) (xs : List X) → ((x : X) → In xs x → p (f x) ≡ q x) → count_by p (map f xs) ≡ count_by q xs
count_map p q f [] same = refl
count_map p q f (x ∷ xs) same = grind (arith, count_cons, count_map p q f xs (λ y i. same y (inr i)))

pub count_nothing : {X : Type 0} (p : X → Bool) (xs : List X) → ((x : X) → In xs x → p x ≡ false) → count_by p xs ≡ 0
count_nothing p [] none = refl
count_nothing p (x ∷ xs) none =
    count_cons p x xs ∙ (ap (λ t. cond t 1 0 + count_by p xs) (none x (inl refl)) ∙ omega (arith, count_nothing p xs (λ y i. none y (inr i))))

-- where none is counted each fails the test
pub count_none : {X : Type 0} (p : X → Bool) (xs : List X) → count_by p xs ≡ 0 → (x : X) → In xs x → p x ≡ false
count_none p [] e x i = absurd i
count_none p (y ∷ ys) e x i =
    elim (cases_Bool (p y)) [
      | inl t ↦ let more : count_by p (y ∷ ys) ≡ 1 + count_by p ys = count_cons p y ys ∙ ap (λ s. cond s 1 0 + count_by p ys) t in absurd (omega (arith, e, more))
      | inr f ↦
          let less : count_by p (y ∷ ys) ≡ 0 + count_by p ys = count_cons p y ys ∙ ap (λ s. cond s 1 0 + count_by p ys) f in
          elim i [
            | inl same ↦ subst (λ z. p z ≡ false) same f
            | inr j ↦ count_none p ys (omega (arith, e, less)) x j
          ]
    ]

-- those that the filter drops are not counted
pub count_kept : {X : Type 0} (p q : X → Bool) (xs : List X) → ((x : X) → q x ≡ false → p x ≡ false) → count_by p (filter q xs) ≡ count_by p xs
count_kept p q [] drops = refl
count_kept p q (x ∷ xs) drops = grind (arith, cases_Bool, count_cons, count_kept p q xs drops)

-- three counts alike, one standing
abbrev pub counts : ℕ → ℕ → ℕ → Standing → Standing
counts r h f s = record s { ready = r; held = h; flying = f }

pub standing_same : (r h f q i g : ℕ) (s : Standing) → r ≡ q → h ≡ i → f ≡ g → counts r h f s ≡ counts q i g s
standing_same r h f q i g s a b c = cc

-- what counts for b is of b
pub ready_here : (b : ℕ) (x : Node) → is_ready_on b x ≡ true → is_on b x.patch.kind ≡ true
ready_here b x e = grind (arith, and_parts)

pub held_here : (b : ℕ) (x : Node) → is_held_on b x ≡ true → is_on b x.patch.kind ≡ true
held_here b x e = grind (arith, and_parts)

pub flying_here : (b : ℕ) (x : Node) → is_flying_on b x ≡ true → is_on b x.patch.kind ≡ true
flying_here b x e = (and_parts (is_at x.patch.place place.Flight) (is_on b x.patch.kind) e).1

-- block b stands over the new nodes as over the old ones, and none counts for it that did not
pub record StandsAs (b : ℕ) (new nodes : List Node) : Type 0 where
  pub counted : (s : Standing) → standing_of new b s ≡ standing_of nodes b s
  pub lie : (s : Standing) → LieAsTold nodes b s → LieAsTold new b s

pub stands_as : (f : Node → Node) (nodes : List Node) (b : ℕ) → ((x : Node) → In nodes x → CountsAs b (f x) x) → StandsAs b (map f nodes) nodes
stands_as f nodes b same = record {
  counted = λ s. standing_same _ _ _ _ _ _ s
      (count_map (is_ready_on b) (is_ready_on b) f nodes (λ x i. (same x i).ready))
      (count_map (is_held_on b) (is_held_on b) f nodes (λ x i. (same x i).held))
      (count_map (is_flying_on b) (is_flying_on b) f nodes (λ x i. (same x i).flying));
  lie = λ s L. record {
    held = numbers_map (is_held_on b) (is_held_on b) (λ n. s.held_from ≤ n) f nodes (λ x i e. (sym (same x i).held ∙ e, (same x i).number (held_here b (f x) e))) L.held;
    ready = numbers_map (is_ready_on b) (is_ready_on b) (LiesIn s.ready_in) f nodes (λ x i e. (sym (same x i).ready ∙ e, (same x i).number (ready_here b (f x) e))) L.ready;
    flying = numbers_map (is_flying_on b) (is_flying_on b) (LiesIn s.flying_in) f nodes (λ x i e. (sym (same x i).flying ∙ e, (same x i).number (flying_here b (f x) e))) L.flying;
  };
}

-- where each block stands as it did
pub stand_as : (new nodes : List Node) (blocks : ℕ) (standings : List Standing) → ((b : ℕ) → b < blocks → StandsAs b new nodes) → AllStand nodes blocks standings → AllStand new blocks standings
stand_as new nodes blocks standings same S = record {
  long = S.long;
  each = λ b d lt. S.each b d lt ∙ sym ((same b lt).counted (get_or standings b d));
  lie = λ b d lt. (same b lt).lie _ (S.lie b d lt);
}

-- where f keeps what each node counts as, all blocks stand as they did
pub stand_map : (f : Node → Node) (nodes : List Node) (blocks : ℕ) (standings : List Standing) → ((x : Node) (b : ℕ) → In nodes x → b < blocks → CountsAs b (f x) x)
    → AllStand nodes blocks standings → AllStand (map f nodes) blocks standings
stand_map f nodes blocks standings same S = stand_as (map f nodes) nodes blocks standings (λ b lt. stands_as f nodes b (λ x i. same x b i lt)) S

-- where one block stands otherwise
pub stand_set : (new nodes : List Node) (blocks b : ℕ) (standings : List Standing) (s : Standing) → b < blocks → AllStand nodes blocks standings → s ≡ standing_of new b s → LieAsTold new b s
    → ((c : ℕ) → c < blocks → c ≢ b → StandsAs c new nodes) → AllStand new blocks (set standings b s)
stand_set new nodes blocks b standings s lt S e told other = record {
  long = length-set standings b s ∙ S.long;
  each = λ c d inside. elim (cases_eq c b) [
    | inl same ↦ rw (same, here d) e
    | inr ne ↦ rw (get_or-set_other standings b c s d ne) (S.each c d inside ∙ sym ((other c inside ne).counted (get_or standings c d)))
  ];
  lie = λ c d inside. elim (cases_eq c b) [
    | inl same ↦ rw (same, here d) told
    | inr ne ↦ rw (get_or-set_other standings b c s d ne) ((other c inside ne).lie _ (S.lie c d inside))
  ];
}
  where
    here : (d : Standing) → get_or (set standings b s) b d ≡ s
    here d = get_or-set_same standings b s d (omega (arith, lt, S.long))

-- what is no change of b does not count for b
pub off_place : (b : ℕ) (at : Place) (x : Node) → is_on b x.patch.kind ≡ false → is_change_at at b x.patch ≡ false
off_place b at x off = and_right (is_at x.patch.place at) (is_on b x.patch.kind) off

pub off_ready : (b : ℕ) (x : Node) → is_on b x.patch.kind ≡ false → is_ready_on b x ≡ false
off_ready b x off = rw (off_place b place.Memory x off) refl

pub off_held : (b : ℕ) (x : Node) → is_on b x.patch.kind ≡ false → is_held_on b x ≡ false
off_held b x off = rw (off_place b place.Memory x off) refl

pub off_as : (b : ℕ) (y x : Node) → is_on b y.patch.kind ≡ false → is_on b x.patch.kind ≡ false → CountsAs b y x
off_as b y x new old = record {
  ready = off_ready b y new ∙ sym (off_ready b x old);
  held = off_held b y new ∙ sym (off_held b x old);
  flying = off_place b place.Flight y new ∙ sym (off_place b place.Flight x old);
  number = λ on. absurd (false≢true (sym new ∙ on));
}

-- what has the same number, kind, place and pending counts alike
pub like_as : (b : ℕ) (y x : Node) → y.patch.number ≡ x.patch.number → y.patch.kind ≡ x.patch.kind → y.patch.place ≡ x.patch.place → y.pending ≡ x.pending → CountsAs b y x
like_as b y x number kind at told = record { ready = rw (kind, at, told) refl; held = rw (kind, at, told) refl; flying = rw (kind, at) refl; number = λ on. number }

pub self_as : (b : ℕ) (x : Node) → CountsAs b x x
self_as b x = like_as b x x refl refl refl refl

-- an empty patch or a sealed gate that goes to disk counts for no block
pub rested_as : (b : ℕ) (x : Node) → CountsAs b (rested x) x
rested_as b x = grind (arith, cases_Bool, and_parts, off_as, self_as)

-- a change is of one block
pub on_one : (b c : ℕ) (k : Kind) → c ≢ b → is_on b k ≡ true → is_on c k ≡ false
on_one b c (Change block at len grade) ne e = ne_eqb block c (λ same. ne (sym same ∙ eqb-true block b e))
on_one b c k ne e = refl
