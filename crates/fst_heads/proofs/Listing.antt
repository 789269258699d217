-- The list of a block, and what a landing leaves of it.
use Rattle.fst_heads.proofs.Basics.{◌≡◌, ◌≢◌, ◌==◌, ◌&&◌, ℕ, zero, suc, ◌<◌, ◌≤◌, Bool, true, false, not, cond, List, [], ◌∷◌, ◌++◌, length, map, set, get_or, Contains, Some, refl, sym, ap, ◌∙◌, inl, inr, arith, list_any, and-false, cases_Bool, eq-eqb, ne_eqb}
use Rattle.fst_heads.proofs.Basics.{get_or-map, ◌+◌, filter, subst, get_or-set_same, get_or-set_other, length-set, AllPairs, IsStrictlyIncreasing, AllPairs-filter, and_parts, cases_eq, false≢true, length-map}
use Rattle.fst_heads.proofs.Patches.{Place, Kind, Change, Patch, Rising, block_of_kind, is_at, is_on, is_change_at, landed, In, In-from_Contains, Contains-from_In, is_among, is_live, In-map, same_number, filter_in, in_filter, among_in, in_among}
use Rattle.fst_heads.proofs.Words.{Head, lands, IsRising, patch_of, patches_of, Entry, is_live_on, entries_on, flying_on, AreListed, HasIndex, HasNone, Node, node_of, nodes_of, patches_in, Listed, entry, entries_of}
use Rattle.fst_heads.proofs.{Indices.{rising_map}, Starting.patches_landed}
use Rattle.fst_heads.proofs.{AtNumber.{patches_in_nodes}, Placed.unmapped}
use Rattle.fst_heads.proofs.Patches.place

-- whether a node with number n passes
pub any_none : (heads : List Head) (n : ℕ) (t : Node → Bool) → HasNone heads n → list_any (λ x. (x.patch.number == n) && t x) (nodes_of heads) ≡ false
any_none [] n t none = refl
any_none (h ∷ hs) n t none = rw (ne_eqb h.number n (none 0 h (omega arith))) (any_none hs n t (λ k d lt. none (suc k) d (omega (arith, lt))))

pub any_index : (heads : List Head) (n s : ℕ) (t : Node → Bool) (d : Head) → IsRising heads → HasIndex heads n s → list_any (λ x. (x.patch.number == n) && t x) (nodes_of heads) ≡ t (node_of (get_or heads s d))
any_index [] n s t d rising index = absurd (omega (arith, index.0))
any_index (h ∷ hs) n zero t d rising index =
    let rest = any_none hs n t (λ k c lt same. let r = rising 0 (suc k) c (omega arith) (omega (arith, lt)) in let here = index.1 d in omega (arith, r, same, here)) in
    rw (eq-eqb h.number n (index.1 d))
    (elim (cases_Bool (t (node_of h))) [ inl e ↦ rw e refl | inr e ↦ rw e rest ])
any_index (h ∷ hs) n (suc s) t d rising index =
    let inside = index.0 in
    let below = rising 0 (suc s) d (omega arith) inside in
    rw (ne_eqb h.number n (λ same. omega (arith, same, below, index.1 d)))
    (any_index hs n s t d (λ i j c lt b. rising (suc i) (suc j) c (omega (arith, lt)) (omega (arith, b))) (omega (arith, inside), index.1))

-- patches rise as their heads do
pub rising_patches : (heads : List Head) → IsRising heads → Rising (patches_of heads)
rising_patches heads rising = rising_map patch_of heads (λ h. h.number) (λ p. p.number) (λ h. refl) rising

-- the list of a block that is lent
pub listed_at : {X : Type 0} (f : X → List Entry) (ps : List Patch) (lists : List X) (b : ℕ) (x : X) → b < length lists → x ≡ get_or lists b x → AreListed ps (length lists) (map f lists) → f x ≡ entries_on b ps
listed_at f ps lists b x inside same L = ap f same ∙ (sym (get_or-map f lists b x [] inside) ∙ L.each b [] inside)

module _ (b : ℕ) where
  abbrev pub flies : Node → Bool
  flies x = is_change_at place.Flight b x.patch

  -- the numbers that the list has
  abbrev pub numbers_on : List Head → List ℕ
  numbers_on heads = map (λ e. e.number) (entries_on b (patches_of heads))

  pub numbers_above : (k : ℕ) (heads : List Head) → ((i : ℕ) (d : Head) → i < length heads → k < (get_or heads i d).number) → (n : ℕ) → In (numbers_on heads) n → k < n
  numbers_above k [] above n i = absurd i
  numbers_above k (h ∷ hs) above n i =
      let rest = numbers_above k hs (λ j d lt. above (suc j) d (omega (arith, lt))) n in
      elim (cases_Bool (is_live_on b (patch_of h))) [
        | inl f ↦ elim (rw f at i) [ inl e ↦ let a = above 0 h (omega arith) in omega (arith, a, e) | inr j ↦ rest j ]
        | inr f ↦ rest (rw f at i)
      ]

  still_place : (p : Place) (t : Bool) → (not (is_at p place.Disk) && t) ≡ false → (is_at p place.Flight && t) ≡ false
  still_place place.Flight t e = e
  still_place p t e = refl

  -- what is not listed does not fly
  pub still : (p : Patch) → is_live_on b p ≡ false → is_change_at place.Flight b p ≡ false
  still p e = still_place p.place (is_on b p.kind) e

  pub lands_number : (x : Node) → (lands b x).patch.number ≡ x.patch.number
  lands_number x = elim (cases_Bool (flies x)) [ inl e ↦ rw e refl | inr e ↦ rw e refl ]

  pub lands_still : (x : Node) → flies x ≡ false → lands b x ≡ x
  lands_still x e = rw e refl

  flying_more : (h : Head) (hs : List Head) → flying_on b (patches_of (h ∷ hs)) ≡ cond (flies (node_of h)) (h.number ∷ []) [] ++ flying_on b (patches_of hs)
  flying_more h hs = elim (cases_Bool (is_change_at place.Flight b (patch_of h))) [ inl e ↦ rw e refl | inr e ↦ rw e refl ]

  pub flying_few : (heads : List Head) → length (flying_on b (patches_of heads)) ≤ length heads
  flying_few [] = omega arith
  flying_few (h ∷ hs) = grind (arith, cases_Bool, flying_few hs)

  module _ (heads : List Head) (new : List Head) (landing : nodes_of new ≡ map (lands b) (nodes_of heads)) where
    pub heads_landed : patches_of new ≡ map (landed b) (patches_of heads)
    heads_landed = sym (patches_in_nodes new) ∙ (ap patches_in landing ∙ (patches_landed (nodes_of heads) b ∙ ap (map (landed b)) (patches_in_nodes heads)))

  -- where no patch is a change of b nothing lands
  module _ (heads : List Head) (other : (p : Patch) → Contains (patches_of heads) p → is_on b p.kind ≡ false) where
    here_off : (h : Head) (hs : List Head) → ((p : Patch) → Contains (patches_of (h ∷ hs)) p → is_on b p.kind ≡ false) → is_change_at place.Flight b (patch_of h) ≡ false
    here_off h hs off = ap (λ t. is_at h.place place.Flight && t) (off (patch_of h) (0, omega arith, refl)) ∙ and-false (is_at h.place place.Flight)

    rest_off : (h : Head) (hs : List Head) → ((p : Patch) → Contains (patches_of (h ∷ hs)) p → is_on b p.kind ≡ false) → (p : Patch) → Contains (patches_of hs) p → is_on b p.kind ≡ false
    rest_off h hs off p c = off p (Contains-from_In (patches_of (h ∷ hs)) p (inr (In-from_Contains (patches_of hs) p c)))

    pub nothing_lands : nodes_of heads ≡ map (lands b) (nodes_of heads)
    nothing_lands = go heads other
      where
        go : (hs : List Head) → ((p : Patch) → Contains (patches_of hs) p → is_on b p.kind ≡ false) → nodes_of hs ≡ map (lands b) (nodes_of hs)
        go [] off = refl
        go (h ∷ hs) off = let rest = go hs (rest_off h hs off) in let first = sym (lands_still (node_of h) (here_off h hs off)) in cc

    pub nothing_flies : flying_on b (patches_of heads) ≡ []
    nothing_flies = go heads other
      where
        go : (hs : List Head) → ((p : Patch) → Contains (patches_of hs) p → is_on b p.kind ≡ false) → flying_on b (patches_of hs) ≡ []
        go [] off = refl
        go (h ∷ hs) off = flying_more h hs ∙ (ap (λ t. cond t (h.number ∷ []) [] ++ flying_on b (patches_of hs)) (here_off h hs off) ∙ go hs (rest_off h hs off))

-- a kind that is not that of a change of b
pub is_off : (b : ℕ) (k : Kind) → (block_of_kind k ≡ Some b → ⊥) → is_on b k ≡ false
is_off b (Change block at len grade) off = ne_eqb block b (λ e. off (ap Some e))
is_off b k off = refl

-- the lists of the blocks after a landing

-- entries go as what they stand for
pub entries_filter : (stays : ℕ → Bool) (list : List Listed) → entries_of (filter (λ (l : Listed). stays l.number) list) ≡ filter (λ e. stays e.number) (entries_of list)
entries_filter stays [] = refl
entries_filter stays (l ∷ ls) = grind (arith, cases_Bool, entries_filter stays ls)

entries_cons : (b : ℕ) (p : Patch) (ps : List Patch) → entries_on b (p ∷ ps) ≡ cond (is_live_on b p) (entry p ∷ entries_on b ps) (entries_on b ps)
entries_cons b p ps = elim (cases_Bool (is_live_on b p)) [ inl e ↦ rw e refl | inr e ↦ rw e refl ]

and_on : (a t : Bool) → t ≡ true → (a && t) ≡ a
and_on true t e = e
and_on false t e = refl

abbrev IsBelow : Patch → Patch → Type 0
IsBelow p q = p.number < q.number

pub numbers_rise : (ps : List Patch) → AllPairs IsBelow ps → IsStrictlyIncreasing (map (λ p. p.number) ps)
numbers_rise [] pairs k lt = absurd (omega (arith, lt))
numbers_rise (p ∷ ps) pairs k lt =
    let long = length-map (p ∷ ps) (λ (q : Patch). q.number) in
    let r = pairs k (k + 1) p (omega arith) (omega (arith, lt, long)) in
    let e = get_or-map (λ (q : Patch). q.number) (p ∷ ps) k p 0 (omega (arith, lt, long)) in
    let f = get_or-map (λ (q : Patch). q.number) (p ∷ ps) (k + 1) p 0 (omega (arith, lt, long)) in
    omega (arith, r, e, f)

module _ (b : ℕ) where
  landed_entry : (p : Patch) → entry (landed b p) ≡ entry p
  landed_entry p = elim (cases_Bool (is_change_at place.Flight b p)) [ inl e ↦ rw e refl | inr e ↦ rw e refl ]

  landed_kind : (p : Patch) → (landed b p).kind ≡ p.kind
  landed_kind p = elim (cases_Bool (is_change_at place.Flight b p)) [ inl e ↦ rw e refl | inr e ↦ rw e refl ]

  landed_still : (p : Patch) → is_live_on b p ≡ false → landed b p ≡ p
  landed_still p e = rw (still b p e) refl

  -- after the landing, the list of b has those of its entries that stay live
  entries_kept : (stays : ℕ → Bool) (ps : List Patch) → ((p : Patch) → In ps p → is_live_on b p ≡ true → stays p.number ≡ is_live (landed b p))
      → filter (λ e. stays e.number) (entries_on b ps) ≡ entries_on b (map (landed b) ps)
  entries_kept stays [] says = refl
  entries_kept stays (p ∷ ps) says = grind (arith, entries_cons, cases_Bool, and_on, and_parts, landed_kind, landed_entry, landed_still, entries_kept stays ps (λ q i. says q (inr i)))

  entries_other : (c : ℕ) (ps : List Patch) → c ≢ b → entries_on c (map (landed b) ps) ≡ entries_on c ps
  entries_other c [] ne = refl
  entries_other c (p ∷ ps) ne = grind (arith, landed_entry, entries_cons, entries_other c ps ne)

  module _ (ps : List Patch) (rising : Rising ps) where
    -- the numbers of those that flew are in order
    pub flying_rise : IsStrictlyIncreasing (flying_on b ps)
    flying_rise = numbers_rise (filter (is_change_at place.Flight b) ps) (AllPairs-filter IsBelow (is_change_at place.Flight b) ps (λ i j d lt inside. rising i j d lt inside))

    -- a live change of b flew exactly where it is live no more
    flew : (p : Patch) → Contains ps p → is_live_on b p ≡ true → not (is_among (flying_on b ps) p.number) ≡ is_live (landed b p)
    flew p c live = elim (cases_Bool (is_change_at place.Flight b p)) [
      | inl e ↦
          let there = in_among (flying_on b ps) p.number (In-map (λ q. q.number) (filter (is_change_at place.Flight b) ps) p p.number (in_filter (is_change_at place.Flight b) ps p (In-from_Contains ps p c) e) refl) in
          rw (there, e) refl
      | inr e ↦ elim (cases_Bool (is_among (flying_on b ps) p.number)) [
        | inr none ↦ rw (none, e) (sym (and_parts (is_live p) (is_on b p.kind) live).0)
        | inl some ↦
            let q = unmapped (λ (q : Patch). q.number) (filter (is_change_at place.Flight b) ps) p.number (Contains-from_In (flying_on b ps) p.number (among_in (flying_on b ps) p.number some)) in
            let k = filter_in (is_change_at place.Flight b) ps q.0 (In-from_Contains (filter (is_change_at place.Flight b) ps) q.0 q.1) in
            let same = same_number ps q.0 p rising (Contains-from_In ps q.0 k.0) c q.2 in
            absurd (false≢true (sym e ∙ (ap (is_change_at place.Flight b) (sym same) ∙ k.1)))
      ]
    ]

    pub listed_landed : (blocks : ℕ) (lists : List (List Entry)) (kept : List Entry) → b < blocks → AreListed ps blocks lists
        → kept ≡ filter (λ e. not (is_among (flying_on b ps) e.number)) (entries_on b ps)
        → AreListed (map (landed b) ps) blocks (set lists b kept)
    listed_landed blocks lists kept inside L e = record {
      long = length-set lists b kept ∙ L.long;
      each = λ c d within. elim (cases_eq c b) [
        | inl same ↦
            subst (λ k. get_or (set lists b kept) k d ≡ entries_on k (map (landed b) ps)) (sym same)
            (get_or-set_same lists b kept d (omega (arith, inside, L.long)) ∙ (e ∙ entries_kept (λ n. not (is_among (flying_on b ps) n)) ps (λ p i live. flew p (Contains-from_In ps p i) live)))
        | inr ne ↦ get_or-set_other lists b c kept d ne ∙ (L.each c d within ∙ sym (entries_other c ps ne))
      ];
    }
