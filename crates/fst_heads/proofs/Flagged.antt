-- Where patches are forgotten whose heads are kept.
use Rattle.fst_heads.proofs.Basics.{◌≡◌, ◌≢◌, ◌<◌, ◌+◌, ◌==◌, ◌&&◌, ◌||◌, ◌++◌, ◌∷◌, [], ◌∙◌, ℕ, Bool, true, false, not, cond, List, length, map, filter, count_by, get_or, set, Contains, AllPairs, if◌then◌else◌, refl, sym, ap, subst, inl, inr, arith, cases_Bool, cases_eq, and_parts, and_from, or-false, false≢true, eq-eqb, eqb-true, ne_eqb, length-map, length-filter, AllPairs-filter}
use Rattle.fst_heads.proofs.Patches.{is_among, is_live, among_in, in_among, filter_in, in_filter, In, In-map, In-unmap, In-from_Contains, Contains-from_In}
use Rattle.fst_heads.proofs.Words.{Head, IsRising, HasIndex, HasNone, Node, node_of, nodes_of, patches_in, at_number, is_pending, is_waiting, is_forgotten_in, AreSettled, AreLanded, flags, is_landed}
use Rattle.fst_heads.proofs.{AtNumber.{at_index, at_none, at_other, at_same}, Beside.{is_nothing, waiting_is}, CountsAs.{count_cons, count_map, count_nothing}, Indices.rising_map}
use Rattle.fst_heads.proofs.{Linking.{map_twice}, Placed.{among_append, map_alike, unmapped}, Waiting.{once_fits, same_node}}
use Rattle.fst_heads.proofs.Words.pending

-- it is forgotten
abbrev pub goes : Node → Node
goes x = record x { forgotten = true }

-- one number is that of one node
one_flagged : (n : ℕ) (x : Node) → at_number n goes x ≡ flags (n ∷ []) x
one_flagged n x = grind (arith, cases_eq, at_same, eq-eqb, at_other, ne_eqb)

pub flagged_index : (heads : List Head) (n s : ℕ) (y d : Head) → IsRising heads → HasIndex heads n s → node_of y ≡ goes (node_of (get_or heads s d))
    → nodes_of (set heads s y) ≡ map (flags (n ∷ [])) (nodes_of heads)
flagged_index heads n s y d rising index e = at_index heads n s goes y d rising index e ∙ map_alike (at_number n goes) (flags (n ∷ [])) (nodes_of heads) (λ x _. one_flagged n x)

pub flagged_none : (heads : List Head) (n : ℕ) → HasNone heads n → nodes_of heads ≡ map (flags (n ∷ [])) (nodes_of heads)
flagged_none heads n none = at_none heads n goes none ∙ map_alike (at_number n goes) (flags (n ∷ [])) (nodes_of heads) (λ x _. one_flagged n x)

-- of no number none
pub flagged_start : (nodes : List Node) → nodes ≡ map (flags []) nodes
flagged_start [] = refl
flagged_start (x ∷ xs) = ap (λ ys. x ∷ ys) (flagged_start xs)

pub goes_if : (P : Node → Type 0) (t : Bool) (x : Node) → P x → P (goes x) → P (if t then goes x else x)
goes_if P true x a b = b
goes_if P false x a b = a

-- the patch stays, and what is pending of it
pub flags_patch : (ns : List ℕ) (x : Node) → (flags ns x).patch ≡ x.patch
flags_patch ns x = goes_if (λ y. y.patch ≡ x.patch) (is_among ns x.patch.number) x refl refl

pub flags_pending : (ns : List ℕ) (x : Node) → (flags ns x).pending ≡ x.pending
flags_pending ns x = goes_if (λ y. y.pending ≡ x.pending) (is_among ns x.patch.number) x refl refl

pub flags_number : (ns : List ℕ) (x : Node) → (flags ns x).patch.number ≡ x.patch.number
flags_number ns x = ap (λ p. p.number) (flags_patch ns x)

either : (a b : Bool) (x : Node) → (if b || false then goes (if a then goes x else x) else (if a then goes x else x)) ≡ (if a || b then goes x else x)
either true true x = refl
either true false x = refl
either false b x = rw (or-false b) refl

step : (ns : List ℕ) (n : ℕ) (x : Node) → flags (n ∷ []) (flags ns x) ≡ flags (ns ++ n ∷ []) x
step ns n x = grind (arith, flags_number, either, among_append)

pub flagged_more : (nodes : List Node) (ns : List ℕ) (n : ℕ) → map (flags (n ∷ [])) (map (flags ns) nodes) ≡ map (flags (ns ++ n ∷ [])) nodes
flagged_more nodes ns n = map_twice (flags (n ∷ [])) (flags ns) (flags (ns ++ n ∷ [])) (step ns n) nodes

pub patches_flagged : (nodes : List Node) (ns : List ℕ) → patches_in (map (flags ns) nodes) ≡ patches_in nodes
patches_flagged [] ns = refl
patches_flagged (x ∷ xs) ns = let rest = patches_flagged xs ns in rw (flags_patch ns x, rest) refl

-- a node of which the number is that of a forgotten one, and the other way round
pub forgotten_found : (nodes : List Node) (n : ℕ) → is_forgotten_in nodes n ≡ true → (x : Node) × Contains nodes x × (x.patch.number ≡ n) × (x.forgotten ≡ true)
forgotten_found [] n e = absurd (false≢true e)
forgotten_found (x ∷ xs) n e = elim (cases_Bool (x.forgotten && (x.patch.number == n))) [
  | inl t ↦ let k = and_parts x.forgotten (x.patch.number == n) t in (x, (0, omega arith, refl), eqb-true x.patch.number n k.1, k.0)
  | inr f ↦ let r = forgotten_found xs n (rw f at e) in (r.0, Contains-from_In (x ∷ xs) r.0 (inr (In-from_Contains xs r.0 r.1)), r.2, r.3)
]

forgotten_by : (nodes : List Node) (x : Node) → In nodes x → x.forgotten ≡ true → is_forgotten_in nodes x.patch.number ≡ true
forgotten_by [] x i e = absurd i
forgotten_by (y ∷ ys) x (inl same) e = rw (same, e, eq-eqb x.patch.number x.patch.number refl) refl
forgotten_by (y ∷ ys) x (inr i) e = elim (cases_Bool (y.forgotten && (y.patch.number == x.patch.number))) [ inl t ↦ rw t refl | inr f ↦ rw (f, forgotten_by ys x i e) refl ]

-- a patch is forgotten where its head says so
pub forgotten_here : (nodes : List Node) (x : Node) → AllPairs (λ a b. a.patch.number < b.patch.number) nodes → Contains nodes x → is_forgotten_in nodes x.patch.number ≡ x.forgotten
forgotten_here nodes x rising c = elim (cases_Bool x.forgotten) [
  | inl t ↦ forgotten_by nodes x (In-from_Contains nodes x c) t ∙ sym t
  | inr f ↦ elim (cases_Bool (is_forgotten_in nodes x.patch.number)) [
    | inl some ↦ let r = forgotten_found nodes x.patch.number some in absurd (false≢true (sym f ∙ (ap (λ y. y.forgotten) (sym (same_node nodes r.0 x rising r.1 c r.2)) ∙ r.3)))
    | inr none ↦ none ∙ sym f
  ]
]

-- each patch waits for the disk, or is forgotten, or landed
one_told : (wait gone : Bool) → (gone ≡ true → wait ≡ true) → cond (not wait) 1 0 + cond gone 1 0 + cond (not gone && wait) 1 0 ≡ 1
one_told true true only = refl
one_told true false only = refl
one_told false true only = absurd (false≢true (only refl))
one_told false false only = refl

all_told_by : (nodes : List Node) → ((x : Node) → In nodes x → x.forgotten ≡ true → x.pending ≡ pending.Nothing) → count_by is_waiting nodes + count_by (λ x. x.forgotten) nodes + count_by is_landed nodes ≡ length nodes
all_told_by [] gone = refl
all_told_by (x ∷ xs) gone =
    let one = one_told (is_pending x.pending pending.Nothing) x.forgotten (λ e. ap (λ p. is_pending p pending.Nothing) (gone x (inl refl) e)) in
    omega (arith, count_cons is_waiting x xs, count_cons (λ y. y.forgotten) x xs, count_cons is_landed x xs, one, all_told_by xs (λ y i. gone y (inr i)))

module _ (nodes : List Node) (landed : List ℕ) (rising : AllPairs (λ a b. a.patch.number < b.patch.number) nodes) (A : AreLanded nodes landed) where
  -- as many landed as the list tells
  numbers_apart : AllPairs (λ m n. m ≢ n) (map (λ x. x.patch.number) (filter is_landed nodes))
  numbers_apart i j d lt inside e =
      let kept = filter is_landed nodes in
      let rise = rising_map (λ x. x.patch.number) kept (λ x. x.patch.number) (λ n. n) (λ x. refl) (AllPairs-filter (λ (a b : Node). a.patch.number < b.patch.number) is_landed nodes rising) in
      let less = rise i j d lt inside in
      omega (arith, less, e)

  landed_counted : count_by is_landed nodes ≡ length landed
  landed_counted =
      let number = λ (x : Node). x.patch.number in
      let kept = filter is_landed nodes in
      let more = once_fits landed (map number kept) A.once (λ n h. let o = A.only n (Contains-from_In landed n h) in In-map number kept o.0 n (in_filter is_landed nodes o.0 (In-from_Contains nodes o.0 o.1) o.3) o.2) in
      let less = once_fits (map number kept) landed numbers_apart (λ n h.
      let r = In-unmap number kept n h in
      let k = filter_in is_landed nodes r.0 r.1 in
      In-from_Contains landed n (subst (Contains landed) r.2 (A.each r.0 (Contains-from_In nodes r.0 k.0) k.1))) in
      omega (arith, more, less, length-map kept number, length-filter is_landed nodes)

  pub all_told : count_by is_waiting nodes + count_by (λ x. x.forgotten) nodes + length landed ≡ length nodes
  all_told = omega (arith, all_told_by nodes (λ x i e. A.gone x (Contains-from_In nodes x i) e), landed_counted)

  -- all that landed are forgotten
  abbrev next : List Node
  next = map (flags landed) nodes

  flagged : (x : Node) → is_among landed x.patch.number ≡ true → flags landed x ≡ goes x
  flagged x e = rw e refl

  passed : (x : Node) → is_among landed x.patch.number ≡ false → flags landed x ≡ x
  passed x e = rw e refl

  -- what is listed is on disk
  listed_landed : (x : Node) → Contains nodes x → is_among landed x.patch.number ≡ true → is_landed x ≡ true
  listed_landed x c e =
      let o = A.only x.patch.number (Contains-from_In landed x.patch.number (among_in landed x.patch.number e)) in
      ap is_landed (same_node nodes x o.0 rising c o.1 (sym o.2)) ∙ o.3

  pub landed_flagged : AreLanded next []
  landed_flagged = record {
    gone = λ y c e.
        let r = unmapped (flags landed) nodes y c in
        let told = ap (λ (z : Node). z.pending) (sym r.2) ∙ flags_pending landed r.0 in
        elim (cases_Bool (is_among landed r.0.patch.number)) [
          | inl t ↦ told ∙ is_nothing r.0.pending (and_parts (not r.0.forgotten) _ (listed_landed r.0 r.1 t)).1
          | inr f ↦ told ∙ A.gone r.0 r.1 (ap (λ (z : Node). z.forgotten) (sym (passed r.0 f) ∙ r.2) ∙ e)
        ];
    only = λ n c. absurd (omega (arith, c.1));
    each = λ y c e.
        let r = unmapped (flags landed) nodes y c in
        elim (cases_Bool (is_among landed r.0.patch.number)) [
          | inl t ↦ absurd (false≢true (ap (λ (z : Node). is_landed z) (sym (flagged r.0 t) ∙ r.2) ∙ e))
          | inr f ↦ absurd (false≢true (sym f ∙ in_among landed r.0.patch.number (In-from_Contains landed r.0.patch.number (A.each r.0 r.1 (ap is_landed (sym (passed r.0 f) ∙ r.2) ∙ e)))))
        ];
    once = λ i j d lt inside. absurd (omega (arith, inside));
  }

  rising_next : AllPairs (λ a b. a.patch.number < b.patch.number) next
  rising_next = rising_map (flags landed) nodes (λ x. x.patch.number) (λ x. x.patch.number) (flags_number landed) rising

  waiting_next : count_by is_waiting next ≡ count_by is_waiting nodes
  waiting_next = count_map is_waiting is_waiting (flags landed) nodes (λ x i. ap (λ p. not (is_pending p pending.Nothing)) (flags_pending landed x))

  pub forgotten_next : count_by (λ x. x.forgotten) next ≡ count_by (λ x. x.forgotten) nodes + length landed
  forgotten_next =
      let told = all_told_by next (λ x i e. landed_flagged.gone x (Contains-from_In next x i) e) in
      let none = count_nothing is_landed next (λ x i. elim (cases_Bool (is_landed x)) [ inl t ↦ let c = landed_flagged.each x (Contains-from_In next x i) t in absurd (omega (arith, c.1)) | inr f ↦ f ]) in
      omega (arith, told, none, waiting_next, all_told, length-map nodes (flags landed))

  -- then a patch is forgotten exactly where nothing is pending of it
  there : (x : Node) → Contains nodes x → Contains next (flags landed x)
  there x c = Contains-from_In next (flags landed x) (In-map (flags landed) nodes x (flags landed x) (In-from_Contains nodes x c) refl)

  goes_on_disk : (x : Node) → Contains nodes x → (flags landed x).forgotten ≡ is_pending x.pending pending.Nothing
  goes_on_disk x c =
      let y = flags landed x in
      let same = ap (λ p. is_pending p pending.Nothing) (flags_pending landed x) in
      elim (cases_Bool y.forgotten) [
        | inl t ↦ t ∙ sym (sym same ∙ ap (λ p. is_pending p pending.Nothing) (landed_flagged.gone y (there x c) t))
        | inr f ↦ elim (cases_Bool (is_pending y.pending pending.Nothing)) [
          | inl e ↦ let none = landed_flagged.each y (there x c) (and_from _ _ (ap not f) e) in absurd (omega (arith, none.1))
          | inr e ↦ f ∙ sym (sym same ∙ e)
        ]
      ]

  forgotten_on_disk : (x : Node) → Contains nodes x → is_forgotten_in next x.patch.number ≡ is_pending x.pending pending.Nothing
  forgotten_on_disk x c = ap (is_forgotten_in next) (sym (flags_number landed x)) ∙ (forgotten_here next (flags landed x) rising_next (there x c) ∙ goes_on_disk x c)

  -- what is left is not on disk
  pub flagged_left : (blocks : ℕ) → AreSettled nodes blocks → filter (λ p. not (is_forgotten_in next p.number)) (patches_in nodes) ≡ filter is_live (patches_in nodes)
  flagged_left blocks S = go nodes (λ x i. i)
    where
      go : (xs : List Node) → ((x : Node) → In xs x → In nodes x) → filter (λ p. not (is_forgotten_in next p.number)) (patches_in xs) ≡ filter is_live (patches_in xs)
      go [] among = refl
      go (x ∷ xs) among =
          let i = among x (inl refl) in
          let same = ap not (forgotten_on_disk x (Contains-from_In nodes x i)) ∙ waiting_is nodes blocks S x i in
          let rest = go xs (λ y j. among y (inr j)) in
          rw same (elim (cases_Bool (is_live x.patch)) [ inl t ↦ rw (t, rest) refl | inr f ↦ rw (f, rest) refl ])

-- where what is on disk is dropped, nothing that is forgotten is left
module _ (nodes : List Node) (landed : List ℕ) (blocks : ℕ) (S : AreSettled nodes blocks) (A : AreLanded nodes landed) where
  abbrev left : List Node
  left = filter (λ x. is_live x.patch) nodes

  left_waits : (x : Node) → In left x → In nodes x × (is_pending x.pending pending.Nothing ≡ false)
  left_waits x i =
      let k = filter_in (λ (y : Node). is_live y.patch) nodes x i in
      (k.0, not_true _ (waiting_is nodes blocks S x k.0 ∙ k.1))
    where
      not_true : (t : Bool) → not t ≡ true → t ≡ false
      not_true true e = sym e
      not_true false e = refl

  left_kept : (x : Node) → In left x → x.forgotten ≡ false
  left_kept x i = let w = left_waits x i in elim (cases_Bool x.forgotten) [
    | inl t ↦ absurd (false≢true (sym w.1 ∙ ap (λ p. is_pending p pending.Nothing) (A.gone x (Contains-from_In nodes x w.0) t)))
    | inr f ↦ f
  ]

  pub landed_dropped : AreLanded (filter (λ x. is_live x.patch) nodes) []
  landed_dropped = record {
    gone = λ x c t. absurd (false≢true (sym (left_kept x (In-from_Contains left x c)) ∙ t));
    only = λ n c. absurd (omega (arith, c.1));
    each = λ x c t. absurd (false≢true (sym (left_waits x (In-from_Contains left x c)).1 ∙ (and_parts (not x.forgotten) _ t).1));
    once = λ i j d lt inside. absurd (omega (arith, inside));
  }

  pub none_dropped : count_by (λ x. x.forgotten) (filter (λ x. is_live x.patch) nodes) ≡ 0
  none_dropped = count_nothing (λ x. x.forgotten) left left_kept

  pub forgotten_dropped : (n : ℕ) → is_forgotten_in (filter (λ x. is_live x.patch) nodes) n ≡ false
  forgotten_dropped n = elim (cases_Bool (is_forgotten_in left n)) [
    | inl t ↦ let r = forgotten_found left n t in absurd (false≢true (sym (left_kept r.0 (In-from_Contains left r.0 r.1)) ∙ r.3))
    | inr f ↦ f
  ]
