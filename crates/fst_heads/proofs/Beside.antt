-- What calls leave of the count of patches that are not on disk.
use Rattle.fst_heads.proofs.Basics.{cond_both, ◌≡◌, ℕ, ◌+◌, ◌-◌, ◌≤◌, ◌==◌, Bool, true, false, cond, List, [], ◌∷◌, ◌++◌, map, filter, count_by, refl, sym, ap, subst, ◌∙◌, inl, inr, arith, cases_Bool, rules, suc, ◌<◌, not, AllPairs, cases_eq, false≢true, common_steps}
use Rattle.fst_heads.proofs.Patches.{max_heads, Place, gains, Patch, is_among, is_at, is_live, In, In-from_Contains, Contains-from_In}
use Rattle.fst_heads.proofs.Words.{Head, patches_of, Beside, Node, nodes_of, at_number, linked_to, AreSettled, is_waiting, seals, Pending, patches_in, is_pending, Sinks, is_recorded, now, recorded, notified}
use Rattle.fst_heads.proofs.{Added.{new_node, with_node}, AtNumber.{patches_in_nodes, at_same, at_other}, CountsAs.{count_append, count_cons, count_kept, count_map}}
use Rattle.fst_heads.proofs.Forgetting.{live_place_of}
use Rattle.fst_heads.proofs.Patches.place
use Rattle.fst_heads.proofs.Words.pending

-- how many patches wait for the disk: those of which something is pending, as their dependants know it

pub at_number_told : (n : ℕ) (f : Node → Node) (x : Node) → (f x).pending ≡ x.pending → (at_number n f x).pending ≡ x.pending
at_number_told n f x same = grind (arith, cases_eq, at_same, at_other)

pub waiting_notified : (row : List ℕ) (old new : Pending) (nodes : List Node) → count_by is_waiting (map (notified row old new) nodes) ≡ count_by is_waiting nodes
waiting_notified row old new nodes = grind (arith, count_map, cases_Bool)

abbrev pub one_if : Bool → ℕ
one_if t = cond t 1 0

at_most_one : (t : Bool) → one_if t ≤ 1
at_most_one true = omega arith
at_most_one false = omega arith

one_of : (t : Bool) → one_if (not t) + one_if t ≡ 1
one_of true = refl
one_of false = refl

-- where nothing is pending now of one that waited, one less waits
pub waiting_recorded : (nodes : List Node) (q : ℕ) (here : Node) → AllPairs (λ x y. x.patch.number < y.patch.number) nodes → In nodes here → here.patch.number ≡ q → is_waiting here ≡ true
    → count_by is_waiting (map (at_number q recorded) nodes) + cond (is_pending (now here) pending.Nothing) 1 0 ≡ count_by is_waiting nodes
waiting_recorded [] q here rising i e waits = absurd i
waiting_recorded (x ∷ xs) q here rising i e waits =
    let behind : (y : Node) → In xs y → x.patch.number < y.patch.number = λ y j.
    let k = In-from_Contains xs y (Contains-from_In xs y j) in
    let c = Contains-from_In xs y j in
    subst (λ z. x.patch.number < z.patch.number) c.2 (rising 0 (suc c.0) y (omega arith) (omega (arith, c.1))) in
    let rest : AllPairs (λ x y. x.patch.number < y.patch.number) xs = λ j k d lt inside. rising (suc j) (suc k) d (omega (arith, lt)) (omega (arith, inside)) in
    elim i [
      | inl same ↦ grind (arith, common_steps, count_map, at_other, at_same, one_of, count_cons)
      | inr j ↦
          let first = ap one_if (ap is_waiting (at_other q recorded x (λ n. omega (arith, n, behind here j, e)))) in
          let b = count_cons is_waiting x xs in
          omega (arith, count_cons is_waiting (at_number q recorded x) (map (at_number q recorded) xs), b, first, waiting_recorded xs q here rest j e waits)
    ]

-- with a new node no more than one waits besides
pub waiting_with : (nodes : List Node) (p : Patch) → count_by is_waiting (with_node nodes p) ≤ count_by is_waiting nodes + 1
waiting_with nodes p =
    let linked = count_map is_waiting is_waiting (linked_to p.dependencies p.number) nodes (λ x i. cond_both (is_among p.dependencies x.patch.number) _ _ (λ (y : Node). is_waiting y ≡ is_waiting x) (λ t. refl) (λ f. refl)) in
    let last = new_node nodes p in
    omega (arith, count_append is_waiting (map (linked_to p.dependencies p.number) nodes) (last ∷ []), count_cons is_waiting last [], at_most_one (is_waiting last), linked)

pub is_nothing : (p : Pending) → is_pending p pending.Nothing ≡ true → p ≡ pending.Nothing
is_nothing pending.Nothing e = refl
is_nothing p e = absurd (false≢true e)

-- where its dependants know other than is pending now it waits
pub waits_stale : (x : Node) → Sinks x.pending (now x) → is_recorded x ≡ false → is_waiting x ≡ true
waits_stale x sinks stale = grind (arith, cases_Bool, is_nothing, false≢true)

-- between calls those wait that are not on disk
pub waiting_is : (nodes : List Node) (blocks : ℕ) → AreSettled nodes blocks → (x : Node) → In nodes x → is_waiting x ≡ is_live x.patch
waiting_is nodes blocks S x i =
    let placed = S.placed x (Contains-from_In nodes x i) in
    elim (cases_Bool (is_pending x.pending pending.Nothing)) [
      | inl e ↦ let disk = placed.0 (is_nothing x.pending e) in rw e (sym (ap (λ p. not (is_at p place.Disk)) disk))
      | inr e ↦ rw e (sym (live_place_of x.patch.place (λ disk. false≢true (sym e ∙ ap (λ p. is_pending p pending.Nothing) (placed.1 disk)))))
    ]

pub waiting_live : (nodes : List Node) (blocks : ℕ) → AreSettled nodes blocks → count_by is_waiting nodes ≡ count_by is_live (patches_in nodes)
waiting_live nodes blocks S = go nodes (λ x i. i)
  where
    go : (xs : List Node) → ((x : Node) → In xs x → In nodes x) → count_by is_waiting xs ≡ count_by is_live (patches_in xs)
    go [] among = refl
    go (x ∷ xs) among =
        omega (arith, count_cons is_waiting x xs, count_cons is_live x.patch (patches_in xs), ap one_if (waiting_is nodes blocks S x (among x (inl refl))), go xs (λ y i. among y (inr i)))

abbrev pub one_live : Patch → ℕ
one_live p = cond (is_live p) 1 0

-- what `weight` says of a place
abbrev pub weight_of : Place → ℕ
weight_of at = cond (is_at at place.Disk) 0 1

pub weighs : (p : Patch) → weight_of p.place ≡ one_live p
weighs p = elim (cases_Bool (is_at p.place place.Disk)) [ inl e ↦ rw e refl | inr e ↦ rw e refl ]

pub one_at_most : (p : Patch) → one_live p ≤ 1
one_at_most p = at_most_one (is_live p)

-- a new patch
pub beside_made : (heads : List Patch) (blocks live more : ℕ) (reached : List Bool) (p : Patch) → more ≡ one_live p → live + more ≤ max_heads → Beside heads blocks live reached → Beside (heads ++ p ∷ []) blocks (live + more) reached
beside_made heads blocks live more reached p one few B = search (rules, count_append, count_cons)

-- an open gate with more names
pub beside_depends : (heads : List Patch) (blocks live : ℕ) (reached : List Bool) (g : ℕ) (names : List ℕ) → Beside heads blocks live reached → Beside (map (gains g names) heads) blocks live reached
beside_depends heads blocks live reached g names B = search (rules, count_map)

-- those on disk are forgotten
pub beside_dropped : (heads : List Patch) (blocks live : ℕ) (reached : List Bool) → Beside heads blocks live reached → Beside (filter is_live heads) blocks live reached
beside_dropped heads blocks live reached B = record { places = B.places; counted = B.counted ∙ sym (count_kept is_live is_live heads (λ p e. e)); few = B.few }

-- a seal tells nobody by itself
pub sealed_told : (g : ℕ) (x : Node) → (at_number g seals x).pending ≡ x.pending
sealed_told g x = at_number_told g seals x (cond_both (x.sums.count == 0) _ _ (λ (y : Node). y.pending ≡ x.pending) (λ t. refl) (λ f. refl))

module _ (heads mid new : List Head) (f : Node → Node) (blocks live landed : ℕ) (reached : List Bool) (made : nodes_of mid ≡ map f (nodes_of heads)) (told : (x : Node) → (f x).pending ≡ x.pending)
    (old_settled : AreSettled (nodes_of heads) blocks) (new_settled : AreSettled (nodes_of new) blocks) where
  -- of those that wait so many are told that they are on disk
  landed_live : count_by is_waiting (nodes_of new) + landed ≡ count_by is_waiting (nodes_of mid) → count_by is_live (patches_of new) + landed ≡ count_by is_live (patches_of heads)
  landed_live counted = grind (arith, count_map, waiting_live, patches_in_nodes)

  pub landed_few : count_by is_waiting (nodes_of new) + landed ≡ count_by is_waiting (nodes_of mid) → Beside (patches_of heads) blocks live reached → landed ≤ live
  landed_few counted B = let all = landed_live counted in omega (arith, all, B.counted)

  pub beside_landed : count_by is_waiting (nodes_of new) + landed ≡ count_by is_waiting (nodes_of mid) → Beside (patches_of heads) blocks live reached → Beside (patches_of new) blocks (live - landed) reached
  beside_landed counted B = record { places = B.places; counted = let all = landed_live counted in omega (arith, all, B.counted); few = omega (arith, B.few) }
