-- What the marks of heads tell: which patches are forgotten and how many, and that a step that marks none leaves them so.
use Rattle.std.proofs.Common.{◌≡◌, ◌≤◌, ◌<◌, ◌+◌, ◌==◌, ◌&&◌, ◌||◌, ◌++◌, ◌∷◌, [], ◌∙◌, ℕ, Bool, true, false, not, cond, List, AllPairs, Option, None, Some, IfSome, length, map, count_by, inl, inr, refl, sym, ap, subst, arith}
use Rattle.std.proofs.{Math.Path.fun_ext, lemmas.{Bool.cases_Bool, List.length-map, List.Folds.list_any-append}}
use Rattle.std.specs.{Global.Vec, List.list_any}
use Rattle.fst_types.specs.{Facts.HasOnePlaceEach, Limits.max_heads, Patches.{SealedGate, Patch}, Tests.is_among}
use Rattle.fst_types.proofs.Finite.{In, In-from_Contains, Contains-from_In, In-map}
use Rattle.fst_heads.specs.{Heads.{IsRising, patches_of}, Landed.AreLanded, Nodes.{Node, AreSettled, node_of, nodes_of, patches_in, at_number, is_forgotten_in, gains_names, linked_to}, Spreading.{IsSpreadOf, seals, unspread}, declared.{head.Head.Head, heads.Heads.Heads}, declared.pending.Sums.Sums}
use Rattle.fst_heads.proofs.{Added.{with_names, with_node}, AtNumber.patches_in_nodes, CountsAs.{count_append, count_cons}, Flagged.{forgotten_found, forgotten_here}, Landed.{IsAs, landed_map, rested_as}, Indices.rising_map}
use Rattle.fst_graph.proofs.{Remembered.remembered_pushed}
use Rattle.fst_graph.specs.{Remembered.{AreGone, remembered}, Sound.{AreRemembered, remembered_of}, declared.prepared.Prepared.Prepared as Stored}
use Rattle.fst_types.proofs.Cascades.{unsettled_number}

-- its number, and whether it is forgotten
abbrev flag_of : Node → ℕ × Bool
flag_of x = (x.patch.number, x.forgotten)

abbrev pub flags_of : List Node → List (ℕ × Bool)
flags_of nodes = map flag_of nodes

abbrev told : List (ℕ × Bool) → ℕ → Bool
told flags n = list_any (λ (f : ℕ × Bool). f.1 && (f.0 == n)) flags

gone_told : (nodes : List Node) (n : ℕ) → is_forgotten_in nodes n ≡ told (flags_of nodes) n
gone_told [] n = refl
gone_told (x ∷ xs) n = ap (λ b. (x.forgotten && (x.patch.number == n)) || b) (gone_told xs n)

abbrev marked : List Node → ℕ
marked nodes = count_by (λ x. x.forgotten) nodes

count_told : (nodes : List Node) → marked nodes ≡ count_by (λ (f : ℕ × Bool). f.1) (flags_of nodes)
count_told [] = refl
count_told (x ∷ xs) = count_cons (λ (y : Node). y.forgotten) x xs ∙ (ap (λ k. cond x.forgotten 1 0 + k) (count_told xs) ∙ sym (count_cons (λ (f : ℕ × Bool). f.1) (flag_of x) (flags_of xs)))

-- a step that marks none
pub flags_map : (f : Node → Node) → ((x : Node) → flag_of (f x) ≡ flag_of x) → (nodes : List Node) → flags_of (map f nodes) ≡ flags_of nodes
flags_map f same [] = refl
flags_map f same (x ∷ xs) = rw (same x, flags_map f same xs) refl

flags_at : (n : ℕ) (f : Node → Node) → ((x : Node) → flag_of (f x) ≡ flag_of x) → (x : Node) → flag_of (at_number n f x) ≡ flag_of x
flags_at n f same x = elim (cases_Bool (x.patch.number == n)) [ inl e ↦ rw e (same x) | inr e ↦ rw e refl ]

flags_linked : (row : List ℕ) (n : ℕ) (x : Node) → flag_of (linked_to row n x) ≡ flag_of x
flags_linked row n x = elim (cases_Bool (is_among row x.patch.number)) [ inl e ↦ rw e refl | inr e ↦ rw e refl ]

flag_unspread : (x : Node) → flag_of (unspread x) ≡ flag_of x
flag_unspread x = ap (λ n. (n, x.forgotten)) (unsettled_number x.patch.kind x.patch)

pub flags_spread : (old new : List Node) → IsSpreadOf old new → flags_of new ≡ flags_of old
flags_spread old new spread = sym (flags_map unspread flag_unspread new) ∙ (ap flags_of spread ∙ flags_map unspread flag_unspread old)

gone_same : (old new : List Node) → flags_of new ≡ flags_of old → is_forgotten_in new ≡ is_forgotten_in old
gone_same old new e = fun_ext (λ n. gone_told new n ∙ (ap (λ fs. told fs n) e ∙ sym (gone_told old n)))

-- a new patch is not forgotten
gone_with : (nodes : List Node) (p : Patch) → is_forgotten_in (with_node nodes p) ≡ is_forgotten_in nodes
gone_with nodes p =
    let same = gone_same nodes (map (linked_to p.dependencies p.number) nodes) (flags_map (linked_to p.dependencies p.number) (flags_linked p.dependencies p.number) nodes) in
    fun_ext (λ n. list_any-append (λ (x : Node). x.forgotten && (x.patch.number == n)) (map (linked_to p.dependencies p.number) nodes) _ ∙ (or_none _ ∙ ap (λ t. t n) same))
  where
    or_none : (b : Bool) → (b || false) ≡ b
    or_none true = refl
    or_none false = refl

count_same : (old new : List Node) → flags_of new ≡ flags_of old → marked new ≡ marked old
count_same old new e = count_told new ∙ (ap (count_by (λ (f : ℕ × Bool). f.1)) e ∙ sym (count_told old))

count_with : (nodes : List Node) (p : Patch) → marked (with_node nodes p) ≡ marked nodes
count_with nodes p = count_append (λ (x : Node). x.forgotten) (map (linked_to p.dependencies p.number) nodes) _ ∙ (add-zero _ ∙ count_same nodes (map (linked_to p.dependencies p.number) nodes) (flags_map (linked_to p.dependencies p.number) (flags_linked p.dependencies p.number) nodes))
  where
    add-zero : (k : ℕ) → k + 0 ≡ k
    add-zero k = omega arith

-- those that are not marked are the others
kept_or_not : (t : Bool) (p : Patch) (ps : List Patch) → length (cond (not t) (p ∷ ps) ps) + cond t 1 0 ≡ length ps + 1
kept_or_not true p ps = omega arith
kept_or_not false p ps = omega arith

length_left : (gone : ℕ → Bool) (nodes : List Node) → ((x : Node) → In nodes x → gone x.patch.number ≡ x.forgotten) → length (remembered gone (patches_in nodes)) + marked nodes ≡ length nodes
length_left gone [] same = refl
length_left gone (x ∷ xs) same =
    let rest = length_left gone xs (λ y i. same y (inr i)) in
    let kept = remembered gone (patches_in xs) in
    let own : length (remembered gone (patches_in (x ∷ xs))) ≡ length (cond (not x.forgotten) (x.patch ∷ kept) kept) = ap (λ t. length (cond (not t) (x.patch ∷ kept) kept)) (same x (inl refl)) in
    omega (arith, rest, own, kept_or_not x.forgotten x.patch kept, count_cons (λ (y : Node). y.forgotten) x xs)

module _ (heads : List Head) (rising : AllPairs (λ x y. x.patch.number < y.patch.number) (nodes_of heads)) where
  pub standing : length (remembered_of heads) + marked (nodes_of heads) ≡ length heads
  standing =
      subst (λ ps. length (remembered (is_forgotten_in (nodes_of heads)) ps) + marked (nodes_of heads) ≡ length heads) (patches_in_nodes heads)
      (length_left (is_forgotten_in (nodes_of heads)) (nodes_of heads) (λ x i. forgotten_here (nodes_of heads) x rising (Contains-from_In (nodes_of heads) x i)) ∙ length-map heads node_of)

pub standing_as : (old new : List Head) → flags_of (nodes_of new) ≡ flags_of (nodes_of old) → AllPairs (λ x y. x.patch.number < y.patch.number) (nodes_of old) → AllPairs (λ x y. x.patch.number < y.patch.number) (nodes_of new)
    → length (remembered_of new) ≡ length (remembered_of old)
standing_as old new same rising rising' =
    let long : length new ≡ length old = sym (length-map new node_of) ∙ (sym (length-map (nodes_of new) flag_of) ∙ (ap length same ∙ (length-map (nodes_of old) flag_of ∙ length-map old node_of))) in
    omega (arith, standing old rising, standing new rising', count_same (nodes_of old) (nodes_of new) same, long)

-- none past the last number is forgotten
pub gone_past : (heads : List Head) (numbers n : ℕ) → HasOnePlaceEach (patches_of heads) numbers → numbers < n → is_forgotten_in (nodes_of heads) n ≡ false
gone_past heads numbers n H past = elim (cases_Bool (is_forgotten_in (nodes_of heads) n)) [
  | inl e ↦
      let r = forgotten_found (nodes_of heads) n e in
      let there : In (patches_of heads) r.0.patch = subst (λ ps. In ps r.0.patch) (patches_in_nodes heads) (In-map (λ (x : Node). x.patch) (nodes_of heads) r.0 r.0.patch (In-from_Contains (nodes_of heads) r.0 r.1) refl) in
      let k = (H.numbered r.0.patch (Contains-from_In (patches_of heads) r.0.patch there)).1 in
      absurd (let same = r.2 in omega (arith, k, same, past))
  | inr f ↦ f
]

-- what is forgotten is on disk
pub gone_from : (heads : List Head) (blocks : ℕ) (landed : List ℕ) → AreSettled (nodes_of heads) blocks → AreLanded (nodes_of heads) landed → AllPairs (λ x y. x.patch.number < y.patch.number) (nodes_of heads) → AreGone (is_forgotten_in (nodes_of heads)) (patches_of heads)
gone_from heads blocks landed S A rising p h e =
    let nodes = nodes_of heads in
    let there = patch_node nodes p (subst (λ ps. In ps p) (sym (patches_in_nodes heads)) (In-from_Contains (patches_of heads) p h)) in
    let mark : there.0.forgotten ≡ true = sym (forgotten_here nodes there.0 rising (Contains-from_In nodes there.0 there.1)) ∙ (ap (λ (q : Patch). is_forgotten_in nodes q.number) there.2 ∙ e) in
    let c = Contains-from_In nodes there.0 there.1 in
    ap (λ (q : Patch). q.place) (sym there.2) ∙ (S.placed there.0 c).0 (A.gone there.0 c mark)
  where
    patch_node : (nodes : List Node) (q : Patch) → In (patches_in nodes) q → (x : Node) × In nodes x × (x.patch ≡ q)
    patch_node [] q i = absurd i
    patch_node (x ∷ xs) q (inl same) = (x, inl refl, same)
    patch_node (x ∷ xs) q (inr i) = let r = patch_node xs q i in (r.0, inr r.1, r.2)

pub rising_nodes : (heads : List Head) → IsRising heads → AllPairs (λ x y. x.patch.number < y.patch.number) (nodes_of heads)
rising_nodes heads rising = rising_map node_of heads (λ h. h.number) (λ x. x.patch.number) (λ h. refl) rising

-- what is prepared may go
pub unspared : {heads : List Head} {landed : Vec ℕ} {forgotten : ℕ} {o : Option Stored} → AreRemembered heads landed forgotten o → AreRemembered heads landed forgotten None
unspared R = record { counted = R.counted; few = R.few; told = R.told; shelf = R.shelf; spare = tt }

pub spared : (heads new : Heads) (landed now : Vec ℕ) (o : Option Stored) (p : Stored) → o ≡ Some p → IfSome o (λ q. length heads.list.items < landed.cap) → new.list.len ≡ heads.list.len → now.cap ≡ landed.cap → length new.list.items < now.cap
spared heads new landed now o p is spare long cap = let one : length heads.list.items < landed.cap = subst (λ x. IfSome x (λ q. length heads.list.items < landed.cap)) is spare in omega (arith, one, long, cap, heads.list.ok.0, new.list.ok.0)

-- more room among those that landed
pub roomier_shelf : {heads new : List Head} {landed wider : Vec ℕ} {forgotten : ℕ} {o : Option Stored} → nodes_of new ≡ nodes_of heads → wider.items ≡ landed.items → landed.cap ≤ wider.cap → AreRemembered heads landed forgotten o → AreRemembered new wider forgotten None
roomier_shelf {heads} {new} same items wide R =
    let long : length new ≡ length heads = sym (length-map new node_of) ∙ (ap length same ∙ length-map heads node_of) in
    let few = R.few in
    let shelf = R.shelf in
    record { counted = rw same R.counted; few = omega (arith, few, long); told = rw (same, items) R.told; shelf = omega (arith, long, shelf, wide); spare = tt }

-- after a step that marks none
module _ (old new : List Head) (same : flags_of (nodes_of new) ≡ flags_of (nodes_of old)) where
  gone_as : is_forgotten_in (nodes_of new) ≡ is_forgotten_in (nodes_of old)
  gone_as = gone_same (nodes_of old) (nodes_of new) same

  long_as : length new ≡ length old
  long_as = sym (length-map new node_of) ∙ (sym (length-map (nodes_of new) flag_of) ∙ (ap length same ∙ (length-map (nodes_of old) flag_of ∙ length-map old node_of)))

  pub remembered_as : {patches : List Patch} → patches_of new ≡ patches → remembered_of new ≡ remembered (is_forgotten_in (nodes_of old)) patches
  remembered_as seen = ap (λ t. remembered t (patches_of new)) gone_as ∙ ap (remembered (is_forgotten_in (nodes_of old))) seen

  pub remembered_still : {landed now : Vec ℕ} {forgotten : ℕ} {o : Option Stored} → AreLanded (nodes_of new) now.items → now.cap ≡ landed.cap → AreRemembered old landed forgotten o → AreRemembered new now forgotten None
  remembered_still A cap R =
      let few = R.few in
      let shelf = R.shelf in
      record { counted = R.counted ∙ sym (count_same (nodes_of old) (nodes_of new) same); few = omega (arith, few, long_as); told = A; shelf = omega (arith, shelf, long_as, cap); spare = tt }

-- with a new patch, which is not forgotten
module _ (old new : List Head) (p : Patch) (made : nodes_of new ≡ with_node (nodes_of old) p) where
  gone_made : is_forgotten_in (nodes_of new) ≡ is_forgotten_in (nodes_of old)
  gone_made = ap is_forgotten_in made ∙ gone_with (nodes_of old) p

  pub remembered_made : {numbers : ℕ} → HasOnePlaceEach (patches_of old) numbers → p.number ≡ numbers + 1 → patches_of new ≡ patches_of old ++ p ∷ [] → remembered_of new ≡ remembered_of old ++ p ∷ []
  remembered_made {numbers} H next seen =
      ap (λ t. remembered t (patches_of new)) gone_made
      ∙ (ap (remembered (is_forgotten_in (nodes_of old))) seen ∙ remembered_pushed (is_forgotten_in (nodes_of old)) (patches_of old) p (gone_past old numbers p.number H (omega (arith, next))))

  pub remembered_more : {landed now : Vec ℕ} {forgotten : ℕ} {o : Option Stored} → length new ≡ length old + 1 → length old < forgotten + max_heads → AreLanded (nodes_of new) now.items → length old < now.cap → AreRemembered old landed forgotten o → AreRemembered new now forgotten None
  remembered_more long room A shelf R = record {
    counted = R.counted ∙ sym (ap marked made ∙ count_with (nodes_of old) p);
    few = omega (arith, long, room);
    told = A;
    shelf = omega (arith, long, shelf);
    spare = tt;
  }

-- a node that keeps its number and its mark
flag_as : (x y : Node) → IsAs x y → flag_of y ≡ flag_of x
flag_as x y k = rw (k.number, k.forgotten) refl

seals_as : (x : Node) → IsAs x (seals x)
seals_as x = let k = rested_as (record x { patch = record x.patch { kind = SealedGate } }) in record { number = k.number; pending = k.pending; forgotten = k.forgotten }

at_as : (n : ℕ) (f : Node → Node) → ((x : Node) → IsAs x (f x)) → (x : Node) → IsAs x (at_number n f x)
at_as n f same x = elim (cases_Bool (x.patch.number == n)) [ inl e ↦ rw e (same x) | inr e ↦ rw e (record { number = refl; pending = refl; forgotten = refl }) ]

-- once a gate is sealed, and what rests by that is on disk
module _ (heads mid : List Head) (g : ℕ) (shut : nodes_of mid ≡ map (at_number g seals) (nodes_of heads)) where
  pub shut_long : length mid ≡ length heads
  shut_long = sym (length-map mid node_of) ∙ (ap length shut ∙ (length-map (nodes_of heads) (at_number g seals) ∙ length-map heads node_of))

  pub shut_landed : {landed : List ℕ} → AreLanded (nodes_of heads) landed → AreLanded (nodes_of mid) landed
  shut_landed {landed} A = rw shut (landed_map (at_number g seals) (nodes_of heads) landed (at_as g seals seals_as) A)

  pub shut_flags : (new : List Head) → IsSpreadOf (nodes_of mid) (nodes_of new) → flags_of (nodes_of new) ≡ flags_of (nodes_of heads)
  shut_flags new spread = flags_spread (nodes_of mid) (nodes_of new) spread ∙ (ap flags_of shut ∙ flags_map (at_number g seals) (flags_at g seals (λ x. flag_as x (seals x) (seals_as x))) (nodes_of heads))

-- once a gate gained names
linked_as : (row : List ℕ) (n : ℕ) (x : Node) → IsAs x (linked_to row n x)
linked_as row n x = elim (cases_Bool (is_among row x.patch.number)) [ inl e ↦ rw e (record { number = refl; pending = refl; forgotten = refl }) | inr e ↦ rw e (record { number = refl; pending = refl; forgotten = refl }) ]

gains_as : (names : List ℕ) (sums : Sums) (x : Node) → IsAs x (gains_names names sums x)
gains_as names sums x = record { number = refl; pending = refl; forgotten = refl }

module _ (heads new : List Head) (g : ℕ) (names : List ℕ) (sums : Sums) (gained : nodes_of new ≡ with_names (nodes_of heads) g names sums) where
  abbrev mid : List Node
  mid = map (at_number g (gains_names names sums)) (nodes_of heads)

  pub gained_landed : {landed : List ℕ} → AreLanded (nodes_of heads) landed → AreLanded (nodes_of new) landed
  gained_landed {landed} A =
      rw gained (landed_map (linked_to names g) mid landed (linked_as names g) (landed_map (at_number g (gains_names names sums)) (nodes_of heads) landed (at_as g (gains_names names sums) (gains_as names sums)) A))

  pub gained_flags : flags_of (nodes_of new) ≡ flags_of (nodes_of heads)
  gained_flags =
      ap flags_of gained
      ∙ (flags_map (linked_to names g) (λ x. flag_as x (linked_to names g x) (linked_as names g x)) mid
      ∙ flags_map (at_number g (gains_names names sums)) (flags_at g (gains_names names sums) (λ x. refl)) (nodes_of heads))
