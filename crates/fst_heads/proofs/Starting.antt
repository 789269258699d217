-- How a spread begins, and what it leaves.
use Rattle.fst_heads.proofs.Basics.{◌≡◌, ◌≢◌, ◌⊎◌, ◌↔◌, ◌==◌, ◌&&◌, ◌<◌, ℕ, Bool, true, false, not, cond, List, [], ◌∷◌, Some, length, map, filter, AllPairs, Contains, refl, sym, ap, subst, ◌∙◌, inl, inr, arith, list_any, cases_Bool, cases_eq, eq-eqb, ne_eqb, eqb-true, both_ways, not-true, and_parts, rules}
use Rattle.fst_heads.proofs.Basics.{Any-from_list_any, list_any-from_Any, length-map, get_or-map, AllPairs-filter}
use Rattle.fst_heads.proofs.Patches.{Place, IsCascadeOf, Follows, RestsOnDisk, unsettled, IsOnDisk, SparseAreLawful, IsOpenNumber, sealed, Kind, Change, Empty, OpenGate, SealedGate, Patch, block_of_kind, is_change_at, landed, no_follower_on, same_number, filter_in, in_filter, In, In-from_Contains}
use Rattle.fst_heads.proofs.Words.{Pending, IsInside, flying_on, Node, patches_in, pending_in, at_number, AreSettled, is_pending, joined, joined_sums, of_kind, Spreading, IsSpreadOf, now, is_recorded, seals, lands, enqueued_sealed, Sinks, IsOf, sums_of}
use Rattle.fst_heads.proofs.Going.{OneWay, sinks_way}
use Rattle.fst_heads.proofs.{AtNumber.{at_same, at_other}, Joining.{held_sinks, sinks_to_nothing}, Pended.{now_row, recorded_now, now_at_rest}, PendingIn.found}
use Rattle.fst_heads.proofs.Waiting.{pending_of, pending_mapped}
use Rattle.fst_heads.proofs.{Placed.{SameLinks, patch_in, node_of_patch, number_if, dependencies_if, unsettled_spread, unmapped}, Indices.{rising_back, rising_map, some_element}}
use Rattle.fst_heads.proofs.Sums.{joined_nothing, joined_all_nothing, sums_same}
use Rattle.fst_types.proofs.Landing.{landed_cases, change_at, at_change}
use Rattle.fst_heads.proofs.Patches.{Contains-from_In, In-map, In-unmap, Grade, Rising as IsRising}
use Rattle.fst_heads.proofs.Turning.{counted_nothing, nothing_counted, recorded_now as told_from}
use Rattle.fst_heads.proofs.Patches.place
use Rattle.fst_heads.proofs.Words.pending

-- how a spread begins: f changes some of the nodes at rest, and the queue has those of which other is pending by that

-- what a spread knows of each node, but for the sums and the queue
pub record Sound (goes : Pending → Pending → Type 0) (x : Node) (blocks : ℕ) : Type 0 where
  pub moves : goes x.pending (now x)
  pub placed : (now x ≡ pending.Nothing) ↔ (x.patch.place ≡ place.Disk)
  pub follow : Follows x.patch.kind → (x.patch.place ≡ place.Memory) ⊎ (x.patch.place ≡ place.Disk)
  pub changes : (b at len : ℕ) (grade : Grade) → x.patch.kind ≡ Change b at len grade → b < blocks

place_cases : (p : Place) → (p ≡ place.Memory) ⊎ ((p ≡ place.Flight) ⊎ (p ≡ place.Disk))
place_cases place.Memory = inl refl
place_cases place.Flight = inr (inl refl)
place_cases place.Disk = inr (inr refl)

-- f leaves numbers, rows, dependants, sums, and what dependants were told
pub record Begins (goes : Pending → Pending → Type 0) (nodes : List Node) (blocks : ℕ) (f : Node → Node) (queue : List ℕ) : Type 0 where
  pub links : (x : Node) → SameLinks x (f x)
  pub sums : (x : Node) → (f x).sums ≡ x.sums
  pub pending : (x : Node) → (f x).pending ≡ x.pending
  pub sound : (x : Node) → Contains nodes x → Sound goes (f x) blocks
  pub queued : (n : ℕ) → Contains queue n → (x : Node) × Contains nodes x × (x.patch.number ≡ n) × (is_recorded (f x) ≡ false)
  pub waits : (x : Node) → Contains nodes x → is_recorded (f x) ≡ false → Contains queue x.patch.number
  pub once : AllPairs (λ m n. m ≢ n) queue

module _ {goes : Pending → Pending → Type 0} {far : Pending → ℕ} (way : OneWay goes far) (nodes : List Node) (numbers blocks : ℕ) (H : SparseAreLawful (patches_in nodes) numbers) (inside : IsInside (patches_in nodes) blocks) (S : AreSettled nodes blocks) where
  -- each node at rest
  pub sound_at_rest : (x : Node) → Contains nodes x → Sound goes x blocks
  sound_at_rest x c =
      let same = now_at_rest nodes blocks S x c in
      let h = patch_in nodes x c in
      record {
        moves = subst (goes x.pending) (sym same) (way.stays x.pending);
        placed = (λ e. (S.placed x c).0 (sym same ∙ e), λ d. same ∙ (S.placed x c).1 d);
        follow = λ f. elim (place_cases x.patch.place) [
          | inl m ↦ inl m
          | inr o ↦ elim o [
            | inl flies ↦ let on = H.on_disk_with_all.only_changes_fly x.patch h flies in absurd (no_follower_on x.patch.kind on.0 on.1 f)
            | inr d ↦ inr d
          ]
        ];
        changes = λ b at len grade e. inside x.patch b h (ap block_of_kind e);
      }

module _ {goes : Pending → Pending → Type 0} (nodes : List Node) (blocks : ℕ) (f : Node → Node) (queue : List ℕ) (B : Begins goes nodes blocks f queue) where
  was : (y : Node) → Contains (map f nodes) y → (x : Node) × Contains nodes x × (f x ≡ y)
  was = unmapped f nodes

  sound : (y : Node) → Contains (map f nodes) y → Sound goes y blocks
  sound y c = let x = was y c in subst (λ z. Sound goes z blocks) x.2 (B.sound x.0 x.1)

  rising_nodes : IsRising (patches_in nodes) → AllPairs (λ x y. x.patch.number < y.patch.number) (map f nodes)
  rising_nodes rising =
      rising_map f nodes (λ y. y.patch.number) (λ y. y.patch.number) (λ y. (B.links y).number) (rising_back (λ (x : Node). x.patch) nodes (λ x. x.patch.number) (λ p. p.number) (λ x. refl) rising)

  summed : AreSettled nodes blocks → (x : Node) → Contains nodes x → (f x).sums ≡ sums_of (pending_in (map f nodes)) (f x).patch.dependencies
  summed S x c =
      B.sums x
      ∙ (S.summed x c
      ∙ (sym (sums_same (pending_in nodes) (pending_in (map f nodes)) x.patch.dependencies (λ n named. pending_mapped f nodes n (λ z. (B.links z).number) (λ z _. B.pending z)))
      ∙ ap (sums_of (pending_in (map f nodes))) (sym (B.links x).dependencies)))

  -- then it goes on
  pub begun : IsRising (patches_in nodes) → AreSettled nodes blocks → Spreading goes (map f nodes) blocks queue
  begun rising S = record {
    rising = rising_nodes rising;
    summed = λ y c. let x = was y c in subst (λ (z : Node). z.sums ≡ sums_of (pending_in (map f nodes)) z.patch.dependencies) x.2 (summed S x.0 x.1);
    moves = λ y c. (sound y c).moves;
    placed = λ y c. (sound y c).placed;
    follow = λ y c g. (sound y c).follow g;
    inside = λ y b c o. let x = was y c in S.inside x.0 b x.1 (subst (IsOf b) (ap (λ (z : Node). z.pending) (sym x.2) ∙ B.pending x.0) o);
    changes = λ y b at len grade c e. (sound y c).changes b at len grade e;
    queued = λ n c. let x = B.queued n c in (f x.0, Contains-from_In (map f nodes) (f x.0) (In-map f nodes x.0 (f x.0) (In-from_Contains nodes x.0 x.1) refl), (B.links x.0).number ∙ x.2, x.3);
    waits = λ y c e.
        let x = was y c in
        subst (λ (z : Node). Contains queue z.patch.number) x.2 (subst (Contains queue) (sym (B.links x.0).number) (B.waits x.0 x.1 (subst (λ (z : Node). is_recorded z ≡ false) (sym x.2) e)));
    once = B.once;
  }

-- what stays is told
pub stays_recorded : (nodes : List Node) (blocks : ℕ) → AreSettled nodes blocks → (x : Node) → Contains nodes x → is_recorded x ≡ true
stays_recorded nodes blocks S x c = told_from x (now_at_rest nodes blocks S x c)

-- what passes a test among the elements
any_fails : {X : Type 0} (t : X → Bool) (xs : List X) (x : X) → In xs x → t x ≡ true → list_any t xs ≡ true
any_fails t xs x h e = let c = Contains-from_In xs x h in list_any-from_Any t xs (c.0, x, c.1, c.2, e)

-- no number stands twice among those of elements that rise
pub numbers_once : {X : Type 0} (number : X → ℕ) (t : X → Bool) (xs : List X) → AllPairs (λ x y. number x < number y) xs → AllPairs (λ m n. m ≢ n) (map number (filter t xs))
numbers_once number t xs rising i j d lt within same =
    let fs = filter t xs in
    let up : j < length fs = omega (arith, within, length-map fs number) in
    let e = some_element fs j up in
    let at = λ (k : ℕ) (up : k < length fs). get_or-map number fs k e d up in
    omega (arith, same, AllPairs-filter (λ x y. number x < number y) t xs rising i j e lt up, at i (omega (arith, lt, up)), at j up)

-- a sealed gate is on disk where its row has none that is not there
pub sealed_cases : (x : Node) → ((x.sums.count ≡ 0) × (seals x ≡ record x { patch = record x.patch { kind = SealedGate; place = place.Disk } })) ⊎ ((x.sums.count ≢ 0) × (seals x ≡ record x { patch = record x.patch { kind = SealedGate } }))
sealed_cases x = grind (arith, cases_eq, eq-eqb, ne_eqb)

-- nothing but the patch's kind and place differs
pub record SameBut (x y : Node) : Type 0 where
  pub links : SameLinks x y
  pub sums : y.sums ≡ x.sums
  pub pending : y.pending ≡ x.pending

seals_same : (x : Node) → SameBut x (seals x)
seals_same x = grind (arith, sealed_cases)

pub seal_same : (g : ℕ) (x : Node) → SameBut x (at_number g seals x)
seal_same g x = grind (arith, cases_eq, at_same, seals_same, at_other)

module _ (nodes : List Node) (numbers blocks g : ℕ) (H : SparseAreLawful (patches_in nodes) numbers) (inside : IsInside (patches_in nodes) blocks) (S : AreSettled nodes blocks) (gate : IsOpenNumber (patches_in nodes) g) where
  -- the node with the number is an open gate in memory, and is sealed; the others stay
  seal_cases : (x : Node) → Contains nodes x → ((x.patch.number ≡ g) × (x.patch.kind ≡ OpenGate) × (x.patch.place ≡ place.Memory) × (at_number g seals x ≡ seals x)) ⊎ ((x.patch.number ≢ g) × (at_number g seals x ≡ x))
  seal_cases x c = elim (cases_eq x.patch.number g) [
    | inl e ↦
        let h = patch_in nodes x c in
        let same = same_number (patches_in nodes) x.patch gate.patch H.one_place_each.rising h gate.head (e ∙ sym gate.numbered) in
        let is_open : x.patch.kind ≡ OpenGate = ap (λ (p : Patch). p.kind) same ∙ gate.is_open in
        inl (e, is_open, H.on_disk_with_all.open_gates x.patch h is_open, at_same g seals x e)
    | inr ne ↦ inr (ne, at_other g seals x ne)
  ]

  open_held : (x : Node) → Contains nodes x → x.patch.kind ≡ OpenGate → x.pending ≡ pending.Held
  open_held x c is_open = S.settled x c ∙ ap (λ k. of_kind k x.patch.place (joined (pending_in nodes) x.patch.dependencies)) is_open

  seals_sound : (x : Node) → Contains nodes x → x.patch.kind ≡ OpenGate → x.patch.place ≡ place.Memory → Sound Sinks (seals x) blocks
  seals_sound x c is_open memory = elim (sealed_cases x) [
    | inl e ↦ grind (arith, open_held, held_sinks, counted_nothing)
    | inr e ↦ subst (λ y. Sound Sinks y blocks) (sym e.1) (record {
      moves = rw (open_held x c is_open) (held_sinks (now (record x { patch = record x.patch { kind = SealedGate } })));
      placed = (λ n. absurd (e.0 (nothing_counted x.sums n)), λ d. absurd (cc));
      follow = λ f. inl memory;
      changes = λ b at len grade k. absurd (cc);
    })
  ]

  -- whether the sealed gate waits
  enqueue_cases : ((x : Node) × Contains nodes x × (x.patch.number ≡ g) × (is_recorded (seals x) ≡ false) × (enqueued_sealed g nodes ≡ g ∷ []))
      ⊎ (((x : Node) → Contains nodes x → x.patch.number ≡ g → is_recorded (seals x) ≡ false → ⊥) × (enqueued_sealed g nodes ≡ []))
  enqueue_cases =
      let t = λ (x : Node). (x.patch.number == g) && not (is_recorded (seals x)) in
      elim (cases_Bool (list_any t nodes)) [
        | inl e ↦
            let r = Any-from_list_any t nodes e in
            let both = and_parts (r.1.patch.number == g) (not (is_recorded (seals r.1))) r.4 in
            inl (r.1, (r.0, r.2, r.3), eqb-true r.1.patch.number g both.0, not-true (is_recorded (seals r.1)) both.1, ap (λ b. cond b (g ∷ []) []) e)
        | inr e ↦ inr (
          λ x c n u. absurd (both_ways (list_any t nodes) e (any_fails t nodes x (In-from_Contains nodes x c) (rw (eq-eqb x.patch.number g n, u) refl))),
          ap (λ b. cond b (g ∷ []) []) e,
        )
      ]

  seal_begins : Begins Sinks nodes blocks (at_number g seals) (enqueued_sealed g nodes)
  seal_begins = record {
    links = λ x. (seal_same g x).links;
    sums = λ x. (seal_same g x).sums;
    pending = λ x. (seal_same g x).pending;
    sound = λ x c. elim (seal_cases x c) [
      | inl s ↦ subst (λ y. Sound Sinks y blocks) (sym s.3) (seals_sound x c s.1 s.2)
      | inr s ↦ subst (λ y. Sound Sinks y blocks) (sym s.1) (sound_at_rest sinks_way nodes numbers blocks H inside S x c)
    ];
    queued = λ n c. elim enqueue_cases [
      | inl r ↦ elim (In-from_Contains (g ∷ []) n (subst (λ q. Contains q n) r.4 c)) [
        | inl here ↦ (r.0, r.1, r.2 ∙ here, subst (λ (y : Node). is_recorded y ≡ false) (sym (at_same g seals r.0 r.2)) r.3)
        | inr none ↦ absurd none
      ]
      | inr none ↦ absurd (In-from_Contains [] n (subst (λ q. Contains q n) none.1 c))
    ];
    waits = λ x c u. elim (seal_cases x c) [
      | inl s ↦ elim enqueue_cases [
        | inl r ↦ subst (λ q. Contains q x.patch.number) (sym r.4) (Contains-from_In (g ∷ []) x.patch.number (inl (sym s.0)))
        | inr none ↦ absurd (none.0 x c s.0 (subst (λ (y : Node). is_recorded y ≡ false) s.3 u))
      ]
      | inr s ↦ absurd (both_ways (is_recorded x) (subst (λ (y : Node). is_recorded y ≡ false) s.1 u) (stays_recorded nodes blocks S x c))
    ];
    once = grind (arith, enqueue_cases);
  }

-- where a gate is sealed
pub starts_sealed : (nodes : List Node) (numbers blocks g : ℕ) → SparseAreLawful (patches_in nodes) numbers → IsInside (patches_in nodes) blocks → AreSettled nodes blocks → IsOpenNumber (patches_in nodes) g
    → Spreading Sinks (map (at_number g seals) nodes) blocks (enqueued_sealed g nodes)
starts_sealed nodes numbers blocks g H inside S gate = begun nodes blocks (at_number g seals) (enqueued_sealed g nodes) (seal_begins nodes numbers blocks g H inside S gate) H.one_place_each.rising S

-- a change on disk has nothing pending
nothing_on_disk : (k : Kind) (b : ℕ) (below : Pending) → block_of_kind k ≡ Some b → of_kind k place.Disk below ≡ pending.Nothing
nothing_on_disk (Change block at len grade) b below on = refl
nothing_on_disk k b below on = cc

not_nothing : (p : Pending) → p ≢ pending.Nothing → is_pending pending.Nothing p ≡ false
not_nothing pending.Nothing ne = absurd (ne refl)
not_nothing p ne = refl

pub land_same : (b : ℕ) (x : Node) → SameBut x (lands b x)
land_same b x = search (rules, number_if, dependencies_if)

module _ (nodes : List Node) (numbers blocks b : ℕ) (H : SparseAreLawful (patches_in nodes) numbers) (inside : IsInside (patches_in nodes) blocks) (S : AreSettled nodes blocks) where
  -- a number of what flies on the block
  flying_in : (n : ℕ) → Contains (flying_on b (patches_in nodes)) n → (x : Node) × Contains nodes x × (x.patch.number ≡ n) × (is_change_at place.Flight b x.patch ≡ true)
  flying_in n c =
      let r = In-unmap (λ (p : Patch). p.number) (filter (is_change_at place.Flight b) (patches_in nodes)) n (In-from_Contains _ n c) in
      let k = filter_in (is_change_at place.Flight b) (patches_in nodes) r.0 r.1 in
      let x = node_of_patch nodes r.0 (Contains-from_In (patches_in nodes) r.0 k.0) in
      (x.0, x.1, ap (λ p. p.number) x.2 ∙ r.2, subst (λ p. is_change_at place.Flight b p ≡ true) (sym x.2) k.1)

  in_flying : (x : Node) → Contains nodes x → is_change_at place.Flight b x.patch ≡ true → Contains (flying_on b (patches_in nodes)) x.patch.number
  in_flying x c flies =
      let k = in_filter (is_change_at place.Flight b) (patches_in nodes) x.patch (In-from_Contains (patches_in nodes) x.patch (patch_in nodes x c)) flies in
      Contains-from_In _ x.patch.number (In-map (λ (p : Patch). p.number) (filter (is_change_at place.Flight b) (patches_in nodes)) x.patch x.patch.number k refl)

  flying_once : AllPairs (λ m n. m ≢ n) (flying_on b (patches_in nodes))
  flying_once = numbers_once (λ (p : Patch). p.number) (is_change_at place.Flight b) (patches_in nodes) H.one_place_each.rising

  -- what lands was in flight; the others stay
  land_cases : (x : Node) → ((is_change_at place.Flight b x.patch ≡ true) × (lands b x ≡ record x { patch = record x.patch { place = place.Disk } })) ⊎ (lands b x ≡ x)
  land_cases x = grind (arith, landed_cases, at_change)

  lands_sound : (x : Node) → Contains nodes x → Sound Sinks (lands b x) blocks
  lands_sound x c = elim (land_cases x) [
    | inl m ↦ grind (arith, change_at, nothing_on_disk, sinks_to_nothing, no_follower_on, patch_in)
    | inr s ↦ subst (λ y. Sound Sinks y blocks) (sym s) (sound_at_rest sinks_way nodes numbers blocks H inside S x c)
  ]

  -- its dependants were told of a change in flight that it is not on disk
  lands_stale : (x : Node) → Contains nodes x → is_change_at place.Flight b x.patch ≡ true → is_recorded (lands b x) ≡ false
  lands_stale x c here = elim (landed_cases b x.patch) [
    | inl m ↦
        let nothing = nothing_on_disk x.patch.kind b (joined_sums x.sums) m.0 in
        let flies = m.1 in
        ap (λ p. is_recorded (record x { patch = p })) m.2
        ∙ (ap (λ p. is_pending p x.pending) nothing ∙ not_nothing x.pending (λ e. let d = (S.placed x c).0 e in cc))
    | inr s ↦ let flies = change_at place.Flight b x.patch here in absurd (s.1 flies.0 flies.1)
  ]

  land_begins : Begins Sinks nodes blocks (lands b) (flying_on b (patches_in nodes))
  land_begins = record {
    links = λ x. (land_same b x).links;
    sums = λ x. refl;
    pending = λ x. refl;
    sound = lands_sound;
    queued = λ n c. let x = flying_in n c in (x.0, x.1, x.2, lands_stale x.0 x.1 x.3);
    waits = λ x c u. elim (land_cases x) [
      | inl m ↦ in_flying x c m.0
      | inr s ↦ absurd (both_ways (is_recorded x) (subst (λ (y : Node). is_recorded y ≡ false) s u) (stays_recorded nodes blocks S x c))
    ];
    once = flying_once;
  }

-- where a block landed
pub starts_landed : (nodes : List Node) (numbers blocks b : ℕ) → SparseAreLawful (patches_in nodes) numbers → IsInside (patches_in nodes) blocks → AreSettled nodes blocks
    → Spreading Sinks (map (lands b) nodes) blocks (flying_on b (patches_in nodes))
starts_landed nodes numbers blocks b H inside S = begun nodes blocks (lands b) (flying_on b (patches_in nodes)) (land_begins nodes numbers blocks b H inside S) H.one_place_each.rising S

-- a patch that follows has nothing pending besides its row
follows_row : (k : Kind) → Follows k → (at : Place) (below : Pending) → of_kind k at below ≡ below
follows_row Empty f at below = refl
follows_row SealedGate f at below = refl
follows_row k f at below = absurd f

module _ {goes : Pending → Pending → Type 0} (nodes : List Node) (blocks : ℕ) (S : Spreading goes nodes blocks []) where
  -- all are told
  all_told : (x : Node) → Contains nodes x → now x ≡ x.pending
  all_told x c = grind (arith, cases_Bool, recorded_now)

  -- nothing is pending of a number exactly where it is on disk
  nothing_disk : (n : ℕ) → pending_in nodes n ≡ pending.Nothing → IsOnDisk (patches_in nodes) n
  nothing_disk n none p h numbered =
      let x = node_of_patch nodes p h in
      let here : pending_in nodes n ≡ x.0.pending = subst (λ m. pending_in nodes m ≡ x.0.pending) (ap (λ (q : Patch). q.number) x.2 ∙ numbered) (pending_of nodes x.0 S.rising x.1) in
      sym (ap (λ (q : Patch). q.place) x.2) ∙ (S.placed x.0 x.1).0 (all_told x.0 x.1 ∙ (sym here ∙ none))

  disk_nothing : (n : ℕ) → IsOnDisk (patches_in nodes) n → pending_in nodes n ≡ pending.Nothing
  disk_nothing n disk = elim (found nodes n) [
    | inl f ↦ f.told ∙ (sym (all_told f.node f.head) ∙ (S.placed f.node f.head).1 (disk f.node.patch (patch_in nodes f.node f.head) f.numbered))
    | inr none ↦ none
  ]

  row_now : (x : Node) → Contains nodes x → Follows x.patch.kind → now x ≡ joined (pending_in nodes) x.patch.dependencies
  row_now x c f = now_row (pending_in nodes) x (S.summed x c) ∙ follows_row x.patch.kind f x.patch.place (joined (pending_in nodes) x.patch.dependencies)

  disk_rests : (x : Node) → Contains nodes x → Follows x.patch.kind → x.patch.place ≡ place.Disk → RestsOnDisk (patches_in nodes) x.patch
  disk_rests x c f disk n named =
      nothing_disk n (joined_nothing (pending_in nodes) x.patch.dependencies (sym (row_now x c f) ∙ (S.placed x c).1 disk) n named)

  rests_disk : (x : Node) → Contains nodes x → Follows x.patch.kind → RestsOnDisk (patches_in nodes) x.patch → x.patch.place ≡ place.Disk
  rests_disk x c f rests =
      (S.placed x c).0 (row_now x c f ∙ joined_all_nothing (pending_in nodes) x.patch.dependencies (λ n named. disk_nothing n (rests n named)))

-- where nothing waits
pub settled_spread : {goes : Pending → Pending → Type 0} (nodes : List Node) (blocks : ℕ) → Spreading goes nodes blocks [] → AreSettled nodes blocks
settled_spread nodes blocks S = record {
  summed = S.summed;
  settled = λ x c. sym (all_told nodes blocks S x c) ∙ now_row (pending_in nodes) x (S.summed x c);
  placed = λ x c. let told = all_told nodes blocks S x c in (λ e. (S.placed x c).0 (told ∙ e), λ d. sym told ∙ (S.placed x c).1 d);
  inside = S.inside;
}

pub cascaded_spread : {goes : Pending → Pending → Type 0} (old new : List Node) (blocks : ℕ) → Spreading goes new blocks [] → IsSpreadOf old new → IsCascadeOf (patches_in old) (patches_in new)
cascaded_spread old new blocks S spread = record {
  same = unsettled_spread old new spread;
  places = λ p c f. let x = node_of_patch new p c in subst (λ (q : Patch). (q.place ≡ place.Memory) ⊎ (q.place ≡ place.Disk)) x.2 (S.follow x.0 x.1 (subst (λ (q : Patch). Follows q.kind) (sym x.2) f));
  settled = λ p c f.
      let x = node_of_patch new p c in
      let g = subst (λ (q : Patch). Follows q.kind) (sym x.2) f in
      subst (λ (q : Patch). (q.place ≡ place.Disk) ↔ RestsOnDisk (patches_in new) q) x.2 (disk_rests new blocks S x.0 x.1 g, rests_disk new blocks S x.0 x.1 g);
}

pub patches_landed : (nodes : List Node) (b : ℕ) → patches_in (map (lands b) nodes) ≡ map (landed b) (patches_in nodes)
patches_landed [] b = refl
patches_landed (x ∷ xs) b = let r = patches_landed xs b in rw r refl

pub unsettled_sealed : (nodes : List Node) (g : ℕ) → map unsettled (patches_in (map (at_number g seals) nodes)) ≡ map unsettled (map (sealed g) (patches_in nodes))
unsettled_sealed [] g = refl
unsettled_sealed (x ∷ xs) g = grind (arith, cases_eq, eq-eqb, sealed_cases, ne_eqb, unsettled_sealed xs g)
