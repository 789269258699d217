-- What a node keeps, and what it gets, where it is told what is pending of another.
use Rattle.fst_heads.proofs.Basics.{◌≡◌, ◌≢◌, ◌⊎◌, ◌↔◌, ◌==◌, ◌&&◌, ℕ, Bool, true, false, cond, List, refl, sym, ap, subst, inl, inr, arith, cases_Bool, cases_eq, and_parts, eqb-true, eq-eqb, false≢true, both_ways, false_from_ne_true, rules}
use Rattle.fst_heads.proofs.Patches.{Patch, Place, Kind, Change, Empty, OpenGate, SealedGate, Follows, In, In_decided, among_in, in_among}
use Rattle.fst_heads.proofs.Patches.place
use Rattle.fst_heads.proofs.Words.{Pending, Sums, join, joined_sums, is_pending, of_kind, IsOf, plus, minus, Node, at_number, now, is_recorded, follows, rested, updated, notified, recorded, unspread, unrisen, nothing}
use Rattle.fst_heads.proofs.Words.pending
use Rattle.fst_heads.proofs.{AtNumber.{at_same, at_other}, Joining.{meet_same, meet_other}}

-- what is pending

pub same_pending : (p n : Pending) → is_pending p n ≡ true → p ≡ n
same_pending pending.Nothing pending.Nothing e = refl
same_pending (pending.Block b) (pending.Block c) e = ap (λ k. pending.Block k) (eqb-true b c e)
same_pending (pending.Behind b) (pending.Behind c) e = ap (λ k. pending.Behind k) (eqb-true b c e)
same_pending pending.Apart pending.Apart e = refl
same_pending pending.Held pending.Held e = refl
same_pending p n e = absurd (false≢true e)

pub is_itself : (p : Pending) → is_pending p p ≡ true
is_itself (pending.Block b) = eq-eqb b b refl
is_itself (pending.Behind b) = eq-eqb b b refl
is_itself p = refl

-- what is told is what is pending now
pub stale : (x : Node) → is_recorded x ≡ false → now x ≢ x.pending
stale x e same = both_ways (is_recorded x) e (subst (λ p. is_pending p x.pending ≡ true) (sym same) (is_itself x.pending))

pub not_recorded : (x : Node) → now x ≢ x.pending → is_recorded x ≡ false
not_recorded x ne = false_from_ne_true (is_recorded x) (λ e. ne (same_pending (now x) x.pending e))

pub recorded_now : (x : Node) → now x ≡ x.pending → is_recorded x ≡ true
recorded_now x e = subst (λ p. is_pending p x.pending ≡ true) (sym e) (is_itself x.pending)

-- what is pending by a kind

pub follows_is : (k : Kind) → follows k ≡ true → Follows k
follows_is Empty e = tt
follows_is SealedGate e = tt
follows_is k e = absurd (false≢true e)

block_own : (b c : ℕ) (p : Pending) → IsOf c (join (pending.Block b) p) → b ≡ c
block_own b c p o = grind (arith, cases_eq, meet_same, meet_other)

behind_own : (b c : ℕ) (p : Pending) → IsOf c (join (pending.Behind b) p) → b ≡ c
behind_own b c p o = grind (arith, cases_eq, meet_same, meet_other)

some_left : (t u v : Bool) (b : ℕ) → cond t (cond u (cond v (pending.Block b) (pending.Behind b)) pending.Apart) pending.Held ≡ pending.Nothing → ⊥
some_left true true true b e = cc
some_left true true false b e = cc
some_left t u v b e = cc

pub nothing_counted : (s : Sums) → joined_sums s ≡ pending.Nothing → s.count ≡ 0
nothing_counted s e = grind (arith, cases_Bool, eqb-true, some_left)

pub counted_nothing : (s : Sums) → s.count ≡ 0 → joined_sums s ≡ pending.Nothing
counted_nothing s e = rw (eq-eqb s.count 0 e) refl

-- changes of one block are pending of a change of it, or of what is below an empty patch or a sealed gate
pub block_of : (k : Kind) (p : Place) (below : Pending) (b : ℕ) → IsOf b (of_kind k p below) → ((at len : ℕ) × (grade : _) × (k ≡ Change b at len grade)) ⊎ IsOf b below
block_of (Change block at len grade) place.Memory below b o = inl (at, len, grade, ap (λ c. Change c at len grade) (block_own block b below o))
block_of (Change block at len grade) place.Flight below b o = inl (at, len, grade, ap (λ c. Change c at len grade) (behind_own block b below o))
block_of (Change block at len grade) place.Disk below b o = absurd (elim o [ inl e ↦ cc | inr e ↦ cc ])
block_of Empty p below b o = inr o
block_of OpenGate p below b o = absurd (elim o [ inl e ↦ cc | inr e ↦ cc ])
block_of SealedGate p below b o = inr o

-- y is x but for its sums, what is pending of it, and the place of an empty patch or a sealed gate
pub record Stays (x y : Node) : Type 0 where
  pub number : y.patch.number ≡ x.patch.number
  pub kind : y.patch.kind ≡ x.patch.kind
  pub dependencies : y.patch.dependencies ≡ x.patch.dependencies
  pub spread : unspread y ≡ unspread x

abbrev patch_with : ℕ → Kind → Place → List ℕ → Patch
patch_with n k at row = record { number = n; kind = k; place = at; dependencies = row }

patch_same : (n m : ℕ) (k l : Kind) (at to : Place) (row other : List ℕ) → n ≡ m → k ≡ l → at ≡ to → row ≡ other → patch_with n k at row ≡ patch_with m l to other
patch_same n m k l at to row other e f g h = rw (e, f, g, h) refl

abbrev bare : Patch → List ℕ → Bool → Node
bare p ms gone = record { patch = p; sums = nothing; pending = pending.Nothing; dependants = ms; forgotten = gone }

bare_same : (p q : Patch) (ms ns : List ℕ) (gone lost : Bool) → p ≡ q → ms ≡ ns → gone ≡ lost → bare p ms gone ≡ bare q ns lost
bare_same p q ms ns gone lost e f g = rw (e, f, g) refl

-- where the place is the same too
pub unrisen_stays : (x y : Node) → Stays x y → y.patch.place ≡ x.patch.place → unrisen y ≡ unrisen x
unrisen_stays x y s place =
    bare_same y.patch x.patch y.dependants x.dependants y.forgotten x.forgotten
    (patch_same y.patch.number x.patch.number y.patch.kind x.patch.kind y.patch.place x.patch.place y.patch.dependencies x.patch.dependencies s.number s.kind place s.dependencies)
    (ap (λ (z : Node). z.dependants) s.spread) (ap (λ (z : Node). z.forgotten) s.spread)

abbrev rest_if : Bool → Node → Node
rest_if t x = cond t (record x { patch = record x.patch { place = place.Disk } }) x

-- a node that rests
pub record Rests (x y : Node) : Type 0 where
  pub stays : Stays x y
  pub told : y.pending ≡ x.pending
  pub sums : y.sums ≡ x.sums
  pub pends : now y ≡ now x
  pub places : (y.patch.place ≡ x.patch.place) ⊎ (y.patch.place ≡ place.Disk)

rests_if : (t : Bool) (x : Node) → (t ≡ true → Follows x.patch.kind) → Rests x (rest_if t x)
rests_if true x f = search rules
rests_if false x f = search rules

abbrev goes : Node → Bool
goes x = follows x.patch.kind && (x.sums.count == 0)

goes_parts : (x : Node) → goes x ≡ true → Follows x.patch.kind × (x.sums.count ≡ 0)
goes_parts x e = let k = and_parts (follows x.patch.kind) (x.sums.count == 0) e in (follows_is x.patch.kind k.0, eqb-true x.sums.count 0 k.1)

pub rests : (x : Node) → Rests x (rested x)
rests x = rests_if (goes x) x (λ e. (goes_parts x e).0)

-- what becomes of a node where old of a patch with this row of dependants becomes new
pub record Updated (row : List ℕ) (old new : Pending) (x y : Node) : Type 0 where
  pub stays : Stays x y
  pub told : y.pending ≡ x.pending
  pub pends : now y ≡ of_kind x.patch.kind x.patch.place (joined_sums y.sums)
  pub places : (y.patch.place ≡ x.patch.place) ⊎ (y.patch.place ≡ place.Disk)
  pub same : (In row x.patch.number → ⊥) → (y.sums ≡ x.sums) × (y.patch.place ≡ x.patch.place)
  pub moved : In row x.patch.number → y.sums ≡ plus new (minus old x.sums)
  pub placed : In row x.patch.number → (x.patch.place ≡ place.Disk → now y ≡ pending.Nothing) → (now y ≡ pending.Nothing) ↔ (y.patch.place ≡ place.Disk)

module _ (row : List ℕ) (old new : Pending) (x : Node) where
  pub is_notified : In row x.patch.number → notified row old new x ≡ updated old new x
  is_notified h = let e = in_among row x.patch.number h in rw e refl

  pub updated_notified : Updated row old new x (notified row old new x)
  updated_notified = elim (In_decided row x.patch.number) [
    | inl h ↦ grind (arith, rests, is_notified)
    | inr out ↦ grind (arith, false_from_ne_true, among_in)
  ]

-- what becomes of a node where new is told of the patch with number q and row of dependants
pub record Turns (row : List ℕ) (old new : Pending) (q : ℕ) (x y : Node) : Type 0 where
  pub stays : Stays x y
  pub as_it_was : x.patch.number ≢ q → y.pending ≡ x.pending
  pub as_it_is : x.patch.number ≡ q → y.pending ≡ now x
  pub pends : now y ≡ of_kind x.patch.kind x.patch.place (joined_sums y.sums)
  pub places : (y.patch.place ≡ x.patch.place) ⊎ (y.patch.place ≡ place.Disk)
  pub same : (In row x.patch.number → ⊥) → (y.sums ≡ x.sums) × (y.patch.place ≡ x.patch.place)
  pub moved : In row x.patch.number → y.sums ≡ plus new (minus old x.sums)
  pub placed : In row x.patch.number → (x.patch.place ≡ place.Disk → now y ≡ pending.Nothing) → (now y ≡ pending.Nothing) ↔ (y.patch.place ≡ place.Disk)

abbrev pub turned : List ℕ → Pending → Pending → ℕ → Node → Node
turned row old new q x = notified row old new (at_number q recorded x)

pub turns : (row : List ℕ) (old new : Pending) (q : ℕ) (x : Node) → Turns row old new q x (turned row old new q x)
turns row old new q x = elim (cases_eq x.patch.number q) [
  | inl e ↦
      let h = updated_notified row old new (recorded x) in
      let was : x.patch.number ≢ q → (notified row old new (recorded x)).pending ≡ x.pending = λ ne. absurd (ne e) in
      subst (λ z. Turns row old new q x (notified row old new z)) (sym (at_same q recorded x e)) (search rules)
  | inr ne ↦
      let h = updated_notified row old new x in
      let is : x.patch.number ≡ q → (notified row old new x).pending ≡ now x = λ e. absurd (ne e) in
      subst (λ z. Turns row old new q x (notified row old new z)) (sym (at_other q recorded x ne)) (search rules)
]
