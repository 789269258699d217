-- What becomes of the counts of each block where what is pending of one patch is settled.
use Rattle.fst_heads.proofs.Basics.{◌≡◌, ◌≢◌, ℕ, ◌+◌, ◌<◌, ◌≤◌, ◌&&◌, inl, inr, not, All-set, and_right, Bool, true, false, cond, List, length, count_by, set, get_or, refl, sym, ap, subst, ◌∙◌, arith, length-set, cases_eq, eq-eqb, ne_eqb, false≢true, length-map, get_or-map, rules, map-set, common_steps}
use Rattle.fst_heads.proofs.{Basics.{sum_by-set, get_or-le-sum_by, count_by-le-length}, Patches.{Grade, Change, is_at, is_on, is_change_at}}
use Rattle.fst_heads.proofs.Words.{Head, kind_of, patch_of, Standing, Node, node_of, nodes_of, is_pending, Sinks, now, is_recorded, recorded, AllStand, is_ready_on, is_held_on, is_flying_on, standing_of, LieAsTold, LiesIn, readied, released, widened, is_hard_kind}
use Rattle.fst_heads.proofs.{CountsAs.{CountsAs, StandsAs, standing_same, stand_as, stand_set, off_as, ready_here, held_here, flying_here}, Turning.is_itself, Beside.one_if}
use Rattle.fst_heads.proofs.Stretches.{NumbersHave, widened_here, lie_wider}
use Rattle.fst_heads.proofs.Patches.place
use Rattle.fst_heads.proofs.Words.pending

-- the node of the head at an index
pub node_at : (heads : List Head) (s : ℕ) (h : Head) (d : Node) → s < length heads → h ≡ get_or heads s h → get_or (nodes_of heads) s d ≡ node_of h
node_at heads s h d lt e = get_or-map node_of heads s h d lt ∙ ap node_of (sym e)

-- where the dependants of a change in memory know other than is pending of it, it waited for more than its block
pub waited_for_more : (x : Node) (b at len : ℕ) (grade : Grade) → x.patch.kind ≡ Change b at len grade → x.patch.place ≡ place.Memory → Sinks x.pending (now x) → is_recorded x ≡ false
    → is_pending x.pending (pending.Block b) ≡ false
waited_for_more x b at len grade kind memory sinks stale = grind (arith, false≢true, is_itself)

-- what a release leaves of what is told of the numbers
lie_released : (nodes : List Node) (b : ℕ) (hard : Bool) (number : ℕ) (s : Standing) → LieAsTold nodes b (readied number s) → LieAsTold nodes b (released hard number s)
lie_released nodes b true number s L = record { held = L.held; ready = L.ready; flying = L.flying }
lie_released nodes b false number s L = L

module _ (nodes : List Node) (s : ℕ) (x : Node) (lt : s < length nodes) (e : get_or nodes s x ≡ x) where
  -- a count where the node is another
  count_set : (t : Node → Bool) (y : Node) → count_by t (set nodes s y) + cond (t x) 1 0 ≡ count_by t nodes + cond (t y) 1 0
  count_set t y = ap (λ z. count_by t (set nodes s y) + cond (t z) 1 0) (sym e) ∙ sum_by-set (λ z. cond (t z) 1 0) nodes s y x lt

  count_same : (t : Node → Bool) (y : Node) → t y ≡ t x → count_by t (set nodes s y) ≡ count_by t nodes
  count_same t y same = let all = count_set t y in let one = ap one_if same in omega (arith, all, one)

  -- the numbers of those that pass, where the node has such a number
  numbers_set : (t : Node → Bool) (P : ℕ → Type 0) (y : Node) → (t y ≡ true → P y.patch.number) → NumbersHave t P nodes → NumbersHave t P (set nodes s y)
  numbers_set t P y own all = All-set (λ z. t z ≡ true → P z.patch.number) nodes s y own all

  numbers_kept : (t : Node → Bool) (P : ℕ → Type 0) (y : Node) → t y ≡ t x → (t y ≡ true → y.patch.number ≡ x.patch.number) → NumbersHave t P nodes → NumbersHave t P (set nodes s y)
  numbers_kept t P y same number all = numbers_set t P y (λ passes. subst P (sym (number passes)) (subst (λ z. t z ≡ true → P z.patch.number) e (all s x lt) (sym same ∙ passes))) all

  -- it counts as before, or otherwise for one block
  standing_kept : (b : ℕ) (y : Node) → CountsAs b y x → StandsAs b (set nodes s y) nodes
  standing_kept b y same = record {
    counted = λ t. standing_same _ _ _ _ _ _ t (count_same (is_ready_on b) y same.ready) (count_same (is_held_on b) y same.held) (count_same (is_flying_on b) y same.flying);
    lie = λ t L. record {
      held = numbers_kept (is_held_on b) (λ n. t.held_from ≤ n) y same.held (λ passes. same.number (held_here b y passes)) L.held;
      ready = numbers_kept (is_ready_on b) (LiesIn t.ready_in) y same.ready (λ passes. same.number (ready_here b y passes)) L.ready;
      flying = numbers_kept (is_flying_on b) (LiesIn t.flying_in) y same.flying (λ passes. same.number (flying_here b y passes)) L.flying;
    };
  }

  pub stand_kept : (blocks : ℕ) (standings : List Standing) (y : Node) → ((b : ℕ) → CountsAs b y x) → AllStand nodes blocks standings → AllStand (set nodes s y) blocks standings
  stand_kept blocks standings y same S = stand_as (set nodes s y) nodes blocks standings (λ b inside. standing_kept b y (same b)) S

  -- what counts is counted
  pub counted_some : (t : Node → Bool) → t x ≡ true → 0 < count_by t nodes
  counted_some t passes = grind (arith, get_or-le-sum_by, one_if)

  module _ (b at len : ℕ) (grade : Grade) (kind : x.patch.kind ≡ Change b at len grade) (memory : x.patch.place ≡ place.Memory) (sinks : Sinks x.pending (now x)) (stale : is_recorded x ≡ false) where
    here : is_change_at place.Memory b x.patch ≡ true
    here = ap (λ q. is_at q place.Memory && is_on b x.patch.kind) memory ∙ (ap (is_on b) kind ∙ eq-eqb b b refl)

    before : is_pending x.pending (pending.Block b) ≡ false
    before = waited_for_more x b at len grade kind memory sinks stale

    -- it was held if it is hard, and is ready from then on
    not_ready : is_ready_on b x ≡ false
    not_ready = ap (λ t. t && is_pending x.pending (pending.Block b)) here ∙ before

    off : (c : ℕ) → c ≢ b → is_on c x.patch.kind ≡ false
    off c ne = ap (is_on c) kind ∙ ne_eqb b c (λ same. ne (sym same))

    -- where it waits for more than its block from then on too, no count changes
    pub stand_waiting : (blocks : ℕ) (standings : List Standing) → is_pending (now x) (pending.Block b) ≡ false → AllStand nodes blocks standings → AllStand (set nodes s (recorded x)) blocks standings
    stand_waiting blocks standings more S = stand_kept blocks standings (recorded x) (λ c. elim (cases_eq c b) [
      | inl same ↦ subst (λ k. CountsAs k (recorded x) x) (sym same) (record {
        ready = ap (λ t. is_change_at place.Memory b x.patch && t) (more ∙ sym before);
        held = ap (λ t. is_change_at place.Memory b x.patch && is_hard_kind x.patch.kind && not t) (more ∙ sym before);
        flying = refl;
        number = λ on. refl;
      })
      | inr ne ↦ off_as c (recorded x) x (off c ne) (off c ne)
    ]) S

    -- where it waits for its block alone from then on, it is ready
    module _ (block_again : is_pending (now x) (pending.Block b) ≡ true) where
      ready_then : is_ready_on b (recorded x) ≡ true
      ready_then = ap (λ t. t && is_pending (now x) (pending.Block b)) here ∙ block_again

      -- one more can be ready
      pub ready_few : count_by (is_ready_on b) nodes < length nodes
      ready_few =
          let most = count_by-le-length (is_ready_on b) (set nodes s (recorded x)) in
          omega (arith, count_set (is_ready_on b) (recorded x), most, ap one_if not_ready, ap one_if ready_then, length-set nodes s (recorded x))

      not_held : is_held_on b (recorded x) ≡ false
      not_held = rw (here, block_again) (and_right (is_hard_kind x.patch.kind) false refl)

      not_flying : is_flying_on b (recorded x) ≡ false
      not_flying = ap (λ q. is_at q place.Flight && is_on b x.patch.kind) memory

      module _ (blocks : ℕ) (standings : List Standing) (d : Standing) (inside : b < blocks) (S : AllStand nodes blocks standings) where
        abbrev old : Standing
        old = get_or standings b d

        abbrev freed : Standing
        freed = released (is_hard_kind x.patch.kind) x.patch.number old

        own : freed ≡ standing_of (set nodes s (recorded x)) b freed
        own = grind (arith, common_steps, count_same)

        lie : LieAsTold (set nodes s (recorded x)) b freed
        lie = lie_released (set nodes s (recorded x)) b (is_hard_kind x.patch.kind) x.patch.number old (record {
          held = numbers_set (is_held_on b) (λ n. old.held_from ≤ n) (recorded x) (λ passes. absurd (false≢true (sym not_held ∙ passes))) (S.lie b d inside).held;
          ready = numbers_set (is_ready_on b) (LiesIn (widened x.patch.number old.ready_in)) (recorded x) (λ passes. widened_here x.patch.number old.ready_in)
              (lie_wider (is_ready_on b) nodes x.patch.number old.ready_in (S.lie b d inside).ready);
          flying = numbers_set (is_flying_on b) (LiesIn old.flying_in) (recorded x) (λ passes. absurd (false≢true (sym not_flying ∙ passes))) (S.lie b d inside).flying;
        })

        pub stand_released : AllStand (set nodes s (recorded x)) blocks (set standings b (released (is_hard_kind x.patch.kind) x.patch.number (get_or standings b d)))
        stand_released = stand_set (set nodes s (recorded x)) nodes blocks b standings freed inside S own lie
            (λ c within ne. standing_kept c (recorded x) (off_as c (recorded x) x (off c ne) (off c ne)))

-- what is told of anything else changes no count
pub recorded_kept : (x : Node) (b : ℕ) → is_change_at place.Memory b x.patch ≡ false → CountsAs b (recorded x) x
recorded_kept x b off = record { ready = rw off refl; held = rw off refl; flying = refl; number = λ on. refl }

-- the head at the index takes what is pending now
pub nodes_settled : (heads : List Head) (s : ℕ) (y h : Head) → node_of y ≡ recorded (node_of h) → nodes_of (set heads s y) ≡ set (nodes_of heads) s (recorded (node_of h))
nodes_settled heads s y h e = map-set node_of heads s y ∙ ap (set (nodes_of heads) s) e

module _ (heads : List Head) (s : ℕ) (h : Head) (lt : s < length heads) (e : h ≡ get_or heads s h) (blocks : ℕ) (standings : List Standing) (S : AllStand (nodes_of heads) blocks standings) where
  long : s < length (nodes_of heads)
  long = omega (arith, lt, length-map heads node_of)

  there : get_or (nodes_of heads) s (node_of h) ≡ node_of h
  there = node_at heads s h (node_of h) lt e

  -- what is told of anything but a change in memory
  pub stand_told : (y : Head) → node_of y ≡ recorded (node_of h) → ((b : ℕ) → is_change_at place.Memory b (patch_of h) ≡ false) → AllStand (nodes_of (set heads s y)) blocks standings
  stand_told y same off =
      subst (λ xs. AllStand xs blocks standings) (sym (nodes_settled heads s y h same)) (stand_kept (nodes_of heads) s (node_of h) long there blocks standings (recorded (node_of h)) (λ b. recorded_kept (node_of h) b (off b)) S)

  -- of a change of b in memory that waits for more than its block from then on too
  pub stand_held : (b at len : ℕ) (grade : Grade) → kind_of h.kind ≡ Change b at len grade → h.place ≡ place.Memory → Sinks h.pending (now (node_of h)) → is_recorded (node_of h) ≡ false
      → (y : Head) → node_of y ≡ recorded (node_of h) → is_pending (now (node_of h)) (pending.Block b) ≡ false → AllStand (nodes_of (set heads s y)) blocks standings
  stand_held b at len grade kind memory sinks stale y same more =
      subst (λ xs. AllStand xs blocks standings) (sym (nodes_settled heads s y h same))
      (stand_waiting (nodes_of heads) s (node_of h) long there b at len grade kind memory sinks stale blocks standings more S)

  -- of a change of b in memory
  module _ (b at len : ℕ) (grade : Grade) (kind : kind_of h.kind ≡ Change b at len grade) (memory : h.place ≡ place.Memory)
      (sinks : Sinks h.pending (now (node_of h))) (stale : is_recorded (node_of h) ≡ false) (inside : b < blocks) (st : Standing) (own : st ≡ get_or standings b st) where
    counted : st ≡ standing_of (nodes_of heads) b (get_or standings b st)
    counted = own ∙ S.each b st inside

    pub few_ready : is_pending (now (node_of h)) (pending.Block b) ≡ true → st.ready < length heads
    few_ready again = search (rules, ready_few, long, there, counted, length-map)

    pub some_held : is_hard_kind (kind_of h.kind) ≡ true → 0 < st.held
    some_held hard = grind (arith, counted_some, long, there, counted)

    pub stand_freed : is_pending (now (node_of h)) (pending.Block b) ≡ true → (y : Head) → node_of y ≡ recorded (node_of h) → (after : Standing) → after ≡ released (is_hard_kind (kind_of h.kind)) h.number st → AllStand (nodes_of (set heads s y)) blocks (set standings b after)
    stand_freed again y same after is =
        let all = stand_released (nodes_of heads) s (node_of h) long there b at len grade kind memory sinks stale again blocks standings st inside S in
        let value = is ∙ ap (released (is_hard_kind (kind_of h.kind)) h.number) own in
        subst (λ xs. AllStand xs blocks (set standings b after)) (sym (nodes_settled heads s y h same)) (subst (λ z. AllStand (set (nodes_of heads) s (recorded (node_of h))) blocks (set standings b z)) (sym value) all)
