-- What is prepared for a group: its row, by what the head waits for; that it is ready; and which number and grade a change would have.
use Rattle.std.proofs.lemmas.Option.{same_Some}
use Rattle.std.proofs.Common.{◌≡◌, ◌+◌, ◌<◌, ◌≤◌, ◌++◌, ℕ, Bool, List, [], ◌∷◌, Option, Some, None, IfSome, option_map, length, map, Contains, refl, sym, ap, subst, ◌∙◌, inl, inr, arith, ◌≢◌, true, false, IfNone, count_by, is_some, get_or, eqb}
use Rattle.std.proofs.lemmas.{Bool.{cases_Bool, eqb-true, eqb-false, false≢true}, Option.IfSome_then}
use Rattle.fst_types.specs.{Cascade.IsCascadeOf, Dependencies.{DirectlyOn, IsLiveNumber, IsOnDisk}, Facts.{SparseAreLawful, IsTied}, Gates.IsOpenNumber, Gating.sealed}
use Rattle.fst_types.specs.{Grades.FollowsRule, Order.{make_order, room_order, NamesUnknown}, Patches.Patch, Refusals.NoneHolds, declared.{span.Span.Span}}
use Rattle.fst_heads.specs.{Frames.{frames_of, HasRoomBelow}, Grading.MayBeHard, Heads.{IsRising, patches_of}, Keeps.Keeps, Indices.HasIndex}
use Rattle.fst_heads.specs.{Names.numbers_of, Nodes.{node_of, nodes_of, is_live_in, AreCounted}, Rows.IsSparseRow, declared.head.Head.Head}
use Rattle.fst_graph.specs.{Fresh.HasPlaces, Membering.{ArePaired, BeginsAs, OverlapReaches}, Ready.{change_of, IsReady, IsMemberReady, MayBePut, HasRoomAround}}
use Rattle.fst_graph.specs.{Sparse.{SparseChangeIsMade}, declared.prepared.Gates.Gates, declared.prepared.Prepared.Prepared as Stored}
use Rattle.fst_graph.specs.declared.columns.Columns.{Columns}
use Rattle.fst_types.proofs.{Cascades.place_decided, Finite.{In, In-from_Contains, Contains-from_In}, SmallStates.only_in}
use Rattle.fst_heads.proofs.{AtNumber.patches_in_nodes, Beside.one_if, CountsAs.{count_cons, count_none}, Forgetting.{live_in, in_live}, Framed.{room_above, room_below}}
use Rattle.fst_heads.proofs.{PendingAt.node_in, Indices.{any_default, direct_at, named_at}, Touching.{graded_change, touched_overlaps, overlaps_touched}}
use Rattle.fst_graph.proofs.{Kept.keeps_sealed, Readied.{ready_made, ready_member, member_put}, TakenAsSealed.{is, depends, open_was, open_is, stays, touched_was, back_sealed, rule_sealed, gate_lives, gate_rests, row_named, row_unnamed}}
use Rattle.fst_walks.specs.{Telling.IsTold, declared.graded.Graded.Graded}
use Rattle.fst_types.specs.declared.grade.Grade.TheVariants as grade

module _ (old : List Patch) (n blocks : ℕ) (marks : List Bool) (K : Keeps old n blocks marks) (gates : Gates) (paired : ArePaired old n gates.head gates.tail) where
  -- the heads keep as much once the head is sealed
  keeps_begun : (begun : List Patch) → BeginsAs old gates.head begun → Keeps begun n blocks marks
  keeps_begun begun (inl s) = keeps_sealed old begun n blocks gates.head marks marks K s.gate s.cascade refl
  keeps_begun begun (inr s) = subst (λ hs. Keeps hs n blocks marks) (sym s.1) K

  clear_begun : (kept : List Patch) → NoneHolds (room_order kept n) → NoneHolds (make_order kept n (gates.head ∷ []))
  clear_begun kept room = (
    λ many. omega (arith, many),
    (λ (u : NamesUnknown n (gates.head ∷ [])). u.2 (subst (λ x. (1 ≤ x) × (x ≤ n)) (only_in gates.head u.0 u.1) paired.given), room),
  )

  pub member_ready : (kept : List Patch) (p : Stored) → numbers_of p.names.items ≡ gates.head ∷ [] → p.block < blocks → (OverlapReaches old gates.tail p.block p.span.at p.span.len → ⊥) → NoneHolds (room_order kept n)
      → ((begun : List Patch) → BeginsAs old gates.head begun → IsSparseRow begun (gates.head ∷ []) p.block p.span.at p.span.len p.dependencies.items)
      → ((begun : List Patch) → BeginsAs old gates.head begun → IsTold begun p.block p.dependencies.items (MayBeHard begun None p.block p.dependencies.items) p.told)
      → IsMemberReady old kept n blocks gates p
  member_ready kept p names inside apart room depends told = record {
    made = λ begun s. record {
      clear = rw names (clear_begun kept room);
      inside = inside;
      depends = rw names (depends begun s);
      graded = graded_change begun n blocks marks (keeps_begun begun s) p.block p.span.at p.span.len (gates.head ∷ []) p.told.grade p.dependencies.items (depends begun s) (let known = told begun s in known.graded);
      back = let known = told begun s in known.back;
    };
    names = names;
    apart = apart;
    room = room;
    paired = paired;
  }

-- what was found for it, as the heads were read
pub member_found : {heads read : List Head} {kept : List Patch} {numbers blocks b : ℕ} {marks : List Bool} {span : Span} → Keeps (patches_of heads) numbers blocks marks → (gates : Gates) → ArePaired (patches_of heads) numbers gates.head gates.tail → (p : Stored) → numbers_of p.names.items ≡ gates.head ∷ [] → p.block ≡ b → p.span ≡ span → b < blocks
    → read ≡ heads → (OverlapReaches (patches_of heads) gates.tail b span.at span.len → ⊥) → NoneHolds (room_order kept numbers)
    → ((begun : List Patch) → BeginsAs (patches_of read) gates.head begun → IsSparseRow begun (gates.head ∷ []) b span.at span.len p.dependencies.items)
    → ((begun : List Patch) → BeginsAs (patches_of read) gates.head begun → IsTold begun b p.dependencies.items (MayBeHard begun None b p.dependencies.items) p.told)
    → IsMemberReady (patches_of heads) kept numbers blocks gates p
member_found {heads} {kept = kept} {numbers = n} {blocks = blocks} {b = b} {marks = marks} {span = span} K gates paired p named on at inside read apart room depends told =
    let old = patches_of heads in
    let row = p.dependencies.items in
    let sparse : (begun : List Patch) → BeginsAs old gates.head begun → IsSparseRow begun (gates.head ∷ []) p.block p.span.at p.span.len row =
    rw (on, at) (subst (λ hs. (begun : List Patch) → BeginsAs (patches_of hs) gates.head begun → IsSparseRow begun (gates.head ∷ []) b span.at span.len row) read depends) in
    let known : (begun : List Patch) → BeginsAs old gates.head begun → IsTold begun p.block row (MayBeHard begun None p.block row) p.told =
    rw on (subst (λ hs. (begun : List Patch) → BeginsAs (patches_of hs) gates.head begun → IsTold begun b row (MayBeHard begun None b row) p.told) read told) in
    let free : OverlapReaches old gates.tail p.block p.span.at p.span.len → ⊥ = rw (on, at) apart in
    let there : p.block < blocks = rw on inside in
    member_ready old n blocks marks K gates paired kept p named there free room sparse known

-- and which number and grade it would have
pub foretold : {old kept : List Patch} {numbers blocks : ℕ} (gates : Gates) (p : Stored) → IsMemberReady old kept numbers blocks gates p → (begun : List Patch) → BeginsAs old gates.head begun
    → SparseChangeIsMade begun numbers p.block p.span.at p.span.len (gates.head ∷ []) (numbers + 1) p.told.grade (begun ++ change_of numbers p ∷ [])
foretold {numbers = n} gates p R begun begin = subst (λ ns. SparseChangeIsMade begun n p.block p.span.at p.span.len ns (n + 1) p.told.grade (begun ++ change_of n p ∷ [])) R.names (ready_made (R.made begun begin))

-- a gate that was sealed is not open
pub shut_begun : (old : List Patch) (n : ℕ) → SparseAreLawful old n → (g : ℕ) (begun : List Patch) → IsOpenNumber old g → IsCascadeOf (map (sealed g) old) begun → IsOpenNumber begun g → ⊥
shut_begun old n H g begun gate cascade o = (open_was old begun n g H gate cascade g o).1 refl

-- once the head is sealed it is as ready as before
module _ (old kept later : List Patch) (n blocks : ℕ) (marks : List Bool) (K : Keeps old n blocks marks) (gates : Gates) (p : Stored) (R : IsMemberReady old kept n blocks gates p) (long : length later ≡ length kept) (begun : List Patch) (is_open : IsOpenNumber old gates.head) (cascade : IsCascadeOf (map (sealed gates.head) old) begun) where
  L : SparseAreLawful old n
  L = K.lawful

  shut : IsOpenNumber begun gates.head → ⊥
  shut = shut_begun old n K.lawful gates.head begun is_open cascade

  tied_begun : IsTied old gates.tail gates.head → IsTied begun gates.tail gates.head
  tied_begun (inl disk) = inl (stays old begun n gates.head L is_open cascade gates.head disk)
  tied_begun (inr direct) = let q = is old begun n gates.head L is_open cascade direct.patch direct.head in inr (record { patch = q.0; head = q.1; numbered = q.2.number ∙ direct.numbered; named = subst (λ ds. Contains ds gates.head) (sym q.2.dependencies) direct.named })

  overlap_was : OverlapReaches begun gates.tail p.block p.span.at p.span.len → OverlapReaches old gates.tail p.block p.span.at p.span.len
  overlap_was o =
      let b = p.block in
      let at = p.span.at in
      let len = p.span.len in (
        o.0,
        touched_overlaps old b at len 0 grade.Soft [] o.0 (touched_was old begun n gates.head L is_open cascade b at len o.0 (overlaps_touched begun b at len 0 grade.Soft [] o.0 o.1)),
        (depends old begun n gates.head L is_open cascade o.0 gates.tail).0 o.2,
      )

  -- as many patches are not forgotten
  room_later : IsReady begun kept n blocks p → IsReady begun later n blocks p
  room_later r = record { clear = rw long r.clear; inside = r.inside; depends = r.depends; graded = r.graded; back = r.back }

  pub ready_begun : IsMemberReady begun later n blocks gates p
  ready_begun =
      record {
        made = λ hs s. elim s [ inl again ↦ absurd (shut again.gate) | inr same ↦ subst (λ ps. IsReady ps later n blocks p) (sym same.1) (room_later (R.made begun (inl (record { gate = is_open; cascade = cascade })))) ];
        names = R.names;
        apart = λ o. R.apart (overlap_was o);
        room = rw long R.room;
        paired = record {
          given = R.paired.given;
          tail_open = open_is old begun n gates.head L is_open cascade gates.tail (R.paired.tail_open, λ e. let f = R.paired.follows in omega (arith, e, f));
          tied = tied_begun R.paired.tied;
          follows = R.paired.follows;
        };
      }

-- what is prepared for the group with that head
module _ (old : List Patch) (n blocks : ℕ) (marks : List Bool) (K : Keeps old n blocks marks) (head : ℕ) (begun : List Patch) (is_open : IsOpenNumber old head) (cascade : IsCascadeOf (map (sealed head) old) begun) where
  pub put_begun : (kept later : List Patch) (p : Stored) → length later ≡ length kept → option_map (λ (g : Gates). g.head) p.gates ≡ Some head → MayBePut old kept n blocks p → MayBePut begun later n blocks p
  put_begun kept later p long told ready =
      let r = ready_member n p head old kept n blocks told ready in
      let own : r.0.head ≡ head = same_Some r.0.head head (sym (ap (option_map (λ (g : Gates). g.head)) r.1) ∙ told) in
      member_put p r.0 begun n blocks r.1 (ready_begun old kept later n blocks marks K r.0 p r.2 long begun (subst (IsOpenNumber old) (sym own) is_open) (subst (λ g. IsCascadeOf (map (sealed g) old) begun) (sym own) cascade))

-- and the room for it
pub around_kept : (new old : List Head) → frames_of new ≡ frames_of old → (p : Stored) → HasRoomAround old p → HasRoomAround new p
around_kept new old e p room = (room_above new old e p.dependencies.items room.0, below p.gates room.1)
  where
    below : (g : Option Gates) → IfSome g (λ x. HasRoomBelow old x.tail) → IfSome g (λ x. HasRoomBelow new x.tail)
    below None r = tt
    below (Some x) r = room_below new old e x.tail r

pub places_kept : {old new : Columns} → new.heads.list.len ≡ old.heads.list.len → new.heads.list.cap ≡ old.heads.list.cap → new.ends ≡ old.ends → (length new.levels.ranks ≡ length old.levels.ranks) × (new.levels.room ≡ old.levels.room) → HasPlaces 1 old → HasPlaces 1 new
places_kept len cap ends ranks room = record {
  heads_free = omega (arith, len, cap, room.heads_free);
  marks_free = rw ends room.marks_free;
  below_free = rw ends room.below_free;
  ranks_free = omega (arith, ranks.0, ranks.1, room.ranks_free);
}

-- a count that is not 0 has one that passes
one_passes : (t : ℕ → Bool) (xs : List ℕ) → count_by t xs ≢ 0 → (x : ℕ) × In xs x × (t x ≡ true)
one_passes t [] e = absurd (e refl)
one_passes t (y ∷ ys) e = elim (cases_Bool (t y)) [
  | inl yes_y ↦ (y, inl refl, yes_y)
  | inr no_y ↦ let r = one_passes t ys (λ none. e (omega (arith, count_cons t y ys, ap one_if no_y, none))) in (r.0, inr r.1, r.2)
]

-- whether a gate was found open
pub told_open : (heads : List Patch) (head : ℕ) (o : Option ℕ) (t : Bool) → t ≡ is_some o → IfSome o (λ n. (n ≡ head) × IsOpenNumber heads head) → IfNone o (IsOpenNumber heads head → ⊥)
    → (t ≡ true → IsOpenNumber heads head) × (t ≡ false → IsOpenNumber heads head → ⊥)
told_open heads head (Some n) t e some none = (λ f. some.1, λ f. absurd (false≢true (sym f ∙ e)))
told_open heads head None t e some none = (λ f. absurd (false≢true (sym e ∙ f)), λ f. none)

-- the count of the head at an index tells whether all that it directly depends on is on disk
module _ (heads : List Head) (n s : ℕ) (d : Head) (rising : IsRising heads) (counted : AreCounted (nodes_of heads)) (index : HasIndex heads n s) where
  abbrev h : Head
  h = get_or heads s d

  count : h.sums.count ≡ count_by (is_live_in (patches_of heads)) h.dependencies.items
  count = subst (λ ps. h.sums.count ≡ count_by (is_live_in ps) h.dependencies.items) (patches_in_nodes heads) (counted (node_of h) (node_in heads s h index.0 (any_default heads s d h index.0)))

  pub rests_at : eqb h.sums.count 0 ≡ true → (q : ℕ) → DirectlyOn (patches_of heads) n q → IsOnDisk (patches_of heads) q
  rests_at e q direct p c same = elim (place_decided p.place) [
    | inl disk ↦ disk
    | inr live ↦
        let passes = in_live (patches_of heads) q (record { patch = p; head = c; numbered = same; live = live }) in
        absurd (false≢true (sym (count_none (is_live_in (patches_of heads)) h.dependencies.items (sym count ∙ eqb-true h.sums.count 0 e) q (In-from_Contains h.dependencies.items q (named_at heads n q s d rising index direct))) ∙ passes))
  ]

  pub waits_at : eqb h.sums.count 0 ≡ false → (q : ℕ) × DirectlyOn (patches_of heads) n q × IsLiveNumber (patches_of heads) q
  waits_at e =
      let r = one_passes (is_live_in (patches_of heads)) h.dependencies.items (λ zero_count. eqb-false h.sums.count 0 e (count ∙ zero_count)) in
      (r.0, direct_at heads n r.0 s d index (Contains-from_In h.dependencies.items r.0 r.1), live_in (patches_of heads) r.0 r.2)

-- the names that the row was made of: none where the head is open and rests once sealed, else the head
pub data IsAfter (heads : List Patch) (head : ℕ) : List ℕ → Type 0 where
  rests : IsOpenNumber heads head → ((q : ℕ) → DirectlyOn heads head q → IsOnDisk heads q) → IsAfter heads head []
  waits : (IsOpenNumber heads head → (q : ℕ) × DirectlyOn heads head q × IsLiveNumber heads q) → IsAfter heads head (head ∷ [])

module _ (old : List Patch) (numbers : ℕ) (H : SparseAreLawful old numbers) (head b : ℕ) (row : List ℕ) where
  pub member_row : (at len : ℕ) (after : List ℕ) → IsAfter old head after → IsSparseRow old after b at len row → (begun : List Patch) → BeginsAs old head begun → IsSparseRow begun (head ∷ []) b at len row
  member_row at len [] (rests gate rest) l begun (inl s) =
      row_unnamed old begun numbers head H s.gate s.cascade b at len row (gate_rests old begun numbers head H s.gate s.cascade rest) l
  member_row at len [] (rests gate rest) l begun (inr s) = absurd (s.0 gate)
  member_row at len (x ∷ xs) (waits live) l begun (inl s) =
      let q = live s.gate in
      row_named old begun numbers head H s.gate s.cascade b at len row (gate_lives old begun numbers head H s.gate s.cascade q.0 q.1 q.2) l
  member_row at len (x ∷ xs) (waits live) l begun (inr s) = subst (λ hs. IsSparseRow hs (head ∷ []) b at len row) (sym s.1) l

  pub member_told : (told : Graded) (but : Option ℕ) → IfSome but (λ n. (n ≡ head) × IsOpenNumber old head) → IfNone but (IsOpenNumber old head → ⊥) → IsTold old b row (MayBeHard old but b row) told
      → (begun : List Patch) → BeginsAs old head begun → IsTold begun b row (MayBeHard begun None b row) told
  member_told told (Some n) some none t begun (inl s) = record {
    graded = rule_sealed old begun numbers head H s.gate s.cascade told.grade b row (subst (λ k. FollowsRule told.grade (MayBeHard old (Some k) b row)) some.0 t.graded);
    back = IfSome_then told.end t.back (λ end l. back_sealed old begun numbers head H s.gate s.cascade b row end l);
  }
  member_told told (Some n) some none t begun (inr s) = absurd (s.0 some.1)
  member_told told None some none t begun (inl s) = absurd (none s.gate)
  member_told told None some none t begun (inr s) = subst (λ hs. IsTold hs b row (MayBeHard hs None b row) told) (sym s.1) t
