-- What a call of a group leaves of each block. The call is made of parts, and each part leaves a block the same, but for the
-- change that a new member makes of its own block.
use Rattle.std.proofs.Common.{◌≡◌, ◌+◌, ℕ, List, [], ◌∷◌, map, refl, sym, ap, subst, ◌∙◌, inl, inr}
use Rattle.fst_types.specs.Patches.{OpenGate}
use Rattle.fst_types.specs.Cascade.{unsettled}
use Rattle.fst_types.specs.Facts.{HeadsAreLawful}
use Rattle.fst_types.specs.Groups.{Group}
use Rattle.fst_types.specs.Making.{fresh, MakesGate}
use Rattle.fst_types.specs.Gating.{Depends, gains, Seals, sealed}
use Rattle.fst_types.specs.Grouping.{MakesGroup, PutsAfter, ClosesGroup}
use Rattle.fst_types.specs.State.{State, block_of}
use Rattle.fst_types.proofs.Depending.{grown}
use Rattle.fst_types.proofs.Parts.{SealsIfOpen, new_in_parts, after_in_parts, close_in_parts}
use Rattle.fst_types.proofs.Passing.{begins}
use Rattle.fst_cache.specs.Kept.{IsSameAt}
use Rattle.fst_cache.proofs.SameAdding.{same_added}
use Rattle.fst_cache.proofs.SameCascade.{same_moved}
use Rattle.fst_cache.proofs.SameGating.{still_alike, still_sealed}

-- one part after another
pub same_then : (s t u : State) (b : ℕ) → IsSameAt s t b → IsSameAt t u b → IsSameAt s u b
same_then s t u b first second = record {
  block = second.block ∙ first.block;
  patches = second.patches ∙ first.patches;
  flying = second.flying ∙ first.flying;
  dirty = λ e. first.dirty (second.dirty e);
}

same_gate : (s t : State) (number b : ℕ) → MakesGate s number t → IsSameAt s t b
same_gate s t number b m =
    same_added s t b (fresh number OpenGate []) refl (ap (map unsettled) m.row.added) (ap (λ (u : State). block_of u b) m.state) (ap (λ (u : State). u.contents) m.state)

pub same_depend : (s t : State) (g : ℕ) (on : List ℕ) (b : ℕ) → Depends s g on t → IsSameAt s t b
same_depend s t g on b m =
    same_moved s t b (gains g m.row.names) (ap (λ (u : State). block_of u b) m.state) (ap (λ (u : State). u.contents) m.state) (ap (map unsettled) m.row.gained)
    (λ p h. let k = grown g m.row.names p in still_alike b p (gains g m.row.names p) k.number k.kind k.place)

same_seal : (s t : State) (g b : ℕ) → HeadsAreLawful s.heads s.numbers → Seals s g t → IsSameAt s t b
same_seal s t g b H m =
    same_moved s t b (sealed g) (ap (λ (u : State). block_of u b) m.state) (ap (λ (u : State). u.contents) m.state)
    m.row.cascade.same (still_sealed s.heads t.heads s.numbers g H m.row.gate m.row.cascade b)

pub same_begin : (s t : State) (g b : ℕ) → HeadsAreLawful s.heads s.numbers → SealsIfOpen s g t → IsSameAt s t b
same_begin s t g b H (inl m) = same_seal s t g b H m
same_begin s t g b H (inr stays) = subst (λ (u : State). IsSameAt s u b) (sym stays.1) (record { block = refl; patches = refl; flying = refl; dirty = λ e. e })

-- the groups alone are others
pub same_regrouped : (s t : State) (groups : List Group) (b : ℕ) → t ≡ record s { groups = groups } → IsSameAt s t b
same_regrouped s t groups b e = subst (λ (u : State). IsSameAt s u b) (sym e) (record { block = refl; patches = refl; flying = refl; dirty = λ e. e })

pub same_new : (s t : State) (number b : ℕ) → MakesGroup s number t → IsSameAt s t b
same_new s t number b made =
    let m = new_in_parts s number t made in
    same_then s m.with_head t b (same_gate s m.with_head number b m.head)
    (same_then m.with_head m.with_tail t b (same_gate m.with_head m.with_tail (number + 1) b m.tail)
    (same_then m.with_tail m.tied t b (same_depend m.with_tail m.tied (number + 1) (number ∷ []) b m.tie) (same_regrouped m.tied t _ b m.state)))

pub same_after : (s t : State) (n k b : ℕ) → PutsAfter s n k t → IsSameAt s t b
same_after s t n k b puts =
    let m = after_in_parts s n k t puts in
    same_then s m.tied t b (same_depend s m.tied n (m.before.tail ∷ []) b m.tie) (same_regrouped m.tied t _ b m.state)

pub same_close : (s t : State) (n b : ℕ) → HeadsAreLawful s.heads s.numbers → ClosesGroup s n t → IsSameAt s t b
same_close s t n b H closes =
    let m = close_in_parts s n t closes in
    same_then s m.begun t b (same_begin s m.begun n b H m.begin)
    (same_then m.begun m.ended t b (same_seal m.begun m.ended m.group.tail b (begins s n m.begun m.begin H).heads m.end) (same_regrouped m.ended t _ b m.state))
