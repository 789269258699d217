-- Slots of zero bytes are those that a cache is opened over.
use Rattle.std.proofs.Common.{◌≡◌, ◌⊎◌, ℕ, zero, suc, ◌+◌, List, [], ◌∷◌, length, map, get_or, refl, sym, ap, ◌∙◌, inl, inr, arith, zero-add}
use Rattle.std.specs.Prelude.{None, replicate}
use Rattle.std.specs.List.{range_with_len}
use Rattle.std.proofs.lemmas.List.{length-map, length-replicate, get_or-replicate}
use Rattle.std.proofs.lemmas.List.Elements.{All-nil}
use Rattle.std.proofs.lemmas.List.FromFn.{length-range_with_len, get_or-range_with_len}
use Rattle.fst_types.specs.declared.shape.Shape.{Shape}
use Rattle.fst_types.specs.declared.fault.Fault.{Fault}
use Rattle.fst_types.specs.declared.fault.Fault.TheVariants as fault
use Rattle.fst_types.specs.State.{State, BlockState}
use Rattle.fst_types.specs.Flights.{IsOut}
use Rattle.fst_types.specs.Run.{ChangeMade, start}
use Rattle.fst_types.specs.Order.{open_order}
use Rattle.fst_types.specs.Refusals.{IsFirst, NoneHolds}
use Rattle.fst_device.specs.JobView.{JobView}
use Rattle.fst_device.specs.MemoryView.{MemoryView}
use Rattle.fst_player.specs.Script.{opened}
use Rattle.fst_player.specs.Kept.{IsKept}
use Rattle.fst_player.specs.Zeros.{zero_slot}
use Rattle.fst_player.proofs.CommittedLemmas.{opened_committed}

pub indices_are : (size a n : ℕ) → map (λ (s : MemoryView). s.index) (map (zero_slot size) (range_with_len a n)) ≡ range_with_len a n
indices_are size a zero = refl
indices_are size a (suc n) = ap (λ l. a ∷ l) (indices_are size (a + 1) n)

pub sizes_are : (size a n : ℕ) → map (λ (s : MemoryView). length s.bytes) (map (zero_slot size) (range_with_len a n)) ≡ replicate n size
sizes_are size a zero = refl
sizes_are size a (suc n) =
    ap (λ x. x ∷ map (λ (s : MemoryView). length s.bytes) (map (zero_slot size) (range_with_len (a + 1) n))) (length-replicate size 0) ∙ ap (λ l. size ∷ l) (sizes_are size (a + 1) n)

pub bytes_are : (size a n : ℕ) → map (λ (s : MemoryView). s.bytes) (map (zero_slot size) (range_with_len a n)) ≡ replicate n (replicate size 0)
bytes_are size a zero = refl
bytes_are size a (suc n) = ap (λ l. replicate size 0 ∷ l) (bytes_are size (a + 1) n)

-- no rule refuses them, so that memory alone can be wanting
pub open_fault : (n size : ℕ) (indices sizes : List ℕ) (f : Fault) → indices ≡ range_with_len 0 n → sizes ≡ replicate n size
    → IsFirst (open_order n size indices sizes) f ⊎ (NoneHolds (open_order n size indices sizes) × (f ≡ fault.Memory)) → f ≡ fault.Memory
open_fault n size indices sizes f at of (inr free) = free.1
open_fault n size indices sizes f at of (inl first) =
    let long : length indices ≡ n = ap (λ (l : List ℕ). length l) at ∙ length-range_with_len 0 n in
    let many : length sizes ≡ n = ap (λ (l : List ℕ). length l) of ∙ length-replicate n size in
    elim first [
      | inl wrong ↦ elim wrong.0 [
        | inl other ↦ absurd (other long)
        | inr off ↦ absurd (off.2 (ap (λ (l : List ℕ). get_or l off.0 0) at ∙ (get_or-range_with_len 0 n off.0 0 (let lt = off.1 in omega (arith, lt, long)) ∙ zero-add off.0)))
      ]
      | inr rest ↦ elim rest.1 [
        | inl wrong ↦ absurd (wrong.0.2 (ap (λ (l : List ℕ). get_or l wrong.0.0 0) of ∙ get_or-replicate n wrong.0.0 size 0 (let lt = wrong.0.1 in omega (arith, lt, many))))
        | inr none ↦ absurd none.1
      ]
    ]

-- what is kept at the start: no job, no change, and zero bytes
none_kept : (shape : Shape) → IsKept shape 0 (opened shape).cache [] [] (replicate shape.blocks (replicate shape.size 0))
none_kept shape =
    let s = (opened shape).cache in
    let bytes : List (List ℕ) = replicate shape.blocks (replicate shape.size 0) in
    record {
      counted = refl;
      blocks = sym (length-map bytes (λ (b : List ℕ). let x : BlockState = record { committed = b; flight = None } in x) ∙ length-replicate shape.blocks (replicate shape.size 0));
      out = All-nil (λ j. IsOut s j.ticket j.block j.image);
      apart = λ i j d below inside. absurd (omega (arith, inside));
      came = ([], start, refl);
      committed = opened_committed bytes;
    }

pub opened_kept : (shape : Shape) (share : ℕ) (s : State) (jobs : List (JobView MemoryView)) (made : List ChangeMade) (kept : List (List ℕ))
    → share ≡ 0 → s ≡ (opened shape).cache → jobs ≡ [] → made ≡ [] → kept ≡ replicate shape.blocks (replicate shape.size 0) → IsKept shape share s jobs made kept
opened_kept shape share s jobs made kept none same no_jobs no_changes zeros = rw (none, same, no_jobs, no_changes, zeros) (none_kept shape)
