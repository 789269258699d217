-- Why a call over the patches that are not forgotten is refused, where it is over all whose heads are kept.
use Rattle.std.proofs.Common.{◌≡◌, ◌↔◌, ℕ, Bool, true, false, List, refl, inl, inr}
use Rattle.fst_types.specs.{Facts.IsOnDiskWithAll, Gates.{IsGateNumber, IsGiven, IsOpenNumber}, Order.{depend_order, seal_order, NamesAbove}}
use Rattle.fst_types.specs.{Overlaps.IsOverlapped, Patches.Patch, Refusals.{IsFirst, NoneHolds}}
use Rattle.fst_graph.specs.{Membering.{ArePaired, OverlapReaches}, Remembered.{remembered, AreGone}}
use Rattle.fst_graph.proofs.{Remembered.{was, kept, direct_was, depends_was, depends_is, sealed_was, sealed_is, open_number, on_disk, none_is}, Wholes.{open_lives}}
use Rattle.fst_types.specs.declared.fault.Fault.TheVariants as fault

module _ (gone : ℕ → Bool) (heads : List Patch) (numbers : ℕ) where
  abbrev pub S : List Patch
  S = remembered gone heads

  -- a forgotten gate is none
  no_gate : (g : ℕ) → gone g ≡ true → IsGateNumber S g → ⊥
  no_gate g t k = elim k [ inl o ↦ none_is gone heads g t o.patch o.head o.numbered | inr s ↦ none_is gone heads g t s.patch s.head s.numbered ]

  pub seal_gone : (g : ℕ) → gone g ≡ true → IsGiven numbers g → IsFirst (seal_order S numbers g) fault.NotGate
  seal_gone g t given = inr (λ u. u given, inl (no_gate g t, refl))

  module _ (G : AreGone gone heads) (D : IsOnDiskWithAll heads) where
    gate_was : (g : ℕ) → IsGateNumber S g → IsGateNumber heads g
    gate_was g k = elim k [ inl o ↦ inl ((open_number gone heads G D g).0 o) | inr s ↦ inr (sealed_was gone heads g s) ]

    gate_is : (g : ℕ) → gone g ≡ false → IsGateNumber heads g → IsGateNumber S g
    gate_is g e k = elim k [ inl o ↦ inl ((open_number gone heads G D g).1 o) | inr s ↦ inr (sealed_is gone heads g e s) ]

    pub seal_clear : (g : ℕ) → gone g ≡ false → NoneHolds (seal_order heads numbers g) → NoneHolds (seal_order S numbers g)
    seal_clear g e c = (c.0, (λ k. c.1.0 (λ t. k (gate_is g e t)), (λ s. c.1.1.0 (sealed_was gone heads g s), tt)))

    pub above_was : (g : ℕ) (on : List ℕ) → NamesAbove S g on → NamesAbove heads g on
    above_was g on a = (a.0, a.1, elim a.2 [ inl e ↦ inl e | inr d ↦ inr (depends_was gone heads a.0 g d) ])

    -- where it is open
    pub above_open : (g : ℕ) (on : List ℕ) → IsOpenNumber heads g → NamesAbove heads g on → NamesAbove S g on
    above_open g on o a = (a.0, a.1, elim a.2 [ inl e ↦ inl e | inr d ↦ inr (depends_is gone heads G D a.0 g d (open_lives heads D g o)) ])

    pub depend_clear : (g : ℕ) (on : List ℕ) → gone g ≡ false → NoneHolds (depend_order heads numbers g on) → NoneHolds (depend_order S numbers g on)
    depend_clear g on e c =
        (c.0, (λ k. c.1.0 (λ t. k (gate_is g e t)), (λ s. c.1.1.0 (sealed_was gone heads g s), (c.1.1.1.0, (c.1.1.1.1.0, (λ a. c.1.1.1.1.1.0 (above_was g on a), tt))))))

    -- the gates of a group, and what reaches the second
    pub paired_was : (head tail : ℕ) → ArePaired S numbers head tail → ArePaired heads numbers head tail
    paired_was head tail m = record {
      given = m.given;
      tail_open = (open_number gone heads G D tail).0 m.tail_open;
      tied = elim m.tied [ inl d ↦ inl ((on_disk gone heads G head).0 d) | inr d ↦ inr (direct_was gone heads tail head d) ];
      follows = m.follows;
    }

    pub overlapped : (p : Patch) (n : ℕ) → IsOverlapped S p n ↔ IsOverlapped heads p n
    overlapped p n = (
      λ o. record { patch = o.patch; head = (was gone heads o.patch o.head).0; numbered = o.numbered; live = o.live; overlaps = o.overlaps },
      λ o. record { patch = o.patch; head = kept gone heads G o.patch o.head o.live; numbered = o.numbered; live = o.live; overlaps = o.overlaps },
    )

    pub overlap_reaches : (tail b at len : ℕ) → IsOpenNumber heads tail → OverlapReaches S tail b at len ↔ OverlapReaches heads tail b at len
    overlap_reaches tail b at len o = (
      λ r. (r.0, (overlapped _ r.0).0 r.1, depends_was gone heads r.0 tail r.2),
      λ r. (r.0, (overlapped _ r.0).1 r.1, depends_is gone heads G D r.0 tail r.2 (open_lives heads D tail o)),
    )
