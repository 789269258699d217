-- What is pending goes one way: it sinks by a seal or a landing, and rises by a launch.
use Rattle.fst_heads.proofs.Basics.{◌≡◌, ◌≢◌, ◌<◌, ℕ, List, [], ◌∷◌, true, if◌then◌else◌, refl, sym, ap, subst, ◌∙◌, inl, inr, arith, cases_Bool, cases_eq, eq-eqb, both_ways}
use Rattle.fst_heads.proofs.Patches.{Place, Kind, Change, Empty, OpenGate, SealedGate, In, Contains-from_In}
use Rattle.fst_heads.proofs.Words.{Pending, join, joined, of_change, of_kind, is_pending, Sinks, Rises, height}
use Rattle.fst_heads.proofs.Joining.{join_self, join_turned, meet_same, meet_other, sinks_trans, lower_sinks, join_sinks}
use Rattle.fst_heads.proofs.Turning.{same_pending, is_itself}
use Rattle.std.specs.Prelude.{Contains}
use Rattle.fst_heads.proofs.Patches.place
use Rattle.fst_heads.proofs.Words.pending

-- where something else is pending it is nearer to an end; of two together it goes where it goes of one; and nothing stays nothing
pub record OneWay (goes : Pending → Pending → Type 0) (far : Pending → ℕ) : Type 0 where
  pub stays : (p : Pending) → goes p p
  pub trans : (p n m : Pending) → goes p n → goes n m → goes p m
  pub nearer : (p n : Pending) → goes p n → n ≢ p → far n < far p
  pub joins : (p n q : Pending) → goes p n → goes (join p q) (join n q)
  pub none : (n : Pending) → goes pending.Nothing n → n ≡ pending.Nothing

module _ {goes : Pending → Pending → Type 0} {far : Pending → ℕ} (way : OneWay goes far) where
  pub goes_nothing : (p n : Pending) → goes p n → p ≡ pending.Nothing → n ≡ pending.Nothing
  goes_nothing p n s e = way.none n (subst (λ a. goes a n) e s)

  -- what went does not come back
  pub never_back : (p n m : Pending) → goes p n → n ≢ p → goes n m → m ≢ p
  never_back p n m s ne t e = elim (cases_Bool (is_pending m n)) [
    | inl same ↦ ne (sym (same_pending m n same) ∙ e)
    | inr off ↦
        let first = way.nearer p n s ne in
        let second = way.nearer n m t (λ same. both_ways (is_pending m n) off (subst (λ a. is_pending m a ≡ true) same (is_itself m))) in
        omega (arith, first, second, ap far e)
  ]

  both_go : (p n q m : Pending) → goes p n → goes q m → goes (join p q) (join n m)
  both_go p n q m s t = way.trans (join p q) (join n q) (join n m) (way.joins p n q s) (rw (join_turned n q, join_turned n m) (way.joins q m n t))

  change_goes : (b : ℕ) (at : Place) (below other : Pending) → goes below other → goes (of_change b at below) (of_change b at other)
  change_goes b place.Memory below other s = both_go (pending.Block b) (pending.Block b) below other (way.stays (pending.Block b)) s
  change_goes b place.Flight below other s = both_go (pending.Behind b) (pending.Behind b) below other (way.stays (pending.Behind b)) s
  change_goes b place.Disk below other s = way.stays pending.Nothing

  -- so it goes of what is over it
  pub kind_goes : (k : Kind) (at : Place) (below other : Pending) → goes below other → goes (of_kind k at below) (of_kind k at other)
  kind_goes (Change b from len grade) at below other s = change_goes b at below other s
  kind_goes Empty at below other s = s
  kind_goes OpenGate at below other s = way.stays pending.Held
  kind_goes SealedGate at below other s = s

  row_in : (told other : ℕ → Pending) (row : List ℕ) → ((n : ℕ) → In row n → goes (told n) (other n)) → goes (joined told row) (joined other row)
  row_in told other [] each = way.stays pending.Nothing
  row_in told other (n ∷ ns) each = both_go (told n) (other n) (joined told ns) (joined other ns) (each n (inl refl)) (row_in told other ns (λ m i. each m (inr i)))

  pub row_goes : (told other : ℕ → Pending) (row : List ℕ) → ((n : ℕ) → Contains row n → goes (told n) (other n)) → goes (joined told row) (joined other row)
  row_goes told other row each = row_in told other row (λ n i. each n (Contains-from_In row n i))

pub sinks_way : OneWay Sinks height
sinks_way = record {
  stays = join_self;
  trans = sinks_trans;
  nearer = lower_sinks;
  joins = λ p n q s. join_sinks p q n q s (join_self q);
  none = λ n s. s;
}

-- one step where changes of b in memory are pending, and none else
abbrev pub steps : ℕ → Pending → ℕ
steps b p = if is_pending p (pending.Block b) then 1 else 0

rises_trans : (b : ℕ) (p n m : Pending) → Rises b p n → Rises b n m → Rises b p m
rises_trans b p n m (inl e) t = subst (λ a. Rises b a m) e t
rises_trans b p n m (inr s) (inl e) = inr (s.0, e ∙ s.1)
rises_trans b p n m (inr s) (inr t) = absurd (let off = sym s.1 ∙ t.0 in cc)

rises_nearer : (b : ℕ) (p n : Pending) → Rises b p n → n ≢ p → steps b n < steps b p
rises_nearer b p n (inl e) ne = absurd (ne e)
rises_nearer b p n (inr s) ne = rw (s.0, s.1, eq-eqb b b refl) (omega arith)

behind_joins : (b : ℕ) (q : Pending) → Rises b (join (pending.Block b) q) (join (pending.Behind b) q)
behind_joins b pending.Nothing = inr (refl, refl)
behind_joins b (pending.Block c) = grind (arith, cases_eq, meet_same, meet_other)
behind_joins b (pending.Behind c) = grind (arith, cases_eq, meet_same, meet_other)
behind_joins b q = inl refl

rises_joins : (b : ℕ) (p n q : Pending) → Rises b p n → Rises b (join p q) (join n q)
rises_joins b p n q (inl e) = inl (ap (λ a. join a q) e)
rises_joins b p n q (inr s) = rw (s.0, s.1) (behind_joins b q)

rises_none : (b : ℕ) (n : Pending) → Rises b pending.Nothing n → n ≡ pending.Nothing
rises_none b n (inl e) = e
rises_none b n (inr s) = absurd (let off = s.0 in cc)

-- what is on disk was there
pub rises_back : (b : ℕ) (p : Pending) → Rises b p pending.Nothing → p ≡ pending.Nothing
rises_back b p (inl e) = sym e
rises_back b p (inr s) = absurd (let off = s.1 in cc)

pub rises_way : (b : ℕ) → OneWay (Rises b) (steps b)
rises_way b = record { stays = λ p. inl refl; trans = rises_trans b; nearer = rises_nearer b; joins = rises_joins b; none = rises_none b }
