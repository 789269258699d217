-- What the changes in flight of a block write, and that a landing, a seal, a launch or a new patch leaves it as it was.
use Rattle.std.proofs.Common.{◌≡◌, ◌≢◌, ℕ, ◌≤◌, Bool, true, false, cond, not, List, [], ◌∷◌, ◌++◌, length, map, filter, Contains, Some, None, refl, sym, ap, subst, ◌∙◌, inl, inr, arith}
use Rattle.std.proofs.lemmas.Bool.{cases_Bool}
use Rattle.fst_types.specs.declared.place.Place.{Place}
use Rattle.fst_types.specs.declared.place.Place.TheVariants as place
use Rattle.fst_types.specs.Patches.{SealedGate, Patch, block_of_kind, at_of}
use Rattle.fst_types.specs.Tests.{is_at, is_change_at, is_live, is_among}
use Rattle.fst_types.specs.Fold.{Write}
use Rattle.fst_types.specs.State.{State}
use Rattle.fst_types.specs.Bytes.{content_of, write_of, changes_at}
use Rattle.fst_types.specs.Gates.{IsOpenNumber}
use Rattle.fst_types.specs.Writable.{IsWritable, IsWritableSet, InWritableSet}
use Rattle.fst_types.specs.Cascade.{IsCascadeOf}
use Rattle.fst_types.specs.Writing.{launched, landed}
use Rattle.fst_types.specs.Gating.{sealed}
use Rattle.fst_types.specs.Facts.{HeadsAreLawful}
use Rattle.fst_types.proofs.Finite.{In, In-from_Contains, Contains-from_In}
use Rattle.fst_types.proofs.Crash.{same_number}
use Rattle.fst_types.proofs.Cascades.{all_settled}
use Rattle.fst_types.proofs.Landing.{change_at, at_change, landed_cases}
use Rattle.fst_types.proofs.Issuing.{launched_cases, in_among, among_in}
use Rattle.fst_types.proofs.Sealing.{sealed_cases}
use Rattle.fst_types.proofs.Writes.{test_same, writes_same, writes_mapped, filter_pushed, writes_settled}
use Rattle.fst_types.proofs.Loosened.{loosened}
use Rattle.fst_types.proofs.Numbers.{memory_flight, flight_disk, one_block}

-- what is in flight of a block writes
abbrev pub flying : State → ℕ → List Write
flying s c = map (write_of s) (changes_at s place.Flight c)

abbrev pub wr : List (ℕ × List ℕ) → Patch → Write
wr contents p = record { at = at_of p.kind; bytes = content_of contents p.number }

pub wr_same : (es : List (ℕ × List ℕ)) (o p : Patch) → p.number ≡ o.number → at_of p.kind ≡ at_of o.kind → wr es p ≡ wr es o
wr_same es o p n a = rw (n, a) refl

false_of : (x : Bool) → (x ≡ true → ⊥) → x ≡ false
false_of true f = absurd (f refl)
false_of false f = refl

not_flying : (c : ℕ) (p : Patch) → p.place ≡ place.Memory → is_change_at place.Flight c p ≡ false
not_flying c p m = false_of (is_change_at place.Flight c p) (λ e. memory_flight p.place m (change_at place.Flight c p e).1)

pub flight_lives : (c : ℕ) (p : Patch) → is_change_at place.Flight c p ≡ true → is_live p ≡ true
flight_lives c p e = lives p.place (change_at place.Flight c p e).1
  where
    lives : (x : Place) → x ≡ place.Flight → not (is_at x place.Disk) ≡ true
    lives place.Memory e = refl
    lives place.Flight e = refl
    lives place.Disk e = cc

-- landing, for other blocks
landed_test : (b c : ℕ) (o : Patch) → c ≢ b → is_change_at place.Flight c (landed b o) ≡ is_change_at place.Flight c o
landed_test b c o other =
    elim (landed_cases b o) [
      | inl m ↦
          ap (is_change_at place.Flight c) m.2
          ∙ test_same c o (record o { place = place.Disk }) (λ on f. absurd (flight_disk place.Disk f refl)) (λ on f. absurd (other (one_block o c b on m.0)))
      | inr s ↦ ap (is_change_at place.Flight c) s.0
    ]

landed_write : (es : List (ℕ × List ℕ)) (b : ℕ) (o : Patch) → wr es (landed b o) ≡ wr es o
landed_write es b o = elim (landed_cases b o) [ inl m ↦ ap (wr es) m.2 | inr s ↦ ap (wr es) s.0 ]

pub flying_landed : (old : State) (heads : List Patch) (b c : ℕ) → IsCascadeOf (map (landed b) old.heads) heads → c ≢ b
    → map (wr old.contents) (filter (is_change_at place.Flight c) heads) ≡ flying old c
flying_landed old heads b c cascade other =
    writes_settled c (wr old.contents) (wr old.contents) (map (landed b) old.heads) heads (all_settled (map (landed b) old.heads) heads cascade.same) (λ o p s. wr_same old.contents o p s.number (ap at_of s.kind))
    ∙ writes_mapped (landed b) (is_change_at place.Flight c) (is_change_at place.Flight c) (wr old.contents) (wr old.contents) old.heads (λ p h. landed_test b c p other) (λ p h. landed_write old.contents b p)

pub sealed_test : (old : List Patch) (numbers g : ℕ) (H : HeadsAreLawful old numbers) (open_gate : IsOpenNumber old g) (new : List Patch) (cascade : IsCascadeOf (map (sealed g) old) new) (c : ℕ) (o : Patch) → Contains old o
    → (is_change_at place.Flight c (sealed g o) ≡ is_change_at place.Flight c o) × ((es : List (ℕ × List ℕ)) → wr es (sealed g o) ≡ wr es o)
sealed_test old numbers g H open_gate new cascade c o h =
    elim (sealed_cases old new numbers g (loosened H) open_gate cascade o h) [
      | inl m ↦ (
        ap (is_change_at place.Flight c) m.1
            ∙ test_same c o (record o { kind = SealedGate }) (λ on f. absurd (none_some c on)) (λ on f. absurd (none_some c (sym (ap block_of_kind m.0) ∙ on))),
        λ es. ap (wr es) m.1 ∙ wr_same es o (record o { kind = SealedGate }) refl (sym (ap at_of m.0)),
      )
      | inr s ↦ (ap (is_change_at place.Flight c) s, λ es. ap (wr es) s)
    ]
  where
    none_some : (c : ℕ) → None ≡ Some c → ⊥
    none_some c e = cc

pub launched_test : (old : List Patch) (numbers b : ℕ) (chosen : List ℕ) (H : HeadsAreLawful old numbers) (writable : IsWritable old b) (choice : IsWritableSet old b chosen) (c : ℕ) (o : Patch) → Contains old o
    → (c ≢ b → is_change_at place.Flight c (launched chosen o) ≡ is_change_at place.Flight c o)
    × (is_change_at place.Flight b (launched chosen o) ≡ is_among chosen o.number)
    × ((es : List (ℕ × List ℕ)) → wr es (launched chosen o) ≡ wr es o)
launched_test old numbers b chosen H writable choice c o h =
    elim (launched_cases old numbers b chosen (loosened H) writable choice o h) [
      | inl m ↦ (
        λ other. ap (is_change_at place.Flight c) m.1
            ∙ test_same c o (record o { place = place.Flight }) (λ on f. absurd (other (one_block o c b on m.0.in_memory.change))) (λ on f. absurd (memory_flight o.place m.0.in_memory.memory f)),
        ap (is_change_at place.Flight b) m.1 ∙ (at_change place.Flight b (record o { place = place.Flight }) m.0.in_memory.change refl
            ∙ sym (in_among chosen o.number (In-from_Contains chosen o.number (choice.each o.number (o, refl, m.0))))),
        λ es. ap (wr es) m.1,
      )
      | inr s ↦ (
        λ other. ap (is_change_at place.Flight c) s.0,
        ap (is_change_at place.Flight b) s.0 ∙ (false_of (is_change_at place.Flight b o) (λ e. let k = change_at place.Flight b o e in writable.none_flies o h k.0 k.1)
            ∙ sym (false_of (is_among chosen o.number) (left_out s.1))),
        λ es. ap (wr es) s.0,
      )
    ]
  where
    left_out : (InWritableSet old b o → ⊥) → is_among chosen o.number ≡ true → ⊥
    left_out no_member e =
        let r = choice.only o.number (Contains-from_In chosen o.number (among_in chosen o.number e)) in
        no_member (subst (InWritableSet old b) (same_number old r.0 o H.one_place_each.rising r.2.in_memory.head h r.1) r.2)

-- a new patch, whose bytes are kept under a new number
pub flying_added : (old : State) (n : ℕ) (H : HeadsAreLawful old.heads old.numbers) (p : Patch) (es : List (ℕ × List ℕ)) (c : ℕ) → p.place ≡ place.Memory
    → ((o : Patch) → Contains old.heads o → wr es o ≡ wr old.contents o)
    → map (wr es) (filter (is_change_at place.Flight c) (old.heads ++ p ∷ [])) ≡ flying old c
flying_added old n H p es c memory same =
    ap (map (wr es)) (filter_pushed (is_change_at place.Flight c) old.heads p (not_flying c p memory))
    ∙ writes_same (is_change_at place.Flight c) (is_change_at place.Flight c) (wr es) (wr old.contents) old.heads (λ x h. refl) (λ x h. same x (Contains-from_In old.heads x h))

-- something passes exactly if something is written
pub some_written : (t : Patch → Bool) (w : Patch → Write) (xs : List Patch) (p : Patch) → In xs p → t p ≡ true → 1 ≤ length (map w (filter t xs))
some_written t w [] p h e = absurd h
some_written t w (x ∷ xs) p (inl same) e = let k : t x ≡ true = ap t same ∙ e in rw k (omega arith)
some_written t w (x ∷ xs) p (inr h) e =
    let rest = some_written t w xs p h e in
    elim (cases_Bool (t x)) [ inl yes_x ↦ rw yes_x (omega arith) | inr no_x ↦ rw no_x rest ]

pub written_some : (t : Patch → Bool) (w : Patch → Write) (xs : List Patch) → 1 ≤ length (map w (filter t xs)) → (p : Patch) × In xs p × (t p ≡ true)
written_some t w [] h = absurd (omega (arith, h))
written_some t w (x ∷ xs) h =
    elim (cases_Bool (t x)) [
      | inl yes_x ↦ (x, inl refl, yes_x)
      | inr no_x ↦ let r = written_some t w xs (subst (λ k. 1 ≤ length (map w (cond k (x ∷ filter t xs) (filter t xs)))) no_x h) in (r.0, inr r.1, r.2)
    ]

nothing_passes : (xs : List Patch) (w : Patch → Write) → map w (filter (λ p. false) xs) ≡ []
nothing_passes [] w = refl
nothing_passes (x ∷ xs) w = nothing_passes xs w

-- nothing of a landed block is in flight
pub none_landed : (old : State) (heads : List Patch) (b : ℕ) → IsCascadeOf (map (landed b) old.heads) heads → map (wr old.contents) (filter (is_change_at place.Flight b) heads) ≡ []
none_landed old heads b cascade =
    writes_settled b (wr old.contents) (wr old.contents) (map (landed b) old.heads) heads (all_settled (map (landed b) old.heads) heads cascade.same) (λ o p s. wr_same old.contents o p s.number (ap at_of s.kind))
    ∙ (writes_mapped (landed b) (is_change_at place.Flight b) (λ p. false) (wr old.contents) (wr old.contents) old.heads (λ p h. gone p) (λ p h. landed_write old.contents b p)
    ∙ nothing_passes old.heads (wr old.contents))
  where
    gone : (o : Patch) → is_change_at place.Flight b (landed b o) ≡ false
    gone o =
        elim (landed_cases b o) [
          | inl m ↦ ap (is_change_at place.Flight b) m.2 ∙ false_of (is_change_at place.Flight b (record o { place = place.Disk })) (λ e. flight_disk place.Disk (change_at place.Flight b (record o { place = place.Disk }) e).1 refl)
          | inr s ↦ ap (is_change_at place.Flight b) s.0 ∙ false_of (is_change_at place.Flight b o) (λ e. let k = change_at place.Flight b o e in s.1 k.0 k.1)
        ]
