-- A new change of a group with a sparse row is one with its whole row; and what it would be is foretold for both.
use Rattle.std.proofs.{Common.{◌≡◌, ℕ, ◌==◌, List, [], ◌∷◌, ◌++◌, map, Contains, find, unwrap_or, option_map, refl, sym, ap, subst, ◌∙◌, inl, inr}, lemmas.Bool.cases_Bool}
use Rattle.fst_types.specs.{Bytes.content_of, Cascade.IsCascadeOf, Events.MadeChange, Facts.HeadsAreLawful, Gating.{sealed, GateIsSealed}, Grouping.{GateIsSealedIfOpen, MemberIsMade}}
use Rattle.fst_types.specs.{Making.ChangeIsMade, Patches.{Kind, Change, Patch, IsRising}, declared.grade.Grade.Grade}
use Rattle.fst_graph.specs.{Rows.{row_of_kind, whole, whole_row, AreWhole, with_row}, Sparse.{SparseChangeIsMade, SparseMemberIsMade}}
use Rattle.fst_types.proofs.{Crash.same_number, Finite.{In, Contains-from_In}, Loosened.loosened, OneChange.changes_fixed, OneList.cascade_same, Sealing.heads_sealed}
use Rattle.fst_heads.proofs.Indices.{find_patch}
use Rattle.fst_graph.proofs.WholeChange.{change_is, change_over, rising_whole, lawful_row, row_pushed, row_gained}
use Rattle.fst_graph.proofs.{WholeRows.{sealed_whole, begun_whole, gains_whole}, Wholes.{cascade_whole, swap_sealed, open_number}}

-- the rows that are kept by these patches themselves
abbrev pub own_rows : List Patch → List (ℕ × List ℕ)
own_rows heads = map (λ p. (p.number, p.dependencies)) heads

own_found : (heads : List Patch) (n : ℕ) → content_of (own_rows heads) n ≡ unwrap_or (option_map (λ p. p.dependencies) (find (λ p. p.number == n) heads)) []
own_found [] n = refl
own_found (x ∷ xs) n = elim (cases_Bool (x.number == n)) [ inl t ↦ rw t refl | inr f ↦ rw f (own_found xs n) ]

own_under : (heads : List Patch) (p : Patch) → IsRising heads → Contains heads p → content_of (own_rows heads) p.number ≡ p.dependencies
own_under heads p rising h = own_found heads p.number ∙ rw (find_patch heads p rising h) refl

own_kind : (heads : List Patch) (rows : List (ℕ × List ℕ)) (k : Kind) (n : ℕ) (own : List ℕ) → content_of (own_rows heads) n ≡ own → row_of_kind (own_rows heads) k n (row_of_kind rows k n own) ≡ own
own_kind heads rows (Change block at len grade) n own e = e
own_kind heads rows k n own e = refl

-- they lead back from whole rows
narrowed : (rows : List (ℕ × List ℕ)) (heads : List Patch) → IsRising heads → map (whole (own_rows heads)) (map (whole rows) heads) ≡ heads
narrowed rows heads rising = each heads (λ p h. Contains-from_In heads p h)
  where
    each : (xs : List Patch) → ((p : Patch) → In xs p → Contains heads p) → map (whole (own_rows heads)) (map (whole rows) xs) ≡ xs
    each [] inside = refl
    each (x ∷ xs) inside =
        let same : whole (own_rows heads) (whole rows x) ≡ x = ap (λ ds. record x { dependencies = ds }) (own_kind heads rows x.kind x.number x.dependencies (own_under heads x rising (inside x (inl refl)))) in
        let rest = each xs (λ p h. inside p (inr h)) in
        cc

module _ (rows : List (ℕ × List ℕ)) (T : List Patch) (numbers : ℕ) (W : AreWhole rows T numbers) where
  abbrev F : List Patch
  F = map (whole rows) T

  pub changed_is : (b at len : ℕ) (after : List ℕ) (number : ℕ) (grade : Grade) (new : List Patch) → SparseChangeIsMade T numbers b at len after number grade new
      → ChangeIsMade F numbers b at len after number grade (map (whole (with_row rows new number after b at len)) new) × AreWhole (with_row rows new number after b at len) new number
  changed_is b at len after number grade new s =
      let row = whole_row T number after b at len in
      let L = lawful_row rows T numbers number after b at len W s.next in
      let same : whole_row new number after b at len ≡ row = ap (λ heads. whole_row heads number after b at len) s.added ∙ row_pushed number after b at len T _ refl in
      subst (λ r. ChangeIsMade F numbers b at len after number grade (map (whole (rows ++ (number, r) ∷ [])) new) × AreWhole (rows ++ (number, r) ∷ []) new number) (sym same)
      (change_is rows T numbers W b at len after number grade new s row L, change_over rows T numbers W b at len after number grade new s row L)

  -- the gate can be sealed among the patches with sparse rows as it is among those with whole ones
  unsealed : (g : ℕ) (begun : List Patch) → GateIsSealed F g begun → (heads : List Patch) × GateIsSealed T g heads × (map (whole rows) heads ≡ begun)
  unsealed g begun s =
      let gate = (open_number rows T g).1 s.gate in
      let mine = own_rows T in
      let heads = map (whole mine) begun in
      let back = narrowed rows T (rising_whole rows T W.lawful.one_place_each.rising) in
      let swapped = swap_sealed mine g F (λ p h e. ap (λ x. x.kind) (same_number F p s.gate.patch W.lawful.one_place_each.rising h s.gate.head (e ∙ sym s.gate.numbered)) ∙ s.gate.is_open) in
      let again : GateIsSealed T g heads = record {
        gate = gate;
        cascade = subst (λ mid. IsCascadeOf mid heads) (sym swapped ∙ ap (map (sealed g)) back) (cascade_whole mine (map (sealed g) F) begun s.cascade);
      } in
      let there = sealed_whole rows T numbers W g heads again in (
        heads,
        again,
        cascade_same (map (sealed g) F) (map (whole rows) heads) begun numbers there.0.cascade s.cascade
            (loosened there.1.lawful) (loosened (heads_sealed F begun numbers g W.lawful s.gate s.cascade)),
      )

  pub unbegun : (g : ℕ) (begun : List Patch) → GateIsSealedIfOpen F g begun → (heads : List Patch) × GateIsSealedIfOpen T g heads × (map (whole rows) heads ≡ begun)
  unbegun g begun s = elim s [
    | inl seal ↦ let k = unsealed g begun seal in (k.0, inl k.1, k.2)
    | inr shut ↦ (T, inr (λ o. shut.0 ((open_number rows T g).0 o), refl), sym shut.1)
  ]

-- a new change of a group
pub member_is : (rows : List (ℕ × List ℕ)) (T : List Patch) (numbers : ℕ) → AreWhole rows T numbers → (head tail b at len number : ℕ) (grade : Grade) (new : List Patch) → SparseMemberIsMade T numbers head tail b at len number grade new
    → MemberIsMade (map (whole rows) T) numbers head tail b at len number grade (map (whole (with_row rows new number (head ∷ []) b at len)) new)
    × AreWhole (with_row rows new number (head ∷ []) b at len) new number
member_is rows T numbers W head tail b at len number grade new s =
    let V = begun_whole rows T numbers W head s.begun s.begin in
    let made = changed_is rows s.begun numbers V.1 b at len (head ∷ []) number grade s.with_change s.change in
    let more = rows ++ (number, whole_row s.with_change number (head ∷ []) b at len) ∷ [] in
    let same : whole_row new number (head ∷ []) b at len ≡ whole_row s.with_change number (head ∷ []) b at len =
    ap (λ heads. whole_row heads number (head ∷ []) b at len) s.tie.gained ∙ row_gained number (head ∷ []) b at len tail s.tie.names s.with_change in
    let k = gains_whole more s.with_change number made.1 tail (number ∷ []) new s.tie in
    subst
    (λ r. MemberIsMade (map (whole rows) T) numbers head tail b at len number grade (map (whole (rows ++ (number, r) ∷ [])) new) × AreWhole (rows ++ (number, r) ∷ []) new number) (sym same)
    (record { begun = map (whole rows) s.begun; begin = V.0; with_change = map (whole more) s.with_change; change = made.0; tie = k.0 }, k.1)

-- two changes that follow from the same have one number and one grade
pub one_change : (number other : ℕ) (g h : Grade) → MadeChange number g ≡ MadeChange other h → (number ≡ other) × (g ≡ h)
one_change number other g h e = (cc, cc)

pub foretold_is : (rows : List (ℕ × List ℕ)) (T : List Patch) (numbers : ℕ) → AreWhole rows T numbers → (head tail b at len number n : ℕ) (grade g : Grade) (new : List Patch)
    → ((begun : List Patch) → GateIsSealedIfOpen T head begun → (later : List Patch) × SparseChangeIsMade begun numbers b at len (head ∷ []) number grade later)
    → MemberIsMade (map (whole rows) T) numbers head tail b at len n g new → (n ≡ number) × (g ≡ grade)
foretold_is rows T numbers W head tail b at len number n grade g new told m =
    let u = unbegun rows T numbers W head m.begun m.begin in
    let V = (begun_whole rows T numbers W head u.0 u.1).1 in
    let t = told u.0 u.1 in
    let made = (changed_is rows u.0 numbers V b at len (head ∷ []) number grade t.0 t.1).0 in
    let K = subst (λ heads. HeadsAreLawful heads numbers) u.2 V.lawful in
    let also = subst (λ heads. ChangeIsMade heads numbers b at len (head ∷ []) number grade (map (whole (with_row rows t.0 number (head ∷ []) b at len)) t.0)) u.2 made in
    one_change n number g grade (changes_fixed m.begun m.with_change _ numbers b at len (head ∷ []) n number g grade K m.change also).0
