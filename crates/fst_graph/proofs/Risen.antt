-- What a launch leaves: of the changes in flight, and of what is over them, another is pending; all else is as the launch of the patches alone leaves it.
use Rattle.std.proofs.Common.{◌≡◌, ◌<◌, ◌≤◌, ◌+◌, ◌==◌, ◌∙◌, ◌∷◌, [], ℕ, Bool, true, false, not, cond, if◌then◌else◌, List, length, map, filter, get_or, set, count_by, get_or-set_same, Contains, inl, inr, refl, sym, ap, subst, arith}
use Rattle.std.proofs.lemmas.{Bool.{cases_Bool, cond-false, cond-true, eq-eqb, ne_eqb}, List.Elements.All-contains}
use Rattle.fst_types.specs.{Dependencies.IsLiveNumber, Facts.HasOnePlaceEach, Tests.{is_change_at, is_live}, Writing.launched}
use Rattle.fst_types.proofs.{Dropping.{filter_in, in_filter}, Finite.{In, In-from_Contains, Contains-from_In, In-get_or, In-map}, GateGains.In-unmap}
use Rattle.fst_heads.specs.{Keeps.Beside, Landed.{AreLanded, is_landed}, Nodes.{Node, AreSettled, patches_in}, Pendings.is_pending, Spreading.{IsRisenOf, launches, unrisen}}
use Rattle.fst_heads.specs.{Standings.{AllStand, held_on, is_flying_on, is_held_on, is_ready_on, ready_on, sent}, Stretches.{LieIn, LiesIn, nowhere}, declared.standing.Standing.Standing}
use Rattle.fst_heads.proofs.{Beside.{is_nothing, waiting_is}, Counts.{held_counted, ready_counted}, CountsAs.{count_cons, count_map, stand_set, standing_same, stands_as}, Placed.{launched_stands, patch_in, patches_launched, unmapped}, Stands.{launched_other, rising_in, stand_launched}, Stretches.NumbersHave}
use Rattle.fst_graph.proofs.Settling.{ready_memory}
use Rattle.fst_types.specs.declared.place.Place.TheVariants as place
use Rattle.fst_heads.specs.declared.pending.Pending.TheVariants as pending

patches_unrisen : (nodes : List Node) → patches_in (map unrisen nodes) ≡ patches_in nodes
patches_unrisen [] = refl
patches_unrisen (x ∷ xs) = ap (λ ps. x.patch ∷ ps) (patches_unrisen xs)

-- the changes in flight are counted by their patches
flies_by : (b : ℕ) (nodes : List Node) → count_by (is_flying_on b) nodes ≡ count_by (is_change_at place.Flight b) (patches_in nodes)
flies_by b [] = refl
flies_by b (x ∷ xs) = count_cons (is_flying_on b) x xs ∙ (ap (λ k. cond (is_flying_on b x) 1 0 + k) (flies_by b xs) ∙ sym (count_cons (is_change_at place.Flight b) x.patch (patches_in xs)))

-- the numbers of those that pass
abbrev numbers_that : (Node → Bool) → List Node → List ℕ
numbers_that t nodes = map (λ x. x.patch.number) (filter t nodes)

flying_by : (b : ℕ) (nodes : List Node) → numbers_that (is_flying_on b) nodes ≡ map (λ p. p.number) (filter (is_change_at place.Flight b) (patches_in nodes))
flying_by b [] = refl
flying_by b (x ∷ xs) = elim (cases_Bool (is_flying_on b x)) [ inl e ↦ rw e (ap (λ ns. x.patch.number ∷ ns) (flying_by b xs)) | inr e ↦ rw e (flying_by b xs) ]

-- where the same numbers pass, they have what they had
numbers_again : (t u : Node → Bool) (P : ℕ → Type 0) (new nodes : List Node) → numbers_that t new ≡ numbers_that u nodes → NumbersHave u P nodes → NumbersHave t P new
numbers_again t u P new nodes same all k d lt e =
    let y = get_or new k d in
    let number : Node → ℕ = λ x. x.patch.number in
    let listed = In-map number (filter t new) y y.patch.number (in_filter t new y (In-get_or new k d lt) e) refl in
    let r = In-unmap number (filter u nodes) y.patch.number (subst (λ ns. In ns y.patch.number) same listed) in
    let was = filter_in u nodes r.0 r.1 in
    subst P r.2 (All-contains (λ x. u x ≡ true → P x.patch.number) nodes r.0 all (Contains-from_In nodes r.0 was.0) was.1)

not_same : (s t : Bool) → not s ≡ not t → s ≡ t
not_same true true e = refl
not_same false false e = refl
not_same true false e = sym e
not_same false true e = sym e

-- what is ready is live
pub ready_live : (b : ℕ) (nodes : List Node) (n : ℕ) → Contains (ready_on b nodes) n → IsLiveNumber (patches_in nodes) n
ready_live b nodes n c = let x = ready_memory b nodes n c in record { patch = x.0.patch; head = patch_in nodes x.0 x.1; numbered = x.2; live = λ disk. let memory = x.3 in cc }

module _ (nodes new : List Node) (numbers blocks b : ℕ) (H : HasOnePlaceEach (patches_in nodes) numbers) (S : AreSettled nodes blocks) (now : AreSettled new blocks)
    (R : IsRisenOf (map (launches (ready_on b nodes)) nodes) new) where
  abbrev mid : List Node
  mid = map (launches (ready_on b nodes)) nodes

  pub patches_risen : patches_in new ≡ map (launched (ready_on b nodes)) (patches_in nodes)
  patches_risen = sym (patches_unrisen new) ∙ (ap patches_in R ∙ (patches_unrisen mid ∙ patches_launched nodes (ready_on b nodes)))

  live_stays : (x : Node) → Contains nodes x → is_live (launched (ready_on b nodes) x.patch) ≡ is_live x.patch
  live_stays x c = (launched_stands nodes numbers (ready_on b nodes) H (ready_live b nodes) x.patch (In-from_Contains (patches_in nodes) x.patch (patch_in nodes x c))).live

  -- y is the node of x after the launch
  record IsNow (x y : Node) : Type 0 where
    number : y.patch.number ≡ x.patch.number
    forgotten : y.forgotten ≡ x.forgotten
    told : is_pending y.pending pending.Nothing ≡ is_pending x.pending pending.Nothing

  is_now : (x y : Node) → Contains nodes x → Contains new y → unrisen y ≡ unrisen (launches (ready_on b nodes) x) → IsNow x y
  is_now x y c d e =
      let patch : y.patch ≡ launched (ready_on b nodes) x.patch = ap (λ z. z.patch) e in
      record {
        number = ap (λ p. p.number) patch ∙ (launched_stands nodes numbers (ready_on b nodes) H (ready_live b nodes) x.patch (In-from_Contains (patches_in nodes) x.patch (patch_in nodes x c))).number;
        forgotten = ap (λ z. z.forgotten) e;
        told = not_same _ _ (waiting_is new blocks now y (In-from_Contains new y d) ∙ (ap is_live patch ∙ (live_stays x c ∙ sym (waiting_is nodes blocks S x (In-from_Contains nodes x c)))));
      }

  was : (y : Node) → Contains new y → (x : Node) × Contains nodes x × IsNow x y
  was y c =
      let r = In-unmap unrisen mid (unrisen y) (subst (λ zs. In zs (unrisen y)) R (In-map unrisen new y (unrisen y) (In-from_Contains new y c) refl)) in
      let x = unmapped (launches (ready_on b nodes)) nodes r.0 (Contains-from_In mid r.0 r.1) in
      (x.0, x.1, is_now x.0 y x.1 c (sym r.2 ∙ ap unrisen (sym x.2)))

  will : (x : Node) → Contains nodes x → (y : Node) × Contains new y × IsNow x y
  will x c =
      let there = In-map unrisen mid (launches (ready_on b nodes) x) (unrisen (launches (ready_on b nodes) x)) (In-map (launches (ready_on b nodes)) nodes x (launches (ready_on b nodes) x) (In-from_Contains nodes x c) refl) refl in
      let r = In-unmap unrisen new (unrisen (launches (ready_on b nodes) x)) (subst (λ zs. In zs (unrisen (launches (ready_on b nodes) x))) (sym R) there) in
      (r.0, Contains-from_In new r.0 r.1, is_now x r.0 c (Contains-from_In new r.0 r.1) r.2)

  same_landed : (x y : Node) → IsNow x y → is_landed y ≡ is_landed x
  same_landed x y s = rw (s.forgotten, s.told) refl

  -- nothing lands by it
  pub landed_risen : (landed : List ℕ) → AreLanded nodes landed → AreLanded new landed
  landed_risen landed A = record {
    gone = λ y c t. let x = was y c in is_nothing y.pending (x.2.told ∙ ap (λ p. is_pending p pending.Nothing) (A.gone x.0 x.1 (sym x.2.forgotten ∙ t)));
    only = λ n h. let o = A.only n h in let y = will o.0 o.1 in (y.0, y.1, y.2.number ∙ o.2, same_landed o.0 y.0 y.2 ∙ o.3);
    each = λ y c t. let x = was y c in subst (Contains landed) (sym x.2.number) (A.each x.0 x.1 (sym (same_landed x.0 y x.2) ∙ t));
    once = A.once;
  }

  pub beside_risen : (live : ℕ) (reached : List Bool) → Beside (patches_in nodes) blocks live reached → Beside (patches_in new) blocks live reached
  beside_risen live reached B = record {
    places = B.places;
    counted = B.counted ∙ sym (ap (count_by is_live) patches_risen ∙ count_map is_live is_live (launched (ready_on b nodes)) (patches_in nodes) (λ p i. (launched_stands nodes numbers (ready_on b nodes) H (ready_live b nodes) p i).live));
    few = B.few;
  }

  -- the same fly as before what rose
  flying_again : (c : ℕ) → numbers_that (is_flying_on c) new ≡ numbers_that (is_flying_on c) mid
  flying_again c = flying_by c new ∙ (ap (λ ps. map (λ p. p.number) (filter (is_change_at place.Flight c) ps)) (sym (patches_unrisen new) ∙ (ap patches_in R ∙ patches_unrisen mid)) ∙ sym (flying_by c mid))

  -- all that is ready of the block goes, and nothing else
  pub stand_risen : (standings : List Standing) (d : Standing) → b < blocks → (get_or standings b d).flying ≡ 0
      → ((c : ℕ) → ready_on c new ≡ (if c == b then [] else ready_on c nodes)) → ((c : ℕ) → held_on c new ≡ held_on c nodes)
      → AllStand nodes blocks standings
      → AllStand new blocks (set standings b (sent (get_or standings b d)))
  stand_risen standings d lt rest ready held A =
      let s : Standing = sent (get_or standings b d) in
      let L = stand_launched nodes numbers blocks b standings d H lt rest A in
      let flies : (c : ℕ) → count_by (is_flying_on c) new ≡ count_by (is_flying_on c) mid =
      λ c. flies_by c new ∙ (ap (count_by (is_change_at place.Flight c)) (sym (patches_unrisen new) ∙ (ap patches_in R ∙ patches_unrisen mid)) ∙ sym (flies_by c mid)) in
      let holds : (c : ℕ) → count_by (is_held_on c) new ≡ count_by (is_held_on c) nodes =
      λ c. sym (held_counted c new) ∙ (ap length (held c) ∙ held_counted c nodes) in
      let none : ready_on b new ≡ [] = ready b ∙ cond-true (b == b) [] (ready_on b nodes) (eq-eqb b b refl) in
      let here : get_or (set standings b s) b d ≡ s = get_or-set_same standings b s d (omega (arith, lt, A.long)) in
      stand_set new nodes blocks b standings s lt A
      (standing_same _ _ _ _ _ _ s
      (sym (sym (ready_counted b new) ∙ ap length none))
      (ap (λ t. t.held) (A.each b d lt) ∙ sym (holds b))
      (sym (ap (λ t. t.flying) here) ∙ (ap (λ t. t.flying) (L.each b d lt) ∙ sym (flies b))))
      (record {
        held = numbers_again (is_held_on b) (is_held_on b) (λ n. s.held_from ≤ n) new nodes (held b) (A.lie b d lt).held;
        ready = numbers_again (is_ready_on b) (is_ready_on b) (LiesIn nowhere) new [] none (λ k x within. absurd (omega (arith, within)));
        flying = numbers_again (is_flying_on b) (is_flying_on b) (LiesIn s.flying_in) new mid (flying_again b) (subst (λ (t : Standing). LieIn (is_flying_on b) mid t.flying_in) here (L.lie b d lt).flying);
      })
      (λ c inside ne.
      let goes_on = ready c ∙ cond-false (c == b) [] (ready_on c nodes) (ne_eqb c b ne) in
      let besides = stands_as (launches (ready_on b nodes)) nodes c (λ x i. launched_other nodes (rising_in nodes H.rising) b c x i ne) in
      record {
        counted = λ t. standing_same _ _ _ _ _ _ t
            (sym (ready_counted c new) ∙ (ap length goes_on ∙ ready_counted c nodes))
            (holds c)
            (flies c ∙ ap (λ (u : Standing). u.flying) (besides.counted t));
        lie = λ t told. record {
          held = numbers_again (is_held_on c) (is_held_on c) (λ n. t.held_from ≤ n) new nodes (held c) told.held;
          ready = numbers_again (is_ready_on c) (is_ready_on c) (LiesIn t.ready_in) new nodes goes_on told.ready;
          flying = numbers_again (is_flying_on c) (is_flying_on c) (LiesIn t.flying_in) new mid (flying_again c) (besides.lie t told).flying;
        };
      })
