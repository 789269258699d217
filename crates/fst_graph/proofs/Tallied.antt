-- What stands beside the patches after each call.
use Rattle.std.proofs.Common.{◌≡◌, ◌<◌, ◌≤◌, ◌==◌, ◌&&◌, ℕ, ◌+◌, false, if◌then◌else◌, List, [], ◌∷◌, ◌++◌, length, map, filter, get_or, set, Contains, refl, sym, ap, subst, ◌∙◌, inl, inr, arith}
use Rattle.std.proofs.Math.Bool.{and-false}
use Rattle.std.proofs.lemmas.{Bool.{cond_both, cases_Bool, cases_eq}, List.{length-map, length_push}, List.Elements.Contains-get_or, List.Sums.{length-filter, count_by-le-length}}
use Rattle.std.specs.List.Sorted.{IsStrictlyIncreasing}
use Rattle.fst_types.specs.{Dependencies.{DirectlyOn, IsLiveNumber}, Facts.SparseAreLawful, Gates.IsOpenNumber, Gating.gains, Lists.Lists}
use Rattle.fst_types.specs.{Patches.{Patch, IsOn, OpenGate}, Tests.{is_live, is_on, is_change_at}, Writing.launched}
use Rattle.fst_heads.specs.{Keeps.Tallies, Lists.{Entry, entries_on, is_live_on, AreListed}, Nodes.{Node, patches_in, at_number, linked_to, pending_in, AreLinked, AreGiven, AreDistinct, AreSettled}}
use Rattle.fst_heads.specs.{Pendings.sums_of, Spreading.{IsRisenOf, IsSpreadOf, launches, lands, seals}, Standings.{AllStand, LieAsTold, NoneHeldBelow, held_on, ready_on, sent, standing_of}, declared.standing.Standing.Standing}
use Rattle.fst_types.proofs.{Crash.same_number, Dropping.filter_in, Finite.{In, In-from_Contains, Contains-from_In}}
use Rattle.fst_heads.proofs.{Added.{with_node, new_node, with_names}, AtNumber.{at_same, at_other}}
use Rattle.fst_heads.proofs.Carried.{risen_spread, length_spread, linked_spread, given_spread, distinct_spread, listed_spread, linked_sealed, distinct_sealed, linked_landed, distinct_landed}
use Rattle.fst_heads.proofs.Placed.{KeepLinks, SameLinks, patch_in, linked_kept, given_kept, distinct_kept, links_mapped, entries_mapped, launched_stands, launched_links, patches_dropped, entries_dropped, number_if, dependencies_if}
use Rattle.fst_heads.proofs.{CountsAs.stand_set, Stands.{stand_gained, stand_dropped}}
use Rattle.fst_levels.proofs.Ready.{held_first, held_in}
use Rattle.fst_levels.proofs.Linked.{patches_made, made_linked, made_given, made_distinct, named_linked, named_given, named_distinct, patches_named, both, both_nodes, gain_stands}
use Rattle.fst_graph.proofs.{Marking.{counted_settled, marked_settled}, Risen.{patches_risen, ready_live, stand_risen}, Settling.{made_settled, depends_settled, dropped_settled}}
use Rattle.fst_types.specs.declared.place.Place.TheVariants as place

pub tallies_from : (nodes : List Node) (numbers given blocks : ℕ) (lists : List (List Entry)) (standings : List Standing) (queue : List ℕ) (cap : ℕ)
    → SparseAreLawful (patches_in nodes) numbers → AreLinked nodes → AreGiven nodes given → AreDistinct nodes → AreSettled nodes blocks
    → AreListed (patches_in nodes) blocks lists → AllStand nodes blocks standings → queue ≡ [] → length nodes ≤ cap
    → Tallies nodes given blocks lists standings queue cap
tallies_from nodes numbers given blocks lists standings queue cap H linked gives distinct settled listed standing idle room = record {
  linked = linked;
  given = gives;
  distinct = distinct;
  settled = settled;
  counted = counted_settled nodes numbers blocks H settled;
  listed = listed;
  standing = standing;
  marked = marked_settled nodes numbers blocks H settled standings standing;
  idle = idle;
  room = room;
}

-- a new patch; the patches with it are lawful
pub tallies_made : (nodes : List Node) (numbers blocks : ℕ) (lists lists' : List (List Entry)) (standings standings' : List Standing) (queue : List ℕ) (cap cap' : ℕ) (p : Patch)
    → SparseAreLawful (patches_in nodes) numbers → SparseAreLawful (patches_in nodes ++ p ∷ []) (numbers + 1)
    → Tallies nodes numbers blocks lists standings queue cap
    → p.number ≡ numbers + 1 → IsStrictlyIncreasing p.dependencies → ((n : ℕ) → Contains p.dependencies n → IsLiveNumber (patches_in nodes) n)
    → ((b : ℕ) → IsOn p b → b < blocks)
    → AreListed (patches_in (with_node nodes p)) blocks lists' → AllStand (with_node nodes p) blocks standings' → length nodes < cap'
    → Tallies (with_node nodes p) (numbers + 1) blocks lists' standings' queue cap'
tallies_made nodes numbers blocks lists lists' standings standings' queue cap cap' p H H' T next rising live inside listed standing room =
    let one = H.one_place_each in
    tallies_from (with_node nodes p) (numbers + 1) (numbers + 1) blocks lists' standings' queue cap'
    (subst (λ ps. SparseAreLawful ps (numbers + 1)) (sym (patches_made nodes p)) H')
    (made_linked nodes numbers p one next rising live T.linked T.given)
    (made_given nodes numbers p one next rising live T.given)
    (made_distinct nodes numbers p one next rising live T.given T.distinct)
    (made_settled nodes numbers blocks p H H' T.settled next rising live inside)
    listed standing T.idle
    (omega (arith, room, length_push (map (linked_to p.dependencies p.number) nodes) (new_node nodes p), length-map nodes (linked_to p.dependencies p.number)))

-- an open gate gains names; the patches after that are lawful
pub tallies_depends : (nodes : List Node) (numbers blocks : ℕ) (lists : List (List Entry)) (standings : List Standing) (queue : List ℕ) (cap g : ℕ) (on names : List ℕ)
    → SparseAreLawful (patches_in nodes) numbers → SparseAreLawful (patches_in (with_names nodes g names (sums_of (pending_in nodes) names))) numbers
    → Tallies nodes numbers blocks lists standings queue cap → IsOpenNumber (patches_in nodes) g
    → Lists (λ n. IsLiveNumber (patches_in nodes) n × Contains on n × (DirectlyOn (patches_in nodes) g n → ⊥)) names
    → Tallies (with_names nodes g names (sums_of (pending_in nodes) names)) numbers blocks lists standings queue cap
tallies_depends nodes numbers blocks lists standings queue cap g on names H H' T gate live =
    let sums = sums_of (pending_in nodes) names in
    let small = (H.one_place_each.numbered gate.patch gate.head).1 in
    let numbered = gate.numbered in
    tallies_from (with_names nodes g names sums) numbers numbers blocks lists standings queue cap H'
    (named_linked g names sums nodes live.rising T.linked)
    (named_given g names sums nodes numbers (omega (arith, small, numbered)) T.given)
    (named_distinct g names sums nodes gate live.rising T.linked (λ n c. (live.only n c).2) T.distinct)
    (depends_settled nodes numbers blocks g names H T.settled gate)
    (record {
      long = T.listed.long;
      each = λ b d lt. T.listed.each b d lt ∙ sym (ap (λ ps. entries_on b ps) (patches_named g names sums nodes) ∙ entries_mapped (gains g names) b (patches_in nodes) (λ p h. gain_stands g names p));
    })
    (stand_gained nodes blocks g names sums standings T.standing) T.idle
    (subst (λ k. k ≤ cap) (sym (ap length (both_nodes g names sums nodes) ∙ length-map nodes (both g names sums))) T.room)

-- the ready changes of a block of which nothing flies are in flight
pub tallies_launched : (nodes new : List Node) (numbers blocks b : ℕ) (lists : List (List Entry)) (standings : List Standing) (d : Standing) (queue : List ℕ) (cap : ℕ)
    → SparseAreLawful (patches_in nodes) numbers → SparseAreLawful (patches_in new) numbers
    → Tallies nodes numbers blocks lists standings queue cap → b < blocks → (get_or standings b d).flying ≡ 0
    → IsRisenOf (map (launches (ready_on b nodes)) nodes) new → AreSettled new blocks
    → ((c : ℕ) → ready_on c new ≡ (if c == b then [] else ready_on c nodes)) → ((c : ℕ) → held_on c new ≡ held_on c nodes)
    → Tallies new numbers blocks lists (set standings b (sent (get_or standings b d))) [] cap
tallies_launched nodes new numbers blocks b lists standings d queue cap H H' T lt rest risen settled ready held =
    let chosen = ready_on b nodes in
    let mid = map (launches chosen) nodes in
    let links = links_mapped (launches chosen) nodes (launched_links chosen) in
    let spread = risen_spread mid new risen in
    let long = length_spread mid new spread in
    let same = length-map nodes (launches chosen) in
    tallies_from new numbers numbers blocks lists _ [] cap H'
    (linked_spread mid new spread (linked_kept nodes mid links T.linked))
    (given_spread mid new numbers spread (given_kept nodes mid numbers links T.given))
    (distinct_spread mid new spread (distinct_kept nodes mid links T.distinct))
    settled
    (record {
      long = T.listed.long;
      each = λ c e inside. T.listed.each c e inside
          ∙ sym (ap (entries_on c) (patches_risen nodes new numbers blocks b H.one_place_each T.settled settled risen) ∙ entries_mapped (launched chosen) c (patches_in nodes) (launched_stands nodes numbers chosen H.one_place_each (ready_live b nodes)));
    })
    (stand_risen nodes new numbers blocks b H.one_place_each T.settled settled risen standings d lt rest ready held T.standing) refl
    (omega (arith, long, same, T.room))

-- the least held change of a block is found
pub stand_found : (nodes : List Node) (blocks b n : ℕ) (standings : List Standing) (own now : Standing) → b < blocks → own ≡ get_or standings b own → now ≡ record own { held_from = n }
    → NoneHeldBelow nodes b n → AllStand nodes blocks standings → AllStand nodes blocks (set standings b now)
stand_found nodes blocks b n standings own now lt there is low A =
    let each = subst (λ (s : Standing). s ≡ standing_of nodes b s) (sym there) (A.each b own lt) in
    let told = subst (LieAsTold nodes b) (sym there) (A.lie b own lt) in
    rw is (stand_set nodes nodes blocks b standings (record own { held_from = n }) lt A (ap (λ (s : Standing). record s { held_from = n }) each) (record { held = low; ready = told.ready; flying = told.flying })
    (λ c inside ne. record { counted = λ s. refl; lie = λ s L. L }))

pub tallies_found : (nodes : List Node) (numbers blocks b n : ℕ) (lists : List (List Entry)) (standings : List Standing) (queue : List ℕ) (cap : ℕ) (own now : Standing)
    → SparseAreLawful (patches_in nodes) numbers → Tallies nodes numbers blocks lists standings queue cap → b < blocks
    → own ≡ get_or standings b own → now ≡ record own { held_from = n } → (rest : List ℕ) × (held_on b nodes ≡ n ∷ rest)
    → Tallies nodes numbers blocks lists (set standings b now) queue cap
tallies_found nodes numbers blocks b n lists standings queue cap own now H T lt there is found =
    let least = held_first nodes numbers blocks H T.settled b n found.0 found.1 in
    let low : NoneHeldBelow nodes b n = λ k d in_range held. least.least (get_or nodes k d).patch (held_in nodes numbers blocks H T.settled b (get_or nodes k d) (Contains-get_or nodes k d in_range) held) in
    tallies_from nodes numbers numbers blocks lists (set standings b now) queue cap H T.linked T.given T.distinct T.settled T.listed
    (stand_found nodes blocks b n standings own now lt there is low T.standing) T.idle T.room

-- those on disk are forgotten
pub tallies_dropped : (nodes : List Node) (numbers blocks : ℕ) (lists : List (List Entry)) (standings : List Standing) (queue : List ℕ) (cap : ℕ)
    → SparseAreLawful (patches_in nodes) numbers → SparseAreLawful (patches_in (filter (λ x. is_live x.patch) nodes)) numbers
    → Tallies nodes numbers blocks lists standings queue cap
    → Tallies (filter (λ x. is_live x.patch) nodes) numbers blocks lists standings queue cap
tallies_dropped nodes numbers blocks lists standings queue cap H H' T =
    let new = filter (λ (x : Node). is_live x.patch) nodes in
    let links : KeepLinks nodes new = λ x c. (x, Contains-from_In nodes x (filter_in (λ (x : Node). is_live x.patch) nodes x (In-from_Contains new x c)).0, record { number = refl; dependencies = refl; dependants = refl }) in
    let long = length-filter (λ (x : Node). is_live x.patch) nodes in
    let few = count_by-le-length (λ (x : Node). is_live x.patch) nodes in
    tallies_from new numbers numbers blocks lists standings queue cap H'
    (linked_kept nodes new links T.linked)
    (given_kept nodes new numbers links T.given)
    (distinct_kept nodes new links T.distinct)
    (dropped_settled nodes numbers blocks H T.settled)
    (record { long = T.listed.long; each = λ b d lt. T.listed.each b d lt ∙ sym (ap (entries_on b) (patches_dropped nodes) ∙ entries_dropped b (patches_in nodes)) })
    (stand_dropped nodes blocks standings T.standing) T.idle
    (omega (arith, long, few, T.room))

-- a seal and a landing leave numbers, direct dependencies and dependants

sealed_links : (g : ℕ) (x : Node) → SameLinks x (at_number g seals x)
sealed_links g x = elim (cases_eq x.patch.number g) [
  | inl e ↦ subst (SameLinks x) (sym (at_same g seals x e)) (cond_both (x.sums.count == 0) _ _ (SameLinks x) (λ t. record { number = refl; dependencies = refl; dependants = refl }) (λ f. record { number = refl; dependencies = refl; dependants = refl }))
  | inr ne ↦ subst (SameLinks x) (sym (at_other g seals x ne)) (record { number = refl; dependencies = refl; dependants = refl })
]

landed_links : (b : ℕ) (x : Node) → SameLinks x (lands b x)
landed_links b x = record {
  number = number_if (is_change_at place.Flight b x.patch) x.patch _ refl;
  dependencies = dependencies_if (is_change_at place.Flight b x.patch) x.patch _ refl;
  dependants = refl;
}

-- a gate is in no list, open or sealed
module _ (g : ℕ) where
  entries_sealed : (c : ℕ) (nodes : List Node) → ((x : Node) → In nodes x → x.patch.number ≡ g → x.patch.kind ≡ OpenGate) → entries_on c (patches_in (map (at_number g seals) nodes)) ≡ entries_on c (patches_in nodes)
  entries_sealed c [] gate = refl
  entries_sealed c (x ∷ xs) gate =
      let r = entries_sealed c xs (λ y h. gate y (inr h)) in
      elim (cases_eq x.patch.number g) [
        | inl e ↦
            let old : is_live_on c x.patch ≡ false = ap (λ k. is_live x.patch && is_on c k) (gate x (inl refl) e) ∙ and-false (is_live x.patch) in
            let new : is_live_on c (at_number g seals x).patch ≡ false = ap (λ y. is_live_on c y.patch) (at_same g seals x e) ∙ cond_both (x.sums.count == 0) _ _ (λ (y : Node). is_live_on c y.patch ≡ false) (λ t. refl) (λ f. and-false (is_live x.patch)) in
            rw (old, new) r
        | inr ne ↦ rw (at_other g seals x ne) (elim (cases_Bool (is_live_on c x.patch)) [ inl t ↦ rw (t, r) refl | inr t ↦ rw (t, r) refl ])
      ]

  listed_sealed : (nodes : List Node) (numbers blocks : ℕ) (lists : List (List Entry)) → SparseAreLawful (patches_in nodes) numbers → IsOpenNumber (patches_in nodes) g
      → AreListed (patches_in nodes) blocks lists → AreListed (patches_in (map (at_number g seals) nodes)) blocks lists
  listed_sealed nodes numbers blocks lists H gate L =
      let kind : (x : Node) → In nodes x → x.patch.number ≡ g → x.patch.kind ≡ OpenGate = λ x h e.
      ap (λ q. q.kind) (same_number (patches_in nodes) x.patch gate.patch H.one_place_each.rising (patch_in nodes x (Contains-from_In nodes x h)) gate.head (e ∙ sym gate.numbered)) ∙ gate.is_open in
      record { long = L.long; each = λ c d lt. L.each c d lt ∙ sym (entries_sealed c nodes kind) }

-- what was sealed has spread
pub tallies_sealed : (nodes new : List Node) (numbers blocks : ℕ) (lists : List (List Entry)) (standings standings' : List Standing) (queue : List ℕ) (cap g : ℕ)
    → SparseAreLawful (patches_in nodes) numbers → SparseAreLawful (patches_in new) numbers
    → Tallies nodes numbers blocks lists standings queue cap → IsOpenNumber (patches_in nodes) g
    → IsSpreadOf (map (at_number g seals) nodes) new → AreSettled new blocks → AllStand new blocks standings'
    → Tallies new numbers blocks lists standings' [] cap
tallies_sealed nodes new numbers blocks lists standings standings' queue cap g H H' T gate spread settled standing =
    let mid = map (at_number g seals) nodes in
    let long = length_spread mid new spread in
    let same = length-map nodes (at_number g seals) in
    tallies_from new numbers numbers blocks lists standings' [] cap H'
    (linked_spread mid new spread (linked_sealed nodes g T.linked))
    (given_spread mid new numbers spread (given_kept nodes mid numbers (links_mapped (at_number g seals) nodes (sealed_links g)) T.given))
    (distinct_spread mid new spread (distinct_sealed nodes g T.distinct))
    settled
    (listed_spread mid new blocks lists spread (listed_sealed g nodes numbers blocks lists H gate T.listed))
    standing refl
    (omega (arith, long, same, T.room))

-- what landed has spread
pub tallies_landed : (nodes new : List Node) (numbers blocks b : ℕ) (lists lists' : List (List Entry)) (standings standings' : List Standing) (queue : List ℕ) (cap : ℕ)
    → SparseAreLawful (patches_in new) numbers
    → Tallies nodes numbers blocks lists standings queue cap → AreListed (patches_in (map (lands b) nodes)) blocks lists'
    → IsSpreadOf (map (lands b) nodes) new → AreSettled new blocks → AllStand new blocks standings'
    → Tallies new numbers blocks lists' standings' [] cap
tallies_landed nodes new numbers blocks b lists lists' standings standings' queue cap H' T listed spread settled standing =
    let mid = map (lands b) nodes in
    let long = length_spread mid new spread in
    let same = length-map nodes (lands b) in
    tallies_from new numbers numbers blocks lists' standings' [] cap H'
    (linked_spread mid new spread (linked_landed nodes b T.linked))
    (given_spread mid new numbers spread (given_kept nodes mid numbers (links_mapped (lands b) nodes (landed_links b)) T.given))
    (distinct_spread mid new spread (distinct_landed nodes b T.distinct))
    settled
    (listed_spread mid new blocks lists' spread listed)
    standing refl
    (omega (arith, long, same, T.room))
