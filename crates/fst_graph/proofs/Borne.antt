-- What holds of the patches of heads, said of the patches of their nodes; and sums and counts that fit.
use Rattle.std.proofs.Common.{◌≡◌, ◌<◌, ◌≤◌, ◌+◌, ℕ, false, List, [], ◌∷◌, ◌++◌, Result, Ok, Err, OnOk, is_err, map, set, get_or, Contains, sym, ap, subst, inl, inr, arith, Bool, count_by}
use Rattle.std.proofs.lemmas.{Bool.cases_lt, List.Elements.Contains-get_or, List.length-map, List.Sums.count_by-le-length}
use Rattle.std.specs.List.Sorted.{IsStrictlyIncreasing}
use Rattle.fst_types.specs.{Dependencies.DirectlyOn, Facts.SparseAreLawful, Gates.IsOpenNumber, Limits.max_heads, Patches.Patch, Tests.is_live}
use Rattle.fst_heads.specs.{Heads.{patches_of}, Keeps.{Beside, IsInside}, Nodes.{Node, nodes_of, patches_in, pending_in, AreDistinct, AreSettled, node_of}}
use Rattle.fst_heads.specs.{Pendings.{Fits, IsOf, max_block, sums_of}, Spreading.{is_waiting, lands}, Standings.{AllStand, arrived, is_flying_on, without_changes}, Stretches.LieIn, declared.{head.Head.Head, heads.Heads.Heads}, declared.standing.Standing.Standing, declared.stretch.Stretch.Stretch}
use Rattle.fst_types.proofs.Landing.{change_at}
use Rattle.fst_heads.proofs.{AtNumber.patches_in_nodes, Beside.waiting_live, Few.gain_few, PendingIn.found, Placed.patch_in, Stands.{stand_landed, stand_landed_outside}, Sums.sums_fit}
use Rattle.fst_types.specs.declared.place.Place.TheVariants as place
use Rattle.fst_heads.specs.declared.pending.Pending.TheVariants as pending

-- the patches with a new one
pub lawful_with : (heads : List Head) (p : Patch) (numbers : ℕ) → SparseAreLawful (patches_of heads ++ p ∷ []) numbers → SparseAreLawful (patches_in (nodes_of heads) ++ p ∷ []) numbers
lawful_with heads p numbers H = subst (λ ps. SparseAreLawful (ps ++ p ∷ []) numbers) (sym (patches_in_nodes heads)) H

pub inside_nodes : (heads : List Head) (blocks : ℕ) → IsInside (patches_of heads) blocks → IsInside (patches_in (nodes_of heads)) blocks
inside_nodes heads blocks inside = subst (λ ps. IsInside ps blocks) (sym (patches_in_nodes heads)) inside

pub open_nodes : (heads : List Head) (g : ℕ) → IsOpenNumber (patches_of heads) g → IsOpenNumber (patches_in (nodes_of heads)) g
open_nodes heads g gate = subst (λ ps. IsOpenNumber ps g) (sym (patches_in_nodes heads)) gate

none_of : (b : ℕ) → IsOf b pending.Nothing → ⊥
none_of b (inl e) = absurd (cc)
none_of b (inr e) = absurd (cc)

-- the sums of patches at rest fit
pub settled_fits : (nodes : List Node) (blocks : ℕ) → blocks ≤ max_block → AreSettled nodes blocks → (x : Node) → Contains nodes x → Fits x.sums
settled_fits nodes blocks narrow S x c =
    subst Fits (sym (S.summed x c))
    (sums_fit (pending_in nodes) x.patch.dependencies (λ n b e. elim (found nodes n) [
      | inl f ↦ let lt = S.inside f.node b f.head (subst (IsOf b) f.told e) in omega (arith, lt, narrow)
      | inr none ↦ absurd (none_of b (subst (IsOf b) none e))
    ]))

-- a call that did not fail
pub ok_of : {A E : Type 0} (r : Result A E) (P : Type 0) → OnOk r P → is_err r ≡ false → P
ok_of (Ok a) P p e = p
ok_of (Err x) P p e = absurd (cc)

-- nothing flies of what is none of the blocks
pub none_outside : (nodes : List Node) (blocks b : ℕ) (s : Stretch) → IsInside (patches_in nodes) blocks → blocks ≤ b → LieIn (is_flying_on b) nodes s
none_outside nodes blocks b s inside past k d lt flies =
    let x = get_or nodes k d in
    let within = inside x.patch b (patch_in nodes x (Contains-get_or nodes k d lt)) (change_at place.Flight b x.patch flies).0 in
    absurd (omega (arith, within, past))

-- nothing of a block is in flight any more, if it is one
pub stand_land : (nodes : List Node) (blocks b : ℕ) (old new : List Standing) → IsInside (patches_in nodes) blocks → AllStand nodes blocks old
    → ((d : Standing) → b < blocks → new ≡ set old b (arrived (get_or old b d)))
    → (blocks ≤ b → new ≡ old)
    → AllStand (map (lands b) nodes) blocks new
stand_land nodes blocks b old new inside S within outside = elim (cases_lt b blocks) [
  | inl lt ↦
      subst (AllStand (map (lands b) nodes) blocks) (sym (within without_changes lt)) (stand_landed nodes blocks b old without_changes lt S)
  | inr past ↦ subst (AllStand (map (lands b) nodes) blocks) (sym (outside past)) (stand_landed_outside nodes blocks b old inside past S)
]

-- a gate has room for names that it does not have: together they are no more than there may be patches
pub gain_room : (heads : List Head) (blocks g : ℕ) (names : List ℕ) → blocks ≤ max_block → AreSettled (nodes_of heads) blocks → AreDistinct (nodes_of heads) → count_by is_waiting (nodes_of heads) ≤ max_heads
    → IsStrictlyIncreasing names → ((n : ℕ) → Contains names n → DirectlyOn (patches_of heads) g n → ⊥)
    → (x : Node) → Contains (nodes_of heads) x → x.patch.number ≡ g → (x.sums.count + (sums_of (pending_in (nodes_of heads)) names).count < 65536) × Fits x.sums
gain_room heads blocks g names narrow S distinct few rising missing x c same =
    let most = gain_few (nodes_of heads) g names distinct rising (λ n k on. missing n k (subst (λ ps. DirectlyOn ps g n) (patches_in_nodes heads) on)) x c same (S.summed x c) in
    (omega (arith, most, few), settled_fits (nodes_of heads) blocks narrow S x c)

-- no more wait for the disk than may be kept
pub few_waiting : (heads : List Head) {blocks live : ℕ} {reached : List Bool} → AreSettled (nodes_of heads) blocks → Beside (patches_of heads) blocks live reached → count_by is_waiting (nodes_of heads) ≤ max_heads
few_waiting heads {blocks} S B = omega (arith, waiting_live (nodes_of heads) blocks S, ap (count_by is_live) (patches_in_nodes heads), B.counted, B.few)

-- a count of heads fits
pub few_counted : (heads : Heads) (t : Node → Bool) (n : ℕ) → n ≡ count_by t (nodes_of heads.list.items) → n < 18446744073709551615
few_counted heads t n same = omega (arith, same, count_by-le-length t (nodes_of heads.list.items), length-map heads.list.items node_of, heads.list.ok.0, heads.list.ok.1)
