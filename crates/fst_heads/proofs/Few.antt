-- A row of which no number stands twice counts no more patches than wait for the disk.
use Rattle.fst_heads.proofs.Basics.{◌≡◌, ◌≢◌, ◌≤◌, ◌+◌, ◌++◌, ◌∙◌, ℕ, Bool, true, List, not, map, filter, count_by, Contains, AllPairs, sym, ap, inl, inr, arith, length-map, AllPairs-filter}
use Rattle.std.proofs.lemmas.{List.Sums.length-filter, List.Kept.AllPairs-from_increasing}
use Rattle.std.specs.List.Sorted.{IsStrictlyIncreasing}
use Rattle.fst_heads.proofs.Patches.{DirectlyOn, In, In-map, In-from_Contains, filter_in, in_filter}
use Rattle.fst_heads.proofs.Words.{Node, patches_in, pending_in, is_pending, is_waiting, sums_of, AreDistinct}
use Rattle.fst_heads.proofs.{PendingIn.found, Placed.patch_in, Sums.{sums_append, sums_count}, Waiting.{once_append, once_fits}}
use Rattle.fst_heads.proofs.Words.pending

-- whether something is pending of it
abbrev waits : List Node → ℕ → Bool
waits nodes n = not (is_pending (pending_in nodes n) pending.Nothing)

-- then it is the number of a patch
waits_in : (nodes : List Node) (n : ℕ) → waits nodes n ≡ true → In (map (λ (x : Node). x.patch.number) (filter is_waiting nodes)) n
waits_in nodes n e = elim (found nodes n) [
  | inl f ↦ In-map (λ (x : Node). x.patch.number) (filter is_waiting nodes) f.node n (in_filter is_waiting nodes f.node (In-from_Contains nodes f.node f.head) (ap (λ p. not (is_pending p pending.Nothing)) (sym f.told) ∙ e)) f.numbered
  | inr none ↦ let off = ap (λ p. not (is_pending p pending.Nothing)) (sym none) ∙ e in absurd (cc)
]

pub row_few : (nodes : List Node) (row : List ℕ) → AllPairs (λ m n. m ≢ n) row → (sums_of (pending_in nodes) row).count ≤ count_by is_waiting nodes
row_few nodes row once =
    let number = λ (x : Node). x.patch.number in
    let kept = filter (waits nodes) row in
    let waiting = filter is_waiting nodes in
    let few = once_fits kept (map number waiting) (AllPairs-filter (λ m n. m ≢ n) (waits nodes) row once) (λ n h. let k = filter_in (waits nodes) row n h in waits_in nodes n k.1) in
    omega (arith, few, length-map waiting number, sums_count (pending_in nodes) row, length-filter (waits nodes) row, length-filter is_waiting nodes)

pub apart_rising : (row : List ℕ) → IsStrictlyIncreasing row → AllPairs (λ m n. m ≢ n) row
apart_rising row rising i j d lt inside e = let less = AllPairs-from_increasing row rising i j d lt inside in omega (arith, less, e)

-- nor does the row of a patch with names that it does not have
pub gain_few : (nodes : List Node) (g : ℕ) (names : List ℕ) → AreDistinct nodes → IsStrictlyIncreasing names → ((n : ℕ) → Contains names n → DirectlyOn (patches_in nodes) g n → ⊥)
    → (x : Node) → Contains nodes x → x.patch.number ≡ g → x.sums ≡ sums_of (pending_in nodes) x.patch.dependencies
    → x.sums.count + (sums_of (pending_in nodes) names).count ≤ count_by is_waiting nodes
gain_few nodes g names distinct rising missing x c same summed =
    let row = x.patch.dependencies in
    let told = pending_in nodes in
    let once = once_append row names (distinct x c).0 (apart_rising names rising) (λ n old new. missing n new (record { patch = x.patch; head = patch_in nodes x c; numbered = same; named = old })) in
    omega (arith, row_few nodes (row ++ names) once, ap (λ s. s.count) (sums_append told row names), ap (λ s. s.count) summed)
