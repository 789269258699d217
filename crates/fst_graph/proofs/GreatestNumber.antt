-- A new patch has the greatest number: each head and each rank has a lower one.
use Rattle.std.proofs.Common.{◌≡◌, ◌<◌, ◌+◌, ◌∷◌, [], ℕ, zero, suc, All, Contains, List, map, arith, ap, refl, subst, inl, inr}
use Rattle.std.proofs.lemmas.List.Elements.{All-push, Contains-push_cases}
use Rattle.fst_types.specs.{Facts.SparseAreLawful, Patches.Patch}
use Rattle.fst_types.proofs.Finite.{Contains-from_In, In-from_Contains}
use Rattle.fst_heads.specs.Heads.{patches_of}
use Rattle.fst_levels.specs.{Leveling.IsLeveled, declared.levels.{Ancestry.Ancestry, Rank.Rank}}
use Rattle.fst_graph.specs.{Fresh.{HasOneMore, IsNewest}, declared.columns.Columns.Columns}
use Rattle.fst_graph.proofs.Made.{put_patches}

-- ranks have the numbers of the patches
lower_ranks : (patches : List Patch) (ranks : List Rank) (n : ℕ) → map (λ r. r.number) ranks ≡ map (λ p. p.number) patches → ((p : Patch) → Contains patches p → p.number < n) → All (λ r. r.number < n) ranks
lower_ranks patches [] n same lower k d lt = absurd (omega (arith, lt))
lower_ranks [] (r ∷ rs) n same lower k d lt = absurd (cc)
lower_ranks (p ∷ ps) (r ∷ rs) n same lower zero d lt =
    let own : r.number ≡ p.number = cc in
    let low = lower p (0, omega arith, refl) in
    omega (arith, own, low)
lower_ranks (p ∷ ps) (r ∷ rs) n same lower (suc k) d lt =
    let rest : map (λ (x : Rank). x.number) rs ≡ map (λ (x : Patch). x.number) ps = cc in
    lower_ranks ps rs n rest (λ q there. lower q (Contains-from_In (p ∷ ps) q (inr (In-from_Contains ps q there)))) k d (omega (arith, lt))

-- the next number is greater than each that was given
pub is_newest : (c : Columns) (numbers blocks : ℕ) → SparseAreLawful (patches_of c.heads.list.items) numbers → IsLeveled (patches_of c.heads.list.items) blocks c.levels → IsNewest (numbers + 1) c
is_newest c numbers blocks lawful leveled =
    let lower : (p : Patch) → Contains (patches_of c.heads.list.items) p → p.number < numbers + 1 = λ p there. let given = (lawful.one_place_each.numbered p there).1 in omega (arith, given) in
    record { heads = lower; ranks = lower_ranks (patches_of c.heads.list.items) c.levels.ranks (numbers + 1) leveled.aligned lower }

-- and once a patch has it, so is the one after it
pub next_newest : {old new : Columns} {p : Patch} {level : ℕ} {ancestry : Ancestry} → IsNewest p.number old → HasOneMore p level ancestry old new → IsNewest (p.number + 1) new
next_newest {old} {new} {p} {level} {ancestry} N M = record {
  heads = λ q there. elim (Contains-push_cases (patches_of old.heads.list.items) p q (subst (λ ps. Contains ps q) (put_patches old.heads.list.items new.heads.list.items p M.nodes) there)) [
    | inl o ↦ let low = N.heads q o in omega (arith, low)
    | inr same ↦ let own = ap (λ (x : Patch). x.number) same in omega (arith, own)
  ];
  ranks = rw M.ranks (All-push (λ r. r.number < p.number + 1) old.levels.ranks _ (λ k d lt. let low = N.ranks k d lt in omega (arith, low)) (omega arith));
}
