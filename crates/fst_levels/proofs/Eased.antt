-- All levels halved, but the top: what was no higher is no higher, so no way down rises then either.
use Rattle.std.proofs.Common.{◌≡◌, ◌≤◌, ◌<◌, ◌/◌, ◌==◌, ◌∙◌, ◌∷◌, [], ℕ, true, false, nat_lt, List, map, length, refl, ap, inl, inr, arith, cond}
use Rattle.std.proofs.lemmas.{Bool.{cases_lt, cases_Bool, Decides.{nat_tests}}, List.{length-map}}
use Rattle.std.proofs.Math.ListN.{get_or-map}
use Rattle.fst_types.specs.Patches.{Patch}
use Rattle.fst_levels.specs.{Leveling.{halved, halved_rank, kept_under, hard_over_of, level_of, parent_of, jump_of, floor_of, top_level, IsLeveled, Leveling}, declared.levels.Rank.{Rank}}
use Rattle.fst_levels.proofs.AncestorsKept.{over_as, under_as}

pub low_half : (n : ℕ) → n < top_level → halved n ≡ n / 2
low_half n lt = let low : nat_lt n top_level ≡ true = grind (arith, nat_tests) in ap (λ b. cond b (n / 2) n) low

pub high_whole : (n : ℕ) → top_level ≤ n → halved n ≡ n
high_whole n le = let high : nat_lt n top_level ≡ false = grind (arith, nat_tests) in ap (λ b. cond b (n / 2) n) high

half_grows : (m n : ℕ) → m ≤ n → halved m ≤ halved n
half_grows m n le = elim (cases_lt m top_level) [
  | inl low ↦ elim (cases_lt n top_level) [
    | inl below ↦ rw (low_half m low, low_half n below) (omega (arith, le))
    | inr past ↦ rw (low_half m low, high_whole n past) (omega (arith, le))
  ]
  | inr high ↦ rw (high_whole m high, high_whole n (omega (arith, high, le))) le
]

half_few : (n : ℕ) → n ≤ top_level → halved n ≤ top_level
half_few n le = elim (cases_lt n top_level) [
  | inl low ↦ rw (low_half n low) (omega (arith, le))
  | inr high ↦ rw (high_whole n high) le
]

pub numbers_stay : (ranks : List Rank) → map (λ r. r.number) (map halved_rank ranks) ≡ map (λ r. r.number) ranks
numbers_stay [] = refl
numbers_stay (r ∷ rs) = ap (λ ns. r.number ∷ ns) (numbers_stay rs)

-- what is kept beside the level stays
kept_stays : (kept : Rank → ℕ) → ((r : Rank) → kept (halved_rank r) ≡ kept r) → (ranks : List Rank) (n : ℕ) → kept_under kept (map halved_rank ranks) n ≡ kept_under kept ranks n
kept_stays kept same [] n = refl
kept_stays kept same (r ∷ rs) n = rw (same r, kept_stays kept same rs n) refl

level_half : (ranks : List Rank) (n : ℕ) → level_of (map halved_rank ranks) n ≡ halved (level_of ranks n)
level_half [] n = refl
level_half (r ∷ rs) n = elim (cases_Bool (r.number == n)) [
  | inl here ↦ rw here refl
  | inr other ↦ rw other (level_half rs n)
]

floor_half : (floors : List ℕ) (b : ℕ) → floor_of (map halved floors) b ≡ halved (floor_of floors b)
floor_half floors b = get_or-map halved floors b 0

module _ (patches : List Patch) (blocks : ℕ) (old new : Leveling) (ranks : new.ranks ≡ map halved_rank old.ranks) (floors : new.floors ≡ map halved old.floors) (L : IsLeveled patches blocks old) where
  level_now : (n : ℕ) → level_of new.ranks n ≡ halved (level_of old.ranks n)
  level_now n = ap (λ rs. level_of rs n) ranks ∙ level_half old.ranks n

  floor_now : (b : ℕ) → floor_of new.floors b ≡ halved (floor_of old.floors b)
  floor_now b = ap (λ fs. floor_of fs b) floors ∙ floor_half old.floors b

  pub eased_is_leveled : IsLeveled patches blocks new
  eased_is_leveled = record {
    aligned = ap (map (λ r. r.number)) ranks ∙ (numbers_stay old.ranks ∙ L.aligned);
    long = ap length floors ∙ (length-map old.floors halved ∙ L.long);
    leveled = record {
      direct = λ p q d. rw (level_now p, level_now q) (half_grows (level_of old.ranks q) (level_of old.ranks p) (L.leveled.direct p q d));
      change = λ b p on. rw (level_now p, floor_now b) (half_grows (floor_of old.floors b) (level_of old.ranks p) (L.leveled.change b p on));
      hard = λ b p on. rw (level_now p, floor_now b) (half_grows (level_of old.ranks p) (floor_of old.floors b) (L.leveled.hard b p on));
      gates = λ p opened. level_now p ∙ (ap halved (L.leveled.gates p opened) ∙ high_whole top_level (omega arith));
      few = λ p. rw (level_now p) (half_few (level_of old.ranks p) (L.leveled.few p));
    };
    parents = over_as patches (parent_of old.ranks) (parent_of new.ranks) (λ n. ap (λ rs. parent_of rs n) ranks ∙ kept_stays (λ r. r.ancestry.parent) (λ r. refl) old.ranks n) L.parents;
    jumps = over_as patches (jump_of old.ranks) (jump_of new.ranks) (λ n. ap (λ rs. jump_of rs n) ranks ∙ kept_stays (λ r. r.ancestry.jump) (λ r. refl) old.ranks n) L.jumps;
    overs = under_as patches (hard_over_of old.ranks) (hard_over_of new.ranks) (λ n. ap (λ rs. hard_over_of rs n) ranks ∙ kept_stays (λ r. r.hard_over) (λ r. refl) old.ranks n) L.overs;
  }
