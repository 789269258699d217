-- What calls leave of the levels: more room, patches that moved on, and a patch more.
use Rattle.std.proofs.Common.{◌≡◌, ◌≤◌, ◌+◌, ◌++◌, ◌∷◌, ◌∙◌, [], ℕ, true, false, List, length, Contains, ap, arith, sym, inl, inr, subst, refl}
use Rattle.std.proofs.lemmas.Bool.{cases_Bool}
use Rattle.fst_types.specs.{Facts.HasOnePlaceEach, Patches.{Patch, IsOn, IsHard, IsOpenGate}}
use Rattle.fst_types.specs.declared.grade.Grade.TheVariants as grade
use Rattle.fst_types.proofs.Alike.{Alike}
use Rattle.std.proofs.lemmas.List.{length_push}
use Rattle.fst_graph.specs.{Ready.change_of, Sound.AreAlong, declared.prepared.Prepared.Prepared as Stored}
use Rattle.fst_levels.specs.{Ancestors.GoesUnder, Leveling.{IsLeveled, Leveling, level_of, floor_of, top_level}, Lifting.IsRise, declared.levels.{Ancestry.Ancestry, Rise.Rise}}
use Rattle.fst_walks.specs.declared.ends.Ends.{Ends}
use Rattle.fst_levels.proofs.LeveledKept.{alike_is_leveled, fresh_is_leveled}

-- the same levels, perhaps with more room
pub leveled_as : {patches : List Patch} {blocks : ℕ} {levels ranked : Leveling} → ranked.ranks ≡ levels.ranks → ranked.floors ≡ levels.floors → IsLeveled patches blocks levels → IsLeveled patches blocks ranked
leveled_as ranks floors L = record { aligned = rw ranks L.aligned; long = rw floors L.long; leveled = rw (ranks, floors) L.leveled; parents = rw ranks L.parents; jumps = rw ranks L.jumps; overs = rw ranks L.overs }

-- or seen by heads that are handed on
pub leveled_then : {patches : List Patch} {many blocks : ℕ} {levels : Leveling} → many ≡ blocks → IsLeveled patches many levels → IsLeveled patches blocks levels
leveled_then {patches = patches} {levels = levels} e L = subst (λ n. IsLeveled patches n levels) e L

pub leveled_moved : {old new : List Patch} {blocks : ℕ} {levels : Leveling} → Alike old new → IsLeveled old blocks levels → IsLeveled new blocks levels
leveled_moved {old} {new} {blocks} {levels} A L = alike_is_leveled old new A blocks levels L

-- a patch more, whose rank comes last
module _ {old : List Patch} {numbers blocks : ℕ} {levels grown : Leveling} (p : Patch) (l : ℕ) (a : Ancestry) (H : HasOnePlaceEach old numbers) (next : p.number ≡ numbers + 1)
    (given : (q : ℕ) → Contains p.dependencies q → q ≤ numbers)
    (ranks : grown.ranks ≡ levels.ranks ++ record { number = p.number; level = l; ancestry = a; hard_over = 0 } ∷ []) (floors : grown.floors ≡ levels.floors)
    (row : (q : ℕ) → Contains p.dependencies q → level_of levels.ranks q ≤ l) (few : l ≤ top_level) (under : GoesUnder old p.number p.dependencies a) (L : IsLeveled old blocks levels) where
  pub leveled_put : ((b : ℕ) → IsOn p b → floor_of levels.floors b ≤ l) → ((b : ℕ) → IsOn p b → IsHard p → l ≤ floor_of levels.floors b) → (IsOpenGate p → l ≡ top_level) → IsLeveled (old ++ p ∷ []) blocks grown
  leveled_put above below gate = leveled_as ranks floors (fresh_is_leveled old numbers blocks p H next given levels l a row above below gate few under L)

-- a change more, that rises so
module _ {old : List Patch} {numbers blocks : ℕ} {levels lifted : Leveling} (p : Stored) (rise : Rise) (met : List ℕ) (H : HasOnePlaceEach old numbers)
    (given : (q : ℕ) → Contains p.dependencies.items q → q ≤ numbers)
    (R : IsRise old levels p.block p.dependencies.items p.told.grade met rise) (L : IsLeveled old blocks lifted)
    (below : (n : ℕ) → level_of levels.ranks n ≤ rise.level → level_of lifted.ranks n ≤ rise.level)
    (up : rise.lifts ≡ true → floor_of lifted.floors p.block ≡ rise.level) (still : rise.lifts ≡ false → lifted ≡ levels) where
  floor_under : floor_of lifted.floors p.block ≤ rise.level
  floor_under = elim (cases_Bool rise.lifts) [
    | inl lifts ↦ omega (arith, up lifts)
    | inr stays ↦ let k = R.floor stays in omega (arith, k, ap (λ v. floor_of v.floors p.block) (still stays))
  ]

  floor_over : p.told.grade ≡ grade.Hard → rise.level ≤ floor_of lifted.floors p.block
  floor_over hard = elim (cases_Bool rise.lifts) [
    | inl lifts ↦ omega (arith, up lifts)
    | inr stays ↦ let k = R.hard stays hard in omega (arith, k, ap (λ v. floor_of v.floors p.block) (still stays))
  ]

  same_block : (b : ℕ) → IsOn (change_of numbers p) b → p.block ≡ b
  same_block b on = cc

  same_grade : IsHard (change_of numbers p) → p.told.grade ≡ grade.Hard
  same_grade hard = cc

  pub leveled_change : {grown : Leveling} {a : Ancestry} → GoesUnder old (numbers + 1) p.dependencies.items a → grown.ranks ≡ lifted.ranks ++ record { number = numbers + 1; level = rise.level; ancestry = a; hard_over = 0 } ∷ [] → grown.floors ≡ lifted.floors → IsLeveled (old ++ change_of numbers p ∷ []) blocks grown
  leveled_change {a = a} under ranks floors =
      leveled_put (change_of numbers p) rise.level a H refl given ranks floors (λ q c. below q (R.over q c)) R.few under L
      (λ b on. subst (λ k. floor_of lifted.floors k ≤ rise.level) (same_block b on) floor_under)
      (λ b on hard. subst (λ k. rise.level ≤ floor_of lifted.floors k) (same_block b on) (floor_over (same_grade hard)))
      (λ is_open. absurd (cc))

-- the two walks stay over the same heads and blocks, where they have more room and where both grow
pub along_as : {old new : Ends} → (new.up.walk.marks ≡ old.up.walk.marks) × (new.down.walk.marks ≡ old.down.walk.marks) → (new.up.crossed ≡ old.up.crossed) × (new.down.crossed ≡ old.down.crossed) → AreAlong old → AreAlong new
along_as marks crossed A = record { marks = ap length marks.1 ∙ (A.marks ∙ sym (ap length marks.0)); places = ap (λ v. length v.items) crossed.1 ∙ (A.places ∙ sym (ap (λ v. length v.items) crossed.0)) }

pub along_grown : {old new : Ends} → (new.up.walk.marks ≡ old.up.walk.marks ++ false ∷ []) × (new.down.walk.marks ≡ old.down.walk.marks ++ false ∷ []) → (new.up.crossed ≡ old.up.crossed) × (new.down.crossed ≡ old.down.crossed) → AreAlong old → AreAlong new
along_grown {old} marks crossed A = record {
  marks = omega (arith, ap length marks.0, ap length marks.1, length_push old.up.walk.marks false, length_push old.down.walk.marks false, A.marks);
  places = ap (λ v. length v.items) crossed.1 ∙ (A.places ∙ sym (ap (λ v. length v.items) crossed.0));
}
