-- What landing leaves of the changes of each block: on the others all, and on its own those in memory.
use Rattle.std.proofs.lemmas.Option.{same_Some}
use Rattle.std.proofs.Common.{◌≡◌, ◌≢◌, ℕ, Bool, true, false, List, map, filter, refl, sym, subst, ◌∙◌, inl, inr, arith}
use Rattle.std.specs.Prelude.{◌&&◌}
use Rattle.fst_types.specs.declared.place.Place.{Place}
use Rattle.fst_types.specs.declared.place.Place.TheVariants as place
use Rattle.fst_types.specs.Patches.{Patch, IsOn}
use Rattle.fst_types.specs.Tests.{is_on, is_live, is_change_at}
use Rattle.fst_types.specs.Counts.{is_dirty}
use Rattle.fst_types.specs.Cascade.{IsCascadeOf}
use Rattle.fst_types.specs.Writing.{landed}
use Rattle.fst_types.proofs.Writes.{same_test}
use Rattle.fst_types.proofs.Landing.{change_at, landed_cases}
use Rattle.fst_cache.specs.Kept.{block_patch}
use Rattle.fst_cache.proofs.SameCascade.{IsStill, still_self, lives_on, filter_mapped, changes_unmoved, dirty_unmoved, dirty_mapped}
use Rattle.fst_types.proofs.Numbers.{flight_disk, memory_flight}

left_true : (x y : Bool) → (x && y) ≡ true → x ≡ true
left_true true y e = refl
left_true false y e = cc

disk_dead : (p : Patch) → p.place ≡ place.Disk → is_live p ≡ true → ⊥
disk_dead p d l = grind (arith, d, l)

disk_memory : (p : Place) → p ≡ place.Disk → p ≡ place.Memory → ⊥
disk_memory p a b = cc

-- a patch of block b that lands
module _ (b : ℕ) (o : Patch) (on : IsOn o b) (fly : o.place ≡ place.Flight) where
  abbrev down : Patch
  down = record o { place = place.Disk }

  memory_down : (j : ℕ) → is_change_at place.Memory j down ≡ is_change_at place.Memory j o
  memory_down j =
      same_test (is_change_at place.Memory j down) (is_change_at place.Memory j o)
      (λ e. absurd (disk_memory down.place refl (change_at place.Memory j down e).1))
      (λ e. absurd (memory_flight o.place (change_at place.Memory j o e).1 fly))

  flight_down : (j : ℕ) → j ≢ b → is_change_at place.Flight j down ≡ is_change_at place.Flight j o
  flight_down j other =
      same_test (is_change_at place.Flight j down) (is_change_at place.Flight j o)
      (λ e. absurd (flight_disk down.place (change_at place.Flight j down e).1 refl))
      (λ e. absurd (other (same_Some j b (sym (change_at place.Flight j o e).0 ∙ on))))

  live_down : (j : ℕ) → lives_on j down ≡ true → lives_on j o ≡ true
  live_down j e = absurd (disk_dead down refl (left_true (is_live down) (is_on j down.kind) e))

-- another block asks nothing of what lands
pub still_landed : (b j : ℕ) → j ≢ b → (p : Patch) → IsStill j p (landed b p)
still_landed b j other p =
    elim (landed_cases b p) [
      | inl m ↦ subst (IsStill j p) (sym m.2) (record {
        number = refl;
        memory = memory_down b p m.0 m.1 j;
        flight = flight_down b p m.0 m.1 j other;
        live = live_down b p m.0 m.1 j;
        patch = λ contents. refl;
      })
      | inr s ↦ subst (IsStill j p) (sym s.0) (still_self j p)
    ]

-- what the block itself asks of a patch but for its flight
record IsHere (b : ℕ) (o p : Patch) : Type 0 where
  memory : is_change_at place.Memory b p ≡ is_change_at place.Memory b o
  live : lives_on b p ≡ true → lives_on b o ≡ true
  patch : (contents : List (ℕ × List ℕ)) → block_patch contents p ≡ block_patch contents o

here_landed : (b : ℕ) (p : Patch) → IsHere b p (landed b p)
here_landed b p =
    elim (landed_cases b p) [
      | inl m ↦ subst (IsHere b p) (sym m.2) (record { memory = memory_down b p m.0 m.1 b; live = live_down b p m.0 m.1 b; patch = λ contents. refl })
      | inr s ↦ subst (IsHere b p) (sym s.0) (record { memory = refl; live = λ e. e; patch = λ contents. refl })
    ]

module _ (b : ℕ) (old new : List Patch) (cascade : IsCascadeOf (map (landed b) old) new) where
  -- the changes in memory of the block that landed, as it keeps them
  pub memory_landed : (contents : List (ℕ × List ℕ)) → map (block_patch contents) (filter (is_change_at place.Memory b) new) ≡ map (block_patch contents) (filter (is_change_at place.Memory b) old)
  memory_landed contents =
      rw (changes_unmoved (map (landed b) old) new cascade.same place.Memory b)
      (filter_mapped (landed b) (is_change_at place.Memory b) (is_change_at place.Memory b) (block_patch contents) (block_patch contents) old (λ p h. (here_landed b p).memory) (λ p h. (here_landed b p).patch contents))

  pub dirty_landed : is_dirty new b ≡ true → is_dirty old b ≡ true
  dirty_landed e = dirty_mapped (landed b) b old (λ p h. (here_landed b p).live) (sym (dirty_unmoved (map (landed b) old) new cascade.same b) ∙ e)
