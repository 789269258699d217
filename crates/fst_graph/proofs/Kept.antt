-- What calls that change places, or let a gate gain names, leave of what the fields keep.
use Rattle.std.proofs.Common.{◌≡◌, ◌<◌, ◌+◌, ◌++◌, ◌∷◌, [], ℕ, Bool, List, length, map, get_or, set, refl, sym, subst, ◌∙◌, arith, ◌⊎◌, ◌≤◌, Contains, ap, inl, inr}
use Rattle.fst_types.specs.{Cascade.IsCascadeOf, Closure.IsAcyclic, Dependencies.{DirectlyOn, DependsOn, IsLiveNumber}, Facts.SparseAreLawful, Gates.IsOpenNumber, Gating.{sealed, gains}, Lists.Lists, Making.fresh}
use Rattle.fst_types.specs.{Order.depend_order, Patches.{Change, Patch, block_of_kind}, Refusals.NoneHolds, Writable.{IsWritable, IsWritableSet}, Writing.{landed, launched}, declared.grade.Grade.Grade}
use Rattle.fst_heads.specs.{Covers.{AreCovered, Covering, IsPut}, Keeps.{Keeps}, Rows.IsSparseRow}
use Rattle.fst_types.proofs.{Alike.{Alike, back_alike, length_alike, on_back}, Depending.{length_mapped, sparse_gained}}
use Rattle.fst_types.proofs.{GateGains.{direct_cases}, Issuing.{alike_launched, sparse_launched}, Landing.{alike_landed, sparse_landed}, NewChange.no_cycle, Sealing.{alike_sealed, sparse_sealed}}
use Rattle.fst_heads.proofs.Covering.{was_gained, covered_alike, covered_put}

module _ (old new : List Patch) (A : Alike old new) where
  pub keeps_alike : (numbers blocks : ℕ) (marks marks' : List Bool) → Keeps old numbers blocks marks → SparseAreLawful new numbers → length marks' ≡ length marks → Keeps new numbers blocks marks'
  keeps_alike numbers blocks marks marks' K lawful long = record {
    lawful = lawful;
    inside = λ p b c on. let o = back_alike old new A p c in K.inside o.0 b o.1 (on_back o.0 p o.2 b on);
    marked = long ∙ (K.marked ∙ sym (length_alike old new A));
  }

-- the walks may have other marks, as many of them
pub keeps_walked : {heads : List Patch} {numbers blocks : ℕ} {marks marks' : List Bool} → length marks' ≡ length marks → Keeps heads numbers blocks marks → Keeps heads numbers blocks marks'
keeps_walked long K = record { lawful = K.lawful; inside = K.inside; marked = long ∙ K.marked }

pub keeps_sealed : (old new : List Patch) (numbers blocks g : ℕ) (marks marks' : List Bool) → Keeps old numbers blocks marks → IsOpenNumber old g → IsCascadeOf (map (sealed g) old) new → length marks' ≡ length marks → Keeps new numbers blocks marks'
keeps_sealed old new numbers blocks g marks marks' K gate cascade long =
    keeps_alike old new (alike_sealed old new numbers g K.lawful gate cascade) numbers blocks marks marks' K (sparse_sealed old new numbers g K.lawful gate cascade) long

pub keeps_landed : (old new : List Patch) (numbers blocks b : ℕ) (marks marks' : List Bool) → Keeps old numbers blocks marks → IsCascadeOf (map (landed b) old) new → length marks' ≡ length marks → Keeps new numbers blocks marks'
keeps_landed old new numbers blocks b marks marks' K cascade long =
    keeps_alike old new (alike_landed old new numbers b K.lawful cascade) numbers blocks marks marks' K (sparse_landed old new numbers b K.lawful cascade) long

pub keeps_launched : (old : List Patch) (numbers blocks b : ℕ) (chosen : List ℕ) (marks : List Bool) → Keeps old numbers blocks marks → IsWritable old b → IsWritableSet old b chosen → Keeps (map (launched chosen) old) numbers blocks marks
keeps_launched old numbers blocks b chosen marks K writable choice =
    keeps_alike old (map (launched chosen) old) (alike_launched old numbers b chosen K.lawful writable choice) numbers blocks marks marks K (sparse_launched old numbers b chosen K.lawful writable choice) refl

-- the covers, where patches moved on
pub covered_moved : {old new : List Patch} {numbers blocks : ℕ} {marks : List Bool} {covers : List Covering} → Alike old new → Keeps new numbers blocks marks → AreCovered old blocks covers → AreCovered new blocks covers
covered_moved {old} {new} {numbers} {blocks} {marks} {covers} A K C = covered_alike old new A K.lawful.on_disk_with_all K.lawful.one_place_each.rising blocks covers C

-- where a change was made
pub covered_made : {old : List Patch} {b at len : ℕ} {names row : List ℕ} {blocks : ℕ} {covers : List Covering} {own cover : Covering} (n : ℕ) (grade : Grade) → IsSparseRow old names b at len row
    → AreCovered old blocks covers → b < blocks → own ≡ get_or covers b own → IsPut own at len (n + 1) cover
    → AreCovered (old ++ fresh (n + 1) (Change b at len grade) row ∷ []) blocks (set covers b cover)
covered_made {old} {b} {at} {len} {names} {row} {blocks} {covers} {own} {cover} n grade S C inside same put =
    covered_put old (n + 1) b at len grade names row (omega arith) S blocks covers C inside own cover (subst (λ c. IsPut c at len (n + 1) cover) same put)

module _ (old : List Patch) (numbers blocks g : ℕ) (marks : List Bool) (K : Keeps old numbers blocks marks) (gate : IsOpenNumber old g)
    (names : List ℕ) (live : (n : ℕ) → Contains names n → IsLiveNumber old n) (clear : (n : ℕ) → Contains names n → (n ≡ g) ⊎ DependsOn old n g → ⊥) where
  abbrev new : List Patch
  new = map (gains g names) old

  acyclic : IsAcyclic (DirectlyOn new)
  acyclic = no_cycle (DirectlyOn old) (DirectlyOn new) g (Contains names) (direct_cases old g names) K.lawful.no_cycle (λ n c. (λ e. clear n c (inl e), λ d. clear n c (inr d)))

  small : (n : ℕ) → Contains names n → n ≤ numbers
  small n c = let l = live n c in subst (λ m. m ≤ numbers) l.numbered (K.lawful.one_place_each.numbered l.patch l.head).1

  pub keeps_gained : (marks' : List Bool) → length marks' ≡ length marks → Keeps new numbers blocks marks'
  keeps_gained marks' long = record {
    lawful = sparse_gained old numbers g names K.lawful gate small acyclic;
    inside = λ p b c on. let o = was_gained old g names p c in K.inside o.0 b o.1 (sym (ap block_of_kind o.2.kind) ∙ on);
    marked = long ∙ (K.marked ∙ sym (length_mapped (gains g names) old));
  }

-- the same, by the rules that refuse
pub keeps_depends : (heads : List Patch) (numbers blocks g : ℕ) (names on : List ℕ) (marks marks' : List Bool) → Keeps heads numbers blocks marks → IsOpenNumber heads g
    → NoneHolds (depend_order heads numbers g on)
    → Lists (λ n. IsLiveNumber heads n × Contains on n × (DirectlyOn heads g n → ⊥)) names
    → length marks' ≡ length marks
    → Keeps (map (gains g names) heads) numbers blocks marks'
keeps_depends heads numbers blocks g names on marks marks' K gate none live long =
    keeps_gained heads numbers blocks g marks K gate names (λ n c. (live.only n c).0) (λ n c r. none.1.1.1.1.1.0 (n, (live.only n c).1, r)) marks' long
