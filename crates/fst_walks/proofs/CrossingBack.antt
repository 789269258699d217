-- From a hard change in memory across its block to all changes of it that are not on disk.
use Rattle.std.proofs.Common.{◌≡◌, ◌<◌, ℕ, Bool, true, false, List, length, get_or, set, Some, refl, sym, subst, ◌∙◌, inl, inr, get_or-set_same, get_or-set_other}
use Rattle.std.proofs.lemmas.Bool.{cases_eq}
use Rattle.fst_types.specs.{Dependencies.{IsLiveNumber}, Patches.{Patch, IsLive, block_of_kind}}
use Rattle.fst_heads.specs.{Grading.IsHardNumber, Heads.{IsRising, patch_of, patches_of}}
use Rattle.fst_heads.specs.{Indices.{HasIndex, PassesAt}, Reaching.{IsReached}}
use Rattle.fst_heads.specs.{declared.head.Head.Head, declared.head.Kind.{Kind as HeadKind}, Heads.kind_of}
use Rattle.fst_types.specs.declared.grade.Grade.{Grade}
use Rattle.fst_heads.specs.declared.head.Kind.TheVariants as kinds
use Rattle.fst_heads.proofs.{Leading.{reached_more, same_patch}}
use Rattle.fst_walks.specs.{BothEnds.IsOffDisk, Descending.Visits}
use Rattle.fst_levels.specs.WayBack.{Crosses, ShowsBlockOf}
use Rattle.fst_walks.proofs.Visiting.{visits_none}
use Rattle.fst_heads.specs.declared.test.Test.TheVariants as test
use Rattle.fst_types.proofs.Numbers.{one_block}
use Rattle.fst_levels.proofs.Above.{hard_on_here}

-- the head at an index tells whether its number is that of a hard change of b in memory
module _ (heads : List Head) (rising : IsRising heads) (n s : ℕ) (d : Head) (index : HasIndex heads n s) where
  abbrev patches : List Patch
  patches = patches_of heads

  abbrev here : Patch
  here = patch_of (get_or heads s d)

  -- it is a hard change of b
  module _ (b : ℕ) (hard : IsHardNumber patches b n) (crossed : List Bool) where
    same_block : (c : ℕ) → IsHardNumber patches c n → c ≡ b
    same_block c x = one_block here c b (hard_on_here heads rising n s d index c x).change (hard_on_here heads rising n s d index b hard).change

    pub crosses_from : (q : ℕ) → (IsReached crossed b → ⊥) → PassesAt (test.LiveOn b) patches q → Crosses patches crossed n q
    crosses_from q fresh change = record { block = b; hard = hard; fresh = fresh; change = change }

    pub crosses_to : (q : ℕ) → Crosses patches crossed n q → (IsReached crossed b → ⊥) × PassesAt (test.LiveOn b) patches q
    crosses_to q x = let e = same_block x.block x.hard in (subst (λ c. IsReached crossed c → ⊥) e x.fresh, subst (λ c. PassesAt (test.LiveOn c) patches q) e x.change)

    pub shows_more : b < length crossed → ShowsBlockOf patches n crossed (set crossed b true)
    shows_more inside = record {
      kept = λ c r. reached_more crossed b c inside r;
      only = λ c r. elim (cases_eq c b) [
        | inl e ↦ inr (subst (λ k. IsHardNumber patches k n) (sym e) hard)
        | inr ne ↦ inl (sym (get_or-set_other crossed b c true false ne) ∙ r)
      ];
      each = λ c x. subst (IsReached (set crossed b true)) (sym (same_block c x)) (get_or-set_same crossed b true false inside);
    }

    pub shows_same : IsReached crossed b → ShowsBlockOf patches n crossed crossed
    shows_same shown = record { kept = λ c r. r; only = λ c r. inl r; each = λ c x. subst (IsReached crossed) (sym (same_block c x)) shown }

-- it is none
module _ (patches : List Patch) (n : ℕ) (none : (c : ℕ) → IsHardNumber patches c n → ⊥) (crossed : List Bool) where
  pub crosses_none : (queue : List ℕ) → Visits (Crosses patches crossed n) queue queue
  crosses_none queue = visits_none (Crosses patches crossed n) queue (λ q x. absurd (none x.block x.hard))

  pub shows_none : ShowsBlockOf patches n crossed crossed
  shows_none = record { kept = λ c r. r; only = λ c r. inl r; each = λ c x. absurd (none c x) }

-- what is no change is on no block
pub no_change : (k : HeadKind) → ((grade : Grade) (block : ℕ) (span : _) → k ≡ kinds.Change grade block span → ⊥) → (c : ℕ) → block_of_kind (kind_of k) ≡ Some c → ⊥
no_change (kinds.Change grade block span) none c e = none grade block span refl
no_change kinds.Empty none c e = cc
no_change kinds.OpenGate none c e = cc
no_change kinds.SealedGate none c e = cc

-- a patch with the number of one that is not on disk is not on disk
pub off_disk : (heads : List Head) → IsRising heads → (n : ℕ) → IsLiveNumber (patches_of heads) n → IsOffDisk (patches_of heads) n
off_disk heads rising n l p h e = subst IsLive (same_patch heads l.patch p rising l.head h (l.numbered ∙ sym e)) l.live
