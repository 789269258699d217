-- From a change across its block, to what this needs.
use Rattle.std.proofs.Common.{◌≡◌, ◌<◌, ℕ, Bool, true, false, List, Some, length, get_or, set, Contains, refl, sym, ap, subst, ◌∙◌, inl, inr, get_or-set_same, get_or-set_other}
use Rattle.std.proofs.lemmas.Bool.{cases_eq}
use Rattle.fst_types.specs.{Dependencies.IsLiveNumber, Patches.{Patch, IsOn, block_of_kind}, declared.grade.Grade.Grade}
use Rattle.fst_heads.specs.{Heads.{IsRising, kind_of, patch_of, patches_of}, Indices.{HasIndex, PassesAt}}
use Rattle.fst_heads.specs.{Reaching.IsReached, declared.head.Head.Head, declared.head.Kind.Kind}
use Rattle.fst_heads.proofs.{Graded.{on_from, on_to}, Leading.{reached_more}, Indices.{patch_at, patch_is}}
use Rattle.fst_walks.specs.{Descending.Visits, BothEnds.{CrossesDown, IsNeed, ShowsBlockUnder}}
use Rattle.fst_walks.proofs.Visiting.{visits_none}
use Rattle.fst_heads.specs.declared.head.Kind.TheVariants as kinds
use Rattle.fst_heads.specs.declared.test.Test.TheVariants as test
use Rattle.fst_types.proofs.Numbers.{one_block}

module _ (heads : List Head) (rising : IsRising heads) (needs : ℕ → List ℕ) (n s : ℕ) (d : Head) (index : HasIndex heads n s) (live : IsLiveNumber (patches_of heads) n) where
  abbrev patches : List Patch
  patches = patches_of heads

  abbrev here : Patch
  here = patch_of (get_or heads s d)

  is_here : (p : Patch) → Contains patches p → p.number ≡ n → here ≡ p
  is_here p h e = patch_is heads p s d rising h (subst (λ m. HasIndex heads m s) (sym e) index)

  -- the block of what is there, if it is a change
  pub on_here : (c : ℕ) → PassesAt (test.LiveOn c) patches n → IsOn here c
  on_here c x = subst (λ p. IsOn p c) (sym (is_here x.patch x.head x.numbered)) (on_from c x.patch.number x.patch.kind x.patch.place x.passed).1

  pub here_on : (c : ℕ) → IsOn here c → PassesAt (test.LiveOn c) patches n
  here_on c on = record {
    patch = here;
    head = patch_at heads s d index.0;
    numbered = index.1 d;
    passed = on_to c here.number here.kind here.place (λ e. live.live (sym (ap (λ p. p.place) (is_here live.patch live.head live.numbered)) ∙ e)) on;
  }

  -- it is a change of b
  module _ (b : ℕ) (on : IsOn here b) (crossed : List Bool) where
    same_block : (c : ℕ) → PassesAt (test.LiveOn c) patches n → c ≡ b
    same_block c x = one_block here c b (on_here c x) on

    pub crosses_from : (q : ℕ) → (IsReached crossed b → ⊥) → IsNeed patches needs b q → CrossesDown patches needs crossed n q
    crosses_from q fresh need = record { block = b; change = here_on b on; fresh = fresh; need = need }

    pub crosses_to : (q : ℕ) → CrossesDown patches needs crossed n q → (IsReached crossed b → ⊥) × IsNeed patches needs b q
    crosses_to q x = let e = same_block x.block x.change in (subst (λ c. IsReached crossed c → ⊥) e x.fresh, subst (λ c. IsNeed patches needs c q) e x.need)

    pub shows_more : b < length crossed → ShowsBlockUnder patches n crossed (set crossed b true)
    shows_more inside = record {
      kept = λ c r. reached_more crossed b c inside r;
      only = λ c r. elim (cases_eq c b) [
        | inl e ↦ inr (here_on c (subst (IsOn here) (sym e) on))
        | inr ne ↦ inl (sym (get_or-set_other crossed b c true false ne) ∙ r)
      ];
      each = λ c x. subst (IsReached (set crossed b true)) (sym (same_block c x)) (get_or-set_same crossed b true false inside);
    }

    pub shows_same : IsReached crossed b → ShowsBlockUnder patches n crossed crossed
    shows_same shown = record { kept = λ c r. r; only = λ c r. inl r; each = λ c x. subst (IsReached crossed) (sym (same_block c x)) shown }

  -- it is none
  module _ (none : (c : ℕ) → IsOn here c → ⊥) (crossed : List Bool) where
    pub crosses_none : (P : ℕ → Type 0) (queue : List ℕ) → Visits (λ q. CrossesDown patches needs crossed n q × P q) queue queue
    crosses_none P queue = visits_none (λ q. CrossesDown patches needs crossed n q × P q) queue (λ q x. absurd (none x.0.block (on_here x.0.block x.0.change)))

    pub shows_none : ShowsBlockUnder patches n crossed crossed
    shows_none = record { kept = λ c r. r; only = λ c r. inl r; each = λ c x. absurd (none c (on_here c x)) }

-- what is no change is on no block
pub no_change : (k : Kind) → ((grade : Grade) (block : ℕ) (span : _) → k ≡ kinds.Change grade block span → ⊥) → (c : ℕ) → block_of_kind (kind_of k) ≡ Some c → ⊥
no_change (kinds.Change grade block span) none c e = none grade block span refl
no_change kinds.Empty none c e = cc
no_change kinds.OpenGate none c e = cc
no_change kinds.SealedGate none c e = cc
