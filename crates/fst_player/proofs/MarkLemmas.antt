-- Marks of the blocks of a list, as it is gone through.
use Rattle.std.proofs.Common.{◌≡◌, ℕ, ◌+◌, ◌<◌, ◌≤◌, Bool, true, false, List, [], ◌∷◌, length, take, set, get_or, refl, sym, ap, ◌∙◌, inl, inr, arith}
use Rattle.std.specs.Prelude.{◌==◌, ◌||◌, replicate}
use Rattle.std.proofs.lemmas.Bool.Decides.{eqb_tells}
use Rattle.std.proofs.lemmas.List.{take_more, map-append, get_or-replicate, get_or-set_other}
use Rattle.std.proofs.lemmas.List.Folds.{list_any-append}
use Rattle.std.proofs.lemmas.Grind.{get_or-set_at}
use Rattle.fst_types.specs.declared.number.BlockNo.{BlockNo}
use Rattle.fst_types.specs.Tests.{is_among}
use Rattle.fst_lines.specs.Parsing.{block_numbers}
use Rattle.fst_player.specs.Marks.{AreMarks}

-- at first there are no marks
pub none_marked : (n : ℕ) → (b : ℕ) → b < n → get_or (replicate n false) b false ≡ false
none_marked n b lt = get_or-replicate n b false false lt

or_true : (a : Bool) → (a || true) ≡ true
or_true true = refl
or_true false = refl

or_false : (a : Bool) → (a || false) ≡ a
or_false true = refl
or_false false = refl

module _ (blocks : List BlockNo) (i : ℕ) (d : BlockNo) (lt : i < length blocks) where
  -- the block that is met
  abbrev met : ℕ
  met = (get_or blocks i d).0

  among_more : (b : ℕ) → is_among (block_numbers (take (i + 1) blocks)) b ≡ (is_among (block_numbers (take i blocks)) b || (met == b || false))
  among_more b =
      ap (λ l. is_among (block_numbers l) b) (take_more blocks i d lt)
      ∙ (ap (λ l. is_among l b) (map-append (λ (y : BlockNo). y.0) (take i blocks) (get_or blocks i d ∷ [])) ∙ list_any-append (λ m. m == b) (block_numbers (take i blocks)) (met ∷ []))

  among_here : (b : ℕ) → (met == b) ≡ true → is_among (block_numbers (take (i + 1) blocks)) b ≡ true
  among_here b h = among_more b ∙ (ap (λ t. is_among (block_numbers (take i blocks)) b || (t || false)) h ∙ or_true (is_among (block_numbers (take i blocks)) b))

  among_same : (b : ℕ) → (met == b) ≡ false → is_among (block_numbers (take (i + 1) blocks)) b ≡ is_among (block_numbers (take i blocks)) b
  among_same b h = among_more b ∙ (ap (λ t. is_among (block_numbers (take i blocks)) b || (t || false)) h ∙ or_false (is_among (block_numbers (take i blocks)) b))

  -- it was marked
  pub one_marked : (marks : List Bool) → met < length marks → AreMarks marks (block_numbers (take i blocks)) → AreMarks (set marks met true) (block_numbers (take (i + 1) blocks))
  one_marked marks inside m b below =
      elim (eqb_tells met b) [
        | inl same ↦ get_or-set_at marks met b true false (sym same.1) inside ∙ sym (among_here b same.0)
        | inr other ↦ get_or-set_other marks met b true false (λ e. other.1 (sym e)) ∙ (m b below ∙ sym (among_same b other.0))
      ]

  -- it has no mark
  pub past_marked : (marks : List Bool) → 4096 ≤ met → AreMarks marks (block_numbers (take i blocks)) → AreMarks marks (block_numbers (take (i + 1) blocks))
  past_marked marks past m b below =
      elim (eqb_tells met b) [
        | inl same ↦ let e = same.1 in absurd (omega (arith, below, past, e))
        | inr other ↦ m b below ∙ sym (among_same b other.0)
      ]
