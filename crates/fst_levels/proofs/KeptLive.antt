-- The ranks of live patches, filtered in place.
use Rattle.std.proofs.Common.{◌≡◌, ◌<◌, ◌+◌, ◌∙◌, ℕ, Bool, true, false, List, map, ◌++◌, length, take, drop, filter, get_or, set, refl, sym, ap, arith}
use Rattle.std.specs.List.{prefix_len}
use Rattle.std.proofs.lemmas.List.{get_or-drop, get_or-map, get_or_default as any_default}
use Rattle.std.proofs.lemmas.List.{Filters.{FiltersInPlace, FiltersInPlace-more_no, FiltersInPlace-more_set}}
use Rattle.fst_types.specs.Tests.{is_live}
use Rattle.fst_heads.specs.{Heads.{IsRising, patch_of, patches_of}, Nodes.is_live_in, Spans.SpansDisk, declared.head.Head.Head}
use Rattle.fst_heads.proofs.{FirstOnDisk.{filters_from, first_inside, live_before, live_head, live_read}, LastOnDisk.{filtered_so_far, live_behind}, Indices.{index_here, patch_at, rising_map, some_element}}
use Rattle.fst_levels.specs.declared.levels.Rank.{Rank}
use Rattle.fst_levels.proofs.{Ranked.{rank_number, ranks_long}, RanksLeft.left_number}

-- what it comes to is as it was
as_it_was : {X : Type 0} (p : X → Bool) (xs ys : List X) (k i : ℕ) → FiltersInPlace p xs ys k i → (d : X) → get_or ys i d ≡ get_or xs i d
as_it_was {X = X} p xs ys k i h d =
    let at : (zs : List X) → get_or (drop i zs) 0 d ≡ get_or zs i d = λ zs. get_or-drop i zs 0 d ∙ ap (λ n. get_or zs n d) (omega arith) in
    sym (at ys) ∙ (ap (λ zs. get_or zs 0 d) h.rest ∙ at xs)

abbrev pub live_rank : List Head → Rank → Bool
live_rank heads r = is_live_in (patches_of heads) r.number

module _ (heads : List Head) (ranks : List Rank) (rising : IsRising heads) (aligned : map (λ r. r.number) ranks ≡ map (λ p. p.number) (patches_of heads)) where
  -- a rank stays as the head at its index does
  rank_live : (s : ℕ) (d : Head) (e : Rank) → s < length heads → live_rank heads (get_or ranks s e) ≡ live_head (get_or heads s d)
  rank_live s d e lt =
      let here = index_here heads s d lt in
      let rises = rising_map patch_of heads (λ h. h.number) (λ p. p.number) (λ h. refl) rising in
      ap (is_live_in (patches_of heads)) (rank_number heads ranks rising aligned (get_or heads s d).number s here e)
      ∙ (left_number (patches_of heads) rises (patch_of (get_or heads s d)) (patch_at heads s d lt)
      ∙ (ap is_live (sym (get_or-map patch_of heads s d (patch_of d) lt)) ∙ live_read heads s d lt))

  pub ranks_from : (first : ℕ) → first ≡ prefix_len is_live (patches_of heads) → FiltersInPlace (live_rank heads) ranks ranks first first
  ranks_from first is = filters_from (live_rank heads) ranks first (omega (arith, first_inside heads first is, ranks_long heads ranks rising aligned)) (λ i e lt.
      let inside : i < length heads = omega (arith, lt, first_inside heads first is) in
      let d = some_element heads i inside in
      rank_live i d e inside ∙ live_before heads first is i d lt)

  -- and so on the way: the head at the index tells what becomes of the rank
  module _ (rs : List Rank) (k s : ℕ) (r : FiltersInPlace (live_rank heads) ranks rs k s) (lt : s < length rs) (x : Head) (is : x ≡ get_or heads s x) where
    head_inside : s < length heads
    head_inside = omega (arith, lt, r.long, ranks_long heads ranks rising aligned)

    as_head : (y : Rank) → y ≡ get_or rs s y → live_rank heads y ≡ live_head x
    as_head y same = ap (live_rank heads) (same ∙ as_it_was (live_rank heads) ranks rs k s r y) ∙ (rank_live s x y head_inside ∙ sym (ap live_head is))

    pub rank_kept : (y : Rank) → y ≡ get_or rs s y → live_head x ≡ true → FiltersInPlace (live_rank heads) ranks (set rs k y) (k + 1) (s + 1)
    rank_kept y same live = FiltersInPlace-more_set {x = y} r lt (as_head y same ∙ live) same

    pub rank_dropped : live_head x ≡ false → FiltersInPlace (live_rank heads) ranks rs k (s + 1)
    rank_dropped dead =
        let d = some_element rs s lt in
        let y = get_or rs s d in
        let same = any_default rs s d y lt in
        FiltersInPlace-more_no {x = y} r lt (as_head y same ∙ dead) same

  -- those behind the last head on disk all stay
  pub ranks_left : (first end : ℕ) → SpansDisk (patches_of heads) first end → (rs : List Rank) (k : ℕ) → FiltersInPlace (live_rank heads) ranks rs k end
      → take k rs ++ drop end rs ≡ filter (live_rank heads) ranks
  ranks_left first end s rs k r = filtered_so_far (live_rank heads) r (λ i e le lt.
      let inside : i < length heads = omega (arith, lt, ranks_long heads ranks rising aligned) in
      let d = some_element heads i inside in
      rank_live i d e inside ∙ live_behind heads first end s i d le inside)
