-- One head more at another level, with the floor of its block, and all that were met.
use Rattle.std.proofs.Common.{◌≡◌, ◌≢◌, ◌<◌, ◌⊎◌, ◌&&◌, ◌++◌, ◌∷◌, ◌∙◌, [], ℕ, List, length, map, get_or, Contains, sym, ap, subst, inl, inr}
use Rattle.std.proofs.lemmas.Bool.{cases_Bool, cases_eq, false≢true}
use Rattle.std.proofs.lemmas.List.{Elements.{Contains-push, Contains-push_cases, Contains-append_left}}
use Rattle.fst_heads.specs.{Grading.IsHardNumber, Heads.{IsRising, kind_of, patch_of, patches_of}, Indices.HasIndex, Reaching.IsHardIn, Tests.is_hard_kind, declared.head.Head.Head}
use Rattle.fst_heads.proofs.Indices.{patch_at, some_element}
use Rattle.fst_levels.specs.{Leveling.{Leveling, level_of, floor_of, unleveled}, Lifting.IsLifted, Walks.number_at, declared.levels.Rank.Rank}
use Rattle.fst_levels.proofs.{Above.hard_on_here, NearRow.{hard_here, here_hard}, Ranked.{no_rank, rank_number}, MetNumbers.index_at}
use Rattle.fst_types.specs.{Patches.Patch, Tests.is_change_at}
use Rattle.fst_types.proofs.SmallStates.{only_in}
use Rattle.fst_types.specs.declared.place.Place.TheVariants as place

-- the only number of a list of one
module _ (heads : List Head) (rising : IsRising heads) (s : ℕ) (lt : s < length heads) (to : ℕ) (old new : Leveling)
    (aligned : map (λ r. r.number) old.ranks ≡ map (λ p. p.number) (patches_of heads))
    (numbers : map (λ r. r.number) new.ranks ≡ map (λ r. r.number) old.ranks) (long : length new.floors ≡ length old.floors) (room : new.room ≡ old.room)
    (raised : (d : Rank) → level_of new.ranks (get_or old.ranks s d).number ≡ to)
    (beside : map unleveled new.ranks ≡ map unleveled old.ranks)
    (rest : (d : Rank) (n : ℕ) → n ≢ (get_or old.ranks s d).number → level_of new.ranks n ≡ level_of old.ranks n)
    (here : Head) (is_here : here ≡ get_or heads s here)
    (floor_raised : (c : ℕ) → IsHardIn (patch_of here) c → floor_of new.floors c ≡ to)
    (floor_rest : (c : ℕ) → (IsHardIn (patch_of here) c → ⊥) → floor_of new.floors c ≡ floor_of old.floors c) where
  abbrev n : ℕ
  n = number_at heads s

  own : (get_or old.ranks s no_rank).number ≡ n
  own = rank_number heads old.ranks rising aligned n s (index_at heads s lt) no_rank

  hard_one : (c m : ℕ) → m ≡ n → IsHardNumber (patches_of heads) c m → IsHardIn (patch_of here) c
  hard_one c m e h = subst (λ (x : Head). IsHardIn (patch_of x) c) (sym is_here) (hard_on_here heads rising n s here (index_at heads s lt) c (subst (IsHardNumber (patches_of heads) c) e h))

  one_hard : (c : ℕ) → IsHardIn (patch_of here) c → IsHardNumber (patches_of heads) c n
  one_hard c h = record {
    patch = patch_of (get_or heads s here);
    head = patch_at heads s here lt;
    numbered = (index_at heads s lt).1 here;
    hard = subst (λ (x : Head). IsHardIn (patch_of x) c) is_here h;
  }

  pub lifted_one : IsLifted (patches_of heads) (n ∷ []) to old new
  lifted_one = record {
    numbers = numbers;
    long = long;
    room = room;
    raised = λ m c. ap (level_of new.ranks) (sym (only_in n m c) ∙ sym own) ∙ raised no_rank;
    rest = λ m none. rest no_rank m (λ e. none (subst (Contains (n ∷ [])) (sym (e ∙ own)) (Contains-push [] n)));
    beside = beside;
    floors = λ c m k h. floor_raised c (hard_one c m (sym (only_in n m k)) h);
    other_floors = λ c none. floor_rest c (λ h. none n (Contains-push [] n) (one_hard c h));
  }

-- whether a head is a hard change of c in memory
pub hard_told : (heads : List Head) → IsRising heads → (n s : ℕ) → HasIndex heads n s → (c : ℕ) → IsHardNumber (patches_of heads) c n ⊎ (IsHardNumber (patches_of heads) c n → ⊥)
hard_told heads rising n s index c =
    let d = some_element heads s index.0 in
    elim (cases_Bool (is_change_at place.Memory c (patch_of (get_or heads s d)) && is_hard_kind (kind_of (get_or heads s d).kind))) [
      | inl is ↦ inl (hard_here heads rising n s d index c is)
      | inr not ↦ inr (λ h. false≢true (sym not ∙ here_hard heads rising n s d index c h))
    ]

-- what was met, and one more
pub lifted_more : (heads : List Patch) (met : List ℕ) (n to : ℕ) (old mid new : Leveling) → ((c : ℕ) → IsHardNumber heads c n ⊎ (IsHardNumber heads c n → ⊥)) → IsLifted heads met to old mid → IsLifted heads (n ∷ []) to mid new → IsLifted heads (met ++ n ∷ []) to old new
lifted_more heads met n to old mid new told A B = record {
  numbers = B.numbers ∙ A.numbers;
  long = B.long ∙ A.long;
  room = B.room ∙ A.room;
  raised = λ m c. elim (was m) [
    | inl now ↦ B.raised m now
    | inr before ↦ elim (Contains-push_cases met n m c) [ inl old ↦ B.rest m before ∙ A.raised m old | inr e ↦ absurd (before (subst (Contains (n ∷ [])) e (Contains-push [] n))) ]
  ];
  rest = λ m none. B.rest m (λ c. none (pushed m c)) ∙ A.rest m (λ c. none (Contains-append_left met (n ∷ []) m c));
  beside = B.beside ∙ A.beside;
  floors = λ c m k h. elim (told c) [
    | inl own ↦ B.floors c n (Contains-push [] n) own
    | inr not ↦ elim (Contains-push_cases met n m k) [
      | inl old ↦ B.other_floors c (λ x y z. not (subst (IsHardNumber heads c) (sym (only_in n x y)) z)) ∙ A.floors c m old h
      | inr e ↦ absurd (not (subst (IsHardNumber heads c) (sym e) h))
    ]
  ];
  other_floors = λ c none. B.other_floors c (λ m k h. none m (pushed m k) h) ∙ A.other_floors c (λ m k h. none m (Contains-append_left met (n ∷ []) m k) h);
}
  where
    pushed : (m : ℕ) → Contains (n ∷ []) m → Contains (met ++ n ∷ []) m
    pushed m c = subst (Contains (met ++ n ∷ [])) (only_in n m c) (Contains-push met n)

    was : (m : ℕ) → Contains (n ∷ []) m ⊎ (Contains (n ∷ []) m → ⊥)
    was m = elim (cases_eq m n) [ inl e ↦ inl (subst (Contains (n ∷ [])) (sym e) (Contains-push [] n)) | inr other ↦ inr (λ c. other (sym (only_in n m c))) ]
