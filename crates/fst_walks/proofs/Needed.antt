-- A walk down that crosses a block to what this needs meets a change of a block wherever one that crosses to all hard changes of it would.
use Rattle.std.proofs.Common.{◌≡◌, ◌≢◌, ◌⊎◌, ℕ, Bool, List, Some, Contains, refl, sym, ap, subst, ◌∙◌, inl, inr}
use Rattle.std.proofs.lemmas.Bool.{cases_eq}
use Rattle.fst_types.specs.{Closure.{Closure, one, join}, Dependencies.{DirectlyOn, DependsOn, IsLiveNumber, Needs}, Facts.{FlightsStandAlone, IsInFlightOn, IsOnDiskWithAll}}
use Rattle.fst_types.specs.{Patches.{Patch, Kind, Change, Empty, OpenGate, SealedGate, IsOn, IsRising, block_of_kind, grade_of_kind}, declared.place.Place.Place}
use Rattle.fst_types.specs.declared.grade.Grade.TheVariants as grade
use Rattle.fst_types.proofs.Crash.{same_number}
use Rattle.fst_heads.specs.{Grading.IsHardNumber, Indices.PassesAt, Reaching.{IsHardIn, IsReached, ShowsBlocks}}
use Rattle.fst_heads.proofs.{Graded.{off_to, on_to}}
use Rattle.fst_walks.specs.{BothEnds.{CrossesDown, GoesBelow}, Descending.IsLedFrom}
use Rattle.fst_levels.specs.Needing.{AreNeeded, IsHardAt, IsSpared, StaysOn}
use Rattle.fst_levels.proofs.{ComesBack.{live_number, live_on}, Holding.live_up}
use Rattle.fst_types.specs.declared.place.Place.TheVariants as place
use Rattle.fst_heads.specs.declared.test.Test.TheVariants as test
use Rattle.fst_types.proofs.Numbers.{one_block}

-- from the change p, which is not on disk, to a hard change q in memory of the same block, which is not shown as crossed
pub record CrossesToHard (patches : List Patch) (crossed : List Bool) (p q : ℕ) : Type 0 where
  pub block : ℕ
  pub change : PassesAt (test.LiveOn block) patches p
  pub fresh : IsReached crossed block → ⊥
  pub hard : IsHardNumber patches block q

-- a step down: to a direct dependency that is not on disk, or across a block
abbrev pub StepsWhole : List Patch → List Bool → ℕ → ℕ → Type 0
StepsWhole patches crossed p q = (DirectlyOn patches p q × IsLiveNumber patches q) ⊎ CrossesToHard patches crossed p q

-- so does each way down to what is not on disk
pub live_whole : (patches : List Patch) → IsOnDiskWithAll patches → (crossed : List Bool) → (p q : ℕ) → DependsOn patches p q → IsLiveNumber patches q → Closure (StepsWhole patches crossed) p q
live_whole patches disk crossed p q (one d) live = one (inl (d, live))
live_whole patches disk crossed p q (join {q = k} c d) live = join (live_whole patches disk crossed p k c (live_up patches disk k q d live)) (live_whole patches disk crossed k q d live)

-- a step down, however low it leads: to a direct dependency that is not on disk, or across a block to what this needs
abbrev pub StepsDown : List Patch → (ℕ → List ℕ) → List Bool → ℕ → ℕ → Type 0
StepsDown patches needs crossed p q = (GoesBelow patches p × DirectlyOn patches p q × IsLiveNumber patches q) ⊎ CrossesDown patches needs crossed p q

-- whether what is of that kind and at that place is a hard change in memory is known
hard_kind_or : (k : Kind) (at : Place) → ((c : ℕ) × (block_of_kind k ≡ Some c) × (at ≡ place.Memory) × (grade_of_kind k ≡ Some grade.Hard)) ⊎ ((c : ℕ) → block_of_kind k ≡ Some c → at ≡ place.Memory → grade_of_kind k ≡ Some grade.Hard → ⊥)
hard_kind_or (Change b from len grade.Hard) place.Memory = inl (b, refl, refl, refl)
hard_kind_or (Change b from len grade.Hard) place.Flight = inr (λ c on memory hard. cc)
hard_kind_or (Change b from len grade.Hard) place.Disk = inr (λ c on memory hard. cc)
hard_kind_or (Change b from len grade.Soft) at = inr (λ c on memory hard. cc)
hard_kind_or Empty at = inr (λ c on memory hard. cc)
hard_kind_or OpenGate at = inr (λ c on memory hard. cc)
hard_kind_or SealedGate at = inr (λ c on memory hard. cc)

-- and so of a patch
hard_or : (patches : List Patch) → IsRising patches → (p : Patch) (n : ℕ) → Contains patches p → p.number ≡ n → ((c : ℕ) × IsHardNumber patches c n) ⊎ GoesBelow patches n
hard_or patches rising p n head numbered = elim (hard_kind_or p.kind p.place) [
  | inl k ↦ inl (k.0, record { patch = p; head = head; numbered = numbered; hard = record { change = k.1; memory = k.2; hard = k.3 } })
  | inr none ↦ inr (λ c h.
      let same = same_number patches h.patch p rising h.head head (h.numbered ∙ sym numbered) in
      let hard = subst (λ x. IsHardIn x c) same h.hard in
      none c hard.change hard.memory hard.hard)
]

module _ (patches : List Patch) (rising : IsRising patches) (disk : IsOnDiskWithAll patches) (flights : FlightsStandAlone patches) (needs : ℕ → List ℕ) (needed : AreNeeded patches needs)
    (b : ℕ) (crossed : List Bool) (shown : ShowsBlocks crossed (λ c. c ≡ b)) where
  abbrev Down : ℕ → ℕ → Type 0
  Down = StepsDown patches needs crossed

  abbrev Whole : ℕ → ℕ → Type 0
  Whole = StepsWhole patches crossed

  -- each step is one of these, or two
  pub step_whole : (p q : ℕ) → Down p q → Closure Whole p q
  step_whole p q (inl d) = one (inl (d.1, d.2))
  step_whole p q (inr k) =
      let n = needed.named k.block q k.need.0 in
      let live = k.need.1 in
      let over : CrossesToHard patches crossed p n.0 = record { block = k.block; change = k.change; fresh = k.fresh; hard = n.1.hard } in
      join (one (inr over)) (live_whole patches disk crossed n.0 q (n.1.depends live.patch live.head live.numbered) live)

  pub steps_whole : (p q : ℕ) → Closure Down p q → Closure Whole p q
  steps_whole p q (one s) = step_whole p q s
  steps_whole p q (join {q = k} c d) = join (steps_whole p k c) (steps_whole k q d)

  module _ (start : List ℕ) where
    abbrev IsMet : ℕ → Type 0
    IsMet = IsLedFrom Down start

    met_on : (p q : ℕ) → IsMet p → Down p q → IsMet q
    met_on p q (inl c) s = inr (p, c, one s)
    met_on p q (inr r) s = inr (r.0, r.1, join r.2 (one s))

    -- a change of block d was met
    abbrev IsCrossed : ℕ → Type 0
    IsCrossed d = (y : ℕ) × IsMet y × PassesAt (test.LiveOn d) patches y

    -- all changes at or below p that are not on disk are of block d
    abbrev LeavesNot : ℕ → ℕ → Type 0
    LeavesNot d p = (c q : ℕ) → (p ≡ q) ⊎ DependsOn patches p q → PassesAt (test.LiveOn c) patches q → c ≡ d

    -- p was met, or what leads on from it leads on from what was
    data IsTold (p : ℕ) : Type 0 where
      met : IsMet p → IsTold p
      hard : (d : ℕ) → IsCrossed d → IsHardNumber patches d p → IsTold p
      stays : (d : ℕ) → IsCrossed d → LeavesNot d p → IsTold p

    -- what flies of a block stays there
    flying_stays : (d p : ℕ) → IsHardAt patches place.Flight d p → LeavesNot d p
    flying_stays d p h c q way x =
        let k = live_on patches rising b c q x in
        let f : IsInFlightOn patches d h.patch = record { head = h.head; change = h.change; flight = h.place } in
        elim way [
          | inl e ↦
              let same = same_number patches x.patch h.patch rising x.head h.head (x.numbered ∙ (sym e ∙ sym h.numbered)) in
              one_block h.patch c d (subst (λ v. IsOn v c) same k.1) h.change
          | inr low ↦
              let n : Needs patches h.patch.number x.patch c = record { head = x.head; change = k.1; depends = subst (DependsOn patches h.patch.number) (sym x.numbered) (subst (λ m. DependsOn patches m q) (sym h.numbered) low) } in
              elim (flights.needs d h.patch f x.patch c n) [
                | inl disk ↦ absurd (k.0 disk)
                | inr fly ↦ one_block x.patch c d k.1 fly.change
              ]
        ]

    -- and so does what is spared for that
    spared_stays : (d p : ℕ) → StaysOn patches d p → LeavesNot d p
    spared_stays d p s c q way x = elim (cases_eq c d) [
      | inl same ↦ same
      | inr other ↦
          let k = live_on patches rising b c q x in
          let off : PassesAt (test.LiveOff d) patches q = record { patch = x.patch; head = x.head; numbered = x.numbered; passed = off_to d x.patch.number c x.patch.kind x.patch.place k.0 k.1 other } in
          absurd (s.own (elim way [ inl e ↦ inl (subst (PassesAt (test.LiveOff d) patches) (sym e) off) | inr low ↦ inr (q, low, off) ]))
    ]

    told_hard : (at : Place) (d q : ℕ) → IsHardAt patches at d q → IsLiveNumber patches q → IsCrossed d → IsTold q
    told_hard place.Memory d q h live x = hard d x (record { patch = h.patch; head = h.head; numbered = h.numbered; hard = record { change = h.change; memory = h.place; hard = h.hard } })
    told_hard place.Flight d q h live x = stays d x (flying_stays d q h)
    told_hard place.Disk d q h live x = absurd (live.live (ap (λ p. p.place) (same_number patches live.patch h.patch rising live.head h.head (live.numbered ∙ sym h.numbered)) ∙ h.place))

    -- a hard change at the place of one that is not on disk is not on disk
    live_at : (at : Place) (d q n : ℕ) → IsHardAt patches at d q → IsLiveNumber patches q → IsHardAt patches at d n → PassesAt (test.LiveOn d) patches n
    live_at at d q n h live o =
        let same = same_number patches live.patch h.patch rising live.head h.head (live.numbered ∙ sym h.numbered) in
        record {
          patch = o.patch;
          head = o.head;
          numbered = o.numbered;
          passed = on_to d o.patch.number o.patch.kind o.patch.place (λ e. live.live (ap (λ p. p.place) same ∙ (h.place ∙ (sym o.place ∙ e)))) o.change;
        }

    -- what a block needs was met once a change of it was
    crossed_on : (d n : ℕ) → d ≢ b → IsCrossed d → Contains (needs d) n → IsLiveNumber patches n → IsMet n
    crossed_on d n other x kept live = met_on x.0 n x.1 (inr (record { block = d; change = x.2; fresh = λ r. other (shown.only d r); need = (kept, live) }))

    -- below a hard change in memory of a block of which a change was met
    below_hard : (p q : ℕ) → DirectlyOn patches p q → IsLiveNumber patches q → (e : ℕ) → IsCrossed e → IsHardNumber patches e p → IsCrossed b ⊎ IsTold q
    below_hard p q d live e x h = elim (cases_eq e b) [
      | inl own ↦ inl (subst IsCrossed own x)
      | inr other ↦ elim (subst (λ k. Contains (needs e) k ⊎ IsSpared patches e (needs e) k) live.numbered (needed.whole e p live.patch h live.head (subst (DirectlyOn patches p) (sym live.numbered) d))) [
        | inl kept ↦ inr (met (crossed_on e q other x kept live))
        | inr spared ↦ inr (elim spared [
          | inl s ↦ elim s.by [
            | inl own ↦ told_hard s.at e q (subst (λ k. IsHardAt patches s.at k q) own s.hard) live x
            | inr n ↦
                let one_live = live_at s.at s.block q n.0 s.hard live n.2 in
                told_hard s.at s.block q s.hard live (n.0, crossed_on e n.0 other x n.1 (live_number patches rising b s.block n.0 one_live), one_live)
          ]
          | inr on ↦ stays e x (spared_stays e q on)
        ])
      ]
    ]

    -- a hard change in memory is not on disk
    hard_live : (c n : ℕ) → IsHardNumber patches c n → PassesAt (test.LiveOn c) patches n
    hard_live c n h = record {
      patch = h.patch;
      head = h.head;
      numbered = h.numbered;
      passed = on_to c h.patch.number h.patch.kind h.patch.place (λ e. let memory = h.hard.memory in cc) h.hard.change;
    }

    direct_told : (p q : ℕ) → DirectlyOn patches p q → IsLiveNumber patches q → IsTold p → IsCrossed b ⊎ IsTold q
    direct_told p q d live (met m) = elim (hard_or patches rising d.patch p d.head d.numbered) [
      | inl h ↦ below_hard p q d live h.0 (p, m, hard_live h.0 p h.1) h.1
      | inr soft ↦ inr (met (met_on p q m (inl (soft, d, live))))
    ]
    direct_told p q d live (stays e x on) = inr (stays e x (λ c r way pass. on c r (inr (elim way [ inl same ↦ subst (DependsOn patches p) same (one d) | inr low ↦ join (one d) low ])) pass))
    direct_told p q d live (hard e x h) = below_hard p q d live e x h

    across_told : (p q : ℕ) → CrossesToHard patches crossed p q → IsTold p → IsTold q
    across_told p q k (met m) = hard k.block (p, m, k.change) k.hard
    across_told p q k (stays d x on) = hard k.block (subst IsCrossed (sym (on k.block p (inl refl) k.change)) x) k.hard
    across_told p q k (hard d x h) =
        let same = same_number patches h.patch k.change.patch rising h.head k.change.head (h.numbered ∙ sym k.change.numbered) in
        let own = one_block k.change.patch d k.block (subst (λ v. IsOn v d) same h.hard.change) (live_on patches rising b k.block p k.change).1 in
        hard k.block (subst IsCrossed own x) k.hard

    step_told : (p q : ℕ) → Whole p q → IsTold p → IsCrossed b ⊎ IsTold q
    step_told p q (inl d) t = direct_told p q d.0 d.1 t
    step_told p q (inr k) t = inr (across_told p q k t)

    steps_told : (p q : ℕ) → Closure Whole p q → IsCrossed b ⊎ IsTold p → IsCrossed b ⊎ IsTold q
    steps_told p q path (inl found) = inl found
    steps_told p q (one s) (inr t) = step_told p q s t
    steps_told p q (join {q = k} c d) (inr t) = steps_told k q d (steps_told p k c (inr t))

    -- a change of b that is told shows that one was met
    told_found : (n : ℕ) → PassesAt (test.LiveOn b) patches n → IsTold n → IsCrossed b
    told_found n x (met m) = (n, m, x)
    told_found n x (stays d y on) = subst IsCrossed (sym (on b n (inl refl) x)) y
    told_found n x (hard d y h) =
        let same = same_number patches h.patch x.patch rising h.head x.head (h.numbered ∙ sym x.numbered) in
        subst IsCrossed (one_block x.patch d b (subst (λ v. IsOn v d) same h.hard.change) (live_on patches rising b b n x).1) y

    -- where steps lead from where the walk starts to a change of b, it meets one
    pub whole_met : (top n : ℕ) → Contains start top → (top ≡ n) ⊎ Closure Whole top n → PassesAt (test.LiveOn b) patches n → (y : ℕ) × IsLedFrom Down start y × PassesAt (test.LiveOn b) patches y
    whole_met top n c (inl e) x = (n, inl (subst (Contains start) e c), x)
    whole_met top n c (inr path) x = elim (steps_told top n path (inr (met (inl c)))) [ inl found ↦ found | inr t ↦ told_found n x t ]
