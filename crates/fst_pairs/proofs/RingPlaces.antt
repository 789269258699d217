-- Where the slot of a block is: at home or on one lane, and it holds one content there.
use Rattle.std.proofs.Common.{◌≡◌, ℕ, zero, suc, ◌+◌, ◌<◌, ◌≤◌, List, [], ◌∷◌, ◌++◌, length, map, refl, subst, ap, sym, ◌∙◌, arith, inl, inr}
use Rattle.std.specs.Prelude.{slice_get, Option, Some, None, ◌⊎◌}
use Rattle.std.proofs.lemmas.List.{length-map}
use Rattle.std.proofs.lemmas.Bool.{cases_lt}
use Rattle.fst_pairs.proofs.RingLaws.{get_front, get_last, get_below, from_get_map}
use Rattle.fst_pairs.proofs.RingFlights.{job_of, told_length, lengths, Flies, one_job, same_item}
use Rattle.fst_pairs.proofs.Flying.{out_or_home}
use Rattle.fst_pairs.specs.Rings.{Write, Sent, Told, Lane, World, InOrder, standing_write, IsUnsettled, LaneHolds, in_job, stands, in_done, IsAtHome, SlotHolds}

-- where on a lane the slot of its n-th job is, and what it holds
abbrev IsAt : Lane → ℕ → List ℕ → Type 0
IsAt l n bytes =
    ((length l.received ≤ n) × (j : Sent) × (slice_get l.sent n ≡ Some j) × (j.held ≡ bytes))
    ⊎ (((n ≡ length l.told) × (n < length l.received) × (d : Told) × (l.standing ≡ Some d) × (d.held ≡ bytes))
    ⊎ ((n < length l.told) × (d : Told) × (slice_get l.told n ≡ Some d) × (d.held ≡ bytes)))

-- the job of the completion that stands
pub job_standing : (l : Lane) (d : Told) → InOrder l → l.standing ≡ Some d → (j : Sent) × (slice_get l.sent (length l.told) ≡ Some j) × (j.write ≡ d.write)
job_standing l d o e =
    let told = map (λ (x : Told). x.write) l.told in
    let last : slice_get (told ++ d.write ∷ []) (length told) ≡ Some d.write = get_last told d.write in
    let whole : told ++ d.write ∷ [] ≡ map (λ (x : Sent). x.write) l.received = ap (λ s. told ++ standing_write s) (sym e) ∙ o.answers in
    let there : slice_get (map (λ (x : Sent). x.write) l.received) (length l.told) ≡ Some d.write =
    subst (λ n. slice_get (map (λ (x : Sent). x.write) l.received) n ≡ Some d.write) (length-map l.told (λ (x : Told). x.write)) (subst (λ ws. slice_get ws (length told) ≡ Some d.write) whole last) in
    let mine = from_get_map (λ (x : Sent). x.write) l.received (length l.told) d.write there in
    (mine.0, subst (λ js. slice_get js (length l.told) ≡ Some mine.0) (sym o.received.1) (get_front l.received o.received.0 (length l.told) mine.0 mine.1), mine.2)

-- the job whose slot is on a lane is not settled, so its write is out
pub lane_out : (w : World) (k b : ℕ) (bytes : List ℕ) → Flies w → LaneHolds (w.lanes k) b bytes
    → (n : ℕ) × (j : Sent) × IsUnsettled w k n j × (j.write.block ≡ b) × IsAt (w.lanes k) n bytes
lane_out w k b bytes f (in_job n j more at same holds) =
    let l = lengths (w.lanes k) (f.order k) in let l0 = l.0 in let l1 = l.1 in
    (n, j, (at, omega (arith, l0, l1, more)), same, inl (more, j, at, holds))
lane_out w k b bytes f (stands d e same holds) =
    let l = w.lanes k in
    let j = job_standing l d (f.order k) e in
    let l0 = (lengths l (f.order k)).0 in
    let whole : length l.told + 1 ≡ length l.received = ap (λ s. length l.told + length (standing_write s)) (sym e) ∙ told_length l (f.order k) in
    (length l.told, j.0, (j.1, l0), ap (λ (x : Write). x.block) j.2 ∙ same, inr (inl (refl, omega (arith, whole), d, e, holds)))
lane_out w k b bytes f (in_done n d more at same holds) =
    let j = job_of (w.lanes k) n d (f.order k) at in
    (n, j.0, (j.1, more), ap (λ (x : Write). x.block) j.2 ∙ same, inr (inr (get_below (w.lanes k).told n d at, d, at, holds)))

pub on_no_lane : (w : World) (k b : ℕ) (bytes : List ℕ) → Flies w → LaneHolds (w.lanes k) b bytes → IsAtHome w.state b → ⊥
on_no_lane w k b bytes f lh home =
    let j = lane_out w k b bytes f lh in
    let out = (f.out k j.0 j.1 j.2).0 in
    subst (IsAtHome w.state) (sym j.3) home j.1.write.ticket j.1.write.image out

abbrev pub IsNoneOrSome : {X : Type 0} → Option X → Type 0
IsNoneOrSome {X} o = (o ≡ None) ⊎ ((x : X) × (o ≡ Some x))

pub none_or_some : {X : Type 0} (o : Option X) → IsNoneOrSome o
none_or_some None = inl refl
none_or_some (Some x) = inr (x, refl)

-- one job's slot holds one content
at_one : (l : Lane) (n : ℕ) (x y : List ℕ) → InOrder l → IsAt l n x → IsAt l n y → x ≡ y
at_one l n x y o p q =
    let told = (lengths l o).1 in
    elim p [
      | inl u ↦
          let u0 = u.0 in
          elim q [
            | inl v ↦ sym u.3 ∙ (ap (λ (j : Sent). j.held) (same_item (slice_get l.sent n) u.1 v.1 u.2 v.2) ∙ v.3)
            | inr r ↦ elim r [ inl v ↦ let v0 = v.1 in absurd (omega (arith, u0, v0)) | inr v ↦ let v0 = v.0 in absurd (omega (arith, u0, v0, told)) ]
          ]
      | inr r ↦
          elim r [
            | inl u ↦
                let u0 = u.0 in let u1 = u.1 in
                elim q [
                  | inl v ↦ let v0 = v.0 in absurd (omega (arith, u1, v0))
                  | inr z ↦ elim z [
                    | inl v ↦ sym u.4 ∙ (ap (λ (d : Told). d.held) (same_item l.standing u.2 v.2 u.3 v.3) ∙ v.4)
                    | inr v ↦ let v0 = v.0 in absurd (omega (arith, u0, v0))
                  ]
                ]
            | inr u ↦
                let u0 = u.0 in
                elim q [
                  | inl v ↦ let v0 = v.0 in absurd (omega (arith, u0, v0, told))
                  | inr z ↦ elim z [
                    | inl v ↦ let v0 = v.0 in absurd (omega (arith, u0, v0))
                    | inr v ↦ sym u.3 ∙ (ap (λ (d : Told). d.held) (same_item (slice_get l.told n) u.1 v.1 u.2 v.2) ∙ v.3)
                  ]
                ]
          ]
    ]

-- a slot holds one content, wherever it is looked for
pub holds_one : (w : World) (b : ℕ) (x y : List ℕ) → Flies w → SlotHolds w b x → SlotHolds w b y → x ≡ y
holds_one w b x y f p q =
    elim p [
      | inl u ↦ elim q [ inl v ↦ sym u.1 ∙ v.1 | inr v ↦ absurd (on_no_lane w v.0 b y f v.1 u.0) ]
      | inr u ↦
          elim q [
            | inl v ↦ absurd (on_no_lane w u.0 b x f u.1 v.0)
            | inr v ↦
                let i = lane_out w u.0 b x f u.1 in
                let j = lane_out w v.0 b y f v.1 in
                let here = one_job w f u.0 v.0 i.0 j.0 i.1 j.1 i.2 j.2 (i.3 ∙ sym j.3) in
                at_one (w.lanes v.0) j.0 x y (f.order v.0) (subst (λ n. IsAt (w.lanes v.0) n x) here.1 (subst (λ k. IsAt (w.lanes k) i.0 x) here.0 i.4)) j.4
          ]
    ]

pub get_item : {X : Type 0} (xs : List X) (n : ℕ) → n < length xs → (x : X) × (slice_get xs n ≡ Some x)
get_item [] n h = absurd (omega (arith, h))
get_item (x ∷ xs) zero h = (x, refl)
get_item (x ∷ xs) (suc n) h = get_item xs n (omega (arith, h))

-- the slot of a job that is not settled is on its lane
lane_has : (l : Lane) (n : ℕ) (j : Sent) → InOrder l → slice_get l.sent n ≡ Some j → length l.got ≤ n → (bytes : List ℕ) × LaneHolds l j.write.block bytes
lane_has l n j o at more =
    elim (cases_lt n (length l.received)) [
      | inr past ↦ (j.held, in_job n j (omega (arith, past)) at refl refl)
      | inl within ↦
          elim (cases_lt n (length l.told)) [
            | inl below ↦
                let d = get_item l.told n below in
                let i = job_of l n d.0 o d.1 in
                let same = same_item (slice_get l.sent n) i.0 j i.1 at in
                (d.0.held, in_done n d.0 more d.1 (ap (λ (x : Write). x.block) (sym i.2) ∙ ap (λ (x : Sent). x.write.block) same) refl)
            | inr above ↦
                let whole = told_length l o in
                elim (none_or_some l.standing) [
                  | inl none ↦ let short : length l.told + 0 ≡ length l.received = ap (λ s. length l.told + length (standing_write s)) (sym none) ∙ whole in absurd (omega (arith, short, within, above))
                  | inr some ↦
                      let long : length l.told + 1 ≡ length l.received = ap (λ s. length l.told + length (standing_write s)) (sym some.1) ∙ whole in
                      let last : length l.told ≡ n = omega (arith, long, within, above) in
                      let i = job_standing l some.0 o some.1 in
                      let same = same_item (slice_get l.sent n) i.0 j (subst (λ m. slice_get l.sent m ≡ Some i.0) last i.1) at in
                      (some.0.held, stands some.0 some.1 (ap (λ (x : Write). x.block) (sym i.2) ∙ ap (λ (x : Sent). x.write.block) same) refl)
                ]
          ]
    ]

-- the slot of each block is somewhere
pub is_somewhere : (w : World) (b : ℕ) → Flies w → (bytes : List ℕ) × SlotHolds w b bytes
is_somewhere w b f =
    elim (out_or_home w.state b) [
      | inr home ↦ (w.home b, inl (home, refl))
      | inl out ↦
          let h = f.has out.0 b out.1 out.2 in
          let on = lane_has (w.lanes h.0) h.1 h.2 (f.order h.0) h.3.0 h.3.1 in
          (on.0, inr (h.0, subst (λ c. LaneHolds (w.lanes h.0) c on.0) h.5 on.1))
    ]
