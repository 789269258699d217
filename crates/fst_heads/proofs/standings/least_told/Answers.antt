use Rattle.fst_heads.proofs.Basics.{◌≡◌, ◌<◌, ◌≤◌, ◌∙◌, ◌+◌, ◌*◌, ℕ, List, false, false≢true, is_some, Option, Some, None, length, length-set, get_or, inl, inr, arith, sym}
use Rattle.std.proofs.Common.{MatchOption}
use Rattle.std.proofs.lemmas.Bool.{cases_lt}
use Rattle.fst_heads.proofs.Indices.{any_default}
use Rattle.fst_heads.proofs.Words.{Standing, may_be_written}
use Rattle.fst_heads.proofs.Telling.{told_none, none_told}
use Rattle.fst_heads.proofs.standings.least_told.Goals.{Joined-index, then-index+else-is_some, else-index}
use Rattle.fst_heads.proofs.standings.least_told.Goals as goal

-- where the sixty-four blocks of the group have no mark either, none up to their end has
none_more : (standings : List Standing) (g : ℕ) → ((b : ℕ) (d : Standing) → b < g * 64 → b < length standings → may_be_written (get_or standings b d) ≡ false)
    → ((b : ℕ) (d : Standing) → g * 64 ≤ b → b < g * 64 + 64 → b < length standings → may_be_written (get_or standings b d) ≡ false)
    → (b : ℕ) (d : Standing) → b < (g + 1) * 64 → b < length standings → may_be_written (get_or standings b d) ≡ false
none_more standings g before here b d lt within = elim (cases_lt b (g * 64)) [
  | inl low ↦ before b d low within
  | inr high ↦ here b d high (omega (arith, lt)) within
]

-- nothing was found
not_found : {A : Type 0} (B : ℕ → Type 0) (r : Option ℕ) → is_some r ≡ false → MatchOption r A B → A
not_found B None off none = none
not_found B (Some b) off found = absurd (false≢true (sym off))

pub loop-group-preserved : goal.loop-group-preserved
loop-group-preserved c =
    let each = c.args.each.now in
    let g = c.loop-group.group in
    let told = c.loop-group.told.items in
    let I = c.loop-group.invariant in
    elim c.if-index.branch [
      | then-index+else-is_some w ↦
          let none = not_found _ w.least_between-least.result (sym w.is_some.ensures ∙ w.if-is_some.false) w.least_between-least.ensures in
          let here : (b : ℕ) (d : Standing) → g * 64 ≤ b → b < g * 64 + 64 → b < length each → may_be_written (get_or each b d) ≡ false =
          λ b d low high within. none b d low (omega (arith, high, within, w.min.ensures)) in
          rw w.told-is (record {
            told = told_none each told g I.told here;
            long = length-set told g false ∙ I.long;
            none = none_more each g I.none here;
          })
      | else-index w ↦
          let lt = c.loop-group-test.true in
          let inside : g < length told = omega (arith, lt, c.len-group-end.ensures, I.long, c.args.told.now.ok.0) in
          let off : get_or told g false ≡ false = any_default told g false c.index.result.now inside ∙ (sym c.index.ensures ∙ w.if-index.false) in
          rw w.told-is (record {
            told = I.told;
            long = I.long;
            none = none_more each g I.none (λ b d low high within. none_told each told g b d I.told off low high within);
          })
    ]
