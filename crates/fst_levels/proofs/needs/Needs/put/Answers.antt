use Rattle.std.proofs.{Common.{◌∙◌, ◌∷◌, [], take, get_or, arith, sym, subst}, lemmas.{Grind.common_steps, List.{take_all, take_more}}}
use denote.Enum.Bare.{sameb}
use Rattle.fst_types.specs.contracts.grade.Grade.{the_type}
use Rattle.fst_types.specs.declared.grade.Grade.{Grade}
use Rattle.std.proofs.Common.{◌≡◌, true, refl}
use Rattle.std.proofs.lemmas.Bool.{false≢true}
use Rattle.fst_heads.specs.Heads.{patches_of}
use Rattle.fst_types.specs.declared.grade.Grade.TheVariants as grade
use Rattle.fst_levels.specs.Needing.{IsAtOrUnder, IsBesides, IsPut}
use Rattle.fst_levels.proofs.PutMore.{put_besides, put_more}
use Rattle.fst_levels.proofs.needs.Needs.put.Goals.{After-loop-number}
use Rattle.fst_levels.proofs.needs.Needs.put.Goals as goal

is_hard : (g : Grade) → sameb the_type g grade.Hard ≡ true → g ≡ grade.Hard
is_hard grade.Hard e = refl
is_hard grade.Soft e = absurd (false≢true e)

pub loop-number-preserved : goal.loop-number-preserved
loop-number-preserved c =
    let patches = patches_of c.args.heads.now.list.items in
    let b = c.args.self.now.block in
    let row = c.args.row.now in
    let at = c.loop-number.number-index in
    let inv = c.loop-number.invariant in
    let mid = c.loop-number.self.lists in
    let new = c.put_one.new.self.lists in
    record {
      block = c.put_one.ensures.block ∙ inv.block;
      room = omega (arith, inv.room, c.put_one.ensures.room);
      ways = c.put_one.ensures.ways ∙ inv.ways;
      put = subst (λ ns. IsPut patches b ns grade.Hard c.args.self.now.lists new) (sym (take_more row at 0 c.loop-number-test.true))
          (put_more patches b (take at row) (get_or row at 0) c.args.self.now.lists mid new inv.put
          (subst (λ k. IsPut patches k (get_or row at 0 ∷ []) grade.Hard mid new) inv.block c.put_one.ensures.put));
    }

-- the row is put
row_put : (c : After-loop-number) → IsPut (patches_of c.args.heads.now.list.items) c.args.self.now.block c.args.row.now c.args.grade c.args.self.now.lists c.loop-number.self.lists
row_put c =
    let patches = patches_of c.args.heads.now.list.items in
    let row = c.args.row.now in
    let b = c.args.self.now.block in
    let was = c.args.self.now.lists in
    let mid = c.loop-number.self.lists in
    let put = subst (λ ns. IsPut patches b ns grade.Hard was mid) (take_all c.loop-number.number-index row (omega (arith, c.loop-number-test.false))) c.loop-number.invariant.put in
    subst (λ g. IsPut patches b row g was mid) (sym (is_hard c.args.grade (sym c.if-eq.ensures))) put

-- and what is below it besides
pub returns-then-self-room-clause-put : goal.returns-then-self-room-clause-put
returns-then-self-room-clause-put c =
    let patches = patches_of c.args.heads.now.list.items in
    let row = c.args.row.now in
    let mid = c.loop-number.self.lists in
    let new = c.put_below.new.self.lists in
    let hard = is_hard c.args.grade (sym c.if-eq.ensures) in
    put_besides patches c.args.self.now.block row c.args.grade hard c.args.self.now.lists mid new (row_put (goal.at.returns-then-self-room-clause-put c).After-loop-number)
    (subst (λ k. IsBesides k (IsAtOrUnder patches row) mid new) c.loop-number.invariant.block c.put_below.ensures.besides)

-- or the row alone
pub returns-else-self-room-clause-put : goal.returns-else-self-room-clause-put
returns-else-self-room-clause-put c = row_put (goal.at.returns-else-self-room-clause-put c).After-loop-number

pub returns-else-eq : goal.returns-else-eq
returns-else-eq c = grind (arith, common_steps)
