use Rattle.std.proofs.Common.{◌∙◌, ℕ, List, Option, None, sym}
use Rattle.std.proofs.lemmas.Bool.{false≢true}
use Rattle.fst_types.specs.{Patches.Patch}
use Rattle.fst_heads.specs.{Grading.{HasUnder, IsOpenBut, LeadsNowhere, MayBeHard}, Heads.patches_of}
use Rattle.fst_walks.specs.{Telling.IsTold, declared.graded.Graded.Graded}
use Rattle.fst_levels.proofs.NearRow.{follows_same}
use Rattle.fst_walks.proofs.Told.{told_soft}
use Rattle.fst_walks.proofs.grade.grade_of.Goals as goal

pub returns-then-is_blocked-clause-told : goal.returns-then-is_blocked-clause-told
returns-then-is_blocked-clause-told c = told_soft _ _ _ _ c.soft.result None c.soft.ensures.grade c.soft.ensures.end (λ may. may.free (c.is_blocked.ensures.blocked.0 c.if-is_blocked.true)) tt

-- no open gate is in the way, so the rest decides
decided : (patches : List Patch) (but : Option ℕ) (b : ℕ) (row : List ℕ) (told : Graded) → (HasUnder patches row (IsOpenBut patches but) → ⊥) → IsTold patches b row (LeadsNowhere patches b row) told → IsTold patches b row (MayBeHard patches but b row) told
decided patches but b row told free known = record {
  graded = follows_same told.grade (LeadsNowhere patches b row) (MayBeHard patches but b row) (λ may. record { straight = may.straight; open_ended = may.open_ended }) (λ leads. record { free = free; straight = leads.straight; open_ended = leads.open_ended }) known.graded;
  back = known.back;
}

pub returns-clause-told : goal.returns-clause-told
returns-clause-told c =
    decided (patches_of c.args.sight.now.heads.now.list.items) c.args.but c.args.block c.args.row.now c.grade_by_ways.result (λ u. false≢true (sym c.if-is_blocked.false ∙ c.is_blocked.ensures.blocked.1 u)) c.grade_by_ways.ensures.told
