-- What calls on groups leave of what the player keeps.
use Rattle.std.proofs.Common.{ℕ, ◌+◌, Bool, List, [], sym, ap, subst, ◌∙◌, arith}
use Rattle.fst_types.specs.declared.shape.Shape.{Shape}
use Rattle.fst_types.specs.declared.grade.Grade.{Grade}
use Rattle.fst_types.specs.State.{State}
use Rattle.fst_types.specs.Events.{Event, GroupNew, GroupAfter, GroupPatch, GroupClose, Reply, MadeChange, Made, Accepted as Agreed}
use Rattle.fst_types.specs.Run.{ChangeMade, made_after}
use Rattle.fst_types.specs.Step.{Step, GroupRow, accepted, group}
use Rattle.fst_types.proofs.Parts.{made_by, parts_row, IsGrownBy, grown_parts}
use Rattle.fst_device.specs.JobView.{JobView}
use Rattle.fst_device.specs.MemoryView.{MemoryView}
use Rattle.fst_player.specs.Script.{opened}
use Rattle.fst_player.specs.Kept.{Came, IsKept}
use Rattle.fst_player.proofs.KeptLemmas.{kept_blocks}
use Rattle.fst_player.proofs.ScriptRuns.{came_more}

-- how much a call on groups adds
grown_by : (old new : State) (e : Event) (r : Reply) → GroupRow old e r new → IsGrownBy (made_by e) old new
grown_by old new e r row = grown_parts old (made_by e) (made_after [] e r) new (parts_row old e r new row)

-- what is kept stays so where so much was made and the blocks stay
kept_grown : (shape : Shape) (share k : ℕ) (old new : State) (jobs : List (JobView MemoryView)) (made after : List ChangeMade) (kept : List (List ℕ))
    → IsKept shape share old jobs made kept → Came (opened shape).cache new after → IsGrownBy k old new → IsKept shape (share + k) new jobs after kept
kept_grown shape share k old new jobs made after kept K came more =
    kept_blocks shape share (share + k) old new jobs made after kept K came (ap (λ x. x + k) K.counted ∙ sym more.made) more.blocks

pub group_new_kept : (shape : Shape) (share : ℕ) (old new : State) (jobs : List (JobView MemoryView)) (made : List ChangeMade) (kept : List (List ℕ)) (number : ℕ)
    → IsKept shape share old jobs made kept → Step old (GroupNew share) (Made number) new → IsKept shape (share + 2) new jobs made kept
group_new_kept shape share old new jobs made kept number K (accepted n (group m)) =
    kept_grown shape share 2 old new jobs made made kept K (came_more (opened shape).cache old new made _ _ K.came (accepted n (group m))) (grown_by old new _ _ m)

-- a call that makes nothing
pub group_after_kept : (shape : Shape) (share : ℕ) (old new : State) (jobs : List (JobView MemoryView)) (made : List ChangeMade) (kept : List (List ℕ)) (n on : ℕ)
    → IsKept shape share old jobs made kept → Step old (GroupAfter n on) Agreed new → IsKept shape share new jobs made kept
group_after_kept shape share old new jobs made kept n on K (accepted none (group m)) =
    subst (λ (k : ℕ). IsKept shape k new jobs made kept) (omega arith)
    (kept_grown shape share 0 old new jobs made made kept K (came_more (opened shape).cache old new made _ _ K.came (accepted none (group m))) (grown_by old new _ _ m))

pub group_close_kept : (shape : Shape) (share : ℕ) (old new : State) (jobs : List (JobView MemoryView)) (made : List ChangeMade) (kept : List (List ℕ)) (n : ℕ)
    → IsKept shape share old jobs made kept → Step old (GroupClose n) Agreed new → IsKept shape share new jobs made kept
group_close_kept shape share old new jobs made kept n K (accepted none (group m)) =
    subst (λ (k : ℕ). IsKept shape k new jobs made kept) (omega arith)
    (kept_grown shape share 0 old new jobs made made kept K (came_more (opened shape).cache old new made _ _ K.came (accepted none (group m))) (grown_by old new _ _ m))

-- one member more
pub group_patch_kept : (shape : Shape) (share : ℕ) (old new : State) (jobs : List (JobView MemoryView)) (made : List ChangeMade) (kept : List (List ℕ)) (n b at : ℕ) (bytes : List ℕ) (faulted : Bool) (number : ℕ) (grade : Grade)
    → IsKept shape share old jobs made kept → Step old (GroupPatch share n b at bytes faulted) (MadeChange number grade) new
    → IsKept shape (share + 1) new jobs (made_after made (GroupPatch share n b at bytes faulted) (MadeChange number grade)) kept
group_patch_kept shape share old new jobs made kept n b at bytes faulted number grade K (accepted none (group m)) =
    kept_grown shape share 1 old new jobs made _ kept K (came_more (opened shape).cache old new made _ _ K.came (accepted none (group m))) (grown_by old new _ _ m)
