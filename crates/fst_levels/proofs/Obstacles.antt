-- A hard change is told by its kind.
use Rattle.std.proofs.Common.{◌≡◌, true, Some, refl}
use Rattle.std.proofs.lemmas.Bool.{false≢true}
use Rattle.fst_types.specs.Patches.{Kind, Change, Empty, OpenGate, SealedGate, grade_of_kind}
use Rattle.fst_types.specs.declared.grade.Grade.TheVariants as grade
use Rattle.fst_heads.specs.Tests.{is_hard_kind}

pub hard_from : (k : Kind) → is_hard_kind k ≡ true → grade_of_kind k ≡ Some grade.Hard
hard_from (Change on at len grade.Hard) e = refl
hard_from (Change on at len grade.Soft) e = absurd (false≢true e)
hard_from Empty e = absurd (false≢true e)
hard_from OpenGate e = absurd (false≢true e)
hard_from SealedGate e = absurd (false≢true e)

pub hard_to : (k : Kind) → grade_of_kind k ≡ Some grade.Hard → is_hard_kind k ≡ true
hard_to (Change on at len grade.Hard) e = refl
hard_to (Change on at len grade.Soft) e = cc
hard_to Empty e = cc
hard_to OpenGate e = cc
hard_to SealedGate e = cc
