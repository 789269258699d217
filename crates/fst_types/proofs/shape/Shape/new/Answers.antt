use Rattle.std.proofs.Common.{rules}
use Rattle.fst_types.proofs.shape.Shape.new.Goals as goal

pub returns-then-blocks-lt1 : goal.returns-then-blocks-lt1
returns-then-blocks-lt1 c = search rules
