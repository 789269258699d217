use Rattle.std.proofs.Common.{refl}
use Rattle.fst_levels.specs.Leveling.{jump_of}
use Rattle.fst_levels.proofs.Ancestral.{goes_under, none_goes_under, over_zero}
use Rattle.fst_levels.proofs.ancestors.ancestry_over.Goals as goal

pub returns-in_default : goal.returns-in_default
returns-in_default c patches blocks L given =
    rw (c.no_ancestry.ensures) (none_goes_under patches (over_zero patches (jump_of c.args.levels.now.ranks) L.jumps) c.args.number c.args.row.now given)

pub returns : goal.returns
returns c patches blocks L given =
    goes_under patches c.args.levels.now.ranks L.aligned L.jumps c.args.number c.args.row.now c.in-Some.parent c.in-Some.ensures.named c.in-Some.ensures.older
    (record { parent = c.in-Some.parent; jump = c.jump_under.result; depth = c.saturating_add.result }) refl c.jump_under.ensures
