use Rattle.std.proofs.Common.{ap, subst, sym, ◌∙◌, arith}
use Rattle.fst_chain.specs.Records.{chain_list}
use Rattle.fst_block.specs.Choices.{IsChoice, others_of}
use Rattle.fst_block.specs.Reverts.{patches_of}
use Rattle.fst_block.proofs.Takes.{soft_lengths-chosen}
use Rattle.fst_block.proofs.Undo.{patches_of-entries}
use Rattle.fst_block.proofs.Choosing.{meets_in_order, choice_is_closed}
use Rattle.fst_block.proofs.Blocks.{launched}
use Rattle.fst_block.specs.Choices.{is_chosen}
use Rattle.fst_block.proofs.block.Block.launch.Goals as goal

pub take_out-requires-clause-choice : goal.take_out-requires-clause-choice
take_out-requires-clause-choice c =
    meets_in_order _ 0 _ _ c.self.invariant.placed (subst (λ v. IsChoice v.patches c.args.chosen.now) (sym c.self.view_is) c.requires)

pub overflow_sub-self : goal.overflow_sub-self
overflow_sub-self c =
    omega (arith, c.take_out.ensures.undo, c.self.invariant.counted, soft_lengths-chosen c.args.chosen.now (patches_of (chain_list c.self.inside.patches)))

pub invariant_of-self : goal.invariant_of-self
invariant_of-self c =
    let choice = subst (λ v. IsChoice v.patches c.args.chosen.now) (sym c.self.view_is) c.requires in
    launched _ _ _ _ c.self.invariant c.args.chosen.now _ _ _ (choice_is_closed _ _ _ c.self.invariant.placed choice) c.take_out.ensures.base c.take_out.ensures.patches c.take_out.ensures.undo

pub returns-clause-patches : goal.returns-clause-patches
returns-clause-patches c =
    ap patches_of c.take_out.ensures.patches
    ∙ (patches_of-entries (is_chosen c.args.chosen.now) (chain_list c.self.inside.patches) ∙ ap (λ v. others_of c.args.chosen.now v.patches) c.self.view_is)
