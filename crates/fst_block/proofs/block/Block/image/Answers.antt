use Rattle.std.proofs.Common.{◌≡◌, ◌∙◌, List, ℕ, length, ap, subst, sym, arith}
use Rattle.std.proofs.lemmas.Grind.{common_steps}
use Rattle.fst_chain.specs.Records.{chain_list}
use Rattle.fst_block.specs.BlockView.{BlockView, fold_of}
use Rattle.fst_block.specs.Choices.{IsChoice, is_chosen, chosen_of}
use Rattle.fst_block.specs.Reverts.{reverted, FitsIn}
use Rattle.fst_block.proofs.Undo.{image_is, reverted_length}
use Rattle.fst_block.proofs.Choosing.{meets_in_order, choice_is_closed}
use Rattle.fst_block.proofs.Blocks.{same_size, fits, written_through}
use Rattle.fst_block.proofs.block.Block.image.Goals as goal

pub revert-requires-clause-fit : goal.revert-requires-clause-fit
revert-requires-clause-fit c =
    let copied = c.deref_mut.ensures.value ∙ (c.in-Ok.ensures.items ∙ c.deref.ensures.value) in
    subst (λ (b : List ℕ). FitsIn (length b) (chain_list c.self.inside.patches)) (sym copied) (fits _ _ _ _ c.self.invariant)

pub revert-requires-clause-choice : goal.revert-requires-clause-choice
revert-requires-clause-choice c =
    meets_in_order _ 0 _ _ c.self.invariant.placed (subst (λ v. IsChoice v.patches c.args.chosen.now) (sym c.self.view_is) c.requires)

pub returns-clause-image : goal.returns-clause-image
returns-clause-image c =
    let copied = c.deref_mut.ensures.value ∙ (c.in-Ok.ensures.items ∙ c.deref.ensures.value) in
    let size : length c.revert.new.image ≡ c.in-Ok.image.len = omega (arith, c.revert.auto.image, c.deref_mut.ensures.len) in
    let kept = c.self.invariant in
    let choice = subst (λ v. IsChoice v.patches c.args.chosen.now) (sym c.self.view_is) c.requires in
    let image = image_is (is_chosen c.args.chosen.now) _ _ 0 _ kept.stands kept.undoes kept.placed (choice_is_closed _ _ _ kept.placed choice) in
    written_through _ _ _ size
    ∙ (c.revert.ensures.image
    ∙ (ap (λ (b : List ℕ). reverted (is_chosen c.args.chosen.now) b (chain_list c.self.inside.patches)) copied
    ∙ (image ∙ ap (λ (v : BlockView). fold_of v.base (chosen_of c.args.chosen.now v.patches)) c.self.view_is)))

pub returns-clause-same_length : goal.returns-clause-same_length
returns-clause-same_length c =
    let copied = c.deref_mut.ensures.value ∙ (c.in-Ok.ensures.items ∙ c.deref.ensures.value) in
    let size : length c.revert.new.image ≡ c.in-Ok.image.len = omega (arith, c.revert.auto.image, c.deref_mut.ensures.len) in
    ap length (written_through _ _ _ size
    ∙ (c.revert.ensures.image
    ∙ ap (λ (b : List ℕ). reverted (is_chosen c.args.chosen.now) b (chain_list c.self.inside.patches)) copied))
    ∙ (reverted_length (is_chosen c.args.chosen.now) _ _ (fits _ _ _ _ c.self.invariant)
    ∙ (same_size _ _ _ _ c.self.invariant ∙ ap (λ (v : BlockView). length v.base) c.self.view_is))

pub returns-clause-unchanged : goal.returns-clause-unchanged
returns-clause-unchanged c = grind (arith, common_steps)

pub invariant_of-self : goal.invariant_of-self
invariant_of-self c = grind (arith, common_steps)
