use Rattle.std.proofs.Common.{◌≡◌, ◌∙◌, length, ap, arith}
use Rattle.fst_lines.specs.Parsing.{block_numbers}
use Rattle.fst_lines.proofs.SendingLemmas.{Sends-err}
use Rattle.fst_player.specs.Script.{PlayerState, left_of}
use Rattle.fst_player.proofs.CommittedLemmas.{kept_left}
use Rattle.fst_player.proofs.LeftLemmas.{left_stopped, left_told, left_all}
use Rattle.fst_player.proofs.player.Player.send_each_left.Goals as goal

pub returns-in_err-send_crash_part : goal.returns-in_err-send_crash_part
returns-in_err-send_crash_part g c =
    let p = c.args.self.now in
    let finish = block_numbers c.args.finish.now in
    let b = c.loop-block.block in
    let inside = c.loop-block-test.true in
    let marked = c.marks_of-marks.ensures b (omega (arith, inside, c.self.inside.shape.within.few_blocks)) in
    let left : c.left-left.result.now ≡ left_of p finish b = kept_left _ _ _ _ _ _ c.self.invariant p c.self.view_is finish b _ _ inside marked c.left-left.ensures in
    let blocks : c.self.inside.shape.blocks ≡ length p.cache.blocks = c.self.invariant.blocks ∙ ap (λ (q : PlayerState). length q.cache.blocks) c.self.view_is in
    Sends-err _ _ _ _ _ c.from_residual.ensures.1 (left_stopped p finish b _ _ _ (omega (arith, blocks, inside)) c.loop-block.invariant (rw left at c.in_err-send_crash_part.ensures))

pub loop-block-preserved : goal.loop-block-preserved
loop-block-preserved g c =
    let p = c.args.self.now in
    let finish = block_numbers c.args.finish.now in
    let b = c.loop-block.block in
    let inside = c.loop-block-test.true in
    let marked = c.marks_of-marks.ensures b (omega (arith, inside, c.self.inside.shape.within.few_blocks)) in
    let left : c.left-left.result.now ≡ left_of p finish b = kept_left _ _ _ _ _ _ c.self.invariant p c.self.view_is finish b _ _ inside marked c.left-left.ensures in
    let blocks : c.self.inside.shape.blocks ≡ length p.cache.blocks = c.self.invariant.blocks ∙ ap (λ (q : PlayerState). length q.cache.blocks) c.self.view_is in
    left_told p finish b _ _ _ (omega (arith, blocks, inside)) c.loop-block.invariant (rw left at c.in_ok-send_crash_part.ensures)

pub returns : goal.returns
returns g c =
    let blocks : c.self.inside.shape.blocks ≡ length c.args.self.now.cache.blocks = c.self.invariant.blocks ∙ ap (λ (p : PlayerState). length p.cache.blocks) c.self.view_is in
    let all = left_all c.args.self.now (block_numbers c.args.finish.now) c.loop-block.block (omega (arith, blocks)) in
    rw all at c.loop-block.invariant
