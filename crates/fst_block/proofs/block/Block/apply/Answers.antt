use Rattle.std.proofs.Common.{◌≡◌, ◌≤◌, ◌<◌, ◌+◌, ◌-◌, List, ℕ, length, take, drop, refl, ap, subst, sym, ◌∙◌, arith, All}
use Rattle.fst_block.specs.BlockView.{BlockPatch, len_if_soft}
use Rattle.fst_types.specs.Fold.{written}
use Rattle.fst_block.proofs.Blocks.{same_size, applied, countable, undo_bounded, written_through, same_kept}
use Rattle.fst_block.proofs.block.Block.apply.Goals as goal

pub slice_bounds-push_back-end : goal.slice_bounds-push_back-end
slice_bounds-push_back-end c =
    let size = same_size _ _ _ _ c.self.invariant in
    let base = ap (λ v. length v.base) c.self.view_is in
    omega (arith, size, base, c.requires.inside, c.kept_len-kept.ensures.within, ap length c.deref.ensures.value)

pub push_back-requires-clause-countable : goal.push_back-requires-clause-countable
push_back-requires-clause-countable c =
    let newest = subst (λ v. All (λ p. p.number < c.args.no.0) v.patches) (sym c.self.view_is) c.requires.newest in
    countable _ _ _ _ c.self.invariant c.args.no.0 (omega arith) newest

pub overflow_add-self : goal.overflow_add-self
overflow_add-self c =
    let newest = subst (λ v. All (λ p. p.number < c.args.no.0) v.patches) (sym c.self.view_is) c.requires.newest in
    let bound = undo_bounded _ _ _ _ c.self.invariant c.args.no.0 (omega arith) newest c.kept_len-kept.result (omega arith) in
    omega (arith, bound, c.from.ensures)

pub put-requires : goal.put-requires
put-requires c =
    let size = same_size _ _ _ _ c.self.invariant in
    let base = ap (λ v. length v.base) c.self.view_is in
    omega (arith, size, base, c.requires.inside, c.requires.same_length, ap length c.deref_mut.ensures.value)

pub invariant_of-self-2 : goal.invariant_of-self-2
invariant_of-self-2 c =
    let list = rw c.if-is_err.ensures.negation at c.push_back.ensures.list in
    let at = c.args.span.at in
    let len = c.args.span.len in
    let p : BlockPatch = record { number = c.args.no.0; span = c.args.span; grade = c.args.grade; bytes = c.of_bytes.result.items } in
    let newest = subst (λ v. All (λ p. p.number < c.args.no.0) v.patches) (sym c.self.view_is) c.requires.newest in
    let base = ap (λ v. length v.base) c.self.view_is in
    let inside : at + len ≤ length c.self.inside.base.items = omega (arith, base, c.requires.inside) in
    let same_length = ap length c.of_bytes.ensures ∙ c.requires.same_length in
    let size : length c.put.new.block ≡ c.self.inside.bytes.len = omega (arith, c.put.auto.block, c.deref_mut.ensures.len) in
    let is_written = written_through _ _ c.self.inside.bytes.items size ∙ (c.put.ensures ∙ (ap (λ (b : List ℕ). written b (record { at = at; bytes = c.args.bytes.now })) c.deref_mut.ensures.value ∙ ap (λ (bs : List ℕ). written c.self.inside.bytes.items (record { at = at; bytes = bs })) (sym c.of_bytes.ensures))) in
    let kept : at + c.kept_len-kept.result - at ≡ len_if_soft c.args.grade len = omega (arith, c.kept_len-kept.ensures.value) in
    let is_undo = ap (λ n. take n (drop at c.deref.result.now)) kept ∙ ap (λ (b : List ℕ). take (len_if_soft c.args.grade len) (drop at b)) c.deref.ensures.value in
    let after = applied _ _ _ _ c.self.invariant p _ _ inside same_length (omega arith) newest is_written is_undo in
    same_kept _ _ _ _ _ _ refl (sym list) (omega (arith, c.from.ensures, c.kept_len-kept.ensures.value)) after
