use Rattle.std.proofs.Common.{rules, ◌≡◌, ◌≢◌, ◌∙◌, filter, AllPairs, Contains, sym, ap, subst, arith}
use Rattle.std.proofs.lemmas.List.Kept.{AllPairs-filter}
use Rattle.fst_heads.proofs.Forgetting.{filter_from_test}
use Rattle.fst_levels.specs.Walks.{AreMarked, Trail, passes_in}
use Rattle.fst_levels.proofs.Trails.{met_inside, kept_inside, written}
use Rattle.fst_levels.proofs.walk.Walk.keep.Goals as goal

pub mark-requires-clause-clear : goal.mark-requires-clause-clear
mark-requires-clause-clear c = rw (c.deref_mut-2.ensures.value, written _ c.unmark.new.marks _ (c.unmark.ensures.long ∙ c.deref_mut.ensures.len)) c.unmark.ensures.clear

pub mark-requires-clause-inside : goal.mark-requires-clause-inside
mark-requires-clause-inside c s h =
    let t = passes_in c.args.test c.args.heads.now in
    let met = c.self.inside.met.items in
    let same : c.retain.new.self.items ≡ filter t met = filter_from_test _ t _ (λ n b g called. (search rules, search rules)) _ _ c.retain.ensures.filtered in
    let lt = met_inside c.self.inside.marks.items met c.self.invariant.marked s (kept_inside t met s (subst (λ ns. Contains ns s) (c.deref-2.ensures.value ∙ same) h)) in
    omega (arith, lt, c.deref_mut-2.ensures.len, c.self.inside.marks.ok.0)

pub invariant_of-self : goal.invariant_of-self
invariant_of-self c =
    let t = passes_in c.args.test c.args.heads.now in
    let s = c.self.invariant in
    let met = c.self.inside.met.items in
    let same : c.retain.new.self.items ≡ filter t met = filter_from_test _ t _ (λ n b g called. (search rules, search rules)) _ _ c.retain.ensures.filtered in
    let long = c.mark.ensures.long ∙ c.deref_mut-2.ensures.len in
    rw (written _ c.mark.new.marks _ long) record {
      marked = subst (AreMarked c.mark.new.marks) c.deref-2.ensures.value c.mark.ensures.marked;
      once = subst (λ ns. AllPairs (λ a b. a ≢ b) ns) (sym same) (AllPairs-filter (λ a b. a ≢ b) t met s.once);
      few = omega (arith, long, s.few, c.self.inside.marks.ok.0);
      marks_room = s.marks_room;
      met_room = omega (arith, s.met_room, c.retain.ensures.capacity);
    }

pub returns-clause-kept : goal.returns-clause-kept
returns-clause-kept c =
    let t = passes_in c.args.test c.args.heads.now in
    let met = c.self.inside.met.items in
    let same : c.retain.new.self.items ≡ filter t met = filter_from_test _ t _ (λ n b g called. (search rules, search rules)) _ _ c.retain.ensures.filtered in
    same ∙ ap (λ (w : Trail). filter t w.met) c.self.view_is

pub returns-clause-inside : goal.returns-clause-inside
returns-clause-inside c s h = rw (← c.self.view_is) (met_inside c.self.inside.marks.items c.self.inside.met.items c.self.invariant.marked s (subst (λ (w : Trail). Contains w.met s) (sym c.self.view_is) h))
