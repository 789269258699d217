use Rattle.std.proofs.{Common.{ap, refl, sym, ◌∙◌}, lemmas.Bool.false≢true}
use Rattle.fst_graph.specs.Known.{Known}
use Rattle.fst_graph.proofs.graph.Graph.group_patch.Goals as goal

pub put_down-requires : goal.put_down-requires
put_down-requires c = let x = c.is_member_prepared.ensures.0 c.if-is_member_prepared.true in rw (← c.self.view_is) (_, x.2, refl)

pub put_down-requires-2 : goal.put_down-requires-2
put_down-requires-2 c = (_, ap (λ k. k.prepared) c.in_default.ensures.prepared, refl)

pub returns-clause-prepared : goal.returns-clause-prepared
returns-clause-prepared c = λ n g e. absurd (false≢true (sym c.if-is_member_prepared.false ∙ c.is_member_prepared.ensures.1 (n, g, ap (λ (k : Known). k.prepared) c.self.view_is ∙ e)))

pub returns-in-Err-clause-prepared : goal.returns-in-Err-clause-prepared
returns-in-Err-clause-prepared c = λ n g e. absurd (false≢true (sym c.if-is_member_prepared.false ∙ c.is_member_prepared.ensures.1 (n, g, ap (λ (k : Known). k.prepared) c.self.view_is ∙ e)))
