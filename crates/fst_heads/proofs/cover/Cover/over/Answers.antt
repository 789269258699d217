use Rattle.fst_heads.proofs.{Basics.{◌≡◌, ◌∙◌, ◌-◌, ap, arith}, Runs.{newest_over_span}, Words.{Covering}}
use Rattle.std.specs.Prelude.{min}
use Rattle.fst_heads.proofs.cover.Cover.over.Goals as goal

pub returns : goal.returns
returns c = λ x lo hi some.
    let runs = c.args.self.now.runs.items in
    let same : c.deref.result.now ≡ runs = c.deref.ensures.value ∙ ap (λ (v : Covering). v.runs.items) c.self.view_is in
    let first : c.min.result ≡ min (c.before-2.result - 1) c.before-past.result = c.min.ensures ∙ ap (λ k. min k c.before-past.result) c.saturating_sub-first.ensures in
    rw same (newest_over_span runs c.from-at.result c.from.result c.before-2.result c.before-past.result x c.before-2.ensures c.before-past.ensures
    (omega (arith, lo, c.from-at.ensures)) (omega (arith, hi, c.from-at.ensures, c.from.ensures)) c.min.result first some)
