use Rattle.std.proofs.Common.{◌∙◌, sym, subst, inl, inr}
use Rattle.std.proofs.lemmas.Bool.{false≢true}
use Rattle.fst_types.specs.{Closure.join, Dependencies.DependsOn, Gates.IsOpenNumber}
use Rattle.fst_heads.specs.Heads.{patches_of}
use Rattle.fst_heads.proofs.Listing.{rising_patches}
use Rattle.fst_walks.proofs.{Overlapped.touched_no_gate}
use Rattle.fst_walks.proofs.overlap_cycle.overlap_reaches.Goals as goal

pub returns-then-not-has_dependants-clause-reaches : goal.returns-then-not-has_dependants-clause-reaches
returns-then-not-has_dependants-clause-reaches c = (
  λ e. absurd (cc),
  λ a. absurd (false≢true (sym c.if-not-has_dependants.true ∙ c.has_dependants.ensures a.0 a.2)),
)

pub returns-clause-reaches : goal.returns-clause-reaches
returns-clause-reaches c =
    let heads = c.args.sight.now.heads.now.list.items in
    let patches = patches_of heads in
    let o = c.requires.is_open in
    let gate : IsOpenNumber patches c.args.gate = record { patch = o.patch; head = o.head; numbered = o.numbered; is_open = o.is_open } in (
      λ e.
          let a = c.starts_close.ensures.close.0 e in
          let touched = c.overlapped.ensures.only a.0 a.1 in
          (a.0, touched, elim a.2 [ inl same ↦ absurd (touched_no_gate patches c.args.block c.args.span.at c.args.span.len c.args.gate a.0 (rising_patches heads c.args.sight.now.heads.now.rising) gate touched same) | inr d ↦ d ]),
      λ a.
          let m = c.overlapped.ensures.above a.0 a.1 in
          c.starts_close.ensures.close.1 (m.0, m.1, inr (elim m.2 [ inl same ↦ subst (λ n. DependsOn patches n c.args.gate) (sym same) a.2 | inr over ↦ join over a.2 ])),
    )
