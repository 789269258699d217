use Rattle.std.proofs.Common.{◌∙◌, ap, sym, subst, inl, inr}
use Rattle.fst_heads.specs.Heads.{patches_of}
use Rattle.fst_levels.specs.{Ancestors.LeadsTo, Leveling.{jump_of, parent_of}}
use Rattle.fst_levels.proofs.Ancestral.{leads_further}
use Rattle.fst_levels.proofs.ancestors.comes_to.Goals as goal

pub loop-init : goal.loop-init
loop-init c =
    let ranks = c.args.sight.now.levels.now.ranks in
    let own = c.rank_of-at.ensures in
    record {
      leads = λ q h e. inl (sym own.number);
      parent = own.parent ∙ ap (parent_of ranks) (sym own.number);
      jump = own.jump ∙ ap (jump_of ranks) (sym own.number);
    }

pub returns-then-at-to : goal.returns-then-at-to
returns-then-at-to c told = subst (LeadsTo (patches_of c.args.sight.now.heads.now.list.items) c.args.from) c.if-at-to.true c.loop.invariant.leads

pub loop-preserved : goal.loop-preserved
loop-preserved c =
    let sight = c.args.sight.now in
    let patches = patches_of sight.heads.now.list.items in
    let ranks = sight.levels.now.ranks in
    let L = c.requires.sees.leveled in
    let next = c.toward-at.ensures in
    record {
      leads = elim next.next [
        | inl e ↦ leads_further patches ranks L.aligned (λ r. r.ancestry.parent) L.parents c.args.from c.loop.at.number c.toward-at.result.number c.loop.invariant.leads (e ∙ c.loop.invariant.parent)
        | inr e ↦ leads_further patches ranks L.aligned (λ r. r.ancestry.jump) L.jumps c.args.from c.loop.at.number c.toward-at.result.number c.loop.invariant.leads (e ∙ c.loop.invariant.jump)
      ];
      parent = next.parent;
      jump = next.jump;
    }
