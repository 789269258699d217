use Rattle.std.proofs.Common.{◌≡◌, suc, ◌+◌, sym, ap, ◌∙◌, arith}
use Rattle.fst_chain.specs.Linked.{nth}
use Rattle.fst_chain.proofs.Removed.{length-without}
use Rattle.fst_chain.proofs.Cursors.{at_end, without_end, nth_after}
use Rattle.fst_chain.proofs.cursor.Cursor.remove.Goals as goal

pub invariant_of-self : goal.invariant_of-self
invariant_of-self g c =
    let self = c.args.self.now in let ps = self.chain.now.0 in let i = self.index in let next : i + 1 ≡ suc i = omega arith in
    let lt = c.unlink-item.ensures.within in let both = self.stands.2 in
    rw (c.unlink-item.ensures.places, c.unlink-item.ensures.records)
    record { stands = (c.unlink-item.ensures.next ∙ ap (nth ps) next ∙ nth_after ps i, omega (arith, lt, length-without self.chain.now.1 i lt), omega (arith, length-without ps i (omega (arith, lt, both)), length-without self.chain.now.1 i lt, both)) }

pub returns-in-None-clause-list : goal.returns-in-None-clause-list
returns-in-None-clause-list g c =
    let self = c.args.self.now in let end = at_end self.chain.now.0 self.index _ (sym self.stands.0 ∙ c.in-None.is) self.stands.1 self.stands.2 in without_end self.chain.now.1 self.index (omega (arith, end))

pub returns-in-None-clause-variant : goal.returns-in-None-clause-variant
returns-in-None-clause-variant g c =
    let self = c.args.self.now in let end = at_end self.chain.now.0 self.index _ (sym self.stands.0 ∙ c.in-None.is) self.stands.1 self.stands.2 in
    ((λ e. absurd (Prim.cc e)), λ lt. absurd (omega (arith, lt, end)))
