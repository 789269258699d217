use Rattle.std.proofs.Common.{◌≡◌, ℕ, suc, ◌+◌, ◌-◌, List, [], length, slice_index_or, sym, ap, ◌∙◌, arith}
use denote.RawPtr.{Ptr}
use Rattle.fst_chain.specs.Held.{tail_at}
use Rattle.fst_chain.specs.Records.{without}
use Rattle.fst_chain.specs.Chained.{record_of}
use Rattle.fst_chain.specs.Linked.{nth}
use Rattle.fst_chain.proofs.Tails.{tail_is, tails_without}
use Rattle.fst_chain.proofs.Cursors.{item_is}
use Rattle.fst_chain.proofs.Removed.{at_node, len-map, nth_at, its_next, found_prev, found_next, on_some, Halfway, halfway, half_length, removed}
use Rattle.fst_chain.proofs.chain.Chain.unlink.Goals as goal

pub take-node-requires : goal.take-node-requires
take-node-requires g c =
    let ps = c.self.inside.heap.places in let e = ap (λ (v : List Ptr × _). nth v.0 c.args.i) c.self.view_is ∙ c.requires in
    (at_node ps c.self.inside.heap.items c.self.invariant.0 c.args.i c.args.at e, nth_at ps c.args.i c.args.at e)

pub mend_next-requires : goal.mend_next-requires
mend_next-requires g c =
    let ps = c.self.inside.heap.places in let xs = c.self.inside.heap.items in let i = c.args.i in let k = c.self.invariant.0 in let e = ap (λ (v : List Ptr × _). nth v.0 i) c.self.view_is ∙ c.requires in
    let m = c.take-node.result.0 in let is = c.take-node.ensures.value in
    rw (c.take-node.ensures.places, c.take-node.ensures.items) (on_some m.prev (found_prev ps xs k i (at_node ps xs k i c.args.at e) m is))

pub mend_prev-requires : goal.mend_prev-requires
mend_prev-requires g c =
    let ps = c.self.inside.heap.places in let xs = c.self.inside.heap.items in let i = c.args.i in let k = c.self.invariant.0 in let e = ap (λ (v : List Ptr × _). nth v.0 i) c.self.view_is ∙ c.requires in
    let m = c.take-node.result.0 in let is = c.take-node.ensures.value in let lt = at_node ps xs k i c.args.at e in
    let h : Halfway ps xs k i lt m is c.mend_next.new.head c.mend_next.new.heap.items = halfway ps xs k i lt m is (rw (← c.take-node.ensures.items) c.mend_next.ensures.items) c.mend_next.ensures.head in
    rw (c.mend_next.ensures.kept.1, c.take-node.ensures.places, half_length ps xs k i lt m is h) (on_some m.next (found_next ps xs k i lt m is))

pub invariant_of-self : goal.invariant_of-self
invariant_of-self g c =
    let ps = c.self.inside.heap.places in let xs = c.self.inside.heap.items in let i = c.args.i in let k = c.self.invariant.0 in let e = ap (λ (v : List Ptr × _). nth v.0 i) c.self.view_is ∙ c.requires in
    let m = c.take-node.result.0 in let is = c.take-node.ensures.value in let lt = at_node ps xs k i c.args.at e in
    let h : Halfway ps xs k i lt m is c.mend_next.new.head c.mend_next.new.heap.items = halfway ps xs k i lt m is (rw (← c.take-node.ensures.items) c.mend_next.ensures.items) c.mend_next.ensures.head in
    rw (c.mend_prev.ensures.kept.1, c.mend_next.ensures.kept.1, c.take-node.ensures.places) (
      (removed ps xs k i lt m is h c.mend_prev.ensures.items c.mend_prev.ensures.tail).0,
      c.mend_prev.ensures.kept.0 ∙ c.mend_next.ensures.kept.0 ∙ c.take-node.ensures.alloc.0 ∙ c.self.invariant.1,
      tails_without m.prev m.next xs c.mend_next.new.heap.items c.mend_prev.new.heap.items i (i - 1) m.next m.prev (rw (← c.take-node.ensures.items) c.mend_next.ensures.items) c.mend_prev.ensures.items
          ∙ ap (λ ts. without ts i) c.self.invariant.2 ∙ sym (c.mend_prev.ensures.kept.2 ∙ c.mend_next.ensures.kept.2 ∙ c.take-node.ensures.tails),
    )

pub returns-clause-records : goal.returns-clause-records
returns-clause-records g c =
    let ps = c.self.inside.heap.places in let xs = c.self.inside.heap.items in let i = c.args.i in let k = c.self.invariant.0 in let e = ap (λ (v : List Ptr × _). nth v.0 i) c.self.view_is ∙ c.requires in
    let m = c.take-node.result.0 in let is = c.take-node.ensures.value in let lt = at_node ps xs k i c.args.at e in
    let h : Halfway ps xs k i lt m is c.mend_next.new.head c.mend_next.new.heap.items = halfway ps xs k i lt m is (rw (← c.take-node.ensures.items) c.mend_next.ensures.items) c.mend_next.ensures.head in
    (removed ps xs k i lt m is h c.mend_prev.ensures.items c.mend_prev.ensures.tail).1 ∙ ap (λ (v : List Ptr × _). without v.1 i) c.self.view_is

pub returns-clause-item : goal.returns-clause-item
returns-clause-item g c =
    let ps = c.self.inside.heap.places in let xs = c.self.inside.heap.items in let i = c.args.i in let k = c.self.invariant.0 in let e = ap (λ (v : List Ptr × _). nth v.0 i) c.self.view_is ∙ c.requires in
    let m = c.take-node.result.0 in let is = c.take-node.ensures.value in
    item_is xs i m (m.item, []) is (at_node ps xs k i c.args.at e) ∙ ap (λ (v : List Ptr × List (g.row.T.Denot × List ℕ)). (slice_index_or v.1 i (m.item, [])).0) c.self.view_is

pub release-requires : goal.release-requires
release-requires g c =
    let ps = c.self.inside.heap.places in let xs = c.self.inside.heap.items in let i = c.args.i in let k = c.self.invariant.0 in let e = ap (λ (v : List Ptr × _). nth v.0 i) c.self.view_is ∙ c.requires in
    let m = c.take-node.result.0 in let is = c.take-node.ensures.value in
    let at = tail_is xs i m is (at_node ps xs k i c.args.at e) ∙ ap (λ ts. tail_at ts i) c.self.invariant.2 ∙ sym c.take-node.ensures.tail in
    (c.take-node.ensures.alloc.1 ∙ c.self.invariant.1, ap (λ (t : Ptr × ℕ). t.0) at, ap (λ (t : Ptr × ℕ). t.1) at)

pub returns-clause-next : goal.returns-clause-next
returns-clause-next g c =
    let ps = c.self.inside.heap.places in let xs = c.self.inside.heap.items in let i = c.args.i in let k = c.self.invariant.0 in let e = ap (λ (v : List Ptr × _). nth v.0 i) c.self.view_is ∙ c.requires in
    let m = c.take-node.result.0 in let is = c.take-node.ensures.value in let next : suc i ≡ i + 1 = omega arith in
    its_next ps xs k i (at_node ps xs k i c.args.at e) m is ∙ ap (nth ps) next ∙ ap (λ (v : List Ptr × _). nth v.0 (i + 1)) c.self.view_is

pub returns-clause-within : goal.returns-clause-within
returns-clause-within g c =
    let ps = c.self.inside.heap.places in let xs = c.self.inside.heap.items in let i = c.args.i in let k = c.self.invariant.0 in let e = ap (λ (v : List Ptr × _). nth v.0 i) c.self.view_is ∙ c.requires in
    let whole = len-map record_of xs ∙ sym k.placed in let seen = ap (λ (v : List Ptr × _). length v.1) c.self.view_is in omega (arith, at_node ps xs k i c.args.at e, len-map record_of xs, seen)
