use Rattle.std.proofs.lemmas.Grind.{common_steps}
use Rattle.std.proofs.Common.{◌≡◌, suc, ◌-◌, ◌<◌, [], ◌∷◌, ◌++◌, length, refl, sym, ap, ◌∙◌, arith, length-append, None}
use Rattle.std.proofs.lemmas.List.{map-append}
use Rattle.std.proofs.Math.Seq.{map-set_same}
use Rattle.fst_chain.specs.declared.node.Node.{Node}
use Rattle.fst_chain.specs.Chained.{record_of, tail_of, tails_of}
use Rattle.fst_chain.proofs.Pushed.{last_at, place_at-push, last_some, pushed_first, pushed_last}
use Rattle.fst_chain.proofs.Tails.{same_tails}
use Rattle.fst_chain.proofs.chain.Chain.link.Goals.{in-None, in-Some-tail}
use Rattle.fst_chain.proofs.chain.Chain.link.Goals as goal

pub at_mut-before-requires : goal.at_mut-before-requires
at_mut-before-requires g c =
    let n : Node g.row.T.Denot = record { next = None; prev = c.self.inside.tail; item = c.args.item; payload = c.in-Some.payload } in
    let k = c.self.invariant.0 in let ps = c.self.inside.heap.places in let e = sym k.from_tail ∙ c.in-Some-tail.is in
    let i = c.self.inside.len - 1 in let some : 0 < length ps = last_some _ ps _ e refl in let at : length ps ≡ suc i = omega (arith, k.count, k.placed, some) in
    rw (c.put-at.ensures.places, c.put-at.ensures.items)
    (omega (arith, k.count, length-append c.self.inside.heap.items (n ∷ [])), last_at _ ps c.in-Some-tail.last i e at ∙ sym (place_at-push ps c.put-at.result.ptr i (omega (arith, at))))

pub invariant_of-self : goal.invariant_of-self
invariant_of-self g c =
    let n : Node g.row.T.Denot = record { next = None; prev = c.self.inside.tail; item = c.args.item; payload = c.in-Some.payload } in let xs = c.self.inside.heap.items in
    let room = c.in-Some.ensures.room in
    let tails : tails_of (xs ++ n ∷ []) ≡ c.put-at.new.self.tails =
    map-append tail_of xs (n ∷ []) ∙ (λ j. c.self.invariant.2 j ++ (room.1 j, room.2 j) ∷ []) ∙ sym c.put-at.ensures.tails in
    elim c.match-self.branch [
      | in-None w ↦ rw (w.self-inside-is, c.put-at.ensures.places, c.put-at.ensures.items)
          (pushed_first c.self.inside.heap.places xs c.self.invariant.0 w.in-None.is c.put-at.result n refl refl, c.put-at.ensures.alloc ∙ c.self.invariant.1, tails)
      | in-Some-tail w ↦ rw (w.self-inside-is, c.put-at.ensures.places, c.put-at.ensures.items) (
        pushed_last c.self.inside.heap.places xs c.self.invariant.0 w.in-Some-tail.last w.in-Some-tail.is c.put-at.result n w.at_mut-before.result.now _ refl refl
            (rw (← c.put-at.ensures.items) w.at_mut-before.ensures.value) refl refl,
        c.put-at.ensures.alloc ∙ c.self.invariant.1,
        same_tails (xs ++ n ∷ []) (c.self.inside.len - 1) _ w.at_mut-before.result.now refl (rw (← c.put-at.ensures.items) w.at_mut-before.ensures.value) ∙ tails,
      )
    ]

pub returns-clause-records : goal.returns-clause-records
returns-clause-records g c =
    let n : Node g.row.T.Denot = record { next = None; prev = c.self.inside.tail; item = c.args.item; payload = c.in-Some.payload } in let xs = c.self.inside.heap.items in
    elim c.match-self.branch [
      | in-None w ↦ rw (w.self-inside-is, c.put-at.ensures.items, map-append record_of xs (n ∷ []), c.in-Some.ensures.payload, ← c.self.view_is) refl
      | in-Some-tail w ↦ rw (w.self-inside-is)
          (map-set_same record_of c.put-at.new.self.items (c.self.inside.len - 1) _ w.at_mut-before.result.now (ap record_of w.at_mut-before.ensures.value)
          ∙ rw (c.put-at.ensures.items, map-append record_of xs (n ∷ []), c.in-Some.ensures.payload, ← c.self.view_is) refl)
    ]

pub overflow_sub-self-inside : goal.overflow_sub-self-inside
overflow_sub-self-inside g c = grind (arith, common_steps)

pub overflow_add-self : goal.overflow_add-self
overflow_add-self g c = grind (arith, common_steps)
