use Rattle.std.proofs.lemmas.Grind.{common_steps}
use Rattle.std.proofs.{Common.{◌∙◌, ◌<◌, ◌++◌, ◌∷◌, ◌⊎◌, [], map, Contains, set, length, ap, arith, sym, subst}, lemmas.List.{length-map, length-set}, Math.Seq.map-set_same}
use Rattle.fst_heads.specs.Heads.{patches_of}
use Rattle.fst_levels.specs.Needing.{IsSpared, Needing}
use Rattle.fst_levels.proofs.{OneOfMany.{told_here, told_beside, told_was}, PutMore.{numbers_in, put_told, put_joins}}
use Rattle.fst_levels.proofs.needs.Needs.put_one.Goals as goal

pub invariant_of-self : goal.invariant_of-self
invariant_of-self c =
    let s = c.self.inside in
    let ls = s.lists.items in
    let was = c.index_mut-list.result.now in
    let new = c.push_reserved.new.self in
    let lt : s.block < length ls = omega (arith, c.requires.block, ap (λ (v : Needing). v.block) c.self.view_is, ap (λ (v : Needing). length v.lists) c.self.view_is, length-map ls numbers_in) in
    let len = told_here (λ l. l.len) ls s.block new 0 lt in
    let cap = told_here (λ l. l.cap) ls s.block new 0 lt in
    let was_len = told_was (λ l. l.len) ls s.block was 0 lt c.index_mut-list.ensures.value in
    let was_cap = told_was (λ l. l.cap) ls s.block was 0 lt c.index_mut-list.ensures.value in
    let one = ap (λ (v : Needing). v.room) c.self.view_is in
    omega (arith, len, cap, was_len, was_cap, one, c.requires.room, c.self.invariant, c.push_reserved.ensures.len, c.push_reserved.ensures.capacity)

pub returns-then-not-is_told-clause-put : goal.returns-then-not-is_told-clause-put
returns-then-not-is_told-clause-put c =
    let s = c.self.inside in
    let ls = s.lists.items in
    let was = c.index_mut-list.result.now in
    let new = c.push_reserved.new.self in
    let lt : s.block < length ls = omega (arith, c.requires.block, ap (λ (v : Needing). v.block) c.self.view_is, ap (λ (v : Needing). length v.lists) c.self.view_is, length-map ls numbers_in) in
    rw (← c.self.view_is)
    (put_joins (patches_of c.args.heads.now.list.items) s.block c.args.number (map numbers_in ls) (map numbers_in (set ls s.block new))
    (length-map (set ls s.block new) numbers_in ∙ (length-set ls s.block new ∙ sym (length-map ls numbers_in)))
    (λ k other. told_beside numbers_in ls s.block new k [] other)
    (told_here numbers_in ls s.block new [] lt ∙ (c.push_reserved.ensures.items ∙ ap (λ ns. ns ++ c.args.number ∷ []) (sym (told_was numbers_in ls s.block was [] lt c.index_mut-list.ensures.value)))))

pub returns-else-not-is_told-clause-put : goal.returns-else-not-is_told-clause-put
returns-else-not-is_told-clause-put c =
    let s = c.self.inside in
    let ls = s.lists.items in
    let was = c.index_mut-list.result.now in
    let lt : s.block < length ls = omega (arith, c.requires.block, ap (λ (v : Needing). v.block) c.self.view_is, ap (λ (v : Needing). length v.lists) c.self.view_is, length-map ls numbers_in) in
    let same = map-set_same numbers_in ls s.block was was (ap numbers_in c.index_mut-list.ensures.value) in
    let row = c.deref.ensures.value ∙ sym (told_was numbers_in ls s.block was [] lt c.index_mut-list.ensures.value) in
    rw (← c.self.view_is, same)
    (put_told (patches_of c.args.heads.now.list.items) s.block c.args.number (map numbers_in ls)
    (subst (λ ns. Contains ns c.args.number ⊎ IsSpared (patches_of c.args.heads.now.list.items) s.block ns c.args.number) row (c.is_told.ensures c.if-not-is_told.false)))

pub index_mut-list-requires : goal.index_mut-list-requires
index_mut-list-requires c = grind (arith, common_steps)

pub push_reserved-requires : goal.push_reserved-requires
push_reserved-requires c = grind (arith, common_steps)

pub invariant_of-self-else-not-is_told : goal.invariant_of-self-else-not-is_told
invariant_of-self-else-not-is_told c = grind (arith, common_steps)
