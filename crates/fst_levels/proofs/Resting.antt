-- What the list of a block tells of the patches of the heads.
use Rattle.std.proofs.Common.{◌≡◌, ◌<◌, ◌∙◌, ℕ, List, [], ◌∷◌, Option, Some, None, IfOk, IfErr, IfSome, IfNone, Ok, Err, Result, Vec, Global, length, get_or, sym, ap, subst, arith}
use Rattle.std.proofs.lemmas.List.{length-map, get_or-map}
use Rattle.fst_types.specs.{Patches.Patch, Writable.{IsInMemoryOn, IsWritableSet, HasReady, IsHeld, IsLeastHeld}, declared.fault.Fault.Fault}
use Rattle.fst_types.specs.declared.number.PatchNo.{PatchNo}
use Rattle.fst_heads.specs.{Heads.patches_of, Keeps.{IsInside, Keeps, Tallies}}
use Rattle.fst_heads.specs.{Lists.{Entry, entries_of, entries_on, AreListed}, Names.numbers_of, Nodes.{Node, nodes_of, patches_in}, declared.head.Head.Head}
use Rattle.fst_heads.specs.{declared.lists.Listed.Listed, declared.standing.Standing.Standing, Standings.{held_on, ready_on}}
use Rattle.fst_heads.proofs.AtNumber.{patches_in_nodes}
use Rattle.fst_levels.proofs.{Ready.{ready_exact, ready_some, held_none, held_first}, Seen.lawful_nodes, Shelves.shelved}
use Rattle.fst_types.specs.declared.fault.Fault.TheVariants as fault

-- the list of one block
pub listed_at : (heads : List Head) (blocks b : ℕ) (lists : List (Vec Listed Global)) (l : Vec Listed Global) → AreListed (patches_in (nodes_of heads)) blocks (shelved lists) → b < blocks
    → l ≡ get_or lists b l → entries_of l.items ≡ entries_on b (patches_of heads)
listed_at heads blocks b lists l A lt there =
    let within : b < length lists = omega (arith, lt, A.long, length-map lists (λ v. entries_of v.items)) in
    let here : get_or (shelved lists) b [] ≡ entries_of l.items = get_or-map (λ v. entries_of v.items) lists b l [] within ∙ ap (λ v. entries_of v.items) (sym there) in
    sym here ∙ (A.each b [] lt ∙ ap (entries_on b) (patches_in_nodes heads))

-- how many lists there are
pub shelves : (nodes : List Node) (blocks : ℕ) (lists slice : List (Vec Listed Global)) → AreListed (patches_in nodes) blocks (shelved lists) → slice ≡ lists → length slice ≡ blocks
shelves nodes blocks lists slice A e = ap length e ∙ (sym (length-map lists (λ v. entries_of v.items)) ∙ A.long)

module _ (heads : List Head) (numbers blocks : ℕ) (marks : List _) (lists : List (List Entry)) (standings : List Standing) (queue : List ℕ) (cap b : ℕ)
    (K : Keeps (patches_of heads) numbers blocks marks) (T : Tallies (nodes_of heads) numbers blocks lists standings queue cap) where
  abbrev nodes : List Node
  nodes = nodes_of heads

  pub chosen_ready : (r : Result (Vec PatchNo Global) Fault) → IfOk r (λ chosen. numbers_of chosen.items ≡ ready_on b nodes) → IfOk r (λ chosen. IsWritableSet (patches_of heads) b (numbers_of chosen.items))
  chosen_ready (Ok chosen) e =
      subst (IsWritableSet (patches_of heads) b) (sym e)
      (subst (λ ps. IsWritableSet ps b (ready_on b nodes)) (patches_in_nodes heads) (ready_exact nodes numbers blocks (lawful_nodes heads numbers K.lawful) T.settled b))
  chosen_ready (Err f) e = tt

  pub chosen_refused : (r : Result (Vec PatchNo Global) Fault) → IfErr r (λ f. (0 < length (ready_on b nodes)) × (f ≡ fault.Memory)) → IfErr r (λ f. HasReady (patches_of heads) b × (f ≡ fault.Memory))
  chosen_refused (Ok chosen) e = tt
  chosen_refused (Err f) e = (subst (λ ps. HasReady ps b) (patches_in_nodes heads) (ready_some nodes numbers blocks (lawful_nodes heads numbers K.lawful) T.settled b e.0), e.1)

  pub none_held : (r : Option PatchNo) → IfNone r (held_on b nodes ≡ []) → IfNone r ((p : Patch) → IsHeld (patches_of heads) b p → ⊥)
  none_held None e = λ p h. held_none nodes numbers blocks (lawful_nodes heads numbers K.lawful) T.settled b e p (subst (λ ps. IsHeld ps b p) (sym (patches_in_nodes heads)) h)
  none_held (Some n) e = tt

  pub least_held : (r : Option PatchNo) → IfSome r (λ no. (rest : List ℕ) × (held_on b nodes ≡ no.0 ∷ rest)) → IfSome r (λ no. IsLeastHeld (patches_of heads) b no.0)
  least_held None e = tt
  least_held (Some n) e = subst (λ ps. IsLeastHeld ps b n.0) (patches_in_nodes heads) (held_first nodes numbers blocks (lawful_nodes heads numbers K.lawful) T.settled b n.0 e.0 e.1)

-- of no other block there is a change
module _ (patches : List Patch) (blocks b : ℕ) (inside : IsInside patches blocks) (past : b < blocks → ⊥) where
  pub none_there : (p : Patch) → IsInMemoryOn patches b p → ⊥
  none_there p m = past (inside p b m.head m.change)

  pub empty_set : IsWritableSet patches b []
  empty_set = record {
    rising = λ k lt. absurd (omega (arith, lt));
    only = λ n c. absurd (omega (arith, c.1));
    each = λ n w. absurd (none_there w.0 w.2.in_memory);
  }
