-- What is prepared may be put down as it is, for a group once its head is not open; and what the fields are then.
use Rattle.std.proofs.{Common.{All, ◌≡◌, ◌≤◌, ◌<◌, ◌+◌, ◌++◌, ◌∷◌, [], ◌∙◌, ℕ, List, Option, Some, None, IfSome, inr, option_map, Contains, false, length, count_by, get_or, set, arith, refl, sym, ap, subst}, lemmas.{List.{length-map, Elements.Contains-get_or}, Option.IfSome_then}}
use Rattle.fst_types.specs.{Dependencies.IsLiveNumber, Facts.SparseAreLawful, Gates.IsOpenNumber, Limits.max_heads, Patches.Patch, Tests.is_live}
use Rattle.fst_heads.specs.{Heads.patches_of, Keeps.{Keeps, Tallies}, Lists.entry, Names.numbers_of, Nodes.{node_of, nodes_of, patches_in}, Pendings.is_pending}
use Rattle.fst_heads.specs.{Standings.{entered, standing_of}, Tests.is_hard_kind, declared.standing.Standing.Standing}
use Rattle.fst_graph.specs.declared.sparse.Sparse.TheInside.{Inside}
use Rattle.fst_graph.specs.{Known.{Known, Prepared}, Ready.{change_of, prepared_of, IsReady, IsReadyFor, MayBePut}}
use Rattle.fst_graph.specs.{Sound.{AreSound, IsPrepared, remembered_of, view_of}, declared.prepared.Gates.Gates, declared.prepared.Prepared.Prepared as Stored}
use Rattle.fst_heads.proofs.{Added.{new_node, with_node}, AtNumber.patches_in_nodes, Placed.patch_in, Stands.stand_change, Touching.keeps_change}
use Rattle.fst_levels.proofs.{Seen.lawful_nodes, Shelves.shelved}
use Rattle.fst_graph.proofs.{Listed.{listed_change, live_dependency}, Readied.hard_may, Sound.{as_many_lists, prepared_is}, Tallied.tallies_made}
use Rattle.fst_heads.specs.declared.pending.Pending.TheVariants as pending

-- the patches with the change, and what stands beside them then
pub record IsPutDown (s : Inside) (p : Stored) : Type 0 where
  pub prepared : IsPrepared s p
  pub ready : IsReady (patches_of s.columns.heads.list.items) (remembered_of s.columns.heads.list.items) s.numbers s.blocks p
  pub few : count_by is_live (patches_of s.columns.heads.list.items) < max_heads
  pub shelf : p.block < length s.lists.items
  pub given : (q : ℕ) → Contains p.dependencies.items q → q ≤ s.numbers
  pub keeps : Keeps (patches_of s.columns.heads.list.items ++ change_of s.numbers p ∷ []) (s.numbers + 1) s.blocks (s.columns.ends.up.walk.marks ++ false ∷ [])
  pub counted : (own : Standing) → own ≡ get_or s.standings p.block own → own ≡ standing_of (nodes_of s.columns.heads.list.items) p.block (get_or s.standings p.block own)
  pub tallies : (own : Standing) → Tallies (with_node (nodes_of s.columns.heads.list.items) (change_of s.numbers p)) (s.numbers + 1) s.blocks
      (set (shelved s.lists.items) p.block (get_or (shelved s.lists.items) p.block [] ++ entry (change_of s.numbers p) ∷ []))
      (set s.standings p.block (entered (is_hard_kind (change_of s.numbers p).kind) (is_pending (new_node (nodes_of s.columns.heads.list.items) (change_of s.numbers p)).pending (pending.Block p.block)) (s.numbers + 1) (get_or s.standings p.block own)))
      s.columns.queue.items s.columns.queue.cap

-- and where it is for a group, its head is not open
pub record IsPutNow (s : Inside) (p : Stored) : Type 0 where
  pub down : IsPutDown s p
  pub closed : IfSome p.gates (λ g. IsOpenNumber (patches_of s.columns.heads.list.items) g.head → ⊥)

-- what may be put for a group whose head is not open is ready as it is
ready_shut : (p : Stored) (old kept : List Patch) (n blocks : ℕ) → MayBePut old kept n blocks p → IfSome p.gates (λ g. IsOpenNumber old g.head → ⊥) → IsReady old kept n blocks p
ready_shut p old kept n blocks = by_gates p.gates
  where
    by_gates : (g : Option Gates) → IsReadyFor g old kept n blocks p → IfSome g (λ x. IsOpenNumber old x.head → ⊥) → IsReady old kept n blocks p
    by_gates None ready closed = ready
    by_gates (Some gates) ready closed = ready.made old (inr (closed, refl))

-- what contracts see of the gates is their head
head_shut : (o : Option Stored) (n : ℕ) (q : Prepared) (p : Stored) (old : List Patch) → option_map (prepared_of n) o ≡ Some q → o ≡ Some p → IfSome q.group (λ head. IsOpenNumber old head → ⊥) → IfSome p.gates (λ g. IsOpenNumber old g.head → ⊥)
head_shut o n q p old seen kept shut = by_gates p.gates (subst (λ g. IfSome g (λ head. IsOpenNumber old head → ⊥)) (sym (ap (λ x. x.group) shown)) shut)
  where
    shown : prepared_of n p ≡ q
    shown = same (prepared_of n p) q (sym (ap (option_map (prepared_of n)) kept) ∙ seen)
      where
        same : (x y : Prepared) → Some x ≡ Some y → x ≡ y
        same x y e = cc

    by_gates : (g : Option Gates) → IfSome (option_map (λ x. x.head) g) (λ head. IsOpenNumber old head → ⊥) → IfSome g (λ x. IsOpenNumber old x.head → ⊥)
    by_gates None s = tt
    by_gates (Some gates) s = s

module _ {s : Inside} (S : AreSound s) where
  pub put_down : (p : Stored) → s.prepared ≡ Some p → IsReady (patches_of s.columns.heads.list.items) (remembered_of s.columns.heads.list.items) s.numbers s.blocks p → count_by is_live (patches_of s.columns.heads.list.items) ≤ length (remembered_of s.columns.heads.list.items) → IsPutDown s p
  put_down p kept ready most =
      let old = patches_of s.columns.heads.list.items in
      let nodes = nodes_of s.columns.heads.list.items in
      let made = change_of s.numbers p in
      let T = S.tallies in
      let free = (prepared_is S p kept).waits in
      let few : count_by is_live old < max_heads = let full = ready.clear.1.1.0 in omega (arith, full, most) in
      let keeps = keeps_change old s.numbers s.blocks s.columns.ends.up.walk.marks S.keeps p.block p.span.at p.span.len (numbers_of p.names.items) p.told.grade p.dependencies.items ready.depends ready.inside (hard_may p.told.grade _ ready.graded) in
      let lawful = subst (λ ps. SparseAreLawful (ps ++ made ∷ []) (s.numbers + 1)) (sym (patches_in_nodes s.columns.heads.list.items)) keeps.lawful in
      let live : (m : ℕ) → Contains p.dependencies.items m → IsLiveNumber (patches_in nodes) m =
      λ m h. subst (λ ps. IsLiveNumber ps m) (sym (patches_in_nodes s.columns.heads.list.items)) (live_dependency old (numbers_of p.names.items) p.block p.span.at p.span.len m (ready.depends.only m h)) in
      let newest : All (λ x. x.patch.number < s.numbers + 1) nodes =
      λ k d lt. let n = S.keeps.lawful.one_place_each.numbered _ (subst (λ ps. Contains ps (get_or nodes k d).patch) (patches_in_nodes s.columns.heads.list.items) (patch_in nodes _ (Contains-get_or nodes k d lt))) in let le = n.1 in omega (arith, le) in
      record {
        prepared = prepared_is S p kept;
        ready = ready;
        few = few;
        shelf = let lt = ready.inside in omega (arith, lt, as_many_lists S);
        given = λ q h.
            let l = live_dependency old (numbers_of p.names.items) p.block p.span.at p.span.len q (ready.depends.only q h) in
            let k = (S.keeps.lawful.one_place_each.numbered l.patch l.head).1 in
            let e = l.numbered in
            omega (arith, k, e);
        keeps = keeps;
        counted = λ own there. there ∙ T.standing.each p.block own ready.inside;
        tallies = λ own. tallies_made nodes s.numbers s.blocks _ _ _ _ _ _ s.columns.queue.cap made (lawful_nodes s.columns.heads.list.items s.numbers S.keeps.lawful) lawful T refl ready.depends.rising live
            (λ b on. let same : p.block ≡ b = cc in subst (λ m. m < s.blocks) same ready.inside)
            (listed_change nodes s.blocks _ made p.block p.span.at p.span.len p.told.grade [] T.listed refl refl ready.inside)
            (stand_change nodes s.blocks s.standings made p.block p.span.at p.span.len p.told.grade own refl refl ready.inside newest T.standing)
            (omega (arith, free, s.columns.heads.list.ok.0, length-map s.columns.heads.list.items node_of));
      }

  -- a number is free for what is prepared
  pub number_free : (p : Stored) → s.prepared ≡ Some p → s.numbers < 4294967295
  number_free p kept = by_gates p.gates (prepared_is S p kept).ready
    where
      by_gates : (g : Option Gates) → IsReadyFor g (patches_of s.columns.heads.list.items) (remembered_of s.columns.heads.list.items) s.numbers s.blocks p → s.numbers < 4294967295
      by_gates None ready = let left = ready.clear.1.1.1.0 in omega (arith, left)
      by_gates (Some gates) ready = let left = ready.room.1.0 in omega (arith, left)

  pub put_now : (p : Stored) (known : Known) → count_by is_live (patches_of s.columns.heads.list.items) ≤ length (remembered_of s.columns.heads.list.items) → ((n : ℕ) → IsOpenNumber (patches_of s.columns.heads.list.items) n → IsOpenNumber (remembered_of s.columns.heads.list.items) n)
      → view_of s ≡ known
      → ((q : Prepared) × (known.prepared ≡ Some q) × IfSome q.group (λ head. IsOpenNumber known.heads head → ⊥)) → s.prepared ≡ Some p
      → IsPutNow s p
  put_now p known most stays seen q kept =
      let old = patches_of s.columns.heads.list.items in
      let shut = IfSome_then q.0.group (subst (λ (v : Known). IfSome q.0.group (λ head. IsOpenNumber v.heads head → ⊥)) (sym seen) q.2) (λ head not_open is_open. not_open (stays head is_open)) in
      let closed = head_shut s.prepared s.numbers q.0 p old (ap (λ (k : Known). k.prepared) seen ∙ q.1) kept shut in
      record { down = put_down p kept (ready_shut p old (remembered_of s.columns.heads.list.items) s.numbers s.blocks (prepared_is S p kept).ready closed) most; closed = closed }
