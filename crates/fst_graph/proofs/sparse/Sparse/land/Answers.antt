use Rattle.std.proofs.{Common.{vec_capacity, [], rules, ◌≡◌, ◌<◌, ◌∙◌, inl, inr, count_by, get_or, map, sym, ap, subst, length, arith, refl}, lemmas.Bool.cases_lt, lemmas.List.length-map}
use Rattle.fst_types.specs.{Cascade.IsCascadeOf, Writing.landed}
use Rattle.fst_heads.specs.{Heads.patches_of, Keeps.{IsInside, Tallies}, Lists.{entries_of, AreListed}, Nodes.{is_forgotten_in, node_of, nodes_of, patches_in, AreSettled}, Spreading.{IsSpreadOf, lands}, Standings.{AllStand, is_flying_on, without_changes}, Stretches.LieIn, declared.standing.Standing.Standing}
use Rattle.fst_types.proofs.Landing.{alike_landed}
use Rattle.fst_heads.proofs.{AtNumber.patches_in_nodes, Beside.{beside_landed, landed_few}, Carried.{linked_landed, distinct_landed}}
use Rattle.fst_heads.proofs.{Counts.flying_counted, Landed.landed_map, Listing.{nothing_flies, is_off}, Starting.{starts_landed, patches_landed}}
use Rattle.fst_levels.proofs.{Seen.{seen, lawful_nodes}, Shelves.shelved}
use Rattle.fst_graph.specs.Sound.{remembered_of}
use Rattle.fst_graph.proofs.{Borne.{inside_nodes, none_outside, stand_land}, Flagged.{flags_map, flags_of, flags_spread, remembered_as, remembered_still}, Kept.{covered_moved, keeps_landed}, NeedsNow.needing_landed}
use Rattle.fst_graph.proofs.{Ranks.leveled_moved, RememberedRows.{landed_number, landed_remembered}, Sound.{as_many_lists, as_many_standings, view_gone}}
use Rattle.fst_graph.proofs.{Tallied.tallies_landed, sparse.Sparse.land.Goals.After-cascade-landed}
use Rattle.fst_graph.proofs.sparse.Sparse.land.Goals as goal

pub land_block-requires : goal.land_block-requires
land_block-requires c =
    let s = c.self.inside in
    let heads = s.columns.heads.list.items in
    let b = c.args.block.0 in
    let S = c.self.invariant.0 in
    let T = S.tallies in
    let own = c.at in
    let told : b < s.blocks → own.result ≡ get_or s.standings b without_changes = λ inside.
    own.ensures.inside without_changes (omega (arith, inside, T.standing.long)) in
    record {
      inside = subst (IsInside (patches_of heads)) (sym (as_many_lists S)) S.keeps.inside;
      listed =
          let lists = s.lists.items in
          let long = sym (as_many_lists S) in
          subst (λ ps. AreListed ps (length lists) (shelved lists)) (patches_in_nodes heads) (subst (λ n. AreListed (patches_in (nodes_of heads)) n (shelved lists)) long T.listed);
      flying = elim (cases_lt b s.blocks) [
        | inl inside ↦
            let many : own.result.flying ≡ count_by (is_flying_on b) (nodes_of heads) = ap (λ (t : Standing). t.flying) (told inside ∙ T.standing.each b without_changes inside) in
            omega (arith, flying_counted b heads, many)
        | inr past ↦
            let none = nothing_flies b heads (λ p h. is_off b p.kind (λ on. let lt = S.keeps.inside p b h on in omega (arith, lt, past))) in
            ap length none ∙ sym (ap (λ (t : Standing). t.flying) (own.ensures.outside (omega (arith, past, T.standing.long))))
      ];
      lie = elim (cases_lt b s.blocks) [
        | inl inside ↦ subst (λ (t : Standing). LieIn (is_flying_on b) (nodes_of heads) t.flying_in) (sym (told inside)) (T.standing.lie b without_changes inside).flying
        | inr past ↦ none_outside (nodes_of heads) s.blocks b own.result.flying_in (inside_nodes heads s.blocks S.keeps.inside) past
      ];
      idle = T.idle;
      room = omega (arith, T.room, length-map heads node_of);
    }

pub cascade-landed-requires : goal.cascade-landed-requires
cascade-landed-requires c = record {
  start =
      let heads = c.self.inside.columns.heads.list.items in
      let n = c.self.inside.numbers in
      let blocks = c.self.inside.blocks in
      let K = c.self.invariant.0.keeps in
      let T = c.self.invariant.0.tallies in
      rw (c.land_block.ensures.nodes, c.land_block.ensures.queued, ← patches_in_nodes heads, c.land.ensures.len, as_many_standings c.self.invariant.0)
      (starts_landed (nodes_of heads) n blocks c.args.block.0 (lawful_nodes heads n K.lawful) (inside_nodes heads blocks K.inside) T.settled);
  linked = rw c.land_block.ensures.nodes (linked_landed (nodes_of c.self.inside.columns.heads.list.items) c.args.block.0 c.self.invariant.0.tallies.linked);
  distinct = rw c.land_block.ensures.nodes (distinct_landed (nodes_of c.self.inside.columns.heads.list.items) c.args.block.0 c.self.invariant.0.tallies.distinct);
  standing =
      let heads = c.self.inside.columns.heads.list.items in
      let blocks = c.self.inside.blocks in
      let T = c.self.invariant.0.tallies in
      rw (c.land_block.ensures.nodes, c.land.ensures.len, as_many_standings c.self.invariant.0)
      (stand_land (nodes_of heads) blocks c.args.block.0 c.self.inside.standings c.land.new.self (inside_nodes heads blocks c.self.invariant.0.keeps.inside) T.standing
      (λ d lt. c.land.ensures.inside d (omega (arith, lt, as_many_standings c.self.invariant.0))) (λ le. c.land.ensures.outside (omega (arith, le, as_many_standings c.self.invariant.0))));
  listed = rw c.land_block.ensures.nodes (landed_map (lands c.args.block.0) (nodes_of c.self.inside.columns.heads.list.items) c.self.inside.landed.items (λ x. record { number = landed_number c.args.block.0 x.patch; pending = refl; forgotten = refl }) c.self.invariant.1.told);
  room =
      let same = ap length c.land_block.ensures.nodes in (
        search rules,
        omega (arith, same, length-map c.land_block.new.heads.list.items node_of, length-map (nodes_of c.self.inside.columns.heads.list.items) (lands c.args.block.0), c.self.invariant.0.tallies.room, c.land_block.ensures.capacity),
        omega (arith, same, length-map c.land_block.new.heads.list.items node_of, length-map (nodes_of c.self.inside.columns.heads.list.items) (lands c.args.block.0), length-map c.self.inside.columns.heads.list.items node_of, c.self.invariant.1.shelf),
      );
}

-- the patches whose write landed, and what came to rest by that
cascade : (c : After-cascade-landed) → IsCascadeOf (map (landed c.args.block.0) (patches_of c.self.inside.columns.heads.list.items)) (patches_of c.cascade-landed.new.heads.list.items)
cascade c =
    let heads = c.self.inside.columns.heads.list.items in
    let b = c.args.block.0 in
    let was : patches_of c.land_block.new.heads.list.items ≡ map (landed b) (patches_of heads) =
    seen c.land_block.new.heads.list.items _ c.land_block.ensures.nodes ∙ (patches_landed (nodes_of heads) b ∙ ap (map (landed b)) (patches_in_nodes heads)) in
    subst (λ ps. IsCascadeOf ps (patches_of c.cascade-landed.new.heads.list.items)) was c.cascade-landed.ensures.placed

settled : (c : After-cascade-landed) → AreSettled (nodes_of c.cascade-landed.new.heads.list.items) c.self.inside.blocks
settled c = subst (AreSettled (nodes_of c.cascade-landed.new.heads.list.items)) (c.land.ensures.len ∙ as_many_standings c.self.invariant.0) c.cascade-landed.ensures.settled

spread : (c : After-cascade-landed) → IsSpreadOf (map (lands c.args.block.0) (nodes_of c.self.inside.columns.heads.list.items)) (nodes_of c.cascade-landed.new.heads.list.items)
spread c = subst (λ ns. IsSpreadOf ns (nodes_of c.cascade-landed.new.heads.list.items)) c.land_block.ensures.nodes c.cascade-landed.ensures.spread

-- none is marked by it
same_flags : (c : After-cascade-landed) → flags_of (nodes_of c.cascade-landed.new.heads.list.items) ≡ flags_of (nodes_of c.self.inside.columns.heads.list.items)
same_flags c =
    let nodes = nodes_of c.self.inside.columns.heads.list.items in
    let b = c.args.block.0 in
    flags_spread (map (lands b) nodes) (nodes_of c.cascade-landed.new.heads.list.items) (spread c) ∙ flags_map (lands b) (λ x. ap (λ n. (n, x.forgotten)) (landed_number b x.patch)) nodes

pub overflow_sub-self : goal.overflow_sub-self
overflow_sub-self c =
    let new = c.cascade-landed.new.heads.list.items in
    let T = c.self.invariant.0.tallies in
    landed_few c.self.inside.columns.heads.list.items c.land_block.new.heads.list.items new (lands c.args.block.0) c.self.inside.blocks c.self.inside.live c.cascade-landed.result c.self.inside.columns.ends.up.crossed.items c.land_block.ensures.nodes (λ x. refl) T.settled (settled c)
    c.cascade-landed.ensures.landed c.self.invariant.0.beside

pub invariant_of-self : goal.invariant_of-self
invariant_of-self c =
    let heads = c.self.inside.columns.heads.list.items in
    let nodes = nodes_of heads in
    let old = patches_of heads in
    let mid = c.land_block.new.heads.list.items in
    let new = c.cascade-landed.new.heads.list.items in
    let n = c.self.inside.numbers in
    let blocks = c.self.inside.blocks in
    let b = c.args.block.0 in
    let lists = c.self.inside.lists.items in
    let T = c.self.invariant.0.tallies in
    let long = as_many_lists c.self.invariant.0 in
    let at = (goal.at.invariant_of-self c).After-cascade-landed in
    let standing = subst (λ k. AllStand (nodes_of new) k c.cascade-landed.new.standings) (c.land.ensures.len ∙ as_many_standings c.self.invariant.0) c.cascade-landed.ensures.standing in
    let kept = keeps_landed old (patches_of new) n blocks b c.self.inside.columns.ends.up.walk.marks c.self.inside.columns.ends.up.walk.marks c.self.invariant.0.keeps (cascade at) refl in
    let listed : AreListed (patches_in (map (lands b) nodes)) blocks (shelved c.land_block.new.lists.items) =
    subst (λ k. AreListed (patches_in (map (lands b) nodes)) k (shelved c.land_block.new.lists.items)) long
    (subst (λ ps. AreListed ps (length lists) (shelved c.land_block.new.lists.items)) (seen mid _ c.land_block.ensures.nodes) c.land_block.ensures.listed) in
    let tallied : Tallies (nodes_of new) n blocks (shelved c.land_block.new.lists.items) c.cascade-landed.new.standings [] (vec_capacity c.self.inside.columns.queue) =
    tallies_landed nodes (nodes_of new) n blocks b _ _ _ _ _ _ (lawful_nodes new n kept.lawful) T listed (spread at) (settled at) standing in
    let shelves = c.land_block.new.lists.items in
    let as_many : length shelves ≡ blocks = sym (length-map shelves (λ l. entries_of l.items)) ∙ tallied.listed.long in
    let listed_now : AreListed (patches_of new) (length shelves) (shelved shelves) =
    subst (λ ps. AreListed ps (length shelves) (shelved shelves)) (patches_in_nodes new) (subst (λ k. AreListed (patches_in (nodes_of new)) k (shelved shelves)) (sym as_many) tallied.listed) in (
      record {
        keeps = kept;
        beside = beside_landed heads mid new (lands b) blocks c.self.inside.live c.cascade-landed.result c.self.inside.columns.ends.up.crossed.items c.land_block.ensures.nodes (λ x. refl) T.settled (settled at) c.cascade-landed.ensures.landed c.self.invariant.0.beside;
        tallies = rw (c.cascade-landed.ensures.empty, c.cascade-landed.ensures.capacity, c.land_block.ensures.capacity) tallied;
        covered = c.clear_landed.ensures (patches_of new) (rw c.deref.ensures.value listed_now) blocks (covered_moved (alike_landed old (patches_of new) n b c.self.invariant.0.keeps.lawful (cascade at)) kept c.self.invariant.0.covered);
        along = c.self.invariant.0.along;
        leveled =
            let after = leveled_moved (alike_landed old (patches_of new) n b c.self.invariant.0.keeps.lawful (cascade at)) c.self.invariant.0.leveled in
            c.sink_floor.ensures.leveled (patches_of new) kept.lawful.one_place_each.rising (rw c.deref-2.ensures.value listed_now) blocks after;
        needing = needing_landed {kept = c.land-2.new.self} old (patches_of new) n b c.self.invariant.0.keeps.lawful kept.lawful (cascade at) c.land-2.ensures.lists c.land-2.ensures.ways c.self.invariant.0.needing;
        given = λ w k. c.self.invariant.0.given w (let l = c.land-2.ensures.ways w k in l.0);
        prepared = rw c.let_go.ensures tt;
      },
      rw c.let_go.ensures (remembered_still heads new (same_flags at) c.cascade-landed.ensures.listed c.cascade-landed.ensures.shelf c.self.invariant.1),
    )

pub returns-clause-landed : goal.returns-clause-landed
returns-clause-landed c =
    let at = (goal.at.returns-clause-landed c).After-cascade-landed in
    let heads = c.self.inside.columns.heads.list.items in
    let new = c.cascade-landed.new.heads.list.items in
    let b = c.args.block.0 in
    let row = landed_remembered (is_forgotten_in (nodes_of heads)) (patches_of heads) c.self.inside.numbers (view_gone c.self.invariant) c.self.invariant.0.keeps.lawful b (patches_of new) (cascade at) in
    rw (← c.self.view_is, c.let_go.ensures)
    (record { row = subst (IsCascadeOf (map (landed b) (remembered_of heads))) (sym (remembered_as heads new (same_flags at) refl)) row; numbers = refl; blocks = refl; groups = refl; prepared = refl })
