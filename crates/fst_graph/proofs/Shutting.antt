-- What the fields are once an open gate is sealed, and what came to rest by that is on disk.
use Rattle.std.proofs.Common.{length, ◌≡◌, ◌≤◌, ◌<◌, ◌+◌, ◌-◌, ◌++◌, ◌∙◌, ℕ, List, [], None, map, count_by, arith, refl, sym, ap, subst}
use Rattle.std.proofs.lemmas.List.{length-map}
use Rattle.std.specs.Global.{Vec}
use Rattle.fst_types.specs.{Cascade.{IsCascadeOf, unsettled}, Gates.IsOpenNumber, Gating.sealed}
use Rattle.fst_heads.specs.{Heads.{patch_of, patches_of}, Keeps.Keeps, Indices.HasIndex, Nodes.{node_of, nodes_of, at_number, AreDistinct, AreLinked, AreSettled}, Pendings.Sinks, Spreading.{is_waiting, seals, enqueued_sealed, IsSpreadOf, Spreading}}
use Rattle.fst_heads.specs.{Standings.AllStand, declared.heads.Heads.Heads, declared.standing.Standing.Standing}
use Rattle.fst_levels.specs.{Leveling.{IsLeveled, Leveling}}
use Rattle.fst_graph.specs.declared.sparse.Sparse.TheInside.{Inside}
use Rattle.fst_graph.specs.{Sound.AreSound}
use Rattle.fst_types.proofs.{Alike.{Alike, length_alike}, Sealing.alike_sealed}
use Rattle.fst_heads.proofs.{AtNumber.patches_in_nodes, Beside.{beside_landed, landed_few, sealed_told}, Carried.{linked_sealed, distinct_sealed}, Stands.stand_sealed, Starting.{starts_sealed, unsettled_sealed}}
use Rattle.fst_levels.proofs.Seen.{seen, one_each, lawful_nodes, tallies_wider}
use Rattle.fst_graph.proofs.{Borne.{inside_nodes, open_nodes}, Kept.{covered_moved, keeps_sealed}, NeedsNow.needing_sealed, Ranks.leveled_moved, Sound.as_many_standings, Tallied.tallies_sealed}

module _ {s : Inside} (S : AreSound s) {g : ℕ} (gate : IsOpenNumber (patches_of s.columns.heads.list.items) g)
    (mid : Heads) (shut : nodes_of mid.list.items ≡ map (at_number g seals) (nodes_of s.columns.heads.list.items)) where
  -- what comes to rest may be told from there
  pub shut_ready : {waits : List ℕ} {cap : ℕ} → waits ≡ s.columns.queue.items ++ enqueued_sealed g (nodes_of s.columns.heads.list.items) → cap ≡ s.columns.queue.cap → length s.standings ≤ 65535
      → record {
        start : Spreading Sinks (nodes_of mid.list.items) (length s.standings) waits;
        linked : AreLinked (nodes_of mid.list.items);
        distinct : AreDistinct (nodes_of mid.list.items);
        standing : AllStand (nodes_of mid.list.items) (length s.standings) s.standings;
        narrow : length s.standings ≤ 65535;
        room : length mid.list.items ≤ cap;
      }
  shut_ready queued capacity narrow =
      let nodes = nodes_of s.columns.heads.list.items in
      let T = S.tallies in
      let there = open_nodes s.columns.heads.list.items g gate in
      record {
        start = rw (shut, queued, T.idle, as_many_standings S) (starts_sealed nodes s.numbers s.blocks g (lawful_nodes s.columns.heads.list.items s.numbers S.keeps.lawful) (inside_nodes s.columns.heads.list.items s.blocks S.keeps.inside) T.settled there);
        linked = rw shut (linked_sealed nodes g T.linked);
        distinct = rw shut (distinct_sealed nodes g T.distinct);
        standing = rw (shut, as_many_standings S) (stand_sealed nodes s.numbers s.blocks g s.standings (one_each s.columns.heads.list.items s.numbers S.keeps.lawful.one_place_each) there T.standing);
        narrow = narrow;
        room = omega (arith, ap length shut, length-map mid.list.items node_of, length-map nodes (at_number g seals), T.room, capacity);
      }

  module _ (new : Heads) (placed : IsCascadeOf (patches_of mid.list.items) (patches_of new.list.items)) where
    pub shut_cascade : IsCascadeOf (map (sealed g) (patches_of s.columns.heads.list.items)) (patches_of new.list.items)
    shut_cascade =
        let was : map unsettled (patches_of mid.list.items) ≡ map unsettled (map (sealed g) (patches_of s.columns.heads.list.items)) =
        ap (map unsettled) (seen mid.list.items _ shut) ∙ (unsettled_sealed (nodes_of s.columns.heads.list.items) g ∙ ap (λ ps. map unsettled (map (sealed g) ps)) (patches_in_nodes s.columns.heads.list.items)) in
        record { same = placed.same ∙ was; places = placed.places; settled = placed.settled }

    alike_shut : Alike (patches_of s.columns.heads.list.items) (patches_of new.list.items)
    alike_shut = alike_sealed (patches_of s.columns.heads.list.items) (patches_of new.list.items) s.numbers g S.keeps.lawful gate shut_cascade

    keeps_shut : Keeps (patches_of new.list.items) s.numbers s.blocks s.columns.ends.up.walk.marks
    keeps_shut = keeps_sealed (patches_of s.columns.heads.list.items) (patches_of new.list.items) s.numbers s.blocks g s.columns.ends.up.walk.marks s.columns.ends.up.walk.marks S.keeps gate shut_cascade refl

    -- the gate may come down from the top
    pub shut_lowers : {index : ℕ} → HasIndex s.columns.heads.list.items g index → record { index : index < length new.list.items; leveled : IsLeveled (patches_of new.list.items) (length s.columns.levels.floors) s.columns.levels }
    shut_lowers at = record {
      index = let lt = at.0 in omega (arith, lt, length_alike (patches_of s.columns.heads.list.items) (patches_of new.list.items) alike_shut, length-map s.columns.heads.list.items patch_of, length-map new.list.items patch_of);
      leveled = subst (λ n. IsLeveled (patches_of new.list.items) n s.columns.levels) (sym S.leveled.long) (leveled_moved alike_shut S.leveled);
    }

    module _ (landed : ℕ) (settled : AreSettled (nodes_of new.list.items) (length s.standings)) (counted : count_by is_waiting (nodes_of new.list.items) + landed ≡ count_by is_waiting (nodes_of mid.list.items)) where
      still_settled : AreSettled (nodes_of new.list.items) s.blocks
      still_settled = subst (AreSettled (nodes_of new.list.items)) (as_many_standings S) settled

      -- no more came to rest than are not on disk
      pub shut_few : landed ≤ s.live
      shut_few = landed_few s.columns.heads.list.items mid.list.items new.list.items (at_number g seals) s.blocks s.live landed s.columns.ends.up.crossed.items shut (sealed_told g) S.tallies.settled still_settled counted S.beside

      pub shut_sound : {told : List Standing} {emptied shelf : Vec ℕ} {lowered : Leveling} → IsLeveled (patches_of new.list.items) (length s.columns.levels.floors) lowered → IsSpreadOf (nodes_of mid.list.items) (nodes_of new.list.items) → AllStand (nodes_of new.list.items) (length s.standings) told → emptied.items ≡ [] → emptied.cap ≡ s.columns.queue.cap
          → AreSound (record s { columns = record s.columns { heads = new; levels = lowered; queue = emptied }; standings = told; landed = shelf; live = s.live - landed; prepared = None })
      shut_sound {told} {emptied} {lowered} leveled spread stand empty capacity =
          let kept = keeps_shut in
          let spread_from = subst (λ ns. IsSpreadOf ns (nodes_of new.list.items)) shut spread in
          let standing = subst (λ k. AllStand (nodes_of new.list.items) k told) (as_many_standings S) stand in
          record {
            keeps = kept;
            beside = beside_landed s.columns.heads.list.items mid.list.items new.list.items (at_number g seals) s.blocks s.live landed s.columns.ends.up.crossed.items shut (sealed_told g) S.tallies.settled still_settled counted S.beside;
            tallies = tallies_wider _ s.numbers s.blocks _ _ _ _ _ _
                (tallies_sealed (nodes_of s.columns.heads.list.items) (nodes_of new.list.items) s.numbers s.blocks _ _ _ _ _ g (lawful_nodes s.columns.heads.list.items s.numbers S.keeps.lawful) (lawful_nodes new.list.items s.numbers kept.lawful) S.tallies
                (open_nodes s.columns.heads.list.items g gate) spread_from still_settled standing) empty (omega (arith, capacity));
            covered = covered_moved alike_shut kept S.covered;
            along = S.along;
            leveled = subst (λ n. IsLeveled (patches_of new.list.items) n lowered) S.leveled.long leveled;
            needing = needing_sealed (patches_of s.columns.heads.list.items) (patches_of new.list.items) s.numbers g S.keeps.lawful kept.lawful gate shut_cascade S.needing;
            given = S.given;
            prepared = tt;
          }
