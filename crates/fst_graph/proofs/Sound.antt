-- What holds of the fields that are sound: for a walk over them, of a block, for what is prepared, and after a call that leaves the patches as they are.
use Rattle.std.proofs.{Common.{◌≡◌, ◌∙◌, ℕ, List, Option, Some, None, IfSome, length, map, Contains, refl, sym, subst, arith, ◌<◌, ◌+◌, get_or, ap}, lemmas.List.length-map}
use Rattle.std.specs.Global.{Vec}
use Rattle.fst_types.specs.{Facts.SparseAreLawful, Gates.IsOpenNumber, Patches.Patch}
use Rattle.fst_heads.specs.{Covers.{AreCovered, Covering}, Heads.{patch_of, patches_of, IsRising}, Keeps.IsInside, Lists.{entries_of, AreListed, entries_on}}
use Rattle.fst_heads.specs.{Nodes.{is_forgotten_in, nodes_of, AreSettled}, declared.head.Head.Head, declared.lists.Listed.Listed}
use Rattle.fst_walks.specs.{BothEnds.IsOver, Searching.AreOver, declared.block_walk.BlockWalk.BlockWalk, declared.ends.Ends.Ends}
use Rattle.fst_levels.specs.{Leveling.{IsLeveled, Leveling}, Needing.{IsNeeding, IsPruned, Needing}, Sights.Sees, declared.needs.Way.Way, declared.sight.Sight.Sight}
use Rattle.fst_graph.specs.declared.columns.Columns.{Columns}
use Rattle.fst_graph.specs.declared.sparse.Sparse.TheInside.{Inside}
use Rattle.fst_graph.specs.{Fresh.IsRoomier, Remembered.AreGone, Sound.{AreRemembered, AreSound, IsPrepared, remembered_of}, declared.prepared.Prepared.Prepared as Stored}
use Rattle.fst_heads.proofs.{AtNumber.patches_in_nodes, Indices.rising_heads}
use Rattle.fst_levels.proofs.{Resting.{listed_at, shelves}, Seen.{same_patches, tallies_wider}}
use Rattle.fst_graph.proofs.{Flagged.{gone_from, rising_nodes, standing}, Remembered.remembered_lawful, NeedsNow.needing_pruned, Ranks.{along_as, leveled_as}}

-- a walk over the heads and lists that are kept is one over those that are handed on
pub over_then : {heads seen : List Head} {lists shelves : List (Vec Listed)} {walk : BlockWalk} → seen ≡ heads → shelves ≡ lists → IsOver heads (length lists) walk → IsOver seen (length shelves) walk
over_then h l x = record { long = x.long ∙ sym (ap length h); crossed = x.crossed ∙ sym (ap length l) }

module _ {s : Inside} (S : AreSound s) where
  pub rising_sound : IsRising s.columns.heads.list.items
  rising_sound = rising_heads s.columns.heads.list.items S.keeps.lawful.one_place_each.rising

  -- no gate that is open has the number 0
  pub open_given : {n : ℕ} → IsOpenNumber (patches_of s.columns.heads.list.items) n → 0 < n
  open_given g = let k = (S.keeps.lawful.one_place_each.numbered g.patch g.head).0 in omega (arith, k, g.numbered)

  -- as many marks as heads, as many lists as blocks, and a place for each list
  pub as_many_marks : length s.columns.ends.up.walk.marks ≡ length s.columns.heads.list.items
  as_many_marks = S.keeps.marked ∙ length-map s.columns.heads.list.items patch_of

  pub as_many_lists : length s.lists.items ≡ s.blocks
  as_many_lists = sym (length-map s.lists.items (λ l. entries_of l.items)) ∙ S.tallies.listed.long

  pub as_many_standings : length s.standings ≡ s.blocks
  as_many_standings = S.tallies.standing.long

  pub as_many_places : length s.columns.ends.up.crossed.items ≡ length s.lists.items
  as_many_places = S.beside.places ∙ sym as_many_lists

  -- what stands beside the patches is as walks want it
  pub sees_all : (sight : Sight) → sight.heads.now.list.items ≡ s.columns.heads.list.items → sight.lists.now ≡ s.lists.items → sight.covers.now ≡ s.covers.items → sight.levels.now ≡ s.columns.levels → sight.needs.now ≡ s.needs → Sees sight
  sees_all sight h l v r d =
      let K = S.keeps in
      let T = S.tallies in
      let entries = map (λ (x : Vec Listed). entries_of x.items) s.lists.items in
      record {
        inside = rw (h, l) (subst (IsInside (patches_of s.columns.heads.list.items)) (sym as_many_lists) K.inside);
        disk = rw h K.lawful.on_disk_with_all;
        flights = rw h K.lawful.flights_stand_alone;
        hard = rw h K.lawful.hard_never_hold;
        acyclic = rw h K.lawful.no_cycle;
        linked = rw h T.linked;
        settled = rw (h, l) (subst (AreSettled (nodes_of s.columns.heads.list.items)) (sym as_many_lists) T.settled);
        listed = rw (h, l) (subst (λ n. AreListed (patches_of s.columns.heads.list.items) n entries) (sym as_many_lists) (subst (λ ps. AreListed ps s.blocks entries) (patches_in_nodes s.columns.heads.list.items) T.listed));
        covered = rw (h, l, v) (subst (λ n. AreCovered (patches_of s.columns.heads.list.items) n s.covers.items) (sym as_many_lists) S.covered);
        leveled = rw (h, l, r) (subst (λ n. IsLeveled (patches_of s.columns.heads.list.items) n s.columns.levels) (sym as_many_lists) S.leveled);
        needing = rw (h, l, d) (subst (λ n. IsNeeding (patches_of s.columns.heads.list.items) n s.needs) (sym as_many_lists) S.needing);
      }

  -- there is room for what is prepared, and nothing refuses it
  pub prepared_is : (p : Stored) → s.prepared ≡ Some p → IsPrepared s p
  prepared_is p is = subst (λ x. IfSome x (IsPrepared s)) is S.prepared

  -- both walks are over the heads and the blocks
  pub over_up : IsOver s.columns.heads.list.items (length s.lists.items) s.columns.ends.up
  over_up = record { long = as_many_marks; crossed = as_many_places }

  pub over_down : IsOver s.columns.heads.list.items (length s.lists.items) s.columns.ends.down
  over_down = record { long = S.along.marks ∙ as_many_marks; crossed = S.along.places ∙ as_many_places }

  -- after walks over the heads there are marks for each still
  pub walked_sound : {walked : Ends} → IsOver s.columns.heads.list.items (length s.lists.items) walked.up → IsOver s.columns.heads.list.items (length s.lists.items) walked.down → AreSound (record s { columns = record s.columns { ends = walked }; prepared = None })
  walked_sound up down = record {
    keeps = record { lawful = S.keeps.lawful; inside = S.keeps.inside; marked = up.long ∙ sym (length-map s.columns.heads.list.items patch_of) };
    beside = record { places = up.crossed ∙ as_many_lists; counted = S.beside.counted; few = S.beside.few };
    tallies = S.tallies;
    covered = S.covered;
    along = record { marks = down.long ∙ sym up.long; places = down.crossed ∙ sym up.crossed };
    leveled = S.leveled;
    needing = S.needing;
    given = S.given;
    prepared = tt;
  }

  -- and so where patches came down on them
  pub settled_sound : {walked : Ends} {settled : Leveling} → IsOver s.columns.heads.list.items (length s.lists.items) walked.up → IsOver s.columns.heads.list.items (length s.lists.items) walked.down → IsLeveled (patches_of s.columns.heads.list.items) s.blocks settled
      → AreSound (record s { columns = record s.columns { ends = walked; levels = settled }; prepared = None })
  settled_sound {walked = walked} up down leveled =
      let W = walked_sound {walked = walked} up down in
      record { keeps = W.keeps; beside = W.beside; tallies = W.tallies; covered = W.covered; along = W.along; leveled = leveled; needing = W.needing; given = W.given; prepared = tt }

  -- also where they began over the heads and the lists that were handed on
  pub walked_then : {walked : Ends} {seen : List Head} {shelves : List (Vec Listed)} → seen ≡ s.columns.heads.list.items → shelves ≡ s.lists.items → IsOver seen (length shelves) walked.up → IsOver seen (length shelves) walked.down
      → AreSound (record s { columns = record s.columns { ends = walked }; prepared = None })
  walked_then {walked = walked} h l up down = walked_sound {walked = walked} (over_then (sym h) (sym l) up) (over_then (sym h) (sym l) down)

  -- a search for a cycle crosses no block
  pub over_both : AreOver s.columns.heads.list.items s.columns.ends
  over_both = record { up = over_up.long; down = over_down.long }

  pub searched_up : {walked : Ends} → AreOver s.columns.heads.list.items walked → walked.up.crossed ≡ s.columns.ends.up.crossed → IsOver s.columns.heads.list.items (length s.lists.items) walked.up
  searched_up over crossed = record { long = over.up; crossed = rw crossed as_many_places }

  pub searched_down : {walked : Ends} → AreOver s.columns.heads.list.items walked → walked.down.crossed ≡ s.columns.ends.down.crossed → IsOver s.columns.heads.list.items (length s.lists.items) walked.down
  searched_down over crossed = record { long = over.down; crossed = rw crossed over_down.crossed }

  pub searched_sound : {walked : Ends} → AreOver s.columns.heads.list.items walked → (walked.up.crossed ≡ s.columns.ends.up.crossed) × (walked.down.crossed ≡ s.columns.ends.down.crossed) → AreSound (record s { columns = record s.columns { ends = walked }; prepared = None })
  searched_sound over crossed = walked_sound (searched_up over crossed.0) (searched_down over crossed.1)

  -- there may be more room for heads, marks and what waits in the queue
  pub roomier_sound : {columns : Columns} {landed : Vec ℕ} → IsRoomier s.columns columns → AreSound (record s { columns = columns; landed = landed; prepared = None })
  roomier_sound {columns} R =
      let patches = same_patches columns.heads.list.items s.columns.heads.list.items R.nodes in record {
        keeps = rw (patches, R.marks.0) S.keeps;
        beside = rw (patches, R.crossed.0) S.beside;
        tallies = rw R.nodes (tallies_wider _ s.numbers s.blocks _ _ _ _ _ _ S.tallies R.waiting R.wide);
        covered = rw patches S.covered;
        along = along_as R.marks R.crossed S.along;
        leveled = rw patches (leveled_as R.ranks R.floors S.leveled);
        needing = rw patches S.needing;
        given = S.given;
        prepared = tt;
      }

  -- and for a change of a block
  pub listed_sound : {longer : Vec (Vec Listed)} {wider : Vec Covering} → map (λ l. entries_of l.items) longer.items ≡ map (λ l. entries_of l.items) s.lists.items
      → ((hs : List Patch) → AreCovered hs (length s.covers.items) s.covers.items → AreCovered hs (length s.covers.items) wider.items) → AreSound (record s { lists = longer; covers = wider; prepared = None })
  listed_sound {wider = wider} entries covered = record {
    keeps = S.keeps;
    beside = S.beside;
    tallies = rw entries S.tallies;
    covered = let long = S.covered.long in subst (λ k. AreCovered (patches_of s.columns.heads.list.items) k wider.items) long (covered (patches_of s.columns.heads.list.items) (subst (λ k. AreCovered (patches_of s.columns.heads.list.items) k s.covers.items) (sym long) S.covered));
    along = S.along;
    leveled = S.leveled;
    needing = S.needing;
    given = S.given;
    prepared = tt;
  }

  -- and for what the block of the change needs
  pub reserved_sound : {kept : Needing} {b : ℕ} → IsPruned (patches_of s.columns.heads.list.items) b s.needs.lists kept.lists → ((w : Way) → Contains kept.ways w → Contains s.needs.ways w) → AreSound (record s { needs = kept; prepared = None })
  reserved_sound {kept} {b} pruned ways = record {
    keeps = S.keeps;
    beside = S.beside;
    tallies = S.tallies;
    covered = S.covered;
    along = S.along;
    leveled = S.leveled;
    needing = needing_pruned s.columns.heads.list.items s.blocks s.columns.heads.rising S.keeps.lawful.on_disk_with_all S.tallies.settled b pruned ways S.needing;
    given = λ w c. S.given w (ways w c);
    prepared = tt;
  }

  -- with other levels that are as they should be
  pub leveled_sound : {levels' : Leveling} → IsLeveled (patches_of s.columns.heads.list.items) s.blocks levels' → AreSound (record s { columns = record s.columns { levels = levels' }; prepared = None })
  leveled_sound L = record { keeps = S.keeps; beside = S.beside; tallies = S.tallies; covered = S.covered; along = S.along; leveled = L; needing = S.needing; given = S.given; prepared = tt }

  pub with_prepared : {o' : Option Stored} → IfSome o' (IsPrepared (record s { prepared = o' })) → AreSound (record s { prepared = o' })
  with_prepared P = record { keeps = S.keeps; beside = S.beside; tallies = S.tallies; covered = S.covered; along = S.along; leveled = S.leveled; needing = S.needing; given = S.given; prepared = P }

  -- there are as many lists as blocks
  pub many_lists : (slice : List (Vec Listed)) → slice ≡ s.lists.items → length slice ≡ s.blocks
  many_lists slice e = shelves (nodes_of s.columns.heads.list.items) s.blocks s.lists.items slice S.tallies.listed e

  pub its_list : (slice : List (Vec Listed)) → slice ≡ s.lists.items → (b : ℕ) → b < length slice → (list : Vec Listed) → list ≡ get_or slice b list → entries_of list.items ≡ entries_on b (patches_of s.columns.heads.list.items)
  its_list slice e b lt list there = listed_at s.columns.heads.list.items s.blocks b s.lists.items list S.tallies.listed (omega (arith, lt, many_lists slice e)) (subst (λ ls. list ≡ get_or ls b list) e there)

-- what is forgotten is on disk, and the patches that are not forgotten are as many as heads are not marked
module _ {s : Inside} (I : AreSound s × AreRemembered s.columns.heads.list.items s.landed s.forgotten s.prepared) where
  pub view_gone : AreGone (is_forgotten_in (nodes_of s.columns.heads.list.items)) (patches_of s.columns.heads.list.items)
  view_gone = gone_from s.columns.heads.list.items s.blocks s.landed.items I.0.tallies.settled I.1.told (rising_nodes s.columns.heads.list.items (rising_sound I.0))

  pub view_lawful : SparseAreLawful (remembered_of s.columns.heads.list.items) s.numbers
  view_lawful = remembered_lawful (is_forgotten_in (nodes_of s.columns.heads.list.items)) (patches_of s.columns.heads.list.items) s.numbers view_gone I.0.keeps.lawful

  pub view_long : length (remembered_of s.columns.heads.list.items) + s.forgotten ≡ length s.columns.heads.list.items
  view_long = ap (λ k. length (remembered_of s.columns.heads.list.items) + k) I.1.counted ∙ standing s.columns.heads.list.items (rising_nodes s.columns.heads.list.items (rising_sound I.0))

-- what follows from that holds of whatever is prepared
pub if_prepared : {s : Inside} → AreSound s → (P : Stored → Type 0) → ((p : Stored) → s.prepared ≡ Some p → IsPrepared s p → P p) → IfSome s.prepared P
if_prepared {s} sound P follows = by_stored s.prepared refl sound.prepared
  where
    by_stored : (o : Option Stored) → s.prepared ≡ o → IfSome o (IsPrepared s) → IfSome o P
    by_stored None is prepared = tt
    by_stored (Some p) is prepared = follows p is prepared
