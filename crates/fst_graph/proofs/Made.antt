-- What the fields are once a change, a gate or an empty patch is put down, and once an open gate has more names.
use Rattle.std.proofs.Common.{inl, inr, ◌≡◌, ◌<◌, ◌≤◌, ◌+◌, ◌++◌, ◌∷◌, ◌∙◌, [], ℕ, true, false, Bool, List, None, Contains, length, vec_len, vec_capacity, map, get_or, set, arith, refl, sym, ap, subst}
use Rattle.std.proofs.lemmas.{List.{length-map, length_push, map_push}, List.Elements.Contains-push_cases}
use Rattle.std.specs.{Global.Vec, Vec.with_items}
use Rattle.fst_types.specs.{Dependencies.{DirectlyOn, IsLiveNumber}, Facts.{IsOnDiskWithAll, SparseAreLawful}, Gates.IsOpenNumber, Gating.gains, Lists.Lists, Making.fresh, Order.depend_order}
use Rattle.fst_types.specs.{Patches.{Patch, IsOn, OpenGate}, Refusals.NoneHolds}
use Rattle.fst_heads.specs.{Covers.{Covering, IsPut as IsCovered}, Heads.{patches_of, IsRising}, Keeps.IsInside, Lists.{entry_of, HasRoomInList}, Nodes.{node_of, nodes_of, at_number, gains_names, linked_to, pending_in, AreSettled}}
use Rattle.fst_heads.specs.{Pendings.{is_pending, sums_of}, Standings.{entered, is_held_on, is_ready_on, without_changes}, Tests.is_hard_kind, declared.{head.Head.Head, heads.Heads.Heads}}
use Rattle.fst_heads.specs.{declared.lists.Listed.Listed, declared.pending.{Pending.Pending, Sums.Sums}, declared.standing.Standing.Standing}
use Rattle.fst_levels.specs.{Ancestors.{GoesUnder}, Leveling.{IsLeveled, Leveling, level_of, no_ancestry, floor_of, top_level}, Lifting.{IsRise, MayLift}, Needing.{IsNoted, IsPut, Needing}, Sights.Sees, Walks.{Trail, numbers_met}, declared.levels.{Ancestry.Ancestry, Rise.Rise}, declared.sight.Sight.Sight}
use Rattle.fst_walks.specs.declared.ends.Ends.{Ends}
use Rattle.fst_graph.specs.declared.columns.Columns.{Columns}
use Rattle.fst_graph.specs.declared.sparse.Sparse.TheInside.{Inside}
use Rattle.fst_graph.specs.{Fresh.{HasOneMore, HasPlaces, IsAdded, IsRoomier, MayAdd}, Ready.change_of, Sound.AreSound, declared.prepared.Prepared.Prepared as Stored}
use Rattle.fst_heads.proofs.{Added.{new_node, with_node, with_names}, AtNumber.patches_in_nodes, Beside.{beside_made, beside_depends, one_at_most, one_live}, Covering.{covered_gained, covered_push}, Making.keeps_added, Stands.stand_made}
use Rattle.fst_levels.proofs.{Linked.{patches_made, patches_named}, Releveled.gained_is_leveled, Seen.{seen, lawful_nodes, tallies_wider}, Shelves.shelved}
use Rattle.fst_graph.proofs.{Borne.{few_counted, lawful_with, open_nodes}, Kept.{covered_made, keeps_depends, keeps_walked}, Listed.listed_made, NeedsNow.{given_more, needing_change, needing_gained, needing_put}}
use Rattle.fst_graph.proofs.{PutNow.IsPutDown, Ranks.{along_grown, leveled_change, leveled_put}, Sound.{as_many_lists, as_many_marks, as_many_places, over_down, sees_all, walked_sound}, Tallied.{tallies_depends, tallies_made}}
use Rattle.fst_heads.specs.declared.pending.Pending.TheVariants as pending

-- the sums of a row, as they were read of the heads
pub summed : (hs heads : List Head) {row names : List ℕ} {s : Sums} → s ≡ sums_of (pending_in (nodes_of hs)) row → nodes_of hs ≡ nodes_of heads → row ≡ names → s ≡ sums_of (pending_in (nodes_of heads)) names
summed hs heads s same names = rw (← same, ← names) s

-- the nodes and the patches with a new one
pub put_nodes : (heads linked : List Head) {new : List Head} {row : List ℕ} (h : Head) (p : Patch) → nodes_of linked ≡ map (linked_to row p.number) (nodes_of heads) → row ≡ p.dependencies → new ≡ linked ++ h ∷ [] → node_of h ≡ new_node (nodes_of heads) p
    → nodes_of new ≡ with_node (nodes_of heads) p
put_nodes heads linked h p links named put made = rw (put, map_push, links, named, made) refl

pub put_patches : (heads new : List Head) (p : Patch) → nodes_of new ≡ with_node (nodes_of heads) p → patches_of new ≡ patches_of heads ++ p ∷ []
put_patches heads new p put = seen new _ put ∙ (patches_made (nodes_of heads) p ∙ ap (λ ps. ps ++ p ∷ []) (patches_in_nodes heads))

-- the nodes and the patches where a gate has more names
pub named_nodes : (heads gained linked : List Head) (g : ℕ) {row row' names : List ℕ} {s : Sums} → s ≡ sums_of (pending_in (nodes_of heads)) names → nodes_of gained ≡ map (at_number g (gains_names row s)) (nodes_of heads) → row ≡ names
    → nodes_of linked ≡ map (linked_to row' g) (nodes_of gained) → row' ≡ names → nodes_of linked ≡ with_names (nodes_of heads) g names (sums_of (pending_in (nodes_of heads)) names)
named_nodes heads gained linked g sums gain named links named' = rw (links, gain, named, named', sums) refl

pub named_patches : (heads new : List Head) (g : ℕ) (names : List ℕ) → nodes_of new ≡ with_names (nodes_of heads) g names (sums_of (pending_in (nodes_of heads)) names) → patches_of new ≡ map (gains g names) (patches_of heads)
named_patches heads new g names named = seen new _ named ∙ (patches_named g names (sums_of (pending_in (nodes_of heads)) names) (nodes_of heads) ∙ ap (map (gains g names)) (patches_in_nodes heads))

-- a head more after room was made is one more than there was
pub more_after : {old roomier new : Columns} {p : Patch} {level : ℕ} {ancestry : Ancestry} → IsRoomier old roomier → HasOneMore p level ancestry roomier new → HasOneMore p level ancestry old new
more_after R P = record {
  nodes = rw (← R.nodes) P.nodes;
  marks = rw (← R.marks.0, ← R.marks.1) P.marks;
  crossed = rw (← R.crossed.0, ← R.crossed.1) P.crossed;
  ranks = rw (← R.ranks) P.ranks;
  floors = P.floors ∙ R.floors;
  waiting = P.waiting ∙ R.waiting;
  wide = let wider = P.wide in let wide = R.wide in omega (arith, wide, wider);
}

pub more_as : {old new : Columns} {p q : Patch} {level : ℕ} {ancestry own : Ancestry} → p ≡ q → ancestry ≡ own → HasOneMore p level ancestry old new → HasOneMore q level own old new
more_as same at P = rw (← same, ← at) P

-- of the columns as they were it does not matter which proof says that their numbers rise
pub roomier_over : {old new : Columns} (rising : IsRising old.heads.list.items) → IsRoomier (record old { heads = record old.heads { rising = rising } }) new → IsRoomier old new
roomier_over rising R = record { nodes = R.nodes; marks = R.marks; crossed = R.crossed; ranks = R.ranks; floors = R.floors; waiting = R.waiting; wide = R.wide }

pub added_over : {old new : Columns} {p : Patch} (rising : IsRising old.heads.list.items) → IsAdded p (record old { heads = record old.heads { rising = rising } }) new → IsAdded p old new
added_over rising A =
    let H = A.head in
    record {
      level = A.level;
      ancestry = A.ancestry;
      under = A.under;
      head = record { nodes = H.nodes; marks = H.marks; crossed = H.crossed; ranks = H.ranks; floors = H.floors; waiting = H.waiting; wide = H.wide };
      over = A.over;
      most = A.most;
      top = A.top;
      free = A.free;
    }

-- a gate that is put down is added
pub gate_added : {old new : Columns} {n : ℕ} {row : List ℕ} → HasOneMore (fresh n OpenGate row) top_level no_ancestry old new → GoesUnder (patches_of old.heads.list.items) n row no_ancestry → vec_len old.heads.list < vec_capacity new.queue → IsAdded (fresh n OpenGate row) old new
gate_added P under free = record { level = top_level; ancestry = no_ancestry; under = under; head = P; over = λ q c few. few; most = omega arith; top = λ e. refl; free = free }

module _ {s : Inside} (S : AreSound s) where
  abbrev old : List Patch
  old = patches_of s.columns.heads.list.items

  -- an open gate has more names
  pub gained_sound : {new : Heads} (g : ℕ) (names on : List ℕ) → IsOpenNumber old g → NoneHolds (depend_order old s.numbers g on) → Lists (λ n. IsLiveNumber old n × Contains on n × (DirectlyOn old g n → ⊥)) names
      → nodes_of new.list.items ≡ with_names (nodes_of s.columns.heads.list.items) g names (sums_of (pending_in (nodes_of s.columns.heads.list.items)) names) → AreSound (record s { columns = record s.columns { heads = new }; prepared = None })
  gained_sound {new} g names on gate clear lists_live named =
      let patches = named_patches s.columns.heads.list.items new.list.items g names named in
      let keeps = keeps_depends old s.numbers s.blocks g names on _ _ S.keeps gate clear lists_live refl in
      let lawful = subst (λ ps. SparseAreLawful ps s.numbers) (sym patches ∙ seen new.list.items _ named) keeps.lawful in
      let there = subst (λ ps. Lists (λ n. IsLiveNumber ps n × Contains on n × (DirectlyOn ps g n → ⊥)) names) (sym (patches_in_nodes s.columns.heads.list.items)) lists_live in
      record {
        keeps = rw patches keeps;
        beside = rw patches (beside_depends old s.blocks s.live s.columns.ends.up.crossed.items g names S.beside);
        tallies = rw named (tallies_depends (nodes_of s.columns.heads.list.items) s.numbers s.blocks _ _ _ _ g on names (lawful_nodes s.columns.heads.list.items s.numbers S.keeps.lawful) lawful S.tallies (open_nodes s.columns.heads.list.items g gate) there);
        covered = rw patches (covered_gained old g names s.blocks s.covers.items S.covered);
        along = S.along;
        leveled = rw patches (gained_is_leveled old g names gate s.blocks s.columns.levels S.leveled);
        needing = rw patches (needing_gained old g names S.keeps.lawful.one_place_each.rising S.keeps.lawful.on_disk_with_all keeps.lawful.one_place_each.rising keeps.lawful.on_disk_with_all gate S.needing);
        given = S.given;
        prepared = tt;
      }

  -- a patch that is no change is added
  pub added_sound : {p : Patch} → MayAdd old s.numbers p → {columns : Columns} {shelf : Vec ℕ} → IsAdded p s.columns columns → {all : ℕ} → all ≡ s.live + one_live p
      → AreSound (record s { columns = columns; landed = shelf; live = all; numbers = s.numbers + 1; prepared = None })
  added_sound {p} M {columns} A weighs =
      let P = A.head in
      let free = A.free in
      let patches = put_patches s.columns.heads.list.items columns.heads.list.items p P.nodes in
      let H = S.keeps.lawful.one_place_each in
      let given : (q : ℕ) → Contains p.dependencies q → q ≤ s.numbers = λ q h. let l = M.live q h in let k = (H.numbered l.patch l.head).1 in let e = l.numbered in omega (arith, k, e) in
      record {
        keeps = rw (patches, P.marks.0) (
            keeps_added old s.numbers s.blocks s.columns.ends.up.walk.marks S.keeps (old ++ p ∷ []) M.lawful (length_push old p)
            (λ x b h on. elim (Contains-push_cases old p x h) [ inl o ↦ S.keeps.inside x b o on | inr e ↦ absurd (M.off b (subst (λ y. IsOn y b) (sym e) on)) ])
            );
        beside = rw (patches, P.crossed.0, weighs) (beside_made old s.blocks s.live (one_live p) s.columns.ends.up.crossed.items p refl (let most = one_at_most p in omega (arith, most, M.few, S.beside.counted)) S.beside);
        tallies = rw P.nodes (tallies_wider _ (s.numbers + 1) s.blocks _ _ _ _ _ _ (
            tallies_made (nodes_of s.columns.heads.list.items) s.numbers s.blocks _ _ _ _ _ _ columns.queue.cap p (lawful_nodes s.columns.heads.list.items s.numbers S.keeps.lawful) (lawful_with s.columns.heads.list.items p (s.numbers + 1) M.lawful) S.tallies M.next M.rising
            (λ m h. subst (λ ps. IsLiveNumber ps m) (sym (patches_in_nodes s.columns.heads.list.items)) (M.live m h)) (λ b on. absurd (M.off b on))
            (listed_made (nodes_of s.columns.heads.list.items) s.blocks _ p S.tallies.listed M.plain) (stand_made (nodes_of s.columns.heads.list.items) s.blocks s.standings p M.plain S.tallies.standing)
            (omega (arith, free, s.columns.heads.list.ok.0, length-map s.columns.heads.list.items node_of))
            ) P.waiting (omega arith));
        covered = rw patches (covered_push old p M.off s.blocks s.covers.items S.covered);
        along = along_grown {old = s.columns.ends} P.marks P.crossed S.along;
        leveled = rw patches (leveled_put p A.level A.ancestry H M.next given P.ranks P.floors (λ q c. A.over q c (S.leveled.leveled.few q)) A.most A.under S.leveled (λ b on. absurd (M.off b on)) (λ b on. absurd (M.off b on)) A.top);
        needing = rw patches (needing_put p S.keeps.lawful M.lawful M.next M.off S.given S.needing);
        given = λ w c. let g = S.given w c in omega (arith, g);
        prepared = tt;
      }

  module _ {p : Stored} (D : IsPutDown s p) where
    abbrev made : Patch
    made = change_of s.numbers p

    abbrev node : Pending
    node = (new_node (nodes_of s.columns.heads.list.items) made).pending

    -- the walk up may begin, and what it told may be written
    pub may_rise : (sight : Sight) {places : List Bool} → sight.heads.now.list.items ≡ s.columns.heads.list.items → sight.lists.now ≡ s.lists.items → sight.covers.now ≡ s.covers.items → sight.levels.now ≡ s.columns.levels → sight.needs.now ≡ s.needs → places ≡ s.columns.ends.up.crossed.items
        → record { sees : Sees sight; long : length s.columns.ends.up.walk.marks ≡ length sight.heads.now.list.items; crossed : length places ≡ length sight.lists.now; block : p.block < length sight.lists.now }
    may_rise sight h l v r d places = record {
      sees = sees_all S sight h l v r d;
      long = as_many_marks S ∙ sym (ap length h);
      crossed = ap length places ∙ (as_many_places S ∙ sym (ap length l));
      block = omega (arith, D.ready.inside, as_many_lists S, ap length l);
    }

    risen : (walk : Trail) {hs : List Head} {row : List ℕ} {rise : Rise} → hs ≡ s.columns.heads.list.items → row ≡ p.dependencies.items → IsRise (patches_of hs) s.columns.levels p.block row p.told.grade (numbers_met hs walk) rise
        → IsRise old s.columns.levels p.block p.dependencies.items p.told.grade (numbers_met s.columns.heads.list.items walk) rise
    risen walk same named R = rw (← same, ← named) R

    pub may_lift : (walk : Trail) {hs gs : List Head} {row : List ℕ} {rise : Rise} → hs ≡ s.columns.heads.list.items → row ≡ p.dependencies.items → IsRise (patches_of hs) s.columns.levels p.block row p.told.grade (numbers_met hs walk) rise → length walk.marks ≡ length hs → gs ≡ s.columns.heads.list.items
        → record {
          disk : IsOnDiskWithAll (patches_of gs);
          long : length walk.marks ≡ length gs;
          inside : (p.block < length s.columns.levels.floors) × IsInside (patches_of gs) (length s.columns.levels.floors);
          leveled : IsLeveled (patches_of gs) (length s.columns.levels.floors) s.columns.levels;
          may : rise.lifts ≡ true → MayLift (patches_of gs) s.columns.levels p.block rise.level (numbers_met gs walk);
        }
    may_lift walk same named R long there = rw there record {
      disk = S.keeps.lawful.on_disk_with_all;
      long = long ∙ ap length same;
      inside = (omega (arith, D.ready.inside, S.leveled.long), λ q b h on. let k = S.keeps.inside q b h on in omega (arith, k, S.leveled.long));
      leveled = subst (λ n. IsLeveled old n s.columns.levels) (sym S.leveled.long) S.leveled;
      may = (risen walk same named R).lifts;
    }

    pub may_need : {hs : List Head} {row : List ℕ} → hs ≡ s.columns.heads.list.items → row ≡ p.dependencies.items → record { disk : IsOnDiskWithAll (patches_of hs); settled : (blocks : ℕ) × AreSettled (nodes_of hs) blocks; block : s.needs.block < length s.needs.lists; room : length row ≤ s.needs.room }
    may_need same named =
        let needed = D.prepared.needed in
        rw same record { disk = S.keeps.lawful.on_disk_with_all; settled = (_, S.tallies.settled); block = omega (arith, D.ready.inside, needed.0, S.needing.long); room = omega (arith, needed.1, ap length named) }

    -- there is room for it in the list of its block, among the counts, and in the walks
    pub may_enlist : record {
      list : p.block < length s.lists.items;
      standing : p.block < length s.standings;
      room : HasRoomInList (map (λ l. vec_len l) s.lists.items) (map (λ l. vec_capacity l) s.lists.items) p.block;
      few : (own : Standing) → own ≡ get_or s.standings p.block own → (own.ready < 18446744073709551615) × (own.held < 18446744073709551615);
    }
    may_enlist = record {
      list = D.shelf;
      standing = omega (arith, D.ready.inside, S.tallies.standing.long);
      room = D.prepared.in_list;
      few = λ own there. (
        few_counted s.columns.heads (is_ready_on p.block) _ (ap (λ s. s.ready) (D.counted own there)),
        few_counted s.columns.heads (is_held_on p.block) _ (ap (λ s. s.held) (D.counted own there)),
      );
    }

    abbrev walked : Trail → List Bool → Ends
    walked walk places = record s.columns.ends { up = record { walk = walk; crossed = with_items s.columns.ends.up.crossed places } }

    pub may_put : (walk : Trail) (places : List Bool) {hs : List Head} {lifted : Leveling} → length walk.marks ≡ length hs → hs ≡ s.columns.heads.list.items → walk.room ≡ s.columns.ends.up.walk.room → (length lifted.ranks ≡ length s.columns.levels.ranks) × (lifted.room ≡ s.columns.levels.room) → HasPlaces 1 (record s.columns { ends = walked walk places; levels = lifted })
    may_put walk places long same room lifted =
        let P = D.prepared.places in record {
          heads_free = P.heads_free;
          marks_free = omega (arith, P.marks_free, long, ap length same, as_many_marks S, room);
          below_free = P.below_free;
          ranks_free = omega (arith, P.ranks_free, lifted.0, lifted.1);
        }

    -- the change stands as it rises, beside what its block has already
    pub change_sound : (walk : Trail) (places : List Bool) {rise : Rise} {a : Ancestry} {columns : Columns} {lifted : Leveling} → HasOneMore made rise.level a (record s.columns { ends = walked walk places; levels = lifted }) columns
        → {over : Pending} → over ≡ node → {hs : List Head} {row : List ℕ} → hs ≡ s.columns.heads.list.items → row ≡ p.dependencies.items → IsRise (patches_of hs) s.columns.levels p.block row p.told.grade (numbers_met hs walk) rise → length walk.marks ≡ length hs
        → {hs : List Head} → hs ≡ s.columns.heads.list.items → IsLeveled (patches_of hs) (length s.columns.levels.floors) lifted
        → ((n : ℕ) → level_of s.columns.levels.ranks n ≤ rise.level → level_of lifted.ranks n ≤ rise.level) → (rise.lifts ≡ true → floor_of lifted.floors p.block ≡ rise.level) → (rise.lifts ≡ false → lifted ≡ s.columns.levels)
        → {hs : List Head} {row : List ℕ} → hs ≡ s.columns.heads.list.items → row ≡ p.dependencies.items → GoesUnder (patches_of hs) (s.numbers + 1) row a
        → {gs : List Head} {row : List ℕ} {grown_needs : Needing} → gs ≡ s.columns.heads.list.items → row ≡ p.dependencies.items → IsPut (patches_of gs) s.needs.block row p.told.grade s.needs.lists grown_needs.lists
        → IsNoted (s.numbers + 1) p.told.end s.needs.ways grown_needs.ways
        → {lists' : Vec (Vec Listed)} → shelved lists'.items ≡ set (shelved s.lists.items) p.block (get_or (shelved s.lists.items) p.block [] ++ entry_of (record { number = s.numbers + 1; span = p.span }) ∷ [])
        → {cover cover' : Covering} {covers' : Vec Covering} → cover ≡ get_or s.covers.items p.block cover → IsCovered cover p.span.at p.span.len (s.numbers + 1) cover' → covers'.items ≡ set s.covers.items p.block cover'
        → {standings' : List Standing} → ((d : Standing) → standings' ≡ set s.standings p.block (entered (is_hard_kind made.kind) (is_pending over (pending.Block p.block)) (s.numbers + 1) (get_or s.standings p.block d)))
        → AreSound (record s { columns = columns; needs = grown_needs; lists = lists'; covers = covers'; standings = standings'; live = s.live + 1; numbers = s.numbers + 1; prepared = None })
    change_sound walk places {rise = rise} {columns = columns} P pends same named R long at leveled below lifted still there after under gs row put noted listed cover_is covered covers_are enters =
        let W = walked_sound S {walked = walked walk places} (record { long = long ∙ ap length same; crossed = omega (arith, (walked walk places).up.crossed.ok.0, s.columns.ends.up.crossed.ok.0, as_many_places S) }) (over_down S) in
        let nodes = P.nodes in
        let patches = put_patches s.columns.heads.list.items columns.heads.list.items made nodes in
        let as_long : length walk.marks ≡ length s.columns.ends.up.walk.marks = omega (arith, long, ap length same, as_many_marks S) in
        record {
          keeps = rw (patches, P.marks.0) (keeps_walked (omega (arith, as_long, length_push walk.marks false, length_push s.columns.ends.up.walk.marks false)) D.keeps);
          beside = rw (patches, P.crossed.0) (beside_made old s.blocks s.live 1 (with_items s.columns.ends.up.crossed places).items made refl (omega (arith, D.few, S.beside.counted)) W.beside);
          tallies = rw (nodes, listed, enters without_changes, pends) (tallies_wider _ (s.numbers + 1) s.blocks _ _ _ _ _ _ (D.tallies without_changes) P.waiting P.wide);
          covered = rw (patches, covers_are) (covered_made s.numbers p.told.grade D.ready.depends S.covered D.ready.inside cover_is covered);
          along = along_grown {old = walked walk places} P.marks P.crossed W.along;
          leveled = rw patches (leveled_change p rise (numbers_met s.columns.heads.list.items walk) S.keeps.lawful.one_place_each D.given (risen walk same named R) (rw (← at, ← S.leveled.long) leveled) below lifted still (rw (← there, ← after) under) P.ranks P.floors);
          needing = rw patches (needing_change p S.keeps.lawful D.keeps.lawful S.given S.needing (rw (← D.prepared.needed.0, ← gs, ← row) put) noted D.ready.back);
          given = given_more old s.numbers s.needs.ways _ p S.keeps.lawful.one_place_each S.given noted D.ready.back;
          prepared = tt;
        }
