-- Forgetting what landed: heads are marked, which leaves all else as it is, or those of patches on disk are dropped.
use Rattle.std.proofs.Common.{◌≡◌, ◌↔◌, ◌≤◌, ◌<◌, ◌+◌, ◌∙◌, ℕ, List, [], ◌∷◌, length, map, count_by, Contains, refl, sym, ap, subst, arith}
use Rattle.std.proofs.{Math.Path.fun_ext, lemmas.List.length-map}
use Rattle.fst_types.specs.{Facts.SparseAreLawful, Limits.max_heads, Tests.{is_among, is_at, is_live}}
use Rattle.fst_heads.specs.{Heads.patches_of, Keeps.Tallies, Landed.flags, Lists.{Entry, AreListed}, Nodes.{Node, AreSettled, is_forgotten_in, node_of, nodes_of, patches_in, pending_in}, Pendings.{IsOf, joined, of_kind, sums_of}}
use Rattle.fst_heads.specs.{declared.standing.Standing.Standing}
use Rattle.fst_heads.proofs.{AtNumber.patches_in_nodes, Beside.waiting_live, CountsAs.{like_as, stand_map}, Flagged.{all_told, flags_number, flags_patch, flags_pending, goes, goes_if, patches_flagged}, Placed.{SameLinks, distinct_kept, given_kept, linked_kept, links_mapped, unmapped}}
use Rattle.fst_graph.specs.declared.sparse.Sparse.TheInside.{Inside}
use Rattle.fst_graph.specs.{Sound.{AreRemembered, AreSound, remembered_of}}
use Rattle.fst_graph.proofs.{Flagged.rising_nodes, RememberedLooks.disk_count, Sound.{rising_sound, view_gone, view_long}, Tallied.tallies_from}
use Rattle.fst_types.specs.declared.place.Place.TheVariants as place
use Rattle.fst_heads.specs.declared.pending.Pending.TheVariants as pending

module _ (row : List ℕ) (nodes : List Node) where
  abbrev pub marked : List Node
  marked = map (flags row) nodes

  each_marked : (P : Node → Type 0) → ((x : Node) → P x → P (goes x)) → ((x : Node) → Contains nodes x → P x) → (y : Node) → Contains marked y → P y
  each_marked P keep f y c = let r = unmapped (flags row) nodes y c in let k = f r.0 r.1 in subst P r.2 (goes_if P (is_among row r.0.patch.number) r.0 k (keep r.0 k))

  links : (x : Node) → SameLinks x (flags row x)
  links x = goes_if (SameLinks x) (is_among row x.patch.number) x (record { number = refl; dependencies = refl; dependants = refl }) (record { number = refl; dependencies = refl; dependants = refl })

  pending_marked : (xs : List Node) (n : ℕ) → pending_in (map (flags row) xs) n ≡ pending_in xs n
  pending_marked [] n = refl
  pending_marked (x ∷ xs) n = rw (flags_number row x, flags_pending row x, pending_marked xs n) refl

  told : pending_in marked ≡ pending_in nodes
  told = fun_ext (pending_marked nodes)

  pub settled_marked : (blocks : ℕ) → AreSettled nodes blocks → AreSettled marked blocks
  settled_marked blocks S = record {
    summed = each_marked (λ y. y.sums ≡ sums_of (pending_in marked) y.patch.dependencies) (λ x e. e) (λ x c. S.summed x c ∙ ap (λ t. sums_of t x.patch.dependencies) (sym told));
    settled = each_marked (λ y. y.pending ≡ of_kind y.patch.kind y.patch.place (joined (pending_in marked) y.patch.dependencies)) (λ x e. e)
        (λ x c. S.settled x c ∙ ap (λ t. of_kind x.patch.kind x.patch.place (joined t x.patch.dependencies)) (sym told));
    placed = each_marked (λ y. (y.pending ≡ pending.Nothing) ↔ (y.patch.place ≡ place.Disk)) (λ x e. e) S.placed;
    inside = λ y b c. each_marked (λ z. IsOf b z.pending → b < blocks) (λ x e. e) (λ x d. S.inside x b d) y c;
  }

  pub tallies_marked : (numbers blocks : ℕ) (lists : List (List Entry)) (standings : List Standing) (queue : List ℕ) (cap : ℕ)
      → SparseAreLawful (patches_in nodes) numbers → Tallies nodes numbers blocks lists standings queue cap → Tallies marked numbers blocks lists standings queue cap
  tallies_marked numbers blocks lists standings queue cap H T =
      let same = patches_flagged nodes row in
      let kept = links_mapped (flags row) nodes links in
      tallies_from marked numbers numbers blocks lists standings queue cap
      (subst (λ ps. SparseAreLawful ps numbers) (sym same) H)
      (linked_kept nodes marked kept T.linked)
      (given_kept nodes marked numbers kept T.given)
      (distinct_kept nodes marked kept T.distinct)
      (settled_marked blocks T.settled)
      (subst (λ ps. AreListed ps blocks lists) (sym same) T.listed)
      (stand_map (flags row) nodes blocks standings (λ x b i lt. like_as b (flags row x) x (ap (λ p. p.number) (flags_patch row x)) (ap (λ p. p.kind) (flags_patch row x)) (ap (λ p. p.place) (flags_patch row x)) (flags_pending row x)) T.standing)
      T.idle
      (omega (arith, T.room, length-map nodes (flags row)))

-- those that landed are the patches on disk that are not forgotten
module _ {s : Inside} (I : AreSound s × AreRemembered s.columns.heads.list.items s.landed s.forgotten s.prepared) where
  all : s.live + s.forgotten + length s.landed.items ≡ length s.columns.heads.list.items
  all = omega (
    arith,
    all_told (nodes_of s.columns.heads.list.items) s.landed.items (rising_nodes s.columns.heads.list.items (rising_sound I.0)) I.1.told,
    waiting_live (nodes_of s.columns.heads.list.items) s.blocks I.0.tallies.settled,
    ap (count_by is_live) (patches_in_nodes s.columns.heads.list.items),
    I.0.beside.counted,
    I.1.counted,
    length-map s.columns.heads.list.items node_of,
  )

  pub landed_long : length s.landed.items ≡ count_by (λ p. is_at p.place place.Disk) (remembered_of s.columns.heads.list.items)
  landed_long = omega (arith, all, view_long I, disk_count (is_forgotten_in (nodes_of s.columns.heads.list.items)) (patches_of s.columns.heads.list.items) (view_gone I), I.0.beside.counted)

  pub landed_bound : length s.landed.items ≤ max_heads
  landed_bound = omega (arith, all, I.1.few)

  pub live_inside : s.live ≤ length s.columns.heads.list.items
  live_inside = omega (arith, all)
