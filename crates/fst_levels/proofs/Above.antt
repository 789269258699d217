-- Up from a patch to those that directly depend on it, and from a block to its changes, which its list names.
use Rattle.std.proofs.Common.{◌≡◌, ◌<◌, ℕ, not, List, map, filter, get_or, Contains, refl, sym, ap, subst, ◌∙◌}
use Rattle.std.proofs.lemmas.Bool.{and_parts, and_from}
use Rattle.fst_types.specs.{Dependencies.{DirectlyOn, IsLiveNumber}, Patches.{Patch, IsOn}}
use Rattle.fst_types.specs.Tests.{is_at, is_on}
use Rattle.fst_types.proofs.{Dropping.{in_filter, filter_in}, Finite.{In, In-from_Contains, Contains-from_In, In-map}, GateGains.In-unmap}
use Rattle.fst_heads.specs.{Grading.IsHardNumber, Heads.{IsRising, patch_of, patches_of}, Lists.{Entry, entry, entry_of, entries_of, entries_on, is_live_on}}
use Rattle.fst_heads.specs.{Indices.{HasIndex, PassesAt}, Nodes.{Node, node_of, nodes_of, patches_in, AreLinked}, Reaching.{IsHardIn}}
use Rattle.fst_heads.specs.{declared.head.Head.Head, declared.lists.Listed.Listed}
use Rattle.fst_heads.proofs.{AtNumber.patches_in_nodes, Forgetting.{live_place_of}, Graded.{on_from, on_to}}
use Rattle.fst_heads.proofs.{Placed.{patch_in, node_of_patch}, Indices.patch_is, Waiting.{map_twice, times_some, some_times}}
use Rattle.fst_types.specs.declared.place.Place.TheVariants as place
use Rattle.fst_heads.specs.declared.test.Test.TheVariants as test
use Rattle.fst_types.proofs.Numbers.{one_block, not_disk}
use Rattle.fst_types.proofs.Landing.{kind_on, on_kind}

-- up from a node to those that directly depend on it
module _ (nodes : List Node) (linked : AreLinked nodes) (x : Node) (c : Contains nodes x) where
  node_above : (p : Patch) (n : ℕ) → Contains (patches_in nodes) p → p.number ≡ n → Contains x.dependants n → DirectlyOn (patches_in nodes) n x.patch.number
  node_above p n h numbered named =
      let y = node_of_patch nodes p h in
      let number : y.0.patch.number ≡ n = ap (λ (p : Patch). p.number) y.2 ∙ numbered in
      let there = times_some x.dependants y.0.patch.number (subst (In x.dependants) (sym number) (In-from_Contains x.dependants n named)) in
      let here = some_times y.0.patch.dependencies x.patch.number (subst (λ k. 0 < k) (linked y.0 x y.1 c) there) in
      record { patch = y.0.patch; head = patch_in nodes y.0 y.1; numbered = number; named = Contains-from_In y.0.patch.dependencies x.patch.number here }

  above_node : (n : ℕ) → DirectlyOn (patches_in nodes) n x.patch.number → Contains x.dependants n
  above_node n d =
      let y = node_of_patch nodes d.patch d.head in
      let named = In-from_Contains y.0.patch.dependencies x.patch.number (subst (λ (p : Patch). Contains p.dependencies x.patch.number) (sym y.2) d.named) in
      let there = subst (λ k. 0 < k) (sym (linked y.0 x y.1 c)) (times_some y.0.patch.dependencies x.patch.number named) in
      subst (Contains x.dependants) (ap (λ (p : Patch). p.number) y.2 ∙ d.numbered) (Contains-from_In x.dependants y.0.patch.number (some_times x.dependants y.0.patch.number there))

module _ (heads : List Head) (linked : AreLinked (nodes_of heads)) (x : Head) (c : Contains (nodes_of heads) (node_of x)) where
  pub above_there : (p : Patch) (n : ℕ) → Contains (patches_of heads) p → p.number ≡ n → Contains x.dependants.items n → DirectlyOn (patches_of heads) n x.number
  above_there p n h numbered named =
      subst (λ ps. DirectlyOn ps n x.number) (patches_in_nodes heads)
      (node_above (nodes_of heads) linked (node_of x) c p n (subst (λ ps. Contains ps p) (sym (patches_in_nodes heads)) h) numbered named)

  pub above_from : (n : ℕ) → Contains x.dependants.items n → IsLiveNumber (patches_of heads) n → DirectlyOn (patches_of heads) n x.number
  above_from n named l = above_there l.patch n l.head l.numbered named

  pub above_to : (n : ℕ) → DirectlyOn (patches_of heads) n x.number → Contains x.dependants.items n
  above_to n d = above_node (nodes_of heads) linked (node_of x) c n (subst (λ ps. DirectlyOn ps n x.number) (sym (patches_in_nodes heads)) d)

-- the list of a block names its changes that are not on disk

pub change_listed : (patches : List Patch) (list : List Listed) (b n : ℕ) → entries_of list ≡ entries_on b patches → PassesAt (test.LiveOn b) patches n → Contains (map (λ (l : Listed). l.number) list) n
change_listed patches list b n same x =
    let on = on_from b x.patch.number x.patch.kind x.patch.place x.passed in
    let live = and_from (not (is_at x.patch.place place.Disk)) (is_on b x.patch.kind) (live_place_of x.patch.place on.0) (kind_on b x.patch.kind on.1) in
    let kept = in_filter (is_live_on b) patches x.patch (In-from_Contains patches x.patch x.head) live in
    let numbered = In-map (λ (e : Entry). e.number) (entries_on b patches) (entry x.patch) n (In-map entry (filter (is_live_on b) patches) x.patch (entry x.patch) kept refl) x.numbered in
    Contains-from_In (map (λ (l : Listed). l.number) list) n (subst (λ ns. In ns n) (ap (map (λ (e : Entry). e.number)) (sym same) ∙ map_twice (λ (e : Entry). e.number) entry_of list) numbered)

-- such a change is not on disk
pub change_live : (patches : List Patch) (b n : ℕ) → PassesAt (test.LiveOn b) patches n → IsLiveNumber patches n
change_live patches b n x = record { patch = x.patch; head = x.head; numbered = x.numbered; live = (on_from b x.patch.number x.patch.kind x.patch.place x.passed).0 }

pub listed_change : (patches : List Patch) (list : List Listed) (b n : ℕ) → entries_of list ≡ entries_on b patches → Contains (map (λ (l : Listed). l.number) list) n → PassesAt (test.LiveOn b) patches n
listed_change patches list b n same c =
    let numbers = sym (map_twice (λ (e : Entry). e.number) entry_of list) ∙ ap (map (λ (e : Entry). e.number)) same in
    let e = In-unmap (λ (e : Entry). e.number) (entries_on b patches) n (subst (λ ns. In ns n) numbers (In-from_Contains (map (λ (l : Listed). l.number) list) n c)) in
    let p = In-unmap entry (filter (is_live_on b) patches) e.0 e.1 in
    let kept = filter_in (is_live_on b) patches p.0 p.1 in
    let k = and_parts (not (is_at p.0.place place.Disk)) (is_on b p.0.kind) kept.1 in
    record {
      patch = p.0;
      head = Contains-from_In patches p.0 kept.0;
      numbered = ap (λ (e : Entry). e.number) p.2 ∙ e.2;
      passed = on_to b p.0.number p.0.kind p.0.place (not_disk p.0.place k.0) (on_kind b p.0.kind k.1);
    }

-- the head at an index tells whether its number is that of a hard change of b in memory
module _ (heads : List Head) (rising : IsRising heads) (n s : ℕ) (d : Head) (index : HasIndex heads n s) where
  abbrev patches : List Patch
  patches = patches_of heads

  abbrev here : Patch
  here = patch_of (get_or heads s d)

  -- the block of what is there, if it is hard
  pub hard_on_here : (c : ℕ) → IsHardNumber patches c n → IsHardIn here c
  hard_on_here c h = subst (λ p. IsHardIn p c) (sym (patch_is heads h.patch s d rising h.head (subst (λ m. HasIndex heads m s) (sym h.numbered) index))) h.hard

  -- where it is a change of b, it is a hard change of no other block
  pub hard_same : (b : ℕ) → IsOn here b → (c : ℕ) → IsHardNumber patches c n → IsHardNumber patches b n
  hard_same b on c h = subst (λ k. IsHardNumber patches k n) (one_block here c b (hard_on_here c h).change on) h
