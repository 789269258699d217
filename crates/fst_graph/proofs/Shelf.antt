-- What is told of those that landed once a patch is put down.
use Rattle.std.proofs.Common.{◌≡◌, ◌≢◌, ◌<◌, ◌+◌, ◌∙◌, ℕ, true, false, List, [], ◌∷◌, ◌++◌, length, map, Contains, Option, None, if◌then◌else◌, refl, sym, ap, subst, inl, inr, arith}
use Rattle.std.proofs.lemmas.{Bool.cases_Bool, List.{length-map, length_push}, List.Elements.Contains-push}
use Rattle.std.specs.Global.{Vec}
use Rattle.fst_types.specs.{Facts.HasOnePlaceEach, Limits.max_heads, Patches.Patch, Tests.{is_among, is_at}, declared.place.Place.Place}
use Rattle.fst_heads.specs.{Heads.patches_of, Landed.AreLanded, Nodes.{Node, AreSettled, linked_to, node_of, nodes_of}, Pendings.is_pending, declared.head.Head.Head}
use Rattle.fst_heads.proofs.{Added.{new_node, with_node}, Landed.{IsAs, landed_map, landed_push, landed_push_waiting}, Placed.{patch_in, unmapped}, Turning.same_pending}
use Rattle.fst_levels.proofs.Seen.{one_each, same_patches}
use Rattle.fst_graph.specs.{Sound.{AreRemembered, remembered_of}, declared.prepared.Prepared.Prepared as Stored}
use Rattle.fst_graph.proofs.Flagged.{flags_of, remembered_as, remembered_more}
use Rattle.fst_types.specs.declared.place.Place.TheVariants as place
use Rattle.fst_heads.specs.declared.pending.Pending.TheVariants as pending
use Rattle.fst_types.proofs.Numbers.{clash}

at_disk : (x : Place) → is_at x place.Disk ≡ true → x ≡ place.Disk
at_disk place.Disk e = refl
at_disk place.Memory e = cc
at_disk place.Flight e = cc

disk_at : (x : Place) → x ≡ place.Disk → is_at x place.Disk ≡ true
disk_at x e = rw e refl

-- a patch that no other has the number of
module _ (nodes : List Node) (p : Patch) (blocks : ℕ) (landed : List ℕ) (free : (x : Node) → Contains nodes x → x.patch.number ≢ p.number) (S : AreSettled (with_node nodes p) blocks) (A : AreLanded nodes landed) where
  abbrev linked : List Node
  linked = map (linked_to p.dependencies p.number) nodes

  links : (x : Node) → IsAs x (linked_to p.dependencies p.number x)
  links x = elim (cases_Bool (is_among p.dependencies x.patch.number)) [
    | inl t ↦ rw t (record { number = refl; pending = refl; forgotten = refl })
    | inr f ↦ rw f (record { number = refl; pending = refl; forgotten = refl })
  ]

  free_linked : (x : Node) → Contains linked x → x.patch.number ≢ (new_node nodes p).patch.number
  free_linked x c e = let r = unmapped (linked_to p.dependencies p.number) nodes x c in free r.0 r.1 (sym (links r.0).number ∙ (ap (λ (y : Node). y.patch.number) r.2 ∙ e))

  told : AreLanded linked landed
  told = landed_map (linked_to p.dependencies p.number) nodes landed links A

  there : Contains (with_node nodes p) (new_node nodes p)
  there = Contains-push linked (new_node nodes p)

  -- it is told where it is on disk
  pub landed_put : AreLanded (with_node nodes p) (if is_at p.place place.Disk then landed ++ p.number ∷ [] else landed)
  landed_put = elim (cases_Bool (is_at p.place place.Disk)) [
    | inl t ↦ rw t (landed_push linked (new_node nodes p) landed free_linked refl told (ap (λ q. is_pending q pending.Nothing) ((S.placed (new_node nodes p) there).1 (at_disk p.place t))))
    | inr f ↦ rw f (landed_push_waiting linked (new_node nodes p) landed free_linked refl told (waits f))
  ]
    where
      waits : is_at p.place place.Disk ≡ false → is_pending (new_node nodes p).pending pending.Nothing ≡ false
      waits f = elim (cases_Bool (is_pending (new_node nodes p).pending pending.Nothing)) [
        | inl t ↦ absurd (clash (is_at p.place place.Disk) (disk_at p.place ((S.placed (new_node nodes p) there).0 (same_pending (new_node nodes p).pending pending.Nothing t))) f)
        | inr e ↦ e
      ]

-- there is a head more, of a patch that is not forgotten
pub put_remembered : (old new : List Head) (p : Patch) (numbers blocks : ℕ) → nodes_of new ≡ with_node (nodes_of old) p → HasOnePlaceEach (patches_of old) numbers → p.number ≡ numbers + 1 → AreSettled (nodes_of new) blocks
    → {landed now : Vec ℕ} {forgotten : ℕ} {o : Option Stored} → now.items ≡ (if is_at p.place place.Disk then landed.items ++ p.number ∷ [] else landed.items) → length old < forgotten + max_heads → length old < now.cap
    → AreRemembered old landed forgotten o → AreRemembered new now forgotten None
put_remembered old new p numbers blocks made H next S {landed} {now} {forgotten} items room shelf R =
    let nodes = nodes_of old in
    let free : (x : Node) → Contains nodes x → x.patch.number ≢ p.number = λ x c e. let few = ((one_each old numbers H).numbered x.patch (patch_in nodes x c)).1 in omega (arith, few, next, e) in
    let A = landed_put nodes p blocks landed.items free (subst (λ ns. AreSettled ns blocks) made S) R.told in
    let long : length new ≡ length old + 1 = omega (arith, ap length made, length-map new node_of, length-map old node_of, length_push (map (linked_to p.dependencies p.number) nodes) (new_node nodes p), length-map nodes (linked_to p.dependencies p.number)) in
    remembered_more old new p made {landed = landed} {now = now} long room (rw (made, items) A) shelf R

-- where only room changes, the same is remembered
pub same_view : (old new : List Head) → nodes_of new ≡ nodes_of old → remembered_of new ≡ remembered_of old
same_view old new e = remembered_as old new (ap flags_of e) (same_patches new old e)
