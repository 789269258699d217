-- What a spread, a seal and a landing keep: links, what was given, and the lists.
use Rattle.fst_heads.proofs.{Basics.{◌≡◌, ℕ, List, length, map, sym, ap, ◌∙◌, length-map, rules}, Patches.all_settled}
use Rattle.fst_heads.proofs.Words.{Entry, AreListed, Node, patches_in, at_number, AreLinked, AreGiven, AreDistinct, IsSpreadOf, unspread, IsRisenOf, unrisen, seals, lands}
use Rattle.fst_heads.proofs.Placed.{links_mapped, linked_kept, given_kept, distinct_kept, links_spread, unsettled_spread, entries_settled}
use Rattle.fst_heads.proofs.{Starting.{seal_same, land_same}, Waiting.map_twice}

-- a spread keeps links, what was given, and the lists
pub spread_trans : (old mid new : List Node) → IsSpreadOf old mid → IsSpreadOf mid new → IsSpreadOf old new
spread_trans old mid new a b = b ∙ a

-- what rises only is spread
pub risen_spread : (old new : List Node) → IsRisenOf old new → IsSpreadOf old new
risen_spread old new risen = sym (bare new) ∙ (ap (map unspread) risen ∙ bare old)
  where
    bare : (nodes : List Node) → map unspread (map unrisen nodes) ≡ map unspread nodes
    bare nodes = map_twice unspread unrisen nodes

pub length_spread : (old new : List Node) → IsSpreadOf old new → length new ≡ length old
length_spread old new spread = sym (length-map new unspread) ∙ (ap length spread ∙ length-map old unspread)

pub linked_spread : (old new : List Node) → IsSpreadOf old new → AreLinked old → AreLinked new
linked_spread old new spread L = linked_kept old new (links_spread old new spread) L

pub given_spread : (old new : List Node) (numbers : ℕ) → IsSpreadOf old new → AreGiven old numbers → AreGiven new numbers
given_spread old new numbers spread G = given_kept old new numbers (links_spread old new spread) G

pub distinct_spread : (old new : List Node) → IsSpreadOf old new → AreDistinct old → AreDistinct new
distinct_spread old new spread D = distinct_kept old new (links_spread old new spread) D

pub listed_spread : (old new : List Node) (blocks : ℕ) (lists : List (List Entry)) → IsSpreadOf old new → AreListed (patches_in old) blocks lists → AreListed (patches_in new) blocks lists
listed_spread old new blocks lists spread A = search (rules, entries_settled, all_settled, unsettled_spread)

pub linked_sealed : (nodes : List Node) (g : ℕ) → AreLinked nodes → AreLinked (map (at_number g seals) nodes)
linked_sealed nodes g L = linked_kept nodes (map (at_number g seals) nodes) (links_mapped (at_number g seals) nodes (λ x. (seal_same g x).links)) L

pub distinct_sealed : (nodes : List Node) (g : ℕ) → AreDistinct nodes → AreDistinct (map (at_number g seals) nodes)
distinct_sealed nodes g D = distinct_kept nodes (map (at_number g seals) nodes) (links_mapped (at_number g seals) nodes (λ x. (seal_same g x).links)) D

pub linked_landed : (nodes : List Node) (b : ℕ) → AreLinked nodes → AreLinked (map (lands b) nodes)
linked_landed nodes b L = linked_kept nodes (map (lands b) nodes) (links_mapped (lands b) nodes (λ x. (land_same b x).links)) L

pub distinct_landed : (nodes : List Node) (b : ℕ) → AreDistinct nodes → AreDistinct (map (lands b) nodes)
distinct_landed nodes b D = distinct_kept nodes (map (lands b) nodes) (links_mapped (lands b) nodes (λ x. (land_same b x).links)) D
