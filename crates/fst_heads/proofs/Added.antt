-- The nodes where a patch is made, and where a gate gains names.
use Rattle.fst_heads.proofs.{Basics.{ℕ, List, false, [], ◌∷◌, ◌++◌, map}, Patches.Patch}
use Rattle.fst_heads.proofs.Words.{Sums, Node, at_number, linked_to, gains_names, pending_in, joined, of_kind, sums_of}

-- the node of a new patch
abbrev pub new_node : List Node → Patch → Node
new_node nodes p = record {
  patch = p;
  sums = sums_of (pending_in nodes) p.dependencies;
  pending = of_kind p.kind p.place (joined (pending_in nodes) p.dependencies);
  dependants = [];
  forgotten = false;
}

-- the nodes with a new one, which is a dependant of those that it depends on
abbrev pub with_node : List Node → Patch → List Node
with_node nodes p = map (linked_to p.dependencies p.number) nodes ++ new_node nodes p ∷ []

-- the nodes where gate g gains names
abbrev pub with_names : List Node → ℕ → List ℕ → Sums → List Node
with_names nodes g names sums = map (linked_to names g) (map (at_number g (gains_names names sums)) nodes)
