-- The rows of heads, with the places that they have.
use Rattle.std.specs.Prelude.{◌≡◌, ℕ, List, map, Contains}
use Rattle.smallvec.specs.SmallVec.{SmallVec, HasRoomFor}
use Rattle.fst_heads.specs.declared.head.Head.{Head}

-- its number, and its rows with their places
abbrev pub frame_of : Head → ℕ × SmallVec ℕ × SmallVec ℕ
frame_of h = (h.number, h.dependencies, h.dependants)

abbrev pub frames_of : List Head → List (ℕ × SmallVec ℕ × SmallVec ℕ)
frames_of heads = map frame_of heads

-- the head with number n has room for one more direct dependency
abbrev pub HasRoomBelow : List Head → ℕ → Type 0
HasRoomBelow heads n = (h : Head) → Contains heads h → h.number ≡ n → HasRoomFor h.dependencies 1
