-- The patches that the heads stand for.
use Rattle.std.specs.Prelude.{◌<◌, List, map, AllPairs}
use Rattle.fst_heads.specs.declared.head.Head.{Head}
use Rattle.fst_heads.specs.declared.head.Kind.{Kind as HeadKind}
use Rattle.fst_heads.specs.declared.head.Kind.TheVariants as kinds
use Rattle.fst_types.specs.Patches.{Kind, Change, Empty, OpenGate, SealedGate, Patch}

abbrev pub kind_of : HeadKind → Kind
kind_of (kinds.Change grade block span) = Change block span.at span.len grade
kind_of kinds.Empty = Empty
kind_of kinds.OpenGate = OpenGate
kind_of kinds.SealedGate = SealedGate

abbrev pub patch_of : Head → Patch
patch_of h = record { number = h.number; kind = kind_of h.kind; place = h.place; dependencies = h.dependencies.items }

abbrev pub patches_of : List Head → List Patch
patches_of heads = map patch_of heads

-- the numbers rise
abbrev pub IsRising : List Head → Type 0
IsRising heads = AllPairs (λ x y. x.number < y.number) heads
