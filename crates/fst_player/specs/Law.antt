-- A script's run is a run of the cache, and what is told of a crash is what the crash leaves.
use Rattle.std.specs.Prelude.{◌≡◌, ℕ, ◌<◌, List}
use Rattle.fst_types.specs.declared.shape.Shape.{Shape}
use Rattle.fst_types.specs.Tests.{is_among}
use Rattle.fst_types.specs.Crash.{crash}
use Rattle.fst_types.specs.Run.{Call, Run, changes_in}
use Rattle.fst_player.specs.Script.{PlayerState, opened, IsScriptRun, left_of}

-- what a script's lines come to is a run of the cache from its opening, and the player keeps the changes that it made
abbrev pub ScriptIsRun : Type 0
ScriptIsRun =
    (shape : Shape) (lines : List (List ℕ)) (sent : List ℕ) (p : PlayerState) → IsScriptRun (opened shape) lines sent p
    → (calls : List Call) × Run (opened shape).cache calls p.cache × (p.made ≡ changes_in calls)

-- so, whatever the lines were, what the player tells of each block after a crash is what the crash leaves of it
abbrev pub CrashIsTold : Type 0
CrashIsTold =
    (shape : Shape) (lines : List (List ℕ)) (sent : List ℕ) (p : PlayerState) → IsScriptRun (opened shape) lines sent p
    → (finish : List ℕ) (b : ℕ) → b < shape.blocks → left_of p finish b ≡ crash p.cache (is_among finish) b
