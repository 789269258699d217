use Rattle.std.proofs.Common.{[], ◌++◌, refl, rules}
use Rattle.std.proofs.KnownBytes.{Appends-nil, Appends-trans, Consumes-kept, Consumes-nil, Consumes-trans}
use Rattle.fst_player.specs.Script.{opened}
use Rattle.fst_player.proofs.SessionLemmas.{Consumes-none, from_opened, stopped_plays, unfinished_plays}
use Rattle.fst_player.proofs.play.play_on.Goals as goal

pub returns-in-Ok-finish-clause-played : goal.returns-in-Ok-finish-clause-played
returns-in-Ok-finish-clause-played g c shape fresh =
    let at = c.stream.invariant in
    let left = c.in-Ok-finish.ensures (opened shape) at.0 at.1 (from_opened shape _ at.0 at.1 _ fresh at.4) in
    (at.0, at.1 ++ left.0, Consumes-none _ _ _ at.0 _ c.in-Ok.n c.if-n-eq0.true at.2 c.in-Ok.ensures.bytes.0, Appends-trans _ _ _ at.1 left.0 at.3 left.2, (left.1, left.3))

pub returns-in-Err-clause-played : goal.returns-in-Err-clause-played
returns-in-Err-clause-played g c shape fresh =
    let at = c.stream.invariant in
    let left = c.in-Err.ensures (opened shape) at.0 at.1 (from_opened shape _ at.0 at.1 _ fresh at.4) in
    let told = unfinished_plays (Unit {0}) shape at.0 at.1 left.0 left.1 left.2 _ _ _ _ (c.in-Ok.ensures.bytes.1 c.if-n-eq0.true (search rules)) at.3 left.3 left.4 in
    (at.0, told.0, Consumes-none _ _ _ at.0 _ c.in-Ok.n c.if-n-eq0.true at.2 c.in-Ok.ensures.bytes.0, told.1, told.2)

pub returns-in-Err-feed-clause-played : goal.returns-in-Err-feed-clause-played
returns-in-Err-feed-clause-played g c shape fresh =
    let at = c.stream.invariant in
    let told = stopped_plays (Unit {0}) shape _ at.1 _ _ _ _ at.3 (c.in-Err-feed.ensures (opened shape) at.0 at.1 (from_opened shape _ at.0 at.1 _ fresh at.4)) in
    (_, told.0, Consumes-trans _ _ _ at.0 _ at.2 c.in-Ok.ensures.bytes.0, told.1, told.2)

pub stream-preserved : goal.stream-preserved
stream-preserved g c =
    let at = c.stream.invariant in
    let led = c.in-Ok-feed.ensures c.args.session.now.player at.0 at.1 at.4 in
    (_, at.1 ++ led.0, Consumes-trans _ _ _ at.0 _ at.2 c.in-Ok.ensures.bytes.0, Appends-trans _ _ _ at.1 led.0 at.3 led.1, led.2)

pub stream-init : goal.stream-init
stream-init g c = ([], [], Consumes-nil _, Appends-nil _, record { run = (refl, refl); held = c.requires })

pub returns-in_default-clause-played : goal.returns-in_default-clause-played
returns-in_default-clause-played g c shape fresh =
    let at = c.stream.invariant in
    let told = from_opened shape _ at.0 at.1 _ fresh at.4 in
    (at.0, at.1, Consumes-kept _ _ _ at.0 at.2 c.in_default.ensures.bytes, at.3, (c.stream.session.player, told.run))

pub returns-clause-played : goal.returns-clause-played
returns-clause-played g c shape fresh =
    let at = c.stream.invariant in
    let told = from_opened shape _ at.0 at.1 _ fresh at.4 in
    (at.0, at.1, at.2, at.3, (c.stream.session.player, told.run))
