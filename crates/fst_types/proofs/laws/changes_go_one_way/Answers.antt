use Rattle.fst_types.proofs.OneWay.{changes_move_on, live_changes_stay, disk_is_for_good}
use Rattle.fst_types.proofs.laws.changes_go_one_way.Goals as goal

pub returns : goal.returns
returns c = record { moves = changes_move_on; live = live_changes_stay; disk = disk_is_for_good }
