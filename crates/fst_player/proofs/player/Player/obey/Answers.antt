use Rattle.fst_player.proofs.player.Player.obey.Goals as goal

pub returns-in-Patch : goal.returns-in-Patch
returns-in-Patch g c = rw c.in-Patch.is (rw (c.deref.ensures.value, c.deref-in-Patch.ensures.value) at c.patch.ensures)

pub returns-in-Empty : goal.returns-in-Empty
returns-in-Empty g c = rw c.in-Empty.is (rw c.deref-in-Empty.ensures.value at c.empty.ensures)

pub returns-in-Gate : goal.returns-in-Gate
returns-in-Gate g c = rw c.in-Gate.is c.gate.ensures

pub returns-in-Depend : goal.returns-in-Depend
returns-in-Depend g c = rw c.in-Depend.is (rw c.deref-in-Depend.ensures.value at c.depend.ensures)

pub returns-in-Seal : goal.returns-in-Seal
returns-in-Seal g c = rw c.in-Seal.is c.seal.ensures

pub returns-in-Choose : goal.returns-in-Choose
returns-in-Choose g c = rw c.in-Choose.is c.choose.ensures

pub returns-in-Pick : goal.returns-in-Pick
returns-in-Pick g c = rw c.in-Pick.is c.pick.ensures

pub returns-in-Write : goal.returns-in-Write
returns-in-Write g c = rw c.in-Write.is c.write.ensures

pub returns-in-Done : goal.returns-in-Done
returns-in-Done g c = rw c.in-Done.is c.done.ensures

pub returns-in-Retry : goal.returns-in-Retry
returns-in-Retry g c = rw c.in-Retry.is c.retry.ensures

pub returns-in-Evict : goal.returns-in-Evict
returns-in-Evict g c = rw c.in-Evict.is c.evict.ensures

pub returns-in-Show : goal.returns-in-Show
returns-in-Show g c = rw c.in-Show.is c.show.ensures

pub returns-in-Place : goal.returns-in-Place
returns-in-Place g c = rw c.in-Place.is c.place.ensures

pub returns-in-Forget : goal.returns-in-Forget
returns-in-Forget g c = rw c.in-Forget.is c.forget.ensures

pub returns-in-Stat : goal.returns-in-Stat
returns-in-Stat g c = rw c.in-Stat.is c.stat.ensures

pub returns-in-Crash : goal.returns-in-Crash
returns-in-Crash g c = rw c.in-Crash.is (rw c.deref-in-Crash.ensures.value at c.crash.ensures)

pub returns-in-GroupNew : goal.returns-in-GroupNew
returns-in-GroupNew g c = rw c.in-GroupNew.is c.group_new.ensures

pub returns-in-GroupAfter : goal.returns-in-GroupAfter
returns-in-GroupAfter g c = rw c.in-GroupAfter.is c.group_after.ensures

pub returns-in-GroupPatch : goal.returns-in-GroupPatch
returns-in-GroupPatch g c = rw c.in-GroupPatch.is (rw c.deref-in-GroupPatch.ensures.value at c.group_patch.ensures)

pub returns-in-GroupClose : goal.returns-in-GroupClose
returns-in-GroupClose g c = rw c.in-GroupClose.is c.group_close.ensures
