use Rattle.fst_cache.proofs.cache.Cache.open.Goals as goal

pub returns-clause-opened : goal.returns-clause-opened
returns-clause-opened g c = c.open_at.ensures.opened

pub returns-clause-fits : goal.returns-clause-fits
returns-clause-fits g c = c.open_at.ensures.fits

pub returns-clause-back : goal.returns-clause-back
returns-clause-back g c = c.open_at.ensures.back

pub returns-clause-refused : goal.returns-clause-refused
returns-clause-refused g c = c.open_at.ensures.refused
