use Rattle.fst_pairs.proofs.desk.Desk.headline.Goals as goal

pub returns-clause-lawful : goal.returns-clause-lawful
returns-clause-lawful g c = rw (← c.self.view_is) c.headline.ensures.lawful

pub returns-clause-headline : goal.returns-clause-headline
returns-clause-headline g c = rw (← c.self.view_is) c.headline.ensures.headline

pub returns-clause-homes : goal.returns-clause-homes
returns-clause-homes g c = rw (← c.self.view_is) c.headline.ensures.homes

pub returns-clause-residence : goal.returns-clause-residence
returns-clause-residence g c = rw (← c.self.view_is) c.headline.ensures.residence

pub returns-clause-faults : goal.returns-clause-faults
returns-clause-faults g c = rw (← c.self.view_is) c.headline.ensures.faults

pub returns-clause-back : goal.returns-clause-back
returns-clause-back g c = rw (← c.self.view_is) c.headline.ensures.back
