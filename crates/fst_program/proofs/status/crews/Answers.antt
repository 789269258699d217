use Rattle.std.proofs.Common.{◌*◌, IsOk, rules, refl, []}
use Rattle.std.proofs.KnownBytes.{Appends-kept, Consumes-nil}
use Rattle.fst_crew.specs.Crewing.{told}
use Rattle.fst_program.proofs.StatusLemmas.{at_ok, same_told}
use Rattle.fst_program.proofs.status.crews.Goals as goal

pub returns-then-is_ok-2-clause-done : goal.returns-then-is_ok-2-clause-done
returns-then-is_ok-2-clause-done g c = λ zero unread.
    let ok : IsOk c.crew-worked.result = search rules in
    let end = at_ok _ ok c.crew-worked.ensures.made in
    let plan = c.in-Ok.plan in
    record {
      in_range = c.in-Ok.ensures.0;
      given = [];
      sent = told (plan.files * plan.rounds) end.0;
      read = Consumes-nil unread;
      wrote = Appends-kept _ _ _ _ end.2 c.flush.ensures.bytes;
      completes = (refl, end.0, end.1, same_told _ _ _ _ end.0 c.in-Ok.ensures.1 c.in-Ok.ensures.3);
    }
