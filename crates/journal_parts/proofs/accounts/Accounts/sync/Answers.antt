use Rattle.std.proofs.Common.{Ok, ap, inl, inr}
use Rattle.std.proofs.lemmas.Result.{err_from_is_err_and}
use Rattle.journal_parts.specs.Syncing.{unsent, stuck, spent}
use Rattle.journal_parts.proofs.accounts.Accounts.sync.Goals as goal
use Rattle.journal_parts.proofs.accounts.Accounts.sync.Goals.{in-OnDisk, in-Stuck}

pub returns-in_err-write_until-clause-refused : goal.returns-in_err-write_until-clause-refused
returns-in_err-write_until-clause-refused g c =
    let p = err_from_is_err_and c.from_residual.result c.from_residual.ensures.1 in
    rw (p.1, p.2) (unsent _ c.in_err-write_until.ensures.refused)

pub returns-clause-refused : goal.returns-clause-refused
returns-clause-refused g c =
    elim c.match-branch-2.branch [
      | in-OnDisk w ↦ rw w.result-is tt
      | in-Stuck w ↦ rw w.result-is (elim w.in-Stuck.is [
        | inl e ↦ let h = c.in_ok-write_until.ensures.stuck (ap Ok e) in stuck h.0 h.1
        | inr e ↦ let h = c.in_ok-write_until.ensures.spent (ap Ok e) in spent h.0 (rw (← c.self.view_is) h.1)
      ])
    ]
