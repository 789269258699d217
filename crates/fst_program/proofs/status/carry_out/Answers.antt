use Rattle.std.proofs.Common.{◌≡◌, ℕ, List, Bor, map, inl, refl}
use Rattle.fst_program.specs.declared.arguments.Run.TheVariants.{Crew}
use Rattle.fst_program.proofs.StatusLemmas.{asks_same, fault_found}
use Rattle.fst_program.proofs.status.carry_out.Goals as goal

pub returns-in-Ok-Crew-clause-done : goal.returns-in-Ok-Crew-clause-done
returns-in-Ok-Crew-clause-done g c = λ zero.
    let asks = c.in-Ok-Crew in
    let words = map {A = Bor (List ℕ)} {B = List ℕ} (λ w. w.now) c.args.words.now in
    let same : c.in-Ok-Crew.field-0 ≡ Crew c.in-Ok-Crew.files c.in-Ok-Crew.workers c.in-Ok-Crew.rounds = cc in
    inl (Crew asks.files asks.workers asks.rounds, asks_same words _ _ same asks.ensures.asked, c.crews.ensures.done zero (g.I.Read.remaining c.args.reader.now))

pub returns-in-Err-clause-refused : goal.returns-in-Err-clause-refused
returns-in-Err-clause-refused g c = λ two.
    let told = c.tell.ensures.refused two in
    let words = map {A = Bor (List ℕ)} {B = List ℕ} (λ w. w.now) c.args.words.now in
    (fault_found words c.in-Err.error c.in-Err.ensures.faults told.0 told.1, refl, told.2)
