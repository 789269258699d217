use Rattle.std.proofs.Common.{Result, Ok, Err, List, ℕ, ◌≡◌, map, length, refl, subst}
use Rattle.std.specs.Prelude.{OnOk, Option}
use Rattle.std.specs.Io.KnownBytes.{Appends}
use Rattle.std.specs.List.{range_with_len}
use Rattle.fst_types.specs.Bytes.{bytes_of}
use Rattle.fst_crew.specs.Crewing.{told}
use Rattle.fst_crew.proofs.Misfits.{no_fault, passed_on}
use Rattle.fst_crew.proofs.crews.crew_on.Goals as goal

-- the blocks are what the cache shows of them, and as many changes were made as were planned
blocks_told : {T E : Type 0} (r : Result T E) (a b : Option (List ℕ)) (made planned : ℕ) (blocks : List (List ℕ))
    → made ≡ planned → length blocks ≡ 8 → OnOk r (Appends a b (told made blocks)) → OnOk r ((shown : List (List ℕ)) × (length shown ≡ 8) × Appends a b (told planned shown))
blocks_told (Ok u) a b made planned blocks same eight sent = (blocks, eight, subst (λ n. Appends a b (told n blocks)) same sent)
blocks_told (Err e) a b made planned blocks same eight sent = sent

pub returns-clause-made : goal.returns-clause-made
returns-clause-made g c = blocks_told c.tell.result _ _ _ _ (map (bytes_of c.in_ok-totals.totals.cache.state) (range_with_len 0 8)) c.in_ok-totals.ensures.made refl c.tell.ensures.made

pub returns-in_err-totals-clause-misfits : goal.returns-in_err-totals-clause-misfits
returns-in_err-totals-clause-misfits g c = λ f misfits. passed_on _ c.in_err-totals.field-0.0 _ c.from_residual.ensures.1 (c.in_err-totals.ensures.misfits f misfits)

pub returns-clause-misfits : goal.returns-clause-misfits
returns-clause-misfits g c = λ f misfits. absurd (no_fault _ _ (c.in_ok-totals.ensures.misfits f misfits))
