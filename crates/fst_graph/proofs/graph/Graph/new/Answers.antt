use Rattle.std.proofs.Common.{◌≤◌, [], arith, lit≤}
use Rattle.fst_types.specs.{Facts.HeadsAreLawful, Limits.max_number}
use Rattle.fst_types.proofs.Opened.{opening_is_lawful}
use Rattle.fst_graph.proofs.graph.Graph.new.Goals as goal

-- of no patch and no group all holds
pub invariant_of-result : goal.invariant_of-result
invariant_of-result c =
    let n = c.args.numbers in
    let last : n ≤ max_number = omega (arith, c.ranges.numbers.fits) in
    let lawful : HeadsAreLawful [] n = (opening_is_lawful 0 0 n 0 [] (λ k d lt. absurd (omega (arith, lt))) last (lit≤ tt)).heads in
    rw (c.none.ensures, c.in-Ok.ensures, c.new-2.ensures) (record {
      whole = record {
        lawful = lawful;
        sparse = record { only = λ p q h. absurd (omega (arith, h.1)); below = λ p q h. absurd (omega (arith, h.1)); given = λ e h. absurd (omega (arith, h.1)) };
      };
      grouped = record {
        lawful = lawful;
        grouped = record { few = lit≤ tt; apart = λ i j d lt inside. absurd (omega (arith, inside)); each = λ g h. absurd (omega (arith, h.1)) };
        prepared = tt;
      };
    })
