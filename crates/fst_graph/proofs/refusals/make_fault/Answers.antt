use Rattle.std.proofs.{Common.{◌<◌, ◌∙◌, arith, sym, length, inr}, lemmas.Bool.false≢true, lemmas.List.length-map, lemmas.Option.IfSome_then}
use Rattle.fst_types.specs.{Limits.max_names, Order.NamesUnknown}
use Rattle.fst_heads.specs.Names.{numbers_of}
use Rattle.fst_graph.proofs.PlaceOf.{none_then}
use Rattle.fst_graph.proofs.refusals.make_fault.Goals.{After-room_fault}
use Rattle.fst_graph.proofs.refusals.make_fault.Goals as goal

few : (c : After-room_fault) → max_names < length (numbers_of c.args.after.now) → ⊥
few c lt = omega (arith, lt, length-map c.args.after.now (λ n. n.0), c.if-after-gt-MAX_NAMES.false)

known : (c : After-room_fault) → NamesUnknown c.args.numbers (numbers_of c.args.after.now) → ⊥
known c u = false≢true (sym c.if-names_unknown.false ∙ c.names_unknown.ensures.1 u)

pub returns-clause-first : goal.returns-clause-first
returns-clause-first c =
    let at = (goal.at.returns-clause-first c).After-room_fault in
    IfSome_then c.room_fault.result c.room_fault.ensures.first (λ f first heads same. inr (few at, inr (known at, first heads same)))

pub returns-clause-clear : goal.returns-clause-clear
returns-clause-clear c =
    let at = (goal.at.returns-clause-clear c).After-room_fault in
    none_then c.room_fault.result (λ clear heads same. (few at, (known at, clear heads same))) c.room_fault.ensures.clear
