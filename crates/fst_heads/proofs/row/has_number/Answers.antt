use Rattle.fst_heads.proofs.{Basics.{◌∙◌}, Rows.row_found}
use Rattle.fst_heads.proofs.row.has_number.Goals as goal

pub returns : goal.returns
returns c = c.is_ok.ensures.value ∙ row_found c.args.row.now c.requires c.args.number c.binary_search.result c.binary_search.ensures.position
