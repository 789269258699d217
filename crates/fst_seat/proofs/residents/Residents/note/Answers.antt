use Rattle.std.proofs.Common.{List, Bool, sym, ap, ◌∙◌, slice_set}
use Rattle.fst_seat.proofs.Listing.{same_noted}
use Rattle.fst_seat.proofs.residents.Residents.note.Goals as goal

pub returns-else-there : goal.returns-else-there
returns-else-there c =
    let old = c.args.self.now in
    ap (λ (flags : List Bool). record { most = old.most; loaded = flags; dirty = old.dirty }) (sym (ap (slice_set old.loaded c.args.block) c.if-there.false ∙ same_noted old.loaded c.args.block _ c.requires))
