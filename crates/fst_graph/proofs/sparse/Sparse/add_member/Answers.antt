use Rattle.std.proofs.Common.{◌+◌, ◌∷◌, ◌∙◌, [], IfSome, ap, subst}
use Rattle.fst_types.specs.Refusals.{NoneHolds}
use Rattle.fst_heads.specs.Heads.{patches_of}
use Rattle.fst_heads.specs.Nodes.{is_forgotten_in, nodes_of}
use Rattle.fst_graph.specs.{Known.{Known, unprepared, DependsGate}, Membering.member_order, Ready.MayBePut, Sound.remembered_of, Sparse.{AddsSparse, SparseChangeIsMade}}
use Rattle.fst_graph.proofs.{GateIndex.known_is, Remembered.depends_was, RememberedRules.overlapped, Sound.{if_prepared, view_gone}, TailGains.member_clear}
use Rattle.fst_graph.proofs.sparse.Sparse.add_member.Goals as goal

pub returns-clause-added : goal.returns-clause-added
returns-clause-added c =
    let q = c.requires in
    let head = c.args.head in
    let r = c.put.result in
    let between = c.begin_member.new.self in
    let tied = subst (λ o. IfSome o (λ p. IfSome p.group (λ h. (w : Known) × AddsSparse (unprepared between) p.block p.at p.len (h ∷ []) r.0.0 r.1 w × DependsGate w (h + 1) (r.0.0 ∷ []) c.put.new.self))) (c.begin_member.ensures.prepared ∙ q.1) c.put.ensures.tied in
    let made = subst (λ g. IfSome g (λ h. (w : Known) × AddsSparse (unprepared between) q.0.block q.0.at q.0.len (h ∷ []) r.0.0 r.1 w × DependsGate w (h + 1) (r.0.0 ∷ []) c.put.new.self)) q.2 tied in
    let s = c.self.inside in
    let old = patches_of s.columns.heads.list.items in
    let known = remembered_of s.columns.heads.list.items in
    let gone = is_forgotten_in (nodes_of s.columns.heads.list.items) in
    let apart = member_clear s.prepared s.numbers q.0 head old known s.blocks (ap (λ k. k.prepared) c.self.view_is ∙ q.1) q.2 (if_prepared c.self.invariant.0 (MayBePut old known s.numbers s.blocks) (λ p is k. k.ready)) in
    let clear : NoneHolds (member_order known s.numbers (head + 1) q.0.block q.0.at q.0.len) = (λ o. apart.0 (o.0, (overlapped gone old s.numbers (view_gone c.self.invariant) c.self.invariant.0.keeps.lawful.on_disk_with_all _ o.0).0 o.1, depends_was gone old o.0 (head + 1) o.2), apart.1) in
    let begun = c.begin_member.ensures.begun in
    let numbers = ap (λ (k : Known). k.numbers) begun.state in
    let blocks = made.2.blocks ∙ (made.1.blocks ∙ ap (λ (k : Known). k.blocks) begun.state) in
    let groups = made.2.groups ∙ (made.1.groups ∙ ap (λ (k : Known). k.groups) begun.state) in
    rw q.1 (record {
      clear = subst (λ (v : Known). NoneHolds (member_order v.heads v.numbers (head + 1) q.0.block q.0.at q.0.len)) c.self.view_is clear;
      row = record {
        begun = between.heads;
        begin = begun.row;
        with_change = made.0.heads;
        change = subst (λ k. SparseChangeIsMade between.heads k q.0.block q.0.at q.0.len (head ∷ []) r.0.0 r.1 made.0.heads) numbers made.1.row;
        tie = made.2.row;
      };
      state = known_is c.put.new.self _ _ _ (made.2.numbers ∙ made.1.numbers) blocks groups made.2.prepared;
    })
