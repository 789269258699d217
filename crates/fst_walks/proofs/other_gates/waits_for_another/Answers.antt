use Rattle.std.proofs.Common.{◌≡◌, ◌↔◌, ℕ, Contains, Some, refl, sym, subst, inl, inr}
use Rattle.fst_types.specs.{Gates.IsOpenNumber, Order.NamesAbove}
use Rattle.fst_heads.specs.{Grading.IsOpenBut, Heads.patches_of, Nodes.{nodes_of, pending_in}, declared.pending.Pending.Pending}
use Rattle.fst_walks.specs.{Descending.{IsLedFrom, Visits}, Searching.IsNextHeld}
use Rattle.fst_levels.specs.Walks.{numbers_met}
use Rattle.fst_walks.proofs.GatesSeen.{gates_seen}
use Rattle.fst_walks.proofs.Searched.{searched_led}
use Rattle.fst_levels.proofs.MetNumbers.{none_met}
use Rattle.fst_heads.specs.declared.pending.Pending.TheVariants as pending
use Rattle.fst_walks.proofs.other_gates.waits_for_another.Goals as goal

pub returns-clause-waits : goal.returns-clause-waits
returns-clause-waits c =
    let heads = c.args.sight.now.heads.now.list.items in
    let patches = patches_of heads in
    let told : ℕ → Pending = pending_in (nodes_of heads) in
    let row = c.args.row.now in
    let Other = IsOpenBut patches (Some c.args.gate) in
    let start = numbers_met c.args.sight.now.heads.now.list.items c.visit_row.new.walk in
    let starts = subst (λ q. Visits (λ n. Contains row n × (told n ≡ pending.Held)) q start) (none_met heads c.clear.new.self c.clear.ensures.met) c.visit_row.ensures.visits in
    let said : (n : ℕ) → IsOpenNumber patches n → IsLedFrom (IsNextHeld patches told) start n ↔ NamesAbove patches n row = λ n gate. searched_led patches told (gates_seen c.args.sight.now c.requires.sees).held n gate (Contains row) start starts in
    let found = c.search_other.ensures.met in (
      λ e.
          let f = found.0 e in
          let a = (said f.0 f.2.0).0 f.1 in
          (a.0, a.1, elim a.2 [ inl own ↦ inl (subst Other (sym own) f.2) | inr low ↦ inr (f.0, low, f.2) ]),
      λ u. elim u.2 [
        | inl has ↦ found.1 (u.0, (said u.0 has.0).1 (u.0, u.1, inl refl), has)
        | inr low ↦ found.1 (low.0, (said low.0 low.2.0).1 (u.0, u.1, inr low.1), low.2)
      ],
    )
