use Rattle.std.proofs.Common.{◌≡◌, ℕ, subst, inl, inr}
use Rattle.std.proofs.lemmas.Bool.{cases_Bool}
use Rattle.fst_types.specs.Gates.{IsOpenNumber}
use Rattle.fst_heads.specs.{Heads.patches_of, Nodes.{nodes_of, pending_in}, declared.pending.Pending.Pending}
use Rattle.fst_walks.specs.{Descending.Visits, Starting.IsStart}
use Rattle.fst_levels.specs.Walks.{numbers_met}
use Rattle.fst_walks.proofs.GatesSeen.{gates_seen}
use Rattle.fst_walks.proofs.SearchedAbove.{apart_none, between_above}
use Rattle.fst_levels.proofs.MetNumbers.{none_met}
use Rattle.fst_heads.specs.declared.pending.Pending.TheVariants as pending
use Rattle.fst_walks.proofs.cycle.starts_close.Goals as goal

pub returns-clause-close : goal.returns-clause-close
returns-clause-close c =
    let heads = c.args.sight.now.heads.now.list.items in
    let told : ℕ → Pending = pending_in (nodes_of heads) in
    let Start = IsStart (patches_of heads) c.args.starts in
    let bottoms = numbers_met heads c.visit_held.new.walk in
    let tops = numbers_met heads c.visit_starts.new.walk in
    let o = c.requires.is_open in
    let gate : IsOpenNumber (patches_of heads) c.args.gate = record { patch = o.patch; head = o.head; numbered = o.numbered; is_open = o.is_open } in
    let first = subst (λ q. Visits (λ n. (n ≡ c.args.gate) × (told n ≡ pending.Held)) q bottoms) (none_met heads c.clear.new.self c.clear.ensures.met) c.visit_held.ensures.visits in
    let starts = subst (λ q. Visits (λ n. Start n × (told n ≡ pending.Held)) q tops) (none_met heads c.clear-2.new.self c.clear-2.ensures.met) c.visit_starts.ensures.visits in (
      λ e. let met = c.walks_meet.ensures.meet e in between_above (patches_of heads) told (gates_seen c.args.sight.now c.requires.sees).held c.args.gate gate Start bottoms tops first starts met.0 met.1,
      λ a. elim (cases_Bool c.walks_meet.result) [
        | inl met ↦ met
        | inr apart ↦ absurd (apart_none (patches_of heads) told (gates_seen c.args.sight.now c.requires.sees).held c.args.gate gate Start bottoms tops first starts (numbers_met heads c.walks_meet.new.ends.up.walk) (numbers_met heads c.walks_meet.new.ends.down.walk) (c.walks_meet.ensures.apart apart) a)
      ],
    )
