use Rattle.std.proofs.lemmas.Grind.{common_steps}
use Rattle.fst_heads.proofs.{Basics.{take, drop, ◌-◌, length-set, ◌≡◌, ◌≤◌, ◌∙◌, ◌∷◌, ◌++◌, [], length, cond, drop_all, append-nil, refl, sym, ap, arith, cases_Bool, inl, inr}, Words.{nodes_of, patches_of, flying_on}}
use Rattle.fst_heads.proofs.{Listing.{flies, flying_few}, Passing.{passing, passes_at, passing_within, passing_front, passing_back, rising_list}}
use Rattle.fst_heads.proofs.Landing.{Taken, taken_front, taken_back, numbers_in, numbers_last, landing_begins, landing_flies, landing_step, landing_all, flying_passes, placed_front, placed_back, placed_all}
use Rattle.fst_heads.proofs.lists.land_listed.Goals as goal
use Rattle.fst_heads.proofs.lists.land_listed.Goals.{then-land_number+then-from_back, then-land_number+else-from_back, else-land_number}

pub make_places-requires-clause-room : goal.make_places-requires-clause-room
make_places-requires-clause-room c = omega (arith, flying_few c.args.block c.args.heads.now.list.items, c.requires.flying, c.requires.room)

pub list_in-rest-requires : goal.list_in-rest-requires
list_in-rest-requires c = rising_list c.args.block c.args.heads.now.list.items c.args.list.now c.args.heads.now.rising c.requires.listed

pub loop-low-init : goal.loop-low-init
loop-low-init c =
    let heads = c.args.heads.now.list.items in
    let b = c.args.block in
    let list = c.args.list.now in
    let rest = c.list_in-rest.result.now in
    let parts = c.list_in-rest.ensures in
    let queue = c.make_places.new.queue.items in
    let all = passing_within (flies b) heads c.args.standing.flying_in c.requires.lie list parts.0 rest parts.1 parts.2 parts.3 parts.4 ∙ flying_passes b heads list c.args.heads.now.rising c.requires.listed in
    record {
      landing = landing_begins b heads list parts.0 rest parts.1 c.args.heads.now.rising c.requires.listed parts.2 all;
      placed = rw (drop_all c.args.standing.flying queue (omega (arith, c.make_places.ensures.len))) (append-nil (passing (flies b) heads rest) ∙ all);
      long = c.make_places.ensures.len;
      ends = (omega arith, omega arith);
      capacity = refl;
    }

pub loop-low-preserved : goal.loop-low-preserved
loop-low-preserved c =
    let b = c.args.block in
    let start = c.args.heads.now.list.items in
    let heads = c.loop-low.heads.list.items in
    let rest = c.loop-low.rest.now in
    let others = c.in-Some.others.now in
    let n = c.in-Some.listed.number in
    let I = c.loop-low.invariant in
    let left = numbers_in rest in
    let ns = numbers_in others in
    let t : Taken left ns n = elim (cases_Bool c.loop-low.from_back) [
      | inl e ↦ taken_back left ns n (ap numbers_in (c.in-Some.ensures.back e) ∙ numbers_last others c.in-Some.listed) I.landing.rises
      | inr e ↦ taken_front left ns n (ap numbers_in (c.in-Some.ensures.front e)) I.landing.rises
    ] in
    let passes : passes_at (flies b) (nodes_of start) n ≡ c.land_number.result = sym (c.land_number.ensures.flew ∙ landing_flies b start heads left ns n I.landing t) in
    let landing = landing_step b start heads left ns n I.landing t c.land_number.new.heads.list.items c.land_number.ensures.nodes in
    let ps = passing (flies b) start others in
    let queue = c.loop-low.queue.items in
    let whole = flying_on b (patches_of start) in
    let inside : c.loop-low.high ≤ length queue = omega (arith, I.long, I.ends.1) in
    elim c.if-land_number.branch [
      | then-land_number+then-from_back w ↦
          let at = c.loop-low.high - 1 in
          let next = passing_back (flies b) start rest others c.in-Some.listed (c.in-Some.ensures.back w.if-from_back.true) ∙ ap (λ t. ps ++ cond t (n ∷ []) []) (passes ∙ w.if-land_number.true) in
          rw (w.queue-is, w.low-is, w.high-is) record {
            landing = landing;
            placed = placed_back queue _ whole c.loop-low.low c.loop-low.high inside I.placed n at ps next (omega (arith, c.loop-low-test.true)) (omega (arith, c.loop-low-test.true));
            long = length-set queue at n ∙ I.long;
            ends = (omega (arith, c.loop-low-test.true), omega (arith, I.ends.1));
            capacity = I.capacity;
          }
      | then-land_number+else-from_back w ↦
          let next = passing_front (flies b) start rest others c.in-Some.listed (c.in-Some.ensures.front w.if-from_back.false) ∙ ap (λ t. cond t (n ∷ ps) ps) (passes ∙ w.if-land_number.true) in
          rw (w.queue-is, w.low-is, w.high-is) record {
            landing = landing;
            placed = placed_front queue _ whole c.loop-low.low c.loop-low.high inside I.placed n ps next c.loop-low-test.true;
            long = length-set queue c.loop-low.low n ∙ I.long;
            ends = (omega (arith, c.loop-low-test.true), I.ends.1);
            capacity = I.capacity;
          }
      | else-land_number w ↦
          let off = passes ∙ w.if-land_number.false in
          let same : passing (flies b) start rest ≡ ps = elim (cases_Bool c.loop-low.from_back) [
            | inl e ↦ passing_back (flies b) start rest others c.in-Some.listed (c.in-Some.ensures.back e) ∙ (ap (λ t. ps ++ cond t (n ∷ []) []) off ∙ append-nil ps)
            | inr e ↦ passing_front (flies b) start rest others c.in-Some.listed (c.in-Some.ensures.front e) ∙ ap (λ t. cond t (n ∷ ps) ps) off
          ] in
          rw (w.queue-is, w.low-is, w.high-is) record {
            landing = landing;
            placed = ap (λ ms. take c.loop-low.low queue ++ (ms ++ drop c.loop-low.high queue)) (sym same) ∙ I.placed;
            long = I.long;
            ends = I.ends;
            capacity = I.capacity;
          }
    ]

pub returns-after-loop-low-clause-nodes : goal.returns-after-loop-low-clause-nodes
returns-after-loop-low-clause-nodes c =
    let b = c.args.block in
    let start = c.args.heads.now.list.items in
    let queue = c.loop-low.queue.items in
    let I = c.loop-low.invariant in
    let inside : c.loop-low.high ≤ length queue = omega (arith, I.long, I.ends.1) in
    let all = placed_all queue _ (flying_on b (patches_of start)) c.loop-low.low c.loop-low.high inside I.placed I.ends.0 (c.requires.flying ∙ sym I.long) (inr c.loop-low-test.false) in
    landing_all b start c.loop-low.heads.list.items _ I.landing all.0

pub loop-low-smaller : goal.loop-low-smaller
loop-low-smaller c = grind (arith, common_steps)

pub returns-after-loop-low-clause-queued : goal.returns-after-loop-low-clause-queued
returns-after-loop-low-clause-queued c = grind (arith, common_steps)

pub returns-in_default-clause-queued : goal.returns-in_default-clause-queued
returns-in_default-clause-queued c = grind (arith, common_steps)
