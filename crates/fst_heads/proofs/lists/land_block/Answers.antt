use Rattle.fst_heads.proofs.{Basics.{◌≡◌, ◌∙◌, List, Vec, Global, not, map, filter, length, refl, sym, ap, arith, map-set, false≢true}, Patches.is_among}
use Rattle.fst_heads.proofs.Words.{Listed, patches_of, Entry, entries_of, entries_on}
use Rattle.fst_heads.proofs.Listing.{listed_landed, flying_rise, listed_at, rising_patches, heads_landed, nothing_lands, nothing_flies, is_off}
use Rattle.fst_heads.proofs.lists.land_block.Goals as goal

pub land_listed-requires-clause-listed : goal.land_listed-requires-clause-listed
land_listed-requires-clause-listed c = grind (arith, listed_at)

pub drop_landed-requires : goal.drop_landed-requires
drop_landed-requires c =
    let heads = c.args.heads.now.list.items in
    rw (c.deref-in-Some.ensures.value, c.land_listed.ensures.queued) (flying_rise c.args.block (patches_of heads) (rising_patches heads c.args.heads.now.rising))

pub returns-in-Some-clause-listed : goal.returns-in-Some-clause-listed
returns-in-Some-clause-listed c =
    let heads = c.args.heads.now.list.items in
    let new = c.land_listed.new.heads.list.items in
    let b = c.args.block in
    let f : Vec Listed Global → List Entry = λ v. entries_of v.items in
    let lists = c.args.lists.now.items in
    let inside = c.in-Some.ensures.variant.0 refl in
    let landing = heads_landed b heads new c.land_listed.ensures.nodes in
    let own : f c.in-Some.list.now ≡ entries_on b (patches_of heads) = listed_at f _ lists b c.in-Some.list.now (omega (arith, inside, c.args.lists.now.ok.0)) c.in-Some.ensures.value c.requires.listed in
    let kept = listed_landed b (patches_of heads) (rising_patches heads c.args.heads.now.rising) (length lists) (map f lists) (f c.drop_landed.new.list) (omega (arith, inside, c.args.lists.now.ok.0)) c.requires.listed
    (c.drop_landed.ensures
    ∙ (ap (filter (λ (e : Entry). not (is_among c.deref-in-Some.result.now e.number))) own
    ∙ ap (λ ns. filter (λ e. not (is_among ns e.number)) (entries_on b (patches_of heads))) (c.deref-in-Some.ensures.value ∙ c.land_listed.ensures.queued))) in
    rw landing (rw (map-set f lists b c.drop_landed.new.list) kept)

pub returns-in_default-clause-nodes : goal.returns-in_default-clause-nodes
returns-in_default-clause-nodes c = nothing_lands c.args.block c.args.heads.now.list.items (λ p h. is_off c.args.block p.kind (λ on. let inside = c.requires.inside p c.args.block h on in false≢true (c.in_default.ensures.variant.1 (omega (arith, inside, c.args.lists.now.ok.0)))))

pub returns-in_default-clause-queued : goal.returns-in_default-clause-queued
returns-in_default-clause-queued c = c.requires.idle ∙ sym (nothing_flies c.args.block c.args.heads.now.list.items (λ p h. is_off c.args.block p.kind (λ on. let inside = c.requires.inside p c.args.block h on in false≢true (c.in_default.ensures.variant.1 (omega (arith, inside, c.args.lists.now.ok.0))))))
