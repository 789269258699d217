-- What is committed of each block, as it is kept.
use Rattle.std.proofs.Common.{◌≡◌, ℕ, ◌<◌, Bool, List, [], ◌∷◌, length, map, set, get_or, Option, Some, None, refl, sym, ap, ◌∙◌, arith}
use Rattle.std.specs.Prelude.{replicate, if◌then◌else◌}
use Rattle.std.proofs.lemmas.List.{get_or-map, map-set, length-map, length-replicate}
use Rattle.std.proofs.lemmas.List.Elements.{All-replicate}
use Rattle.std.proofs.Math.Seq.{map-set_same}
use Rattle.fst_types.specs.declared.place.Place.TheVariants as place
use Rattle.fst_types.specs.declared.shape.Shape.{Shape}
use Rattle.fst_types.specs.Tests.{is_among, is_change_at}
use Rattle.fst_types.specs.State.{State, BlockState, Flight, block_of, committed, flight_of, with_flight}
use Rattle.fst_types.specs.Bytes.{base_under, changes_at, write_of}
use Rattle.fst_types.specs.Flights.{IsOut}
use Rattle.fst_types.specs.Facts.{IsLawful}
use Rattle.fst_types.specs.Crash.{crash}
use Rattle.fst_types.specs.Run.{ChangeMade}
use Rattle.fst_types.proofs.Finite.{Contains-from_In}
use Rattle.fst_types.proofs.Fits.{fold_length, all_fit}
use Rattle.fst_types.proofs.Landing.{change_at}
use Rattle.fst_types.proofs.LandingOrder.{runs_stay_lawful}
use Rattle.fst_types.proofs.Moves.{flight_out, has_block, out_block}
use Rattle.fst_device.specs.JobView.{JobView}
use Rattle.fst_device.specs.MemoryView.{MemoryView}
use Rattle.fst_player.specs.Script.{PlayerState, opened, left_of}
use Rattle.fst_player.specs.Kept.{Came, IsKept, committed_of_each, jobs_kept}
use Rattle.fst_player.proofs.CrashTold.{told_after}
use Rattle.fst_player.proofs.TellLemmas.{player_at}

-- another flight of a block leaves what is committed
pub flight_committed : (old new : State) (b : ℕ) (f : Option Flight) → new.blocks ≡ with_flight old b f → committed_of_each new ≡ committed_of_each old
flight_committed old new b f blocks =
    let v : BlockState = record (block_of old b) { flight = f } in
    ap (map (λ (x : BlockState). x.committed)) blocks ∙ map-set_same (λ (x : BlockState). x.committed) old.blocks b v (record { committed = []; flight = None }) refl

-- an image that landed is committed
pub image_committed : (old new : State) (b : ℕ) (image : List ℕ) → new.blocks ≡ set old.blocks b (record { committed = image; flight = None }) → committed_of_each new ≡ set (committed_of_each old) b image
image_committed old new b image blocks =
    ap (map (λ (x : BlockState). x.committed)) blocks ∙ map-set (λ (x : BlockState). x.committed) old.blocks b (record { committed = image; flight = None })

-- at the opening zero bytes are
pub opened_committed : (bytes : List (List ℕ)) → bytes ≡ map (λ (x : BlockState). x.committed) (map (λ (b : List ℕ). let x : BlockState = record { committed = b; flight = None } in x) bytes)
opened_committed [] = refl
opened_committed (b ∷ bs) = ap (λ l. b ∷ l) (opened_committed bs)

-- a cache that came from an opening is lawful
came_lawful : (shape : Shape) (s : State) (made : List ChangeMade) → Came (opened shape).cache s made → IsLawful s
came_lawful shape s made (calls, run, same) =
    let zero : List ℕ = replicate shape.size 0 in
    let sized = All-replicate (λ (x : List ℕ). length x ≡ shape.size) shape.blocks zero (length-replicate shape.size 0) in
    runs_stay_lawful shape.size shape.resident 0 0 (replicate shape.blocks zero) sized (omega arith) (omega arith) calls s run

-- an image is as long as what is committed of its block
image_length : (s : State) (b : ℕ) (f : Flight) → IsLawful s → flight_of s b ≡ Some f → length f.image ≡ length (committed s b)
image_length s b f L e =
    let long = L.changes_fit.sized b (has_block s b f e) in
    ap length (L.images b f e)
    ∙ fold_length (committed s b) (map (write_of s) (changes_at s place.Flight b))
    (all_fit (length (committed s b)) (is_change_at place.Flight b) (write_of s) s.heads (λ p h t.
    let on = (change_at place.Flight b p t).0 in
    let i = L.changes_fit.inside p b (Contains-from_In s.heads p h) on in
    let w = L.changes_fit.whole p b (Contains-from_In s.heads p h) on in
    omega (arith, i.2, w, long)))

module _ (shape : Shape) (share : ℕ) (s : State) (jobs : List (JobView MemoryView)) (made : List ChangeMade) (kept : List (List ℕ)) (K : IsKept shape share s jobs made kept) where
  -- each block has what is committed of it
  pub kept_long : length kept ≡ length s.blocks
  kept_long = ap (λ (l : List (List ℕ)). length l) K.committed ∙ length-map s.blocks (λ (x : BlockState). x.committed)

  pub kept_at : (b : ℕ) → b < length s.blocks → get_or kept b [] ≡ committed s b
  kept_at b lt = ap (λ (l : List (List ℕ)). get_or l b []) K.committed ∙ get_or-map (λ (x : BlockState). x.committed) s.blocks b (record { committed = []; flight = None }) [] lt

  -- a write that is out is of a block whose bytes are as many as its image's
  pub out_inside : (t b : ℕ) (image : List ℕ) → IsOut s t b image → b < length kept
  out_inside t b image out = let lt = out_block s t b image out in omega (arith, lt, kept_long)

  pub out_sized : (t b : ℕ) (image : List ℕ) → IsOut s t b image → length image ≡ length (get_or kept b [])
  out_sized t b image out =
      image_length s b (flight_out t image out.failed) (came_lawful shape s made K.came) out.flight ∙ sym (ap (λ (l : List ℕ). length l) (kept_at b (out_block s t b image out)))

  -- what a crash leaves of a block is told by whether its write is among those that finish
  pub kept_left : (p : PlayerState) → player_at s jobs made ≡ p → (finish : List ℕ) (b : ℕ) (finished : Bool) (bytes : List ℕ)
      → b < shape.blocks → finished ≡ is_among finish b → bytes ≡ crash p.cache (λ c. finished) b → bytes ≡ left_of p finish b
  kept_left p view finish b finished bytes lt same left =
      left
      ∙ (ap (λ (q : PlayerState). crash q.cache (λ c. finished) b) (sym view)
      ∙ (ap (λ t. if t then base_under (committed s b) (flight_of s b) else committed s b) same
      ∙ (sym (told_after shape s (jobs_kept jobs) made K.came finish b lt) ∙ ap (λ (q : PlayerState). left_of q finish b) view)))
