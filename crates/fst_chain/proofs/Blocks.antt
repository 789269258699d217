-- A block is cut into the header's room and the bytes', and bytes are lodged in theirs. Assumes `Logic`.
use Rattle.std.proofs.Common.{◌≡◌, Bool, true, ℕ, zero, suc, ◌+◌, ◌-◌, ◌*◌, ◌^◌, ◌<◌, ◌≤◌, List, [], ◌∷◌, length, refl, sym, arith}
use seplogic.Ra.Ura.{Ura}
use base.Fraction.{full_share}
use mir.Syntax.{Ty, Tys, w8, ty_int, ty_struct, tcons, tnil}
use mir.Raw.{raw as bare}
use base.Logic.{SProp, ent, sep, wand, emp, apply∗, id⊢}
use base.Fml.{Fml, ftrue, fsep, fwand, froom, flt}
use prog.Memory.{size, align, up}
use prog.Model.{rooms_at}
use prog.RawLaws.{size-raw}
use types.Logic.{Logic, sem}
use types.Kit.{‵, raw, ◌⊛◌, ◌$◌, ◌∵◌, !, qed, by, move, drop, use0, use1, use2, group, split, split3, assume, frame, rewrite, fsplit, fjoin, feq_l, feq_i, flt_i, done}
use denote.RattleType.{RattleType}
use denote.Memory.{lone, part_at}
use denote.Array.{Array}
use denote.RawPtr.{Ptr, block_ptr, null_ptr, room_for, lies_at, ◌+ₚ◌}
use denote.RawPtr.Room.{past_bytes, room_glue}
use denote.RawPtr.Bytes.{bytes, bytes_apart, bytes_whole, bytes-room}
use denote.Builtin.{u8}
use denote.Steps.{nothing}
use denote.Struct.CellSteps.{first_at}
use Rattle.std_alloc.specs.Vec.Ownership.{lodged, owns_if, has_block}
use Rattle.std_alloc.proofs.VecSteps.Opens.{is_live}
use Rattle.core.specs.Allocator.{block_with_items}
use Rattle.fst_chain.specs.Blocks.{bytes_type, node_type}

live : (m : ℕ) → has_block (suc m) ≡ true
live m = is_live (suc m) (omega arith)

up_one : (e : ℕ) → up 1 e ≡ e
up_one e = omega arith

module _ (R : RattleType) (n : ℕ) {M : Type 1} {𝓤 : Ura M} (𝓛 : Logic 𝓤) (b o : ℕ) where
  open 𝓛 use {H}

  abbrev header : Ty
  header = bare (lone R.mir)

  abbrev fields : Tys
  fields = tcons header (tcons (bytes_type n) tnil)

  -- where the bytes lie
  abbrev pub far : ℕ
  far = size (lone R.mir) + o

  abbrev at_0 : ℕ
  at_0 = o + up (align header) 0

  abbrev at_1 : ℕ
  at_1 = o + up 1 (up (align header) 0 + size header)

  is_0 : at_0 ≡ o
  is_0 = first_at (align header) o

  is_1 : at_1 ≡ far
  is_1 = omega (arith, up_one (up (align header) 0 + size header), is_0, size-raw (lone R.mir))

  abbrev Joins : SProp 𝓤
  Joins = wand 𝓤 (rooms_at 𝓤 H fields 0 b o) (H.room (ty_struct [] fields) b o)

  abbrev Parts : Fml
  Parts = fsep (froom header b o) (froom (bytes_type n) b far)

  rejoins : ent 𝓤 Joins (sem 𝓛 (fwand Parts (froom (node_type R n) b o)))
  rejoins =
      qed 𝓛 (raw Joins ∷ []) ∵ assume ! (‵ Parts) $ fsplit ! $ rewrite ! 0 (λ (k : ℕ). ‵ (froom header b k)) (sym is_0) refl $ rewrite ! 1 (λ (k : ℕ). ‵ (froom (bytes_type n) b k)) (sym is_1) refl $
      nothing ! $ move ! (1 ∷ 2 ∷ 0 ∷ []) $ group ! 3 $ use2 𝓛 (‵ (froom (node_type R n) b o)) (apply∗ 𝓤 (rooms_at 𝓤 H fields 0 b o) (H.room (ty_struct [] fields) b o)) $ done !

  pub block_cut : ent 𝓤 (H.room (node_type R n) b o) (sep 𝓤 (H.room header b o) (sep 𝓤 (H.room (bytes_type n) b far) (sem 𝓛 (fwand Parts (froom (node_type R n) b o)))))
  block_cut =
      qed 𝓛 (‵ (froom (node_type R n) b o) ∷ []) ∵
      use1 𝓛 ((‵ (froom header b at_0) ⊛ ‵ (froom (bytes_type n) b at_1) ⊛ ‵ ftrue) ⊛ raw Joins) (𝓛.laws.room_fields [] fields b o) $ split ! $ split3 ! $
      rewrite ! 0 (λ (k : ℕ). ‵ (froom header b k)) is_0 refl $ rewrite ! 1 (λ (k : ℕ). ‵ (froom (bytes_type n) b k)) is_1 refl $ frame ! $ frame ! $ drop ! $
      by ! rejoins

module _ {M : Type 1} {𝓤 : Ura M} (𝓛 : Logic 𝓤) (b o : ℕ) where
  open 𝓛 use {H}

  none_written : ent 𝓤 (emp 𝓤) (sem 𝓛 (lies_at (Array u8 0) full_share (block_ptr b o) []))
  none_written = qed 𝓛 [] ∵ nothing ! $ feq_i ! ℕ 0 0 refl $ fjoin ! $ by ! (bytes_whole 𝓛 full_share 0 [] b o)

  pub lodge_room : (n : ℕ) → n < 2 ^ 63 → ent 𝓤 (H.room (bytes_type n) b o) (sem 𝓛 (lodged u8 (block_ptr b o) 0 n []))
  lodge_room zero fit = qed 𝓛 (‵ (froom (bytes_type 0) b o) ∷ []) ∵ drop ! $ nothing ! $ flt_i ! (0 * 1) (2 ^ 63) (omega arith) $ fjoin ! $ done !
  lodge_room (suc m) fit =
      let same : suc m - 0 ≡ suc m = omega arith in let at : o + 0 * 1 ≡ o = omega arith in
      qed 𝓛 (‵ (froom (bytes_type (suc m)) b o) ∷ []) ∵ rewrite ! 0 (λ (z : ℕ × ℕ). ‵ (froom (bytes_type z.0) b z.1)) {x = (suc m - 0, o + 0 * 1)} (λ i. (sym same i, sym at i)) refl $
      nothing ! $ move ! (1 ∷ 0 ∷ []) $ fjoin ! $ use0 𝓛 (‵ (lies_at (Array u8 0) full_share (block_ptr b o) [])) none_written $ fjoin ! $
      flt_i ! (suc m * 1) (2 ^ 63) (omega (arith, fit)) $ fjoin ! $
      rewrite ! 0 (λ (t : Bool). ‵ (fsep (flt (suc m * 1) (2 ^ 63)) (owns_if t (block_with_items (λ _ _. ftrue) u8 (block_ptr b o) 0 (suc m) [])))) (sym (live m)) refl $ done !

  pub room_lodged : (k n : ℕ) (xs : List ℕ) → k ≤ n → ent 𝓤 (sem 𝓛 (lodged u8 (block_ptr b o) k n xs)) (H.room (bytes_type n) b o)
  room_lodged k zero xs le = qed 𝓛 (‵ (lodged u8 (block_ptr b o) k 0 xs) ∷ []) ∵ drop ! $ use0 𝓛 (raw (H.room (bytes_type 0) b o)) (𝓛.laws.room_nil (ty_int w8) b o) $ done !
  room_lodged k (suc m) xs le =
      qed 𝓛 (‵ (lodged u8 (block_ptr b o) k (suc m) xs) ∷ []) ∵ fsplit ! $ drop ! $
      use1 𝓛 (‵ (owns_if (has_block (suc m)) (block_with_items (λ _ _. ftrue) u8 (block_ptr b o) k (suc m) xs))) (id⊢ 𝓤 _) $
      rewrite ! 0 (λ (t : Bool). ‵ (owns_if t (block_with_items (λ _ _. ftrue) u8 (block_ptr b o) k (suc m) xs))) (live m) refl $
      use1 𝓛 (‵ (part_at (Array u8 k) full_share xs b o) ⊛ ‵ (froom (bytes_type (suc m - k)) b (o + k * 1)) ⊛ ‵ ftrue) (id⊢ 𝓤 _) $ split3 ! $ use1 𝓛 (‵ (fsep (base.Fml.feq ℕ (length xs) k) (bytes full_share xs b o))) (bytes_apart 𝓛 full_share k xs b o) $ fsplit ! $ feq_l ! (λ e.
      use1 𝓛 (‵ (froom (bytes_type (length xs)) b o)) (bytes-room 𝓛 xs b o) $ move ! (2 ∷ []) $ drop ! $
      let far : o + k * 1 ≡ denote.RawPtr.Room.past (ty_int w8) (length xs) o = omega (arith, past_bytes (length xs) o, e) in let all : length xs + (suc m - k) ≡ suc m = omega (arith, e, le) in
      rewrite ! 1 (λ (c : ℕ). ‵ (froom (bytes_type (suc m - k)) b c)) far refl $
      use2 𝓛 (‵ (froom (bytes_type (length xs + (suc m - k))) b o)) (room_glue 𝓛 (ty_int w8) (length xs) (suc m - k) b o) $ rewrite ! 0 (λ (c : ℕ). ‵ (froom (bytes_type c) b o)) all refl $ done !)
