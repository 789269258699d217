-- The vectors that hold the lists of the blocks.
use Rattle.std.proofs.Common.{◌≡◌, ◌<◌, ◌∙◌, ℕ, arith, get_or-set_same, ◌++◌, ◌∷◌, [], List, Vec, Global, length, map, get_or, set, sym, ap}
use Rattle.std.proofs.{Math.Seq.map-set_same, lemmas.List.{map-set, get_or-map, length-set, map_push}}
use Rattle.fst_heads.specs.{Lists.{Entry, entry_of, entries_of, HasRoomInList}, declared.lists.Listed.Listed}

abbrev pub shelved : List (Vec Listed Global) → List (List Entry)
shelved lists = map (λ l. entries_of l.items) lists

pub shelved_push : (lists : List (Vec Listed Global)) (b : ℕ) (old new : Vec Listed Global) (l : Listed) → b < length lists
    → old ≡ get_or lists b old → new.items ≡ old.items ++ l ∷ []
    → shelved (set lists b new) ≡ set (shelved lists) b (get_or (shelved lists) b [] ++ entry_of l ∷ [])
shelved_push lists b old new l lt there items =
    let here : get_or (shelved lists) b [] ≡ entries_of old.items = get_or-map (λ v. entries_of v.items) lists b old [] lt ∙ ap (λ v. entries_of v.items) (sym there) in
    map-set (λ v. entries_of v.items) lists b new
    ∙ ap (set (shelved lists) b) (ap entries_of items ∙ (map_push entry_of old.items l ∙ ap (λ es. es ++ entry_of l ∷ []) (sym here)))

pub shelved_same : (lists : List (Vec Listed Global)) (b : ℕ) (old new : Vec Listed Global)
    → old ≡ get_or lists b old → new.items ≡ old.items → shelved (set lists b new) ≡ shelved lists
shelved_same lists b old new there items = map-set_same (λ v. entries_of v.items) lists b new old (ap entries_of items ∙ ap (λ v. entries_of v.items) there)

pub room_in_list : (lists : List (Vec Listed Global)) (b : ℕ) (new : Vec Listed Global) → b < length lists → new.len < new.cap
    → HasRoomInList (map (λ l. l.len) (set lists b new)) (map (λ l. l.cap) (set lists b new)) b
room_in_list lists b new lt free =
    let inside : b < length (set lists b new) = omega (arith, lt, length-set lists b new) in
    let here = get_or-set_same lists b new new lt in
    rw (get_or-map (λ l. l.len) (set lists b new) b new 0 inside, get_or-map (λ l. l.cap) (set lists b new) b new 0 inside, here) free
