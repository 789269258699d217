-- A command that has no member, or one number and no other, is that of its name.
use Rattle.std.proofs.Common.{◌≡◌, ℕ, Bool, true, false, List, [], ◌∷◌, Option, Some, None, option_map, option_and_then, refl, sym, ap, ◌∙◌, subst, codes}
use Rattle.std.specs.Prelude.{if◌then◌else◌}
use Rattle.std.specs.Str.{bytes_eq}
use Rattle.std.proofs.lemmas.Bool.{false≢true}
use Rattle.std.proofs.lemmas.Slice.Eq.{bytes_eq-Decides}
use Rattle.serde_json.specs.Data.{Data, null, boolean, number, string, array, object, Members, no_members, member}
use Rattle.serde_json.specs.Find.{get_member}
use Rattle.fst_lines.specs.Members.{only, has_only, number_in, number_at}
use Rattle.fst_lines.specs.Commands.{Command, seal, choose, write, retry, evict, show, place, group_close, only_number_in, command_named}
use Rattle.fst_lines.specs.Small.{alone_named, number_key, number_named, either_in}

either : {P : Type 0} (t : Bool) → (t ≡ true → P) → (t ≡ false → P) → P
either true f g = f refl
either false f g = g refl

-- what holds of a word, and of a name that is not the word, holds of a name
by_word : (P : List ℕ → Type 0) (name word : List ℕ) → P word → (bytes_eq name word ≡ false → P name) → P name
by_word P name word here past = either (bytes_eq name word) (λ e. subst P (sym ((bytes_eq-Decides name word).0 e)) here) past

not_word : (name word : List ℕ) → (name ≡ word → ⊥) → bytes_eq name word ≡ false
not_word name word differs = either (bytes_eq name word) (λ e. absurd (differs ((bytes_eq-Decides name word).0 e))) (λ e. e)

past : {A : Type 0} {t : Bool} (x : A) {y z : A} → t ≡ false → y ≡ z → (if t then x else y) ≡ z
past x e h = rw e h

map_is : (f : ℕ → Command) (o : Option ℕ) → option_map f o ≡ option_and_then (λ n. Some (f n)) o
map_is f None = refl
map_is f (Some n) = refl

none_is : (f : ℕ → Option Command) (o : Option ℕ) → ((n : ℕ) → f n ≡ None) → option_and_then f o ≡ None
none_is f None h = refl
none_is f (Some n) h = h n

pub small_is : (name : List ℕ) (d : Data)
    → (name ≡ codes "patch" → ⊥) → (name ≡ codes "empty" → ⊥) → (name ≡ codes "depend" → ⊥) → (name ≡ codes "done" → ⊥)
    → (name ≡ codes "crash" → ⊥) → (name ≡ codes "group_after" → ⊥) → (name ≡ codes "group_patch" → ⊥)
    → command_named name d ≡ either_in (alone_named name) name d
small_is name d patch empty depend done crash group_after group_patch =
    let P = λ (n : List ℕ). command_named n d ≡ either_in (alone_named n) n d in
    by_word P name (codes "gate") refl (λ gate.
    by_word P name (codes "seal") (map_is seal (only_number_in (codes "gate") d)) (λ seal.
    by_word P name (codes "place") (map_is place (only_number_in (codes "patch") d)) (λ place.
    by_word P name (codes "forget") refl (λ forget.
    by_word P name (codes "stat") refl (λ stat.
    by_word P name (codes "choose") (map_is choose (only_number_in (codes "block") d)) (λ choose.
    by_word P name (codes "pick") refl (λ pick.
    by_word P name (codes "write") (map_is write (only_number_in (codes "block") d)) (λ write.
    by_word P name (codes "retry") (map_is retry (only_number_in (codes "block") d)) (λ retry.
    by_word P name (codes "evict") (map_is evict (only_number_in (codes "block") d)) (λ evict.
    by_word P name (codes "show") (map_is show (only_number_in (codes "block") d)) (λ show.
    by_word P name (codes "group") refl (λ group.
    by_word P name (codes "group_close") (map_is group_close (only_number_in (codes "group") d)) (λ close.
    let alone : alone_named name ≡ None = past _ gate (past _ pick (past _ forget (past _ stat (past _ group refl)))) in
    let numbered : (n : ℕ) → number_named name n ≡ None = λ n. past _ seal (past _ place (past _ close (past _ choose (past _ write (past _ retry (past _ evict (past _ show refl))))))) in
    past _ (not_word name _ patch) (past _ (not_word name _ empty) (past _ gate (past _ (not_word name _ depend) (past _ seal (past _ place (past _ forget (past _ stat
    (past _ choose (past _ pick (past _ write (past _ (not_word name _ done) (past _ retry (past _ evict (past _ show (past _ (not_word name _ crash)
    (past _ group (past _ (not_word name _ group_after) (past _ (not_word name _ group_patch) (past _ close refl)))))))))))))))))))
    ∙ sym (ap (λ o. either_in o name d) alone ∙ none_is (number_named name) (only_number_in (number_key name) d) numbered))))))))))))))

-- where a line only says what it does, there is nothing under another word
abbrev IsOther : List ℕ → Type 0
IsOther key = (ms : Members) → only (codes "do" ∷ []) ms ≡ true → get_member key ms ≡ None

others : (key : List ℕ) → ((d : Data) (ms : Members) → get_member key (member (codes "do") d ms) ≡ get_member key ms) → (ms : Members) → only (codes "do" ∷ []) ms ≡ true → get_member key ms ≡ None
others key skips no_members h = refl
others key skips (member k d ms) h =
    either (bytes_eq k (codes "do"))
    (λ e. subst (λ word. get_member key (member word d ms) ≡ None) (sym ((bytes_eq-Decides k (codes "do")).0 e)) (skips d ms ∙ others key skips ms (rw e at h)))
    (λ e. let no : false ≡ true = rw e at h in absurd (false≢true no))

number_key_other : (name : List ℕ) → IsOther (number_key name)
number_key_other name =
    let P = λ (n : List ℕ). IsOther (number_key n) in
    by_word P name (codes "seal") (others (codes "gate") (λ d ms. refl)) (λ seal.
    by_word P name (codes "place") (others (codes "patch") (λ d ms. refl)) (λ place.
    by_word P name (codes "group_close") (others (codes "group") (λ d ms. refl)) (λ close.
    let key : number_key name ≡ codes "block" = past _ seal (past _ place (past _ close refl)) in
    subst IsOther (sym key) (others (codes "block") (λ d ms. refl)))))

no_number : (key : List ℕ) (d : Data) → IsOther key → has_only (codes "do" ∷ []) d ≡ true → only_number_in key d ≡ None
no_number key null other h = cc
no_number key (boolean b) other h = cc
no_number key (number n) other h = cc
no_number key (string s) other h = cc
no_number key (array ds) other h = cc
no_number key (object ms) other h =
    let none : number_at key (object ms) ≡ None = ap (option_and_then number_in) (other ms h) in
    either (has_only (codes "do" ∷ key ∷ []) (object ms)) (λ e. rw e none) (λ e. rw e refl)

alone_or_none : (asked : Option Command) (name : List ℕ) (d : Data) → has_only (codes "do" ∷ []) d ≡ true → asked ≡ either_in asked name d
alone_or_none (Some c) name d h = rw h refl
alone_or_none None name d h = sym (ap (option_and_then (number_named name)) (no_number (number_key name) d (number_key_other name) h))

pub alone_is : (name : List ℕ) (d : Data) → has_only (codes "do" ∷ []) d ≡ true → alone_named name ≡ either_in (alone_named name) name d
alone_is name d h = alone_or_none (alone_named name) name d h
