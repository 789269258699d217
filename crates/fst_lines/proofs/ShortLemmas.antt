-- What a short line means, from its tokens.
use Rattle.std.proofs.Common.{◌≡◌, ℕ, zero, suc, ◌≤◌, List, [], ◌∷◌, length, Option, Some, None, Ok, refl, sym, ap, ◌∙◌, inl, inr, codes, option_map, option_and_then, IfSome, le_refl, arith}
use Rattle.std.proofs.lemmas.Option.{none-some, same_Some}
use Rattle.std.specs.Str.{IsUtf8}
use Rattle.hex.specs.Hex.{decode_of}
use Rattle.json.specs.Token.{Token}
use Rattle.json.specs.Lex.{tokens}
use Rattle.json.specs.Json as json
use Rattle.json.specs.Json.{items, members, value, if_last, parse_map}
use Rattle.serde_json.specs.Data.{Data, Num, unsigned, number, string, array, object, Items, no_items, item, Members, no_members, put}
use Rattle.serde_json.specs.Read.{read, number_of, of_json, of_items, of_members}
use Rattle.fst_lines.specs.Members.{number_in, numbers_of, if_ok}
use Rattle.fst_lines.specs.Commands.{Command, patch, empty, depend, group_after, group_patch, max_line, command_in, or_field, command_of_value, command_of}
use Rattle.fst_lines.specs.Parsing.{command}
use Rattle.fst_lines.specs.declared.command.Command.{Command as Parsed}
use Rattle.fst_lines.specs.Short.{short_data, small_number, list_of, NamesAtEnd, IsPatch, IsEmpty, IsDepend, IsGroupPatch, IsGroupAfter, AsksAlone, AsksNumbered, AsksShort, AsksNamed, Asks}
use Rattle.fst_lines.proofs.CommandLemmas.{value_of-text, command_of-short}

abbrev document : Option (json.Json × List Token) → Option Data
document v = option_and_then of_json (option_and_then (λ p. if_last p.0 p.1) v)

alone_value : (name : List ℕ)
    → value 127 (Token.begin_object ∷ Token.key (codes "do") ∷ Token.string name ∷ Token.end_object ∷ []) ≡ Some (json.object (json.member (codes "do") (json.string name) json.no_members), [])
unfolding items members value
alone_value name = refl

short_value : (name key text : List ℕ)
    → value 127 (Token.begin_object ∷ Token.key (codes "do") ∷ Token.string name ∷ Token.key key ∷ Token.number text ∷ Token.end_object ∷ [])
    ≡ Some (json.object (json.member (codes "do") (json.string name) (json.member key (json.number text) json.no_members)), [])
unfolding items members value
short_value name key text = refl

short_number : (name key : List ℕ) (o : Option Num) (n : ℕ) → o ≡ Some (unsigned n)
    → option_map object (option_and_then (λ d. Some (put key d (put (codes "do") (string name) no_members))) (option_map number o)) ≡ Some (short_data name key n)
short_number name key o n h = ap (λ (m : Option Num). option_map object (option_and_then (λ d. Some (put key d (put (codes "do") (string name) no_members))) (option_map number m))) h

alone_asks : (line : List ℕ) (c : Command) → AsksAlone (tokens line) c → command_of_value (read line) ≡ Ok c
alone_asks line c h = ap command_of_value (ap (λ ts. document (value 127 ts)) h.1 ∙ ap document (alone_value h.0)) ∙ ap or_field h.2

numbered_asks : (line : List ℕ) (c : Command) → AsksNumbered (tokens line) c → command_of_value (read line) ≡ Ok c
numbered_asks line c (name, key, text, n, is, reads, h) =
    ap command_of_value (ap (λ ts. document (value 127 ts)) is ∙ (ap document (short_value name key text) ∙ short_number name key (number_of text) n reads)) ∙ ap or_field h

short_asks : (line : List ℕ) (c : Command) → AsksShort (tokens line) c → command_of_value (read line) ≡ Ok c
short_asks line c (inl h) = alone_asks line c h
short_asks line c (inr h) = numbered_asks line c h

pub Asks-short : (before ts : List Token) (r : Option Parsed) → before ≡ ts → IfSome r (λ c. AsksShort ts (command c)) → IfSome r (λ c. Asks before (command c))
Asks-short before ts None e h = tt
Asks-short before ts (Some c) e h = inl (rw e h)

-- ---- names of patches

-- a list of numbers, as it is read
abbrev ReadsList : Option (json.Items × List Token) → List ℕ → List Token → Type 0
ReadsList found ns rest =
    (js : json.Items) × (ds : Items) × (found ≡ Some (js, rest)) × (of_items js ≡ Some ds) × (numbers_of ds ≡ Some ns)

small_data : (text : List ℕ) (o : Option Num) (n : ℕ) → option_and_then number_in (option_map number o) ≡ Some n
    → (d : Data) × (option_map number o ≡ Some d) × (number_in d ≡ Some n)
small_data text None n h = absurd (none-some _ h)
small_data text (Some m) n h = (number m, refl, h)

abbrev pair : List ℕ → List Token → List ℕ × List Token
pair ns ts = (ns, ts)

list_end : (n : ℕ) (ts rest : List Token) (ns : List ℕ) → Some (pair [] ts) ≡ Some (pair ns rest) → ReadsList (items (value 125) (suc n) (Token.end_array ∷ ts)) ns rest
unfolding items
list_end n ts rest ns h =
    let same : pair [] ts ≡ pair ns rest = same_Some _ _ h in
    (json.no_items, no_items, ap (λ (q : List ℕ × List Token). Some (json.no_items, q.1)) same, refl, ap (λ (q : List ℕ × List Token). Some q.0) same)

list_item : (n : ℕ) (text : List ℕ) (ts rest : List Token) (ns : List ℕ) (o : Option ℕ) (more : Option (List ℕ × List Token))
    → ((ms : List ℕ) → more ≡ Some (ms, rest) → ReadsList (items (value 125) n ts) ms rest)
    → small_number text ≡ o → option_and_then (λ n. option_map (λ p. pair (n ∷ p.0) p.1) more) o ≡ Some (pair ns rest)
    → ReadsList (items (value 125) (suc n) (Token.number text ∷ ts)) ns rest
unfolding items value
list_item n text ts rest ns None more ind small h = absurd (none-some _ h)
list_item n text ts rest ns (Some k) None ind small h = absurd (none-some _ h)
list_item n text ts rest ns (Some k) (Some p) ind small h =
    let same : pair (k ∷ p.0) p.1 ≡ pair ns rest = same_Some _ _ h in
    let below = ind p.0 (ap (λ r. Some (p.0, r)) (ap (λ (q : List ℕ × List Token). q.1) same)) in
    let found = small_data text (number_of text) k small in (
      json.item (json.number text) below.0,
      item found.0 below.1,
      ap (λ r. parse_map (json.item (json.number text)) r) below.2,
      ap (λ (m : Option Data). option_and_then (λ d. option_map (item d) (of_items below.0)) m) found.1 ∙ ap (λ (m : Option Items). option_map (item found.0) m) below.3,
      ap (λ (m : Option ℕ). option_and_then (λ n. option_map (λ ns. n ∷ ns) (numbers_of below.1)) m) found.2
          ∙ (ap (λ (m : Option (List ℕ)). option_map (λ ns. k ∷ ns) m) below.4 ∙ ap Some (ap (λ (q : List ℕ × List Token). q.0) same)),
    )

list_reads : (ts rest : List Token) (ns : List ℕ) (n : ℕ) → length ts ≤ n → list_of ts ≡ Some (ns, rest) → ReadsList (items (value 125) n ts) ns rest
list_reads [] rest ns n few h = absurd (none-some _ h)
list_reads (Token.end_array ∷ ts) rest ns zero few h = absurd (omega (arith, few))
list_reads (Token.end_array ∷ ts) rest ns (suc n) few h = list_end n ts rest ns h
list_reads (Token.number s ∷ ts) rest ns zero few h = absurd (omega (arith, few))
list_reads (Token.number s ∷ ts) rest ns (suc n) few h =
    list_item n s ts rest ns (small_number s) (list_of ts) (λ ms e. list_reads ts rest ms n (omega (arith, few)) e) refl h
list_reads (Token.begin_object ∷ ts) rest ns n few h = absurd (none-some _ h)
list_reads (Token.end_object ∷ ts) rest ns n few h = absurd (none-some _ h)
list_reads (Token.begin_array ∷ ts) rest ns n few h = absurd (none-some _ h)
list_reads (Token.key s ∷ ts) rest ns n few h = absurd (none-some _ h)
list_reads (Token.string s ∷ ts) rest ns n few h = absurd (none-some _ h)
list_reads (Token.boolean b ∷ ts) rest ns n few h = absurd (none-some _ h)
list_reads (Token.null ∷ ts) rest ns n few h = absurd (none-some _ h)
list_reads (Token.bad ∷ ts) rest ns n few h = absurd (none-some _ h)

-- ---- a change

-- the tokens before the names
abbrev head_tokens : (block at bytes : List ℕ) → List Token → List Token
head_tokens block at bytes ts =
    Token.begin_object ∷ Token.key (codes "do") ∷ Token.string (codes "patch") ∷ Token.key (codes "block") ∷ Token.number block
    ∷ Token.key (codes "at") ∷ Token.number at ∷ Token.key (codes "data") ∷ Token.string bytes ∷ ts

abbrev head_members : (block at bytes : List ℕ) → json.Members → json.Json
head_members block at bytes ms =
    json.object (json.member (codes "do") (json.string (codes "patch")) (json.member (codes "block") (json.number block)
    (json.member (codes "at") (json.number at) (json.member (codes "data") (json.string bytes) ms))))

no_names_value : (block at bytes : List ℕ) → value 127 (head_tokens block at bytes (Token.end_object ∷ [])) ≡ Some (head_members block at bytes json.no_members, [])
unfolding items members value
no_names_value block at bytes = refl

names_value : (depth : ℕ) (block at bytes : List ℕ) (rest : List Token) (js : json.Items) → items (value depth) (length rest) rest ≡ Some (js, Token.end_object ∷ [])
    → value (suc (suc depth)) (head_tokens block at bytes (Token.key (codes "after") ∷ Token.begin_array ∷ rest))
    ≡ Some (head_members block at bytes (json.member (codes "after") (json.array js) json.no_members), [])
unfolding members value
names_value depth block at bytes rest js h =
    ap (λ (r : Option (json.Items × List Token)).
    parse_map json.object (parse_map (json.member (codes "do") (json.string (codes "patch"))) (parse_map (json.member (codes "block") (json.number block))
    (parse_map (json.member (codes "at") (json.number at)) (parse_map (json.member (codes "data") (json.string bytes))
    (option_and_then (λ p. parse_map (json.member (codes "after") p.0) (members (value (suc depth)) (suc (suc (suc (suc (suc (length rest)))))) p.1)) (parse_map json.array r)))))))
    h

-- the members before the names
abbrev found : Data → Data → List ℕ → Members
found block at bytes = put (codes "data") (string bytes) (put (codes "at") at (put (codes "block") block (put (codes "do") (string (codes "patch")) no_members)))

head_data : (block at bytes : List ℕ) (ms : json.Members) (d e : Data) → option_map number (number_of block) ≡ Some d → option_map number (number_of at) ≡ Some e
    → of_json (head_members block at bytes ms) ≡ option_map object (of_members ms (found d e bytes))
head_data block at bytes ms d e h k =
    ap (λ (o : Option Data). option_map object (option_and_then (λ b. option_and_then (λ a. of_members ms (found b a bytes)) (option_map number (number_of at))) o)) h
    ∙ ap (λ (o : Option Data). option_map object (option_and_then (λ a. of_members ms (found d a bytes)) o)) k

names_data : (key : List ℕ) (js : json.Items) (ds : Items) (ms : Members) → of_items js ≡ Some ds → of_members (json.member key (json.array js) json.no_members) ms ≡ Some (put key (array ds) ms)
names_data key js ds ms h = ap (λ (o : Option Items). option_and_then (λ d. Some (put key d ms)) (option_map array o)) h

abbrev joined : Option ℕ → Option ℕ → Option (List ℕ) → Option (List ℕ) → Option Command
joined block at bytes after = option_and_then (λ b. option_and_then (λ a. option_and_then (λ d. option_map (patch b a d) after) bytes) at) block

joined_is : (o p : Option ℕ) (q r : Option (List ℕ)) (block at : ℕ) (bytes after : List ℕ) → o ≡ Some block → p ≡ Some at → q ≡ Some bytes → r ≡ Some after
    → joined o p q r ≡ Some (patch block at bytes after)
joined_is o p q r block at bytes after h i j k = rw (h, i, j, k)

no_names_asked : (d e : Data) (bytes : List ℕ) → command_in (object (found d e bytes)) ≡ joined (number_in d) (number_in e) (if_ok (decode_of bytes)) (Some [])
no_names_asked d e bytes = refl

names_asked : (d e : Data) (bytes : List ℕ) (ds : Items)
    → command_in (object (put (codes "after") (array ds) (found d e bytes))) ≡ joined (number_in d) (number_in e) (if_ok (decode_of bytes)) (numbers_of ds)
names_asked d e bytes ds = refl

change_asks : (c : Command) (block at : ℕ) (b a t bytes after : List ℕ) (ts : List Token) → small_number b ≡ Some block → small_number a ≡ Some at → decode_of t ≡ Ok bytes
    → NamesAtEnd ts after → c ≡ patch block at bytes after → command_of_value (document (value 127 (head_tokens b a t ts))) ≡ Ok c
change_asks c block at b a t bytes after ts hb ha ht (inl h) is =
    let d = small_data b (number_of b) block hb in
    let e = small_data a (number_of a) at ha in
    ap (λ x. command_of_value (document (value 127 (head_tokens b a t x)))) h.0
    ∙ (ap (λ x. command_of_value (document x)) (no_names_value b a t)
    ∙ (ap command_of_value (head_data b a t json.no_members d.0 e.0 d.1 e.1)
    ∙ ap or_field (no_names_asked d.0 e.0 t ∙ (joined_is _ _ _ _ block at bytes after d.2 e.2 (ap if_ok ht) (ap Some (sym h.1)) ∙ ap Some (sym is)))))
change_asks c block at b a t bytes after ts hb ha ht (inr (rest, starts, (names, opens, listed))) is =
    let d = small_data b (number_of b) block hb in
    let e = small_data a (number_of a) at ha in
    let l = list_reads names (Token.end_object ∷ []) after (length names) (le_refl (length names)) listed in
    ap (λ x. command_of_value (document (value 127 (head_tokens b a t x)))) (starts ∙ ap (λ x. Token.key (codes "after") ∷ x) opens)
    ∙ (ap (λ x. command_of_value (document x)) (names_value 125 b a t names l.0 l.2)
    ∙ (ap command_of_value (head_data b a t (json.member (codes "after") (json.array l.0) json.no_members) d.0 e.0 d.1 e.1 ∙ ap (option_map object) (names_data (codes "after") l.0 l.1 (found d.0 e.0 t) l.3))
    ∙ ap or_field (names_asked d.0 e.0 t l.1 ∙ (joined_is _ _ _ _ block at bytes after d.2 e.2 (ap if_ok ht) l.4 ∙ ap Some (sym is)))))

patch_tokens : (ts rest p q r : List Token) (b a t : List ℕ) → ts ≡ Token.begin_object ∷ Token.key (codes "do") ∷ Token.string (codes "patch") ∷ rest
    → rest ≡ Token.key (codes "block") ∷ Token.number b ∷ p → p ≡ Token.key (codes "at") ∷ Token.number a ∷ q → q ≡ Token.key (codes "data") ∷ Token.string t ∷ r
    → ts ≡ head_tokens b a t r
patch_tokens ts rest p q r b a t h i j k = rw (h, i, j, k)

patch_asks : (line : List ℕ) (c : Command) → AsksNamed (codes "patch") IsPatch (tokens line) c → command_of_value (read line) ≡ Ok c
patch_asks line c (rest, starts, (block, at, bytes, after, r, is, (p, q, (b, pb, nb), (a, pa, na), (t, pt, nt)), names)) =
    ap (λ ts. command_of_value (document (value 127 ts))) (patch_tokens (tokens line) rest p q r b a t starts pb pa pt)
    ∙ change_asks c block at b a t bytes after r nb na nt names is

-- ---- a change of a group

abbrev named_tokens : (name : List ℕ) → List Token → List Token
named_tokens name ts = Token.begin_object ∷ Token.key (codes "do") ∷ Token.string name ∷ ts

-- the members of a change, to the end of the line
abbrev change_tokens : (block at bytes : List ℕ) → List Token
change_tokens block at bytes =
    Token.key (codes "block") ∷ Token.number block ∷ Token.key (codes "at") ∷ Token.number at ∷ Token.key (codes "data") ∷ Token.string bytes ∷ Token.end_object ∷ []

abbrev grouped : (group block at bytes : List ℕ) → json.Json
grouped group block at bytes =
    json.object (json.member (codes "do") (json.string (codes "group_patch")) (json.member (codes "group") (json.number group) (json.member (codes "block") (json.number block)
    (json.member (codes "at") (json.number at) (json.member (codes "data") (json.string bytes) json.no_members)))))

grouped_value : (group block at bytes : List ℕ)
    → value 127 (named_tokens (codes "group_patch") (Token.key (codes "group") ∷ Token.number group ∷ change_tokens block at bytes)) ≡ Some (grouped group block at bytes, [])
unfolding items members value
grouped_value group block at bytes = refl

abbrev grouped_found : Data → Data → Data → List ℕ → Members
grouped_found group block at bytes =
    put (codes "data") (string bytes) (put (codes "at") at (put (codes "block") block (put (codes "group") group (put (codes "do") (string (codes "group_patch")) no_members))))

grouped_data : (group block at bytes : List ℕ) (d e f : Data) → option_map number (number_of group) ≡ Some d → option_map number (number_of block) ≡ Some e
    → option_map number (number_of at) ≡ Some f → of_json (grouped group block at bytes) ≡ Some (object (grouped_found d e f bytes))
grouped_data group block at bytes d e f h i j =
    ap (λ (o : Option Data). option_map object (option_and_then (λ g. option_and_then (λ b. option_and_then (λ a. Some (grouped_found g b a bytes)) (option_map number (number_of at))) (option_map number (number_of block))) o)) h
    ∙ (ap (λ (o : Option Data). option_map object (option_and_then (λ b. option_and_then (λ a. Some (grouped_found d b a bytes)) (option_map number (number_of at))) o)) i
    ∙ ap (λ (o : Option Data). option_map object (option_and_then (λ a. Some (grouped_found d e a bytes)) o)) j)

abbrev grouped_joined : Option ℕ → Option ℕ → Option ℕ → Option (List ℕ) → Option Command
grouped_joined group block at bytes = option_and_then (λ g. option_and_then (λ b. option_and_then (λ a. option_map (group_patch g b a) bytes) at) block) group

grouped_is : (o p q : Option ℕ) (r : Option (List ℕ)) (group block at : ℕ) (bytes : List ℕ) → o ≡ Some group → p ≡ Some block → q ≡ Some at → r ≡ Some bytes
    → grouped_joined o p q r ≡ Some (group_patch group block at bytes)
grouped_is o p q r group block at bytes h i j k = rw (h, i, j, k)

grouped_asked : (d e f : Data) (bytes : List ℕ)
    → command_in (object (grouped_found d e f bytes)) ≡ grouped_joined (number_in d) (number_in e) (number_in f) (if_ok (decode_of bytes))
grouped_asked d e f bytes = refl

grouped_follows : (c : Command) (group block at : ℕ) (g b a t bytes : List ℕ) → small_number g ≡ Some group → small_number b ≡ Some block → small_number a ≡ Some at
    → decode_of t ≡ Ok bytes → c ≡ group_patch group block at bytes
    → command_of_value (document (value 127 (named_tokens (codes "group_patch") (Token.key (codes "group") ∷ Token.number g ∷ change_tokens b a t)))) ≡ Ok c
grouped_follows c group block at g b a t bytes hg hb ha ht is =
    let d = small_data g (number_of g) group hg in
    let e = small_data b (number_of b) block hb in
    let f = small_data a (number_of a) at ha in
    ap (λ x. command_of_value (document x)) (grouped_value g b a t)
    ∙ (ap command_of_value (grouped_data g b a t d.0 e.0 f.0 d.1 e.1 f.1)
    ∙ ap or_field (grouped_asked d.0 e.0 f.0 t ∙ (grouped_is _ _ _ _ group block at bytes d.2 e.2 f.2 (ap if_ok ht) ∙ ap Some (sym is))))

grouped_tokens : (ts p q r : List Token) (g b a t : List ℕ) → ts ≡ Token.key (codes "group") ∷ Token.number g ∷ p → p ≡ Token.key (codes "block") ∷ Token.number b ∷ q
    → q ≡ Token.key (codes "at") ∷ Token.number a ∷ r → r ≡ Token.key (codes "data") ∷ Token.string t ∷ Token.end_object ∷ []
    → ts ≡ Token.key (codes "group") ∷ Token.number g ∷ change_tokens b a t
grouped_tokens ts p q r g b a t h i j k = rw (h, i, j, k)

group_patch_asks : (line : List ℕ) (c : Command) → AsksNamed (codes "group_patch") IsGroupPatch (tokens line) c → command_of_value (read line) ≡ Ok c
group_patch_asks line c (rest, starts, (group, block, at, bytes, p, is, (g, pg, ng), (q, r, (b, pb, nb), (a, pa, na), (t, pt, nt)))) =
    ap (λ ts. command_of_value (document (value 127 ts))) (starts ∙ ap (named_tokens (codes "group_patch")) (grouped_tokens rest p q r g b a t pg pb pa pt))
    ∙ grouped_follows c group block at g b a t bytes ng nb na nt is

-- ---- an empty patch, what a gate gains, and the group that a group comes after

empty_value : (depth : ℕ) (rest : List Token) (js : json.Items) → items (value depth) (length rest) rest ≡ Some (js, Token.end_object ∷ [])
    → value (suc (suc depth)) (named_tokens (codes "empty") (Token.key (codes "after") ∷ Token.begin_array ∷ rest))
    ≡ Some (json.object (json.member (codes "do") (json.string (codes "empty")) (json.member (codes "after") (json.array js) json.no_members)), [])
unfolding members value
empty_value depth rest js h =
    ap (λ (r : Option (json.Items × List Token)).
    parse_map json.object (parse_map (json.member (codes "do") (json.string (codes "empty")))
    (option_and_then (λ p. parse_map (json.member (codes "after") p.0) (members (value (suc depth)) (suc (suc (length rest))) p.1)) (parse_map json.array r))))
    h

empty_asked : (ds : Items) → command_in (object (put (codes "after") (array ds) (put (codes "do") (string (codes "empty")) no_members))) ≡ option_map empty (numbers_of ds)
empty_asked ds = refl

no_names_empty : command_of_value (document (value 127 (named_tokens (codes "empty") (Token.end_object ∷ [])))) ≡ Ok (empty [])
no_names_empty = ap (λ v. command_of_value (document v)) (alone_value (codes "empty"))

empty_follows : (c : Command) (after : List ℕ) (ts : List Token) → c ≡ empty after → NamesAtEnd ts after → command_of_value (document (value 127 (named_tokens (codes "empty") ts))) ≡ Ok c
empty_follows c after ts is (inl h) =
    ap (λ x. command_of_value (document (value 127 (named_tokens (codes "empty") x)))) h.0 ∙ (no_names_empty ∙ ap Ok (ap empty (sym h.1) ∙ sym is))
empty_follows c after ts is (inr (rest, starts, (names, opens, listed))) =
    let l = list_reads names (Token.end_object ∷ []) after (length names) (le_refl (length names)) listed in
    ap (λ x. command_of_value (document (value 127 (named_tokens (codes "empty") x)))) (starts ∙ ap (λ x. Token.key (codes "after") ∷ x) opens)
    ∙ (ap (λ x. command_of_value (document x)) (empty_value 125 names l.0 l.2)
    ∙ (ap (λ o. command_of_value (option_map object o)) (names_data (codes "after") l.0 l.1 (put (codes "do") (string (codes "empty")) no_members) l.3)
    ∙ ap or_field (empty_asked l.1 ∙ (ap (option_map empty) l.4 ∙ ap Some (sym is)))))

empty_asks : (line : List ℕ) (c : Command) → AsksNamed (codes "empty") IsEmpty (tokens line) c → command_of_value (read line) ≡ Ok c
empty_asks line c (rest, starts, (after, is, names)) = ap (λ ts. command_of_value (document (value 127 ts))) starts ∙ empty_follows c after rest is names

depend_value : (depth : ℕ) (gate : List ℕ) (rest : List Token) (js : json.Items) → items (value depth) (length rest) rest ≡ Some (js, Token.end_object ∷ [])
    → value (suc (suc depth)) (named_tokens (codes "depend") (Token.key (codes "gate") ∷ Token.number gate ∷ Token.key (codes "on") ∷ Token.begin_array ∷ rest))
    ≡ Some (json.object (json.member (codes "do") (json.string (codes "depend")) (json.member (codes "gate") (json.number gate) (json.member (codes "on") (json.array js) json.no_members))), [])
unfolding members value
depend_value depth gate rest js h =
    ap (λ (r : Option (json.Items × List Token)).
    parse_map json.object (parse_map (json.member (codes "do") (json.string (codes "depend"))) (parse_map (json.member (codes "gate") (json.number gate))
    (option_and_then (λ p. parse_map (json.member (codes "on") p.0) (members (value (suc depth)) (suc (suc (suc (length rest)))) p.1)) (parse_map json.array r)))))
    h

abbrev gate_found : Data → Members
gate_found gate = put (codes "gate") gate (put (codes "do") (string (codes "depend")) no_members)

gate_data : (gate : List ℕ) (ms : json.Members) (d : Data) → option_map number (number_of gate) ≡ Some d
    → of_json (json.object (json.member (codes "do") (json.string (codes "depend")) (json.member (codes "gate") (json.number gate) ms))) ≡ option_map object (of_members ms (gate_found d))
gate_data gate ms d h = ap (λ (o : Option Data). option_map object (option_and_then (λ g. of_members ms (gate_found g)) o)) h

depend_asked : (d : Data) (ds : Items) → command_in (object (put (codes "on") (array ds) (gate_found d))) ≡ option_and_then (λ n. option_map (depend n) (numbers_of ds)) (number_in d)
depend_asked d ds = refl

depend_is : (o : Option ℕ) (p : Option (List ℕ)) (gate : ℕ) (on : List ℕ) → o ≡ Some gate → p ≡ Some on → option_and_then (λ n. option_map (depend n) p) o ≡ Some (depend gate on)
depend_is o p gate on h k = rw (h, k) refl

depend_follows : (c : Command) (gate : ℕ) (text : List ℕ) (on : List ℕ) (names : List Token) → small_number text ≡ Some gate → c ≡ depend gate on → list_of names ≡ Some (on, Token.end_object ∷ [])
    → command_of_value (document (value 127 (named_tokens (codes "depend") (Token.key (codes "gate") ∷ Token.number text ∷ Token.key (codes "on") ∷ Token.begin_array ∷ names)))) ≡ Ok c
depend_follows c gate text on names small is listed =
    let d = small_data text (number_of text) gate small in
    let l = list_reads names (Token.end_object ∷ []) on (length names) (le_refl (length names)) listed in
    ap (λ x. command_of_value (document x)) (depend_value 125 text names l.0 l.2)
    ∙ (ap command_of_value (gate_data text (json.member (codes "on") (json.array l.0) json.no_members) d.0 d.1 ∙ ap (option_map object) (names_data (codes "on") l.0 l.1 (gate_found d.0) l.3))
    ∙ ap or_field (depend_asked d.0 l.1 ∙ (depend_is _ _ gate on d.2 l.4 ∙ ap Some (sym is))))

depend_asks : (line : List ℕ) (c : Command) → AsksNamed (codes "depend") IsDepend (tokens line) c → command_of_value (read line) ≡ Ok c
depend_asks line c (rest, starts, (gate, on, past, is, (text, has_gate, small), (behind, has_on, (names, opens, listed)))) =
    ap (λ ts. command_of_value (document (value 127 ts)))
    (starts ∙ ap (named_tokens (codes "depend")) (has_gate ∙ ap (λ x. Token.key (codes "gate") ∷ Token.number text ∷ x) (has_on ∙ ap (λ x. Token.key (codes "on") ∷ x) opens)))
    ∙ depend_follows c gate text on names small is listed

abbrev after_json : (group on : List ℕ) → json.Json
after_json group on =
    json.object (json.member (codes "do") (json.string (codes "group_after")) (json.member (codes "group") (json.number group) (json.member (codes "on") (json.number on) json.no_members)))

after_value : (group on : List ℕ)
    → value 127 (named_tokens (codes "group_after") (Token.key (codes "group") ∷ Token.number group ∷ Token.key (codes "on") ∷ Token.number on ∷ Token.end_object ∷ []))
    ≡ Some (after_json group on, [])
unfolding items members value
after_value group on = refl

abbrev after_found : Data → Data → Members
after_found group on = put (codes "on") on (put (codes "group") group (put (codes "do") (string (codes "group_after")) no_members))

after_data : (group on : List ℕ) (d e : Data) → option_map number (number_of group) ≡ Some d → option_map number (number_of on) ≡ Some e
    → of_json (after_json group on) ≡ Some (object (after_found d e))
after_data group on d e h i =
    ap (λ (o : Option Data). option_map object (option_and_then (λ g. option_and_then (λ n. Some (after_found g n)) (option_map number (number_of on))) o)) h
    ∙ ap (λ (o : Option Data). option_map object (option_and_then (λ n. Some (after_found d n)) o)) i

after_asked : (d e : Data) → command_in (object (after_found d e)) ≡ option_and_then (λ g. option_map (group_after g) (number_in e)) (number_in d)
after_asked d e = refl

after_is : (o p : Option ℕ) (group on : ℕ) → o ≡ Some group → p ≡ Some on → option_and_then (λ g. option_map (group_after g) p) o ≡ Some (group_after group on)
after_is o p group on h k = rw (h, k) refl

after_follows : (c : Command) (group on : ℕ) (g n : List ℕ) → small_number g ≡ Some group → small_number n ≡ Some on → c ≡ group_after group on
    → command_of_value (document (value 127 (named_tokens (codes "group_after") (Token.key (codes "group") ∷ Token.number g ∷ Token.key (codes "on") ∷ Token.number n ∷ Token.end_object ∷ [])))) ≡ Ok c
after_follows c group on g n hg hn is =
    let d = small_data g (number_of g) group hg in
    let e = small_data n (number_of n) on hn in
    ap (λ x. command_of_value (document x)) (after_value g n)
    ∙ (ap command_of_value (after_data g n d.0 e.0 d.1 e.1)
    ∙ ap or_field (after_asked d.0 e.0 ∙ (after_is _ _ group on d.2 e.2 ∙ ap Some (sym is))))

group_after_asks : (line : List ℕ) (c : Command) → AsksNamed (codes "group_after") IsGroupAfter (tokens line) c → command_of_value (read line) ≡ Ok c
group_after_asks line c (rest, starts, (group, on, past, is, (g, pg, ng), (n, pn, nn))) =
    ap (λ ts. command_of_value (document (value 127 ts)))
    (starts ∙ ap (named_tokens (codes "group_after")) (pg ∙ ap (λ x. Token.key (codes "group") ∷ Token.number g ∷ x) pn))
    ∙ after_follows c group on g n ng nn is

-- what follows the name of a command is the command, so the line asks for it
pub Asks-named : (name found : List ℕ) (Is : List Token → Command → Type 0) (ts rest : List Token) (r : Option Parsed)
    → ((c : Command) → AsksNamed name Is ts c → Asks ts c) → ts ≡ named_tokens found rest → found ≡ name
    → IfSome r (λ c. Is rest (command c)) → IfSome r (λ c. Asks ts (command c))
Asks-named name found Is ts rest None among starts same is = is
Asks-named name found Is ts rest (Some c) among starts same is = among (command c) (rest, starts ∙ ap (λ n. named_tokens n rest) same, is)

either_asks : (line : List ℕ) (c : Command) → Asks (tokens line) c → command_of_value (read line) ≡ Ok c
either_asks line c (inl h) = short_asks line c h
either_asks line c (inr (inl h)) = patch_asks line c h
either_asks line c (inr (inr (inl h))) = empty_asks line c h
either_asks line c (inr (inr (inr (inl h)))) = depend_asks line c h
either_asks line c (inr (inr (inr (inr (inl h))))) = group_patch_asks line c h
either_asks line c (inr (inr (inr (inr (inr h))))) = group_after_asks line c h

pub line_asks : (line : List ℕ) (r : Option Parsed) → length line ≤ max_line → IsUtf8 line
    → IfSome r (λ c. Asks (tokens line) (command c)) → IfSome r (λ c. command_of line ≡ Ok (command c))
line_asks line None few text asked = asked
line_asks line (Some c) few text asked =
    command_of-short line few ∙ (ap command_of_value (value_of-text line text) ∙ either_asks line (command c) asked)
