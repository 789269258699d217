-- Steps of a session.
use Rattle.std.proofs.Common.{◌≡◌, ℕ, ◌<◌, List, [], ◌∷◌, ◌++◌, Option, Result, Ok, Err, refl, sym, ap, ◌∙◌, subst, inl, inr, append_assoc, append-nil, length, take, IsErrAnd}
use Rattle.std.specs.Io.KnownBytes.{Appends, Consumes, IsAtEnd, Keeps}
use Rattle.std.proofs.KnownBytes.{Appends-kept, Appends-nil, Appends-trans, Consumes-trans}
use Rattle.fst_types.specs.declared.shape.Shape.{Shape}
use Rattle.fst_player.specs.Play.{Plays}
use Rattle.fst_player.specs.declared.play.PlayFault.TheVariants.{Write}
use Rattle.fst_player.specs.Stream.{Parted, parted, lines, last_line}
use Rattle.fst_player.specs.Script.{PlayerState, opened, IsScriptRun}
use Rattle.fst_player.specs.Session.{IsAt, StopsIn, Leads, Stops, Feeds, Finishes}
use Rattle.fst_player.specs.Lines.{Holds}
use Rattle.fst_player.specs.Answering.{Answered}
use Rattle.fst_player.specs.declared.session.Session.{Session}
use Rattle.fst_player.proofs.StreamLemmas.{IsText, parted-text, parted-end, ended-append, last_line-some}
use Rattle.fst_player.proofs.RunLemmas.{Run-append, Run-one, Run-total}

pub Leads-then : (s t u : Session) (p q : List ℕ) (a b c : Option (List ℕ)) → Leads s p a b t → Leads t q b c u → Leads s (p ++ q) a c u
Leads-then s t u p q a b c f h origin given sent at =
    let first = f origin given sent at in
    let second = h origin (given ++ p) (sent ++ first.0) first.2 in (
      first.0 ++ second.0,
      Appends-trans a b c _ _ first.1 second.1,
      subst (λ (x : List ℕ). IsAt origin x (sent ++ (first.0 ++ second.0)) u) (append_assoc given p q)
          (subst (λ (x : List ℕ). IsAt origin ((given ++ p) ++ q) x u) (append_assoc sent first.0 second.0) second.2),
    )

pub Stops-then : (s t : Session) (p q : List ℕ) (a b c : Option (List ℕ)) → Leads s p a b t → Stops t q b c → Stops s (p ++ q) a c
Stops-then s t p q a b c f h origin given sent at =
    let first = f origin given sent at in
    let stop = h origin (given ++ p) (sent ++ first.0) first.2 in
    record {
      full = stop.full;
      last = stop.last;
      run = subst (λ (x : List ℕ). IsScriptRun origin (parted x).ended stop.full stop.last) (append_assoc given p q) stop.run;
      part = first.0 ++ stop.part;
      more = stop.more;
      taken = Appends-trans a b c _ _ first.1 stop.taken;
      is_beginning = ap (λ (x : List ℕ). sent ++ x) (append_assoc first.0 stop.part stop.more) ∙ sym (append_assoc sent first.0 (stop.part ++ stop.more)) ∙ stop.is_beginning;
    }

pub Stops-longer : (s : Session) (p q : List ℕ) (a b : Option (List ℕ)) → Stops s p a b → Stops s (p ++ q) a b
Stops-longer s p q a b h origin given sent at =
    let stop = h origin given sent at in
    let others = ended-append (given ++ p) q in
    let tail = Run-total stop.last others.0 in
    let run : IsScriptRun origin ((parted (given ++ p)).ended ++ others.0) (stop.full ++ tail.0) tail.1 = Run-append origin stop.last tail.1 _ others.0 stop.full tail.0 stop.run tail.2 in
    record {
      full = stop.full ++ tail.0;
      last = tail.1;
      run = subst (λ (x : List ℕ). IsScriptRun origin (parted x).ended (stop.full ++ tail.0) tail.1) (append_assoc given p q)
          (subst (λ (x : List (List ℕ)). IsScriptRun origin x (stop.full ++ tail.0) tail.1) (sym others.1) run);
      part = stop.part;
      more = stop.more ++ tail.0;
      taken = stop.taken;
      is_beginning = ap (λ (x : List ℕ). sent ++ x) (sym (append_assoc stop.part stop.more tail.0)) ∙ sym (append_assoc sent (stop.part ++ stop.more) tail.0) ∙ ap (λ (x : List ℕ). x ++ tail.0) stop.is_beginning;
    }

pub Feeds-end : {T E : Type 0} (s t : Session) (a b : Option (List ℕ)) (r : Result T E) → Holds t.line [] → Answered s.player s.line a b r t.player → Feeds s (10 ∷ []) a b r t
Feeds-end s t a b (Ok u) line f = λ origin given sent at.
    let told = f (parted given).rest at.held in
    let run = Run-append origin s.player t.player _ _ sent _ at.run (Run-one s.player (parted given).rest told.0 t.player told.1) in (
      told.0 ++ 10 ∷ [],
      told.2,
      record {
        run = subst (λ (x : Parted). IsScriptRun origin x.ended (sent ++ (told.0 ++ 10 ∷ [])) t.player) (sym (parted-end given)) run;
        held = subst (λ (x : Parted). Holds t.line x.rest) (sym (parted-end given)) line;
      },
    )
Feeds-end s t a b (Err e) line f = λ origin given sent at.
    let told = f (parted given).rest at.held in
    let run = Run-append origin s.player t.player _ _ sent _ at.run (Run-one s.player (parted given).rest told.0 t.player told.1) in
    let sends = told.2 in
    record {
      full = sent ++ (told.0 ++ 10 ∷ []);
      last = t.player;
      run = subst (λ (x : Parted). IsScriptRun origin x.ended (sent ++ (told.0 ++ 10 ∷ [])) t.player) (sym (parted-end given)) run;
      part = sends.0;
      more = sends.1;
      taken = sends.3;
      is_beginning = ap (λ (x : List ℕ). sent ++ x) sends.2;
    }

pub Leads-text : (s t : Session) (piece : List ℕ) (a : Option (List ℕ)) → IsText piece → t.player ≡ s.player → ((text : List ℕ) → Holds s.line text → Holds t.line (text ++ piece)) → Leads s piece a a t
Leads-text s t piece a plain same f origin given sent at = (
  [],
  Appends-nil a,
  record {
    run = subst (λ (x : Parted). IsScriptRun origin x.ended (sent ++ []) t.player) (sym (parted-text piece given plain))
        (subst (λ (x : PlayerState). IsScriptRun origin (parted given).ended (sent ++ []) x) (sym same) (subst (λ (x : List ℕ). IsScriptRun origin (parted given).ended x s.player) (sym (append-nil sent)) at.run));
    held = subst (λ (x : Parted). Holds t.line x.rest) (sym (parted-text piece given plain)) (f (parted given).rest at.held);
  },
)

-- the stream ended behind a line's end
pub Finishes-empty : (s : Session) (a : Option (List ℕ)) → ((text : List ℕ) → Holds s.line text → text ≡ []) → (origin : PlayerState) (given sent : List ℕ) → IsAt origin given sent s → (more : List ℕ) × (last : PlayerState) × Appends a a more × IsScriptRun origin (lines given) (sent ++ more) last
Finishes-empty s a f origin given sent at = (
  [],
  s.player,
  Appends-nil a,
  subst (λ (x : List ℕ). IsScriptRun origin (lines given) x s.player) (sym (append-nil sent))
      (subst (λ (x : List (List ℕ)). IsScriptRun origin x sent s.player) (sym (ap (λ (x : List ℕ). (parted given).ended ++ last_line x) (f _ at.held) ∙ append-nil (parted given).ended)) at.run),
)

-- the stream ended within a line
pub Finishes-line : {T E : Type 0} (s t : Session) (a b : Option (List ℕ)) (r : Result T E) → ((text : List ℕ) → Holds s.line text → 0 < length text) → Answered s.player s.line a b r t.player → Finishes s a b r
Finishes-line s t a b (Ok u) some f = λ origin given sent at.
    let told = f (parted given).rest at.held in
    let run = Run-append origin s.player t.player _ _ sent _ at.run (Run-one s.player (parted given).rest told.0 t.player told.1) in (
      told.0 ++ 10 ∷ [],
      t.player,
      told.2,
      subst (λ (x : List (List ℕ)). IsScriptRun origin ((parted given).ended ++ x) (sent ++ (told.0 ++ 10 ∷ [])) t.player) (sym (last_line-some _ (some _ at.held))) run,
    )
Finishes-line s t a b (Err e) some f = λ origin given sent at.
    let told = f (parted given).rest at.held in
    let run = Run-append origin s.player t.player _ _ sent _ at.run (Run-one s.player (parted given).rest told.0 t.player told.1) in
    let sends = told.2 in (
      sends.0,
      sends.1,
      t.player,
      sends.3,
      subst (λ (x : List ℕ). IsScriptRun origin (lines given) (sent ++ x) t.player) (sym sends.2)
          (subst (λ (x : List (List ℕ)). IsScriptRun origin ((parted given).ended ++ x) (sent ++ (told.0 ++ 10 ∷ [])) t.player) (sym (last_line-some _ (some _ at.held))) run),
    )

-- the writer was flushed then, whatever came of it
pub Feeds-kept : {T E : Type 0} (s t : Session) (p : List ℕ) (a b c : Option (List ℕ)) (r : Result T E) → Leads s p a b t → Keeps b c → Feeds s p a c r t
Feeds-kept s t p a b c (Ok u) f kept = λ origin given sent at.
    let led = f origin given sent at in (led.0, Appends-kept a b c led.0 led.1 kept, led.2)
Feeds-kept s t p a b c (Err e) f kept = λ origin given sent at.
    let led = f origin given sent at in
    record {
      full = sent ++ led.0;
      last = t.player;
      run = led.2.run;
      part = led.0;
      more = [];
      taken = Appends-kept a b c led.0 led.1 kept;
      is_beginning = ap (λ (x : List ℕ). sent ++ x) (append-nil led.0);
    }

pub Finishes-kept : {T E U : Type 0} (V : Type 0) (s : Session) (a b c : Option (List ℕ)) (u : U) (r : Result T E) → Finishes {T = U} {E = V} s a b (Ok u) → Keeps b c → Finishes s a c r
Finishes-kept V s a b c u (Ok v) f kept = λ origin given sent at.
    let left = f origin given sent at in (left.0, left.1, Appends-kept a b c left.0 left.2 kept, left.3)
Finishes-kept V s a b c u (Err e) f kept = λ origin given sent at.
    let left = f origin given sent at in (
      left.0,
      [],
      left.1,
      Appends-kept a b c left.0 left.2 kept,
      subst (λ (x : List ℕ). IsScriptRun origin (lines given) (sent ++ x) left.1) (sym (append-nil left.0)) left.3,
    )

-- the exit of the question mark
pub Finishes-err : {T E V : Type 0} (U : Type 0) (Q : E → Type 0) (s : Session) (a b : Option (List ℕ)) (x : V) (r : Result T E) → IsErrAnd r Q → Finishes {T = U} {E = V} s a b (Err x) → Finishes s a b r
Finishes-err U Q s a b x (Ok u) e h = absurd e
Finishes-err U Q s a b x (Err y) e h = h

pub Feeds-err : {T E : Type 0} (Q : E → Type 0) (s t : Session) (p : List ℕ) (a b : Option (List ℕ)) (r : Result T E) → IsErrAnd r Q → Stops s p a b → Feeds s p a b r t
Feeds-err Q s t p a b (Ok u) e h = absurd e
Feeds-err Q s t p a b (Err x) e h = h

-- the player that a session started with was one just opened
pub from_opened : (shape : Shape) (first : PlayerState) (given sent : List ℕ) (s : Session) → first ≡ opened shape → IsAt first given sent s → IsAt (opened shape) given sent s
from_opened shape first given sent s fresh at = subst (λ (p : PlayerState). IsAt p given sent s) fresh at

-- the writer stopped: what was taken begins the replies to the lines that ended
pub stopped_plays : (T : Type 0) (shape : Shape) (given sent : List ℕ) (left a b c : Option (List ℕ)) → Appends a b sent → StopsIn (opened shape) given sent b c → (taken : List ℕ) × Appends a c taken × Plays {T = T} shape given left taken (Err Write)
stopped_plays T shape given sent left a b c p stop = (
  sent ++ stop.part,
  Appends-trans a b c _ _ p stop.taken,
  ((parted given).ended, inl refl, stop.full, stop.more, stop.last, stop.run, append_assoc sent stop.part stop.more ∙ stop.is_beginning),
)

-- the same within the last line, which has no end
pub unfinished_plays : (T : Type 0) (shape : Shape) (given sent part more : List ℕ) (last : PlayerState) (left a b c : Option (List ℕ)) → IsAtEnd left → Appends a b sent → Appends b c part → IsScriptRun (opened shape) (lines given) (sent ++ (part ++ more)) last → (taken : List ℕ) × Appends a c taken × Plays {T = T} shape given left taken (Err Write)
unfinished_plays T shape given sent part more last left a b c end p q run =
    (sent ++ part, Appends-trans a b c _ _ p q, (lines given, inr (refl, end), sent ++ (part ++ more), more, last, run, append_assoc sent part more))

-- a read of no bytes
pub Consumes-none : (a b c : Option (List ℕ)) (given piece : List ℕ) (n : ℕ) → n ≡ 0 → Consumes a b given → Consumes b c (take n piece) → Consumes a c given
Consumes-none a b c given piece n e p q =
    subst (Consumes a c) (append-nil given) (Consumes-trans a b c given [] p (subst (λ (x : ℕ). Consumes b c (take x piece)) e q))
