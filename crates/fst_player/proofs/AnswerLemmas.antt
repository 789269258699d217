-- What a line is answered, from what was sent.
use Rattle.std.proofs.Common.{◌≡◌, ℕ, ◌<◌, ◌≤◌, List, [], ◌∷◌, ◌++◌, Option, Result, Ok, Err, length, refl, sym, subst, inl, inr}
use Rattle.fst_types.specs.declared.fault.Fault.{Fault}
use Rattle.fst_types.specs.declared.fault.Fault.TheVariants as fault
use Rattle.fst_lines.specs.Commands.{Command, max_line, command_of}
use Rattle.fst_lines.specs.Parsing.{command, Parses}
use Rattle.fst_lines.specs.Replies.{refusal}
use Rattle.fst_lines.specs.Sending.{Sends}
use Rattle.fst_player.specs.Script.{PlayerState, MayReply, Replies, Answers}
use Rattle.fst_player.specs.Answering.{Obeyed}
use Rattle.fst_lines.specs.declared.command.Command.{Command as Parsed}
use Rattle.fst_lines.proofs.CommandLemmas.{command_of-long}

-- a reply to a line with this text was sent
abbrev pub Told : {T E : Type 0} → PlayerState → List ℕ → Option (List ℕ) → Option (List ℕ) → Result T E → PlayerState → Type 0
Told p text a b r q = (reply : List ℕ) × Answers p text reply q × Sends a b r (reply ++ 10 ∷ [])

-- memory was refused
pub Obeyed-memory : {T E : Type 0} (p : PlayerState) (c : Command) (a b : Option (List ℕ)) (r : Result T E) → Sends a b r (refusal fault.Memory ++ 10 ∷ []) → Obeyed p c a b r p
Obeyed-memory p c a b r h = (refusal fault.Memory, inl (refl, refl), h)

pub Told-memory : {T E : Type 0} (p : PlayerState) (text : List ℕ) (a b : Option (List ℕ)) (r : Result T E) → length text ≤ max_line → Sends a b r (refusal fault.Memory ++ 10 ∷ []) → Told p text a b r p
Told-memory p text a b r short h = (refusal fault.Memory, inr (short, inl (refl, refl)), h)

refused_of : (p : PlayerState) (f : Fault) (asked : Result Command Fault) → asked ≡ Err f → Replies p asked (refusal f) p
refused_of p f asked h = subst (λ (x : Result Command Fault). Replies p x (refusal f) p) (sym h) (refl, refl)

unparsed : (p : PlayerState) (f : Fault) (asked : Result Command Fault) → Parses (Err f) asked → MayReply p asked (refusal f) p
unparsed p fault.Memory asked h = inl (refl, refl)
unparsed p f asked h = inr (refused_of p f asked h)

-- the line is no command
pub Told-refused : {T E : Type 0} (p : PlayerState) (f : Fault) (bytes text : List ℕ) (a b : Option (List ℕ)) (r : Result T E) → bytes ≡ text → length text ≤ max_line → Parses (Err f) (command_of bytes) → Sends a b r (refusal f ++ 10 ∷ []) → Told p text a b r p
Told-refused p f bytes text a b r e short h s = (refusal f, inr (short, subst (λ (x : List ℕ). MayReply p (command_of x) (refusal f) p) e (unparsed p f (command_of bytes) h)), s)

-- the line is too long
pub Told-long : {T E : Type 0} (p : PlayerState) (text : List ℕ) (a b : Option (List ℕ)) (r : Result T E) → max_line < length text → Sends a b r (refusal fault.BadLine ++ 10 ∷ []) → Told p text a b r p
Told-long p text a b r h s = (refusal fault.BadLine, inl (h, refused_of p fault.BadLine (command_of text) (command_of-long text h)), s)

-- the line's command was obeyed
pub Told-obeyed : {T E : Type 0} (p q : PlayerState) (c : Parsed) (bytes text : List ℕ) (a b : Option (List ℕ)) (r : Result T E) → bytes ≡ text → length text ≤ max_line → Parses (Ok c) (command_of bytes) → Obeyed p (command c) a b r q → Told p text a b r q
Told-obeyed p q c bytes text a b r e short h o =
    (o.0, inr (short, subst (λ (x : List ℕ). MayReply p (command_of x) o.0 q) e (subst (λ (x : Result Command Fault). MayReply p x o.0 q) (sym h) o.1)), o.2)
