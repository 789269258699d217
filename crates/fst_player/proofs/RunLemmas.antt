-- Runs, one after another.
use Rattle.std.proofs.Common.{ℕ, List, [], ◌∷◌, ◌++◌, Result, length, refl, sym, ap, ◌∙◌, subst, append_assoc, inl, inr}
use Rattle.std.proofs.lemmas.Bool.{cases_lt}
use Rattle.fst_types.specs.declared.fault.Fault.{Fault}
use Rattle.fst_player.specs.Script.{PlayerState, Replies, Answers, IsScriptRun}
use Rattle.fst_lines.specs.Commands.{Command, max_line}
use Rattle.fst_lines.proofs.CommandLemmas.{command_of-long}
use Rattle.fst_lines.specs.Replies.{refusal}
use Rattle.fst_types.specs.declared.fault.Fault.TheVariants as fault

pub Run-append : (a b c : PlayerState) (ls ms : List (List ℕ)) (s t : List ℕ) → IsScriptRun a ls s b → IsScriptRun b ms t c → IsScriptRun a (ls ++ ms) (s ++ t) c
Run-append a b c [] ms s t p q =
    let P : PlayerState → Type 0 = λ x. IsScriptRun x ms (s ++ t) c in
    subst P p.1 (subst (λ (x : List ℕ). IsScriptRun b ms (x ++ t) c) (sym p.0) q)
Run-append a b c (l ∷ ls) ms s t p q =
    (p.0, p.1, p.2 ++ t, p.3, Run-append p.1 b c ls ms p.2 t p.4 q, ap (λ (x : List ℕ). x ++ t) p.5 ∙ append_assoc p.0 (10 ∷ p.2) t)

pub Run-one : (old : PlayerState) (line reply : List ℕ) (new : PlayerState) → Answers old line reply new → IsScriptRun old (line ∷ []) (reply ++ 10 ∷ []) new
Run-one old line reply new h = (reply, new, [], h, (refl, refl), refl)

-- to each line some reply may come: that it is too long, or that memory is refused
some_reply : (old : PlayerState) (line : List ℕ) → (reply : List ℕ) × Answers old line reply old
some_reply old line =
    elim (cases_lt max_line (length line)) [
      | inl long ↦ (refusal fault.BadLine, inl (long, subst (λ (x : Result Command Fault). Replies old x (refusal fault.BadLine) old) (sym (command_of-long line long)) (refl, refl)))
      | inr short ↦ (refusal fault.Memory, inr (short, inl (refl, refl)))
    ]

-- a run can always go on
pub Run-total : (old : PlayerState) (ls : List (List ℕ)) → (sent : List ℕ) × (new : PlayerState) × IsScriptRun old ls sent new
Run-total old [] = ([], old, (refl, refl))
Run-total old (l ∷ ls) =
    let rest = Run-total old ls in
    let first = some_reply old l in
    (first.0 ++ 10 ∷ rest.0, rest.1, (first.0, old, rest.0, first.1, rest.2, refl))
