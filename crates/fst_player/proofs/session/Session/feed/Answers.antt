use Rattle.std.proofs.Common.{◌≡◌, ◌+◌, ◌-◌, ◌≤◌, ℕ, List, [], ◌∷◌, ◌++◌, Option, Ok, Err, length, take, drop, sym, ap, subst, ◌∙◌, take-append-drop, Some, None, take_all, arith}
use Rattle.memchr.specs.Find.{IsFirstByte, is_byte}
use Rattle.std.proofs.lemmas.List.{length-drop}
use Rattle.fst_lines.specs.declared.output.Stopped.{Stopped}
use Rattle.fst_player.proofs.SessionLemmas.{Feeds-end, Feeds-err, Feeds-kept, Leads-text, Leads-then, Stops-then, Stops-longer}
use Rattle.fst_player.proofs.StreamLemmas.{plain_rest, plain_line, with_line}
use Rattle.fst_player.specs.Lines.{Holds}
use Rattle.fst_player.specs.Session.{Leads}
use Rattle.fst_player.specs.declared.session.Session.{Session}
use Rattle.fst_player.proofs.session.Session.feed.Goals as goal

-- the slice from at on
rest_of : (piece : List ℕ) (at : ℕ) → take (length piece - at) (drop at piece) ≡ drop at piece
rest_of piece at = take_all (length piece - at) (drop at piece) (omega (arith, length-drop at piece))

-- the bytes before the next end of a line are kept
module _ (s t : Session) (piece : List ℕ) (at end : ℕ) (low : at ≤ length piece) (first : IsFirstByte (is_byte 10) (take (length piece - at) (drop at piece)) (Some end)) (same : t.player ≡ s.player)
    (held : (line : List ℕ) → Holds s.line line → Holds t.line (line ++ take (at + end - at) (drop at piece))) where
  found : IsFirstByte (is_byte 10) (drop at piece) (Some end)
  found = subst (λ hay. IsFirstByte (is_byte 10) hay (Some end)) (rest_of piece at) first

  line_kept : (a : Option (List ℕ)) → Leads s (take end (drop at piece)) a a t
  line_kept a =
      let short : take (at + end - at) (drop at piece) ≡ take end (drop at piece) = ap (λ n. take n (drop at piece)) (omega arith) in
      Leads-text s t (take end (drop at piece)) a (plain_line piece at end found.0.high low found.0.before) same (λ line h. subst (λ (text : List ℕ). Holds t.line (line ++ text)) short (held line h))

  line_ends : take (at + (end + 1)) piece ≡ (take at piece ++ take end (drop at piece)) ++ 10 ∷ []
  line_ends = with_line piece at end found.0.high low found.1

  line_fits : at + (end + 1) ≤ length piece
  line_fits = let within = found.0.high in omega (arith, within, low, length-drop at piece)

pub loop-end-preserved : goal.loop-end-preserved
loop-end-preserved g c =
    let piece = c.args.piece.now in
    let at = c.loop-end.at in
    let end = c.in-Some.end in
    let low = c.loop-end.invariant.0 in
    let s = c.loop-end.self in
    let t = c.keep.new.self in
    let kept = line_kept s t piece at end low c.in-Some.ensures c.keep.ensures.kept c.keep.ensures.held (g.W.Write.contents c.loop-end.writer) in
    let ended = Feeds-end {E = Stopped} t c.end_line.new.self _ _ (Ok c.in_ok-end_line.field-0) c.in_ok-end_line.ensures.line c.in_ok-end_line.ensures.answered in
    let whole = Leads-then c.args.self.now t c.end_line.new.self _ _ _ _ _ (Leads-then c.args.self.now s t _ _ _ _ _ c.loop-end.invariant.1 kept) ended in (
      line_fits s t piece at end low c.in-Some.ensures c.keep.ensures.kept c.keep.ensures.held,
      rw (line_ends s t piece at end low c.in-Some.ensures c.keep.ensures.kept c.keep.ensures.held) whole,
    )

pub returns-in_err-end_line : goal.returns-in_err-end_line
returns-in_err-end_line g c =
    let piece = c.args.piece.now in
    let at = c.loop-end.at in
    let end = c.in-Some.end in
    let low = c.loop-end.invariant.0 in
    let s = c.loop-end.self in
    let t = c.keep.new.self in
    let kept = line_kept s t piece at end low c.in-Some.ensures c.keep.ensures.kept c.keep.ensures.held (g.W.Write.contents c.loop-end.writer) in
    let stopped = Feeds-end {T = Unit {0}} t c.end_line.new.self _ _ (Err c.in_err-end_line.field-0.0) c.in_err-end_line.ensures.line c.in_err-end_line.ensures.answered in
    let ends = line_ends s t piece at end low c.in-Some.ensures c.keep.ensures.kept c.keep.ensures.held in
    let whole = sym (take-append-drop (at + (end + 1)) piece) ∙ ap (λ (x : List ℕ). x ++ drop (at + (end + 1)) piece) ends in
    Feeds-err _ c.args.self.now c.end_line.new.self piece _ _ _ c.from_residual.ensures.1
    (rw whole (Stops-longer c.args.self.now _ _ _ _ (Stops-then c.args.self.now t _ _ _ _ _ (Leads-then c.args.self.now s t _ _ _ _ _ c.loop-end.invariant.1 kept) stopped)))

pub returns : goal.returns
returns g c =
    let piece = c.args.piece.now in
    let at = c.loop-end.at in
    let none : IsFirstByte (is_byte 10) (drop at piece) None = subst (λ hay. IsFirstByte (is_byte 10) hay None) (rest_of piece at) c.in_default.ensures in
    let held : (line : List ℕ) → Holds c.loop-end.self.line line → Holds c.keep-2.new.self.line (line ++ drop at piece) = λ line h. subst (λ (t : List ℕ). Holds c.keep-2.new.self.line (line ++ t)) (rest_of piece at) (c.keep-2.ensures.held line h) in
    let kept = Leads-text c.loop-end.self c.keep-2.new.self (drop at piece) (g.W.Write.contents c.loop-end.writer) (plain_rest piece at none) c.keep-2.ensures.kept held in
    let whole = Leads-then c.args.self.now c.loop-end.self c.keep-2.new.self _ _ _ _ _ c.loop-end.invariant.1 kept in
    Feeds-kept c.args.self.now c.keep-2.new.self piece _ _ _ c.pass_on.result (rw (take-append-drop at piece) at whole) c.pass_on.ensures
