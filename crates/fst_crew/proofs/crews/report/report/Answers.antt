use Rattle.std.proofs.Common.{◌≡◌, refl, sym, ◌∙◌, ℕ, map, subst, arith}
use Rattle.std.specs.Prelude.{string_bytes}
use Rattle.std.specs.List.{range_with_len}
use Rattle.fst_types.specs.Bytes.{bytes_of}
use Rattle.fst_crew.specs.Crewing.{told}
use Rattle.fst_crew.proofs.ReportLemmas.{next_line, shown_bytes, told-none}
use Rattle.fst_crew.proofs.crews.report.report.Goals as goal

pub loop-block-init : goal.loop-block-init
loop-block-init g c = (c.in_ok-text.ensures.ok ∙ sym (told-none c.args.made), refl)

pub loop-block-preserved : goal.loop-block-preserved
loop-block-preserved g c =
    let after = rw c.in_ok-bytes.was at c.show.follows.holds-at-none in
    let bytes = shown_bytes _ _ _ _ _ after.2 in
    (next_line _ _ _ _ _ _ _ c.loop-block.invariant.0 c.in_ok-add_line.ensures bytes c.loop-block.invariant.1, after.0 ∙ c.loop-block.invariant.1)

pub returns : goal.returns
returns g c =
    let all : c.loop-block.block ≡ 8 = omega arith in
    subst (λ (n : ℕ). string_bytes c.loop-block.text ≡ told c.args.made (map (bytes_of c.args.cache.now.state) (range_with_len 0 n))) all c.loop-block.invariant.0
