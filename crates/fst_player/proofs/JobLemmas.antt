-- The job of a ticket, found from the front.
use Rattle.std.proofs.Common.{◌≡◌, ℕ, ◌+◌, ◌<◌, ◌≤◌, true, false, cond, List, [], ◌∷◌, ◌++◌, length, take, drop, get_or, Some, None, refl, sym, ap, ◌∙◌, append_assoc, add-one}
use Rattle.std.specs.Prelude.{◌==◌, if◌then◌else◌}
use Rattle.std.proofs.lemmas.List.{drop_more, take_more, map-append, drop_all, get_or_default}
use Rattle.std.proofs.lemmas.Bool.{eqb-true}
use Rattle.fst_device.specs.JobView.{JobView}
use Rattle.fst_device.specs.MemoryView.{MemoryView}
use Rattle.fst_player.specs.Script.{job_of, without}
use Rattle.fst_player.specs.Kept.{job_kept, jobs_kept, IsJobAt}

-- none of the first i jobs is of the ticket
pub record Passed (jobs : List (JobView MemoryView)) (t i : ℕ) : Type 0 where
  pub found : job_of (jobs_kept jobs) t ≡ job_of (jobs_kept (drop i jobs)) t
  pub others : without t (jobs_kept jobs) ≡ jobs_kept (take i jobs) ++ without t (jobs_kept (drop i jobs))

find_skip : (t : ℕ) (y : JobView MemoryView) (ys : List (JobView MemoryView)) → (y.ticket == t) ≡ false → job_of (jobs_kept (y ∷ ys)) t ≡ job_of (jobs_kept ys) t
find_skip t y ys h = ap (λ b. cond b (Some (job_kept y)) (job_of (jobs_kept ys) t)) h

find_here : (t : ℕ) (y : JobView MemoryView) (ys : List (JobView MemoryView)) → (y.ticket == t) ≡ true → job_of (jobs_kept (y ∷ ys)) t ≡ Some (job_kept y)
find_here t y ys h = ap (λ b. cond b (Some (job_kept y)) (job_of (jobs_kept ys) t)) h

without_skip : (t : ℕ) (y : JobView MemoryView) (ys : List (JobView MemoryView)) → (y.ticket == t) ≡ false → without t (jobs_kept (y ∷ ys)) ≡ job_kept y ∷ without t (jobs_kept ys)
without_skip t y ys h = ap (λ b. if b then jobs_kept ys else job_kept y ∷ without t (jobs_kept ys)) h

without_here : (t : ℕ) (y : JobView MemoryView) (ys : List (JobView MemoryView)) → (y.ticket == t) ≡ true → without t (jobs_kept (y ∷ ys)) ≡ jobs_kept ys
without_here t y ys h = ap (λ b. if b then jobs_kept ys else job_kept y ∷ without t (jobs_kept ys)) h

at_drop : (jobs : List (JobView MemoryView)) (i : ℕ) (x : JobView MemoryView) → x ≡ get_or jobs i x → i < length jobs → drop i jobs ≡ x ∷ drop (i + 1) jobs
at_drop jobs i x is lt = drop_more jobs i x lt ∙ ap (λ y. y ∷ drop (i + 1) jobs) (sym is)

pub passed_none : (jobs : List (JobView MemoryView)) (t : ℕ) → Passed jobs t 0
passed_none jobs t = record { found = refl; others = refl }

pub passed_more : (jobs : List (JobView MemoryView)) (t i : ℕ) (x : JobView MemoryView) → x ≡ get_or jobs i x → i < length jobs → (x.ticket == t) ≡ false → Passed jobs t i → Passed jobs t (i + 1)
passed_more jobs t i x is lt h P =
    let e = at_drop jobs i x is lt in
    let front : take (i + 1) jobs ≡ take i jobs ++ x ∷ [] = take_more jobs i x lt ∙ ap (λ y. take i jobs ++ y ∷ []) (sym is) in
    record {
      found = P.found ∙ ap (λ l. job_of (jobs_kept l) t) e ∙ find_skip t x (drop (i + 1) jobs) h;
      others =
          P.others ∙ ap (λ l. jobs_kept (take i jobs) ++ without t (jobs_kept l)) e ∙ ap (λ l. jobs_kept (take i jobs) ++ l) (without_skip t x (drop (i + 1) jobs) h)
          ∙ sym (append_assoc (jobs_kept (take i jobs)) (job_kept x ∷ []) (without t (jobs_kept (drop (i + 1) jobs))))
          ∙ ap (λ l. l ++ without t (jobs_kept (drop (i + 1) jobs))) (sym (map-append job_kept (take i jobs) (x ∷ [])) ∙ ap jobs_kept (sym front));
    }

pub passed_at : (jobs : List (JobView MemoryView)) (t i : ℕ) (x : JobView MemoryView) → x ≡ get_or jobs i x → i < length jobs → (x.ticket == t) ≡ true → Passed jobs t i → IsJobAt jobs t i
passed_at jobs t i x is lt h P =
    let e = at_drop jobs i x is lt in
    let rest = drop (i + 1) jobs in
    record {
      within = lt;
      ticketed = λ d. ap (λ y. y.ticket) (sym (is ∙ get_or_default jobs i x d lt)) ∙ eqb-true x.ticket t h;
      found = λ d. P.found ∙ ap (λ l. job_of (jobs_kept l) t) e ∙ find_here t x rest h ∙ ap (λ y. Some (job_kept y)) (is ∙ get_or_default jobs i x d lt);
      others =
          P.others ∙ ap (λ l. jobs_kept (take i jobs) ++ without t (jobs_kept l)) e ∙ ap (λ l. jobs_kept (take i jobs) ++ l) (without_here t x rest h)
          ∙ sym (map-append job_kept (take i jobs) rest) ∙ ap (λ n. jobs_kept (take i jobs ++ drop n jobs)) (add-one i);
    }

pub passed_all : (jobs : List (JobView MemoryView)) (t i : ℕ) → length jobs ≤ i → Passed jobs t i → job_of (jobs_kept jobs) t ≡ None
passed_all jobs t i past P = P.found ∙ ap (λ l. job_of (jobs_kept l) t) (drop_all i jobs past)
