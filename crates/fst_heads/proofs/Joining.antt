-- What is pending of two patches together, and how one patch more or less changes the sums.
use Rattle.fst_heads.proofs.Basics.{◌≡◌, ◌≢◌, ◌∙◌, ne_eqb, ◌<◌, ◌⊎◌, ℕ, ◌+◌, ◌*◌, ◌≤◌, refl, sym, ap, subst, inl, inr, arith, cases_eq, eq-eqb, mul-add, mul-le-mul, rules, ◌-◌, cases_lt, add-mul, mul_comm, mul_left_comm}
use Rattle.fst_heads.proofs.Words.{Pending, Sums, meet, join, Sinks, IsOf, Fits, plus, minus, together, nothing, max_block, height}
use Rattle.std.proofs.Math.Nat.{one-le-mul}
use Rattle.fst_heads.proofs.Words.pending

-- numbers that add up as if all were one number, and whose squares do too, are all that number

-- how far x lies from c: the gap is the square of their difference
pub record Apart (x c : ℕ) : Type 0 where
  pub gap : ℕ
  pub squares : x * x + c * c ≡ c * x + c * x + gap
  pub same : gap ≡ 0 → x ≡ c

square_none : (k : ℕ) → k * k ≡ 0 → k ≡ 0
square_none k e = grind (arith, cases_lt, one-le-mul)

square_sum : (x k : ℕ) → (x + k) * (x + k) ≡ x * x + x * k + x * k + k * k
square_sum x k = omega (arith, add-mul x k (x + k), mul-add x x k, mul-add k x k, mul_comm k x)

apart_over : (x c k : ℕ) → c ≡ x + k → Apart x c
apart_over x c k e = record {
  gap = k * k;
  squares = rw e (omega (arith, square_sum x k, add-mul x k x, mul_comm k x));
  same = λ none. let k_none = square_none k none in omega (arith, e, k_none);
}

apart_under : (x c k : ℕ) → x ≡ c + k → Apart x c
apart_under x c k e = record {
  gap = k * k;
  squares = rw e (omega (arith, square_sum c k, mul-add c c k));
  same = λ none. let k_none = square_none k none in omega (arith, e, k_none);
}

pub apart : (x c : ℕ) → Apart x c
apart x c =
    elim (cases_lt x c) [
      | inl lt ↦ apart_over x c (c - x) (omega (arith, lt))
      | inr le ↦ apart_under x c (x - c) (omega (arith, le))
    ]

-- one number more
pub gap_more : (count total squares c x gap own : ℕ) → squares + count * (c * c) ≡ c * total + c * total + gap → x * x + c * c ≡ c * x + c * x + own
    → (squares + x * x) + (count + 1) * (c * c) ≡ c * (total + x) + c * (total + x) + (gap + own)
gap_more count total squares c x gap own e f = omega (arith, e, f, add-mul count 1 (c * c), mul-add c total x)

-- where c is the mean, and c times the total is the sum of squares, there is no gap
pub gap_none : (count total squares c gap : ℕ) → squares + count * (c * c) ≡ c * total + c * total + gap → c * count ≡ total → c * total ≡ squares → gap ≡ 0
gap_none count total squares c gap e mean even = grind (arith, mul_left_comm, mul_comm)

pub meet_same : (b c : ℕ) (p : Pending) → c ≡ b → meet b c p ≡ p
meet_same b c p e = rw (eq-eqb c b e) refl

pub meet_other : (b c : ℕ) (p : Pending) → c ≢ b → meet b c p ≡ pending.Apart
meet_other b c p ne = rw (ne_eqb c b ne) refl

-- what is pending of patches together does not depend on their order, nor on how often one is named

pub join_right : (p : Pending) → join p pending.Nothing ≡ p
join_right pending.Nothing = refl
join_right p = refl

held_right : (p : Pending) → join p pending.Held ≡ pending.Held
held_right pending.Nothing = refl
held_right p = refl

pub join_self : (p : Pending) → join p p ≡ p
join_self (pending.Block b) = meet_same b b (pending.Block b) refl
join_self (pending.Behind b) = meet_same b b (pending.Behind b) refl
join_self p = refl

pub join_turned : (p q : Pending) → join p q ≡ join q p
join_turned pending.Nothing q = sym (join_right q)
join_turned p pending.Nothing = join_right p
join_turned pending.Held q = sym (held_right q)
join_turned p pending.Held = held_right p
join_turned p q = grind (arith, cases_eq, meet_same, meet_other)

pub join_grouped : (p q r : Pending) → join (join p q) r ≡ join p (join q r)
join_grouped pending.Nothing q r = refl
join_grouped pending.Held q r = refl
join_grouped p pending.Nothing r = ap (λ x. join x r) (join_right p)
join_grouped p pending.Held r = ap (λ x. join x r) (held_right p) ∙ sym (held_right p)
join_grouped p q r = grind (arith, cases_eq, meet_same, meet_other, join_right, held_right)

-- two together wait for an open gate exactly where one of them does
pub join_held : (p q : Pending) → join p q ≡ pending.Held → (p ≡ pending.Held) ⊎ (q ≡ pending.Held)
join_held pending.Nothing q e = inr e
join_held pending.Held q e = inl refl
join_held p pending.Held e = inr refl
join_held p q e = grind (arith, cases_eq, meet_same, meet_other)

pub held_join : (p q : Pending) → q ≡ pending.Held → join p q ≡ pending.Held
held_join p q e = rw e (held_right p)

-- and for a flight alone only where one of them does
join_behind : (p q : Pending) (b : ℕ) → join p q ≡ pending.Behind b → (p ≡ pending.Behind b) ⊎ (q ≡ pending.Behind b)
join_behind pending.Nothing q b e = inr e
join_behind p pending.Nothing b e = inl (sym (join_right p) ∙ e)
join_behind p q b e = grind (arith, cases_eq, meet_same, meet_other)

-- what is pending sinks

pub sinks_same : (p q : Pending) → q ≡ p → Sinks p q
sinks_same p q e = ap (join p) e ∙ join_self p

pub sinks_trans : (a b c : Pending) → Sinks a b → Sinks b c → Sinks a c
sinks_trans a b c f g = sym (ap (λ x. join x c) f) ∙ (join_grouped a b c ∙ (ap (join a) g ∙ f))

-- both of two sink exactly where they do together
pub sinks_both : (a p q : Pending) → Sinks a p → Sinks a q → Sinks a (join p q)
sinks_both a p q f g = sym (join_grouped a p q) ∙ (ap (λ x. join x q) f ∙ g)

sinks_second : (p q : Pending) → Sinks (join p q) q
sinks_second p q = join_grouped p q q ∙ ap (join p) (join_self q)

sinks_first : (p q : Pending) → Sinks (join p q) p
sinks_first p q = subst (λ x. Sinks x p) (join_turned q p) (sinks_second q p)

pub sinks_parts : (a p q : Pending) → Sinks a (join p q) → Sinks a p × Sinks a q
sinks_parts a p q f = (sinks_trans a (join p q) p f (sinks_first p q), sinks_trans a (join p q) q f (sinks_second p q))

pub join_sinks : (p q o r : Pending) → Sinks p o → Sinks q r → Sinks (join p q) (join o r)
join_sinks p q o r f g = sinks_both (join p q) o r (sinks_trans (join p q) p o (sinks_first p q) f) (sinks_trans (join p q) q r (sinks_second p q) g)

-- an open gate is the most that may be pending, and nothing the least
pub held_sinks : (q : Pending) → Sinks pending.Held q
held_sinks q = refl

pub sinks_to_nothing : (p : Pending) → Sinks p pending.Nothing
sinks_to_nothing p = join_right p

-- what sinks to something else is lower
pub lower_sinks : (p q : Pending) → Sinks p q → q ≢ p → height q < height p
lower_sinks p q f ne = grind (arith, cases_eq, meet_same, meet_other)

-- where changes of a block alone are pending, in memory or in flight, nothing or that block is left
pub sinks_block : (b : ℕ) (p : Pending) → Sinks (pending.Block b) p → (p ≡ pending.Nothing) ⊎ (p ≡ pending.Block b)
sinks_block b p f = grind (arith, cases_eq, meet_same, meet_other)

pub sinks_behind : (b : ℕ) (p : Pending) → Sinks (pending.Behind b) p → (p ≡ pending.Nothing) ⊎ IsOf b p
sinks_behind b p f = grind (arith, cases_eq, meet_same, meet_other)

pub behind_sinks : (b : ℕ) (p : Pending) → IsOf b p → Sinks (pending.Behind b) p
behind_sinks b p (inl e) = rw e (meet_same b b (pending.Behind b) refl)
behind_sinks b p (inr e) = sinks_same (pending.Behind b) p e

-- sums with the same numbers are the same
abbrev sums_with : (count held apart behind total squares : ℕ) → Sums
sums_with count held apart behind total squares = record { count = count; held = held; apart = apart; behind = behind; total = total; squares = squares }

sums_with_same : (a b c d e f u v w x y z : ℕ) → a ≡ u → b ≡ v → c ≡ w → d ≡ x → e ≡ y → f ≡ z → sums_with a b c d e f ≡ sums_with u v w x y z
sums_with_same a b c d e f u v w x y z g h i j k l = rw (g, h, i, j, k, l) refl

pub sums_eq : (s t : Sums) → s.count ≡ t.count → s.held ≡ t.held → s.apart ≡ t.apart → s.behind ≡ t.behind → s.total ≡ t.total → s.squares ≡ t.squares → s ≡ t
sums_eq s t g h i j k l = sums_with_same s.count s.held s.apart s.behind s.total s.squares t.count t.held t.apart t.behind t.total t.squares g h i j k l

pub plus_swap : (p q : Pending) (s : Sums) → plus p (plus q s) ≡ plus q (plus p s)
plus_swap pending.Nothing q s = refl
plus_swap p pending.Nothing s = refl
plus_swap p q s = sums_eq _ _ (omega arith) (omega arith) (omega arith) (omega arith) (omega arith) (omega arith)

pub plus_together : (p : Pending) (s t : Sums) → together (plus p s) t ≡ plus p (together s t)
plus_together pending.Nothing s t = refl
plus_together p s t = sums_eq _ _ (omega arith) (omega arith) (omega arith) (omega arith) (omega arith) (omega arith)

pub nothing_together : (s : Sums) → together nothing s ≡ s
nothing_together s = sums_eq _ _ (omega arith) (omega arith) (omega arith) (omega arith) (omega arith) (omega arith)

pub minus_plus : (p : Pending) (s : Sums) → minus p (plus p s) ≡ s
minus_plus pending.Nothing s = refl
minus_plus p s = sums_eq _ _ (omega arith) (omega arith) (omega arith) (omega arith) (omega arith) (omega arith)

-- with a block more
block_fits : (b : ℕ) (s : Sums) → b ≤ max_block → Fits s → Fits (plus (pending.Block b) s) × Fits (plus (pending.Behind b) s)
block_fits b s small fits =
    let square = mul-le-mul small small in
    let total : s.total + b ≤ (s.count + 1) * max_block = omega (arith, fits.total, small) in
    let squares : s.squares + b * b ≤ (s.count + 1) * (max_block * max_block) = omega (arith, fits.squares, square) in (
      record { held = omega (arith, fits.held); apart = omega (arith, fits.apart); behind = omega (arith, fits.behind); total = total; squares = squares },
      record { held = omega (arith, fits.held); apart = omega (arith, fits.apart); behind = omega (arith, fits.behind); total = total; squares = squares },
    )

pub fits_plus : (p : Pending) (s : Sums) → ((b : ℕ) → IsOf b p → b ≤ max_block) → Fits s → Fits (plus p s)
fits_plus pending.Nothing s narrow fits = fits
fits_plus (pending.Block b) s narrow fits = (block_fits b s (narrow b (inl refl)) fits).0
fits_plus (pending.Behind b) s narrow fits = (block_fits b s (narrow b (inr refl)) fits).1
fits_plus p s narrow fits = record { held = omega (arith, fits.held); apart = omega (arith, fits.apart); behind = omega (arith, fits.behind); total = omega (arith, fits.total); squares = omega (arith, fits.squares) }

pub few_plus : (p : Pending) (s : Sums) (n : ℕ) → s.count ≤ n → (plus p s).count ≤ n + 1
few_plus pending.Nothing s n le = omega (arith, le)
few_plus p s n le = omega (arith, le)

-- the sums of patches of one block
pub record Even (s : Sums) (b : ℕ) : Type 0 where
  pub none_held : s.held ≡ 0
  pub none_apart : s.apart ≡ 0
  pub total : s.total ≡ b * s.count
  pub squares : s.squares ≡ b * s.total

-- how far the blocks lie from c
pub record Off (s : Sums) (c : ℕ) (p : Pending) : Type 0 where
  pub gap : ℕ
  pub squares : s.squares + s.count * (c * c) ≡ c * s.total + c * s.total + gap
  pub same : gap ≡ 0 → Sinks (pending.Behind c) p

-- what the sums tell of what is pending
pub record Tells (s : Sums) (p : Pending) : Type 0 where
  pub none : s.count ≡ 0 → p ≡ pending.Nothing
  pub nothing : p ≡ pending.Nothing → s.count ≡ 0
  pub held : p ≡ pending.Held → 1 ≤ s.held
  pub free : (p ≡ pending.Held → ⊥) → s.held ≡ 0
  pub even : (b : ℕ) → Sinks (pending.Behind b) p → Even s b
  pub memory : (b : ℕ) → Sinks (pending.Block b) p → s.behind ≡ 0
  pub behind : (b : ℕ) → p ≡ pending.Behind b → 1 ≤ s.behind
  pub off : (c : ℕ) → s.held ≡ 0 → s.apart ≡ 0 → Off s c p

even_plus : (p : Pending) (s : Sums) (b : ℕ) → (p ≡ pending.Nothing) ⊎ IsOf b p → Even s b → Even (plus p s) b
even_plus pending.Nothing s b w even = even
even_plus p s b w even = grind (arith, mul-add)

memory_plus : (p : Pending) (s : Sums) (b : ℕ) → (p ≡ pending.Nothing) ⊎ (p ≡ pending.Block b) → s.behind ≡ 0 → (plus p s).behind ≡ 0
memory_plus p s b (inl e) none = rw e none
memory_plus p s b (inr e) none = rw e none

behind_plus : (p : Pending) (s : Sums) (b : ℕ) → (p ≡ pending.Behind b) ⊎ (1 ≤ s.behind) → 1 ≤ (plus p s).behind
behind_plus p s b (inl e) = rw e (omega arith)
behind_plus pending.Nothing s b (inr some) = some
behind_plus p s b (inr some) = omega (arith, some)

off_block : (b : ℕ) (s : Sums) (c : ℕ) (q : Pending) → Off s c q → Off (plus (pending.Block b) s) c (join (pending.Block b) q) × Off (plus (pending.Behind b) s) c (join (pending.Behind b) q)
off_block b s c q off =
    let own = apart b c in
    let squares = gap_more s.count s.total s.squares c b off.gap own.gap off.squares own.squares in
    let of_c = λ (p : Pending) (of_b : IsOf b p) (none : off.gap + own.gap ≡ 0).
    sinks_both (pending.Behind c) p q (behind_sinks c p (subst (λ k. IsOf k p) (own.same (omega (arith, none))) of_b)) (off.same (omega (arith, none))) in (
      record { gap = off.gap + own.gap; squares = squares; same = of_c (pending.Block b) (inl refl) },
      record { gap = off.gap + own.gap; squares = squares; same = of_c (pending.Behind b) (inr refl) },
    )

off_plus : (p : Pending) (s : Sums) (c : ℕ) (q : Pending) → (s.held ≡ 0 → s.apart ≡ 0 → Off s c q) → (plus p s).held ≡ 0 → (plus p s).apart ≡ 0 → Off (plus p s) c (join p q)
off_plus pending.Nothing s c q off h e = off h e
off_plus (pending.Block b) s c q off h e = (off_block b s c q (off h e)).0
off_plus (pending.Behind b) s c q off h e = (off_block b s c q (off h e)).1
off_plus pending.Apart s c q off h e = absurd (omega (arith, e))
off_plus pending.Held s c q off h e = absurd (omega (arith, h))

held_plus : (p : Pending) (s : Sums) (q : Pending) → (q ≡ pending.Held → 1 ≤ s.held) → join p q ≡ pending.Held → 1 ≤ (plus p s).held
held_plus p s q held e = grind (arith, join_held)

free_plus : (p : Pending) (s : Sums) (q : Pending) → ((q ≡ pending.Held → ⊥) → s.held ≡ 0) → (join p q ≡ pending.Held → ⊥) → (plus p s).held ≡ 0
free_plus pending.Held s q free out = absurd (out refl)
free_plus p s q free out = free (λ e. out (held_join p q e))

none_plus : (p : Pending) (s : Sums) (q : Pending) → (s.count ≡ 0 → q ≡ pending.Nothing) → (plus p s).count ≡ 0 → join p q ≡ pending.Nothing
none_plus pending.Nothing s q none e = none e
none_plus p s q none e = absurd (omega (arith, e))

nothing_plus : (p : Pending) (s : Sums) → p ≡ pending.Nothing → s.count ≡ 0 → (plus p s).count ≡ 0
nothing_plus p s e z = rw e z

pub tells_plus : (p : Pending) (s : Sums) (q : Pending) → Tells s q → Tells (plus p s) (join p q)
tells_plus p s q tells = record {
  none = none_plus p s q tells.none;
  nothing = λ e. let both = sinks_parts pending.Nothing p q e in nothing_plus p s both.0 (tells.nothing both.1);
  held = held_plus p s q tells.held;
  free = free_plus p s q tells.free;
  even = λ b w. let both = sinks_parts (pending.Behind b) p q w in even_plus p s b (sinks_behind b p both.0) (tells.even b both.1);
  memory = λ b w. let both = sinks_parts (pending.Block b) p q w in memory_plus p s b (sinks_block b p both.0) (tells.memory b both.1);
  behind = λ b e. behind_plus p s b (elim (join_behind p q b e) [ inl own ↦ inl own | inr other ↦ inr (tells.behind b other) ]);
  off = λ c. off_plus p s c q (tells.off c);
}

pub tells_nothing : Tells nothing pending.Nothing
tells_nothing = search rules
