-- What a walk traces down over what another has met.
use Rattle.std.proofs.Common.{◌≡◌, ◌≢◌, ◌⊎◌, ◌-◌, ℕ, List, Option, Some, None, IfSome, length, take, drop, get_or, Contains, sym, subst, ◌∙◌, inl, inr}
use Rattle.std.proofs.lemmas.{List.{take-append-drop, take_rest}, List.Elements.Contains-append_right}
use Rattle.fst_types.specs.{Closure.{Closure, one, join}, Dependencies.IsLiveNumber, Patches.IsOn}
use Rattle.fst_heads.specs.{Heads.{IsRising, patch_of, patches_of}, Indices.HasIndex, declared.head.Head.Head}
use Rattle.fst_heads.proofs.{Indices.{direct_at, some_element}}
use Rattle.fst_walks.specs.BothEnds.{IsNeed, StepsTo}
use Rattle.fst_walks.proofs.CrossingDown.{here_on}

-- what is in the rest of a list is in it
pub in_rest : {X : Type 0} (xs : List X) (from : ℕ) (x : X) → Contains (take (length xs - from) (drop from xs)) x → Contains xs x
in_rest xs from x there = subst (λ ys. Contains ys x) (take-append-drop from xs) (Contains-append_right (take from xs) (drop from xs) x (subst (λ ys. Contains ys x) (take_rest xs from) there))

-- a number has one index, and an index one number
one_number : (heads : List Head) (n m s : ℕ) → HasIndex heads n s → HasIndex heads m s → n ≡ m
one_number heads n m s a b = let d = some_element heads s a.0 in sym (a.1 d) ∙ b.1 d

module _ (heads : List Head) (needs : ℕ → List ℕ) where
  -- an index of what the block needs
  pub need_found : (c n : ℕ) → Contains (needs c) n → (o : Option ℕ) → IfSome o (HasIndex heads n) → IfSome o (λ s. IsLiveNumber (patches_of heads) n) → IfSome o (λ s. (q : ℕ) × HasIndex heads q s × IsNeed (patches_of heads) needs c q)
  need_found c n kept (Some s) index live = (n, index, (kept, live))
  need_found c n kept None index live = index

  -- a step leads from the patch at the index to that in the next
  abbrev pub IsNext : ℕ → ℕ → ℕ → Type 0
  IsNext b s next = (q : ℕ) × HasIndex heads q next × ((n : ℕ) → HasIndex heads n s → IsLiveNumber (patches_of heads) n → StepsTo (patches_of heads) needs b n q)

  pub next_in_row : (b s : ℕ) (d : Head) (m : ℕ) → Contains (get_or heads s d).dependencies.items m → (o : Option ℕ) → IfSome o (HasIndex heads m) → IfSome o (λ t. IsLiveNumber (patches_of heads) m) → IfSome o (IsNext b s)
  next_in_row b s d m named (Some t) index live = (m, index, λ n here alive. inl (direct_at heads n m s d here named, live))
  next_in_row b s d m named None index live = index

  pub next_across : IsRising heads → (b s : ℕ) (d : Head) (own : ℕ) → IsOn (patch_of (get_or heads s d)) own → own ≢ b → (o : Option ℕ) → IfSome o (λ t. (q : ℕ) × HasIndex heads q t × IsNeed (patches_of heads) needs own q) → IfSome o (IsNext b s)
  next_across rising b s d own on other (Some t) found =
      (found.0, found.1, λ n here alive. inr (record { block = own; other = other; change = here_on heads rising needs n s d here alive own on; need = found.2 }))
  next_across rising b s d own on other None found = found

  -- steps lead from the patch at the first index to that in the other, or it is that one, which is not on disk
  pub record IsTraced (b from at : ℕ) : Type 0 where
    pub number : ℕ
    pub here : HasIndex heads number at
    pub live : IsLiveNumber (patches_of heads) number
    pub led : (n : ℕ) → HasIndex heads n from → (n ≡ number) ⊎ Closure (StepsTo (patches_of heads) needs b) n number

  pub traced_start : (b from : ℕ) → ((n : ℕ) × HasIndex heads n from × IsLiveNumber (patches_of heads) n) → IsTraced b from from
  traced_start b from t = record { number = t.0; here = t.1; live = t.2; led = λ n index. inl (one_number heads n t.0 from index t.1) }

  pub traced_next : (b from at next : ℕ) → IsTraced b from at → IsNext b at next → IsTraced b from next
  traced_next b from at next t more =
      let step = more.2 t.number t.here t.live in
      record {
        number = more.0;
        here = more.1;
        live = elim step [ inl direct ↦ direct.1 | inr across ↦ across.need.1 ];
        led = λ n index. elim (t.led n index) [
          | inl e ↦ inr (one (subst (λ m. StepsTo (patches_of heads) needs b m more.0) (sym e) step))
          | inr path ↦ inr (join path (one step))
        ];
      }

  -- the head at the other index has its number
  pub traced_end : (b from at : ℕ) (end : ℕ) → IsTraced b from at → HasIndex heads end at → (n : ℕ) → HasIndex heads n from → (n ≡ end) ⊎ Closure (StepsTo (patches_of heads) needs b) n end
  traced_end b from at end t here n index = subst (λ m. (n ≡ m) ⊎ Closure (StepsTo (patches_of heads) needs b) n m) (one_number heads t.number end at t.here here) (t.led n index)
