-- The changes of a block's list that share a byte with a span.
use Rattle.std.proofs.Common.{◌≡◌, ◌⊎◌, ℕ, true, false, List, [], ◌∷◌, ◌++◌, Contains, Some, sym, ap, subst, ◌∙◌, inl, inr}
use Rattle.std.proofs.{lemmas.Bool.false≢true, lemmas.List.Elements.{Contains-append_left, Contains-push, Contains-push_cases}}
use Rattle.fst_types.specs.{Gates.IsOpenNumber, Patches.{Kind, OpenGate, Patch, IsRising, block_of_kind}}
use Rattle.fst_types.proofs.{Crash.same_number, Finite.{In-from_Contains, Contains-from_In}}
use Rattle.fst_heads.specs.{Lists.{Entry, entry, entries_on}, Rows.{shares, IsTouched}}
use Rattle.fst_heads.proofs.Touching.{in_entries, entries_in, touch_entry, entry_touch, touch_parts}
use Rattle.fst_walks.specs.{Descending.Visits, Starting.IsSharing}
use Rattle.fst_walks.proofs.Visiting.{visits_none, visits_both, visits_same}

-- one entry more
module _ (at len : ℕ) (done : List Entry) (e : Entry) where
  still : (n : ℕ) → IsSharing at len done n → IsSharing at len (done ++ e ∷ []) n
  still n s = record { entry = s.entry; listed = Contains-append_left done (e ∷ []) s.entry s.listed; numbered = s.numbered; shared = s.shared }

  pub sharing_cases : (n : ℕ) → IsSharing at len (done ++ e ∷ []) n → IsSharing at len done n ⊎ ((e.number ≡ n) × (shares at len e.at e.len ≡ true))
  sharing_cases n s = elim (Contains-push_cases done e s.entry s.listed) [
    | inl old ↦ inl (record { entry = s.entry; listed = old; numbered = s.numbered; shared = s.shared })
    | inr same ↦ inr (ap (λ x. x.number) same ∙ s.numbered, ap (λ x. shares at len x.at x.len) same ∙ s.shared)
  ]

  pub sharing_more : (P : ℕ → Type 0) (old mid new : List ℕ) → shares at len e.at e.len ≡ true → Visits (λ n. IsSharing at len done n × P n) old mid → Visits (λ n. (n ≡ e.number) × P n) mid new → Visits (λ n. IsSharing at len (done ++ e ∷ []) n × P n) old new
  sharing_more P old mid new shared v w =
      visits_both (λ n. IsSharing at len done n × P n) (λ n. (n ≡ e.number) × P n) (λ n. IsSharing at len (done ++ e ∷ []) n × P n) old mid new
      (λ n k. elim (sharing_cases n k.0) [ inl before ↦ inl (before, k.1) | inr here ↦ inr (sym here.0, k.1) ])
      (λ n k. (still n k.0, k.1))
      (λ n k. (record { entry = e; listed = Contains-push done e; numbered = sym k.0; shared = shared }, k.1))
      v w

  pub sharing_skip : (P : ℕ → Type 0) (old new : List ℕ) → shares at len e.at e.len ≡ false → Visits (λ n. IsSharing at len done n × P n) old new → Visits (λ n. IsSharing at len (done ++ e ∷ []) n × P n) old new
  sharing_skip P old new none v =
      visits_same (λ n. IsSharing at len done n × P n) (λ n. IsSharing at len (done ++ e ∷ []) n × P n) old new
      (λ n k. (still n k.0, k.1))
      (λ n k. elim (sharing_cases n k.0) [ inl before ↦ (before, k.1) | inr here ↦ absurd (false≢true (sym none ∙ here.1)) ])
      v

pub sharing_none : (P : ℕ → Type 0) (at len : ℕ) (queue : List ℕ) → Visits (λ n. IsSharing at len [] n × P n) queue queue
sharing_none P at len queue = visits_none (λ n. IsSharing at len [] n × P n) queue (λ n k. absurd (In-from_Contains [] k.0.entry k.0.listed))

-- a gate is not touched
pub touched_no_gate : (heads : List Patch) (b at len : ℕ) (gate n : ℕ) → IsRising heads → IsOpenNumber heads gate → IsTouched heads b at len n → n ≡ gate → ⊥
touched_no_gate heads b at len gate n rising o t e =
    let same = same_number heads t.patch o.patch rising t.head o.head (t.numbered ∙ (e ∙ sym o.numbered)) in
    gate_on t.patch.kind (ap (λ x. x.kind) same ∙ o.is_open) (touch_parts b at len t.patch.kind t.patch.place t.shares).1
  where
    gate_on : (k : Kind) → k ≡ OpenGate → block_of_kind k ≡ Some b → ⊥
    gate_on k f g = cc

-- in the whole list of a block they are what a new change touches
module _ (heads : List Patch) (b at len : ℕ) (entries : List Entry) (listed : entries ≡ entries_on b heads) (n : ℕ) where
  pub sharing_touched : IsSharing at len entries n → IsTouched heads b at len n
  sharing_touched s =
      let l = entries_in b heads s.entry (In-from_Contains (entries_on b heads) s.entry (subst (λ es. Contains es s.entry) listed s.listed)) in
      record {
        patch = l.patch;
        head = Contains-from_In heads l.patch l.head;
        numbered = ap (λ f. f.number) l.same ∙ s.numbered;
        shares = entry_touch b at len l.patch.kind l.patch.place l.live (subst (λ f. shares at len f.at f.len ≡ true) (sym l.same) s.shared);
      }

  pub touched_sharing : IsTouched heads b at len n → IsSharing at len entries n
  touched_sharing t =
      let k = touch_entry b at len t.patch.kind t.patch.place t.shares in
      record {
        entry = entry t.patch;
        listed = subst (λ es. Contains es (entry t.patch)) (sym listed) (Contains-from_In (entries_on b heads) (entry t.patch) (in_entries b heads t.patch (In-from_Contains heads t.patch t.head) k.0));
        numbered = t.numbered;
        shared = k.1;
      }
