-- What the proofs of this crate cite of std, from one place: numbers, tests and lists. It declares nothing.
pub use Rattle.std.proofs.lemmas.Grind.{common_steps, reverse_onto}
pub use Rattle.smallvec.specs.SmallVec.{HasRoomFor, SmallVec}
pub use Rattle.std.proofs.Common.{ℕ, List, [], ◌∷◌, ◌++◌, map, ◌≡◌, ◌≢◌, zero, suc, get_or, set, refl, sym, ◌∙◌, arith, eq-eqb, ne_eqb, ◌⊎◌, ◌↔◌, ◌<◌}
pub use Rattle.std.proofs.Common.{true, false, length, AllPairs, Contains, ap, subst, inl, inr, ◌+◌, ◌-◌, ◌≤◌, ◌==◌, Bool, cond, if◌then◌else◌, filter, count_by, ◌&&◌, ◌||◌, not, get_or-set_same}
pub use Rattle.std.proofs.Common.{get_or-set_other, length-set, eqb-true, Some, eqb, None, ◌*◌, mul-add, mul-le-mul, MatchBool, take, append_assoc, append-nil, length-append, lit≤, drop, Result, Ok, Err, is_ok, insert, nat_cmp, find, All, take-append-drop, add-mul, mul_comm, mul_left_comm, ◌/◌, mul-div_cancel}
pub use Rattle.std.proofs.Common.{is_some, IfNone, IfSome, Option, reverse, nat_lt, vec_len, vec_capacity, take_all, option_map, rules, Vec, Global, IfOk}
pub use Rattle.std.proofs.Math.Bool.{or-false, or-true, and-false, and-true}
pub use Rattle.std.proofs.Math.Nat.{min-le_left, min-le_right, le-max_left, le-max_right}
pub use Rattle.std.proofs.lemmas.Bool.{cond_both, cases_Bool, or_parts, cases_eq, and_parts, and_right, false≢true, cases_lt, eqb-false, not-true, or_cases, cond-true, cond-false, cases_order, and_from, both_ways, false_from_ne_true, not_from_false}
pub use Rattle.std.proofs.lemmas.Bool.Decides.{nat_tests}
pub use Rattle.std.proofs.lemmas.List.{drop_all, take_more_set, take-set-le, drop-set, drop-set-lt, length-take, length-drop, map-append, map-id, length-map, get_or-map, take_more, set-get_or, length_push, drop_more, map-set, get_or_append_left, nil_from_length, map_push}
pub use Rattle.std.proofs.lemmas.List.Edits.{length-insert, get_or-insert_below, get_or-insert_at, get_or-insert_above, length-between, get_or-between}
pub use Rattle.std.proofs.lemmas.List.Elements.{All-contains, All-head, All-tail, All-push, All-filter, All-map, All-set, All-weaker, Contains-push_cases, Contains-append_left, Contains-append_right, Contains-push, Contains-get_or, filter-append, Contains-append_cases}
pub use Rattle.std.proofs.lemmas.List.Folds.{list_any-from_Any, Any-from_list_any}
pub use Rattle.std.proofs.lemmas.List.Kept.{AllPairs-from_increasing, AllPairs-filter, AllPairs-cons}
pub use Rattle.std.proofs.lemmas.List.Sorted.{searched, IsPermutation-insert, IsPermutation-sym, Contains-permutation, answers_always}
pub use Rattle.std.proofs.lemmas.List.Sums.{count_by-le-length, length-filter, sum_by-cons, sum_by-append, sum_by-set, get_or-le-sum_by}
pub use Rattle.std.specs.List.{items_where_true, list_any}
pub use Rattle.std.specs.List.Sorted.{IsStrictlyIncreasing, IsBinarySearchResult, IsNonDecreasingBy, IsSearchInRange}
pub use Rattle.std.specs.Ordering.{ordering_index}
