-- What the accounts are to their callers.
use Rattle.fst_cache.specs.Views.{CacheView}

-- the cache in which they are kept
pub record AccountsView : Type 0 where
  pub cache : CacheView

-- those that a cache keeps
abbrev pub kept_in : CacheView → AccountsView
kept_in c = record { cache = c }
