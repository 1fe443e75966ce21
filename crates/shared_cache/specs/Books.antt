-- The book that stations share, and what its calls do to it.
use Rattle.std.specs.Prelude.{◌≡◌, ◌⊎◌, ℕ, List, [], Option}
use Rattle.std.specs.Map.{lookup, remove_entry}
use Rattle.edge_traits.specs.Calls.{one_more}
use Rattle.object_cache.specs.Entries.{Entry, size_of}
use Rattle.use_order.specs.Orders.{Ordered, Items, used, put_front, front_within, same_name}

-- the entries under the digests of their runs, the latest used first, the most bytes that they have, and how many runs couldn't
-- be kept
pub record SharedView : Type 0 where
  pub order : Ordered Entry
  pub unkept : ℕ

abbrev pub new_book : ℕ → SharedView
new_book bound = record { order = record { bound = bound; items = [] }; unkept = 0 }

-- the entry under a digest, if there is one
abbrev pub entry_named : List ℕ → SharedView → Option Entry
entry_named digest book = lookup (same_name digest) book.order.items

abbrev pub with_items : SharedView → Items Entry → SharedView
with_items book items = record { order = record { bound = book.order.bound; items = items }; unkept = book.unkept }

-- the entry of the digest is the latest used
abbrev pub after_use : List ℕ → SharedView → SharedView
after_use digest book = with_items book (used (same_name digest) book.order.items)

-- The entry is the latest used, in place of one of its digest. Then entries are dropped from the end until all are within the bound.
abbrev pub after_keep : List ℕ → Entry → SharedView → SharedView
after_keep digest entry book =
    with_items book (front_within size_of book.order.bound (put_front same_name digest entry book.order.items))

-- an entry was left out, since memory ran out
abbrev pub after_unkept : SharedView → SharedView
after_unkept book = record { order = book.order; unkept = one_more book.unkept }

-- there is no entry of the digest
abbrev pub after_forget : List ℕ → SharedView → SharedView
after_forget digest book = with_items book (remove_entry (same_name digest) book.order.items)

-- what is done with an entry: it is kept, or left out
abbrev pub Keeps : List ℕ → Entry → SharedView → SharedView → Type 0
Keeps digest entry old new = (new ≡ after_keep digest entry old) ⊎ (new ≡ after_unkept old)
