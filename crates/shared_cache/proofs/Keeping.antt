-- What a book is after an entry was put.
use Rattle.std.proofs.Common.{◌≡◌, ℕ, List, Bool, true, false, inl, ap, subst}
use Rattle.std.specs.Bool.{MatchBool}
use Rattle.object_cache.specs.Entries.{Entry, size_of}
use Rattle.use_order.specs.Orders.{Ordered, put_front, front_within, same_name}
use Rattle.shared_cache.specs.Books.{SharedView, Keeps}

-- the entry is in front
abbrev pub after_put : List ℕ → Entry → Ordered Entry → Ordered Entry
after_put digest entry order =
    record { bound = order.bound; items = front_within size_of order.bound (put_front same_name digest entry order.items) }

-- an entry that was put is kept
pub put_keeps : (put : Bool) (digest : List ℕ) (entry : Entry) (order new : Ordered Entry) (unkept : ℕ) (old : SharedView) → put ≡ true
    → MatchBool put (new ≡ after_put digest entry order) (new ≡ order) → record { order = order; unkept = unkept } ≡ old
    → Keeps digest entry old (record { order = new; unkept = unkept })
put_keeps true digest entry order new unkept old done is same =
    subst (λ book. Keeps digest entry book (record { order = new; unkept = unkept })) same
    (inl (ap (λ o. record { order = o; unkept = unkept }) is))
put_keeps false digest entry order new unkept old done is same = absurd (cc done)
