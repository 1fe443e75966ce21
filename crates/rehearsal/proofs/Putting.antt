-- The put of a job, as its report's events name it.
use Rattle.std.proofs.Common.{◌≡◌, ℕ, suc, ◌-◌, length, List, [], ◌∷◌, ◌++◌, Some, refl, sym, ap, ◌∙◌, arith}
use Rattle.std.specs.Prelude.{slice_get}
use Rattle.edge_traits.specs.declared.entries.Put.{Put}
use Rattle.edge_traits.specs.Deeds.{put}
use Rattle.farm_machine.specs.declared.reports.Event.{Event}
use Rattle.farm_machine.specs.declared.reports.Event.TheVariants.{Ran, Fetched, Exchanged, Put as PutAt, Took, Gave, GaveBad, Down}
use Rattle.farm_machine.specs.declared.reports.Event.TheVariants.{TookLocal, GaveLocal}
use Rattle.farm_machine.specs.Acts.{Act, Did, Entries, Reads, ReadsAll}
use Rattle.rehearsal.specs.Counts.{put_place, named_put, last_put}

-- the last of some events, behind another one
last_later : (e f : Event) (events : List Event) → last_put (e ∷ f ∷ events) ≡ last_put (f ∷ events)
last_later e f events = ap (λ k. named_put (slice_get (e ∷ f ∷ events) k))
    (let step : length (e ∷ f ∷ events) - 1 ≡ suc (length (f ∷ events) - 1) = omega arith in step)

-- an event that reads as a put
record ReadsPut (es : Entries) (e : Event) (x : Put) : Type 0 where
  place : ℕ
  named : put_place e ≡ Some place
  there : slice_get es.puts place ≡ Some x

reads_put : (es : Entries) (e : Event) (x : Put) → Reads es e (Did (put x)) → ReadsPut es e x
reads_put es (PutAt at) x (y, there, is) =
    record { place = at; named = refl; there = there ∙ ap (λ (z : Put). Some z) (let same : y ≡ x = cc in same) }
reads_put es (Ran at) x (y, there, is) = absurd (cc)
reads_put es (Fetched at) x (y, there, is) = absurd (cc)
reads_put es (Exchanged at) x (y, there, is) = absurd (cc)
reads_put es (Took host) x is = absurd (cc)
reads_put es (Gave host) x is = absurd (cc)
reads_put es (GaveBad host until) x is = absurd (cc)
reads_put es Down x is = absurd (cc)
reads_put es TookLocal x is = absurd (cc)
reads_put es GaveLocal x is = absurd (cc)

-- the last act is a put: the last event names its entry
pub record NamesPut (es : Entries) (events : List Event) (x : Put) : Type 0 where
  pub place : ℕ
  pub named : last_put events ≡ Some place
  pub there : slice_get es.puts place ≡ Some x

pub names-put : (es : Entries) (events : List Event) (before : List Act) (x : Put) → ReadsAll es events (before ++ Did (put x) ∷ [])
    → NamesPut es events x
names-put es [] [] x h = absurd h
names-put es [] (a ∷ before) x h = absurd h
names-put es (e ∷ []) [] x (r, rest) = let is = reads_put es e x r in record { place = is.place; named = is.named; there = is.there }
names-put es (e ∷ f ∷ events) [] x (r, rest) = absurd rest
names-put es (e ∷ []) (a ∷ []) x (r, rest) = absurd rest
names-put es (e ∷ []) (a ∷ b ∷ before) x (r, rest) = absurd rest
names-put es (e ∷ f ∷ events) (a ∷ before) x (r, rest) = let is = names-put es (f ∷ events) before x rest in
    record { place = is.place; named = last_later e f events ∙ is.named; there = is.there }

-- an event that names a put reads as one
abbrev IsPut : Act → Type 0
IsPut a = (x : Put) × (a ≡ Did (put x))

put_read : (es : Entries) (e : Event) (a : Act) (place : ℕ) → Reads es e a → put_place e ≡ Some place → IsPut a
put_read es (PutAt at) a place (y, there, is) named = (y, is)
put_read es (Ran at) a place r named = absurd (cc named)
put_read es (Fetched at) a place r named = absurd (cc named)
put_read es (Exchanged at) a place r named = absurd (cc named)
put_read es (Took host) a place r named = absurd (cc named)
put_read es (Gave host) a place r named = absurd (cc named)
put_read es (GaveBad host until) a place r named = absurd (cc named)
put_read es Down a place r named = absurd (cc named)
put_read es TookLocal a place r named = absurd (cc named)
put_read es GaveLocal a place r named = absurd (cc named)

-- the last event names a put: the last act is one
pub record EndsPut (acts : List Act) : Type 0 where
  pub before : List Act
  pub file : Put
  pub is : acts ≡ before ++ Did (put file) ∷ []

pub ends-put : (es : Entries) (events : List Event) (acts : List Act) (place : ℕ) → ReadsAll es events acts
    → last_put events ≡ Some place → EndsPut acts
ends-put es [] acts place h named = absurd (cc named)
ends-put es (e ∷ []) [] place h named = absurd h
ends-put es (e ∷ []) (a ∷ b ∷ acts) place (r, rest) named = absurd rest
ends-put es (e ∷ []) (a ∷ []) place (r, rest) named = let is = put_read es e a place r named in
    record { before = []; file = is.0; is = ap (λ (b : Act). b ∷ []) is.1 }
ends-put es (e ∷ f ∷ events) [] place h named = absurd h
ends-put es (e ∷ f ∷ events) (a ∷ acts) place (r, rest) named =
    let is = ends-put es (f ∷ events) acts place rest (sym (last_later e f events) ∙ named) in
    record { before = a ∷ is.before; file = is.file; is = ap (λ (bs : List Act). a ∷ bs) is.is }
