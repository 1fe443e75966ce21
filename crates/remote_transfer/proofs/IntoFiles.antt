-- The object of a reply on its way into a file.
use Rattle.std.proofs.Common.{inl, inr, ◌≡◌, ℕ, ◌+◌, ◌<◌, ◌≤◌, List, [], ◌++◌, length, refl, sym, subst, ◌∙◌, arith, append-nil}
use Rattle.std.proofs.Common.{length-append, rules}
use Rattle.std.specs.Prelude.{◌≢◌, ◌⊎◌, Result, Ok, Err, IfOk, IfErr, Option, Some, None, IsSome}
use Rattle.edge_traits.specs.Keepers.{PendingPut, KeeperView, IsIdle, IsPending, IsPutOf, HasPending}
use Rattle.edge_traits.specs.Causes.{Still}
use Rattle.edge_traits.proofs.ToldLemmas.{Grew-then}
use Rattle.edge_traits.proofs.Putting.{is-there}
use Rattle.edge_traits.specs.Links.{LinkView}
use Rattle.edge_traits.specs.Told.{Told}
use Rattle.edge_traits.specs.declared.entries.Exchange.{Exchange}
use Rattle.reply_stream.specs.Reader.{Place, IsAt}
use Rattle.reply_stream.specs.Objects.{with_object, object_so_far}
use Rattle.farm_types.specs.declared.ran.Outcome.{Outcome}
use Rattle.edge_traits.specs.declared.cause.Cause.TheVariants.{Dial, Send, Recv, Truncated, BadReply, Stopped}
use Rattle.remote_transfer.specs.declared.answers.Landing.{Landing}
use Rattle.remote_transfer.specs.declared.answers.Stop.{Stop}
use Rattle.remote_transfer.specs.declared.answers.Stop.TheVariants.{Broke, Memory}
use Rattle.edge_traits.specs.declared.sending.SendFault.{SendFault}
use Rattle.edge_traits.specs.declared.sending.SendFault.TheVariants as sends
use Rattle.remote_transfer.specs.Answers.{answer_of, landed_of, stop_of}
use Rattle.remote_transfer.specs.Attempts.{Adds, DialCause}
use Rattle.remote_transfer.specs.declared.landing.ObjectState.{ObjectState}
use Rattle.remote_transfer.specs.declared.landing.ObjectState.TheVariants.{Waiting, Begun, Lost}
use Rattle.remote_transfer.specs.Links.{ReplyIs}
use Rattle.remote_transfer.specs.Pieces.{PieceRead, PieceStops}
use Rattle.remote_transfer.specs.Landings.{KeeperStays, LandsAt, attempt_of, Lands, LandedCause, IsUnasked, IsLanding, paired}
use Rattle.remote_transfer.specs.Landings.{received_of, LandsOr, ReceivedInto}
use Rattle.remote_transfer.specs.Landings.{HasBytes, RisesBehind, RisesByPuts, StopsBehind}
use Rattle.remote_transfer.proofs.ByPieces.{Receiving, receiving-begins, receiving-more, receiving-whole, receiving-memory, receiving-stops}

pub stays-same : (keeper : KeeperView) → KeeperStays keeper keeper
stays-same keeper = record {
  files = record { known = λ k. k; became = λ k. refl };
  puts = record { known = λ k. k; grew = λ k. sym (append-nil keeper.puts.value) };
  fetches = record { known = λ k. k; grew = λ k. sym (append-nil keeper.fetches.value) };
  overruns = refl;
  faults = omega arith;
}

pub stays-then : (old mid new : KeeperView) → KeeperStays old mid → KeeperStays mid new → KeeperStays old new
stays-then old mid new first second = record {
  files = record {
    known = λ k. first.files.known (second.files.known k);
    became = λ k. second.files.became k
        ∙ first.files.became (second.files.known k);
  };
  puts = Grew-then first.puts second.puts;
  fetches = Grew-then first.fetches second.fetches;
  overruns = second.overruns ∙ first.overruns;
  faults = omega (arith, first.faults, second.faults);
}

of_put : (put : Option PendingPut) → IsSome put → (path : List ℕ) × (bytes : List ℕ) × IsPutOf path bytes put
of_put (Some put) some = (put.path, put.bytes.value, (refl, λ k. refl))
of_put None some = absurd (search rules)

-- a put that is pending still is after more bytes
pub still-pending : (old new : KeeperView) (piece : List ℕ) → IsPending old
    → ((path bytes : List ℕ) → HasPending old path bytes → HasPending new path (bytes ++ piece)) → IsPending new
still-pending old new piece pending added =
    let z = of_put old.pending pending in
    is-there new z.0 (z.1 ++ piece) (added z.0 z.1 z.2)

-- The object's bytes so far have come as far as the state says.
pub record ReceivingInto (old now : LinkView) (place : Place) (have : ℕ) (state : ObjectState) (path : List ℕ)
    (before keeper : KeeperView) : Type 0 where
  pub object : List ℕ
  pub receiving : Receiving old now place have object
  pub so_far : object ≡ object_so_far receiving.text
  pub lands : LandsAt state path object before.faults keeper

-- nothing was given
none-so-far : [] ≡ object_so_far []
unfolding object_so_far
none-so-far = refl

pub into-begins : (link : LinkView) (place : Place) (path : List ℕ) (keeper : KeeperView) → IsAt place [] [] → IsIdle keeper
    → ReceivingInto link link place 0 Waiting path keeper keeper
unfolding receiving-begins
into-begins link place path keeper at idle =
    record { object = []; receiving = receiving-begins link place at; so_far = none-so-far; lands = (idle, refl, refl) }

-- a count that stands still may stand for the one before it
pub lands-after : (result : Result ObjectState Stop) (path bytes : List ℕ) (before mid : ℕ) (now : KeeperView) → mid ≡ before
    → IfOk result (λ next. LandsAt next path bytes mid now) → IfOk result (λ next. LandsAt next path bytes before now)
lands-after result path bytes before mid now same at = subst (λ (m : ℕ). IfOk result (λ next. LandsAt next path bytes m now)) same at

-- more bytes
pub land-begun : (state : ObjectState) (path object bytes : List ℕ) (before : ℕ) (old new : KeeperView)
    (result : Result ObjectState Stop) → state ≡ Begun
    → ((path object : List ℕ) → HasPending old path object → IfOk result (λ next. LandsAt next path (object ++ bytes) old.faults new))
    → LandsAt state path object before old → IfOk result (λ next. LandsAt next path (object ++ bytes) before new)
land-begun state path object bytes before old new result is lands at =
    let here : LandsAt Begun path object before old = subst (λ (c : ObjectState). LandsAt c path object before old) is at in
    lands-after result path (object ++ bytes) before old.faults new here.1 (lands path object here.0)

-- some bytes more are some
pub longer : (object bytes : List ℕ) → 0 < length bytes → 0 < length (object ++ bytes)
longer object bytes some = omega (arith, length-append object bytes, some)

-- ---- the answer of an attempt that lands its object

-- the keeper wasn't asked
pub never-asked : (fault : SendFault) (keeper : KeeperView) → IsUnasked (landed_of (Err (stop_of fault))) keeper keeper
never-asked sends.Failed keeper = refl
never-asked sends.Stopped keeper = refl
never-asked sends.Memory keeper = tt

-- behind a request that was sent whole it may have been
pub maybe-asked : (talked : Result (Outcome × Landing) Stop) (object : List ℕ) (old new : LinkView) (given : List ℕ)
    (before now : KeeperView) → ReplyIs (received_of talked object) old new given → IsUnasked (landed_of talked) before now
maybe-asked (Ok received) object old new given before now is = tt
maybe-asked (Err (Broke Dial)) object old new given before now is = absurd is
maybe-asked (Err (Broke Send)) object old new given before now is = absurd is
maybe-asked (Err (Broke Recv)) object old new given before now is = tt
maybe-asked (Err (Broke (Truncated have))) object old new given before now is = tt
maybe-asked (Err (Broke (BadReply at fault))) object old new given before now is = tt
maybe-asked (Err (Broke Stopped)) object old new given before now is = absurd is
maybe-asked (Err Memory) object old new given before now is = tt

pub same-answer : (talked : Result (Outcome × Landing) Stop) (object : List ℕ)
    → answer_of (received_of talked object) ≡ attempt_of (landed_of talked) object
same-answer (Ok received) object = refl
same-answer (Err (Broke cause)) object = refl
same-answer (Err Memory) object = refl

pub lands-answer : (talked : Result (Outcome × Landing) Stop) (path object : List ℕ) (before : ℕ) (now : KeeperView)
    → LandsOr talked path object before now → Lands (landed_of talked) path object before now
lands-answer (Ok received) path object before now lands = lands
lands-answer (Err (Broke cause)) path object before now lands = lands
lands-answer (Err Memory) path object before now lands = lands

pub landed-cause : (talked : Result (Outcome × Landing) Stop) (object : List ℕ) (before now : ℕ)
    → DialCause (answer_of (received_of talked object)) before now → LandedCause (landed_of talked) before now
landed-cause (Ok received) object before now cause = cause
landed-cause (Err (Broke Dial)) object before now cause = cause
landed-cause (Err (Broke Send)) object before now cause = cause
landed-cause (Err (Broke Recv)) object before now cause = cause
landed-cause (Err (Broke (Truncated have))) object before now cause = cause
landed-cause (Err (Broke (BadReply at fault))) object before now cause = cause
landed-cause (Err (Broke Stopped)) object before now cause = cause
landed-cause (Err Memory) object before now cause = cause

-- what the entry of a link says of the keeper's count
pub rises-answer : (may : List ℕ → List ℕ → Type 0) (talked : Result (Outcome × Landing) Stop) (old new : Told (List Exchange))
    (before now : ℕ)
    → Adds may old new (λ x. RisesBehind (landed_of talked) x.given before now) → RisesByPuts may (landed_of talked) old new before now
rises-answer may (Ok received) old new before now added = added
rises-answer may (Err (Broke Dial)) old new before now added = tt
rises-answer may (Err (Broke Send)) old new before now added = added
rises-answer may (Err (Broke Recv)) old new before now added = added
rises-answer may (Err (Broke (Truncated have))) old new before now added = added
rises-answer may (Err (Broke (BadReply at fault))) old new before now added = added
rises-answer may (Err (Broke Stopped)) old new before now added = added
rises-answer may (Err Memory) old new before now added = added

-- nothing was given, and the keeper wasn't asked
pub rises-none : (stop : Stop) (given : List ℕ) (before : ℕ) → RisesBehind (landed_of (Err stop)) given before before
rises-none (Broke cause) given before = inl refl
rises-none Memory given before = inl refl

-- a put that was pending is given up, and where none was the count stands still
pub rises-then : (stop : Stop) (given : List ℕ) (before : ℕ) (mid new : KeeperView) → StopsBehind stop given before mid
    → (IsIdle mid → Still mid.faults new.faults) → RisesBehind (landed_of (Err stop)) given before new.faults
rises-then (Broke cause) given before mid new stops still = elim stops [
  | inl none ↦ inl (still none.0 ∙ none.1)
  | inr came ↦ inr came
]
rises-then Memory given before mid new stops still = elim stops [
  | inl none ↦ inl (still none.0 ∙ none.1)
  | inr came ↦ inr came
]

-- ---- an object that is received

-- a put was begun only with some bytes
begun-with : (state : ObjectState) (path object : List ℕ) (before : ℕ) (now : KeeperView) → LandsAt state path object before now
    → (IsIdle now × Still before now.faults) ⊎ (0 < length object)
begun-with Waiting path object before now lands = inl (lands.0, lands.2)
begun-with Begun path object before now lands = inr lands.2
begun-with Lost path object before now lands = inr lands.2

-- the bytes so far came with a front of what was given
came : {old mid : LinkView} {reader : Place} {have : ℕ} (state : ObjectState) (path : List ℕ) (before keeper : KeeperView)
    (into : ReceivingInto old mid reader have state path before keeper) (given rest : List ℕ) → given ≡ into.receiving.text ++ rest
    → (IsIdle keeper × Still before.faults keeper.faults) ⊎ HasBytes given
came state path before keeper into given rest parts = elim (begun-with state path into.object before.faults keeper into.lands) [
  | inl none ↦ inl none
  | inr some ↦ inr (record {
    front = into.receiving.text;
    rest = rest;
    parts = parts;
    short = into.receiving.short;
    some = subst (λ (bytes : List ℕ). 0 < length bytes) into.so_far some;
  })
]

stops-behind : (old mid new : LinkView) (reader : Place) (have : ℕ) (state : ObjectState) (path : List ℕ)
    (before keeper : KeeperView) (stop : Stop)
    (into : ReceivingInto old mid reader have state path before keeper) (stops : PieceStops have reader mid new stop)
    → StopsBehind stop (receiving-stops old mid new reader have into.object stop into.receiving stops).bytes before.faults keeper
unfolding receiving-stops receiving-memory
stops-behind old mid new reader have state path before keeper (Broke Dial) into stops = absurd stops
stops-behind old mid new reader have state path before keeper (Broke Send) into stops = absurd stops
stops-behind old mid new reader have state path before keeper (Broke Recv) into stops =
    came state path before keeper into into.receiving.text [] (sym (append-nil into.receiving.text))
stops-behind old mid new reader have state path before keeper (Broke (Truncated bytes)) into stops =
    came state path before keeper into into.receiving.text [] (sym (append-nil into.receiving.text))
stops-behind old mid new reader have state path before keeper (Broke (BadReply at fault)) into stops =
    came state path before keeper into (into.receiving.text ++ stops.0.0) stops.0.0 refl
stops-behind old mid new reader have state path before keeper (Broke Stopped) into stops = absurd stops
stops-behind old mid new reader have state path before keeper Memory into stops =
    elim (came state path before keeper into (into.receiving.text ++ stops.0.0) stops.0.0 refl) [
      | inl none ↦ inl none
      | inr some ↦ inr (inl some)
    ]

pub into-stops : (old mid new : LinkView) (reader : Place) (have : ℕ) (state : ObjectState) (path : List ℕ)
    (before keeper : KeeperView) (stop : Stop)
    → ReceivingInto old mid reader have state path before keeper → PieceStops have reader mid new stop
    → ReceivedInto (Err stop) path old new before keeper
into-stops old mid new reader have state path before keeper stop into stops = record {
  object = into.object;
  given = receiving-stops old mid new reader have into.object stop into.receiving stops;
  lands = stops-behind old mid new reader have state path before keeper stop into stops;
}

-- some bytes came, and there was no memory for their put
pub into-memory : (old mid new : LinkView) (reader next : Place) (have : ℕ) (state : ObjectState) (path : List ℕ)
    (before keeper after : KeeperView)
    (count : ℕ) (bytes : List ℕ) → ReceivingInto old mid reader have state path before keeper
    → PieceRead mid new reader next count bytes None
    → 0 < length bytes → ReceivedInto (Err Memory) path old new before after
unfolding receiving-memory
into-memory old mid new reader next have state path before keeper after count bytes into p some =
    let r = into.receiving in
    let z = p.read r.text into.object r.at in
    record {
      object = into.object;
      given = receiving-memory old mid new p.piece reader have into.object r p.grew p.ended p.still;
      lands = inr (inl (record {
        front = r.text ++ p.piece;
        rest = [];
        parts = sym (append-nil (r.text ++ p.piece));
        short = z.0;
        some = subst (λ (so_far : List ℕ). 0 < length so_far) z.2 (longer into.object bytes some);
      }));
    }

pub into-more : (old mid new : LinkView) (reader next : Place) (have : ℕ) (state further : ObjectState) (path : List ℕ)
    (before keeper after : KeeperView) (count : ℕ) (bytes : List ℕ) → ReceivingInto old mid reader have state path before keeper
    → before.faults ≤ keeper.faults → PieceRead mid new reader next count bytes None
    → ((object : List ℕ) (since : ℕ) → since ≤ keeper.faults → LandsAt state path object since keeper
    → LandsAt further path (object ++ bytes) since after)
    → ReceivingInto old new next (have + count) further path before after
unfolding receiving-more
into-more old mid new reader next have state further path before keeper after count bytes into later p lands = record {
  object = into.object ++ bytes;
  receiving = receiving-more old mid new reader next have count into.object bytes into.receiving p;
  so_far = (p.read into.receiving.text into.object into.receiving.at).2;
  lands = lands into.object before.faults later into.lands;
}

pub into-last : (old mid new : LinkView) (reader next : Place) (have : ℕ) (state : ObjectState) (path : List ℕ)
    (before keeper after : KeeperView) (count : ℕ) (bytes : List ℕ) (o : Outcome) (landed : Result Landing Stop)
    → ReceivingInto old mid reader have state path before keeper → before.faults ≤ keeper.faults
    → PieceRead mid new reader next count bytes (Some o)
    → ((object : List ℕ) (since : ℕ) → since ≤ keeper.faults → LandsAt state path object since keeper
    → (o.status ≢ 0 → object ++ bytes ≡ []) → IfOk landed (λ landing. IsLanding landing o path (object ++ bytes) since after))
    → IfErr landed (λ stop. stop ≡ Memory) → ReceivedInto (paired o landed) path old new before after
unfolding receiving-memory
into-last old mid new reader next have state path before keeper after count bytes o (Ok _) into later p lands memory =
    let w = receiving-whole old mid new reader next have count into.object bytes o into.receiving p in
    let spelled = w.1.is.0.1.spelled in
    record {
      object = into.object ++ bytes;
      given = w.1;
      lands = (w.0, lands into.object before.faults later into.lands spelled.fits.failure);
    }
into-last old mid new reader next have state path before keeper after count bytes o (Err stop) into later p lands memory =
    let r = into.receiving in
    let z = p.read r.text into.object r.at in
    let wanted : ReceivedInto (Err Memory) path old new before after = record {
      object = into.object;
      given = receiving-memory old mid new p.piece reader have into.object r p.grew p.ended p.still;
      lands = inr (inr (z.1.0, with_object o (into.object ++ bytes), z.1.1));
    } in
    subst (λ (s : Stop). ReceivedInto (Err s) path old new before after) (sym memory) wanted
