-- What is outstanding after a take, and after the give of what was taken.
use Rattle.std.proofs.Common.{◌≡◌, ℕ, Bool, true, ◌||◌, cond, List, [], ◌∷◌, ◌++◌, Option, Some, None, is_some, ap, ◌∙◌}
use Rattle.slot_table.specs.declared.calls.CallEntry.{CallEntry}
use Rattle.slot_table.specs.declared.mask.Mask.{Mask}
use Rattle.slot_table.specs.declared.grant.Take.{Take}
use Rattle.slot_table.specs.declared.grant.Take.TheVariants.{Got, Full, Down}
use Rattle.slot_table.specs.declared.grant.LocalGrant.{LocalGrant}
use Rattle.slot_table.specs.declared.calls.SlotCall.TheVariants.{Take as AskTake, TakeLocal}
use Rattle.slot_table.specs.declared.calls.SlotReply.TheVariants.{Local}
use Rattle.slot_table.specs.Grants.{host_of, reply_of, IsGrantFor, IsOutstanding, IsLocalGrantFor, IsLocalOutstanding}
use Rattle.slot_table.specs.History.{entry, Holding, holding, has, without, outstanding, outstanding_then}
use Rattle.slot_table.proofs.Holdings.{holding_eq-refl}
use Rattle.slot_table.proofs.Histories.{outstanding_from-append}

pub outstanding-more : (old new : List CallEntry) (e : CallEntry) → new ≡ old ++ e ∷ []
    → outstanding new ≡ outstanding_then (outstanding old) e
outstanding-more old new e is = ap outstanding is ∙ outstanding_from-append [] old (e ∷ [])

-- what was taken last is outstanding
pub has-first : (a : Holding) (held : List Holding) → has a (a ∷ held) ≡ true
has-first a held = ap (λ (b : Bool). b || has a held) (holding_eq-refl a)

-- and after its give the others are
pub without-first : (a : Holding) (held : List Holding) → without a (a ∷ held) ≡ held
without-first a held = ap (λ (b : Bool). cond b held (a ∷ without a held)) (holding_eq-refl a)

-- a grant that a take answers is outstanding
pub is-outstanding : (t : Take) (caller job : ℕ) (mask : Mask) (now : ℕ) (old new : List CallEntry) → IsGrantFor caller job t
    → new ≡ old ++ entry caller (AskTake job mask now) (reply_of t) ∷ [] → IsOutstanding caller (outstanding new) t
is-outstanding (Got g) caller job mask now old new grant is =
    let a : Holding = holding caller job (Some (host_of g)) in
    ap (λ (j : ℕ). has (holding caller j (Some (host_of g))) (outstanding new)) grant.1
    ∙ ap (has a) (outstanding-more old new (entry caller (AskTake job mask now) (reply_of (Got g))) is) ∙ has-first a (outstanding old)
is-outstanding Full caller job mask now old new grant is = tt
is-outstanding Down caller job mask now old new grant is = tt

pub is-local_outstanding : (t : Option LocalGrant) (caller job : ℕ) (old new : List CallEntry) → IsLocalGrantFor caller job t
    → new ≡ old ++ entry caller (TakeLocal job) (Local (is_some t)) ∷ [] → IsLocalOutstanding caller (outstanding new) t
is-local_outstanding (Some g) caller job old new grant is =
    let a : Holding = holding caller job None in
    ap (λ (j : ℕ). has (holding caller j None) (outstanding new)) grant.1
    ∙ ap (has a) (outstanding-more old new (entry caller (TakeLocal job) (Local true)) is) ∙ has-first a (outstanding old)
is-local_outstanding None caller job old new grant is = tt
