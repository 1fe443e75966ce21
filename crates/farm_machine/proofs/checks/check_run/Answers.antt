use Rattle.std.proofs.Common.{inl, inr, ℕ, List, Some, None, length, refl, sym, ap, ◌∙◌, subst}
use Rattle.std.proofs.lemmas.Bool.{false≢true}
use Rattle.std.proofs.lemmas.List.{take_all}
use Rattle.slot_table.specs.declared.calls.CallEntry.{CallEntry}
use Rattle.slot_table.specs.History.{state_after}
use Rattle.farm_machine.specs.CheckRuns.{AreSound, AreUsedUp}
use Rattle.farm_machine.specs.Farm.{wanted}
use Rattle.farm_machine.specs.Reading.{unread}
use Rattle.farm_machine.proofs.Answering.{IsAnswer, agrees-only, breaks-only, falls-only, drawn-all, next-last, sound-end, broken-with}
use Rattle.farm_machine.proofs.checks.check_run.Goals as goal
use Rattle.farm_machine.proofs.checks.check_run.Goals.{else-slots-limits-via-then-slots-limits+else-are_used_up}
use Rattle.farm_machine.proofs.checks.check_run.Goals.{else-slots-limits-via-else-slots-limits}

-- a call isn't legal or doesn't follow
broke : (c : goal.In-None) → IsAnswer c.args.limits.now (unread c.args.reports.now) (wanted c.args.limits.now) c.args.calls.now
    (Some c.loop-place.place)
broke c =
    let l = c.args.limits.now in
    let r = unread c.args.reports.now in
    let list = c.as_slice-list.result.now in
    let inv = c.loop-place.invariant in
    subst (λ (es : List CallEntry). IsAnswer l r (wanted l) es (Some c.loop-place.place)) c.as_slice-list.ensures
    (inl record {
      below = c.loop-place-test.true;
      before = inv.2;
      broken = broken-with l _ r c.loop-place.place list _ inv.0 c.loop-place-test.true (c.in-None.ensures.none refl);
    })

pub returns-in-None-clause-agrees : goal.returns-in-None-clause-agrees
returns-in-None-clause-agrees c =
    agrees-only c.args.limits.now (unread c.args.reports.now) (wanted c.args.limits.now) c.args.calls.now (Some c.loop-place.place)
    (broke c)

pub returns-in-None-clause-broken : goal.returns-in-None-clause-broken
returns-in-None-clause-broken c =
    breaks-only c.args.limits.now (unread c.args.reports.now) (wanted c.args.limits.now) c.args.calls.now (Some c.loop-place.place)
    (broke c)

pub returns-in-None-clause-short : goal.returns-in-None-clause-short
returns-in-None-clause-short c =
    falls-only c.args.limits.now (unread c.args.reports.now) (wanted c.args.limits.now) c.args.calls.now (Some c.loop-place.place) (broke c)

-- the calls agree
agreed : (c : goal.Then-are_used_up)
    → IsAnswer c.args.limits.now (unread c.args.reports.now) (wanted c.args.limits.now) c.args.calls.now None
agreed c =
    let l = c.args.limits.now in
    let r = unread c.args.reports.now in
    let list = c.as_slice-list.result.now in
    let inv = c.loop-place.invariant in
    let sound : AreSound l r (wanted l) list = sound-end l r (wanted l) c.loop-place.place list c.loop-place-test.false inv.2 in
    let last = ap (λ (es : List CallEntry). (state_after l es).next) (take_all c.loop-place.place list c.loop-place-test.false) in
    subst (λ (es : List CallEntry). IsAnswer l r (wanted l) es None) c.as_slice-list.ensures record {
      legal = sound.legal;
      follow = sound.follow;
      drawn = drawn-all l list sound.legal (sym last ∙ sym (ap (λ s. s.next) inv.1) ∙ c.if-slots-limits.true);
      used = subst (λ (n : ℕ). AreUsedUp n r list) c.requires.one (c.are_used_up.ensures.0 c.if-are_used_up.true);
    }

pub returns-then-are_used_up-clause-agrees : goal.returns-then-are_used_up-clause-agrees
returns-then-are_used_up-clause-agrees c =
    agrees-only c.args.limits.now (unread c.args.reports.now) (wanted c.args.limits.now) c.args.calls.now None (agreed c)

pub returns-then-are_used_up-clause-broken : goal.returns-then-are_used_up-clause-broken
returns-then-are_used_up-clause-broken c =
    breaks-only c.args.limits.now (unread c.args.reports.now) (wanted c.args.limits.now) c.args.calls.now None (agreed c)

pub returns-then-are_used_up-clause-short : goal.returns-then-are_used_up-clause-short
returns-then-are_used_up-clause-short c =
    falls-only c.args.limits.now (unread c.args.reports.now) (wanted c.args.limits.now) c.args.calls.now None (agreed c)

-- a job wasn't drawn, or a slot event is left over
fell-short : (c : goal.Joined-else-slots-limits)
    → IsAnswer c.args.limits.now (unread c.args.reports.now) (wanted c.args.limits.now) c.args.calls.now
    (Some (length c.as_slice-list.result.now))
fell-short c =
    let l = c.args.limits.now in
    let r = unread c.args.reports.now in
    let list = c.as_slice-list.result.now in
    let inv = c.loop-place.invariant in
    let sound : AreSound l r (wanted l) list = sound-end l r (wanted l) c.loop-place.place list c.loop-place-test.false inv.2 in
    let last = ap (λ (es : List CallEntry). (state_after l es).next) (take_all c.loop-place.place list c.loop-place-test.false) in
    subst (λ (es : List CallEntry). IsAnswer l r (wanted l) es (Some (length list))) c.as_slice-list.ensures (inr (
      refl,
      record {
        sound = sound;
        short = λ both. elim c.else-slots-limits.branch [
          | else-slots-limits-via-then-slots-limits+else-are_used_up w ↦
              false≢true (sym w.if-are_used_up.false
              ∙ w.are_used_up.ensures.1 (subst (λ (n : ℕ). AreUsedUp n r list) (sym c.requires.one) both.1))
          | else-slots-limits-via-else-slots-limits w ↦
              w.if-slots-limits.false (ap (λ s. s.next) inv.1 ∙ last ∙ next-last l list sound.legal both.0)
        ];
      },
    ))

pub returns-else-slots-limits-clause-agrees : goal.returns-else-slots-limits-clause-agrees
returns-else-slots-limits-clause-agrees c =
    agrees-only c.args.limits.now (unread c.args.reports.now) (wanted c.args.limits.now) c.args.calls.now
    (Some (length c.as_slice-list.result.now)) (fell-short c)

pub returns-else-slots-limits-clause-broken : goal.returns-else-slots-limits-clause-broken
returns-else-slots-limits-clause-broken c =
    breaks-only c.args.limits.now (unread c.args.reports.now) (wanted c.args.limits.now) c.args.calls.now
    (Some (length c.as_slice-list.result.now)) (fell-short c)

pub returns-else-slots-limits-clause-short : goal.returns-else-slots-limits-clause-short
returns-else-slots-limits-clause-short c =
    falls-only c.args.limits.now (unread c.args.reports.now) (wanted c.args.limits.now) c.args.calls.now
    (Some (length c.as_slice-list.result.now)) (fell-short c)
